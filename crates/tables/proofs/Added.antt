-- One unit more.
use Rattle.std.proofs.Common.{◌≡◌, ℕ, Bool, true, false, cond, not, eqb, List, [], ◌∷◌, ◌++◌, is_some, Some, None, Option, sym, refl, ap, ◌∙◌, true≢false}
use Rattle.std.specs.Option.{option_or}
use Rattle.std.proofs.lemmas.Bool.{eqb-false, ne_eqb, and_parts, and_from, not-true}
use Rattle.std.proofs.lemmas.List.Folds.{find-append, list_all-append}
use Rattle.payers.specs.Bases.{is_company}
use Rattle.tables.specs.declared.units.UnitRow.{UnitRow}
use Rattle.tables.specs.Units.{fresh, find, are_owned, are_distinct, is_addable}

pub find_added : (xs : List UnitRow) (r : UnitRow) (v : ℕ) → find (xs ++ r ∷ []) v ≡ option_or (find xs v) (cond (eqb r.number v) (Some r) None)
find_added xs r v = find-append (λ x. eqb x.number v) xs (r ∷ [])

pub is_none : {X : Type 0} (o : Option X) → is_some o ≡ false → o ≡ None
is_none None e = refl
is_none (Some x) e = cc

distinct_added : (xs : List UnitRow) (r : UnitRow) → is_some (find xs r.number) ≡ false → are_distinct xs ≡ true → are_distinct (xs ++ r ∷ []) ≡ true
distinct_added [] r new e = refl
distinct_added (x ∷ xs) r new e = go (eqb x.number r.number) refl new (and_parts _ _ e) (distinct_added xs r)
  where
    go : (t : Bool) → eqb x.number r.number ≡ t → is_some (cond t (Some x) (find xs r.number)) ≡ false → (not (is_some (find xs x.number)) ≡ true) × (are_distinct xs ≡ true) → (is_some (find xs r.number) ≡ false → are_distinct xs ≡ true → are_distinct (xs ++ r ∷ []) ≡ true) → are_distinct (x ∷ (xs ++ r ∷ [])) ≡ true
    go true q new both more = absurd (true≢false new)
    go false q new (other, rest) more =
        and_from _ _
        (ap (λ o. not (is_some o))
        (find_added xs r x.number
        ∙ ap (λ o. option_or o (cond (eqb r.number x.number) (Some r) None)) (is_none (find xs x.number) (not-true _ other))
        ∙ ap (λ t. cond t (Some r) None) (ne_eqb _ _ (λ p. eqb-false _ _ q (sym p)))))
        (more new rest)

-- a table with one unit more is what every table is
pub added_kept : (rows : List UnitRow) (number owner zone : ℕ) → is_addable rows number owner ≡ true → are_owned rows ≡ true → are_distinct rows ≡ true → (are_owned (rows ++ fresh number owner zone ∷ []) ≡ true) × (are_distinct (rows ++ fresh number owner zone ∷ []) ≡ true)
added_kept rows number owner zone told owned once =
    let both = and_parts _ _ told in (
      list_all-append (λ r. is_company r.owner) rows (fresh number owner zone ∷ []) ∙ and_from _ _ owned (and_from _ _ (and_parts _ _ both.1).1 refl),
      distinct_added rows (fresh number owner zone) (not-true _ both.0) once,
    )
