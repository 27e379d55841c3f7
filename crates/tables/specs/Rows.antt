-- The look-up of a unit among the rows.
use Rattle.std.specs.Prelude.{◌≡◌, ℕ, ◌+◌, ◌<◌, ◌≤◌, Bool, true, false, cond, not, ◌&&◌, List, [], ◌∷◌, length, is_some, Some, None, Option, ◌==◌, slice_index_or, slice_set, position, slice_get, refl}
use Rattle.std.specs.List.{position_or_len}
use Rattle.std.proofs.Common.{sym, ap, ◌∙◌, arith}
use Rattle.std.proofs.lemmas.Bool.Decides.{nat_tests}
use Rattle.std.proofs.lemmas.List.{set_past}
use Rattle.std.proofs.lemmas.List.Folds.{find_at}
use Rattle.std.proofs.lemmas.List.Quantifiers.{position-Some}
use Rattle.std.proofs.lemmas.Option.{slice_get_past, slice_get-get_or}
use Rattle.std.proofs.Math.Numerals.{one-add}
use Rattle.std.proofs.lemmas.Bool.{eqb-true, eqb-false, and_parts, and_from}
use Rattle.std.specs.Option.{option_map}
use Rattle.payers.specs.Bases.{is_company}
use Rattle.tables.specs.declared.units.UnitRow.{UnitRow}
use Rattle.tables.specs.Units.{no_row, find, change, are_owned, are_distinct, place, owner_in}

-- Where a unit stands among the rows: at an index, or nowhere.
pub record Stands (rows : List UnitRow) (unit index : ℕ) : Type 0 where
  pub inside : index < length rows
  pub row : find rows unit ≡ Some (slice_index_or rows index no_row)
  pub changed : (f : UnitRow → UnitRow) → slice_set rows index (f (slice_index_or rows index no_row)) ≡ change f rows unit

pub record Absent (rows : List UnitRow) (unit : ℕ) : Type 0 where
  pub row : find rows unit ≡ None
  pub unchanged : (f : UnitRow → UnitRow) → rows ≡ change f rows unit

-- the index of a unit's row, or their number where it has none
abbrev pub seek : List UnitRow → ℕ → ℕ
seek rows u = position_or_len (λ r. r.number == u) rows

change_at : (f : UnitRow → UnitRow) (xs : List UnitRow) (u : ℕ) → slice_set xs (seek xs u) (f (slice_index_or xs (seek xs u) no_row)) ≡ change f xs u
change_at f [] u = refl
change_at f (x ∷ xs) u = go (x.number == u) (change_at f xs u)
  where
    go : (t : Bool) → slice_set xs (seek xs u) (f (slice_index_or xs (seek xs u) no_row)) ≡ change f xs u → slice_set (x ∷ xs) (cond (not t) (1 + seek xs u) 0) (f (slice_index_or (x ∷ xs) (cond (not t) (1 + seek xs u) 0) no_row)) ≡ cond t (f x ∷ xs) (x ∷ change f xs u)
    go true more = refl
    go false more = rw (one-add) (ap (λ ys. x ∷ ys) more)

pub absent : (rows : List UnitRow) (u : ℕ) → position (λ r. r.number == u) rows ≡ None → Absent rows u
absent rows u e =
    let past : length rows ≤ seek rows u = grind (arith, nat_tests) in
    record {
      row = find_at (λ r. r.number == u) rows ∙ slice_get_past rows (seek rows u) past;
      unchanged = λ f. sym (set_past rows (seek rows u) _ past) ∙ change_at f rows u;
    }

pub stands : (rows : List UnitRow) (u i : ℕ) → position (λ r. r.number == u) rows ≡ Some i → Stands rows u i
stands rows u i e =
    let within = position-Some (λ r. r.number == u) rows i no_row e in
    let here : seek rows u ≡ i = grind (arith, nat_tests) in
    record {
      inside = within.0;
      row = find_at (λ r. r.number == u) rows ∙ ap (slice_get rows) here ∙ slice_get-get_or rows i no_row within.0;
      changed = λ f. ap (λ k. slice_set rows k (f (slice_index_or rows k no_row))) (sym here) ∙ change_at f rows u;
    }

some_mapped : (f : UnitRow → UnitRow) (o : Option UnitRow) → is_some (option_map f o) ≡ is_some o
some_mapped f None = refl
some_mapped f (Some r) = refl

-- A change that leaves number and owner keeps what every table keeps, and a look-up sees it.
module _ (f : UnitRow → UnitRow) (number_kept : (r : UnitRow) → (f r).number ≡ r.number) (owner_kept : (r : UnitRow) → (f r).owner ≡ r.owner) where
  pub change_owned : (xs : List UnitRow) (u : ℕ) → are_owned (change f xs u) ≡ are_owned xs
  change_owned [] u = refl
  change_owned (x ∷ xs) u = go (x.number == u) (change_owned xs u)
    where
      go : (t : Bool) → are_owned (change f xs u) ≡ are_owned xs → are_owned (cond t (f x ∷ xs) (x ∷ change f xs u)) ≡ (is_company x.owner && are_owned xs)
      go true more = ap (λ o. is_company o && are_owned xs) (owner_kept x)
      go false more = ap (λ t. is_company x.owner && t) more

  pub find_change : (xs : List UnitRow) (u v : ℕ) → find (change f xs u) v ≡ cond (u == v) (option_map f (find xs u)) (find xs v)
  find_change [] u v = elim (u == v) as (λ t. ◌≡◌ {A = Option UnitRow} None (cond t None None)) [ true ↦ refl | false ↦ refl ]
  find_change (x ∷ xs) u v = go (x.number == u) (x.number == v) (u == v) refl refl refl (find_change xs u v)
    where
      go : (a b t : Bool) → (x.number == u) ≡ a → (x.number == v) ≡ b → (u == v) ≡ t → find (change f xs u) v ≡ cond (u == v) (option_map f (find xs u)) (find xs v) → find (cond a (f x ∷ xs) (x ∷ change f xs u)) v ≡ cond t (option_map f (cond a (Some x) (find xs u))) (cond b (Some x) (find xs v))
      go true true true ea eb et more = ap (λ n. cond (n == v) (Some (f x)) (find xs v)) (number_kept x) ∙ ap (λ t. cond t (Some (f x)) (find xs v)) eb
      go true true false ea eb et more = absurd (eqb-false u v et (sym (eqb-true _ _ ea) ∙ eqb-true _ _ eb))
      go true false true ea eb et more = absurd (eqb-false _ _ eb (eqb-true _ _ ea ∙ eqb-true u v et))
      go true false false ea eb et more = ap (λ n. cond (n == v) (Some (f x)) (find xs v)) (number_kept x) ∙ ap (λ t. cond t (Some (f x)) (find xs v)) eb
      go false true true ea eb et more = absurd (eqb-false _ _ ea (eqb-true _ _ eb ∙ sym (eqb-true u v et)))
      go false true false ea eb et more = ap (λ t. cond t (Some x) (find (change f xs u) v)) eb
      go false false true ea eb et more = ap (λ t. cond t (Some x) (find (change f xs u) v)) eb ∙ more ∙ ap (λ t. cond t (option_map f (find xs u)) (find xs v)) et
      go false false false ea eb et more = ap (λ t. cond t (Some x) (find (change f xs u) v)) eb ∙ more ∙ ap (λ t. cond t (option_map f (find xs u)) (find xs v)) et

  pub change_distinct : (xs : List UnitRow) (u : ℕ) → are_distinct xs ≡ true → are_distinct (change f xs u) ≡ true
  change_distinct [] u e = refl
  change_distinct (x ∷ xs) u e = go (x.number == u) (and_parts _ _ e) (change_distinct xs u)
    where
      still : (v : ℕ) → is_some (find (change f xs u) v) ≡ is_some (find xs v)
      still v = ap is_some (find_change xs u v) ∙ same (u == v) refl
        where
          same : (t : Bool) → (u == v) ≡ t → is_some (cond t (option_map f (find xs u)) (find xs v)) ≡ is_some (find xs v)
          same true e = some_mapped f (find xs u) ∙ ap (λ w. is_some (find xs w)) (eqb-true u v e)
          same false e = refl

      go : (t : Bool) → (not (is_some (find xs x.number)) ≡ true) × (are_distinct xs ≡ true) → (are_distinct xs ≡ true → are_distinct (change f xs u) ≡ true) → are_distinct (cond t (f x ∷ xs) (x ∷ change f xs u)) ≡ true
      go true (new, rest) more = ap (λ n. not (is_some (find xs n)) && are_distinct xs) (number_kept x) ∙ and_from _ _ new rest
      go false (new, rest) more = and_from _ _ (ap not (still x.number) ∙ new) (more rest)

-- A row as another one, but with its own number and owner.
abbrev like : UnitRow → UnitRow → UnitRow
like new r =
    record { number = r.number; owner = r.owner; zone = new.zone; performances = new.performances; installed = new.installed; given = new.given }

-- so does a table where a row has another in its place
pub kept : (rows : List UnitRow) (u i : ℕ) (new : UnitRow) → Stands rows u i → new.number ≡ (slice_index_or rows i no_row).number → new.owner ≡ (slice_index_or rows i no_row).owner → are_owned rows ≡ true → are_distinct rows ≡ true → (are_owned (slice_set rows i new) ≡ true) × (are_distinct (slice_set rows i new) ≡ true)
kept rows u i new there number owner owned once =
    let same : new ≡ like new (slice_index_or rows i no_row) = λ k. record { number = number k; owner = owner k; zone = new.zone; performances = new.performances; installed = new.installed; given = new.given } in
    let now : slice_set rows i new ≡ change (like new) rows u = ap (slice_set rows i) same ∙ there.changed (like new) in (
      ap are_owned now ∙ change_owned (like new) (λ r. refl) (λ r. refl) rows u ∙ owned,
      ap are_distinct now ∙ change_distinct (like new) (λ r. refl) (λ r. refl) rows u once,
    )

-- who is found to own a unit is a company
pub found_company : (xs : List UnitRow) (u : ℕ) (r : UnitRow) → are_owned xs ≡ true → find xs u ≡ Some r → is_company r.owner ≡ true
found_company [] u r all e = let z : ◌≡◌ {A = ℕ} 0 1 = cc in absurd (omega arith)
found_company (x ∷ xs) u r all e = go (x.number == u) (and_parts _ _ all) (found_company xs u r) e
  where
    go : (t : Bool) → (is_company x.owner ≡ true) × (are_owned xs ≡ true) → (are_owned xs ≡ true → find xs u ≡ Some r → is_company r.owner ≡ true) → cond t (Some x) (find xs u) ≡ Some r → is_company r.owner ≡ true
    go true (here, rest) more q = let same : x ≡ r = cc in ap (λ w. is_company w.owner) (sym same) ∙ here
    go false (here, rest) more q = more rest q

pub owner_company : (xs : List UnitRow) → are_owned xs ≡ true → (unit zone c : ℕ) → owner_in (place (find xs unit)) zone ≡ Some c → is_company c ≡ true
owner_company xs all unit zone c e = go (find xs unit) refl e
  where
    go : (o : Option UnitRow) → find xs unit ≡ o → owner_in (place o) zone ≡ Some c → is_company c ≡ true
    go None there q = let z : ◌≡◌ {A = ℕ} 0 1 = cc in absurd (omega arith)
    go (Some r) there q = in_zone (r.zone == zone) q
      where
        in_zone : (t : Bool) → cond t (Some r.owner) None ≡ Some c → is_company c ≡ true
        in_zone true p = let same : r.owner ≡ c = cc in ap is_company (sym same) ∙ found_company xs unit r all there
        in_zone false p = let z : ◌≡◌ {A = ℕ} 0 1 = cc in absurd (omega arith)
