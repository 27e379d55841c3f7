-- Who takes part for whom: what the loops over the companies find, and that every replacement keeps those who take part.
use Rattle.std.specs.Prelude.{◌≡◌, ℕ, ◌+◌, ◌-◌, ◌<◌, ◌≤◌, Bool, true, false, cond, not, ◌&&◌, ◌||◌, List, [], ◌∷◌, length, count_by, nat_lt, ◌==◌, ◌≢◌, slice_index, slice_index_or, slice_set}
use Rattle.std.proofs.Math.Path.{refl, sym, ap}
use Rattle.std.proofs.Common.{◌∙◌, ⊎_elim, arith}
use Rattle.std.specs.List.{range_with_len, list_any}
use Rattle.std.proofs.lemmas.List.FromFn.{length-range_with_len, get_or-range_with_len}
use Rattle.std.proofs.lemmas.List.Sums.{sum_by-cons}
use Rattle.std.proofs.lemmas.List.{get_or-set_same, get_or-set_other}
use Rattle.std.proofs.lemmas.Bool.{cases_Bool, cases_eq, cond-true, cond-false, lt-ltb, le-ltb, ltb-false, eqb-true, eqb-false, eq-eqb, ne_eqb, not-false, not_from_true, not_from_false, or_parts, both_ways}
use Rattle.std.proofs.lemmas.Bool.Decides.{nat_tests}
use Rattle.prorating.specs.Counts.{same_places}
use Rattle.payers.specs.Bases.{is_company}
use Rattle.payers.specs.Replacements.{participant_of, is_replaced, takes_part_for, is_substitute, is_barred, TakesPart}
use Rattle.payers.specs.CompaniesLemmas.{weight_next}
use Rattle.payers.specs.Runs.{sum_next, sum_term, sum_same, sum_zero}

-- whether some element passes a test is whether one or more do
pub any_counted : (p : ℕ → Bool) (xs : List ℕ) → list_any p xs ≡ nat_lt 0 (count_by p xs)
any_counted p [] = refl
any_counted p (x ∷ xs) = go (p x) refl (any_counted p xs)
  where
    counted : count_by p (x ∷ xs) ≡ cond (p x) 1 0 + count_by p xs
    counted = sum_by-cons (λ y. cond (p y) 1 0) x xs

    go : (b : Bool) → p x ≡ b → list_any p xs ≡ nat_lt 0 (count_by p xs) → (b || list_any p xs) ≡ nat_lt 0 (count_by p (x ∷ xs))
    go true e rest = sym (lt-ltb _ _ (omega (arith, counted, ap (λ b. cond {A = ℕ} b 1 0) e)))
    go false e rest = rest ∙ ap (nat_lt 0) (omega (arith, counted, ap (λ b. cond {A = ℕ} b 1 0) e))

-- a company that takes part for none of the first k, nor for the next
pub substitute_next : (ps : List ℕ) (company k : ℕ) → count_by (takes_part_for ps company) (range_with_len 1 k) ≡ 0 → takes_part_for ps company (k + 1) ≡ false → count_by (takes_part_for ps company) (range_with_len 1 (k + 1)) ≡ 0
substitute_next ps company k none next =
    omega (arith, sum_next (λ other. cond (takes_part_for ps company other) 1 0) 1 k (k + 1) (omega arith), cond-false {A = ℕ} (takes_part_for ps company (k + 1)) 1 0 next)

-- a company that takes part for one other
pub substitute_some : (ps : List ℕ) (company k : ℕ) → k < 32 → takes_part_for ps company (k + 1) ≡ true → is_substitute ps company ≡ true
unfolding is_substitute
substitute_some ps company k inside found =
    lt-ltb _ _ (omega (arith, sum_term (λ other. cond (takes_part_for ps company other) 1 0) 1 32 (k + 1) (omega arith) (omega arith), cond-true {A = ℕ} (takes_part_for ps company (k + 1)) 1 0 found))

-- and one that takes part for no other
pub substitute_none : (ps : List ℕ) (company : ℕ) → count_by (takes_part_for ps company) (range_with_len 1 32) ≡ 0 → is_substitute ps company ≡ false
unfolding is_substitute
substitute_none ps company none = le-ltb _ _ (omega arith)

pub only_itself : (ps : List ℕ) (company : ℕ) → is_substitute ps company ≡ false → (other : ℕ) → 1 ≤ other → other < 33 → participant_of ps other ≡ company → other ≡ company
unfolding is_substitute
only_itself ps company none other low high takes =
    let count = ltb-false _ _ none in
    let term = sum_term (λ other. cond (takes_part_for ps company other) 1 0) 1 32 other low high in
    grind (arith, nat_tests)

-- where nobody is replaced
module _ (ps : List ℕ) (long : length ps ≡ 32) (each : (k : ℕ) → k < 32 → slice_index ps k ≡ k + 1) where
  pub own_all : ps ≡ range_with_len 1 32
  own_all =
      same_places ps (range_with_len 1 32) 32 long (length-range_with_len 1 32)
      (λ k h. each k h ∙ sym (get_or-range_with_len 1 32 k 0 h ∙ omega arith))

  pub own_takes_part : (k : ℕ) → k < 32 → TakesPart ps k
  own_takes_part k h =
      let here = each k h in
      let company : is_company (k + 1) ≡ true = grind (arith, nat_tests) in
      rw here (company, weight_next ps k h ∙ here)

-- a company that is not replaced takes part for itself
pub takes_part_itself : (ps : List ℕ) (company : ℕ) → is_replaced ps company ≡ false → participant_of ps company ≡ company
unfolding is_replaced
takes_part_itself ps company own = eqb-true _ _ (not-false _ own)

-- nobody but itself has it take part
pub substitute_of_none : (ps : List ℕ) (company : ℕ) → ((other : ℕ) → 1 ≤ other → other < 33 → participant_of ps other ≡ company → other ≡ company) → is_substitute ps company ≡ false
unfolding is_substitute
substitute_of_none ps company only =
    le-ltb _ _
    (omega (
      arith,
      sum_same (λ other. cond (takes_part_for ps company other) 1 0) (λ _. 0) 1 32
          (λ other low high. cond-false {A = ℕ} (takes_part_for ps company other) 1 0 (elsewhere other low high (participant_of ps other == company) refl)),
      sum_zero (range_with_len 1 32),
    ))
  where
    elsewhere : (other : ℕ) → 1 ≤ other → other < 33 → (t : Bool) → (participant_of ps other == company) ≡ t → (t && not (other == company)) ≡ false
    elsewhere other low high true e = not_from_true _ (eq-eqb other company (only other low high (eqb-true _ _ e)))
    elsewhere other low high false e = refl

-- a replacement that is admitted
module _ (ps : List ℕ) (long : length ps ≡ 32) (each : (k : ℕ) → k < 32 → TakesPart ps k) (old new : ℕ) (is_old : is_company old ≡ true) (is_new : is_company new ≡ true) (free : false ≡ is_barred ps old new) where
  differ : old ≡ new → ⊥
  differ same = both_ways (old == new) (or_parts _ _ (or_parts _ _ (or_parts _ _ (sym free)).0).0).0 (eq-eqb old new same)

  old_alone : is_substitute ps old ≡ false
  old_alone = (or_parts _ _ (sym free)).1

  new_itself : participant_of ps new ≡ new
  new_itself = takes_part_itself ps new (or_parts _ _ (or_parts _ _ (sym free)).0).1

  other_stays : (company : ℕ) → (company ≢ old) → participant_of (slice_set ps (old - 1) new) company ≡ participant_of ps company
  other_stays company apart =
      ⊎_elim
      (λ there. cond-true _ _ 0 there ∙ get_or-set_other ps (old - 1) (company - 1) new 0 (λ e. apart (grind (arith, nat_tests))) ∙ sym (cond-true _ _ 0 there))
      (λ none. cond-false _ _ 0 none ∙ sym (cond-false _ _ 0 none))
      (cases_Bool (is_company company))

  pub replaced_takes_part : (k : ℕ) → k < 32 → TakesPart (slice_set ps (old - 1) new) k
  replaced_takes_part k h =
      let inside : old - 1 < length ps = grind (arith, nat_tests) in
      ⊎_elim
      (λ same.
      let here : slice_index_or (slice_set ps (old - 1) new) k 0 ≡ new = rw same (get_or-set_same ps (old - 1) new 0 inside) in
      rw here (is_new, other_stays new (λ e. differ (sym e)) ∙ new_itself))
      (λ apart.
      let here : slice_index_or (slice_set ps (old - 1) new) k 0 ≡ slice_index_or ps k 0 = get_or-set_other ps (old - 1) k new 0 apart in
      let before = each k h in
      let kept : slice_index_or ps k 0 ≡ old → ⊥ = λ e. apart (let o : k + 1 ≡ old = only_itself ps old old_alone (k + 1) (omega arith) (omega arith) (weight_next ps k h ∙ e) in omega arith) in
      rw here (before.0, other_stays (slice_index ps k) kept ∙ before.1))
      (cases_eq k (old - 1))

  old_itself : participant_of ps old ≡ old
  old_itself = takes_part_itself ps old (or_parts _ _ (or_parts _ _ (or_parts _ _ (sym free)).0).0).1

  old_moves : participant_of (slice_set ps (old - 1) new) old ≡ new
  old_moves =
      let inside : old - 1 < length ps = grind (arith, nat_tests) in
      cond-true _ _ 0 is_old ∙ get_or-set_same ps (old - 1) new 0 inside

  -- what is said of each company afterwards
  pub participant_after : (company : ℕ) → participant_of (slice_set ps (old - 1) new) company ≡ cond (old == company) new (participant_of ps company)
  participant_after company = go (old == company) refl
    where
      go : (t : Bool) → (old == company) ≡ t → participant_of (slice_set ps (old - 1) new) company ≡ cond t new (participant_of ps company)
      go true e = ap (participant_of (slice_set ps (old - 1) new)) (sym (eqb-true old company e)) ∙ old_moves
      go false e = other_stays company (λ same. eqb-false old company e (sym same))

  pub replaced_after : (company : ℕ) → is_replaced (slice_set ps (old - 1) new) company ≡ (old == company || is_replaced ps company)
  unfolding is_replaced
  replaced_after company = go (old == company) refl
    where
      go : (t : Bool) → (old == company) ≡ t → not (participant_of (slice_set ps (old - 1) new) company == company) ≡ (t || not (participant_of ps company == company))
      go true e =
          not_from_false _ (ne_eqb _ _ (λ moved. differ (eqb-true old company e ∙ sym moved ∙ ap (participant_of (slice_set ps (old - 1) new)) (sym (eqb-true old company e)) ∙ old_moves)))
      go false e = ap (λ p. not (p == company)) (other_stays company (λ same. eqb-false old company e (sym same)))

  pub substitute_after : (company : ℕ) → is_substitute (slice_set ps (old - 1) new) company ≡ (new == company || is_substitute ps company)
  substitute_after company = go (new == company) (is_substitute ps company) (is_substitute (slice_set ps (old - 1) new) company) refl refl refl
    where
      before : is_substitute (slice_set ps (old - 1) new) company ≡ false → (other : ℕ) → 1 ≤ other → other < 33 → participant_of ps other ≡ company → other ≡ company
      before alone other low high takes =
          ⊎_elim
          (λ same. same ∙ sym old_itself ∙ ap (participant_of ps) (sym same) ∙ takes)
          (λ apart. only_itself (slice_set ps (old - 1) new) company alone other low high (other_stays other apart ∙ takes))
          (cases_eq other old)

      after : ((new == company) ≡ false) → is_substitute ps company ≡ false → (other : ℕ) → 1 ≤ other → other < 33 → participant_of (slice_set ps (old - 1) new) other ≡ company → other ≡ company
      after another alone other low high takes =
          ⊎_elim
          (λ same. absurd (eqb-false new company another (sym old_moves ∙ ap (participant_of (slice_set ps (old - 1) new)) (sym same) ∙ takes)))
          (λ apart. only_itself ps company alone other low high (sym (other_stays other apart) ∙ takes))
          (cases_eq other old)

      go : (a b t : Bool) → (new == company) ≡ a → is_substitute ps company ≡ b → is_substitute (slice_set ps (old - 1) new) company ≡ t → t ≡ (a || b)
      go true b true ea eb et = refl
      go true b false ea eb et =
          let low : 1 ≤ old = grind (arith, nat_tests) in
          let high : old < 33 = grind (arith, nat_tests) in
          absurd (differ (only_itself (slice_set ps (old - 1) new) company et old low high (old_moves ∙ eqb-true new company ea) ∙ sym (eqb-true new company ea)))
      go false true true ea eb et = refl
      go false true false ea eb et = absurd (both_ways _ (substitute_of_none ps company (before et)) eb)
      go false false t ea eb et = sym et ∙ substitute_of_none (slice_set ps (old - 1) new) company (after ea eb)
