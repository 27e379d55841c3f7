-- The weights under replacement, of every base.
use Rattle.std.specs.Prelude.{◌≡◌, ℕ, ◌+◌, ◌-◌, ◌<◌, ◌≤◌, true, false, List, length, sum_by, sum, slice_index_or}
use Rattle.std.proofs.Math.Path.{sym, ap, subst}
use Rattle.std.proofs.Common.{◌∙◌, arith}
use Rattle.std.proofs.Math.Logic.{⊎_elim}
use Rattle.std.specs.List.{range_with_len}
use Rattle.std.proofs.lemmas.Bool.{cases_Bool, cases_eq, cond-true, cond-false, eqb-false, not-true}
use Rattle.std.proofs.lemmas.Bool.Decides.{nat_tests}
use Rattle.prorating.specs.Weights.{limit}
use Rattle.payers.specs.Bases.{is_company, weight_of, Based}
use Rattle.payers.specs.Replacements.{participant_of, is_replaced, is_substitute, TakesPart, part_moved, weight_moved, moved, Moves}
use Rattle.payers.specs.CompaniesLemmas.{by_company_long, by_company_weight, by_company_sum, weights_sum}
use Rattle.payers.specs.Runs.{sum_same, sum_zero, sum_next, sum_within, only, only_there, only_elsewhere, only_small, sum_only, sum_exchange}
use Rattle.payers.specs.Substitutes.{only_itself, takes_part_itself}

module _ (ps ws : List ℕ) where
  pub moved_weight : (company : ℕ) → is_company company ≡ true → weight_of (moved ps ws) company ≡ weight_moved ps ws company
  moved_weight company there = by_company_weight (weight_moved ps ws) company there

  -- a sum over the first companies, with one company more
  pub part_next : (company k : ℕ) → sum_by (part_moved ps ws company) (range_with_len 1 (k + 1)) ≡ sum_by (part_moved ps ws company) (range_with_len 1 k) + part_moved ps ws company (k + 1)
  part_next company k = sum_next (part_moved ps ws company) 1 k (k + 1) (omega arith)

  -- such a sum is at most the total
  pub part_small : length ws ≡ 32 → (company k : ℕ) → k ≤ 32 → sum_by (part_moved ps ws company) (range_with_len 1 k) ≤ sum ws
  part_small long company k few =
      subst (λ total. sum_by (part_moved ps ws company) (range_with_len 1 k) ≤ total) (weights_sum ws long)
      (sum_within (part_moved ps ws company) (weight_of ws) 1 k 32 few (λ one. only_small (participant_of ps one) (weight_of ws one) company))

  -- and over all of them
  pub part_all : (company k weight : ℕ) → is_company company ≡ true → k ≡ 32 → weight ≡ sum_by (part_moved ps ws company) (range_with_len 1 k) → weight ≡ weight_of (moved ps ws) company
  unfolding weight_moved
  part_all company k weight there all is =
      is ∙ ap (λ n. sum_by (part_moved ps ws company) (range_with_len 1 n)) all ∙ sym (moved_weight company there)

module _ (ps : List ℕ) (each : (k : ℕ) → k < 32 → TakesPart ps k) where
  -- the one that takes part for a company
  participant_low : (one : ℕ) → 1 ≤ one → one < 33 → 1 ≤ participant_of ps one
  participant_low one low high = let there = (each (one - 1) (omega arith)).0 in grind (arith, nat_tests)

  participant_high : (one : ℕ) → 1 ≤ one → one < 33 → participant_of ps one < 33
  participant_high one low high = let there = (each (one - 1) (omega arith)).0 in grind (arith, nat_tests)

  participant_own : (one : ℕ) → 1 ≤ one → one < 33 → participant_of ps (participant_of ps one) ≡ participant_of ps one
  participant_own one low high =
      let company : is_company one ≡ true = grind (arith, nat_tests) in
      let here : participant_of ps one ≡ slice_index_or ps (one - 1) 0 = cond-true _ _ 0 company in
      ap (participant_of ps) here ∙ (each (one - 1) (omega arith)).1 ∙ sym here

  -- the weights of a base that replacement is laid over
  module _ (ws : List ℕ) (long : length ws ≡ 32) where
    moved_total : sum (moved ps ws) ≡ sum ws
    unfolding weight_moved
    moved_total =
        by_company_sum (weight_moved ps ws)
        ∙ sum_exchange (part_moved ps ws) (range_with_len 1 32) (range_with_len 1 32)
        ∙ sum_same (λ one. sum_by (λ company. part_moved ps ws company one) (range_with_len 1 32)) (weight_of ws) 1 32
        (λ one low high. sum_only (participant_of ps one) (weight_of ws one) 1 32 (participant_low one low high) (participant_high one low high))
        ∙ weights_sum ws long

    pub moved_based : sum ws ≤ limit → Based (moved ps ws)
    moved_based light = record { long = by_company_long (weight_moved ps ws); light = omega (arith, moved_total) }

    -- a replaced company takes part for nobody
    replaced_none : (company : ℕ) → is_replaced ps company ≡ true → weight_moved ps ws company ≡ 0
    unfolding weight_moved is_replaced
    replaced_none company replaced =
        sum_same (part_moved ps ws company) (λ _. 0) 1 32
        (λ one low high. only_elsewhere (participant_of ps one) (weight_of ws one) company
        (λ takes. eqb-false (participant_of ps company) company (not-true _ replaced) (subst (λ p. participant_of ps p ≡ p) takes (participant_own one low high))))
        ∙ sum_zero (range_with_len 1 32)

    -- one that takes part for itself alone
    apart_same : (company : ℕ) → is_company company ≡ true → is_replaced ps company ≡ false → is_substitute ps company ≡ false → weight_moved ps ws company ≡ weight_of ws company
    unfolding weight_moved
    apart_same company there own alone =
        let itself = takes_part_itself ps company own in
        sum_same (part_moved ps ws company) (only company (weight_of ws company)) 1 32
        (λ one low high. ⊎_elim
        (λ same.
        let takes : participant_of ps one ≡ company = subst (λ x. participant_of ps x ≡ company) same itself in
        only_there (participant_of ps one) (weight_of ws one) company takes ∙ ap (weight_of ws) (sym same) ∙ sym (only_there company (weight_of ws company) one same))
        (λ other.
        only_elsewhere (participant_of ps one) (weight_of ws one) company (λ takes. other (sym (only_itself ps company alone one low high takes)))
        ∙ sym (only_elsewhere company (weight_of ws company) one other))
        (cases_eq company one))
        ∙ sum_only company (weight_of ws company) 1 32 (grind (arith, nat_tests)) (grind (arith, nat_tests))

    -- a number that is no company's takes part for nobody
    none_moved : (company : ℕ) → is_company company ≡ false → weight_moved ps ws company ≡ 0
    unfolding weight_moved
    none_moved company none =
        sum_same (part_moved ps ws company) (λ _. 0) 1 32
        (λ one low high.
        let l = participant_low one low high in
        let h = participant_high one low high in
        only_elsewhere (participant_of ps one) (weight_of ws one) company (λ takes. grind (arith, nat_tests)))
        ∙ sum_zero (range_with_len 1 32)

    -- what is moved to any number, a company's or not
    pub moved_any : (company : ℕ) → weight_of (moved ps ws) company ≡ weight_moved ps ws company
    moved_any company =
        ⊎_elim
        (λ there. moved_weight ps ws company there)
        (λ none. cond-false (is_company company) _ 0 none ∙ sym (none_moved company none))
        (cases_Bool (is_company company))

    pub moves : Moves ps ws (moved ps ws)
    moves = record {
      total = moved_total;
      taken = moved_weight ps ws;
      replaced = λ company replaced. ⊎_elim
          (λ there. moved_weight ps ws company there ∙ replaced_none company replaced)
          (λ none. cond-false (is_company company) _ 0 none)
          (cases_Bool (is_company company));
      apart = λ company own alone. ⊎_elim
          (λ there. moved_weight ps ws company there ∙ apart_same company there own alone)
          (λ none. cond-false (is_company company) _ 0 none ∙ sym (cond-false (is_company company) _ 0 none))
          (cases_Bool (is_company company));
    }
