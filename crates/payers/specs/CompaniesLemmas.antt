-- Lists with an entry for each company, by the company's number.
use Rattle.std.specs.Prelude.{◌≡◌, ℕ, ◌+◌, ◌-◌, ◌<◌, ◌≤◌, true, List, map, length, sum_by, sum, slice_index}
use Rattle.std.proofs.Common.{sym, ap, ◌∙◌, ⊎_elim, arith}
use Rattle.std.specs.List.{range_with_len}
use Rattle.numbered.specs.Entries.{with_entry}
use Rattle.std.proofs.lemmas.List.{length-set}
use Rattle.std.proofs.lemmas.List.FromFn.{length-map-range_with_len, get_or-map-range_with_len, fill_by_all}
use Rattle.std.proofs.lemmas.List.Sums.{sum-map, get_or-le-sum_by}
use Rattle.std.proofs.lemmas.Bool.{cases_Bool, cond-true}
use Rattle.std.proofs.lemmas.Bool.Decides.{nat_tests}
use Rattle.prorating.specs.Counts.{same_places}
use Rattle.payers.specs.Bases.{is_company, weight_of}
use Rattle.payers.specs.Companies.{by_company}

-- the company that follows the first k
pub weight_next : (ws : List ℕ) (k : ℕ) → k < 32 → weight_of ws (k + 1) ≡ slice_index ws k
weight_next ws k inside =
    let company : is_company (k + 1) ≡ true = grind (arith, nat_tests) in
    let index : k + 1 - 1 ≡ k = omega arith in
    rw (company, index)

-- all weights, one after the other
pub weights_all : (ws : List ℕ) → length ws ≡ 32 → map (λ k. weight_of ws (k + 1)) (range_with_len 0 32) ≡ ws
weights_all ws long = sym (fill_by_all (λ k. weight_of ws (k + 1)) ws 32 0 long (λ k h. sym (weight_next ws k h)))

-- one weight is at most the total
pub weight_small : (ws : List ℕ) (company : ℕ) → length ws ≡ 32 → weight_of ws company ≤ sum ws
weight_small ws company long =
    ⊎_elim
    (λ there. rw there (get_or-le-sum_by (λ x. x) ws (company - 1) 0 (grind (arith, nat_tests))))
    (λ none. rw none (omega arith))
    (cases_Bool (is_company company))

-- a list with another entry
pub entry_long : (ws : List ℕ) (company entry : ℕ) → length (with_entry 32 ws company entry) ≡ length ws
entry_long ws company entry =
    ⊎_elim
    (λ there. rw there (length-set ws (company - 1) entry))
    (λ none. rw none)
    (cases_Bool (is_company company))

-- a list made from an entry for each company
module _ (f : ℕ → ℕ) where
  pub by_company_long : length (by_company f) ≡ 32
  unfolding by_company
  by_company_long = length-map-range_with_len f 1 32

  pub by_company_at : (k : ℕ) → k < 32 → slice_index (by_company f) k ≡ f (k + 1)
  unfolding by_company
  by_company_at k h = get_or-map-range_with_len f 1 32 k (k + 1) 0 h (omega arith)

  pub by_company_weight : (company : ℕ) → is_company company ≡ true → weight_of (by_company f) company ≡ f company
  unfolding by_company
  by_company_weight company there =
      cond-true (is_company company) _ 0 there
      ∙ get_or-map-range_with_len f 1 32 (company - 1) company 0 (grind (arith, nat_tests)) (grind (arith, nat_tests))

  pub by_company_sum : sum (by_company f) ≡ sum_by f (range_with_len 1 32)
  unfolding by_company
  by_company_sum = sum-map f (range_with_len 1 32)

-- the total, company by company
pub weights_sum : (ws : List ℕ) → length ws ≡ 32 → sum_by (weight_of ws) (range_with_len 1 32) ≡ sum ws
weights_sum ws long =
    sym (by_company_sum (weight_of ws))
    ∙ ap sum (same_places (by_company (weight_of ws)) ws 32 (by_company_long (weight_of ws)) long
    (λ k h. sym (weight_next (by_company (weight_of ws)) k h) ∙ by_company_weight (weight_of ws) (k + 1) (grind (arith, nat_tests)) ∙ weight_next ws k h))
