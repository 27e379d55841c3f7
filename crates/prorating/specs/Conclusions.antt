-- What follows from the laws of a rule, for every rule.
use Rattle.std.specs.Prelude.{◌≡◌, ℕ, ◌+◌, ◌<◌, ◌≤◌, List, sum, slice_index}
use Rattle.std.proofs.Common.{sym, ap, subst, ◌∙◌, ⊎_elim, mul-zero, arith}
use Rattle.std.proofs.lemmas.Nat.{mul-le}
use Rattle.std.proofs.lemmas.List.{get_or-replicate}
use Rattle.std.proofs.lemmas.List.Sums.{get_or-le-sum_by}
use Rattle.std.proofs.lemmas.Bool.{cases_Bool, cases_lt, cond-true, cond-false}
use Rattle.std.proofs.lemmas.Bool.Decides.{nat_tests}
use Rattle.prorating.specs.Weights.{Weighed}
use Rattle.prorating.specs.Laws.{Sharing, Nothing, EachNear, Weightless, Keeps, is_shared, amount_shared, Near, Within}
use Rattle.prorating.specs.Counts.{same_places}

-- a share of a pot that is at most the total is at most the weight
near_within : (pot total weight share : ℕ) → pot ≤ total → Near pot total weight share → share ≤ weight
near_within pot total weight share small near =
    ⊎_elim
    (λ (more : weight < share). absurd (omega (arith, near.above, mul-le pot weight total weight small (omega arith), mul-le (weight + 1) total share total (omega arith) (omega arith))))
    (λ less. less)
    (cases_lt weight share)

-- and where it is the total, at least the weight
near_back : (total weight share : ℕ) → Near total total weight share → weight ≤ share
near_back total weight share near =
    ⊎_elim
    (λ (less : share < weight). absurd (omega (arith, near.below, mul-le (share + 1) total weight total (omega arith) (omega arith))))
    (λ more. more)
    (cases_lt share weight)

-- a share of no weight is 0, so `weightless` follows from the laws before it
near_none : (pot total share : ℕ) → Near pot total 0 share → share ≡ 0
near_none pot total share near =
    ⊎_elim
    (λ (more : 0 < share). absurd (omega (arith, near.above, mul-zero pot, mul-le 1 total share total (omega arith) (omega arith))))
    (λ none. omega arith)
    (cases_lt 0 share)

pub weightless_from : (share : Sharing) → Nothing share → EachNear share → Weightless share
weightless_from share nothing near pot ws k w h none =
    ⊎_elim
    (λ shares. near_none pot (sum ws) (slice_index (share pot ws) k) (subst (λ weight. Near pot (sum ws) weight (slice_index (share pot ws) k)) none (near pot ws k w shares h)))
    (λ unshared. ap (λ xs. slice_index xs k) (nothing pot ws w unshared) ∙ get_or-replicate {A = ℕ} 48 k 0 0 h)
    (cases_Bool (is_shared pot ws))

module _ (share : Sharing) (keeps : Keeps share) (pot : ℕ) (ws : List ℕ) (w : Weighed ws) where
  -- the shares come to the pot, or to 0 where nothing is shared
  pub shares_amount : sum (share pot ws) ≡ amount_shared pot ws
  shares_amount =
      ⊎_elim
      (λ shares. keeps.whole pot ws w shares ∙ sym (cond-true (is_shared pot ws) pot 0 shares))
      (λ none. ap sum (keeps.nothing pot ws w none) ∙ sym (cond-false (is_shared pot ws) pot 0 none))
      (cases_Bool (is_shared pot ws))

  -- no share exceeds its weight where the pot is at most the total
  pub shares_within : pot ≤ sum ws → Within (share pot ws) ws
  shares_within small k h =
      ⊎_elim
      (λ shares. near_within pot (sum ws) (slice_index ws k) (slice_index (share pot ws) k) small (keeps.near pot ws k w shares h))
      (λ none. omega (arith, ap (λ xs. slice_index xs k) (keeps.nothing pot ws w none), get_or-replicate {A = ℕ} 48 k 0 0 h))
      (cases_Bool (is_shared pot ws))

  -- weights that total 0 are all 0
  none_light : sum ws ≡ 0 → (k : ℕ) → k < 48 → slice_index ws k ≡ 0
  none_light none k h = omega (arith, get_or-le-sum_by (λ x. x) ws k 0 (omega arith))

  -- a pot equal to the total gives every weight back
  pub shares_back : pot ≡ sum ws → share pot ws ≡ ws
  shares_back all =
      same_places (share pot ws) ws 48 (keeps.long pot ws w) w.long
      (λ k h. ⊎_elim
      (λ shares. omega (arith, shares_within (omega arith) k h, near_back (sum ws) (slice_index ws k) (slice_index (share pot ws) k) (subst (λ p. Near p (sum ws) (slice_index ws k) (slice_index (share pot ws) k)) all (keeps.near pot ws k w shares h))))
      (λ none. omega (arith, shares_within (omega arith) k h, none_light (grind (arith, nat_tests)) k h))
      (cases_Bool (is_shared pot ws)))
