-- The charges of all pots: each pot in full, and all charges together what is credited.
use Rattle.std.proofs.Common.{◌≡◌, ℕ, zero, suc, ◌+◌, ◌-◌, ◌<◌, ◌≤◌, Bool, true, false, cond, eqb, ltb, List, [], ◌∷◌, length, get_or, replicate, Some, None, sum_by, sum, Option, sym, refl, ap, ◌∙◌, subst, ⊎_elim, arith}
use Rattle.std.specs.List.{range_with_len}
use Rattle.std.proofs.lemmas.List.FromFn.{get_or-map-range_with_len}
use Rattle.std.proofs.lemmas.List.Sums.{sum_by-cons}
use Rattle.std.proofs.lemmas.Bool.{cases_lt, cond-true, cond-false, le-leb, lt-ltb, and_from, and_cases, eqb-false, ltb-false, both_ways}
use Rattle.std.proofs.lemmas.Bool.Decides.{nat_tests}
use Rattle.prorating.specs.Laws.{Sharing, Keeps, Near, is_shared}
use Rattle.prorating.specs.Weights.{limit}
use Rattle.payers.specs.Bases.{is_company, Based}
use Rattle.payers.specs.Charges.{charges_of, Charged}
use Rattle.payers.specs.Replacements.{TakesPart, moved}
use Rattle.payers.proofs.Charged.{charges_charged}
use Rattle.payers.specs.CompaniesLemmas.{weights_sum}
use Rattle.payers.specs.Moved.{moves, moved_based}
use Rattle.payers.specs.Runs.{sum_same, sum_zero, sum_exchange}
use Rattle.tables.specs.Accounts.{Pot, pot_at}
use Rattle.numbered.specs.Entries.{is_numbered, entry}
use Rattle.numbered.proofs.Entries.{entry_all}
use Rattle.month.specs.Figures.{charge_at, charge_over}
use Rattle.month.specs.Pots.{charges_by, pot_charges, charged}
use Rattle.month.specs.Seen.{strands}
use Rattle.history.specs.History.{cents_of, weights_of}
use Rattle.history.specs.Law.{PotCharged}

-- sums over numbers from 1, from the front
front : (f : ℕ → ℕ) (a n : ℕ) → sum_by f (range_with_len a (suc n)) ≡ f a + sum_by f (range_with_len (a + 1) n)
front f a n = sum_by-cons f a (range_with_len (a + 1) n)

pot_sum : (pots : List Pot) (a n : ℕ) → length pots ≤ n → sum_by (λ k. cents_of (pot_at pots (k - a))) (range_with_len a n) ≡ sum_by (λ p. p.cents) pots
pot_sum [] a n few = sum_none a n
  where
    sum_none : (a n : ℕ) → sum_by (λ k. cents_of (pot_at [] (k - a))) (range_with_len a n) ≡ 0
    sum_none a n = sum_zero (range_with_len a n)
pot_sum (p ∷ ps) a zero few = absurd (omega arith)
pot_sum (p ∷ ps) a (suc n) few =
    let here : a - a ≡ 0 = omega arith in
    front (λ k. cents_of (pot_at (p ∷ ps) (k - a))) a n
    ∙ ap (λ i. cents_of (pot_at (p ∷ ps) i) + sum_by (λ k. cents_of (pot_at (p ∷ ps) (k - a))) (range_with_len (a + 1) n)) here
    ∙ ap (λ x. p.cents + x) (sum_same (λ k. cents_of (pot_at (p ∷ ps) (k - a))) (λ k. cents_of (pot_at ps (k - (a + 1)))) (a + 1) n (λ k low high. later k low) ∙ pot_sum ps (a + 1) n (omega arith))
    ∙ sym (sum_by-cons (λ (q : Pot). q.cents) p ps)
  where
    later : (k : ℕ) → a + 1 ≤ k → cents_of (pot_at (p ∷ ps) (k - a)) ≡ cents_of (pot_at ps (k - (a + 1)))
    later k low = let next : k - a ≡ suc (k - (a + 1)) = omega arith in ap (λ i. cents_of (pot_at (p ∷ ps) i)) next

module _ (ps : List ℕ) (each : (k : ℕ) → k < 32 → TakesPart ps k) (share : Sharing) (keeps : Keeps share) where
  -- one pot over its weights under replacement
  pub pot_charged : (o : Option Pot) → cents_of o ≤ limit → ((p : Pot) → o ≡ Some p → Based p.weights) → ((p : Pot) → o ≡ Some p → strands p.cents p.weights ≡ false) → PotCharged (cents_of o) (moved ps (weights_of o)) (λ c. entry 32 0 (charges_by share ps o) c)
  pot_charged None light based weighed =
      record {
        whole = sum_same (λ c. entry 32 0 (replicate 32 0) c) (λ _. 0) 1 32 (λ c low high. entry_all 32 32 0 c) ∙ sum_zero (range_with_len 1 32);
        near = λ some. absurd (omega arith);
        weightless = λ c there none. entry_all 32 32 0 c;
      }
  pot_charged (Some p) light based weighed =
      let base = based p refl in
      let ws = moved ps p.weights in
      let ok : Charged p.cents ws (charges_of share p.cents ws) = charges_charged share keeps p.cents ws (moved_based ps each p.weights base.long base.light) in
      let total : sum ws ≡ sum p.weights = (moves ps each p.weights base.long).total in
      record {
        whole = weights_sum (charges_of share p.cents ws) ok.long ∙ ok.whole ∙ amount (is_shared p.cents ws) refl total;
        near = λ some c there. near_at ok total some c there;
        weightless = λ c there none.
            let index : c - 1 < 32 = grind (arith, nat_tests) in
            cond-true _ _ 0 there ∙ ok.weightless (c - 1) index (sym (cond-true _ _ 0 there) ∙ none);
      }
    where
      unshared : (t : ℕ) → t ≡ sum p.weights → 0 < p.cents → 0 < t
      unshared t e some =
          ⊎_elim
          (λ none. absurd (omega (arith, ltb-false 0 p.cents none)))
          (λ (none : eqb (sum p.weights) 0 ≡ false). ⊎_elim (λ (more : 0 < t). more) (λ (least : t ≤ 0). absurd (eqb-false (sum p.weights) 0 none (omega arith))) (cases_lt 0 t))
          (and_cases (ltb 0 p.cents) (eqb (sum p.weights) 0) (weighed p refl))

      shared : sum (moved ps p.weights) ≡ sum p.weights → 0 < p.cents → is_shared p.cents (moved ps p.weights) ≡ true
      shared total some = and_from _ _ (le-leb p.cents limit light) (lt-ltb 0 (sum (moved ps p.weights)) (unshared (sum (moved ps p.weights)) total some))

      amount : (t : Bool) → is_shared p.cents (moved ps p.weights) ≡ t → sum (moved ps p.weights) ≡ sum p.weights → cond (is_shared p.cents (moved ps p.weights)) p.cents 0 ≡ p.cents
      amount true e total = cond-true _ _ _ e
      amount false e total =
          cond-false _ _ _ e
          ∙ ⊎_elim (λ (some : 0 < p.cents). absurd (both_ways _ e (shared total some))) (λ none. omega arith) (cases_lt 0 p.cents)

      near_at : Charged p.cents (moved ps p.weights) (charges_of share p.cents (moved ps p.weights)) → sum (moved ps p.weights) ≡ sum p.weights → 0 < p.cents → (c : ℕ) → is_company c ≡ true → Near p.cents (sum (moved ps p.weights)) (entry 32 0 (moved ps p.weights) c) (entry 32 0 (charges_of share p.cents (moved ps p.weights)) c)
      near_at ok total some c there =
          let index : c - 1 < 32 = grind (arith, nat_tests) in
          subst (λ x. Near p.cents (sum (moved ps p.weights)) x (entry 32 0 (charges_of share p.cents (moved ps p.weights)) c)) (sym (cond-true _ _ 0 there))
          (subst (Near p.cents (sum (moved ps p.weights)) (get_or (moved ps p.weights) (c - 1) 0)) (sym (cond-true _ _ 0 there)) (ok.near (shared total some) (c - 1) index))

  module _ (pots : List Pot) (few : length pots ≤ 19) (light : (k : ℕ) → cents_of (pot_at pots k) ≤ limit) (based : (k : ℕ) (p : Pot) → pot_at pots k ≡ Some p → Based p.weights) (weighed : (k : ℕ) (p : Pot) → pot_at pots k ≡ Some p → strands p.cents p.weights ≡ false) where
    abbrev table : List (List ℕ)
    table = charged share ps pots

    charge_is : (p c : ℕ) → is_numbered 19 p ≡ true → charge_at table c p ≡ entry 32 0 (charges_by share ps (pot_at pots (p - 1))) c
    unfolding charged
    charge_is p c there =
        let index : p - 1 < 19 = grind (arith, nat_tests) in
        ap (λ row. entry 32 0 row c) (cond-true _ _ [] there ∙ get_or-map-range_with_len (pot_charges share ps pots) 0 19 (p - 1) (p - 1) [] index (omega arith))

    pub all_charged : (p : ℕ) → is_numbered 19 p ≡ true → PotCharged (cents_of (pot_at pots (p - 1))) (moved ps (weights_of (pot_at pots (p - 1)))) (λ c. charge_at table c p)
    all_charged p there =
        let one = pot_charged (pot_at pots (p - 1)) (light (p - 1)) (based (p - 1)) (weighed (p - 1)) in
        record {
          whole = sum_same (λ c. charge_at table c p) (λ c. entry 32 0 (charges_by share ps (pot_at pots (p - 1))) c) 1 32 (λ c low high. charge_is p c there) ∙ one.whole;
          near = λ some c company. subst (Near (cents_of (pot_at pots (p - 1))) (sum (moved ps (weights_of (pot_at pots (p - 1))))) (entry 32 0 (moved ps (weights_of (pot_at pots (p - 1)))) c)) (sym (charge_is p c there)) (one.near some c company);
          weightless = λ c company none. charge_is p c there ∙ one.weightless c company none;
        }

    -- all charges are all pots
    pub total_charge : sum_by (charge_over table) (range_with_len 1 32) ≡ sum_by (λ p. p.cents) pots
    unfolding charge_over
    total_charge =
        sum_exchange (λ c p. charge_at table c p) (range_with_len 1 32) (range_with_len 1 19)
        ∙ sum_same (λ p. sum_by (λ c. charge_at table c p) (range_with_len 1 32)) (λ p. cents_of (pot_at pots (p - 1))) 1 19 (λ p low high. (all_charged p (numbered_19 p low high)).whole)
        ∙ pot_sum pots 1 19 few
      where
        numbered_19 : (p : ℕ) → 1 ≤ p → p < 1 + 19 → is_numbered 19 p ≡ true
        numbered_19 p low high = and_from _ _ (le-leb 1 p low) (le-leb p 19 (omega arith))

    -- who has no weight in any pot is charged nothing
    pub nothing_charged : (c : ℕ) → is_company c ≡ true → ((p : ℕ) → entry 32 0 (moved ps (weights_of (pot_at pots (p - 1)))) c ≡ 0) → charge_over table c ≡ 0
    unfolding charge_over
    nothing_charged c company none =
        sum_same (λ p. charge_at table c p) (λ _. 0) 1 19 (λ p low high. (all_charged p (numbered_19 p low high)).weightless c company (none p)) ∙ sum_zero (range_with_len 1 19)
      where
        numbered_19 : (p : ℕ) → 1 ≤ p → p < 1 + 19 → is_numbered 19 p ≡ true
        numbered_19 p low high = and_from _ _ (le-leb 1 p low) (le-leb p 19 (omega arith))
