-- The charges of every rule over every base: what a rule's laws say of a weight list whose places after the companies weigh nothing.
use Rattle.std.proofs.Common.{◌≡◌, ℕ, zero, suc, ◌+◌, ◌<◌, ◌≤◌, cond, List, length, get_or, take, drop, replicate, sum, sym, ap, ◌∙◌, ⊎_elim, arith}
use Rattle.std.proofs.lemmas.List.{length-take, length-replicate, get_or-take, get_or_past, get_or-replicate, drop_all}
use Rattle.std.proofs.lemmas.List.Sums.{sum_by-take-drop, sum_by-drop_more}
use Rattle.std.proofs.lemmas.Bool.{cases_lt}
use Rattle.prorating.specs.Weights.{Weighed, padded}
use Rattle.prorating.specs.Laws.{Sharing, Keeps, is_shared}
use Rattle.prorating.specs.Conclusions.{shares_amount}
use Rattle.prorating.specs.Counts.{same_places}
use Rattle.prorating.proofs.Puts.{padded_long, padded_sum, padded_at}
use Rattle.payers.specs.Bases.{Based}
use Rattle.payers.specs.Charges.{charges_of, Charged}

-- what comes after a place is nothing where each entry is 0
rest_none : (xs : List ℕ) (n k : ℕ) → length xs ≤ n + k → ((j : ℕ) → k ≤ j → get_or xs j 0 ≡ 0) → sum (drop k xs) ≡ 0
rest_none xs zero k short each = ap sum (drop_all k xs (omega arith))
rest_none xs (suc n) k short each =
    ⊎_elim
    (λ inside. omega (arith, sum_by-drop_more (λ x. x) xs k 0 inside, each k (omega arith), rest_none xs n (k + 1) (omega arith) (λ j h. each j (omega arith))))
    (λ past. ap sum (drop_all k xs past))
    (cases_lt k (length xs))

-- the charges, as the calls of charging give them
pub charges_meant : (share : Sharing) (pot : ℕ) (ws list shares charges : List ℕ) → list ≡ padded ws → shares ≡ share pot list → charges ≡ take 32 shares → charges ≡ charges_of share pot ws
unfolding charges_of
charges_meant share pot ws list shares charges padding sharing first = cc

module _ (share : Sharing) (keeps : Keeps share) (pot : ℕ) (ws : List ℕ) (based : Based ws) where
  weighed : Weighed (padded ws)
  weighed = record {
    long = padded_long ws (omega (arith, based.long));
    light = omega (arith, padded_sum ws, based.light);
  }

  shares_long : length (share pot (padded ws)) ≡ 48
  shares_long = keeps.long pot (padded ws) weighed

  -- the pot is shared over the list as it is over the base
  same_test : is_shared pot (padded ws) ≡ is_shared pot ws
  same_test = let total = padded_sum ws in rw total

  -- a place after the companies has no share
  rest_share : (j : ℕ) → 32 ≤ j → get_or (share pot (padded ws)) j 0 ≡ 0
  rest_share j after =
      ⊎_elim
      (λ inside. keeps.weightless pot (padded ws) j weighed inside (padded_at ws j ∙ get_or_past ws j 0 (omega (arith, based.long))))
      (λ past. get_or_past (share pot (padded ws)) j 0 (omega (arith, shares_long)))
      (cases_lt j 48)

  charge_at : (k : ℕ) → k < 32 → get_or (charges_of share pot ws) k 0 ≡ get_or (share pot (padded ws)) k 0
  unfolding charges_of
  charge_at k h = get_or-take 32 (share pot (padded ws)) k 0 h

  charges_long : length (charges_of share pot ws) ≡ 32
  unfolding charges_of
  charges_long = omega (arith, length-take 32 (share pot (padded ws)), shares_long)

  charges_sum : sum (charges_of share pot ws) ≡ sum (share pot (padded ws))
  unfolding charges_of
  charges_sum =
      omega (
        arith,
        sum_by-take-drop (λ x. x) (share pot (padded ws)) 32,
        rest_none (share pot (padded ws)) 16 32 (omega (arith, shares_long)) rest_share,
      )

  pub charges_charged : Charged pot ws (charges_of share pot ws)
  charges_charged = record {
    long = charges_long;
    whole = charges_sum ∙ shares_amount share keeps pot (padded ws) weighed ∙ ap (λ b. cond b pot 0) same_test;
    nothing = λ none. same_places (charges_of share pot ws) (replicate 32 0) 32 charges_long (length-replicate {A = ℕ} 32 0)
        (λ k h. charge_at k h
        ∙ ap (λ xs. get_or xs k 0) (keeps.nothing pot (padded ws) weighed (same_test ∙ none))
        ∙ get_or-replicate {A = ℕ} 48 k 0 0 (omega arith) ∙ sym (get_or-replicate {A = ℕ} 32 k 0 0 h));
    near = λ shares k h.
        rw (charge_at k h, ← padded_at ws k, ← padded_sum ws) (keeps.near pot (padded ws) k weighed (same_test ∙ shares) (omega arith));
    weightless = λ k h none. charge_at k h ∙ keeps.weightless pot (padded ws) k weighed (omega arith) (padded_at ws k ∙ none);
  }
