-- A settled month clears, by the calls alone.
use Rattle.std.proofs.Common.{◌≡◌, ℕ, zero, suc, ◌+◌, ◌-◌, ◌<◌, ◌≤◌, Bool, true, false, ◌&&◌, ◌||◌, List, [], ◌∷◌, map, length, ℤ, pos, ◌+ℤ◌, ◌-ℤ◌, Some, None, fold, sum_by, sum, Option, sym, refl, ap, ◌∙◌, subst, arith}
use Rattle.std.specs.List.{range_with_len}
use Rattle.std.proofs.lemmas.List.FromFn.{map-range_with_len_more}
use Rattle.std.proofs.lemmas.List.{length-replicate}
use Rattle.std.proofs.lemmas.Int.{ints}
use Rattle.std.proofs.lemmas.List.Sums.{sum_by-cons, fold_push}
use Rattle.std.proofs.lemmas.Bool.{or_parts, and_parts}
use Rattle.prorating.specs.Laws.{Sharing, Keeps}
use Rattle.prorating.specs.Weights.{limit}
use Rattle.payers.specs.Bases.{is_company, Based}
use Rattle.payers.specs.Companies.{by_company}
use Rattle.payers.specs.Replacements.{TakesPart, is_replaced, moved}
use Rattle.payers.specs.CompaniesLemmas.{by_company_long, by_company_sum}
use Rattle.payers.specs.Moved.{moves, moved_weight}
use Rattle.payers.specs.Runs.{sum_next}
use Rattle.tables.specs.Accounts.{Pot, pot_at}
use Rattle.numbered.specs.Entries.{entry}
use Rattle.clearing.specs.Clearing.{Clears}
use Rattle.clearing.specs.Payments.{with_payments}
use Rattle.clearing.proofs.Clearing.{clears}
use Rattle.month.specs.Answers.{is_charged}
use Rattle.month.specs.Book.{Book}
use Rattle.month.specs.Figures.{charge_at, charge_over}
use Rattle.month.specs.Meant.{Meant}
use Rattle.month.specs.Pots.{charged}
use Rattle.month.specs.Seen.{strands}
use Rattle.month.specs.Steps.{service_pot, all_pots}
use Rattle.month.proofs.Paying.{dues_light}
use Rattle.history.specs.History.{cents_of, weights_of, withdrawn, injected, replaced, participants, earned, credits, pots, shed_pots, line_pot, installation_pot, credit, charges, charges_by_rule, charge, net, debts, dues}
use Rattle.history.specs.Law.{PotCharged, Settled}
use Rattle.history.proofs.Holds.{Sound, Holds, by_entries, same_participants, same_pots}
use Rattle.history.proofs.Totals.{all_charged, total_charge, nothing_charged}

-- nets are credits less charges
net_sum : (a b : ℕ → ℕ) (n : ℕ) → fold ◌+ℤ◌ (pos 0) (map (λ c. pos (a c) -ℤ pos (b c)) (range_with_len 1 n)) +ℤ pos (sum_by b (range_with_len 1 n)) ≡ pos (sum_by a (range_with_len 1 n))
net_sum a b zero = refl
net_sum a b (suc n) =
    let net : ℕ → ℤ = λ c. pos (a c) -ℤ pos (b c) in
    let next : n + 1 ≡ suc n = omega arith in
    let more : fold ◌+ℤ◌ (pos 0) (map net (range_with_len 1 (n + 1))) ≡ fold ◌+ℤ◌ (pos 0) (map net (range_with_len 1 n)) +ℤ net (n + 1) =
    ap (fold ◌+ℤ◌ (pos 0)) (map-range_with_len_more net 1 n (n + 1) (omega arith)) ∙ fold_push ◌+ℤ◌ (pos 0) (map net (range_with_len 1 n)) (net (n + 1)) in
    let here : fold ◌+ℤ◌ (pos 0) (map net (range_with_len 1 (n + 1))) +ℤ pos (sum_by b (range_with_len 1 (n + 1))) ≡ pos (sum_by a (range_with_len 1 (n + 1))) =
    omega (arith, ints, more, net_sum a b n, sum_next a 1 n (n + 1) (omega arith), sum_next b 1 n (n + 1) (omega arith)) in
    subst (λ m. fold ◌+ℤ◌ (pos 0) (map net (range_with_len 1 m)) +ℤ pos (sum_by b (range_with_len 1 m)) ≡ pos (sum_by a (range_with_len 1 m))) next here

nets_even : (a b : ℕ → ℕ) (n : ℕ) → sum_by b (range_with_len 1 n) ≡ sum_by a (range_with_len 1 n) → fold ◌+ℤ◌ (pos 0) (map (λ c. pos (a c) -ℤ pos (b c)) (range_with_len 1 n)) ≡ pos 0
nets_even a b n even = omega (arith, ints, net_sum a b n, even)

-- debts and dues balance where credits and charges do
monus_sum : (a b : ℕ → ℕ) (n : ℕ) → sum_by (λ c. b c - a c) (range_with_len 1 n) + sum_by a (range_with_len 1 n) ≡ sum_by (λ c. a c - b c) (range_with_len 1 n) + sum_by b (range_with_len 1 n)
monus_sum a b zero = refl
monus_sum a b (suc n) =
    let next : n + 1 ≡ suc n = omega arith in
    let here : sum_by (λ c. b c - a c) (range_with_len 1 (n + 1)) + sum_by a (range_with_len 1 (n + 1)) ≡ sum_by (λ c. a c - b c) (range_with_len 1 (n + 1)) + sum_by b (range_with_len 1 (n + 1)) =
    omega (
      arith,
      monus_sum a b n,
      sum_next (λ c. b c - a c) 1 n (n + 1) (omega arith),
      sum_next a 1 n (n + 1) (omega arith),
      sum_next (λ c. a c - b c) 1 n (n + 1) (omega arith),
      sum_next b 1 n (n + 1) (omega arith),
    ) in
    subst (λ m. sum_by (λ c. b c - a c) (range_with_len 1 m) + sum_by a (range_with_len 1 m) ≡ sum_by (λ c. a c - b c) (range_with_len 1 m) + sum_by b (range_with_len 1 m)) next here

balances_even : (a b : ℕ → ℕ) (n : ℕ) → sum_by b (range_with_len 1 n) ≡ sum_by a (range_with_len 1 n) → sum_by (λ c. b c - a c) (range_with_len 1 n) ≡ sum_by (λ c. a c - b c) (range_with_len 1 n)
balances_even a b n even = omega (arith, monus_sum a b n, even)

three : (a b c : Bool) → (a || (b || (c || false))) ≡ false → (a ≡ false) × (b ≡ false) × (c ≡ false)
three a b c e =
    let one = or_parts a (b || (c || false)) e in
    let two = or_parts b (c || false) one.1 in
    (one.0, two.0, (or_parts c false two.1).0)

-- a pot is no more than all of them
pot_part : (ps : List Pot) (k : ℕ) → cents_of (pot_at ps k) ≤ sum_by (λ p. p.cents) ps
pot_part [] k = omega arith
pot_part (p ∷ ps) zero = omega (arith, sum_by-cons (λ (q : Pot). q.cents) p ps)
pot_part (p ∷ ps) (suc k) = omega (arith, sum_by-cons (λ (q : Pot). q.cents) p ps, pot_part ps k)

module _ {R : Type 0} (share : R → Sharing) (keeps : (r : R) → Keeps (share r)) (h : List (Meant R)) (b : Book) (fit : Sound b) (k : Holds share h b) (settled : is_charged b.phase ≡ true) where
  each : (i : ℕ) → i < 32 → TakesPart (participants h) i
  each = subst (λ ps. (i : ℕ) → i < 32 → TakesPart ps i) (same_participants share h b fit k) fit.takes_part

  same_earned : b.accounts.earned ≡ by_company (earned h)
  same_earned = by_entries b.accounts.earned (earned h) fit.earned k.accounts.earned

  -- what holds of every pot
  few : length (pots h) ≤ 19
  few = subst (λ ps. length ps ≤ 19) (same_pots share h b fit k) (omega (arith, fit.few_pots))

  based : (i : ℕ) (p : Pot) → pot_at (pots h) i ≡ Some p → Based p.weights
  based = subst (λ ps. (i : ℕ) (p : Pot) → pot_at ps i ≡ Some p → Based p.weights) (same_pots share h b fit k) in_book
    where
      in_book : (i : ℕ) (p : Pot) → pot_at (all_pots b) i ≡ Some p → Based p.weights
      in_book zero p e = let same : ◌≡◌ {A = Option Pot} _ (Some p) = e in subst (λ o. Based (weights_of o)) same fit.withdrawals_based
      in_book (suc zero) p e = subst (λ o. Based (weights_of o)) e fit.withdrawals_based
      in_book (suc (suc zero)) p e = subst (λ o. Based (weights_of o)) e fit.injections_based
      in_book (suc (suc (suc i))) p e = fit.pots_based i p e

  services : (strands (service_pot b 1 b.meters.withdrawals).cents b.meters.withdrawals ≡ false) × (strands (service_pot b 2 b.meters.withdrawals).cents b.meters.withdrawals ≡ false) × (strands (service_pot b 3 b.meters.injections).cents b.meters.injections ≡ false)
  services = three _ _ _ (k.services_weighed settled)

  weighed : (i : ℕ) (p : Pot) → pot_at (pots h) i ≡ Some p → strands p.cents p.weights ≡ false
  weighed = subst (λ ps. (i : ℕ) (p : Pot) → pot_at ps i ≡ Some p → strands p.cents p.weights ≡ false) (same_pots share h b fit k) in_book
    where
      in_book : (i : ℕ) (p : Pot) → pot_at (all_pots b) i ≡ Some p → strands p.cents p.weights ≡ false
      in_book zero p e = subst (λ o. strands (cents_of o) (weights_of o) ≡ false) e services.0
      in_book (suc zero) p e = subst (λ o. strands (cents_of o) (weights_of o) ≡ false) e services.1
      in_book (suc (suc zero)) p e = subst (λ o. strands (cents_of o) (weights_of o) ≡ false) e services.2
      in_book (suc (suc (suc i))) p e = k.sheds_weighed i p e

  paid : sum_by (λ p. p.cents) (pots h) ≡ credits h
  paid =
      let first : Pot = record { cents = line_pot h 1; weights = by_company (withdrawn h) } in
      let second : Pot = record { cents = line_pot h 2; weights = by_company (withdrawn h) } in
      let third : Pot = record { cents = installation_pot h; weights = by_company (injected h) } in
      let cents = λ (p : Pot). p.cents in
      omega (
        arith,
        sum_by-cons cents first (second ∷ third ∷ shed_pots h),
        sum_by-cons cents second (third ∷ shed_pots h),
        sum_by-cons cents third (shed_pots h),
        k.accounts.paid,
      )

  light : (i : ℕ) → cents_of (pot_at (pots h) i) ≤ limit
  light i = omega (arith, pot_part (pots h) i, paid, k.accounts.credits, fit.light)

  abbrev rule : R
  rule = (k.ruled settled).0

  by_the_rule : charges share h ≡ charged (share rule) (participants h) (pots h)
  by_the_rule = ap (charges_by_rule share (participants h) (pots h)) (k.ruled settled).1

  -- all charges are all credits
  all_charges : sum_by (charge share h) (range_with_len 1 32) ≡ credits h
  all_charges = ap (λ t. sum_by (charge_over t) (range_with_len 1 32)) by_the_rule ∙ total_charge (participants h) each (share rule) (keeps rule) (pots h) few light based weighed ∙ paid

  all_credits : sum_by (credit h) (range_with_len 1 32) ≡ credits h
  all_credits =
      sym (by_company_sum (credit h))
      ∙ (moves (participants h) each (by_company (earned h)) (by_company_long (earned h))).total
      ∙ ap sum (sym same_earned)
      ∙ fit.earned_sum
      ∙ k.accounts.credits

  even : sum_by (charge share h) (range_with_len 1 32) ≡ sum_by (credit h) (range_with_len 1 32)
  even = all_charges ∙ sym all_credits

  -- a replaced company weighs nothing
  company_gone : (c : ℕ) → replaced h c ≡ true → (is_company c ≡ true) × (is_replaced (participants h) c ≡ true)
  company_gone c e =
      and_parts (is_company c) (is_replaced (participants h) c)
      (ap (λ ps. is_company c && is_replaced ps c) (sym (same_participants share h b fit k)) ∙ k.replacing.replaced c ∙ e)

  gone : (c : ℕ) → replaced h c ≡ true → is_replaced (participants h) c ≡ true
  gone c e = (company_gone c e).1

  a_company : (c : ℕ) → replaced h c ≡ true → is_company c ≡ true
  a_company c e = (company_gone c e).0

  weightless : (c : ℕ) → replaced h c ≡ true → (ws : List ℕ) → length ws ≡ 32 → entry 32 0 (moved (participants h) ws) c ≡ 0
  weightless c e ws long = (moves (participants h) each ws long).replaced c (gone c e)

  long_weights : (o : Option Pot) → ((p : Pot) → o ≡ Some p → Based p.weights) → length (weights_of o) ≡ 32
  long_weights None fine = length-replicate {A = ℕ} 32 0
  long_weights (Some p) fine = (fine p refl).long

  pub is_settled : Settled share h
  is_settled =
      record {
        nets = balance;
        replaced_none = λ c e. (
          sym (moved_weight (participants h) (by_company (earned h)) c (a_company c e)) ∙ weightless c e (by_company (earned h)) (by_company_long (earned h)),
          ap (λ t. charge_over t c) by_the_rule ∙ nothing_charged (participants h) each (share rule) (keeps rule) (pots h) few light based weighed c (a_company c e) (λ p. weightless c e _ (long_weights (pot_at (pots h) (p - 1)) (based (p - 1)))),
        );
        pots_charged = λ p there. subst (λ t. PotCharged (cents_of (pot_at (pots h) (p - 1))) (moved (participants h) (weights_of (pot_at (pots h) (p - 1)))) (λ c. charge_at t c p)) (sym by_the_rule) (all_charged (participants h) each (share rule) (keeps rule) (pots h) few light based weighed p there);
      }
    where
      balance : fold ◌+ℤ◌ (pos 0) (map (net share h) (range_with_len 1 32)) ≡ pos 0
      balance = nets_even (credit h) (charge share h) 32 even

  pub table_clears : (by : Sharing) → Keeps by → (before : List ℕ) → Clears (debts share h) (dues share h) before (with_payments by (debts share h) (dues share h) before)
  table_clears by kept before =
      clears
      (record {
        keeps = kept;
        debtors = by_company_long (λ c. charge share h c - credit h c);
        creditors = by_company_long (λ c. credit h c - charge share h c);
        even = balanced;
        small = within;
      })
      before
    where
      balanced : sum (debts share h) ≡ sum (dues share h)
      balanced =
          by_company_sum (λ c. charge share h c - credit h c)
          ∙ balances_even (credit h) (charge share h) 32 even
          ∙ sym (by_company_sum (λ c. credit h c - charge share h c))

      within : sum (dues share h) ≤ limit
      within =
          let all : sum (by_company (earned h)) ≡ b.accounts.credits = ap sum (sym same_earned) ∙ fit.earned_sum in
          let few_dues = dues_light (participants h) (by_company (earned h)) (charge share h) each (by_company_long (earned h)) in
          omega (arith, few_dues, all, fit.light)
