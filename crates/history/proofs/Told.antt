-- What a book that holds a history tells is what the history tells.
use Rattle.std.proofs.Common.{◌≡◌, ℕ, ◌+◌, ◌-◌, ◌<◌, Bool, true, false, cond, not, ltb, List, map, length, None, Ok, Err, Option, sym, refl, ap, ◌∙◌, arith}
use Rattle.std.proofs.lemmas.List.FromFn.{fill_by_all, length-map-range_with_len, get_or-map-range_with_len}
use Rattle.std.proofs.lemmas.Bool.{cond-true, cond-false}
use Rattle.std.proofs.lemmas.Bool.Decides.{nat_tests}
use Rattle.std.specs.List.{range_with_len}
use Rattle.prorating.specs.Laws.{Sharing}
use Rattle.payers.specs.Companies.{by_company}
use Rattle.payers.specs.Replacements.{weight_moved}
use Rattle.numbered.specs.Entries.{entry}
use Rattle.clearing.specs.Payments.{with_payments}
use Rattle.month.specs.declared.figures.Figures.{Figures}
use Rattle.month.specs.declared.refusal.Refusal.{Refusal}
use Rattle.month.specs.Answers.{is_charged, answer_if_any, outcome_figures, outcome, outcome_answer, debts_in, dues_in, payments_after}
use Rattle.month.specs.Book.{Book}
use Rattle.month.specs.Figures.{figures, charge_over}
use Rattle.month.specs.Meant.{Meant}
use Rattle.month.specs.Steps.{on_ok}
use Rattle.month.specs.Table.{Answer, no_company}
use Rattle.history.specs.History.{when, phase, registered, earned, participants, credit, debts, dues}
use Rattle.history.specs.Law.{figures_told, told}
use Rattle.history.proofs.Holds.{Sound, Holds, by_entries, same_participants}

numbered : (j : ℕ) → j < 32 → no_company (j + 1) ≡ false
numbered j inside = grind (arith, nat_tests)

module _ {R : Type 0} (share : R → Sharing) (h : List (Meant R)) (b : Book) (fit : Sound b) (k : Holds share h b) where
  same_credit : (c : ℕ) → weight_moved b.participants b.accounts.earned c ≡ credit h c
  same_credit c =
      ap (λ ps. weight_moved ps b.accounts.earned c) (same_participants share h b fit k)
      ∙ ap (λ es. weight_moved (participants h) es c) (by_entries b.accounts.earned (earned h) fit.earned k.accounts.earned)

  module _ (charged : is_charged b.phase ≡ true) where
    same_figures : (j : ℕ) → j < 32 → outcome_figures b j ≡ figures_told share h j
    same_figures j inside =
        let c = j + 1 in
        let number = numbered j inside in
        let here = figures (weight_moved b.participants b.accounts.earned c) (charge_over b.charges c) in
        ap (λ t. told_so t (no_company c) (entry 32 false b.registered c) here) charged
        ∙ ap (λ t. told_so true t (entry 32 false b.registered c) here) number
        ∙ if_registered (entry 32 false b.registered c) here
        ∙ ap (λ t. when t here) (k.companies.is c)
        ∙ ap (λ x. when (registered h c) (figures x (charge_over b.charges c))) (same_credit c)
        ∙ ap (λ t. when (registered h c) (figures (credit h c) (charge_over t c))) (k.charges charged)
      where
        told_so : Bool → Bool → Bool → Figures → Option Figures
        told_so stage number known x = answer_if_any (cond (not stage) (Err Refusal.Stage) (cond number (Err Refusal.Limits) (cond (not known) (Err Refusal.Unregistered) (Ok x))))

        if_registered : (t : Bool) (x : Figures) → told_so true false t x ≡ when t x
        if_registered true x = refl
        if_registered false x = refl

    same_outcome : outcome b ≡ told share h
    unfolding outcome told
    same_outcome =
        λ i. record {
          figures =
              fill_by_all (figures_told share h) (map (outcome_figures b) (range_with_len 0 32)) 32 None (length-map-range_with_len (outcome_figures b) 0 32)
              (λ j inside. get_or-map-range_with_len (outcome_figures b) 0 32 j j None inside (omega arith) ∙ same_figures j inside) i;
          charges = k.charges charged i;
        }

  pub same_told : outcome_answer b ≡ cond (is_charged (phase h)) (Ok (told share h)) (Err Refusal.Stage)
  same_told = go (is_charged b.phase) refl ∙ ap (λ p. cond (is_charged p) (Ok (told share h)) (Err Refusal.Stage)) k.phase
    where
      go : (t : Bool) → is_charged b.phase ≡ t → cond t (Ok (outcome b)) (Err Refusal.Stage) ≡ cond (is_charged b.phase) (Ok (told share h)) (Err Refusal.Stage)
      go true e = ap Ok (same_outcome e) ∙ sym (ap (λ t. cond t (Ok (told share h)) (Err Refusal.Stage)) e)
      go false e = sym (ap (λ t. cond t (Ok (told share h)) (Err Refusal.Stage)) e)

  -- so is the table of payments
  pub same_paid : (by : Sharing) (before : List ℕ) → ltb (length before) 1_024 ≡ false → payments_after by b before ≡ cond (is_charged (phase h)) (with_payments by (debts share h) (dues share h) before) before
  same_paid by before long = go (is_charged b.phase) refl ∙ ap (λ p. cond (is_charged p) (with_payments by (debts share h) (dues share h) before) before) k.phase
    where
      answered_so : Bool → Answer
      answered_so t = cond (not t) (Err Refusal.Stage) (cond (ltb (length before) 1_024) (Err Refusal.Short) (Ok tt))

      admitted : answered_so true ≡ Ok tt
      admitted = ap (λ t. cond t (Err Refusal.Short) (Ok tt)) long

      same_debts : is_charged b.phase ≡ true → debts_in b ≡ debts share h
      same_debts e = λ i. by_company (λ c. charge_over (k.charges e i) c - same_credit c i)

      same_dues : is_charged b.phase ≡ true → dues_in b ≡ dues share h
      same_dues e = λ i. by_company (λ c. same_credit c i - charge_over (k.charges e i) c)

      go : (t : Bool) → is_charged b.phase ≡ t → on_ok (answered_so (is_charged b.phase)) (with_payments by (debts_in b) (dues_in b) before) before ≡ cond (is_charged b.phase) (with_payments by (debts share h) (dues share h) before) before
      go true e =
          ap (λ t. on_ok (answered_so t) (with_payments by (debts_in b) (dues_in b) before) before) e
          ∙ ap (λ a. on_ok a (with_payments by (debts_in b) (dues_in b) before) before) admitted
          ∙ ap (λ xs. with_payments by xs (dues_in b) before) (same_debts e)
          ∙ ap (λ xs. with_payments by (debts share h) xs before) (same_dues e)
          ∙ sym (cond-true _ _ _ e)
      go false e =
          ap (λ t. on_ok (answered_so t) (with_payments by (debts_in b) (dues_in b) before) before) e
          ∙ sym (cond-false _ _ _ e)
