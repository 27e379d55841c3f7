-- What a settled or final month answers.
use Rattle.std.specs.Prelude.{ℕ, ◌+◌, ◌-◌, Bool, true, false, cond, not, ◌||◌, List, [], ◌∷◌, map, length, Some, None, Ok, Err, Option, Result, nat_lt}
use Rattle.std.specs.List.{range_with_len}
use Rattle.prorating.specs.Laws.{Sharing}
use Rattle.payers.specs.Companies.{by_company}
use Rattle.payers.specs.Replacements.{weight_moved}
use Rattle.clearing.specs.Payments.{with_payments}
use Rattle.month.specs.declared.figures.Figures.{Figures}
use Rattle.month.specs.declared.figures.Outcome.{Outcome}
use Rattle.month.specs.declared.refusal.Refusal.{Refusal}
use Rattle.month.specs.declared.refusal.Refusal.TheVariants.{Stage, Limits, Unregistered, Short}
use Rattle.month.specs.Book.{Book}
use Rattle.month.specs.Figures.{figures, charge_at, charge_over}
use Rattle.month.specs.Seen.{Phase, blank, begun, settled, final, Seen}
use Rattle.month.specs.Steps.{shown, on_ok}
use Rattle.month.specs.Table.{Answer, Row, first, outside, no_company}

abbrev pub is_charged : Phase → Bool
is_charged blank = false
is_charged begun = false
is_charged settled = true
is_charged final = true

abbrev pub figures_rows : Seen → ℕ → List Row
figures_rows s company =
    (Stage, not (is_charged s.phase))
    ∷ (Limits, no_company company)
    ∷ (Unregistered, not (s.registered company))
    ∷ []

abbrev pub charge_rows : Seen → ℕ → ℕ → List Row
charge_rows s company pot =
    (Stage, not (is_charged s.phase))
    ∷ (Limits, no_company company || outside 1 19 pot)
    ∷ (Unregistered, not (s.registered company))
    ∷ []

-- The answer, or the first row that applies.
abbrev pub answered : {X : Type 0} → List Row → X → Result X Refusal
answered [] x = Ok x
answered (r ∷ rs) x = cond r.1 (Err r.0) (answered rs x)

-- A company's credit and charge in a book; what it owes where the charge is larger, and what is due to it where the credit is.
abbrev pub credit_in : Book → ℕ → ℕ
credit_in b company = weight_moved b.participants b.accounts.earned company

abbrev pub charge_in : Book → ℕ → ℕ
charge_in b company = charge_over b.charges company

abbrev pub debts_in : Book → List ℕ
debts_in b = by_company (λ c. charge_in b c - credit_in b c)

abbrev pub dues_in : Book → List ℕ
dues_in b = by_company (λ c. credit_in b c - charge_in b c)

abbrev pub figures_answer : Book → ℕ → Result Figures Refusal
figures_answer b company =
    answered (figures_rows (shown b) company)
    (figures (credit_in b company) (charge_in b company))

abbrev pub charge_answer : Book → ℕ → ℕ → Result ℕ Refusal
charge_answer b company pot = answered (charge_rows (shown b) company pot) (charge_at b.charges company pot)

-- The payments: what is answered, and the table afterwards. A refusal leaves it as it was.
abbrev pub payments_rows : Phase → List ℕ → List Row
payments_rows phase table =
    (Stage, not (is_charged phase))
    ∷ (Short, nat_lt (length table) 1_024)
    ∷ []

abbrev pub payments_answer : Book → List ℕ → Answer
payments_answer b table = first (payments_rows b.phase table)

abbrev pub payments_after : Sharing → Book → List ℕ → List ℕ
payments_after share b table = on_ok (payments_answer b table) (with_payments share (debts_in b) (dues_in b) table) table

-- An answer, if it is no refusal.
abbrev pub answer_if_any : {X : Type 0} → Result X Refusal → Option X
answer_if_any (Ok x) = Some x
answer_if_any (Err e) = None

-- All of it at once: the figures of companies 1 to 32 and the charges of pots 1 to 19.
abbrev pub outcome_figures : Book → ℕ → Option Figures
outcome_figures b k = answer_if_any (figures_answer b (k + 1))

unfoldable pub outcome : Book → Outcome
outcome b = record { figures = map (outcome_figures b) (range_with_len 0 32); charges = b.charges }

abbrev pub outcome_answer : Book → Result Outcome Refusal
outcome_answer b = cond (is_charged b.phase) (Ok (outcome b)) (Err Stage)
