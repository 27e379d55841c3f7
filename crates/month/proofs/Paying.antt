-- Balances and payments.
use Rattle.std.proofs.Common.{◌≡◌, ℕ, ◌+◌, ◌-◌, ◌<◌, ◌≤◌, Bool, true, false, cond, not, ltb, List, map, length, get_or, Ok, Err, Result, sum_by, sum, sym, ap, ◌∙◌, subst, arith, lit≤}
use Rattle.std.specs.List.{range_with_len}
use Rattle.std.proofs.lemmas.Bool.{cond-false, le-ltb}
use Rattle.std.proofs.lemmas.List.FromFn.{length-map-range_with_len, get_or-map-range_with_len}
use Rattle.prorating.specs.Counts.{same_places}
use Rattle.prorating.specs.Laws.{Sharing}
use Rattle.prorating.specs.Weights.{limit}
use Rattle.payers.specs.Companies.{by_company}
use Rattle.payers.specs.Replacements.{TakesPart, weight_moved}
use Rattle.payers.specs.CompaniesLemmas.{by_company_long, by_company_at, by_company_sum}
use Rattle.payers.specs.Moved.{moves}
use Rattle.payers.specs.Runs.{sum_within}
use Rattle.clearing.specs.Payments.{with_payments, pay_answer, pay_after}
use Rattle.clearing.specs.declared.refusal.Refusal.{Refusal as Clearing}
use Rattle.month.specs.declared.refusal.Refusal.TheVariants.{Short}
use Rattle.month.specs.declared.month.Month.{Month}
use Rattle.month.specs.Answers.{is_charged, credit_in, debts_in, dues_in, payments_answer, payments_after}
use Rattle.month.specs.Book.{Book, book}
use Rattle.month.specs.Figures.{charge_over}
use Rattle.month.specs.Refusals.{of_clearing}
use Rattle.month.specs.Steps.{on_ok}
use Rattle.month.specs.Table.{Answer}

-- by how much each entry of a list is above that of another
pub above : (f g : ℕ → ℕ) (xs ys : List ℕ) → xs ≡ by_company f → ys ≡ by_company g → map (λ k. get_or xs k 0 - get_or ys k 0) (range_with_len 0 32) ≡ by_company (λ c. f c - g c)
above f g xs ys first second =
    let more : ℕ → ℕ = λ k. get_or xs k 0 - get_or ys k 0 in
    same_places (map more (range_with_len 0 32)) (by_company (λ c. f c - g c)) 32 (length-map-range_with_len more 0 32) (by_company_long (λ c. f c - g c))
    (λ k h.
    let x : get_or xs k 0 ≡ f (k + 1) = ap (λ zs. get_or zs k 0) first ∙ by_company_at f k h in
    let y : get_or ys k 0 ≡ g (k + 1) = ap (λ zs. get_or zs k 0) second ∙ by_company_at g k h in
    get_or-map-range_with_len more 0 32 k k 0 h (omega arith) ∙ omega (arith, x, y) ∙ sym (by_company_at (λ c. f c - g c) k h))

-- what is due is no more than what is credited
pub dues_light : (ps earned : List ℕ) (charge : ℕ → ℕ) → ((k : ℕ) → k < 32 → TakesPart ps k) → length earned ≡ 32 → sum (by_company (λ c. weight_moved ps earned c - charge c)) ≤ sum earned
dues_light ps earned charge each long =
    let due : ℕ → ℕ = λ c. weight_moved ps earned c - charge c in
    let credit : ℕ → ℕ = weight_moved ps earned in
    let fewer : sum_by due (range_with_len 1 32) ≤ sum_by credit (range_with_len 1 32) = sum_within due credit 1 32 32 (lit≤ tt) (λ c. omega arith) in
    subst (λ x. x ≤ sum earned) (sym (by_company_sum due))
    (subst (λ y. sum_by due (range_with_len 1 32) ≤ y) (sym (by_company_sum credit) ∙ (moves ps each earned long).total) fewer)

-- What `pay` answers and leaves, as the month says it: the table is too short, or the payments are written.
module _ (r : Result (Unit {0}) Clearing) (new old written : List ℕ) where
  by_room : (t : Bool) (a : Answer) → r ≡ cond t (Err Clearing.Short) (Ok tt) → new ≡ cond t old written → a ≡ cond t (Err Short) (Ok tt)
      → (r ≡ Ok tt → (Ok tt ≡ a) × (new ≡ on_ok a written old)) × ((e : Clearing) → r ≡ Err e → (Err (of_clearing e) ≡ a) × (new ≡ on_ok a written old))
  by_room true a er en ea = (
    λ ok. let z : ◌≡◌ {A = ℕ} 0 1 = cc in absurd (omega arith),
    λ e err.
        let same : e ≡ Clearing.Short = cc in (ap (λ x. Err (of_clearing x)) same ∙ sym ea, en ∙ sym (ap (λ x. on_ok x written old) ea)),
  )
  by_room false a er en ea = (
    λ ok. (sym ea, en ∙ sym (ap (λ x. on_ok x written old) ea)),
    λ e err. let z : ◌≡◌ {A = ℕ} 0 1 = cc in absurd (omega arith),
  )

abbrev pub AnswersAs : Sharing → Book → List ℕ → List ℕ → Result (Unit {0}) Clearing → Type 0
AnswersAs share b old new r =
    (r ≡ Ok tt → (Ok tt ≡ payments_answer b old) × (new ≡ payments_after share b old))
    × ((e : Clearing) → r ≡ Err e → (Err (of_clearing e) ≡ payments_answer b old) × (new ≡ payments_after share b old))

pub answers_as : (share : Sharing) (m : Month) (charges : List (List ℕ)) (debts dues old new : List ℕ) (r : Result (Unit {0}) Clearing) → is_charged (book m).phase ≡ true → charges ≡ (book m).charges
    → debts ≡ by_company (λ c. charge_over charges c - credit_in (book m) c) → dues ≡ by_company (λ c. credit_in (book m) c - charge_over charges c)
    → r ≡ pay_answer dues old → new ≡ pay_after share debts dues old → AnswersAs share (book m) old new r
answers_as share m charges debts dues old new r charged same owed due er en =
    let b = book m in
    let fewer : sum dues ≤ sum m.accounts.earned =
    subst (λ xs. sum xs ≤ sum m.accounts.earned) (sym due) (dues_light m.replacements.participants m.accounts.earned (charge_over charges) m.replacements.each m.accounts.earned_long) in
    let within : ltb limit (sum dues) ≡ false = le-ltb limit (sum dues) (omega (arith, fewer, m.accounts.earned_sum, m.accounts.light)) in
    let short = ltb (length old) 1_024 in
    let all : with_payments share debts dues old ≡ with_payments share (debts_in b) (dues_in b) old =
    ap (λ xs. with_payments share xs dues old) (owed ∙ ap (λ t. by_company (λ n. charge_over t n - credit_in b n)) same)
    ∙ ap (λ xs. with_payments share (debts_in b) xs old) (due ∙ ap (λ t. by_company (λ n. credit_in b n - charge_over t n)) same) in
    by_room r new old (with_payments share (debts_in b) (dues_in b) old) short (payments_answer b old)
    (er ∙ ap (λ x. cond short (Err Clearing.Short) x) (cond-false _ _ _ within))
    (en ∙ ap (λ x. cond short old x) (cond-false _ _ _ within ∙ all))
    (cond-false _ _ _ (ap not charged))
