-- The law over all runs, of the calls alone.
use Rattle.std.specs.Prelude.{◌≡◌, ℕ, ◌+◌, ◌<◌, Bool, true, false, cond, ◌||◌, ◌⊎◌, List, [], ◌∷◌, ◌++◌, map, length, drop, pos, ◌+ℤ◌, Ok, Err, fold, sum_by, sum, Option, Result, nat_lt}
use Rattle.std.specs.List.{range_with_len}
use Rattle.prorating.specs.Laws.{Sharing, Near}
use Rattle.payers.specs.Bases.{is_company}
use Rattle.numbered.specs.Entries.{is_numbered, entry}
use Rattle.clearing.specs.Clearing.{Clears}
use Rattle.clearing.specs.Payments.{with_payments}
use Rattle.month.specs.declared.figures.Figures.{Figures}
use Rattle.month.specs.declared.figures.Outcome.{Outcome}
use Rattle.month.specs.declared.refusal.Refusal.{Refusal}
use Rattle.month.specs.declared.refusal.Refusal.TheVariants.{Stage, Short}
use Rattle.month.specs.Answers.{is_charged}
use Rattle.month.specs.Figures.{figures}
use Rattle.month.specs.Meant.{Meant}
use Rattle.month.specs.Refusals.{number}
use Rattle.month.specs.Table.{Answer, Row, rows, first}
use Rattle.history.specs.History.{when, cents_of, phase, registered, replaced, credit, charges, pot, pot_weights, pot_charge, charge, net, debts, dues, seen}

-- The number of an answer: 0 where the call is admitted, else the refusal's.
abbrev pub answer_number : Answer → ℕ
answer_number (Ok u) = 0
answer_number (Err e) = number e

-- Row by row: none applies; or the first that applies has this number.
abbrev pub Clear : List Row → Type 0
Clear [] = Unit {0}
Clear (r ∷ rs) = (r.1 ≡ false) × Clear rs

abbrev pub First : ℕ → List Row → Type 0
First n [] = ⊥
First n (r ∷ rs) = ((r.1 ≡ true) × (n ≡ number r.0)) ⊎ ((r.1 ≡ false) × First n rs)

-- The charges of a pot of so many cents over the companies' weights.
pub record PotCharged (cents : ℕ) (weights : List ℕ) (charge : ℕ → ℕ) : Type 0 where
  -- they add up to the pot
  pub whole : sum_by charge (range_with_len 1 32) ≡ cents
  -- each is less than one cent away from cents × weight ÷ total
  pub near : 0 < cents → (c : ℕ) → is_company c ≡ true → Near cents (sum weights) (entry 32 0 weights c) (charge c)
  -- a company without weight pays nothing
  pub weightless : (c : ℕ) → is_company c ≡ true → entry 32 0 weights c ≡ 0 → charge c ≡ 0

module _ {R : Type 0} where
  -- After the calls h were admitted, further calls are answered ns, and k are then the admitted ones: each call in turn is admitted and answered 0
  -- where no row of the refusal table applies, and else is refused by the first row that applies and leaves no trace.
  abbrev pub Run : List (Meant R) → List (Meant R) → List ℕ → List (Meant R) → Type 0
  Run h [] [] k = h ≡ k
  Run h [] (n ∷ ns) k = ⊥
  Run h (m ∷ ms) [] k = ⊥
  Run h (m ∷ ms) (n ∷ ns) k =
      (Clear (rows (seen h) m) × (n ≡ 0) × Run (m ∷ h) ms ns k)
      ⊎ (First n (rows (seen h) m) × Run h ms ns k)

  -- The same as functions: what is admitted, and what is answered.
  abbrev pub verdict : List (Meant R) → Meant R → Answer
  verdict h m = first (rows (seen h) m)

  abbrev pub then : Answer → Meant R → List (Meant R) → List (Meant R)
  then (Ok u) m h = m ∷ h
  then (Err e) m h = h

  abbrev pub run : List (Meant R) → List (Meant R) → List (Meant R)
  run h [] = h
  run h (m ∷ ms) = run (then (verdict h m) m h) ms

  abbrev pub answers : List (Meant R) → List (Meant R) → List ℕ
  answers h [] = []
  answers h (m ∷ ms) = answer_number (verdict h m) ∷ answers (then (verdict h m) m h) ms

  -- There is one run of a list of calls on a blank month, this one, and no other.
  pub record OnlyRun (ms : List (Meant R)) (ns : List ℕ) (k : List (Meant R)) : Type 0 where
    pub is_run : Run [] ms ns k
    pub only : (ns' : List ℕ) (k' : List (Meant R)) → Run [] ms ns' k' → (ns' ≡ ns) × (k' ≡ k)

  -- What a history tells: a registered company's credit, charge and net, and the charges of all pots.
  abbrev pub figures_told : (R → Sharing) → List (Meant R) → ℕ → Option Figures
  figures_told share h k = when (registered h (k + 1)) (figures (credit h (k + 1)) (charge share h (k + 1)))

  unfoldable pub told : (R → Sharing) → List (Meant R) → Outcome
  told share h = record { figures = map (figures_told share h) (range_with_len 0 32); charges = charges share h }

  -- What holds of every settled or final month.
  pub record Settled (share : R → Sharing) (h : List (Meant R)) : Type 0 where
    -- all nets add up to zero
    pub nets : fold ◌+ℤ◌ (pos 0) (map (net share h) (range_with_len 1 32)) ≡ pos 0
    -- a replaced company has neither credit nor charge
    pub replaced_none : (c : ℕ) → replaced h c ≡ true → (credit h c ≡ 0) × (charge share h c ≡ 0)
    -- each pot is charged in full, near to exact, and to nobody without weight
    pub pots_charged : (p : ℕ) → is_numbered 19 p ≡ true → PotCharged (cents_of (pot h p)) (pot_weights h p) (pot_charge share h p)

  -- Calls are made one after the other on a blank month and their answers noted; then figures, charges and payments are asked for. Too short a list
  -- for the answers or too short a table is refused, and both stay as they are.
  abbrev pub too_short : List (Meant R) → List ℕ → List ℕ → Bool
  too_short ms answers table = nat_lt (length answers) (length ms) || nat_lt (length table) 1_024

  -- THE LAW, for every list of calls, every rule of the settlements and every rule of the payments (`by` is what that one means).
  pub record Replayed (share : R → Sharing) (by : Sharing) (ms : List (Meant R)) (old new before after : List ℕ) (r : Result Outcome Refusal) : Type 0 where
    -- the history is the only one that the refusal table allows, and so are the answers
    pub one_run : OnlyRun ms (answers [] ms) (run [] ms)
    -- each call has its answer, and later places stay
    pub noted : new ≡ cond (too_short ms old before) old (answers [] ms ++ drop (length ms) old)
    -- a month that is then settled or final tells what the admitted calls tell; any other is refused
    pub outcome :
        r ≡
        cond (too_short ms old before) (Err Short)
        (cond (is_charged (phase (run [] ms))) (Ok (told share (run [] ms))) (Err Stage))
    -- the table has the payments of that month, by the rule handed in; else it stays as it was
    pub paid :
        after ≡
        cond (too_short ms old before) before
        (cond (is_charged (phase (run [] ms))) (with_payments by (debts share (run [] ms)) (dues share (run [] ms)) before) before)
    -- and what is told clears: figures and charges, and the payments
    pub settled : too_short ms old before ≡ false → is_charged (phase (run [] ms)) ≡ true → Settled share (run [] ms)
    pub clears : too_short ms old before ≡ false → is_charged (phase (run [] ms)) ≡ true → Clears (debts share (run [] ms)) (dues share (run [] ms)) before after
