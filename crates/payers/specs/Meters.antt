-- A table of meters: what each company withdrew and injected in the month, in MWh.
use Rattle.std.specs.Prelude.{ℕ, ◌-◌, ◌≤◌, Bool, cond, ◌&&◌, List, is_ok, Ok, Err, Result, nat_le, slice_index, slice_set}
use Rattle.payers.specs.Bases.{is_company}
use Rattle.payers.specs.declared.refusal.Refusal.{Refusal}
use Rattle.payers.specs.declared.refusal.Refusal.TheVariants.{Limits}

-- The largest figure of a company. 32 of them are within the limit of a weight list.
abbrev pub figure_limit : ℕ
figure_limit = 90_000_000

-- What a column of the table keeps: each figure is within the limit.
abbrev pub Small : List ℕ → Type 0
Small figures = (k : ℕ) → slice_index figures k ≤ figure_limit

-- Whether what a company withdrew and what it injected are within the limit.
abbrev pub are_small : ℕ → ℕ → Bool
are_small withdrawals injections = nat_le withdrawals figure_limit && nat_le injections figure_limit

-- Whether a company's figures may stand in the table.
abbrev pub is_metered : ℕ → ℕ → ℕ → Bool
is_metered company withdrawals injections = is_company company && are_small withdrawals injections

-- The answer where a company's figures are put into the table.
abbrev pub put_answer : ℕ → ℕ → ℕ → Result (Unit {0}) Refusal
put_answer company withdrawals injections = cond (is_metered company withdrawals injections) (Ok tt) (Err Limits)

-- A column afterwards, with the company's new figure; a refusal leaves it as it was.
abbrev pub put_after : Result (Unit {0}) Refusal → List ℕ → ℕ → ℕ → List ℕ
put_after answer column company figure = cond (is_ok answer) (slice_set column (company - 1) figure) column
