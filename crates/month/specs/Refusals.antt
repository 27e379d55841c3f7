-- The number of each refusal. A row of the refusal table that comes first has the lower number.
use Rattle.std.specs.Prelude.{ℕ}
use Rattle.payers.specs.declared.refusal.Refusal.{Refusal as Payers}
use Rattle.clearing.specs.declared.refusal.Refusal.{Refusal as Clearing}
use Rattle.month.specs.declared.refusal.Refusal.{Refusal}
use Rattle.month.specs.declared.refusal.Refusal.TheVariants.{Stage, Limits, Unregistered, Again, Full, Barred, NoPerformance, Credits, NoWeight, Short}

abbrev pub number : Refusal → ℕ
number Stage = 1
number Limits = 2
number Unregistered = 3
number Again = 4
number Full = 5
number Barred = 6
number NoPerformance = 7
number Credits = 8
number NoWeight = 9
number Short = 10

-- What the crates below refuse, as the month says it.
abbrev pub of_payers : Payers → Refusal
of_payers Payers.Limits = Limits
of_payers Payers.Barred = Barred

abbrev pub of_clearing : Clearing → Refusal
of_clearing Clearing.Short = Short
of_clearing Clearing.Total = Limits
