-- The two families of ancillary service and their numbers.
use Rattle.std.specs.Prelude.{ℕ, cond, Some, None, Option, ◌==◌}
use Rattle.worth.specs.declared.family.Family.{Family}
use Rattle.worth.specs.declared.family.Family.TheVariants.{Frequency, Voltage}

abbrev pub number : Family → ℕ
number Frequency = 1
number Voltage = 2

-- the family of a number, where there is one
abbrev pub numbered : ℕ → Option Family
numbered n =
    cond (n == 1) (Some Frequency)
    (cond (n == 2) (Some Voltage)
    None)
