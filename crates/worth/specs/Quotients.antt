-- A worth before it is rounded, and its rounding.
use Rattle.std.specs.Prelude.{ℕ, ◌/◌}
use Rattle.worth.specs.declared.quotient.Quotient.{Quotient}

infix 4 ◌over◌
-- a ÷ b, not yet rounded
abbrev pub ◌over◌ : ℕ → ℕ → Quotient
a over b = record { numerator = a; divisor = b }

-- in whole cents
abbrev pub rounded_down : Quotient → ℕ
rounded_down q = q.numerator / q.divisor
