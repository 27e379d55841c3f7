-- How well a unit performed, and the factor that its pay is weighted by.
--
-- All in ten-thousandths (10,000 is the whole), so that no fraction is lost: 9,500 stands for 95 %.
use Rattle.std.specs.Prelude.{ℕ, ◌-◌, ◌*◌, ◌/◌, Bool, cond, ◌&&◌, nat_le}
use Rattle.worth.specs.declared.family.Family.{Family}
use Rattle.worth.specs.declared.family.Family.TheVariants.{Frequency, Voltage}
use Rattle.worth.specs.declared.performance.Performance.{Performance}

abbrev pub whole : ℕ
whole = 10_000

-- The standards: a frequency service of 95 % is paid whole, one below 75 % nothing; a voltage service of 98 % is paid whole.
abbrev pub frequency_full : ℕ
frequency_full = 9_500

abbrev pub frequency_least : ℕ
frequency_least = 7_500

abbrev pub voltage_full : ℕ
voltage_full = 9_800

-- The performance achieved is availability times activation. Availability is the part of the month's hours
-- in which the unit was available, so the divisor is the hours of the month. Rounded down; a month of no hours gives 0.
abbrev pub achieved : ℕ → Performance → ℕ
achieved hours p = (hours - p.unavailable) * p.activation / hours

-- What a family makes of the performance achieved.
abbrev pub rewarded : Family → ℕ → ℕ
rewarded Frequency w =
    cond (nat_le frequency_full w) whole
    (cond (nat_le frequency_least w) w
    0)
rewarded Voltage w =
    cond (nat_le voltage_full w) whole
    0

-- The performance factor of a unit in a family, in ten-thousandths, in a month of so many hours.
abbrev pub factor : ℕ → Family → Performance → ℕ
factor hours family p = rewarded family (achieved hours p)

-- No more hours unavailable than the month has, and no activation above the whole.
abbrev pub within : ℕ → Performance → Bool
within hours p = nat_le p.unavailable hours && nat_le p.activation whole
