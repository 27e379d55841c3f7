-- The eight kinds of hourly line and what each is worth.
use Rattle.std.specs.Prelude.{ℕ, ◌-◌, ◌*◌, Bool, true, false, cond, ◌&&◌, Some, None, Option, nat_le}
use Rattle.worth.specs.declared.family.Family.{Family}
use Rattle.worth.specs.declared.family.Family.TheVariants.{Frequency, Voltage}
use Rattle.worth.specs.declared.line.Line.{Line}
use Rattle.worth.specs.declared.line.Line.TheVariants.{UpwardAvailability, UpwardActivation, Downward, OverCost, Opportunity, ExtraFuel, ExtraResource, ExtraWithdrawal}
use Rattle.worth.specs.declared.quotient.Quotient.{Quotient}
use Rattle.worth.specs.Limits.{within}
use Rattle.worth.specs.Performances.{whole}
use Rattle.worth.specs.Quotients.{◌over◌, rounded_down}

-- the number of a line's kind
abbrev pub kind : Line → ℕ
kind (UpwardAvailability awarded reserve) = 1
kind (UpwardActivation marginal energy) = 2
kind (Downward awarded reserve seconds) = 3
kind (OverCost variable marginal energy) = 4
kind (Opportunity variable marginal full energy) = 5
kind (ExtraFuel price dispatched full energy) = 6
kind (ExtraResource price dispatched full energy) = 7
kind (ExtraWithdrawal marginal withdrawn without) = 8

-- The families that a kind may belong to: reserves and their activation are for frequency, extra withdrawal is for voltage, and
-- the rest may be for either.
abbrev pub allows : Line → Family → Bool
allows (UpwardAvailability awarded reserve) Frequency = true
allows (UpwardAvailability awarded reserve) Voltage = false
allows (UpwardActivation marginal energy) Frequency = true
allows (UpwardActivation marginal energy) Voltage = false
allows (Downward awarded reserve seconds) Frequency = true
allows (Downward awarded reserve seconds) Voltage = false
allows (OverCost variable marginal energy) family = true
allows (Opportunity variable marginal full energy) family = true
allows (ExtraFuel price dispatched full energy) family = true
allows (ExtraResource price dispatched full energy) family = true
allows (ExtraWithdrawal marginal withdrawn without) Frequency = false
allows (ExtraWithdrawal marginal withdrawn without) Voltage = true

-- whether the worth is weighted by the performance factor
abbrev pub needs_performance : Line → Bool
needs_performance (UpwardAvailability awarded reserve) = true
needs_performance (UpwardActivation marginal energy) = false
needs_performance (Downward awarded reserve seconds) = true
needs_performance (OverCost variable marginal energy) = false
needs_performance (Opportunity variable marginal full energy) = true
needs_performance (ExtraFuel price dispatched full energy) = false
needs_performance (ExtraResource price dispatched full energy) = false
needs_performance (ExtraWithdrawal marginal withdrawn without) = false

-- max(a − b, 0): a difference of natural numbers stops at 0
abbrev pub excess : ℕ → ℕ → ℕ
excess a b = a - b

-- The eight formulas, in cents, before rounding. Each divisor turns the figures' units into those of the prices:
--         1,000  kW into MW, or kWh into MWh
--         1,000  thousandths of a specific consumption into fuel units
--         3,600  seconds of instruction into the part of the hour
--        10,000  ten-thousandths of the performance factor into the part that is paid
-- so 10,000,000 is 1,000 × 10,000; 36,000,000,000 is 1,000 × 3,600 × 10,000; 1,000,000 is 1,000 × 1,000.
abbrev pub formula : Line → ℕ → Quotient
-- 1, upward availability: awarded value × reserve × factor
formula (UpwardAvailability awarded reserve) factor = awarded * reserve * factor over 10_000_000
-- 2, upward activation: marginal cost × energy
formula (UpwardActivation marginal energy) factor = marginal * energy over 1_000
-- 3, downward: awarded value × reserve × seconds of instruction × factor
formula (Downward awarded reserve seconds) factor = awarded * reserve * seconds * factor over 36_000_000_000
-- 4, over-cost: max(variable cost − marginal cost, 0) × energy
formula (OverCost variable marginal energy) factor = excess variable marginal * energy over 1_000
-- 5, opportunity: max(marginal cost − variable cost, 0) × (energy at full load − energy) × factor
formula (Opportunity variable marginal full energy) factor = excess marginal variable * (full - energy) * factor over 10_000_000
-- 6, extra fuel: fuel price × max(consumption as dispatched − consumption at full load, 0) × energy
formula (ExtraFuel price dispatched full energy) factor = price * excess dispatched full * energy over 1_000_000
-- 7, extra resource: operation price × max(efficiency at full load ÷ efficiency as dispatched − 1, 0) × energy. With d the efficiency
-- as dispatched and f that at full load, f ÷ d − 1 is (f − d) ÷ d: so d divides, and the thousandths of both cancel.
formula (ExtraResource price dispatched full energy) factor = price * excess full dispatched * energy over dispatched * 1_000
-- 8, extra withdrawal: marginal cost × (energy withdrawn − energy withdrawn without the service)
formula (ExtraWithdrawal marginal withdrawn without) factor = marginal * (withdrawn - without) over 1_000

-- The worth of a line at a performance factor, in cents: rounded down once
abbrev pub worth : Line → ℕ → ℕ
worth line factor = rounded_down (formula line factor)

-- what is answered: the worth, or nothing where a figure or the factor is outside its limits
abbrev pub answer : Line → ℕ → Option ℕ
answer line factor = cond (within line && nat_le factor whole) (Some (worth line factor)) None
