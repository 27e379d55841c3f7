-- Sheddings of load at a point of withdrawal: which are paid, and what one is worth.
use Rattle.std.specs.Prelude.{ℕ, ◌*◌, Bool, true, false, cond, ◌&&◌, Some, None, Option, nat_le}
use Rattle.worth.specs.declared.quotient.Quotient.{Quotient}
use Rattle.worth.specs.declared.shedding.UnpaidLimits.{UnpaidLimits}
use Rattle.worth.specs.Quotients.{◌over◌, rounded_down}

-- Whether a shedding is paid, from the point's count of sheddings and their summed seconds, this one included.
-- Read first: up to so many sheddings none is paid. Then: once they last so long, they are. What neither settles is unpaid.
abbrev pub paid : ℕ → ℕ → UnpaidLimits → Bool
paid count seconds limits =
    cond (nat_le count limits.count) false
    (cond (nat_le limits.seconds seconds) true
    false)

-- cents for a kWh that is not served
abbrev pub highest_failure_cost : ℕ
highest_failure_cost = 10_000

-- kW of load shed
abbrev pub highest_load : ℕ
highest_load = 1_000_000

-- seconds, those of a day
abbrev pub longest : ℕ
longest = 86_400

abbrev pub within : ℕ → ℕ → Bool
within kw seconds = nat_le kw highest_load && nat_le seconds longest

-- Failure cost (cents for a kWh) × load (kW) × duration; the duration is in seconds, so the divisor is the 3,600 seconds of an hour.
abbrev pub formula : ℕ → ℕ → ℕ → Quotient
formula cost kw seconds = cost * kw * seconds over 3_600

-- the worth in cents, rounded down once
abbrev pub worth : ℕ → ℕ → ℕ → ℕ
worth cost kw seconds = rounded_down (formula cost kw seconds)

-- what is answered: nothing of figures outside their limits
abbrev pub answer : ℕ → ℕ → ℕ → Option ℕ
answer cost kw seconds =
    cond (nat_le cost highest_failure_cost && within kw seconds) (Some (worth cost kw seconds)) None
