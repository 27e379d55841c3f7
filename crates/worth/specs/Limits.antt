-- The limits of a line's figures. The words for the figures are those of the formulas in `Lines`.
use Rattle.std.specs.Prelude.{ℕ, Bool, ◌&&◌, nat_le}
use Rattle.worth.specs.declared.line.Line.{Line}
use Rattle.worth.specs.declared.line.Line.TheVariants.{UpwardAvailability, UpwardActivation, Downward, OverCost, Opportunity, ExtraFuel, ExtraResource, ExtraWithdrawal}

-- a price in cents: awarded value (for a MW and hour), marginal cost, variable cost, operation price (for a MWh), fuel price
-- (for a fuel unit)
abbrev pub is_price : ℕ → Bool
is_price cents = nat_le cents 100_000

-- reserve in kW
abbrev pub is_power : ℕ → Bool
is_power kw = nat_le kw 1_000_000

-- energy of the hour in kWh
abbrev pub is_energy : ℕ → Bool
is_energy kwh = nat_le kwh 1_000_000

-- how long an instruction lasted, in seconds of the hour
abbrev pub is_instruction : ℕ → Bool
is_instruction seconds = nat_le seconds 3_600

-- specific consumption in thousandths of a fuel unit for a MWh
abbrev pub is_consumption : ℕ → Bool
is_consumption thousandths = nat_le thousandths 1_000_000

-- efficiency in thousandths of a MWh for a unit of primary resource; it divides, so it is never 0
abbrev pub is_efficiency : ℕ → Bool
is_efficiency thousandths = nat_le 1 thousandths && nat_le thousandths 1_000_000

-- A line is within its limits whose figures all are, that injects at most the energy of full load, and that withdraws at least
-- what it would have withdrawn without the service.
abbrev pub within : Line → Bool
within (UpwardAvailability awarded reserve) = is_price awarded && is_power reserve
within (UpwardActivation marginal energy) = is_price marginal && is_energy energy
within (Downward awarded reserve seconds) = is_price awarded && is_power reserve && is_instruction seconds
within (OverCost variable marginal energy) = is_price variable && is_price marginal && is_energy energy
within (Opportunity variable marginal full energy) = is_price variable && is_price marginal && is_energy full && nat_le energy full
within (ExtraFuel price dispatched full energy) = is_price price && is_consumption dispatched && is_consumption full && is_energy energy
within (ExtraResource price dispatched full energy) = is_price price && is_efficiency dispatched && is_efficiency full && is_energy energy
within (ExtraWithdrawal marginal withdrawn without) = is_price marginal && is_energy withdrawn && nat_le without withdrawn
