-- The zone's hour: what each company injected in a zone in the hour before load was shed there.
use Rattle.std.specs.Prelude.{◌≡◌, ℕ, Bool, false, cond, ◌&&◌, List, length, is_some, Some, None, sum_by, sum, Option, ◌==◌, nat_le}
use Rattle.std.specs.List.{list_all}
use Rattle.payers.specs.Companies.{by_company}
use Rattle.payers.specs.declared.readings.Reading.{Reading}

-- A reading is at most 2,000,000 kWh.
abbrev pub is_within_limit : Reading → Bool
is_within_limit r = nat_le r.kwh 2_000_000

-- A shedding brings at most 48 readings, each within its limit.
abbrev pub are_readings : List Reading → Bool
are_readings rs = nat_le (length rs) 48 && list_all is_within_limit rs

-- Who owns a unit in a zone: nobody where the unit is elsewhere, or unknown.
abbrev pub Owner : Type 0
Owner = ℕ → ℕ → Option ℕ

-- Whether the owner is this company.
abbrev pub is_owner : ℕ → Option ℕ → Bool
is_owner company None = false
is_owner company (Some c) = c == company

-- What a company injected in the zone: the kWh of the readings of units that are in the zone and its own.
unfoldable pub injected : Owner → ℕ → List Reading → ℕ → ℕ
injected owner zone rs company = sum_by (λ r. cond (is_owner company (owner r.unit zone)) r.kwh 0) rs

-- The weights of companies 1 to 32, that of company 1 first.
unfoldable pub zone_weights : Owner → ℕ → List Reading → List ℕ
zone_weights owner zone rs = by_company (injected owner zone rs)

-- The kWh of the readings of units in the zone, whoever owns them.
unfoldable pub zone_kwh : Owner → ℕ → List Reading → ℕ
zone_kwh owner zone rs = sum_by (λ r. cond (is_some (owner r.unit zone)) r.kwh 0) rs

-- What the weights of a zone's hour are, and what they add up to: no reading is counted twice, and none is lost.
pub record Summed (owner : Owner) (zone : ℕ) (rs : List Reading) (ws : List ℕ) : Type 0 where
  pub weighed : ws ≡ zone_weights owner zone rs
  pub whole : sum ws ≡ zone_kwh owner zone rs
