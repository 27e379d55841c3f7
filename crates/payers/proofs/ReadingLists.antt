-- What the test of a list of readings bounds.
use Rattle.std.proofs.Common.{◌≡◌, ◌≤◌, true, leb, List, [], ◌∷◌, length, sum_by, arith}
use Rattle.std.specs.List.{list_all, AllByRecursion}
use Rattle.std.proofs.ByRecursion.{sum_by_le}
use Rattle.std.proofs.lemmas.Bool.{and_parts, leb-true}
use Rattle.payers.specs.declared.readings.Reading.{Reading}
use Rattle.payers.specs.Zones.{is_within_limit, are_readings}

-- what stands past the end of a list of readings
abbrev pub no_reading : Reading
no_reading = record { unit = 0; kwh = 0 }

-- 48 readings of 2,000,000 kWh
each_small : (rs : List Reading) → list_all is_within_limit rs ≡ true → AllByRecursion (λ r. r.kwh ≤ 2_000_000) rs
each_small [] pass = tt
each_small (r ∷ rs) pass =
    let both = and_parts (is_within_limit r) (list_all is_within_limit rs) pass in
    (leb-true r.kwh 2_000_000 both.0, each_small rs both.1)

pub kwh_small : (rs : List Reading) → are_readings rs ≡ true → sum_by (λ r. r.kwh) rs ≤ 96_000_000
kwh_small rs are =
    let both = and_parts (leb (length rs) 48) (list_all is_within_limit rs) are in
    let few : length rs ≤ 48 = leb-true (length rs) 48 both.0 in
    omega (arith, few, sum_by_le (λ (r : Reading). r.kwh) 2_000_000 rs (each_small rs both.1))
