-- The refusal table: for each call its rows in their order, each a test on what was seen so far and the call.
use Rattle.std.specs.Prelude.{ℕ, ◌+◌, ◌/◌, ◌%◌, Bool, true, false, cond, not, ◌&&◌, ◌||◌, List, [], ◌∷◌, is_some, Some, None, Ok, Err, Option, Result, ◌==◌, nat_eq, nat_le, nat_lt}
use Rattle.std.specs.List.{list_any}
use Rattle.prorating.specs.Weights.{limit}
use Rattle.payers.specs.declared.readings.Reading.{Reading}
use Rattle.payers.specs.Meters.{figure_limit}
use Rattle.payers.specs.Zones.{are_readings, zone_weights}
use Rattle.tables.specs.Units.{owner_in}
use Rattle.worth.specs.declared.family.Family.{Family}
use Rattle.worth.specs.declared.line.Line.{Line}
use Rattle.worth.specs.declared.performance.Performance.{Performance}
use Rattle.worth.specs.Families.{numbered}
use Rattle.worth.specs.Limits.{within as line_within}
use Rattle.worth.specs.Lines.{allows, needs_performance}
use Rattle.worth.specs.Performances.{within as performance_within}
use Rattle.worth.specs.Installations.{within as installation_within, worth as worth_of_installation}
use Rattle.worth.specs.Sheddings.{within as shedding_within, highest_failure_cost}
use Rattle.month.specs.declared.refusal.Refusal.{Refusal}
use Rattle.month.specs.declared.refusal.Refusal.TheVariants.{Stage, Limits, Unregistered, Again, Full, Barred, NoPerformance, Credits, NoWeight}
use Rattle.month.specs.declared.calls.StageCall.{StageCall}
use Rattle.month.specs.declared.calls.Terms.{Terms}
use Rattle.month.specs.Meant.{Meant, post, stage, Posted, company, replace, unit, performance, line, installation, meter, point, shed}
use Rattle.month.specs.Seen.{Phase, blank, begun, settled, final, Seen, worth_of_line, worth_of_shed, strands}

abbrev pub Answer : Type 0
Answer = Result (Unit {0}) Refusal

abbrev pub is_blank : Phase → Bool
is_blank blank = true
is_blank begun = false
is_blank settled = false
is_blank final = false

abbrev pub is_begun : Phase → Bool
is_begun blank = false
is_begun begun = true
is_begun settled = false
is_begun final = false

abbrev pub is_settled : Phase → Bool
is_settled blank = false
is_settled begun = false
is_settled settled = true
is_settled final = false

-- Limits of numbers.
abbrev pub outside : ℕ → ℕ → ℕ → Bool
outside low high x = nat_lt x low || nat_lt high x

-- companies and points are numbered 1 to 32, units 1 to 255, zones 0 to 15
abbrev pub no_company : ℕ → Bool
no_company c = outside 1 32 c

abbrev pub no_unit : ℕ → Bool
no_unit u = outside 1 255 u

abbrev pub no_zone : ℕ → Bool
no_zone z = nat_lt 15 z

abbrev pub no_family : ℕ → Bool
no_family f = not (is_some (numbered f))

-- A family that a kind of line does not allow, or none.
abbrev pub disallowed : Line → Option Family → Bool
disallowed l None = true
disallowed l (Some f) = not (allows l f)

-- The year is 2000 to 2099 and the month 01 to 12.
abbrev pub no_period : ℕ → Bool
no_period p = outside 2000 2099 (p / 100) || outside 1 12 (p % 100)

abbrev pub terms_outside : Terms → Bool
terms_outside t =
    no_period t.period
    || (outside 672 745 t.hours
    || (nat_lt highest_failure_cost t.failure_cost
    || (nat_lt 1_000 t.count
    || nat_lt 31_536_000 t.seconds)))

-- The limits of a post's figures.
abbrev pub unit_outside : ℕ → ℕ → ℕ → Bool
unit_outside n o z = no_unit n || (no_company o || no_zone z)

abbrev pub line_outside : Terms → ℕ → ℕ → ℕ → Line → Bool
line_outside t u hour f l = no_unit u || (nat_le t.hours hour || (disallowed l (numbered f) || not (line_within l)))

abbrev pub performance_outside : Terms → ℕ → ℕ → Performance → Bool
performance_outside t u f p = no_unit u || (no_family f || not (performance_within t.hours p))

abbrev pub installation_outside : ℕ → ℕ → ℕ → ℕ → Bool
installation_outside u f a m = no_unit u || (no_family f || not (installation_within a m))

abbrev pub meter_outside : ℕ → ℕ → ℕ → Bool
meter_outside c w i = no_company c || (nat_lt figure_limit w || nat_lt figure_limit i)

-- Readings: whether one is so, and whether a unit stands in two.
abbrev pub some_reading : (Reading → Bool) → List Reading → Bool
some_reading = list_any

abbrev pub twice : List Reading → Bool
twice [] = false
twice (r ∷ rs) = some_reading (λ q. nat_eq q.unit r.unit) rs || twice rs

abbrev pub shed_outside : ℕ → ℕ → ℕ → ℕ → List Reading → Bool
shed_outside p kw seconds z rs =
    outside 1 32 p
    || (not (shedding_within kw seconds)
    || (no_zone z
    || (not (are_readings rs)
    || some_reading (λ r. no_unit r.unit) rs)))

-- Worths, of what was seen so far.
abbrev pub line_worth : Seen → ℕ → ℕ → Line → ℕ
line_worth s u f l = worth_of_line s.terms f (s.performed u f) l

abbrev pub shed_worth : Seen → ℕ → ℕ → ℕ → ℕ
shed_worth s p kw seconds = worth_of_shed s.terms (s.shed_count p) (s.shed_seconds p) kw seconds

-- The weights of a shedding's pot: what each company injected in the zone.
abbrev pub shed_weights : Seen → ℕ → List Reading → List ℕ
shed_weights s z rs = zone_weights (λ u. owner_in (s.place u)) z rs

-- A worth that takes all credits past the limit. One of 0 never does.
abbrev pub past_credits : Seen → ℕ → Bool
past_credits s cents = nat_lt limit (s.credits + cents)

-- A replacement is barred: old equals new, either is replaced, or old takes part for another.
abbrev pub barred : Seen → ℕ → ℕ → Bool
barred s old new = ((old == new || s.replaced old) || s.replaced new) || s.replaces old

-- A row: the refusal, and whether it applies.
abbrev pub Row : Type 0
Row = Refusal × Bool

abbrev pub post_rows : Seen → Posted → List Row
post_rows s (company n) =
    (Stage, not (is_begun s.phase))
    ∷ (Limits, no_company n)
    ∷ (Again, s.registered n)
    ∷ []
post_rows s (replace old new) =
    (Stage, not (is_begun s.phase))
    ∷ (Limits, no_company old || no_company new)
    ∷ (Unregistered, not (s.registered old && s.registered new))
    ∷ (Barred, barred s old new)
    ∷ []
post_rows s (unit n o z) =
    (Stage, not (is_begun s.phase))
    ∷ (Limits, unit_outside n o z)
    ∷ (Unregistered, not (s.registered o))
    ∷ (Again, is_some (s.place n))
    ∷ (Full, nat_le 48 s.units)
    ∷ []
post_rows s (performance u f p) =
    (Stage, not (is_begun s.phase))
    ∷ (Limits, performance_outside s.terms u f p)
    ∷ (Unregistered, not (is_some (s.place u)))
    ∷ (Again, is_some (s.performed u f))
    ∷ []
post_rows s (line u hour f l) =
    (Stage, not (is_begun s.phase))
    ∷ (Limits, line_outside s.terms u hour f l)
    ∷ (Unregistered, not (is_some (s.place u)))
    ∷ (Again, s.given u hour l)
    ∷ (NoPerformance, needs_performance l && not (is_some (s.performed u f)))
    ∷ (Credits, past_credits s (line_worth s u f l))
    ∷ []
post_rows s (installation u f a m) =
    (Stage, not (is_begun s.phase))
    ∷ (Limits, installation_outside u f a m)
    ∷ (Unregistered, not (is_some (s.place u)))
    ∷ (Again, s.installed u f)
    ∷ (Credits, past_credits s (worth_of_installation a m))
    ∷ []
post_rows s (meter c w i) =
    (Stage, not (is_begun s.phase))
    ∷ (Limits, meter_outside c w i)
    ∷ (Unregistered, not (s.registered c))
    ∷ (Again, s.metered c)
    ∷ []
post_rows s (point n o) =
    (Stage, not (is_begun s.phase))
    ∷ (Limits, outside 1 32 n || no_company o)
    ∷ (Unregistered, not (s.registered o))
    ∷ (Again, is_some (s.supplier n))
    ∷ []
post_rows s (shed p kw seconds z rs) =
    (Stage, not (is_begun s.phase))
    ∷ (Limits, shed_outside p kw seconds z rs)
    ∷ (Unregistered, not (is_some (s.supplier p)) || some_reading (λ r. not (is_some (s.place r.unit))) rs)
    ∷ (Again, twice rs)
    ∷ (Full, nat_le 10_000 s.sheddings || (nat_lt 0 (shed_worth s p kw seconds) && nat_le 16 s.shed_pots))
    ∷ (Credits, past_credits s (shed_worth s p kw seconds))
    ∷ (NoWeight, strands (shed_worth s p kw seconds) (shed_weights s z rs))
    ∷ []

abbrev pub stage_rows : {R : Type 0} → Seen → StageCall R → List Row
stage_rows s (StageCall.Open t) = (Stage, not (is_blank s.phase)) ∷ (Limits, terms_outside t) ∷ []
stage_rows s (StageCall.Settle r) = (Stage, not (is_begun s.phase)) ∷ (NoWeight, s.stranded) ∷ []
stage_rows s StageCall.Reopen = (Stage, not (is_settled s.phase)) ∷ []
stage_rows s StageCall.Confirm = (Stage, not (is_settled s.phase)) ∷ []

abbrev pub rows : {R : Type 0} → Seen → Meant R → List Row
rows s (post p) = post_rows s p
rows s (stage c) = stage_rows s c

-- The first row that applies refuses.
abbrev pub first : List Row → Answer
first [] = Ok tt
first (r ∷ rs) = cond r.1 (Err r.0) (first rs)
