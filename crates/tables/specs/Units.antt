-- The units of a month, as a list of rows in the order in which they were registered.
use Rattle.std.specs.Prelude.{ℕ, ◌+◌, ◌-◌, ◌*◌, Bool, true, false, cond, not, ◌&&◌, List, [], ◌∷◌, ◌++◌, length, replicate, is_some, Some, None, Option, ◌==◌, nat_le, slice_index_or, slice_set}
use Rattle.std.specs.List.{list_all}
use Rattle.std.specs.Prelude.{find as find_by}
use Rattle.payers.specs.Bases.{is_company}
use Rattle.worth.specs.declared.line.Line.{Line}
use Rattle.worth.specs.declared.performance.Performance.{Performance}
use Rattle.worth.specs.Lines.{kind}
use Rattle.tables.specs.declared.units.Place.{Place}
use Rattle.tables.specs.declared.units.UnitRow.{UnitRow}
use Rattle.numbered.specs.Entries.{entry, with_entry}

-- A unit of which nothing was posted.
abbrev pub fresh : ℕ → ℕ → ℕ → UnitRow
fresh number owner zone =
    record { number = number; owner = owner; zone = zone; performances = replicate 2 None; installed = replicate 2 false; given = replicate 5_960 false }

-- what stands past the end of a list of rows
abbrev pub no_row : UnitRow
no_row = record { number = 0; owner = 0; zone = 0; performances = []; installed = []; given = [] }

-- The row of a unit.
abbrev pub find : List UnitRow → ℕ → Option UnitRow
find rows unit = find_by (λ r. r.number == unit) rows

-- The rows with that of a unit changed; as they were where the unit is not registered.
abbrev pub change : (UnitRow → UnitRow) → List UnitRow → ℕ → List UnitRow
change f [] unit = []
change f (r ∷ rs) unit = cond (r.number == unit) (f r ∷ rs) (r ∷ change f rs unit)

-- What every table keeps: each owner is a company's number, and no unit's number stands twice.
abbrev pub are_owned : List UnitRow → Bool
are_owned rows = list_all (λ r. is_company r.owner) rows

abbrev pub are_distinct : List UnitRow → Bool
are_distinct [] = true
are_distinct (r ∷ rs) = not (is_some (find rs r.number)) && are_distinct rs

-- What a row says, and what is said of a unit that is not registered.
abbrev pub place : Option UnitRow → Option Place
place None = None
place (Some r) = Some (record { owner = r.owner; zone = r.zone })

-- who owns it in a zone: nobody where it is elsewhere
abbrev pub owner_in : Option Place → ℕ → Option ℕ
owner_in None zone = None
owner_in (Some p) zone = cond (p.zone == zone) (Some p.owner) None

-- by family
abbrev pub performance : ℕ → Option UnitRow → Option Performance
performance family None = None
performance family (Some r) = entry 2 None r.performances family

abbrev pub installed : ℕ → Option UnitRow → Bool
installed family None = false
installed family (Some r) = entry 2 false r.installed family

-- by hour and kind: eight kinds an hour, and 745 hours in the longest month
abbrev pub slot : ℕ → Line → ℕ
slot hour line = hour * 8 + kind line - 1

abbrev pub given : ℕ → Line → Option UnitRow → Bool
given hour line None = false
given hour line (Some r) = cond (nat_le 745 hour) false (slice_index_or r.given (slot hour line) false)

-- Whether a unit may be added: no such unit stands in the table, there is room, and the owner is a company's number.
abbrev pub is_addable : List UnitRow → ℕ → ℕ → Bool
is_addable rows number owner = not (is_some (find rows number)) && (not (nat_le 48 (length rows)) && is_company owner)

abbrev pub added : List UnitRow → ℕ → ℕ → ℕ → List UnitRow
added rows number owner zone = cond (is_addable rows number owner) (rows ++ fresh number owner zone ∷ []) rows

-- A row with one thing more.
abbrev pub with_performance : ℕ → Performance → UnitRow → UnitRow
with_performance family p r =
    record { number = r.number; owner = r.owner; zone = r.zone; performances = with_entry 2 r.performances family (Some p); installed = r.installed; given = r.given }

abbrev pub with_installation : ℕ → UnitRow → UnitRow
with_installation family r =
    record { number = r.number; owner = r.owner; zone = r.zone; performances = r.performances; installed = with_entry 2 r.installed family true; given = r.given }

abbrev pub with_line : ℕ → Line → UnitRow → UnitRow
with_line hour line r =
    record { number = r.number; owner = r.owner; zone = r.zone; performances = r.performances; installed = r.installed; given = cond (nat_le 745 hour) r.given (slice_set r.given (slot hour line) true) }
