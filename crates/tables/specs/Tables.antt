-- What the tables hold, without the facts that their types keep.
use Rattle.std.specs.Prelude.{List, map}
use Rattle.tables.specs.declared.accounts.Accounts.{Accounts}
use Rattle.tables.specs.declared.accounts.WeightedPot.{WeightedPot}
use Rattle.tables.specs.declared.points.PointTable.{PointTable}
use Rattle.tables.specs.declared.units.UnitRow.{UnitRow}
use Rattle.tables.specs.declared.units.UnitTable.{UnitTable}
use Rattle.tables.specs.Accounts.{Pot, Held}
use Rattle.tables.specs.Points.{Points}

-- The units that are registered.
abbrev pub listed : UnitTable → List UnitRow
listed t = t.rows.items

abbrev pub points_of : PointTable → Points
points_of t = record { points = t.points; sheddings = t.sheddings }

-- What a pot stands for.
abbrev pub as_pot : WeightedPot → Pot
as_pot p = record { cents = p.cents; weights = p.base.at }

abbrev pub held : Accounts → Held
held a = record { earned = a.earned; services = a.services; credits = a.credits; pots = map as_pot a.sheddings.items }
