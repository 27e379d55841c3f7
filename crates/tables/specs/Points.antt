-- The points of withdrawal.
use Rattle.std.specs.Prelude.{ℕ, ◌+◌, Bool, cond, ◌&&◌, List, replicate, Some, None, nat_le, nat_lt}
use Rattle.tables.specs.declared.points.Point.{Point}
use Rattle.numbered.specs.Entries.{is_numbered, entry, with_entry}

-- One that is not registered and had no shedding.
abbrev pub no_point : Point
no_point = record { supplier = None; count = 0; seconds = 0 }

-- The points 1 to 32, and how many sheddings there were at all of them.
pub record Points : Type 0 where
  pub points : List Point
  pub sheddings : ℕ

abbrev pub no_points : Points
no_points = record { points = replicate 32 no_point; sheddings = 0 }

-- What is known of a point; one that is not registered and had no shedding for any other number.
abbrev pub point : Points → ℕ → Point
point ps number = entry 32 no_point ps.points number

-- The points with a supplier noted.
abbrev pub supplied : Point → ℕ → Point
supplied p supplier = record { supplier = Some supplier; count = p.count; seconds = p.seconds }

abbrev pub with_supplier : Points → ℕ → ℕ → Points
with_supplier ps number supplier = record { points = with_entry 32 ps.points number (supplied (point ps number) supplier); sheddings = ps.sheddings }

-- Whether a shedding may be counted: at a point's number, among the first 10,000, and no longer than a day.
abbrev pub is_counted : Points → ℕ → ℕ → Bool
is_counted ps number seconds = is_numbered 32 number && (nat_lt ps.sheddings 10_000 && nat_le seconds 86_400)

-- The points with a shedding counted; as they were where it may not be.
abbrev pub shed_at : Point → ℕ → Point
shed_at p seconds = record { supplier = p.supplier; count = p.count + 1; seconds = p.seconds + seconds }

abbrev pub with_shedding : Points → ℕ → ℕ → Points
with_shedding ps number seconds =
    cond (is_counted ps number seconds)
    (record { points = with_entry 32 ps.points number (shed_at (point ps number) seconds); sheddings = ps.sheddings + 1 })
    ps
