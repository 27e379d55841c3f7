-- The table that the program prints, or why there is none.
use Rattle.std.specs.Prelude.{◌≡◌, ℕ, cond, ◌&&◌, List, Ok, Err, sum, Result, ◌==◌, nat_lt}
use Rattle.prorating.specs.Weights.{limit}
use Rattle.prorating.specs.Running.{running}
use Rattle.prorating.specs.Largest.{largest}
use Rattle.prorate.specs.declared.table.Column.{Column}
use Rattle.prorate.specs.declared.table.Table.{Table}
use Rattle.prorate.specs.declared.table.Unshared.{Unshared}
use Rattle.prorate.specs.declared.table.Unshared.TheVariants.{PotTooLarge, NoWeight}

-- Shares, with their sum.
abbrev pub column : List ℕ → Column
column shares = record { shares = shares; total = sum shares }

-- The shares of a pot by both rules. There are none where the pot is above the limit, or above 0 with no weight to share it by.
abbrev pub table_of : ℕ → List ℕ → Result Table Unshared
table_of pot ws =
    cond (nat_lt limit pot) (Err PotTooLarge)
    (cond (nat_lt 0 pot && sum ws == 0) (Err NoWeight)
    (Ok (record { running = column (running pot ws); largest = column (largest pot ws) })))

-- Nothing is lost: both columns add up to the pot.
abbrev pub Whole : ℕ → Table → Type 0
Whole pot table = (table.running.total ≡ pot) × (table.largest.total ≡ pot)
