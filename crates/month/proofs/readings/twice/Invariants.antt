use Rattle.std.proofs.Common.{◌≡◌, length}
use Rattle.month.specs.Table.{twice}
use Rattle.month.proofs.readings.twice.Given as goal

abbrev pub invariant-loop-rest : goal.invariant-loop-rest
invariant-loop-rest l = twice l.readings ≡ twice l.rest

abbrev pub decreases-loop-rest : goal.decreases-loop-rest
decreases-loop-rest l = length l.rest
