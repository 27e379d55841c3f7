use Rattle.std.proofs.Common.{◌≡◌, take}
use Rattle.payers.specs.Zones.{zone_weights}
use Rattle.payers.proofs.zone.summed.Given as goal

abbrev pub invariant-loop-reading : goal.invariant-loop-reading
invariant-loop-reading g l = l.kwh ≡ zone_weights (g.O.Owners.owner l.owners) l.zone (take l.reading-index l.readings)
