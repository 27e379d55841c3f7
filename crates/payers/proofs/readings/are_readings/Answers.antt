use Rattle.std.proofs.Common.{rules}
use Rattle.std.proofs.lemmas.Iterator.{YieldsList-from_slice}
use Rattle.std.proofs.lemmas.Iterator.Search.{all_from_yields_List}
use Rattle.std.proofs.lemmas.Bool.{le-leb}
use Rattle.payers.specs.Zones.{is_within_limit}
use Rattle.payers.proofs.readings.are_readings.Goals as goal

pub returns-then-readings-le-READINGS : goal.returns-then-readings-le-READINGS
returns-then-readings-le-READINGS c =
    let readings = c.args.readings.now in
    rw (le-leb _ _ c.if-readings-le-READINGS.true)
    (all_from_yields_List is_within_limit _ _ _ c.all.ensures.ran (YieldsList-from_slice readings cc) (λ x b q called. search rules))
