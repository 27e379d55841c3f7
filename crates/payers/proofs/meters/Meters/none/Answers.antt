use Rattle.std.proofs.Common.{refl}
use Rattle.payers.specs.Figures.{zeros_small}
use Rattle.payers.proofs.meters.Meters.none.Goals as goal

pub invariant_of-result : goal.invariant_of-result
invariant_of-result c = record { withdrawals_long = refl; injections_long = refl; withdrawals_small = zeros_small 32; injections_small = zeros_small 32 }
