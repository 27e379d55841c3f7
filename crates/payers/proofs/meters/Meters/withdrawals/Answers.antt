use Rattle.payers.specs.Figures.{column_based}
use Rattle.payers.proofs.meters.Meters.withdrawals.Goals as goal

pub invariant_of-result : goal.invariant_of-result
invariant_of-result c =
    let meters = c.args.self.now in
    let based = column_based meters.withdrawals meters.withdrawals_long meters.withdrawals_small in
    record { long = based.long; light = based.light }
