use Rattle.prorating.specs.Laws.{Sharing, Keeps}
use Rattle.payers.proofs.Charged.{charges_meant, charges_charged}
use Rattle.payers.proofs.charging.charges.Goals as goal

pub returns : goal.returns
returns g c =
    let rule = c.args.rule.now in
    let base = c.args.base.now in
    let pot = c.args.pot in
    let share : Sharing = g.R.Rule.shares rule in
    let met = g.met.R.Rule in
    let keeps : Keeps share = record { long = met.long rule; nothing = met.nothing rule; whole = met.whole rule; near = met.near rule; weightless = met.weightless rule } in
    let ws = g.B.PayerBase.weights base in
    let meant = charges_meant share pot ws _ _ _ c.weight_list.ensures c.prorated.ensures.meant c.companies_shares.ensures in
    record { meant = meant; charged = rw meant (charges_charged share keeps pot ws (g.met.B.PayerBase.based base)) }
