use Rattle.std.proofs.Common.{sum, ap, ◌∙◌}
use Rattle.prorating.proofs.Puts.{padded_sum}
use Rattle.payers.proofs.charging.total_weight.Goals as goal

pub returns : goal.returns
returns g c = c.total.ensures ∙ ap sum c.weight_list.ensures ∙ padded_sum (g.B.PayerBase.weights c.args.base.now)
