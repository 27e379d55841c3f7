use Rattle.std.proofs.Common.{◌∙◌, arith}
use Rattle.clearing.proofs.Due.{padded_full}
use Rattle.clearing.proofs.payments.weight_list.Goals as goal

pub returns : goal.returns
returns c = (rw c.unwrap.ensures at c.of.ensures).1 ∙ padded_full c.args.due.now (omega arith)
