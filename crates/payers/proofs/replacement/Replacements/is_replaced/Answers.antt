use Rattle.std.proofs.Common.{rules}
use Rattle.payers.specs.Replacements.{is_replaced}
use Rattle.payers.proofs.replacement.Replacements.is_replaced.Goals as goal

pub returns : goal.returns
unfolding is_replaced
returns c = search rules
