use Rattle.std.proofs.Common.{ap, ◌∙◌}
use Rattle.month.proofs.month.Month.credited.Goals as goal

pub returns : goal.returns
returns c = (c.over.ensures.made.1, ap (λ b. b.at) c.over.ensures.made.0 ∙ c.earnings.ensures)
