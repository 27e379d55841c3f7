use Rattle.std.proofs.Common.{sym}
use Rattle.month.proofs.Inside.{line_inside}
use Rattle.month.proofs.month.Month.line.Goals as goal

pub line_worth-cents-requires : goal.line_worth-cents-requires
line_worth-cents-requires c = line_inside c.args.self.now.terms c.args.unit c.args.hour c.args.family c.args.line (sym c.if-line_outside.ensures)
