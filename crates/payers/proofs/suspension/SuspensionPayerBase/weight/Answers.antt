use Rattle.std.proofs.Common.{◌∙◌}
use Rattle.payers.specs.Suspended.{suspended_itself, suspended_other}
use Rattle.payers.proofs.suspension.SuspensionPayerBase.weight.Goals as goal

pub returns-then-company-self : goal.returns-then-company-self
returns-then-company-self g c =
    let s = c.args.self.now in
    suspended_itself s.suspended (g.B.PayerBase.weights s.base) c.args.company c.if-company-self.true

pub returns-else-company-self : goal.returns-else-company-self
returns-else-company-self g c =
    let s = c.args.self.now in
    c.weight.ensures ∙ suspended_other s.suspended (g.B.PayerBase.weights s.base) c.args.company c.if-company-self.false
