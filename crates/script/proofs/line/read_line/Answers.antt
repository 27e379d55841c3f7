-- The theorem on lines, at what the rule or the fields gave.
use Rattle.std.proofs.Common.{sym, ap, ◌∙◌}
use Rattle.std.proofs.lemmas.Result.{IfOk-weaker}
use Rattle.script.specs.Lines.{said_by}
use Rattle.script.proofs.Back.{exactly_said}
use Rattle.script.proofs.line.read_line.Goals as goal

pub returns-in-Some-clause-exact : goal.returns-in-Some-clause-exact
returns-in-Some-clause-exact c = exactly_said c.args.line.now _ (ap (λ o. said_by o c.args.line.now) (sym c.in-Some.is ∙ c.settle_rule.ensures))

pub returns-in-None-clause-exact : goal.returns-in-None-clause-exact
returns-in-None-clause-exact c =
    IfOk-weaker c.read_by_word.result _ _ (λ o e. exactly_said c.args.line.now _ (e ∙ ap (λ r. said_by r c.args.line.now) (sym c.in-None.is ∙ c.settle_rule.ensures))) c.read_by_word.ensures
