use Rattle.std.proofs.Common.{sum, ap, ◌∙◌, arith}
use Rattle.prorating.specs.Weights.{Weighed}
use Rattle.prorating.specs.Laws.{Sharing, Keeps}
use Rattle.prorating.specs.Conclusions.{shares_amount, shares_within, shares_back}
use Rattle.prorating.proofs.prorated.prorated.Goals as goal

pub returns : goal.returns
returns g c =
    let rule = c.args.rule.now in
    let share : Sharing = g.R.Rule.shares rule in
    let met = g.met.R.Rule in
    let keeps : Keeps share = record { long = met.long rule; nothing = met.nothing rule; whole = met.whole rule; near = met.near rule; weightless = met.weightless rule } in
    let pot = c.args.pot in
    let ws = c.args.weights.now.at in
    let w : Weighed ws = record { long = omega arith; light = omega arith } in
    let meant = c.prorate.ensures in
    record {
      meant = meant;
      whole = ap sum meant ∙ shares_amount share keeps pot ws w;
      within = λ small. rw meant (shares_within share keeps pot ws w small);
      back = λ all. meant ∙ shares_back share keeps pot ws w all;
    }
