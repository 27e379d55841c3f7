use Rattle.std.proofs.Common.{rules, ◌+◌}
use Rattle.numbered.specs.Made.{made_by}
use Rattle.payers.specs.Companies.{by_company}
use Rattle.month.specs.Figures.{charge_over}
use Rattle.month.proofs.month.Charges.over_all.Goals as goal

pub returns : goal.returns
unfolding by_company
returns c = made_by _ (λ k. charge_over c.args.self.now.of_pots (k + 1)) _ (λ k y q called. search rules) _ 32 0 c.from_fn.ensures.items
