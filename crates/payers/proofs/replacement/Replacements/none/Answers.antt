use Rattle.std.proofs.Common.{rules, ◌+◌}
use Rattle.numbered.specs.Made.{made_by}
use Rattle.payers.proofs.replacement.Replacements.none.Goals as goal

pub returns : goal.returns
returns c = made_by _ (λ k. k + 1) _ (λ k y q called. search rules) _ 32 0 c.from_fn.ensures.items
