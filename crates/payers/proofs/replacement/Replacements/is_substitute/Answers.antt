use Rattle.std.proofs.Common.{rules, arith, ◌∙◌}
use Rattle.std.specs.List.{range_with_len}
use Rattle.std.proofs.lemmas.Iterator.Search.{any_from_yields_List}
use Rattle.payers.specs.Replacements.{takes_part_for, is_substitute}
use Rattle.payers.specs.Substitutes.{any_counted}
use Rattle.payers.proofs.CompanyNumbers.{YieldsList-from_inclusive}
use Rattle.payers.proofs.replacement.Replacements.is_substitute.Goals as goal

pub returns : goal.returns
unfolding is_substitute
returns c =
    let test = takes_part_for c.args.self.now.participants c.args.company in
    any_from_yields_List test _ _ _ c.any.ensures.ran (YieldsList-from_inclusive 1 32 c.new.result c.new.ensures.start c.new.ensures.end c.new.ensures.exhausted (omega arith)) (λ x b q called. search rules)
    ∙ any_counted test (range_with_len 1 32)
