use Rattle.std.proofs.Common.{rules, ◌+◌, ap, ◌∙◌}
use Rattle.numbered.specs.Made.{made_by}
use Rattle.payers.specs.Bases.{weight_of}
use Rattle.payers.specs.Replacements.{weight_moved, moved}
use Rattle.payers.specs.CompaniesLemmas.{by_company_long, weights_all}
use Rattle.month.proofs.month.Month.credits.Goals as goal

pub returns : goal.returns
returns c =
    let m = c.args.self.now in
    let credited = c.credited-credited.result in
    let ws = moved credited.replacements.participants credited.base.at in
    made_by _ (λ k. weight_of ws (k + 1)) _ (λ k y q called. search rules) _ 32 0 c.from_fn.ensures.items
    ∙ weights_all ws (by_company_long (weight_moved credited.replacements.participants credited.base.at))
    ∙ ap (λ ps. moved ps credited.base.at) c.credited-credited.ensures.0
    ∙ ap (moved m.replacements.participants) c.credited-credited.ensures.1
