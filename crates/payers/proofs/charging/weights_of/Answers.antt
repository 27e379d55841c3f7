use Rattle.std.proofs.Common.{rules, ◌+◌, ◌∙◌}
use Rattle.numbered.specs.Made.{made_by}
use Rattle.payers.specs.Bases.{weight_of}
use Rattle.payers.specs.CompaniesLemmas.{weights_all}
use Rattle.payers.proofs.charging.weights_of.Goals as goal

pub returns : goal.returns
returns g c =
    let base = c.args.base.now in
    let ws = g.B.PayerBase.weights base in
    made_by _ (λ k. weight_of ws (k + 1)) _ (λ k y q called. search rules) _ 32 0 c.from_fn.ensures.items
    ∙ weights_all ws (g.met.B.PayerBase.based base).long
