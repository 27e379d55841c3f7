use Rattle.std.proofs.Common.{rules, ◌<◌, ◌^◌, sum_by, sym, refl, ◌∙◌, arith}
use Rattle.std.specs.List.{range_with_len}
use Rattle.std.proofs.lemmas.Iterator.{YieldsList-from_map, YieldsList-from_range}
use Rattle.std.proofs.lemmas.Iterator.Consumers.{sum_by_from_yields_List, fits_by_from_yields_list}
use Rattle.payers.specs.Replacements.{part_moved, weight_moved}
use Rattle.payers.specs.Moved.{part_small, moved_weight}
use Rattle.payers.proofs.replacement.ReplacementPayerBase.weight.Goals as goal

pub sum-requires-clause-fits : goal.sum-requires-clause-fits
sum-requires-clause-fits g c =
    let s = c.args.self.now in
    let ps = s.replacements.participants in
    let ws = g.B.PayerBase.weights s.base in
    let based = g.met.B.PayerBase.based s.base in
    let part = part_moved ps ws c.args.company in
    let fits : sum_by part (range_with_len 1 32) < 2 ^ 64 = omega (arith, part_small ps ws based.long c.args.company 32 (omega arith), based.light) in
    fits_by_from_yields_list part (range_with_len 1 32) _ _
    (YieldsList-from_map _ part (YieldsList-from_range 1 33 32 c.map.ensures.source refl) c.map.ensures.closure (λ x r q called. search rules)) fits

pub returns : goal.returns
unfolding weight_moved
returns g c =
    let s = c.args.self.now in
    let ps = s.replacements.participants in
    let ws = g.B.PayerBase.weights s.base in
    let part = part_moved ps ws c.args.company in
    sum_by_from_yields_List part (range_with_len 1 32) c.map.result _ c.sum.ensures.ran
    (YieldsList-from_map _ part (YieldsList-from_range 1 33 32 c.map.ensures.source refl) c.map.ensures.closure (λ x r q called. search rules))
    ∙ sym (moved_weight ps ws c.args.company (sym c.if-not-is_numbered.ensures))
