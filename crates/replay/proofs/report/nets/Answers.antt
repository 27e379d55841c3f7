-- The chain goes over the companies in order.
use Rattle.std.proofs.Common.{◌≡◌, length, vec_items, refl, ap, ◌∙◌, rules, tests}
use Rattle.std.specs.List.{zip, range_with_len, filter_map}
use Rattle.std.proofs.lemmas.Iterator.{items_from_collect, YieldsList-from_slice, YieldsList-from_range, YieldsList-from_zip}
use Rattle.std.proofs.lemmas.Iterator.Consumers.{YieldsList-from_filter_map}
use Rattle.std.proofs.lemmas.Result.{IfOk-weaker}
use Rattle.replay.specs.Reports.{nets_from}
use Rattle.replay.proofs.Steps.{net, nets_made}
use Rattle.replay.proofs.report.nets.Goals as goal

pub returns : goal.returns
returns c =
    let fs = c.args.figures.now in
    let long : 32 ≡ length fs = search rules in
    let items =
    items_from_collect c.collect.result c.collect.ensures.ran
    (YieldsList-from_filter_map _ net (YieldsList-from_zip (YieldsList-from_range 1 33 32 (cc) refl) (YieldsList-from_slice fs (cc))) c.filter_map.ensures.closure (λ x r q k. search (rules, tests))) in
    IfOk-weaker c.collect.result _ (λ v. vec_items v ≡ nets_from 1 fs) (λ v e. e ∙ ap (λ n. filter_map net (zip (range_with_len 1 n) fs)) long ∙ nets_made 1 fs) items
