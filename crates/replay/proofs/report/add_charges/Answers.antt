-- The chain goes over the pots in order.
use Rattle.std.proofs.Common.{◌≡◌, ◌++◌, length, map, vec_items, refl, ap, ◌∙◌, rules, tests}
use Rattle.std.specs.List.{zip, range_with_len, filter}
use Rattle.std.proofs.lemmas.Iterator.{YieldsList-from_slice, YieldsList-from_range, YieldsList-from_zip, YieldsList-from_map}
use Rattle.std.proofs.lemmas.Iterator.Adapters.{items_from_extend}
use Rattle.std.proofs.lemmas.Iterator.Consumers.{YieldsList-from_filter, YieldsList-at}
use Rattle.std.proofs.lemmas.Result.{on_ok_weaker}
use Rattle.replay.proofs.Steps.{charge, is_above, charges_made}
use Rattle.replay.proofs.report.add_charges.Goals as goal

pub returns : goal.returns
returns c =
    let pots = c.args.charges.now in
    let long : 19 ≡ length pots = search rules in
    let items =
    items_from_extend c.extend.result c.extend.ensures.ran
    (YieldsList-from_filter _ is_above (YieldsList-at c.filter.ensures.source (YieldsList-from_map _ (charge c.args.index) (YieldsList-from_zip (YieldsList-from_range 1 20 19 (cc) refl) (YieldsList-from_slice pots (cc))) c.map.ensures.closure (λ x r q k. search rules))) c.filter.ensures.closure (λ x r q k. search (rules, tests))) in
    on_ok_weaker c.extend.result
    (λ h. h.0 ∙ ap (λ xs. vec_items c.args.list.now ++ xs) (ap (λ n. filter is_above (map (charge c.args.index) (zip (range_with_len 1 n) pots))) long ∙ charges_made c.args.index 1 pots))
    items
