use Rattle.std.proofs.Common.{rules, ◌≡◌, ◌<◌, ◌^◌, sum_by, length, ◌∙◌, arith}
use Rattle.std.proofs.lemmas.Iterator.{YieldsList-from_map, YieldsList-from_slice}
use Rattle.std.proofs.lemmas.Iterator.Consumers.{YieldsList-at, sum_by_from_yields_List, fits_by_from_yields_list}
use Rattle.month.proofs.Charged.{of_row, rows_small, rows_over}
use Rattle.month.proofs.month.Charges.over.Goals as goal

pub sum-requires-clause-fits : goal.sum-requires-clause-fits
sum-requires-clause-fits c =
    let pots = c.args.self.now.of_pots in
    let part = of_row c.args.company in
    let long : length pots ≡ 19 = omega arith in
    let fits : sum_by part pots < 2 ^ 64 = omega (arith, long, rows_small pots c.args.company c.args.self.now.small) in
    fits_by_from_yields_list part pots _ _
    (YieldsList-from_map _ part (YieldsList-at c.map.ensures.source (YieldsList-from_slice pots c.iter.ensures.rest)) c.map.ensures.closure (λ x r q called. search rules)) fits

pub returns : goal.returns
returns c =
    let pots = c.args.self.now.of_pots in
    let part = of_row c.args.company in
    let long : length pots ≡ 19 = omega arith in
    let summed : c.sum.result ≡ sum_by part pots =
    sum_by_from_yields_List part pots c.map.result _ c.sum.ensures.ran
    (YieldsList-from_map _ part (YieldsList-at c.map.ensures.source (YieldsList-from_slice pots c.iter.ensures.rest)) c.map.ensures.closure (λ x r q called. search rules)) in
    record {
      is = summed ∙ rows_over pots c.args.company long;
      small = omega (arith, summed, long, rows_small pots c.args.company c.args.self.now.small);
    }
