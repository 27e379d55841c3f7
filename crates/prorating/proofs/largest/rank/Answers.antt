use Rattle.std.proofs.Common.{◌≡◌, ℕ, ◌∙◌, ap, rules, tests, length, refl, arith}
use Rattle.std.specs.Prelude.{count_by}
use Rattle.std.specs.List.{range_with_len}
use Rattle.std.proofs.lemmas.Iterator.{YieldsList-from_range, YieldsList-from_map}
use Rattle.std.proofs.lemmas.Iterator.Adapters.{at_most_from_yields_List, fits_from_length}
use Rattle.std.proofs.lemmas.Iterator.Consumers.{sum_by_from_yields_List}
use Rattle.std.proofs.lemmas.List.FromFn.{length-range_with_len}
use Rattle.prorating.specs.Largest.{comes_before, rank}
use Rattle.prorating.specs.Counts.{bit}
use Rattle.prorating.proofs.largest.rank.Goals as goal

-- each comparison adds 1 at most
pub sum-requires-clause-fits : goal.sum-requires-clause-fits
sum-requires-clause-fits c =
    fits_from_length _ _ 48 _ (at_most_from_yields_List (YieldsList-from_range 0 48 48 c.map.ensures.source refl) (omega (arith, length-range_with_len 0 48))) c.map.ensures.closure (omega arith) (λ x r q called. search (rules, tests))

pub returns : goal.returns
unfolding rank
returns c =
    let rs = c.args.remainders.now in
    let first = λ (j : ℕ). comes_before rs j c.args.k in
    let long : 48 ≡ length rs = omega arith in
    sum_by_from_yields_List (λ (j : ℕ). bit (first j)) (range_with_len 0 48) c.map.result c.sum.result c.sum.ensures.ran
    (YieldsList-from_map _ (λ (j : ℕ). bit (first j)) (YieldsList-from_range 0 48 48 c.map.ensures.source refl) c.map.ensures.closure (λ x r q called. search (rules, tests)))
    ∙ ap (λ n. count_by first (range_with_len 0 n)) long
