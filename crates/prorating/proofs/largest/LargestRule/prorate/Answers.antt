use Rattle.std.proofs.Common.{rules, ◌≡◌, ◌+◌, ◌<◌, ◌≤◌, sym, length, arith, sum, ◌∙◌, map, ap, get_or, ℕ, ◌-◌, List, cond}
use Rattle.std.specs.Prelude.{slice_index, nat_lt}
use Rattle.std.specs.List.{range_with_len}
use Rattle.numbered.specs.Made.{made_by, serves_below}
use Rattle.std.proofs.lemmas.List.Sums.{get_or-le-sum_by}
use Rattle.std.proofs.lemmas.List.FromFn.{fill_by_all}
use Rattle.std.proofs.lemmas.Iterator.{YieldsList-from_slice}
use Rattle.std.proofs.lemmas.Iterator.Consumers.{fits_from_yields_list, sum_from_yields_List}
use Rattle.prorating.specs.Weights.{Weighed, limit}
use Rattle.prorating.specs.Largest.{rank, largest, floors, floor_at, remainder_at, remainders, odd_cent, largest_share, cents_left}
use Rattle.prorating.specs.SharedBy.{shared_map, shared_some, shared_none}
use Rattle.prorating.specs.OddCents.{floors_long, floors_at, remainders_long, remainders_at, floors_small, largest_remainders}
use Rattle.prorating.proofs.largest.LargestRule.prorate.Goals as goal
use Rattle.prorating.proofs.largest.LargestRule.prorate.Goals.{After-from_fn, After-each-each, After-from_fn-floors, After-from_fn-remainders}

-- a weight is at most the total
weight_small : (c : After-each-each) (k : ℕ) → k < 48 → get_or c.each-each.result.now k 0 ≤ c.in-Some.shared.total
weight_small c k h = omega (arith, get_or-le-sum_by (λ x. x) c.each-each.result.now k 0 (omega (arith, ap length c.each-each.ensures)), ap sum c.each-each.ensures, c.in-Some.ensures.2)

pub from_fn-floors-requires : goal.from_fn-floors-requires
from_fn-floors-requires c = (
  omega arith,
  serves_below (λ x q called. search rules) 48 (λ k h. let small = weight_small (goal.at.from_fn-floors-requires c).After-each-each k h in search rules),
)

pub from_fn-remainders-requires : goal.from_fn-remainders-requires
from_fn-remainders-requires c = (
  omega arith,
  serves_below (λ x q called. search rules) 48 (λ k h. let small = weight_small (goal.at.from_fn-remainders-requires c).After-each-each k h in search rules),
)

floors_are : (c : After-from_fn-floors) → c.from_fn-floors.result ≡ floors c.args.pot c.args.weights.now.at
floors_are c =
    let pot = c.args.pot in
    let ws = c.args.weights.now.at in
    made_by _ (floor_at pot ws) _ (λ k y q called. search rules) _ 48 0 c.from_fn-floors.ensures.items
    ∙ sym (fill_by_all (floor_at pot ws) (floors pot ws) 48 0 (omega (arith, floors_long pot ws)) (λ k h. floors_at pot ws k (omega arith)))

remainders_are : (c : After-from_fn-remainders) → c.from_fn-remainders.result ≡ remainders c.args.pot c.args.weights.now.at
remainders_are c =
    let pot = c.args.pot in
    let ws = c.args.weights.now.at in
    made_by _ (remainder_at pot ws) _ (λ k y q called. search rules) _ 48 0 c.from_fn-remainders.ensures.items
    ∙ sym (fill_by_all (remainder_at pot ws) (remainders pot ws) 48 0 (omega (arith, remainders_long pot ws)) (λ k h. remainders_at pot ws k (omega arith)))

-- the floors come to no more than the pot
floors_fit : (c : After-from_fn-floors) → sum c.from_fn-floors.result ≤ c.args.pot
floors_fit c = omega (arith, ap sum (floors_are c), floors_small c.args.pot c.args.weights.now.at (shared_some c.args.pot c.args.weights.now.at c.in-Some.ensures.0))

pub sum-requires-clause-fits : goal.sum-requires-clause-fits
sum-requires-clause-fits c = fits_from_yields_list c.iter.result _ (YieldsList-from_slice c.from_fn-floors.result c.iter.ensures.rest) (omega (arith, floors_fit (goal.at.sum-requires-clause-fits c).After-from_fn-floors))

pub overflow_sub-left : goal.overflow_sub-left
overflow_sub-left c =
    let total = sum_from_yields_List c.iter.result c.sum.result c.sum.ensures.ran (YieldsList-from_slice c.from_fn-floors.result c.iter.ensures.rest) in
    omega (arith, floors_fit (goal.at.overflow_sub-left c).After-from_fn-floors)

pub from_fn-requires : goal.from_fn-requires
from_fn-requires c = (
  omega arith,
  serves_below (λ x q called. search rules) 48 (λ k h.
      let small : get_or c.from_fn-floors.result k 0 ≤ limit = omega (arith, get_or-le-sum_by (λ x. x) c.from_fn-floors.result k 0 (omega (arith, c.from_fn-floors.ensures.items.long)), floors_fit (goal.at.from_fn-requires c).After-from_fn-floors, c.in-Some.shared.small, c.in-Some.ensures.1) in search rules),
)

pub returns-in_default-clause-meant : goal.returns-in_default-clause-meant
returns-in_default-clause-meant c =
    let w : Weighed c.args.weights.now.at = record { long = omega arith; light = omega arith } in
    sym (shared_none (largest_share c.args.pot c.args.weights.now.at) c.args.pot c.args.weights.now.at w c.in_default.ensures)

pub returns : goal.returns
unfolding largest_share odd_cent cents_left
returns c =
    let pot = c.args.pot in
    let ws = c.args.weights.now.at in
    let w : Weighed ws = record { long = omega arith; light = omega arith } in
    let shares = c.in-Some.ensures.0 in
    let floored = floors_are (goal.at.returns c).After-from_fn-floors in
    let rests = remainders_are (goal.at.returns c).After-from_fn-remainders in
    let total = sum_from_yields_List c.iter.result c.sum.result c.sum.ensures.ran (YieldsList-from_slice c.from_fn-floors.result c.iter.ensures.rest) in
    let left : pot - c.sum.result ≡ cents_left pot ws = ap (λ n. pot - n) (total ∙ ap sum floored) in
    let by = λ (fs rs : List ℕ) (n : ℕ). map (λ k. slice_index fs k + cond (nat_lt (rank rs k) n) 1 0) (range_with_len 0 48) in
    let made : c.from_fn.result ≡ by c.from_fn-floors.result c.from_fn-remainders.result (pot - c.sum.result) =
    made_by _ (λ k. slice_index c.from_fn-floors.result k + cond (nat_lt (rank c.from_fn-remainders.result k) (pot - c.sum.result)) 1 0) _ (λ k y q called. search rules) _ 48 0 c.from_fn.ensures.items in
    let meant : c.from_fn.result ≡ largest pot ws =
    made ∙ ap (λ fs. by fs c.from_fn-remainders.result (pot - c.sum.result)) floored ∙ ap (λ rs. by (floors pot ws) rs (pot - c.sum.result)) rests ∙ ap (by (floors pot ws) (remainders pot ws)) left
    ∙ ap (λ n. map (largest_share pot ws) (range_with_len 0 n)) (sym w.long) ∙ sym (shared_map (largest_share pot ws) pot ws shares) in
    record { meant = meant; fair = λ _. rw meant (largest_remainders pot ws w shares) }
