use Rattle.std.proofs.Common.{◌≡◌, ℕ, ◌+◌, ◌-◌, ◌<◌, ◌≤◌, length, get_or, take, set, sum, sym, refl, ap, subst, ◌∙◌, arith, length-set}
use Rattle.std.proofs.lemmas.List.{get_or-set_other}
use Rattle.std.proofs.lemmas.List.Edits.{fill_by_more}
use Rattle.std.proofs.lemmas.List.Sums.{sum_by-take-le}
use Rattle.prorating.specs.Weights.{Weighed}
use Rattle.prorating.specs.Running.{part_to, running_share}
use Rattle.prorating.specs.SharedBy.{shared_some, shared_none, shared_fill}
use Rattle.prorating.specs.PartsTo.{sum_more, part_none, part_grows, running_sums}
use Rattle.prorating.proofs.running.RunningRule.prorate.Goals as goal
use Rattle.prorating.proofs.running.RunningRule.prorate.Goals.{In-loop-share, After-floor-part}

pub returns-in_default-clause-meant : goal.returns-in_default-clause-meant
returns-in_default-clause-meant c =
    let pot = c.args.pot in
    let ws = c.args.weights.now.at in
    let w : Weighed ws = record { long = omega arith; light = omega arith } in
    sym (shared_none (running_share pot ws) pot ws w c.in_default.ensures)

pub loop-share-init : goal.loop-share-init
loop-share-init c =
    record {
      long = omega (arith, ap length c.each.ensures);
      weighed = refl;
      parted = sym (part_none c.args.pot c.args.weights.now.at);
      shared = λ j h. omega arith;
      left = λ j h. ap (λ xs. get_or xs j 0) c.each.ensures;
    }

-- the weights up to the place, with its own
weight_is : (c : In-loop-share) → c.loop-share.weight + get_or c.loop-share.share-items c.loop-share.share-index 0 ≡ sum (take (c.loop-share.share-index + 1) c.args.weights.now.at)
weight_is c = omega (arith, c.loop-share.invariant.left c.loop-share.share-index (omega arith), sum_more c.args.weights.now.at c.loop-share.share-index (omega arith))

weight_small : (c : In-loop-share) → c.loop-share.weight + get_or c.loop-share.share-items c.loop-share.share-index 0 ≤ c.in-Some.shared.total
weight_small c = omega (arith, weight_is c, c.in-Some.ensures.2, sum_by-take-le (λ x. x) c.args.weights.now.at (c.loop-share.share-index + 1))

pub overflow_add-weight : goal.overflow_add-weight
overflow_add-weight c = omega (arith, weight_small (goal.at.overflow_add-weight c).In-loop-share)

pub floor-part-requires : goal.floor-part-requires
floor-part-requires c = weight_small (goal.at.floor-part-requires c).In-loop-share

-- the pot's part for the places up to this one
part_is : (c : After-floor-part) → c.floor-part.result ≡ part_to c.args.pot c.args.weights.now.at (c.loop-share.share-index + 1)
unfolding part_to
part_is c = cc (c.floor-part.ensures, weight_is (goal.at.overflow_sub-share c).In-loop-share, c.in-Some.ensures.1, c.in-Some.ensures.2)

pub overflow_sub-share : goal.overflow_sub-share
overflow_sub-share c =
    let ws = c.args.weights.now.at in
    omega (arith, part_is c, part_grows c.args.pot ws (shared_some c.args.pot ws c.in-Some.ensures.0) c.loop-share.share-index (omega arith))

pub loop-share-preserved : goal.loop-share-preserved
unfolding running_share
loop-share-preserved c =
    let ws = c.args.weights.now.at in
    let share = running_share c.args.pot ws in
    let k = c.loop-share.share-index in
    let items = c.loop-share.share-items in
    let own : share k ≡ c.floor-part.result - c.loop-share.given = cc (part_is c, c.loop-share.invariant.parted) in
    record {
      long = simp length-set c.loop-share.invariant.long;
      weighed = weight_is (goal.at.loop-share-preserved c).In-loop-share;
      parted = part_is c;
      shared = subst (λ v. (j : ℕ) → j < k + 1 → get_or (set items k v) j 0 ≡ share j) own (fill_by_more share items k 0 (omega arith) c.loop-share.invariant.shared);
      left = λ j h. get_or-set_other items k j (c.floor-part.result - c.loop-share.given) 0 (λ e. omega arith) ∙ c.loop-share.invariant.left j (omega arith);
    }

pub returns : goal.returns
returns c =
    let pot = c.args.pot in
    let ws = c.args.weights.now.at in
    let w : Weighed ws = record { long = omega arith; light = omega arith } in
    let shares = c.in-Some.ensures.0 in
    let meant = shared_fill (running_share pot ws) pot ws w shares c.loop-share.share-items c.loop-share.invariant.long (λ k h. c.loop-share.invariant.shared k (omega arith)) in
    record { meant = meant; sums = λ _. rw meant (running_sums pot ws w shares) }
