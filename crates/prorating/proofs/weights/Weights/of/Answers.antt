use Rattle.std.proofs.Common.{◌≡◌, ℕ, ◌+◌, ◌<◌, ◌≤◌, List, ◌∷◌, length, get_or, take, drop, Ok, Err, sym, ap, ◌∙◌, ⊎_elim, arith, length-append, length-drop}
use Rattle.std.specs.Slice.Iter.{iter_rest}
use Rattle.std.proofs.lemmas.List.{drop_more}
use Rattle.std.proofs.lemmas.Result.{err_from_is_err_and}
use Rattle.prorating.specs.Weights.{padded, put_answer, put_after}
use Rattle.prorating.proofs.Puts.{next_refused, next_admitted, made_whole}
use Rattle.prorating.proofs.weights.Weights.of.Goals as goal
use Rattle.prorating.proofs.weights.Weights.of.Goals.{In-Some}

pub loop-place-init : goal.loop-place-init
unfolding padded
loop-place-init c =
    let same = c.into_iter-place-iterator.ensures.into_iter_gives in
    record {
      made = c.empty-list.ensures;
      place = ap (λ z. z.a.start) same ∙ ap (λ r. r.start) c.zip-place-items.ensures.first;
      rest = ap (λ z. iter_rest z.b) same ∙ c.zip-place-items.ensures.second.0;
      few = omega arith;
    }

-- the first of what is left of a list
front : (xs : List ℕ) (k x : ℕ) (rest : List ℕ) → x ∷ rest ≡ drop k xs → (k < length xs) × (x ≡ get_or xs k 0) × (rest ≡ drop (k + 1) xs)
front xs k x rest is =
    let inside : k < length xs = omega (arith, ap length is, length-drop k xs) in
    let more = drop_more xs k 0 inside in
    (inside, cc, cc)

-- this turn's place, and its weight
turn : (c : In-Some) → (length c.loop-place.yielded < length c.args.weights.now) × (c.in-Some.place ≡ length c.loop-place.yielded + 1) × (c.in-Some.weight.now ≡ get_or c.args.weights.now (length c.loop-place.yielded) 0) × (iter_rest c.next.new.self.b ≡ drop (length c.loop-place.yielded + 1) c.args.weights.now)
turn c =
    let h = front c.args.weights.now (length c.loop-place.yielded) c.in-Some.weight.now (iter_rest c.next.new.self.b) (sym c.in-Some.ensures.steps.1 ∙ c.loop-place.invariant.rest) in
    (h.0, c.in-Some.ensures.steps.0.0 ∙ c.loop-place.invariant.place, h.1, h.2)

pub returns-in_err-put : goal.returns-in_err-put
returns-in_err-put c =
    let p = err_from_is_err_and c.from_residual.result c.from_residual.ensures.1 in
    let ws = c.args.weights.now in
    let k = length c.loop-place.yielded in
    let e = c.in_err-put.field-0.0 in
    let t = turn (goal.at.returns-in_err-put c).In-Some in
    let said : Err e ≡ put_answer (padded (take k ws)) (k + 1) (get_or ws k 0) =
    rw (← c.loop-place.invariant.made, ← t.1, ← t.2) c.in_err-put.ensures.answered in
    rw (p.1, p.2) (next_refused ws k t.0 (omega arith) e said)

pub loop-place-preserved : goal.loop-place-preserved
loop-place-preserved c =
    let ws = c.args.weights.now in
    let k = length c.loop-place.yielded in
    let t = turn (goal.at.loop-place-preserved c).In-Some in
    let said : Ok tt ≡ put_answer (padded (take k ws)) (k + 1) (get_or ws k 0) =
    rw (← c.loop-place.invariant.made, ← t.1, ← t.2) c.in_ok-put.ensures.answered in
    let after : c.put.new.self.at ≡ put_after (padded (take k ws)) (k + 1) (get_or ws k 0) =
    rw (← c.loop-place.invariant.made, ← t.1, ← t.2) c.put.ensures.after in
    rw length-append record {
      made = next_admitted ws k t.0 (omega arith) c.put.new.self.at said after;
      place = omega (arith, c.in-Some.ensures.steps);
      rest = t.3;
      few = omega arith;
    }

pub returns : goal.returns
returns c =
    let n = length c.loop-place.yielded in
    let all : length c.args.weights.now ≤ n =
    ⊎_elim
    (λ h. omega (arith, h.1.0))
    (λ h. omega (arith, h.1.0, ap length c.loop-place.invariant.rest, length-drop n c.args.weights.now))
    c.in-None.ensures.steps in
    made_whole c.args.weights.now c.loop-place.list.at n (omega arith) all c.loop-place.invariant.made (omega arith)
