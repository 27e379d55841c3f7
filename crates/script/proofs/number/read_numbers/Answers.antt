-- A turn takes one field from what is left to what is done.
use Rattle.std.proofs.Common.{◌≡◌, ◌+◌, ◌∷◌, eqb, length-append, Some, length, drop, vec_items, append-nil, sym, ap, subst, ◌∙◌, arith, rules}
use Rattle.std.proofs.lemmas.Iterator.{YieldsList}
use Rattle.std.proofs.lemmas.List.{drop_all}
use Rattle.std.proofs.lemmas.Iterator.Splits.{YieldsList-from_slice_split}
use Rattle.std.proofs.lemmas.Iterator.Consumers.{YieldsList-turn, YieldsList-end, YieldsList-at}
use Rattle.words.specs.Words.{following}
use Rattle.words.proofs.Pieces.{parts_are_pieces}
use Rattle.script.specs.Lines.{numbers_of}
use Rattle.script.proofs.Turns.{after, after_none, number_turn, number_bad, from_place}
use Rattle.script.proofs.number.read_numbers.Given as given
use Rattle.script.proofs.number.read_numbers.Goals as goal
use Rattle.script.proofs.number.read_numbers.Goals.{After-into_iter-field-iterator, In-Some-field}

-- the fields come in their order
road : (c : After-into_iter-field-iterator) → YieldsList given.iterator-loop-field.next_gives (λ x. x.now) c.into_iter-field-iterator.result (following 32 c.args.fields)
road c =
    let whole : YieldsList given.iterator-loop-field.next_gives (λ x. x.now) c.split-field-items.result _ =
    YieldsList-from_slice_split _ (λ b. eqb b 32) c.in-Some.text.now c.split-field-items.ensures.rest c.split-field-items.ensures.done c.split-field-items.ensures.closure (λ x b q called. search rules) in
    subst (YieldsList given.iterator-loop-field.next_gives (λ x. x.now) c.into_iter-field-iterator.result) (parts_are_pieces 32 c.in-Some.text.now ∙ sym (ap (following 32) c.in-Some.is)) (YieldsList-at c.into_iter-field-iterator.ensures.into_iter_gives whole)

-- the numbers so far, and those of the field of this turn and the others
turn : (c : In-Some-field) → numbers_of (following 32 c.args.fields) ≡ after (vec_items c.loop-field.numbers) (numbers_of (c.in-Some-field.field.now ∷ drop (length c.loop-field.yielded + 1) (following 32 c.args.fields)))
turn c =
    let r = road (goal.at.In-Some-field c).After-into_iter-field-iterator in
    let t = YieldsList-turn r c.loop-field.yielded _ c.loop-field.yielded_by _ _ c.in-Some-field.field c.in-Some-field.is c.next.ensures.steps in
    c.loop-field.invariant
    ∙ ap (λ fs. after (vec_items c.loop-field.numbers) (numbers_of fs)) (from_place (following 32 c.args.fields) (length c.loop-field.yielded) c.in-Some-field.field.now t.0 t.1)

pub loop-field-init : goal.loop-field-init
loop-field-init c = rw c.new-numbers.ensures.items (sym (after_none (numbers_of (following 32 c.args.fields))))

pub returns-in_default-number : goal.returns-in_default-number
returns-in_default-number c =
    sym (
    turn (goal.at.returns-in_default-number c).In-Some-field
    ∙ number_bad (vec_items c.loop-field.numbers) c.in-Some-field.field.now (drop (length c.loop-field.yielded + 1) (following 32 c.args.fields)) (sym c.number.ensures ∙ c.in_default-number.is))

pub loop-field-preserved : goal.loop-field-preserved
loop-field-preserved c = rw (length-append, c.in_ok-push.ensures.items) (
    turn (goal.at.loop-field-preserved c).In-Some-field
    ∙ number_turn (vec_items c.loop-field.numbers) c.in-Some-field.field.now (drop (length c.loop-field.yielded + 1) (following 32 c.args.fields)) c.in-Some-number.n (sym c.number.ensures ∙ c.in-Some-number.is))

pub returns : goal.returns
returns c =
    let end = YieldsList-end (road (goal.at.returns c).After-into_iter-field-iterator) c.loop-field.yielded _ c.loop-field.yielded_by _ _ c.in-None.is c.next.ensures.steps in
    let left = drop_all (length c.loop-field.yielded) (following 32 c.args.fields) (omega (arith, end.1)) in
    sym (c.loop-field.invariant ∙ ap (λ fs. after (vec_items c.loop-field.numbers) (numbers_of fs)) left ∙ ap (λ ns. Some ns) (append-nil _))
