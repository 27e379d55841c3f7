-- A turn takes one field to one weight.
use Rattle.std.proofs.Common.{◌≡◌, ◌+◌, ◌<◌, ◌≤◌, [], ◌∷◌, ◌++◌, map, eqb, length, take, drop, Ok, Err, append_assoc, append-nil, length-set, sym, ap, subst, ◌∙◌, arith, rules}
use Rattle.std.proofs.lemmas.Bool.Decides.{nat_tests}
use Rattle.std.proofs.lemmas.Iterator.{YieldsList}
use Rattle.std.proofs.lemmas.Iterator.Splits.{YieldsList-from_slice_split}
use Rattle.std.proofs.lemmas.Iterator.Consumers.{YieldsList-so_far, YieldsList-turn, YieldsList-end, YieldsList-at}
use Rattle.std.specs.Option.{ok_or}
use Rattle.std.proofs.lemmas.List.{map-append, take_more_set}
use Rattle.prorate_input.specs.declared.faults.Fault.TheVariants.{BadWeight}
use Rattle.words.specs.Words.{number_of, split}
use Rattle.words.proofs.Pieces.{parts_are_pieces}
use Rattle.prorate_input.specs.Reading.{and_then, weights_from, with_weights}
use Rattle.prorate_input.proofs.Steps.{after, turn_bad, turn_good, too_many, parted}
use Rattle.prorate_input.proofs.reader.read_weights.Given as given
use Rattle.prorate_input.proofs.reader.read_weights.Goals as goal
use Rattle.prorate_input.proofs.reader.read_weights.Goals.{After-into_iter-field-iterator, In-Some, After-add}

-- the fields come in their order
road : (c : After-into_iter-field-iterator) → YieldsList given.iterator-loop-field.next_gives (λ x. x.now) c.into_iter-field-iterator.result (split 32 c.args.line.now)
road c =
    let whole : YieldsList given.iterator-loop-field.next_gives (λ x. x.now) c.split-field-items.result _ =
    YieldsList-from_slice_split _ (λ b. eqb b 32) c.args.line.now c.split-field-items.ensures.rest c.split-field-items.ensures.done c.split-field-items.ensures.closure (λ x b q called. search rules) in
    subst (YieldsList given.iterator-loop-field.next_gives (λ x. x.now) c.into_iter-field-iterator.result) (parts_are_pieces 32 c.args.line.now) (YieldsList-at c.into_iter-field-iterator.ensures.into_iter_gives whole)

-- the fields so far, the field of this turn, and the others
turn : (c : In-Some) → split 32 c.args.line.now ≡ map (λ x. x.now) c.loop-field.yielded ++ c.in-Some.field.now ∷ drop (length c.loop-field.yielded + 1) (split 32 c.args.line.now)
turn c =
    let r = road (goal.at.In-Some c).After-into_iter-field-iterator in
    let t = YieldsList-turn r c.loop-field.yielded _ c.loop-field.yielded_by _ _ c.in-Some.field c.in-Some.is c.next.ensures.steps in
    parted (split 32 c.args.line.now) _ (length c.loop-field.yielded) c.in-Some.field.now (YieldsList-so_far r c.loop-field.yielded _ c.loop-field.yielded_by) t.0 t.1

-- so the weights of the line are those so far, and those of this field and the others
whole : (c : In-Some) → weights_from 1 (split 32 c.args.line.now) ≡ after (take c.loop-field.input.count c.loop-field.input.weights) (weights_from (c.loop-field.input.count + 1) (c.in-Some.field.now ∷ drop (length c.loop-field.yielded + 1) (split 32 c.args.line.now)))
whole c = ap (weights_from 1) (turn c) ∙ c.loop-field.invariant.4 (c.in-Some.field.now ∷ drop (length c.loop-field.yielded + 1) (split 32 c.args.line.now))

pub returns-then-is_full : goal.returns-then-is_full
returns-then-is_full c =
    let all = whole (goal.at.returns-then-is_full c).In-Some in
    let full : 48 ≤ c.loop-field.input.count = grind (arith, nat_tests) in
    let many = too_many c.loop-field.input.count c.in-Some.field.now (drop (length c.loop-field.yielded + 1) (split 32 c.args.line.now)) full in
    sym (ap (λ m. and_then m (λ ws. Ok (c.args.pot, ws))) (all ∙ ap (after (take c.loop-field.input.count c.loop-field.input.weights)) many))

pub returns-in_err-ok_or : goal.returns-in_err-ok_or
returns-in_err-ok_or c =
    let all = whole (goal.at.returns-in_err-ok_or c).In-Some in
    let few : c.loop-field.input.count < 48 = grind (arith, nat_tests) in
    let said : ok_or (number_of c.in-Some.field.now) (BadWeight (c.loop-field.input.count + 1)) ≡ Err c.in_err-ok_or.field-0.0 = search rules in
    let bad = turn_bad c.loop-field.input.count c.in-Some.field.now (drop (length c.loop-field.yielded + 1) (split 32 c.args.line.now)) few c.in_err-ok_or.field-0.0 said in
    let end : with_weights c.args.pot c.args.line.now ≡ Err c.in_err-ok_or.field-0.0 = ap (λ m. and_then m (λ ws. Ok (c.args.pot, ws))) (all ∙ ap (after (take c.loop-field.input.count c.loop-field.input.weights)) bad) in
    search rules

-- the weights with the one that is added
added : (c : After-add) → take c.add.new.self.count c.add.new.self.weights ≡ take c.loop-field.input.count c.loop-field.input.weights ++ c.in_ok-ok_or.field-0 ∷ []
added c =
    let room : c.loop-field.input.count < length c.loop-field.input.weights = omega arith in
    ap (λ n. take n c.add.new.self.weights) c.add.ensures.count
    ∙ ap (take (c.loop-field.input.count + 1)) c.add.ensures.weights
    ∙ take_more_set c.loop-field.input.weights c.loop-field.input.count c.in_ok-ok_or.field-0 room

pub loop-field-preserved : goal.loop-field-preserved
loop-field-preserved c =
    let few : c.loop-field.input.count < 48 = grind (arith, nat_tests) in
    let said : ok_or (number_of c.in-Some.field.now) (BadWeight (c.loop-field.input.count + 1)) ≡ Ok c.in_ok-ok_or.field-0 = search rules in
    let done = take c.loop-field.input.count c.loop-field.input.weights in
    let more = added (goal.at.loop-field-preserved c).After-add in (
      search rules,
      tt,
      c.add.ensures.pot ∙ c.loop-field.invariant.2,
      ap length c.add.ensures.weights ∙ simp length-set c.loop-field.invariant.3,
      λ fs.
          ap (λ ds. weights_from 1 (ds ++ fs)) (map-append (λ x. x.now) c.loop-field.yielded (c.in-Some.field ∷ []))
          ∙ ap (weights_from 1) (append_assoc (map (λ x. x.now) c.loop-field.yielded) (c.in-Some.field.now ∷ []) fs)
          ∙ c.loop-field.invariant.4 (c.in-Some.field.now ∷ fs)
          ∙ turn_good c.loop-field.input.count c.in-Some.field.now fs few c.in_ok-ok_or.field-0 done said
          ∙ ap (λ ds. after ds (weights_from (c.loop-field.input.count + 1 + 1) fs)) (sym more)
          ∙ ap (λ n. after (take c.add.new.self.count c.add.new.self.weights) (weights_from (n + 1) fs)) (sym c.add.ensures.count),
    )

pub returns : goal.returns
returns c =
    let end = YieldsList-end (road (goal.at.returns c).After-into_iter-field-iterator) c.loop-field.yielded _ c.loop-field.yielded_by _ _ c.in-None.is c.next.ensures.steps in
    let all = ap (weights_from 1) (sym end.0 ∙ sym (append-nil _)) ∙ c.loop-field.invariant.4 [] in
    ap (λ p. Ok (p, take c.loop-field.input.count c.loop-field.input.weights)) c.loop-field.invariant.2
    ∙ ap (λ ws. Ok (c.args.pot, ws)) (sym (append-nil (take c.loop-field.input.count c.loop-field.input.weights)))
    ∙ sym (ap (λ m. and_then m (λ ws. Ok (c.args.pot, ws))) all)
