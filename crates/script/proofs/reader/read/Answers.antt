-- A turn takes one line from what is left to what is done.
use Rattle.std.proofs.Common.{◌≡◌, ◌+◌, ◌<◌, [], ◌∷◌, length, map, Ok, Err, Some, None, vec_items, refl, sym, ap, ◌∙◌, arith, rules, length-append}
use Rattle.std.specs.Option.{option_map}
use Rattle.std.proofs.lemmas.List.{map-append}
use Rattle.std.proofs.lemmas.Result.{err_from_is_err_and}
use Rattle.month.specs.Meant.{meant}
use Rattle.script.specs.declared.fault.Fault.TheVariants.{NoCall}
use Rattle.script.specs.Scripts.{lines_of, calls_from, reading}
use Rattle.script.proofs.Exact.{script_exact}
use Rattle.script.proofs.Whole.{after, text_after, after_end, lines_turn, line_bad, script_turn, script_end}
use Rattle.script.proofs.reader.read.Goals as goal
use Rattle.script.proofs.reader.read.Goals.{After-cut}

-- the line, and what follows it
turn : (c : goal.After-cut) → (lines_of c.loop-rest.rest.now ≡ c.cut.result.0.now ∷ lines_of (text_after c.cut.result.1)) × (length (text_after c.cut.result.1) < length c.loop-rest.rest.now)
turn c =
    let some : 0 < length c.loop-rest.rest.now = search rules in
    lines_turn c.loop-rest.rest.now c.cut.result.0.now c.cut.result.1 some c.cut.ensures

pub returns-in_err-call : goal.returns-in_err-call
returns-in_err-call c =
    let t = turn (goal.at.returns-in_err-call c).After-cut in
    let number = length (vec_items c.loop-rest.calls) + 1 in
    let none : c.in_ok-read_line.field-0 ≡ None = grind arith in
    let fault : c.in_err-call.field-0.0 ≡ NoCall number = search rules in
    let value : reading c.args.bytes.now ≡ Err (NoCall number) =
    c.loop-rest.invariant.gives
    ∙ ap (λ ls. after (map (meant vec_items) (vec_items c.loop-rest.calls)) (calls_from number ls)) t.0
    ∙ line_bad (map (meant vec_items) (vec_items c.loop-rest.calls)) number c.cut.result.0.now (lines_of (text_after c.cut.result.1)) (sym c.in_ok-read_line.ensures.value ∙ ap (option_map (meant vec_items)) none) in
    let p = err_from_is_err_and c.from_residual-in_err-call.result c.from_residual-in_err-call.ensures.1 in
    rw (p.1, p.2, fault) (record { value = value; exact = script_exact c.args.bytes.now (Err (NoCall number)) value })

pub loop-rest-preserved : goal.loop-rest-preserved
loop-rest-preserved c =
    let t = turn (goal.at.loop-rest-preserved c).After-cut in
    let rest = after_end c.cut.result.1 c.unwrap_or-rest.result _ c.unwrap_or-rest.ensures refl in
    let items = c.in_ok-push.ensures.items in
    let some : c.in_ok-read_line.field-0 ≡ Some c.in_ok-call.call = grind arith in
    let count = ap length items ∙ length-append (vec_items c.loop-rest.calls) (c.in_ok-call.call ∷ []) in
    record {
      short = omega (arith, t.1, ap length rest, count);
      gives =
          script_turn (reading c.args.bytes.now) (map (meant vec_items) (vec_items c.loop-rest.calls)) (map (meant vec_items) (vec_items c.push.new.self)) (length (vec_items c.loop-rest.calls) + 1) (length (vec_items c.push.new.self) + 1)
          c.loop-rest.rest.now c.cut.result.0.now (text_after c.cut.result.1) c.unwrap_or-rest.result.now (meant vec_items c.in_ok-call.call)
          c.loop-rest.invariant.gives t.0 (sym c.in_ok-read_line.ensures.value ∙ ap (option_map (meant vec_items)) some)
          (ap (map (meant vec_items)) items ∙ map-append (meant vec_items) (vec_items c.loop-rest.calls) (c.in_ok-call.call ∷ []))
          (ap (λ n. n + 1) count) rest;
    }

pub loop-rest-smaller : goal.loop-rest-smaller
loop-rest-smaller c =
    let t = turn (goal.at.loop-rest-smaller c).After-cut in
    let rest = after_end c.cut.result.1 c.unwrap_or-rest.result _ c.unwrap_or-rest.ensures refl in
    omega (arith, t.1, ap length rest)

pub returns : goal.returns
returns c =
    let none : length c.loop-rest.rest.now ≡ 0 = search rules in
    let value = script_end (reading c.args.bytes.now) (map (meant vec_items) (vec_items c.loop-rest.calls)) (length (vec_items c.loop-rest.calls) + 1) c.loop-rest.rest.now c.loop-rest.invariant.gives none in
    record { value = value; exact = script_exact c.args.bytes.now (Ok (record { calls = c.loop-rest.calls })) value }
