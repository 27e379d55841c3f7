-- Each digit leaves room for the next, and the last gives the value of all.
use Rattle.std.proofs.Common.{ℕ, Bor, ◌+◌, ◌-◌, ◌*◌, ◌<◌, ◌≤◌, Some, map, length, refl, sym, arith, rules}
use Rattle.std.specs.Char.{is_ascii_digit}
use Rattle.std.proofs.lemmas.Fn.{serves_by, chained_keeps}
use Rattle.std.proofs.lemmas.Iterator.{YieldsList-from_slice}
use Rattle.std.proofs.lemmas.Iterator.Consumers.{YieldsList-turn}
use Rattle.std.proofs.lemmas.List.{length-map}
use Rattle.std.proofs.lemmas.Str.Parse.{digits_value_short}
use Rattle.words.proofs.Digits.{own, form_short, Reads, lent_more, not_digit, map_match, ended}
use Rattle.words.proofs.number.Goals as goal

pub try_fold-requires-clause-callable : goal.try_fold-requires-clause-callable
try_fold-requires-clause-callable c =
    serves_by {A = Bor ℕ} {P = Unit {0} × ℕ} _ (λ xs q. Reads (map (λ y. y.now) xs) q.1) (λ xs q x v h k. lent_more xs x q.1 v.1 h (search rules)) _ _ _ _ (tt, refl) (λ xs t q x u ys st h.
    let turn : (length xs < length c.args.field.now) × _ = YieldsList-turn (YieldsList-from_slice c.args.field.now c.iter.ensures.rest) xs t ys (Some x) u x refl st in
    let short = form_short c.args.field.now (sym c.if-not-has_number_form.ensures) in
    let few : length (map (λ y. y.now) xs) ≤ 11 = simp length-map (omega (arith, turn.0, short)) in
    let v = digits_value_short own (map (λ y. y.now) xs) 11 (own.from _ h.0) few in
    omega (arith, h.1, v))

pub returns : goal.returns
returns c =
    let ran = c.try_fold.ensures.ran in
    let so_far = chained_keeps _ (λ xs q. Reads (map (λ y. y.now) xs) q.1) (λ xs q x v h k. lent_more xs x q.1 v.1 h (search rules)) ran.0 _ _ (tt, refl) ran.5 in
    let stops = map_match ran.1 ran.6 (λ e. search rules) (λ x k. (search rules, not_digit (is_ascii_digit x.now) (ran.3 * 10 + (x.now - 48)) (search rules))) in
    ended _ (YieldsList-from_slice c.args.field.now c.iter.ensures.rest) (sym c.if-not-has_number_form.ensures) ran.0 so_far c.try_fold.result ran.1 ran.4 stops
