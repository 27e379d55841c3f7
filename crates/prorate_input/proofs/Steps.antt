-- The steps of the reader.
use Rattle.std.proofs.Common.{◌≡◌, ℕ, suc, ◌+◌, ◌<◌, ◌≤◌, Bool, true, false, cond, eqb, ltb, List, [], ◌∷◌, ◌++◌, length, take, drop, get_or, take-append-drop, drop-cons, add-one, Ok, Err, Result, sym, refl, ap, ◌∙◌, append_assoc, arith, ne_eqb}
use Rattle.std.specs.Option.{ok_or}
use Rattle.std.proofs.lemmas.Bool.Decides.{nat_tests}
use Rattle.prorate_input.specs.declared.faults.Fault.{Fault}
use Rattle.prorate_input.specs.declared.faults.Fault.TheVariants.{BadWeight, TooManyWeights}
use Rattle.words.specs.Words.{number_of, onto, split}
use Rattle.prorate_input.specs.Reading.{and_then, weights_from, at_end}
use Rattle.words.proofs.Pieces.{first_piece}

-- nothing follows just where the pieces are those of the empty text
pub split_end : (mark : ℕ) (s : List ℕ) → at_end (split mark s) ≡ eqb (length s) 0
split_end mark [] = refl
split_end mark (c ∷ s) =
    let p = first_piece mark s in
    ap (λ ps. at_end (cond (eqb c mark) ([] ∷ ps) (onto c ps))) p.2 ∙ by (eqb c mark) p.0 p.1 ∙ sym (ne_eqb (length (c ∷ s)) 0 (omega arith))
  where
    by : (b : Bool) (f : List ℕ) (fs : List (List ℕ)) → at_end (cond b ([] ∷ f ∷ fs) ((c ∷ f) ∷ fs)) ≡ false
    by true f fs = refl
    by false f fs = refl

-- the weights that are done, and then those to come
abbrev pub after : List ℕ → Result (List ℕ) Fault → Result (List ℕ) Fault
after done m = and_then m (λ ws. Ok (done ++ ws))

pub after_none : (m : Result (List ℕ) Fault) → after [] m ≡ m
after_none (Ok ws) = refl
after_none (Err e) = refl

after_one : (done : List ℕ) (w : ℕ) (m : Result (List ℕ) Fault) → after done (and_then m (λ ws. Ok (w ∷ ws))) ≡ after (done ++ w ∷ []) m
after_one done w (Ok ws) = ap (λ l. Ok l) (sym (append_assoc done (w ∷ []) ws))
after_one done w (Err e) = refl

module _ (k : ℕ) (f : List ℕ) (fs : List (List ℕ)) (few : k < 48) where
  turn : weights_from (k + 1) (f ∷ fs) ≡ and_then (ok_or (number_of f) (BadWeight (k + 1))) (λ w. and_then (weights_from (k + 1 + 1) fs) (λ ws. Ok (w ∷ ws)))
  turn = let t : ltb 48 (k + 1) ≡ false = grind (arith, nat_tests) in rw t

  pub turn_bad : (e : Fault) → ok_or (number_of f) (BadWeight (k + 1)) ≡ Err e → weights_from (k + 1) (f ∷ fs) ≡ Err e
  turn_bad e h = turn ∙ ap (λ m. and_then m (λ w. and_then (weights_from (k + 1 + 1) fs) (λ ws. Ok (w ∷ ws)))) h

  pub turn_good : (w : ℕ) (done : List ℕ) → ok_or (number_of f) (BadWeight (k + 1)) ≡ Ok w → after done (weights_from (k + 1) (f ∷ fs)) ≡ after (done ++ w ∷ []) (weights_from (k + 1 + 1) fs)
  turn_good w done h =
      ap (after done) (turn ∙ ap (λ m. and_then m (λ w. and_then (weights_from (k + 1 + 1) fs) (λ ws. Ok (w ∷ ws)))) h)
      ∙ after_one done w (weights_from (k + 1 + 1) fs)

pub too_many : (k : ℕ) (f : List ℕ) (fs : List (List ℕ)) → 48 ≤ k → weights_from (k + 1) (f ∷ fs) ≡ Err TooManyWeights
too_many k f fs l = let t : ltb 48 (k + 1) ≡ true = grind (arith, nat_tests) in rw t

-- a list from its n-th element on
pub parted : (all done : List (List ℕ)) (n : ℕ) (f : List ℕ) → done ≡ take n all → n < length all → f ≡ get_or all n f → all ≡ done ++ f ∷ drop (n + 1) all
parted all done n f e l g = sym (take-append-drop n all) ∙ ap (λ d. d ++ drop n all) (sym e) ∙ ap (λ r. done ++ r) (rw (add-one, drop-cons all n f l) (ap (λ x. x ∷ drop (suc n) all) (sym g)))
