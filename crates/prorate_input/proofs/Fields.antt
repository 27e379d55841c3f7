-- A field is read as the number that it writes, and a line as its weights.
use Rattle.std.proofs.Common.{◌≡◌, ℕ, ◌+◌, ◌^◌, ◌<◌, ◌≤◌, Bool, true, false, cond, ltb, List, [], ◌∷◌, map, length, Some, None, Ok, Err, decimal, Option, Result, refl, ap, ◌∙◌, subst, arith}
use Rattle.std.specs.Option.{ok_or}
use Rattle.std.specs.Str.Iter.{LacksByte}
use Rattle.std.specs.List.{join_with_byte, AllByRecursion}
use Rattle.std.specs.Int.{IsInRange}
use Rattle.std.proofs.lemmas.Bool.Decides.{nat_tests}
use Rattle.prorate_input.specs.declared.faults.Fault.{Fault}
use Rattle.prorate_input.specs.declared.faults.Fault.TheVariants.{BadWeight, TooManyWeights}
use Rattle.words.specs.Words.{number_of, split}
use Rattle.prorate_input.specs.Reading.{and_then, weights_from}
use Rattle.words.proofs.Numbers.{number_only, number_back, lacks_number}
use Rattle.words.proofs.Pieces.{split_rejoined, lacks_rejoined}

pub err_ok : {X : Type 0} {e : Fault} {x : X} → ◌≡◌ {A = Result X Fault} (Err e) (Ok x) → ⊥
err_ok h = let z : ◌≡◌ {A = ℕ} 0 1 = cc in omega arith

-- the weights

abbrev Small : ℕ → Type 0
Small w = w < 10 ^ 11

-- the fields are those of ws, of which the first is the k-th weight
abbrev pub Weights : ℕ → List (List ℕ) → List ℕ → Type 0
Weights k fs ws = (fs ≡ map decimal ws) × AllByRecursion Small ws × (k + length ws ≤ 49)

-- the weights after the first
abbrev Rest : ℕ → List (List ℕ) → Type 0
Rest k fs = (vs : List ℕ) → weights_from (k + 1) fs ≡ Ok vs → Weights (k + 1) fs vs

onto_only : (k w : ℕ) (f : List ℕ) (fs : List (List ℕ)) (ws : List ℕ) (m : Result (List ℕ) Fault) → weights_from (k + 1) fs ≡ m → number_of f ≡ Some w → Rest k fs → and_then m (λ vs. Ok (w ∷ vs)) ≡ Ok ws → Weights k (f ∷ fs) ws
onto_only k w f fs ws (Err e) r q ih h = absurd (err_ok h)
onto_only k w f fs ws (Ok vs) r q ih h =
    let rest = ih vs r in
    let first = number_only f w q in
    let is : w ∷ vs ≡ ws = cc in
    let all : Weights k (f ∷ fs) (w ∷ vs) = (ap (λ g. g ∷ fs) first.0 ∙ ap (λ gs. decimal w ∷ gs) rest.0, (first.1, rest.1), omega (arith, rest.2)) in
    subst (Weights k (f ∷ fs)) is all

field_only : (k : ℕ) (f : List ℕ) (fs : List (List ℕ)) (ws : List ℕ) (o : Option ℕ) → number_of f ≡ o → Rest k fs → and_then (ok_or o (BadWeight k)) (λ w. and_then (weights_from (k + 1) fs) (λ vs. Ok (w ∷ vs))) ≡ Ok ws → Weights k (f ∷ fs) ws
field_only k f fs ws None q ih h = absurd (err_ok h)
field_only k f fs ws (Some w) q ih h = onto_only k w f fs ws (weights_from (k + 1) fs) refl q ih h

turn_only : (k : ℕ) (f : List ℕ) (fs : List (List ℕ)) (ws : List ℕ) (b : Bool) → ltb 48 k ≡ b → (k + 1 ≤ 49 → Rest k fs) → cond b (Err TooManyWeights) (and_then (ok_or (number_of f) (BadWeight k)) (λ w. and_then (weights_from (k + 1) fs) (λ vs. Ok (w ∷ vs)))) ≡ Ok ws → Weights k (f ∷ fs) ws
turn_only k f fs ws true e ih h = absurd (err_ok h)
turn_only k f fs ws false e ih h = field_only k f fs ws (number_of f) refl (ih (grind (arith, nat_tests))) h

pub weights_only : (k : ℕ) (fs : List (List ℕ)) (ws : List ℕ) → k ≤ 49 → weights_from k fs ≡ Ok ws → Weights k fs ws
weights_only k [] ws le h = let is : [] ≡ ws = cc in subst (Weights k []) is (refl, tt, omega arith)
weights_only k (f ∷ fs) ws le h = turn_only k f fs ws (ltb 48 k) refl (λ room vs. weights_only (k + 1) fs vs room) h

pub weights_back : (k : ℕ) (ws : List ℕ) → AllByRecursion Small ws → k + length ws ≤ 49 → weights_from k (map decimal ws) ≡ Ok ws
weights_back k [] all few = refl
weights_back k (w ∷ ws) all few =
    let t : ltb 48 k ≡ false = grind (arith, nat_tests) in
    let n = number_back w all.0 in
    let r = weights_back (k + 1) ws all.1 (omega arith) in
    rw (t, n, r)

-- the line of the weights

-- no weight's digits have a byte that is no digit
lacks_all : (b : ℕ) (ws : List ℕ) → (IsInRange 48 57 b → ⊥) → AllByRecursion Small ws → AllByRecursion (LacksByte b) (map decimal ws)
lacks_all b [] out all = tt
lacks_all b (w ∷ ws) out all = (lacks_number b w out all.0, lacks_all b ws out all.1)

pub split_line : (ws : List ℕ) → AllByRecursion Small ws → 1 ≤ length ws → split 32 (join_with_byte 32 (map decimal ws)) ≡ map decimal ws
split_line [] all some = absurd (omega arith)
split_line (w ∷ ws) all some = split_rejoined 32 (decimal w) (map decimal ws) (lacks_all 32 (w ∷ ws) (λ i. omega arith) all)

pub lacks_line : (ws : List ℕ) → AllByRecursion Small ws → LacksByte 10 (join_with_byte 32 (map decimal ws))
lacks_line ws all = lacks_rejoined 10 32 (map decimal ws) (λ e. omega arith) (lacks_all 10 ws (λ i. omega arith) all)
