-- What an input says: its pot and its weights, or the first fault in reading order.
--
-- The pot is judged first, then whether there is a second line, then the weights from the left, and last what follows them.
use Rattle.std.specs.Prelude.{ℕ, ◌+◌, Bool, true, false, cond, List, [], ◌∷◌, Ok, Err, Result, nat_lt}
use Rattle.std.specs.Option.{ok_or}
use Rattle.prorate_input.specs.declared.faults.Fault.{Fault}
use Rattle.prorate_input.specs.declared.faults.Fault.TheVariants.{BadPot, NoSecondLine, BadWeight, TooManyWeights, BytesAfterEnd}
use Rattle.words.specs.Words.{number_of, split}

-- what `?` does: the first fault, or else what comes next
abbrev pub and_then : {X Y : Type 0} → Result X Fault → (X → Result Y Fault) → Result Y Fault
and_then (Ok x) next = next x
and_then (Err e) next = Err e

-- the numbers that fields write, of which the first is the k-th weight. A 49th field is one too many, whatever it holds
abbrev pub weights_from : ℕ → List (List ℕ) → Result (List ℕ) Fault
weights_from k [] = Ok []
weights_from k (f ∷ fs) = cond (nat_lt 48 k) (Err TooManyWeights) (and_then (ok_or (number_of f) (BadWeight k)) (λ w. and_then (weights_from (k + 1) fs) (λ ws. Ok (w ∷ ws))))

-- the pot with the weights of the second line, its pieces between spaces
abbrev pub with_weights : ℕ → List ℕ → Result (ℕ × List ℕ) Fault
with_weights pot line = and_then (weights_from 1 (split 32 line)) (λ ws. Ok (pot, ws))

-- the pieces after the second line: none, or the empty one after its line end
abbrev pub at_end : List (List ℕ) → Bool
at_end [] = true
at_end ([] ∷ []) = true
at_end ([] ∷ line ∷ lines) = false
at_end ((c ∷ cs) ∷ lines) = false

abbrev pub second_line : ℕ → List (List ℕ) → Result (ℕ × List ℕ) Fault
second_line pot [] = Err NoSecondLine
second_line pot (line ∷ lines) = and_then (with_weights pot line) (λ all. cond (at_end lines) (Ok all) (Err BytesAfterEnd))

-- every text has a first line, so there is always one to judge
abbrev pub first_line : List (List ℕ) → Result (ℕ × List ℕ) Fault
first_line [] = Err BadPot
first_line (line ∷ lines) = and_then (ok_or (number_of line) BadPot) (λ pot. second_line pot lines)

-- the pot and the weights of an input, whose lines are its pieces between line ends
abbrev pub reading : List ℕ → Result (ℕ × List ℕ) Fault
reading bytes = first_line (split 10 bytes)
