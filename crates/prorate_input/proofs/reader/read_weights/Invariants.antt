-- The fields so far give the weights so far.
use Rattle.std.proofs.Common.{◌≡◌, ℕ, ◌+◌, List, ◌++◌, map, length, take}
use Rattle.prorate_input.specs.Reading.{weights_from}
use Rattle.prorate_input.proofs.Steps.{after}
use Rattle.prorate_input.proofs.reader.read_weights.Given as goal

abbrev pub invariant-loop-field : goal.invariant-loop-field
invariant-loop-field l =
    (goal.iterator-loop-field).can_next l.field-iterator
    × (goal.iterator-loop-field).is_finite l.field-iterator
    × (l.input.pot ≡ l.pot)
    × (length l.input.weights ≡ 48)
    × ((fs : List (List ℕ)) → weights_from 1 (map (λ x. x.now) l.yielded ++ fs) ≡ after (take l.input.count l.input.weights) (weights_from (l.input.count + 1) fs))
