-- What is done and what is left give the readings.
use Rattle.std.proofs.Common.{◌≡◌, ◌++◌, vec_items}
use Rattle.std.specs.Slice.Iter.{chunks_exact_rest, chunks_exact_size}
use Rattle.script.specs.Lines.{pairs}
use Rattle.script.proofs.number.paired.Given as goal

abbrev pub invariant-loop-pair : goal.invariant-loop-pair
invariant-loop-pair l =
    (chunks_exact_size l.pair-iterator ≡ 2)
    × (pairs l.numbers ≡ vec_items l.readings ++ pairs (chunks_exact_rest l.pair-iterator))
