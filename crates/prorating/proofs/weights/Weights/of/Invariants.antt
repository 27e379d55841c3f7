use Rattle.std.proofs.Common.{◌≡◌, ◌+◌, ◌≤◌, take, drop, length}
use Rattle.std.specs.Slice.Iter.{iter_rest}
use Rattle.prorating.specs.Weights.{padded}
use Rattle.prorating.proofs.weights.Weights.of.Given as goal

abbrev pub invariant-loop-place : goal.invariant-loop-place
invariant-loop-place l = record {
  made : l.list.at ≡ padded (take (length l.yielded) l.weights);
  place : l.place-iterator.a.start ≡ length l.yielded + 1;
  rest : iter_rest l.place-iterator.b ≡ drop (length l.yielded) l.weights;
  few : length l.yielded ≤ length l.weights;
}
