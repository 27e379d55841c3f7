-- What is done and what is left give the calls.
use Rattle.std.proofs.Common.{◌≡◌, ◌+◌, ◌≤◌, length, map, vec_items}
use Rattle.month.specs.Meant.{meant}
use Rattle.script.specs.Scripts.{lines_of, calls_from, reading}
use Rattle.script.proofs.Whole.{after}
use Rattle.script.proofs.reader.read.Given as goal

abbrev pub invariant-loop-rest : goal.invariant-loop-rest
invariant-loop-rest l =
    record {
      short : length (vec_items l.calls) + length l.rest ≤ length l.bytes;
      gives : reading l.bytes ≡ after (map (meant vec_items) (vec_items l.calls)) (calls_from (length (vec_items l.calls) + 1) (lines_of l.rest));
    }

abbrev pub decreases-loop-rest : goal.decreases-loop-rest
decreases-loop-rest l = length l.rest
