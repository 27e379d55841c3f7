use Rattle.std.proofs.Common.{◌≡◌, ℕ, ◌<◌, ◌≤◌, length, get_or, take, sum}
use Rattle.prorating.specs.Running.{part_to, running_share}
use Rattle.prorating.proofs.running.RunningRule.prorate.Given as goal

abbrev pub invariant-loop-share : goal.invariant-loop-share
invariant-loop-share l = record {
  long : length l.share-items ≡ 48;
  weighed : l.weight ≡ sum (take l.share-index l.weights.at);
  parted : l.given ≡ part_to l.pot l.weights.at l.share-index;
  shared : (j : ℕ) → j < l.share-index → get_or l.share-items j 0 ≡ running_share l.pot l.weights.at j;
  left : (j : ℕ) → l.share-index ≤ j → get_or l.share-items j 0 ≡ get_or l.weights.at j 0;
}
