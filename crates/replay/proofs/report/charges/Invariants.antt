-- The charges of the companies so far.
use Rattle.std.proofs.Common.{◌≡◌, vec_items}
use Rattle.replay.specs.Reports.{charges_of}
use Rattle.replay.proofs.report.charges.Given as goal

abbrev pub invariant-loop-index : goal.invariant-loop-index
invariant-loop-index l = vec_items l.list ≡ charges_of l.index l.charges
