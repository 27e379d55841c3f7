use Rattle.month.specs.Book.{book}
use Rattle.history.proofs.Runs.{Made}
use Rattle.history.proofs.replay.replay.Given as goal

abbrev pub invariant-loop-i : goal.invariant-loop-i
invariant-loop-i g l = Made g.T.AsSlice.items g.R.Rule.shares l.calls l.initial.answers l.i l.answers (book l.month)
