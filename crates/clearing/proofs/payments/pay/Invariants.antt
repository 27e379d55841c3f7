use Rattle.std.proofs.Common.{◌≡◌, ◌*◌, ◌++◌, drop}
use Rattle.clearing.specs.Payments.{still, rows}
use Rattle.clearing.proofs.payments.pay.Given as goal

-- the rows of the companies so far, and what is still due
abbrev pub invariant-loop-from : goal.invariant-loop-from
invariant-loop-from g l =
    (l.due ≡ still (g.R.Rule.shares l.rule) l.debts l.dues l.from)
    × (l.table ≡ rows (g.R.Rule.shares l.rule) l.debts l.dues l.from ++ drop (l.from * 32) l.initial.table)
