use Rattle.std.proofs.Common.{◌≡◌, ℕ, ◌<◌, ◌≤◌, [], length, get_or}
use Rattle.prorating.specs.Weights.{limit}
use Rattle.month.specs.Book.{book}
use Rattle.month.specs.Pots.{pot_charges}
use Rattle.month.specs.Steps.{all_pots}
use Rattle.month.proofs.month.Month.charged.Given as goal

abbrev pub invariant-loop-k : goal.invariant-loop-k
invariant-loop-k g l =
    (length l.charges-items ≡ 19)
    × ((j : ℕ) → j < l.k → get_or l.charges-items j [] ≡ pot_charges (g.R.Rule.shares l.rule) (book l.self).participants (all_pots (book l.self)) j)
    × ((p c : ℕ) → get_or (get_or l.charges-items p []) c 0 ≤ limit)
