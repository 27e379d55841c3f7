-- Pots up to a threshold are shared by the running rule, larger ones by the largest remainders. It keeps the laws, since both rules do.
use Rattle.std.specs.Prelude.{ℕ, cond, nat_le}
use Rattle.prorating.specs.Laws.{Sharing, Keeps}
use Rattle.prorating.specs.Chosen.{chosen_keeps}
use Rattle.prorating.specs.Running.{running}
use Rattle.prorating.specs.Largest.{largest}
use Rattle.prorating.specs.PartsTo.{running_keeps}
use Rattle.prorating.specs.OddCents.{largest_keeps}

abbrev pub mixed : ℕ → Sharing
mixed threshold pot ws = cond (nat_le pot threshold) (running pot ws) (largest pot ws)

pub mixed_keeps : (threshold : ℕ) → Keeps (mixed threshold)
mixed_keeps threshold = chosen_keeps (λ pot. nat_le pot threshold) running largest running_keeps largest_keeps
