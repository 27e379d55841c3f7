use Rattle.std.proofs.Common.{ℕ, arith}
use Rattle.numbered.proofs.Entries.{getD_all}
use Rattle.month.proofs.Charged.{charge_small}
use Rattle.month.proofs.month.Month.pot_charges.Goals as goal

pub returns-in_default-clause-small : goal.returns-in_default-clause-small
returns-in_default-clause-small g c = λ k. omega (arith, getD_all {X = ℕ} 0 32 k)

pub returns-clause-small : goal.returns-clause-small
returns-clause-small g c = charge_small _ _ _ c.charges.ensures.charged
