use Rattle.std.proofs.Common.{ℕ, length, ap, refl, arith, rules}
use Rattle.numbered.proofs.Entries.{getD_all}
use Rattle.tables.proofs.accounts.Accounts.none.Goals as goal

pub invariant_of-result : goal.invariant_of-result
invariant_of-result c =
    record {
      earned_long = search rules;
      services_long = search rules;
      few = omega (arith, ap length c.new.ensures);
      light = omega arith;
      earned_sum = refl;
      earned_small = λ k. omega (arith, getD_all {X = ℕ} 0 32 k);
      services_small = λ k. omega (arith, getD_all {X = ℕ} 0 3 k);
    }
