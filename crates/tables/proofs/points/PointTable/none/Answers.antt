use Rattle.std.proofs.Common.{◌≡◌, ℕ, replicate, slice_index_or, ap, subst, arith, rules}
use Rattle.tables.specs.Points.{no_point}
use Rattle.numbered.proofs.Entries.{getD_all}
use Rattle.tables.proofs.points.PointTable.none.Goals as goal

pub invariant_of-result : goal.invariant_of-result
invariant_of-result c =
    let none : no_point ≡ c.default.result = search rules in
    let all : (k : ℕ) → slice_index_or (replicate 32 c.default.result) k no_point ≡ no_point = λ k. subst (λ p. slice_index_or (replicate 32 p) k no_point ≡ no_point) none (getD_all no_point 32 k) in
    record {
      long = search rules;
      few = omega arith;
      counts = λ k. omega (arith, ap (λ p. p.count) (all k));
      seconds = λ k. omega (arith, ap (λ p. p.seconds) (all k));
    }
