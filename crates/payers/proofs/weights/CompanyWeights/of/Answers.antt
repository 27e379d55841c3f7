use Rattle.std.proofs.Common.{rules, ◌≡◌, ◌≤◌, ℕ, ◌+◌, min, List, [], ◌∷◌, sum, arith}
use Rattle.std.specs.List.{fold}
use Rattle.std.proofs.lemmas.Iterator.{YieldsList-from_slice}
use Rattle.std.proofs.lemmas.Iterator.Consumers.{fold_from_yields_List}
use Rattle.std.proofs.lemmas.List.Sums.{sum_by-cons}
use Rattle.payers.proofs.weights.CompanyWeights.of.Goals as goal

-- a sum that stays at the largest number that fits
abbrev saturated : ℕ → ℕ → ℕ
saturated total weight = min (total + weight) 18446744073709551615

total_saturated : (total : ℕ) (ws : List ℕ) → total ≤ 18446744073709551615 → fold saturated total ws ≡ min (total + sum ws) 18446744073709551615
total_saturated total [] fits = omega arith
total_saturated total (w ∷ ws) fits = omega (arith, sum_by-cons (λ x. x) w ws, total_saturated (saturated total w) ws (omega arith))

pub returns-then-total-gt-LIMIT : goal.returns-then-total-gt-LIMIT
returns-then-total-gt-LIMIT c =
    let ws = c.args.weights.now in
    let total = fold_from_yields_List _ saturated 0 c.fold-total.result c.fold-total.ensures.ran (YieldsList-from_slice ws cc) (λ a x b q called. search rules) in
    omega (arith, total, total_saturated 0 ws (omega arith))

pub invariant_of-result : goal.invariant_of-result
invariant_of-result c =
    let ws = c.args.weights.now in
    let total = fold_from_yields_List _ saturated 0 c.fold-total.result c.fold-total.ensures.ran (YieldsList-from_slice ws cc) (λ a x b q called. search rules) in
    record { long = omega arith; light = omega (arith, total, total_saturated 0 ws (omega arith)) }
