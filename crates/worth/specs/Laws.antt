-- What is true of the worth of every kind of line.
use Rattle.std.specs.Prelude.{◌≡◌, ℕ, ◌+◌, ◌*◌, ◌<◌, ◌≤◌, true, false}
use Rattle.worth.specs.declared.line.Line.{Line}
use Rattle.worth.specs.declared.line.Line.TheVariants.{OverCost, Opportunity}
use Rattle.worth.specs.declared.quotient.Quotient.{Quotient}
use Rattle.worth.specs.Limits.{within}
use Rattle.worth.specs.Lines.{needs_performance, formula, worth}

-- So many cents are less than one cent below the quotient, and not above it.
abbrev pub LessThanACentBelow : ℕ → Quotient → Type 0
LessThanACentBelow cents q = (cents * q.divisor ≤ q.numerator) × (q.numerator < (cents + 1) * q.divisor)

-- The laws of a line at a performance factor.
pub record Laws (line : Line) (factor : ℕ) : Type 0 where
  -- the worth never grows when the factor falls
  pub falls : (lower : ℕ) → lower ≤ factor → worth line lower ≤ worth line factor
  -- a line that is weighted by the factor is worth nothing at factor 0
  pub nothing : needs_performance line ≡ true → worth line 0 ≡ 0
  -- one that is not is worth the same at every factor
  pub steady : needs_performance line ≡ false → (other : ℕ) → worth line other ≡ worth line factor
  -- rounding takes less than one cent
  pub rounded : within line ≡ true → LessThanACentBelow (worth line factor) (formula line factor)

-- At the same prices a unit is not paid both for energy that costs it more than the marginal cost and for energy that would have cost it
-- less: over-cost and opportunity are never both above 0.
pub record NeverBoth : Type 0 where
  pub at_the_same_prices :
      (variable marginal energy full injected factor other : ℕ) →
      0 < worth (OverCost variable marginal energy) factor →
      0 < worth (Opportunity variable marginal full injected) other →
      ⊥
