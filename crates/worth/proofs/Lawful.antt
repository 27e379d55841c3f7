-- Every line keeps the laws.
use Rattle.std.proofs.Common.{◌≡◌, ℕ, ◌-◌, ◌*◌, ◌/◌, ◌<◌, ◌≤◌, true, false, refl, add-mul, mul-le-mul_left, mul-zero, zero-mul, div-mul-le_self, arith}
use native.Mathlib.Nat.{zero-div, lt-div-mul-add}
use Rattle.std.proofs.lemmas.Nat.{le-div}
use Rattle.std.proofs.lemmas.Bool.{cases_lt}
use Rattle.std.proofs.lemmas.Bool.Decides.{nat_tests}
use Rattle.worth.specs.declared.line.Line.{Line}
use Rattle.worth.specs.declared.line.Line.TheVariants.{UpwardAvailability, UpwardActivation, Downward, OverCost, Opportunity, ExtraFuel, ExtraResource, ExtraWithdrawal}
use Rattle.worth.specs.Limits.{within}
use Rattle.worth.specs.Lines.{needs_performance, formula, worth}
use Rattle.worth.specs.Laws.{Laws, LessThanACentBelow, NeverBoth}
use Rattle.worth.specs.Quotients.{◌over◌}

-- a worth in proportion to the factor falls with it
scaled : (rate lower factor d : ℕ) → 0 < d → lower ≤ factor → rate * lower / d ≤ rate * factor / d
scaled rate lower factor d pos h =
    le-div (rate * lower / d) (rate * factor) d pos (omega (arith, div-mul-le_self (rate * lower) d, mul-le-mul_left rate h))

falls : (line : Line) (factor lower : ℕ) → lower ≤ factor → worth line lower ≤ worth line factor
falls (UpwardAvailability awarded reserve) factor lower h = scaled (awarded * reserve) lower factor 10_000_000 (omega arith) h
falls (UpwardActivation marginal energy) factor lower h = omega arith
falls (Downward awarded reserve seconds) factor lower h = scaled (awarded * reserve * seconds) lower factor 36_000_000_000 (omega arith) h
falls (OverCost variable marginal energy) factor lower h = omega arith
falls (Opportunity variable marginal full energy) factor lower h = scaled ((marginal - variable) * (full - energy)) lower factor 10_000_000 (omega arith) h
falls (ExtraFuel price dispatched full energy) factor lower h = omega arith
falls (ExtraResource price dispatched full energy) factor lower h = omega arith
falls (ExtraWithdrawal marginal withdrawn without) factor lower h = omega arith

nothing : (line : Line) → needs_performance line ≡ true → worth line 0 ≡ 0
nothing (UpwardAvailability awarded reserve) w = simp (mul-zero, zero-div)
nothing (UpwardActivation marginal energy) w = cc
nothing (Downward awarded reserve seconds) w = simp (mul-zero, zero-div)
nothing (OverCost variable marginal energy) w = cc
nothing (Opportunity variable marginal full energy) w = simp (mul-zero, zero-div)
nothing (ExtraFuel price dispatched full energy) w = cc
nothing (ExtraResource price dispatched full energy) w = cc
nothing (ExtraWithdrawal marginal withdrawn without) w = cc

steady : (line : Line) (factor : ℕ) → needs_performance line ≡ false → (other : ℕ) → worth line other ≡ worth line factor
steady (UpwardAvailability awarded reserve) factor w other = cc
steady (UpwardActivation marginal energy) factor w other = refl
steady (Downward awarded reserve seconds) factor w other = cc
steady (OverCost variable marginal energy) factor w other = refl
steady (Opportunity variable marginal full energy) factor w other = cc
steady (ExtraFuel price dispatched full energy) factor w other = refl
steady (ExtraResource price dispatched full energy) factor w other = refl
steady (ExtraWithdrawal marginal withdrawn without) factor w other = refl

-- the divisor of a line within its limits is above 0: an efficiency is at least 1
divides : (line : Line) (factor : ℕ) → within line ≡ true → 0 < (formula line factor).divisor
divides (UpwardAvailability awarded reserve) factor h = omega arith
divides (UpwardActivation marginal energy) factor h = omega arith
divides (Downward awarded reserve seconds) factor h = omega arith
divides (OverCost variable marginal energy) factor h = omega arith
divides (Opportunity variable marginal full energy) factor h = omega arith
divides (ExtraFuel price dispatched full energy) factor h = omega arith
divides (ExtraResource price dispatched full energy) factor h = grind (arith, nat_tests)
divides (ExtraWithdrawal marginal withdrawn without) factor h = omega arith

rounded : (a d : ℕ) → 0 < d → LessThanACentBelow (a / d) (a over d)
rounded a d pos = (div-mul-le_self a d, omega (arith, lt-div-mul-add {a = a} pos, add-mul (a / d) 1 d))

pub laws : (line : Line) (factor : ℕ) → Laws line factor
laws line factor =
    record {
      falls = falls line factor;
      nothing = nothing line;
      steady = steady line factor;
      rounded = λ h. rounded (formula line factor).numerator (formula line factor).divisor (divides line factor h);
    }

not_both : (variable marginal energy full injected factor other : ℕ) → 0 < worth (OverCost variable marginal energy) factor → 0 < worth (Opportunity variable marginal full injected) other → ⊥
not_both variable marginal energy full injected factor other h k = grind (arith, zero-mul, zero-div, cases_lt variable marginal)

pub never_both : NeverBoth
never_both = record { at_the_same_prices = not_both }
