-- The companies' numbers, one after the other: what an iterator over `1..=32` gives.
use Rattle.std.proofs.Common.{◌≡◌, ℕ, ◌+◌, ◌-◌, ◌≤◌, Bool, true, false, List, ◌∷◌, Some, None, length, sym, ap, refl, ◌∙◌, subst, add-one, arith}
use Rattle.std.specs.List.{range_with_len}
use Rattle.std.specs.Range.{range_inclusive_len, range_inclusive_start, range_inclusive_end, range_inclusive_exhausted}
use Rattle.std.specs.declared.ops.RangeInclusive.{RangeInclusive}
use Rattle.std.proofs.iter.runs.Sources.{nat_range_inclusive_steps}
use Rattle.std.proofs.lemmas.Iterator.{YieldsList}
use Rattle.std.proofs.lemmas.Iterator.Consumers.{YieldsList-from_shown}
use Rattle.std.proofs.lemmas.List.FromFn.{length-range_with_len}

-- how many numbers a range has left, and which
abbrev span : RangeInclusive ℕ → ℕ
span s = range_inclusive_len (λ x y. y - x) (range_inclusive_start s) (range_inclusive_end s) (range_inclusive_exhausted s)

abbrev left : RangeInclusive ℕ → List ℕ
left s = range_with_len (range_inclusive_start s) (span s)

left_none : (s t : RangeInclusive ℕ) → nat_range_inclusive_steps s None t → length (left s) ≡ 0
left_none s t step = omega (arith, length-range_with_len (range_inclusive_start s) (span s), step.1)

-- a range that is spent has none left; any other begins one further on
left_after : (s t : RangeInclusive ℕ) (b : Bool) → range_inclusive_exhausted t ≡ b → (range_inclusive_exhausted t ≡ false → range_inclusive_start t ≡ range_inclusive_start s + 1) → range_with_len (range_inclusive_start s + 1) (span t) ≡ left t
left_after s t true spent next = rw spent
left_after s t false fresh next = ap (λ a. range_with_len a (span t)) (sym (next fresh))

left_first : (s : RangeInclusive ℕ) (x : ℕ) (t : RangeInclusive ℕ) → nat_range_inclusive_steps s (Some x) t → left s ≡ x ∷ left t
left_first s x t step =
    ap (range_with_len (range_inclusive_start s)) (sym step.1.1 ∙ add-one (span t))
    ∙ ap {B = List ℕ} (λ xs. range_inclusive_start s ∷ xs) (left_after s t (range_inclusive_exhausted t) refl step.1.2)
    ∙ ap {B = List ℕ} (λ y. y ∷ left t) (sym step.1.0)

pub YieldsList-from_inclusive : (a b : ℕ) (s : RangeInclusive ℕ) → range_inclusive_start s ≡ a → range_inclusive_end s ≡ b → range_inclusive_exhausted s ≡ false → a ≤ b → YieldsList nat_range_inclusive_steps (λ x. x) s (range_with_len a (b + 1 - a))
YieldsList-from_inclusive a b s start end fresh some =
    let all : left s ≡ range_with_len a (b + 1 - a) = rw (start, end, fresh) (ap (range_with_len a) (omega arith)) in
    subst (λ ys. YieldsList nat_range_inclusive_steps (λ x. x) s ys) all (YieldsList-from_shown nat_range_inclusive_steps (λ x. x) left left_none left_first s)
