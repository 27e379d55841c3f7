-- Replacement: for each company the one that takes part for it, and the weights moved to those that take part.
use Rattle.std.specs.Prelude.{◌≡◌, ℕ, ◌-◌, Bool, true, false, cond, not, ◌&&◌, ◌||◌, List, is_ok, Ok, Err, sum_by, sum, count_by, Result, ◌==◌, nat_lt, slice_index, slice_set}
use Rattle.std.specs.List.{range_with_len}
use Rattle.payers.specs.Bases.{is_company, weight_of}
use Rattle.payers.specs.Companies.{by_company}
use Rattle.payers.specs.declared.refusal.Refusal.{Refusal}
use Rattle.payers.specs.declared.refusal.Refusal.TheVariants.{Limits, Barred}

-- The one that takes part for a company: itself where it is not replaced; 0 for any other number. A list has the one that takes part for
-- company 1 first, and is read as a list of weights is.
abbrev pub participant_of : List ℕ → ℕ → ℕ
participant_of ps company = weight_of ps company

-- Whether another takes part for a company.
unfoldable pub is_replaced : List ℕ → ℕ → Bool
is_replaced ps company = not (participant_of ps company == company)

-- Whether a company takes part for this other one.
abbrev pub takes_part_for : List ℕ → ℕ → ℕ → Bool
takes_part_for ps company other = participant_of ps other == company && not (other == company)

-- Whether a company takes part for some other one.
unfoldable pub is_substitute : List ℕ → ℕ → Bool
is_substitute ps company = nat_lt 0 (count_by (takes_part_for ps company) (range_with_len 1 32))

-- What a month's replacements keep: the one that takes part for the company at index k is a company, and is not itself replaced.
abbrev pub TakesPart : List ℕ → ℕ → Type 0
TakesPart ps k = (is_company (slice_index ps k) ≡ true) × (participant_of ps (slice_index ps k) ≡ slice_index ps k)

-- Whether one company cannot replace another: they are the same, either is replaced already, or the old one takes part for another.
abbrev pub is_barred : List ℕ → ℕ → ℕ → Bool
is_barred ps old new = old == new || is_replaced ps old || is_replaced ps new || is_substitute ps old

-- The answer where a company is to be replaced: first whether both are companies, then whether the one may replace the other.
abbrev pub replace_answer : List ℕ → ℕ → ℕ → Result (Unit {0}) Refusal
replace_answer ps old new =
    cond (is_company old && is_company new)
    (cond (is_barred ps old new) (Err Barred) (Ok tt))
    (Err Limits)

-- Those that take part afterwards: a refusal leaves them as they were.
abbrev pub replace_after : List ℕ → ℕ → ℕ → List ℕ
replace_after ps old new = cond (is_ok (replace_answer ps old new)) (slice_set ps (old - 1) new) ps

-- What one company's weight adds to another's: all of it where the other takes part for it, which may be itself.
abbrev pub part_moved : List ℕ → List ℕ → ℕ → ℕ → ℕ
part_moved ps ws company one = cond (participant_of ps one == company) (weight_of ws one) 0

-- What a company weighs under replacement: the sum of the weights of all companies that it takes part for.
unfoldable pub weight_moved : List ℕ → List ℕ → ℕ → ℕ
weight_moved ps ws company = sum_by (part_moved ps ws company) (range_with_len 1 32)

-- All weights under replacement.
abbrev pub moved : List ℕ → List ℕ → List ℕ
moved ps ws = by_company (weight_moved ps ws)

-- What replacement does to the weights of every base.
pub record Moves (ps before after : List ℕ) : Type 0 where
  -- weight is moved, none is made and none is lost
  pub total : sum after ≡ sum before
  -- each company weighs what all those weighed that it takes part for, itself included
  pub taken : (company : ℕ) → is_company company ≡ true → weight_of after company ≡ weight_moved ps before company
  -- a replaced company weighs nothing
  pub replaced : (company : ℕ) → is_replaced ps company ≡ true → weight_of after company ≡ 0
  -- a company that is neither replaced nor takes part for another weighs what it weighed
  pub apart : (company : ℕ) → is_replaced ps company ≡ false → is_substitute ps company ≡ false → weight_of after company ≡ weight_of before company
