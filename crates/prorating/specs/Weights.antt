-- The weight list: 48 weights with a total within the limit, and what may be put where.
use Rattle.std.specs.Prelude.{◌≡◌, ℕ, ◌-◌, ◌≤◌, Bool, cond, ◌&&◌, List, ◌++◌, length, replicate, is_ok, Some, None, Ok, Err, sum, Option, Result, nat_le, nat_lt, slice_index, slice_set}
use Rattle.prorating.specs.declared.refusal.Refusal.{Refusal}
use Rattle.prorating.specs.declared.refusal.Refusal.TheVariants.{Place, Total}

-- The largest total of a weight list, and the largest pot that is shared.
abbrev pub limit : ℕ
limit = 3_000_000_000

-- What a weight list holds.
pub record Weighed (ws : List ℕ) : Type 0 where
  pub long : length ws ≡ 48
  pub light : sum ws ≤ limit

-- Places are numbered 1 to 48. A list has the weight of place 1 first.
abbrev pub is_place : ℕ → Bool
is_place place = nat_le 1 place && nat_le place 48

-- The weight at a place; 0 at any other number.
abbrev pub weight_at : List ℕ → ℕ → ℕ
weight_at ws place = cond (is_place place) (slice_index ws (place - 1)) 0

-- The list with another weight at a place.
abbrev pub with_weight : List ℕ → ℕ → ℕ → List ℕ
with_weight ws place weight = slice_set ws (place - 1) weight

-- The answer where a weight is put at a place: first whether there is such a place, then whether the new total is within the limit.
abbrev pub put_answer : List ℕ → ℕ → ℕ → Result (Unit {0}) Refusal
put_answer ws place weight =
    cond (is_place place)
    (cond (nat_le (sum (with_weight ws place weight)) limit) (Ok tt) (Err Total))
    (Err Place)

-- The list afterwards: a refusal leaves it as it was.
abbrev pub put_after : List ℕ → ℕ → ℕ → List ℕ
put_after ws place weight = cond (is_ok (put_answer ws place weight)) (with_weight ws place weight) ws

-- The list that has these weights at the first places, and 0 at the others.
unfoldable pub padded : List ℕ → List ℕ
padded ws = ws ++ replicate (48 - length ws) 0

-- Why there is no such list: there are more than 48 weights, or their total is above the limit.
abbrev pub of_refusal : List ℕ → Option Refusal
of_refusal ws = cond (nat_lt 48 (length ws)) (Some Place) (cond (nat_lt limit (sum ws)) (Some Total) None)

-- The number of each refusal: 2, a figure is outside its limits.
abbrev pub number : Refusal → ℕ
number Place = 2
number Total = 2
