-- The largest-remainder rule: every share is rounded down, and the cents left go one each to the largest remainders, of equal ones
-- to the lower number first.
use Rattle.std.specs.Prelude.{◌≡◌, ℕ, ◌+◌, ◌-◌, ◌*◌, ◌/◌, ◌%◌, ◌<◌, Bool, cond, ◌&&◌, ◌||◌, ◌⊎◌, List, map, length, sum, count_by, ◌==◌, nat_lt, slice_index}
use Rattle.std.specs.List.{range_with_len}
use Rattle.prorating.specs.Shares.{shared_by}

-- Every share, pot × weight ÷ total, rounded down.
unfoldable pub floors : ℕ → List ℕ → List ℕ
floors pot ws = map (λ w. pot * w / sum ws) ws

-- What these divisions leave.
unfoldable pub remainders : ℕ → List ℕ → List ℕ
remainders pot ws = map (λ w. pot * w % sum ws) ws

-- The cents that rounding down leaves.
unfoldable pub cents_left : ℕ → List ℕ → ℕ
cents_left pot ws = pot - sum (floors pot ws)

-- Whether the remainder at j comes before that at k: it is larger, or equal and of the lower number.
abbrev pub comes_before : List ℕ → ℕ → ℕ → Bool
comes_before rs j k = nat_lt (slice_index rs k) (slice_index rs j) || (slice_index rs j == slice_index rs k && nat_lt j k)

-- How many come before the one at k.
unfoldable pub rank : List ℕ → ℕ → ℕ
rank rs k = count_by (λ j. comes_before rs j k) (range_with_len 0 (length rs))

-- The odd cent of the place k + 1, or none: the lowest ranks get one each, as many as cents are left.
unfoldable pub odd_cent : ℕ → List ℕ → ℕ → ℕ
odd_cent pot ws k = cond (nat_lt (rank (remainders pot ws) k) (cents_left pot ws)) 1 0

unfoldable pub largest_share : ℕ → List ℕ → ℕ → ℕ
largest_share pot ws k = slice_index (floors pot ws) k + odd_cent pot ws k

abbrev pub largest : ℕ → List ℕ → List ℕ
largest pot ws = shared_by (largest_share pot ws) pot ws

-- The share of the place k + 1 rounded down, and what that division leaves.
abbrev pub floor_at : ℕ → List ℕ → ℕ → ℕ
floor_at pot ws k = pot * slice_index ws k / sum ws

abbrev pub remainder_at : ℕ → List ℕ → ℕ → ℕ
remainder_at pot ws k = pot * slice_index ws k % sum ws

-- What makes shares those of the largest remainders: each is rounded down, or has one odd cent more; and whoever gets an odd cent has
-- a larger remainder than whoever gets none, or an equal one and a lower number.
pub record LargestRemainders (pot : ℕ) (ws shares : List ℕ) : Type 0 where
  pub rounded : (k : ℕ) → k < 48 → (slice_index shares k ≡ floor_at pot ws k) ⊎ (slice_index shares k ≡ floor_at pot ws k + 1)
  pub fair : (j k : ℕ) → j < 48 → k < 48 → slice_index shares j ≡ floor_at pot ws j + 1 → slice_index shares k ≡ floor_at pot ws k →
      (remainder_at pot ws k < remainder_at pot ws j) ⊎ ((remainder_at pot ws j ≡ remainder_at pot ws k) × (j < k))
