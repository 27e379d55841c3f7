-- A list of shares, made from the share of each place.
use Rattle.std.specs.Prelude.{ℕ, cond, List, map, length, replicate}
use Rattle.std.specs.List.{range_with_len}
use Rattle.prorating.specs.Laws.{is_shared}

-- f k for the place k + 1; zeros where the pot is not shared.
unfoldable pub shared_by : (ℕ → ℕ) → ℕ → List ℕ → List ℕ
shared_by f pot ws = cond (is_shared pot ws) (map f (range_with_len 0 (length ws))) (replicate (length ws) 0)
