-- Lists with an entry for each company.
use Rattle.std.specs.Prelude.{ℕ, List, map}
use Rattle.std.specs.List.{range_with_len}

-- f 1, f 2 and so on to f 32.
unfoldable pub by_company : (ℕ → ℕ) → List ℕ
by_company f = map f (range_with_len 1 32)
