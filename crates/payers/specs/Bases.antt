-- What a payer base means: a weight for each of 32 companies, with a total within the limit of a weight list.
use Rattle.std.specs.Prelude.{◌≡◌, ℕ, ◌-◌, ◌≤◌, Bool, cond, ◌&&◌, List, length, sum, nat_le, slice_index}
use Rattle.prorating.specs.Weights.{limit}

-- Companies are numbered 1 to 32. A list has the weight of company 1 first.
abbrev pub is_company : ℕ → Bool
is_company company = nat_le 1 company && nat_le company 32

-- The weight of a company; 0 for any other number.
abbrev pub weight_of : List ℕ → ℕ → ℕ
weight_of ws company = cond (is_company company) (slice_index ws (company - 1)) 0

-- What every base keeps.
pub record Based (ws : List ℕ) : Type 0 where
  pub long : length ws ≡ 32
  pub light : sum ws ≤ limit
