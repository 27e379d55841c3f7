-- The charges of a pot: what a rule gives the 32 companies by their weights, and what holds of it by every rule.
use Rattle.std.specs.Prelude.{◌≡◌, ℕ, ◌<◌, true, false, List, length, take, replicate, sum, slice_index}
use Rattle.prorating.specs.Weights.{padded}
use Rattle.prorating.specs.Laws.{Sharing, is_shared, amount_shared, Near}

-- The companies have the first 32 places of a weight list, and the places after them weigh nothing.
unfoldable pub charges_of : Sharing → ℕ → List ℕ → List ℕ
charges_of share pot ws = take 32 (share pot (padded ws))

-- What holds of the charges of a pot in cents over the companies' weights. The charge of company k + 1 stands at k.
pub record Charged (pot : ℕ) (ws charges : List ℕ) : Type 0 where
  pub long : length charges ≡ 32
  -- they add up to the pot where it is shared, else to 0
  pub whole : sum charges ≡ amount_shared pot ws
  -- a pot that is not shared charges nobody
  pub nothing : is_shared pot ws ≡ false → charges ≡ replicate 32 0
  -- each is less than one cent away from pot × weight ÷ total
  pub near : is_shared pot ws ≡ true → (k : ℕ) → k < 32 → Near pot (sum ws) (slice_index ws k) (slice_index charges k)
  -- no weight, no charge
  pub weightless : (k : ℕ) → k < 32 → slice_index ws k ≡ 0 → slice_index charges k ≡ 0
