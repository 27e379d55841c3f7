-- The texts that are inputs, by how they are written.
use Rattle.std.specs.Prelude.{◌≡◌, ℕ, ◌^◌, ◌<◌, ◌≤◌, ◌⊎◌, List, [], ◌∷◌, ◌++◌, map, length, Ok, Err, decimal, Result}
use Rattle.std.specs.List.{join_with_byte, AllByRecursion}
use Rattle.prorate_input.specs.declared.faults.Fault.{Fault}

-- the pot, a line end, and the weights with a space between each two, all in decimal digits
abbrev pub written : ℕ → List ℕ → List ℕ
written pot ws = decimal pot ++ 10 ∷ join_with_byte 32 (map decimal ws)

-- numbers of at most eleven digits, and 1 to 48 weights
pub record Within (pot : ℕ) (ws : List ℕ) : Type 0 where
  pub pot_fits : pot < 10 ^ 11
  pub weights_fit : AllByRecursion (λ w. w < 10 ^ 11) ws
  pub some : 1 ≤ length ws
  pub few : length ws ≤ 48

-- bytes writes this pot and these weights, with the last line end or without
pub record Says (bytes : List ℕ) (pot : ℕ) (ws : List ℕ) : Type 0 where
  pub text : (bytes ≡ written pot ws) ⊎ (bytes ≡ written pot ws ++ 10 ∷ [])
  pub within : Within pot ws

-- m answers with a pot and weights just where bytes writes them
abbrev pub Exactly : List ℕ → Result (ℕ × List ℕ) Fault → Type 0
Exactly bytes m = (pot : ℕ) (ws : List ℕ) → (m ≡ Ok (pot, ws) → Says bytes pot ws) × (Says bytes pot ws → m ≡ Ok (pot, ws))

-- what is answered is within the limits
abbrev pub Limited : Result (ℕ × List ℕ) Fault → Type 0
Limited (Ok p) = Within p.0 p.1
Limited (Err e) = Unit {0}
