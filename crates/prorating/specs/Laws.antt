-- What every prorating rule keeps, and what follows from it.
use Rattle.std.specs.Prelude.{◌≡◌, ℕ, ◌+◌, ◌*◌, ◌<◌, ◌≤◌, Bool, true, false, cond, ◌&&◌, List, length, replicate, sum, nat_le, nat_lt, slice_index, slice_set}
use Rattle.prorating.specs.Weights.{limit, Weighed}

-- What a rule means: for a pot in cents and 48 weights, one list of shares in cents.
abbrev pub Sharing : Type 0
Sharing = ℕ → List ℕ → List ℕ

-- Whether a pot is shared at all: it is within the limit, and there is some weight.
abbrev pub is_shared : ℕ → List ℕ → Bool
is_shared pot ws = nat_le pot limit && nat_lt 0 (sum ws)

-- A share that is less than one cent away from pot × weight ÷ total, as a comparison of whole numbers.
pub record Near (pot total weight share : ℕ) : Type 0 where
  pub above : share * total < pot * weight + total
  pub below : pot * weight < share * total + total

-- The laws. There is a share for each place.
abbrev pub Long : Sharing → Type 0
Long share = (pot : ℕ) (ws : List ℕ) → Weighed ws → length (share pot ws) ≡ 48

-- With a total of 0, or a pot above the limit, all shares are 0.
abbrev pub Nothing : Sharing → Type 0
Nothing share = (pot : ℕ) (ws : List ℕ) → Weighed ws → is_shared pot ws ≡ false → share pot ws ≡ replicate 48 0

-- Otherwise the shares add up to the pot.
abbrev pub Whole : Sharing → Type 0
Whole share = (pot : ℕ) (ws : List ℕ) → Weighed ws → is_shared pot ws ≡ true → sum (share pot ws) ≡ pot

-- And each is less than one cent away from pot × weight ÷ total.
abbrev pub EachNear : Sharing → Type 0
EachNear share = (pot : ℕ) (ws : List ℕ) (k : ℕ) → Weighed ws → is_shared pot ws ≡ true → k < 48 →
    Near pot (sum ws) (slice_index ws k) (slice_index (share pot ws) k)

-- A place without weight has no share.
abbrev pub Weightless : Sharing → Type 0
Weightless share = (pot : ℕ) (ws : List ℕ) (k : ℕ) → Weighed ws → k < 48 → slice_index ws k ≡ 0 → slice_index (share pot ws) k ≡ 0

-- All the laws.
pub record Keeps (share : Sharing) : Type 0 where
  pub long : Long share
  pub nothing : Nothing share
  pub whole : Whole share
  pub near : EachNear share
  pub weightless : Weightless share

-- What the laws rule out: shares that are all 0, and the whole pot for one place, however it is chosen.
abbrev pub NoRuleOfZeros : Type 0
NoRuleOfZeros = Whole (λ pot ws. replicate 48 0) → ⊥

abbrev pub NoRuleForOne : Type 0
NoRuleForOne = (place : ℕ → List ℕ → ℕ) → EachNear (λ pot ws. slice_set (replicate 48 0) (place pot ws) pot) → ⊥

-- What the shares of every rule add up to.
abbrev pub amount_shared : ℕ → List ℕ → ℕ
amount_shared pot ws = cond (is_shared pot ws) pot 0

-- No share exceeds its weight.
abbrev pub Within : List ℕ → List ℕ → Type 0
Within shares ws = (k : ℕ) → k < 48 → slice_index shares k ≤ slice_index ws k
