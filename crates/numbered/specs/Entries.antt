-- Lists whose entries are numbered from 1.
use Rattle.std.specs.Prelude.{ℕ, ◌-◌, Bool, cond, ◌&&◌, List, nat_le, slice_index_or, slice_set}

-- Whether a number is one of 1 to n.
abbrev pub is_numbered : ℕ → ℕ → Bool
is_numbered n number = nat_le 1 number && nat_le number n

-- The entry of a number in a list of n; another value for any other number.
abbrev pub entry : {X : Type 0} → ℕ → X → List X → ℕ → X
entry n other xs number = cond (is_numbered n number) (slice_index_or xs (number - 1) other) other

-- The list with another entry at a number; as it was for any other number.
abbrev pub with_entry : {X : Type 0} → ℕ → List X → ℕ → X → List X
with_entry n xs number x = cond (is_numbered n number) (slice_set xs (number - 1) x) xs
