-- What the companies earned, and the pots that pay for it.
use Rattle.std.specs.Prelude.{ℕ, ◌+◌, Bool, cond, not, ◌&&◌, ◌||◌, List, [], ◌∷◌, ◌++◌, length, replicate, Option, ◌==◌, nat_le, nat_lt, slice_get}
use Rattle.prorating.specs.Weights.{limit}
use Rattle.numbered.specs.Entries.{is_numbered, entry, with_entry}

-- A pot: its cents, and the weights of the companies that pay it.
pub record Pot : Type 0 where
  pub cents : ℕ
  pub weights : List ℕ

-- The pot at an index, if there are so many.
abbrev pub pot_at : List Pot → ℕ → Option Pot
pot_at pots k = slice_get pots k

-- What the companies 1 to 32 earned; the cents of the pots of services 1 frequency, 2 voltage and 3 installations; all credits together; the
-- pots of sheddings, in their order.
pub record Held : Type 0 where
  pub earned : List ℕ
  pub services : List ℕ
  pub credits : ℕ
  pub pots : List Pot

abbrev pub nothing_held : Held
nothing_held = record { earned = replicate 32 0; services = replicate 3 0; credits = 0; pots = [] }

-- Whether so many cents more take all credits past the limit.
abbrev pub passes : Held → ℕ → Bool
passes a cents = nat_lt limit (a.credits + cents)

-- A list with more at a number.
abbrev pub with_more : ℕ → List ℕ → ℕ → ℕ → List ℕ
with_more n xs number cents = with_entry n xs number (entry n 0 xs number + cents)

-- Whether a company may be credited: its number is one of 1 to 32, and all credits stay within the limit.
abbrev pub is_credited : Held → ℕ → ℕ → Bool
is_credited a company cents = is_numbered 32 company && not (passes a cents)

-- A company is credited at the cost of a service's pot.
abbrev pub entered : Held → ℕ → ℕ → ℕ → Held
entered a company service cents =
    cond (is_numbered 3 service && is_credited a company cents)
    (record {
      earned = with_more 32 a.earned company cents;
      services = with_more 3 a.services service cents;
      credits = a.credits + cents;
      pots = a.pots;
    })
    a

-- A company is credited for a shedding, which has a pot of its own where it is worth anything.
abbrev pub has_room : Held → ℕ → Bool
has_room a cents = cents == 0 || not (nat_le 16 (length a.pots))

abbrev pub with_pot : List Pot → ℕ → List ℕ → List Pot
with_pot pots cents weights = cond (cents == 0) pots (pots ++ record { cents = cents; weights = weights } ∷ [])

abbrev pub shed : Held → ℕ → ℕ → List ℕ → Held
shed a company cents weights =
    cond (has_room a cents && is_credited a company cents)
    (record {
      earned = with_more 32 a.earned company cents;
      services = a.services;
      credits = a.credits + cents;
      pots = with_pot a.pots cents weights;
    })
    a
