-- The pots of a month: whether one has nobody to pay it, and what is charged of each.
use Rattle.std.specs.Prelude.{ℕ, Bool, List, map, replicate, Some, None, Option}
use Rattle.std.specs.List.{range_with_len, list_any}
use Rattle.prorating.specs.Laws.{Sharing}
use Rattle.payers.specs.Charges.{charges_of}
use Rattle.payers.specs.Replacements.{moved}
use Rattle.tables.specs.Accounts.{Pot, pot_at}
use Rattle.month.specs.Seen.{strands}

-- Whether one of some pots has nobody to pay it.
abbrev pub some_strands : List Pot → Bool
some_strands ps = list_any (λ p. strands p.cents p.weights) ps

-- The charges of the pot at an index over its weights under replacement, 0 for pot 1. An unused pot charges nobody.
abbrev pub charges_by : Sharing → List ℕ → Option Pot → List ℕ
charges_by share participants None = replicate 32 0
charges_by share participants (Some p) = charges_of share p.cents (moved participants p.weights)

abbrev pub pot_charges : Sharing → List ℕ → List Pot → ℕ → List ℕ
pot_charges share participants pots k = charges_by share participants (pot_at pots k)

-- The charges of pots 1 to 19.
unfoldable pub charged : Sharing → List ℕ → List Pot → List (List ℕ)
charged share participants pots = map (pot_charges share participants pots) (range_with_len 0 19)
