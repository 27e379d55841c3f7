-- Installations built for a service: what a month of one is worth.
use Rattle.std.specs.Prelude.{ℕ, ◌+◌, ◌/◌, Bool, ◌&&◌, nat_le}

-- The highest annuity of the investment and the highest yearly maintenance, in cents.
abbrev pub highest_yearly_cost : ℕ
highest_yearly_cost = 10_000_000_000

abbrev pub within : ℕ → ℕ → Bool
within annuity maintenance = nat_le annuity highest_yearly_cost && nat_le maintenance highest_yearly_cost

-- Both are costs of a year, so a month is worth a twelfth of them, rounded down.
abbrev pub worth : ℕ → ℕ → ℕ
worth annuity maintenance = (annuity + maintenance) / 12
