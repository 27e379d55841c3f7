-- Products of a line's figures within their limits.
use Rattle.std.proofs.Common.{ℕ, ◌*◌, ◌≤◌}
use Rattle.std.proofs.lemmas.Nat.{mul-le}

-- of a price, an amount and one figure more
pub three : (a b c : ℕ) → a ≤ 100_000 → b ≤ 1_000_000 → c ≤ 1_000_000 → a * b * c ≤ 100_000_000_000_000_000
three a b c p q r = mul-le (a * b) c 100_000_000_000 1_000_000 (mul-le a b 100_000 1_000_000 p q) r

-- of a price, an amount, the seconds of an instruction and a factor
pub four : (a b c d : ℕ) → a ≤ 100_000 → b ≤ 1_000_000 → c ≤ 3_600 → d ≤ 10_000 → a * b * c * d ≤ 3_600_000_000_000_000_000
four a b c d p q r s = mul-le (a * b * c) d 360_000_000_000_000 10_000 (mul-le (a * b) c 100_000_000_000 3_600 (mul-le a b 100_000 1_000_000 p q) r) s
