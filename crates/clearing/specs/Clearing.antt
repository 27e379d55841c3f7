-- What it means that a payment table clears.
use Rattle.std.specs.Prelude.{◌≡◌, ℕ, ◌+◌, ◌-◌, ◌*◌, true, ◌⊎◌, List, drop, sum_by, slice_index}
use Rattle.std.specs.List.{range_with_len}
use Rattle.payers.specs.Bases.{is_company}
use Rattle.numbered.specs.Entries.{entry}

-- What one company pays to another: entry (from − 1) × 32 + (to − 1) of the table.
abbrev pub payment : List ℕ → ℕ → ℕ → ℕ
payment table from to = slice_index table ((from - 1) * 32 + (to - 1))

-- What a company pays to all, and what it receives from all.
unfoldable pub paid : List ℕ → ℕ → ℕ
paid table from = sum_by (λ to. payment table from to) (range_with_len 1 32)

unfoldable pub received : List ℕ → ℕ → ℕ
received table to = sum_by (λ from. payment table from to) (range_with_len 1 32)

pub record Clears (debts dues before after : List ℕ) : Type 0 where
  -- each debtor pays its whole debt
  pub debts_paid : (c : ℕ) → is_company c ≡ true → paid after c ≡ entry 32 0 debts c
  -- each creditor receives its whole due
  pub dues_received : (c : ℕ) → is_company c ≡ true → received after c ≡ entry 32 0 dues c
  -- whoever owes nothing pays nothing, and nothing goes to whom nothing is due
  pub others : (from to : ℕ) → is_company from ≡ true → is_company to ≡ true → (entry 32 0 debts from ≡ 0) ⊎ (entry 32 0 dues to ≡ 0) → payment after from to ≡ 0
  -- entries past the first 1,024 stay
  pub later : drop 1_024 after ≡ drop 1_024 before
