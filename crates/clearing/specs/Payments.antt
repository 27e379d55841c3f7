-- The payment table: debtors in rising number, each debt spread by a rule over what is still due to each creditor.
-- Lists have the debt, or the due, of company 1 first.
use Rattle.std.specs.Prelude.{ℕ, zero, suc, ◌-◌, cond, List, [], ◌++◌, map, length, take, drop, Ok, Err, sum, Result, nat_lt, slice_index}
use Rattle.std.specs.List.{range_with_len}
use Rattle.prorating.specs.Laws.{Sharing}
use Rattle.prorating.specs.Weights.{limit, padded}
use Rattle.clearing.specs.declared.refusal.Refusal.{Refusal}
use Rattle.clearing.specs.declared.refusal.Refusal.TheVariants.{Short, Total}

-- What is left of each when something is taken off each, down to 0.
unfoldable pub less : List ℕ → List ℕ → List ℕ
less xs ys = map (λ k. slice_index xs k - slice_index ys k) (range_with_len 0 (length xs))

-- What is still due to each, at the 48 places of a rule, when the first n companies have paid; and what the next one pays to each.
unfoldable pub still : Sharing → List ℕ → List ℕ → ℕ → List ℕ
still share debts dues zero = padded dues
still share debts dues (suc n) = less (still share debts dues n) (share (slice_index debts n) (still share debts dues n))

unfoldable pub row : Sharing → List ℕ → List ℕ → ℕ → List ℕ
row share debts dues n = share (slice_index debts n) (still share debts dues n)

-- The rows of the first n companies, 32 entries each, one after another.
unfoldable pub rows : Sharing → List ℕ → List ℕ → ℕ → List ℕ
rows share debts dues zero = []
rows share debts dues (suc n) = rows share debts dues n ++ take 32 (row share debts dues n)

-- The first 1,024 entries of a table are the payments, and later ones stay.
abbrev pub with_payments : Sharing → List ℕ → List ℕ → List ℕ → List ℕ
with_payments share debts dues table = rows share debts dues 32 ++ drop 1_024 table

-- The answer: first whether the table is long enough, then whether the dues are within the limit.
abbrev pub pay_answer : List ℕ → List ℕ → Result (Unit {0}) Refusal
pay_answer dues table =
    cond (nat_lt (length table) 1_024) (Err Short)
    (cond (nat_lt limit (sum dues)) (Err Total)
    (Ok tt))

-- The table afterwards: a refusal leaves it as it was.
abbrev pub pay_after : Sharing → List ℕ → List ℕ → List ℕ → List ℕ
pay_after share debts dues table =
    cond (nat_lt (length table) 1_024) table
    (cond (nat_lt limit (sum dues)) table
    (with_payments share debts dues table))
