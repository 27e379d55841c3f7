-- Columns whose figures are within the limit of a figure.
use Rattle.std.specs.Prelude.{◌≡◌, ℕ, suc, ◌-◌, ◌*◌, ◌<◌, ◌≤◌, List, [], ◌∷◌, length, replicate, sum, slice_set}
use Rattle.std.proofs.Common.{⊎_elim, arith}
use Rattle.std.proofs.lemmas.List.{get_or_past, get_or-replicate, length-replicate, get_or-set_same, get_or-set_other}
use Rattle.std.proofs.lemmas.List.Sums.{sum_by-cons}
use Rattle.std.proofs.lemmas.Bool.{cases_Bool, cases_eq, cases_lt}
use Rattle.std.proofs.lemmas.Bool.Decides.{nat_tests}
use Rattle.numbered.specs.Entries.{with_entry}
use Rattle.payers.specs.Bases.{is_company, Based}
use Rattle.payers.specs.Meters.{figure_limit, Small}

pub zeros_small : (n : ℕ) → Small (replicate n 0)
zeros_small n k =
    ⊎_elim
    (λ inside. omega (arith, get_or-replicate {A = ℕ} n k 0 0 inside))
    (λ past. omega (arith, get_or_past {X = ℕ} (replicate n 0) k 0 (omega (arith, length-replicate {A = ℕ} n 0))))
    (cases_lt k n)

pub set_small : (column : List ℕ) (i figure : ℕ) → i < length column → figure ≤ figure_limit → Small column → Small (slice_set column i figure)
set_small column i figure inside within small k =
    ⊎_elim
    (λ same. rw same (omega (arith, get_or-set_same column i figure 0 inside)))
    (λ other. omega (arith, get_or-set_other column i k figure 0 other, small k))
    (cases_eq k i)

-- a column with another figure of a company
pub entry_small : (column : List ℕ) (company figure : ℕ) → length column ≡ 32 → figure ≤ figure_limit → Small column → Small (with_entry 32 column company figure)
entry_small column company figure long within small =
    ⊎_elim
    (λ there. rw there (set_small column (company - 1) figure (grind (arith, nat_tests)) within small))
    (λ none. rw none small)
    (cases_Bool (is_company company))

sum_small : (column : List ℕ) → Small column → sum column ≤ length column * figure_limit
sum_small [] small = omega arith
sum_small (figure ∷ column) small =
    omega (arith, sum_by-cons (λ x. x) figure column, small 0, sum_small column (λ k. small (suc k)))

-- a column is a base
pub column_based : (column : List ℕ) → length column ≡ 32 → Small column → Based column
column_based column long small = record { long = long; light = omega (arith, sum_small column small) }
