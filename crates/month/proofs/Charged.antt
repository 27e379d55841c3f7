-- The charges of a pot, and the pots by index.
use Rattle.std.specs.List.{list_any}
use Rattle.std.proofs.Common.{◌*◌, ◌||◌, map, sum_by, ◌≡◌, ℕ, zero, suc, ◌-◌, ◌<◌, ◌≤◌, Bool, true, false, cond, ltb, leb, List, [], ◌∷◌, length, get_or, set, replicate, sum, sym, refl, ap, ◌∙◌, subst, ⊎_elim, arith}
use Rattle.std.proofs.lemmas.Bool.{and_parts, leb-true, cases_eq, cases_lt}
use Rattle.std.proofs.lemmas.List.{get_or-set_same, get_or-set_other, get_or-replicate, length-replicate, get_or_past}
use Rattle.numbered.proofs.Entries.{getD_all}
use Rattle.std.proofs.lemmas.List.Sums.{sum_by-cons}
use Rattle.prorating.specs.Weights.{limit}
use Rattle.prorating.specs.Laws.{is_shared, amount_shared}
use Rattle.payers.specs.Charges.{Charged}
use Rattle.numbered.specs.Entries.{is_numbered, entry}
use Rattle.month.specs.Figures.{charge_over}
use Rattle.std.proofs.lemmas.List.FromFn.{fill_by_all}

-- an entry is at most the sum
entry_sum : (xs : List ℕ) (k : ℕ) → get_or xs k 0 ≤ sum xs
entry_sum [] k = omega arith
entry_sum (x ∷ xs) zero = omega (arith, sum_by-cons (λ y. y) x xs)
entry_sum (x ∷ xs) (suc k) = omega (arith, entry_sum xs k, sum_by-cons (λ y. y) x xs)

shared_small : (pot : ℕ) (ws : List ℕ) → amount_shared pot ws ≤ limit
shared_small pot ws = go (is_shared pot ws) refl
  where
    go : (t : Bool) → is_shared pot ws ≡ t → cond t pot 0 ≤ limit
    go true e = leb-true _ _ (and_parts (leb pot limit) (ltb 0 (sum ws)) e).0
    go false e = omega arith

pub charge_small : (pot : ℕ) (ws charges : List ℕ) → Charged pot ws charges → (k : ℕ) → get_or charges k 0 ≤ limit
charge_small pot ws charges ok k = omega (arith, entry_sum charges k, ok.whole, shared_small pot ws)

-- what a company is charged over the rows of some pots
abbrev pub of_row : ℕ → List ℕ → ℕ
of_row company row = entry 32 0 row company

row_small : (row : List ℕ) (company : ℕ) → ((c : ℕ) → get_or row c 0 ≤ limit) → of_row company row ≤ limit
row_small row company small = go (is_numbered 32 company)
  where
    go : (t : Bool) → cond t (get_or row (company - 1) 0) 0 ≤ limit
    go true = small (company - 1)
    go false = omega arith

pub rows_small : (rows : List (List ℕ)) (company : ℕ) → ((p c : ℕ) → get_or (get_or rows p []) c 0 ≤ limit) → sum_by (of_row company) rows ≤ length rows * limit
rows_small [] company small = omega arith
rows_small (r ∷ rs) company small = omega (arith, sum_by-cons (of_row company) r rs, row_small r company (small 0), rows_small rs company (λ p c. small (suc p) c))

pub rows_over : (rows : List (List ℕ)) (company : ℕ) → length rows ≡ 19 → sum_by (of_row company) rows ≡ charge_over rows company
unfolding charge_over
rows_over rows company long = ap (sum_by (of_row company)) (fill_by_all (λ k. get_or rows k []) rows 19 [] long (λ k h. refl))

-- a table of small rows, with one row more
pub set_small : (t : List (List ℕ)) (k : ℕ) (row : List ℕ) → k < length t → ((c : ℕ) → get_or row c 0 ≤ limit) → ((p c : ℕ) → get_or (get_or t p []) c 0 ≤ limit) → (p c : ℕ) → get_or (get_or (set t k row) p []) c 0 ≤ limit
set_small t k row inside new old p c =
    ⊎_elim
    (λ same. subst (λ r. get_or r c 0 ≤ limit) (sym (ap (λ i. get_or (set t k row) i []) same ∙ get_or-set_same t k row [] inside)) (new c))
    (λ other. subst (λ r. get_or r c 0 ≤ limit) (sym (get_or-set_other t k p row [] other)) (old p c))
    (cases_eq p k)

pub zeros_small : (p c : ℕ) → get_or (get_or (replicate 19 (replicate 32 0)) p []) c 0 ≤ limit
zeros_small p c = go 19
  where
    none : (n : ℕ) → get_or (replicate n 0) c 0 ≤ limit
    none n = omega (arith, getD_all {X = ℕ} 0 n c)

    go : (n : ℕ) → get_or (get_or (replicate n (replicate 32 0)) p []) c 0 ≤ limit
    go n =
        ⊎_elim
        (λ inside. subst (λ r. get_or r c 0 ≤ limit) (sym (get_or-replicate n p (replicate 32 0) [] inside)) (none 32))
        (λ past. subst (λ r. get_or r c 0 ≤ limit) (sym (get_or_past (replicate n (replicate 32 0)) p [] (omega (arith, length-replicate n (replicate {A = ℕ} 32 0))))) (omega arith))
        (cases_lt p n)

-- a test of each pot, and of what each stands for
pub any_map : {X Y : Type 0} (test : Y → Bool) (f : X → Y) (xs : List X) → list_any (λ x. test (f x)) xs ≡ list_any test (map f xs)
any_map test f [] = refl
any_map test f (x ∷ xs) = ap (λ t. test (f x) || t) (any_map test f xs)
