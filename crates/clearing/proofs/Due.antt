-- What is still due, debtor by debtor.
use Rattle.std.proofs.Common.{◌≡◌, ℕ, zero, suc, ◌+◌, ◌-◌, ◌*◌, ◌<◌, ◌≤◌, List, [], ◌++◌, length, get_or, take, drop, sum, sym, refl, ap, ◌∙◌, add-one, arith, length-append}
use lib.Seq.{paste}
use Rattle.std.proofs.lemmas.List.FromFn.{length-map-range_with_len, get_or-map-range_with_len}
use Rattle.std.proofs.lemmas.List.{take_at, drop_at, drop-drop, length-take-le}
use Rattle.prorating.specs.Laws.{Sharing, Keeps}
use Rattle.prorating.specs.Weights.{limit, padded, Weighed}
use Rattle.prorating.specs.Counts.{sum_to, places_sum, sum_to_add, sum_to_same, sum_to_le, same_places}
use Rattle.prorating.proofs.Puts.{padded_long, padded_sum, padded_at}
use Rattle.clearing.specs.Payments.{less, still, row, rows}

pub padded_full : (xs : List ℕ) → length xs ≡ 48 → padded xs ≡ xs
padded_full xs long = same_places (padded xs) xs 48 (padded_long xs (omega arith)) long (λ k h. padded_at xs k)

-- differences place by place
module _ (xs ys : List ℕ) where
  pub less_long : length (less xs ys) ≡ length xs
  unfolding less
  less_long = length-map-range_with_len (λ k. get_or xs k 0 - get_or ys k 0) 0 (length xs)

  pub less_at : (k : ℕ) → k < length xs → get_or (less xs ys) k 0 ≡ get_or xs k 0 - get_or ys k 0
  unfolding less
  less_at k h = get_or-map-range_with_len (λ k. get_or xs k 0 - get_or ys k 0) 0 (length xs) k k 0 h (omega arith)

  less_sum_to : sum (less xs ys) ≡ sum_to (λ k. get_or xs k 0 - get_or ys k 0) (length xs)
  less_sum_to =
      places_sum (λ x. x) (less xs ys)
      ∙ ap (sum_to (λ k. get_or (less xs ys) k 0)) less_long
      ∙ sum_to_same (λ k. get_or (less xs ys) k 0) (λ k. get_or xs k 0 - get_or ys k 0) (length xs) less_at

  pub less_light : sum (less xs ys) ≤ sum xs
  less_light =
      omega (arith, less_sum_to, places_sum (λ x. x) xs, sum_to_le (λ k. get_or xs k 0 - get_or ys k 0) (λ k. get_or xs k 0) (length xs) (λ k h. omega arith))

  pub less_sum : length ys ≡ length xs → ((k : ℕ) → k < length xs → get_or ys k 0 ≤ get_or xs k 0) → sum (less xs ys) + sum ys ≡ sum xs
  less_sum same within =
      let d : sum_to (λ k. (get_or xs k 0 - get_or ys k 0) + get_or ys k 0) (length xs) ≡ sum_to (λ k. get_or xs k 0) (length xs) = sum_to_same _ _ (length xs) (λ k h. omega (arith, within k h)) in
      omega (arith, d, less_sum_to, sum_to_add (λ k. get_or xs k 0 - get_or ys k 0) (λ k. get_or ys k 0) (length xs), places_sum (λ x. x) xs, places_sum (λ x. x) ys, ap (sum_to (λ k. get_or ys k 0)) same)

module _ (share : Sharing) (debts dues : List ℕ) where
  pub still_none : still share debts dues 0 ≡ padded dues
  unfolding still
  still_none = refl

  pub still_more : (n : ℕ) → still share debts dues (n + 1) ≡ less (still share debts dues n) (row share debts dues n)
  unfolding still row
  still_more n = rw add-one

  -- what the rule answers for the weight list of what is still due
  pub row_is : (n debt : ℕ) (due weights answer : List ℕ) → answer ≡ share debt weights → weights ≡ due → debt ≡ get_or debts n 0 → due ≡ still share debts dues n → answer ≡ row share debts dues n
  unfolding row
  row_is n debt due weights answer a w d e = cc

  pub rows_none : rows share debts dues 0 ≡ []
  unfolding rows
  rows_none = refl

  pub rows_more : (n : ℕ) → rows share debts dues (n + 1) ≡ rows share debts dues n ++ take 32 (row share debts dues n)
  unfolding rows
  rows_more n = rw add-one

  module _ (keeps : Keeps share) (many : length dues ≡ 32) (small : sum dues ≤ limit) where
    -- it is a weight list at every turn
    pub still_weighed : (n : ℕ) → Weighed (still share debts dues n)
    unfolding still
    still_weighed zero = record { long = padded_long dues (omega arith); light = omega (arith, padded_sum dues) }
    still_weighed (suc n) =
        let before = still_weighed n in
        let given = share (get_or debts n 0) (still share debts dues n) in
        record {
          long = less_long (still share debts dues n) given ∙ before.long;
          light = omega (arith, less_light (still share debts dues n) given, before.light);
        }

    pub row_long : (n : ℕ) → length (row share debts dues n) ≡ 48
    unfolding row
    row_long n = keeps.long (get_or debts n 0) (still share debts dues n) (still_weighed n)

    pub rows_long : (n : ℕ) → length (rows share debts dues n) ≡ n * 32
    unfolding rows
    rows_long zero = refl
    rows_long (suc n) =
        omega (arith, rows_long n, length-append (rows share debts dues n) (take 32 (row share debts dues n)), length-take-le 32 (row share debts dues n) (omega (arith, row_long n)))

-- a row written behind what is written
pub written_more : (done xs old : List ℕ) (n : ℕ) → length done ≡ n * 32 → paste (done ++ drop (n * 32) old) (n * 32) xs 32 ≡ (done ++ take 32 xs) ++ drop ((n + 1) * 32) old
written_more done xs old n long =
    let front = take_at done (drop (n * 32) old) (n * 32) long in
    let back : drop (n * 32 + 32) (done ++ drop (n * 32) old) ≡ drop (n * 32 + 32) old =
    sym (drop-drop 32 (n * 32) (done ++ drop (n * 32) old)) ∙ ap (drop 32) (drop_at done (drop (n * 32) old) (n * 32) long) ∙ drop-drop 32 (n * 32) old in
    let place : n * 32 + 32 ≡ (n + 1) * 32 = omega arith in
    ap (λ a. a ++ take 32 xs ++ drop (n * 32 + 32) (done ++ drop (n * 32) old)) front
    ∙ ap (λ b. done ++ take 32 xs ++ b) (back ∙ ap (λ m. drop m old) place)
