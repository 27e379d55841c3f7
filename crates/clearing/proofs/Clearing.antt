-- Why payments clear, from the laws of a rule alone.
use Rattle.std.proofs.Common.{◌≡◌, ℕ, zero, suc, ◌+◌, ◌-◌, ◌*◌, ◌<◌, ◌≤◌, true, false, cond, ◌&&◌, ltb, leb, List, length, get_or, take, drop, sum_by, sum, sym, refl, ap, ◌∙◌, subst, ⊎_elim, add-one, arith}
use Rattle.std.specs.List.{range_with_len}
use Rattle.std.proofs.lemmas.List.{get_or_append_left, get_or-append_right, get_or-take, get_or_past, take_all, drop_at}
use Rattle.std.proofs.lemmas.List.Sums.{sum_by_more, sum_by-take-le, get_or-le-sum_by}
use Rattle.std.proofs.lemmas.Bool.{cases_lt, cond-true, lt-ltb, le-leb, and_from}
use Rattle.std.proofs.lemmas.Bool.Decides.{nat_tests}
use Rattle.prorating.specs.Laws.{Sharing, Keeps, is_shared}
use Rattle.prorating.specs.Weights.{limit, padded, Weighed}
use Rattle.prorating.specs.Conclusions.{shares_amount, shares_within}
use Rattle.prorating.specs.Counts.{sum_to, places_sum, sum_to_same}
use Rattle.prorating.proofs.Puts.{padded_sum, padded_at}
use Rattle.payers.specs.Bases.{is_company}
use Rattle.payers.specs.Runs.{sum_next}
use Rattle.numbered.specs.Entries.{entry}
use Rattle.clearing.specs.Clearing.{payment, paid, received, Clears}
use Rattle.clearing.specs.Payments.{still, row, rows, with_payments}
use Rattle.clearing.proofs.Due.{less_at, less_sum, still_weighed, row_long, rows_long}

-- sums over numbers from 1 and over indices from 0
numbered_sum : (f : ℕ → ℕ) (n : ℕ) → sum_by f (range_with_len 1 n) ≡ sum_to (λ k. f (k + 1)) n
numbered_sum f zero = refl
numbered_sum f (suc n) =
    let next : n + 1 ≡ suc n = omega arith in
    subst (λ m. sum_by f (range_with_len 1 m) ≡ sum_by f (range_with_len 1 n) + f (n + 1)) next (sum_next f 1 n (n + 1) (omega arith)) ∙ ap (λ x. x + f (n + 1)) (numbered_sum f n)

tail_zero : (f : ℕ → ℕ) (m n : ℕ) → m ≤ n → ((k : ℕ) → m ≤ k → k < n → f k ≡ 0) → sum_to f n ≡ sum_to f m
tail_zero f m zero h z = let e : m ≡ 0 = omega arith in rw e
tail_zero f m (suc n) h z =
    ⊎_elim
    (λ below. omega (arith, tail_zero f m n (omega arith) (λ k a b. z k a (omega arith)), z n (omega arith) (omega arith)))
    (λ (above : suc n ≤ m). let e : m ≡ suc n = omega arith in rw e)
    (cases_lt m (suc n))

part_below : (f : ℕ → ℕ) (n k : ℕ) → k < n → f k ≤ sum_to f n
part_below f zero k h = absurd (omega arith)
part_below f (suc n) k h =
    ⊎_elim
    (λ (below : k < n). omega (arith, part_below f n k below))
    (λ above. let e : k ≡ n = omega arith in omega (arith, ap f e))
    (cases_lt k n)

-- Debts and dues that balance, and a rule that keeps its laws.
pub record Balanced (share : Sharing) (debts dues : List ℕ) : Type 0 where
  pub keeps : Keeps share
  pub debtors : length debts ≡ 32
  pub creditors : length dues ≡ 32
  pub even : sum debts ≡ sum dues
  pub small : sum dues ≤ limit

module _ {share : Sharing} {debts dues : List ℕ} (ok : Balanced share debts dues) where
  abbrev due_at : ℕ → List ℕ
  due_at n = still share debts dues n

  abbrev pays : ℕ → List ℕ
  pays n = row share debts dues n

  weighed : (n : ℕ) → Weighed (due_at n)
  weighed n = still_weighed share debts dues ok.keeps ok.creditors ok.small n

  -- the debt of the next debtor is at most what is still due
  debt_fits : (n : ℕ) → n < 32 → sum (due_at n) + sum (take n debts) ≡ sum dues → get_or debts n 0 ≤ sum (due_at n)
  debt_fits n h rest = omega (arith, rest, ok.even, ok.debtors, sum_by_more (λ x. x) debts n 0 (omega (arith, ok.debtors)), sum_by-take-le (λ x. x) debts (n + 1))

  pays_whole : (n : ℕ) → n < 32 → sum (due_at n) + sum (take n debts) ≡ sum dues → sum (pays n) ≡ get_or debts n 0
  unfolding row
  pays_whole n h rest =
      let fits = debt_fits n h rest in
      let amount = shares_amount share ok.keeps (get_or debts n 0) (due_at n) (weighed n) in
      ⊎_elim
      (λ (some : 0 < sum (due_at n)). amount ∙ cond-true (is_shared (get_or debts n 0) (due_at n)) (get_or debts n 0) 0 (and_from _ _ (le-leb (get_or debts n 0) limit (omega (arith, (weighed n).light))) (lt-ltb 0 (sum (due_at n)) some)))
      (λ none.
      let nothing : get_or debts n 0 ≡ 0 = omega arith in
      ap (λ d. sum (share d (due_at n))) nothing ∙ shares_amount share ok.keeps 0 (due_at n) (weighed n) ∙ no_pot (sum (due_at n)) ∙ sym nothing)
      (cases_lt 0 (sum (due_at n)))
    where
      no_pot : (t : ℕ) → ◌≡◌ {A = ℕ} (cond (leb 0 limit && ltb 0 t) 0 0) 0
      no_pot t = elim (leb 0 limit && ltb 0 t) as (λ b. ◌≡◌ {A = ℕ} (cond b 0 0) 0) [ true ↦ refl | false ↦ refl ]

  -- No share exceeds what is due to its creditor.
  pub no_share_exceeds_the_due : (n : ℕ) → n < 32 → sum (due_at n) + sum (take n debts) ≡ sum dues → (k : ℕ) → k < 48 → get_or (pays n) k 0 ≤ get_or (due_at n) k 0
  unfolding row
  no_share_exceeds_the_due n h rest = shares_within share ok.keeps (get_or debts n 0) (due_at n) (weighed n) (debt_fits n h rest)

  -- what is still due goes down by exactly the debt
  rest : (n : ℕ) → n ≤ 32 → sum (due_at n) + sum (take n debts) ≡ sum dues
  unfolding still row
  rest zero h = omega (arith, padded_sum dues)
  rest (suc n) h =
      let before = rest n (omega arith) in
      let within = no_share_exceeds_the_due n (omega arith) before in
      let more : sum (take (suc n) debts) ≡ sum (take n debts) + get_or debts n 0 = rw add-one at (sum_by_more (λ x. x) debts n 0 (omega (arith, ok.debtors))) in
      omega (
        arith,
        more,
        before,
        pays_whole n (omega arith) before,
        less_sum (due_at n) (pays n) (row_long share debts dues ok.keeps ok.creditors ok.small n ∙ sym (weighed n).long) (λ k b. within k (omega (arith, (weighed n).long))),
      )

  -- what is still due to a creditor, and what it has received
  column : (n j : ℕ) → n ≤ 32 → j < 48 → get_or (due_at n) j 0 + sum_to (λ i. get_or (pays i) j 0) n ≡ get_or (padded dues) j 0
  unfolding still row
  column zero j h b = omega arith
  column (suc n) j h b =
      omega (arith, column n j (omega arith) b, no_share_exceeds_the_due n (omega arith) (rest n (omega arith)) j b, less_at (due_at n) (pays n) j (omega (arith, (weighed n).long)))

  -- The last debtor empties what is left.
  pub the_last_debtor_empties : (n : ℕ) → n ≡ 32 → (j : ℕ) → j < 48 → get_or (due_at n) j 0 ≡ 0
  the_last_debtor_empties n e j b =
      omega (arith, rest n (omega arith), ok.even, ap sum (take_all n debts (omega (arith, ok.debtors))), get_or-le-sum_by (λ x. x) (due_at n) j 0 (omega (arith, (weighed n).long)))

  -- nothing goes to the places past the companies
  past : (n j : ℕ) → n < 32 → 32 ≤ j → j < 48 → get_or (pays n) j 0 ≡ 0
  past n j h a b =
      omega (arith, column n j (omega arith) b, no_share_exceeds_the_due n h (rest n (omega arith)) j b, padded_at dues j, get_or_past dues j 0 (omega (arith, ok.creditors)))

  rows_at : (n i j : ℕ) → n ≤ 32 → i < n → j < 32 → get_or (rows share debts dues n) (i * 32 + j) 0 ≡ get_or (pays i) j 0
  unfolding rows
  rows_at zero i j h a b = absurd (omega arith)
  rows_at (suc n) i j h a b =
      let long = rows_long share debts dues ok.keeps ok.creditors ok.small n in
      ⊎_elim
      (λ below. get_or_append_left (rows share debts dues n) (take 32 (pays n)) 0 (i * 32 + j) (omega arith) ∙ rows_at n i j (omega arith) below b)
      (λ above.
      let e : n ≡ i = omega arith in
      let k : i * 32 + j - n * 32 ≡ j = omega arith in
      get_or-append_right (rows share debts dues n) (take 32 (pays n)) (n * 32) (i * 32 + j) 0 long (omega arith)
      ∙ ap (λ m. get_or (take 32 (pays n)) m 0) k ∙ get_or-take 32 (pays n) j 0 b ∙ ap (λ m. get_or (pays m) j 0) e)
      (cases_lt i n)

  all_received : (n j : ℕ) → n ≡ 32 → j < 32 → sum_to (λ i. get_or (pays i) j 0) n ≡ get_or dues j 0
  all_received n j e b = omega (arith, column n j (omega arith) (omega arith), the_last_debtor_empties n e j (omega arith), padded_at dues j)

  all_paid : (n m i : ℕ) → n ≡ 32 → m ≡ 48 → i < 32 → sum_to (λ j. get_or (pays i) j 0) n ≡ get_or debts i 0
  all_paid n m i e f h =
      let same : sum_to (λ j. get_or (pays i) j 0) (length (pays i)) ≡ sum_to (λ j. get_or (pays i) j 0) m = ap (sum_to (λ j. get_or (pays i) j 0)) (omega (arith, row_long share debts dues ok.keeps ok.creditors ok.small i)) in
      omega (arith, places_sum (λ x. x) (pays i), same, pays_whole i h (rest i (omega arith)), tail_zero (λ j. get_or (pays i) j 0) n m (omega arith) (λ k a b. past i k h (omega arith) (omega arith)))

  module _ (before : List ℕ) where
    abbrev table : List ℕ
    table = with_payments share debts dues before

    payment_is : (i j : ℕ) → i < 32 → j < 32 → payment table (i + 1) (j + 1) ≡ get_or (pays i) j 0
    payment_is i j a b =
        let place : (i + 1 - 1) * 32 + (j + 1 - 1) ≡ i * 32 + j = omega arith in
        ap (λ p. get_or table p 0) place
        ∙ get_or_append_left (rows share debts dues 32) (drop 1_024 before) 0 (i * 32 + j) (omega (arith, rows_long share debts dues ok.keeps ok.creditors ok.small 32))
        ∙ rows_at 32 i j (omega arith) a b

    paid_is : (i : ℕ) → i < 32 → paid table (i + 1) ≡ get_or debts i 0
    unfolding paid
    paid_is i h =
        numbered_sum (λ to. payment table (i + 1) to) 32
        ∙ sum_to_same (λ j. payment table (i + 1) (j + 1)) (λ j. get_or (pays i) j 0) 32 (λ j b. payment_is i j h b)
        ∙ all_paid 32 48 i refl refl h

    received_is : (j : ℕ) → j < 32 → received table (j + 1) ≡ get_or dues j 0
    unfolding received
    received_is j b =
        numbered_sum (λ from. payment table from (j + 1)) 32
        ∙ sum_to_same (λ i. payment table (i + 1) (j + 1)) (λ i. get_or (pays i) j 0) 32 (λ i h. payment_is i j h b)
        ∙ all_received 32 j refl b

    in_paid : (i j : ℕ) → j < 32 → payment table (i + 1) (j + 1) ≤ paid table (i + 1)
    unfolding paid
    in_paid i j b = omega (arith, part_below (λ to. payment table (i + 1) (to + 1)) 32 j b, numbered_sum (λ to. payment table (i + 1) to) 32)

    in_received : (i j : ℕ) → i < 32 → payment table (i + 1) (j + 1) ≤ received table (j + 1)
    unfolding received
    in_received i j h = omega (arith, part_below (λ from. payment table (from + 1) (j + 1)) 32 i h, numbered_sum (λ from. payment table from (j + 1)) 32)

    -- a company's number and its index
    index : (c : ℕ) → is_company c ≡ true → (i : ℕ) × (i < 32) × (c ≡ i + 1)
    index c there = (c - 1, grind (arith, nat_tests), grind (arith, nat_tests))

    listed : (xs : List ℕ) (i : ℕ) → i < 32 → entry 32 0 xs (i + 1) ≡ get_or xs i 0
    listed xs i h =
        let there : is_company (i + 1) ≡ true = grind (arith, nat_tests) in
        let place : i + 1 - 1 ≡ i = omega arith in
        cond-true _ _ 0 there ∙ ap (λ k. get_or xs k 0) place

    pub clears : Clears debts dues before table
    clears =
        record {
          debts_paid = λ c there.
              let at = index c there in
              subst (λ c. paid table c ≡ entry 32 0 debts c) (sym at.2) (paid_is at.0 at.1 ∙ sym (listed debts at.0 at.1));
          dues_received = λ c there.
              let at = index c there in
              subst (λ c. received table c ≡ entry 32 0 dues c) (sym at.2) (received_is at.0 at.1 ∙ sym (listed dues at.0 at.1));
          others = λ from to a b none.
              let i = index from a in
              let j = index to b in
              subst (λ f. payment table f to ≡ 0) (sym i.2)
              (subst (λ t. payment table (i.0 + 1) t ≡ 0) (sym j.2)
              (⊎_elim
              (λ owes. omega (arith, in_paid i.0 j.0 j.1, paid_is i.0 i.1, listed debts i.0 i.1, ap (entry 32 0 debts) i.2, owes))
              (λ due. omega (arith, in_received i.0 j.0 i.1, received_is j.0 j.1, listed dues j.0 j.1, ap (entry 32 0 dues) j.2, due))
              none));
          later = drop_at (rows share debts dues 32) (drop 1_024 before) 1_024 (rows_long share debts dues ok.keeps ok.creditors ok.small 32);
        }
