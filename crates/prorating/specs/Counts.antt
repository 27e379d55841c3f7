-- Sums and counts over the numbers below n, and a count by ranks.
use Rattle.std.specs.Prelude.{◌≡◌, ℕ, zero, suc, ◌+◌, ◌-◌, ◌*◌, ◌<◌, ◌≤◌, Bool, true, false, cond, ltb, List, map, length, sum_by, count_by, ◌==◌, nat_eq, nat_lt, slice_index, refl}
use Rattle.std.proofs.Common.{sym, subst, ◌∙◌, ⊎_elim, zero-add, mul-zero, mul-add, add-one}
use Rattle.std.proofs.Math.Path.{ap}
use native.Mathlib.Omega.{arith}
use Rattle.std.specs.List.{range_with_len}
use Rattle.std.proofs.lemmas.List.FromFn.{length-range_with_len, get_or-range_with_len, sum_by-map-range_with_len_more, fill_by_all}
use Rattle.std.proofs.lemmas.Bool.{cases_eq, cases_lt, eq-eqb, ne_eqb, lt-ltb, le-ltb}
use Rattle.std.proofs.lemmas.Bool.Decides.{nat_tests}

-- f 0 + f 1 + .. + f (n - 1)
abbrev pub sum_to : (ℕ → ℕ) → ℕ → ℕ
sum_to f zero = 0
sum_to f (suc n) = sum_to f n + f n

abbrev pub bit : Bool → ℕ
bit b = cond b 1 0

-- how many numbers below n pass the test
abbrev pub count_to : (ℕ → Bool) → ℕ → ℕ
count_to test n = sum_to (λ k. bit (test k)) n

pub sum_to_more : (f : ℕ → ℕ) (n : ℕ) → sum_to f (n + 1) ≡ sum_to f n + f n
sum_to_more f n = rw add-one

-- the sum over a list, by its places
counted_sum : (f g : ℕ → ℕ) (n : ℕ) → sum_by f (map g (range_with_len 0 n)) ≡ sum_to (λ k. f (g k)) n
counted_sum f g zero = refl
counted_sum f g (suc n) =
    subst (λ m. sum_by f (map g (range_with_len 0 m)) ≡ sum_to (λ k. f (g k)) (suc n)) (add-one n)
    (sum_by-map-range_with_len_more f g 0 n n (omega arith) ∙ ap (λ x. x + f (g n)) (counted_sum f g n))

pub places_sum : (f : ℕ → ℕ) (xs : List ℕ) → sum_by f xs ≡ sum_to (λ k. f (slice_index xs k)) (length xs)
places_sum f xs =
    ap (sum_by f) (fill_by_all (λ k. slice_index xs k) xs (length xs) 0 refl (λ k h. refl)) ∙ counted_sum f (λ k. slice_index xs k) (length xs)

-- a count over the list of the numbers below n
pub counting_count : (test : ℕ → Bool) (n : ℕ) → count_by test (range_with_len 0 n) ≡ count_to test n
counting_count test n =
    ap (count_by test) (fill_by_all (λ k. k) (range_with_len 0 n) n 0 (length-range_with_len 0 n) (λ k h. get_or-range_with_len 0 n k 0 h ∙ zero-add k))
    ∙ counted_sum (λ k. bit (test k)) (λ k. k) n

-- two lists with the same at each place
pub same_places : (xs ys : List ℕ) (n : ℕ) → length xs ≡ n → length ys ≡ n → ((k : ℕ) → k < n → slice_index xs k ≡ slice_index ys k) → xs ≡ ys
same_places xs ys n long_xs long_ys each =
    fill_by_all (λ k. slice_index ys k) xs n 0 long_xs each ∙ sym (fill_by_all (λ k. slice_index ys k) ys n 0 long_ys (λ k h. refl))

pub sum_to_add : (f g : ℕ → ℕ) (n : ℕ) → sum_to (λ k. f k + g k) n ≡ sum_to f n + sum_to g n
sum_to_add f g zero = refl
sum_to_add f g (suc n) = omega (arith, sum_to_add f g n)

pub sum_to_mul : (c : ℕ) (f : ℕ → ℕ) (n : ℕ) → sum_to (λ k. c * f k) n ≡ c * sum_to f n
sum_to_mul c f zero = sym (mul-zero c)
sum_to_mul c f (suc n) = omega (arith, sum_to_mul c f n, mul-add c (sum_to f n) (f n))

pub sum_to_le : (f g : ℕ → ℕ) (n : ℕ) → ((k : ℕ) → k < n → f k ≤ g k) → sum_to f n ≤ sum_to g n
sum_to_le f g zero h = omega arith
sum_to_le f g (suc n) h = omega (arith, sum_to_le f g n (λ k l. h k (omega arith)), h n (omega arith))

pub sum_to_same : (f g : ℕ → ℕ) (n : ℕ) → ((k : ℕ) → k < n → f k ≡ g k) → sum_to f n ≡ sum_to g n
sum_to_same f g zero h = refl
sum_to_same f g (suc n) h = omega (arith, sum_to_same f g n (λ k l. h k (omega arith)), h n (omega arith))

-- smaller at one place, and nowhere larger
pub sum_to_less : (f g : ℕ → ℕ) (n i : ℕ) → i < n → ((k : ℕ) → k < n → f k ≤ g k) → f i < g i → sum_to f n < sum_to g n
sum_to_less f g zero i l h s = omega arith
sum_to_less f g (suc n) i l h s =
    ⊎_elim
    (λ below. omega (arith, sum_to_less f g n i below (λ k m. h k (omega arith)) s, h n (omega arith)))
    (λ above.
    let e : i ≡ n = omega arith in
    let here : f n < g n = subst (λ x. f x < g x) e s in
    omega (arith, here, sum_to_le f g n (λ k m. h k (omega arith))))
    (cases_lt i n)

pub sum_to_ones : (n : ℕ) → sum_to (λ _. 1) n ≡ n
sum_to_ones zero = refl
sum_to_ones (suc n) = omega (arith, sum_to_ones n)

sum_to_zeros : (n : ℕ) → sum_to (λ _. 0) n ≡ 0
sum_to_zeros zero = refl
sum_to_zeros (suc n) = omega (arith, sum_to_zeros n)

pub bit_small : (b : Bool) → bit b ≤ 1
bit_small = elim [ true ↦ omega arith | false ↦ omega arith ]

pub count_small : (test : ℕ → Bool) (n : ℕ) → count_to test n ≤ n
count_small test n = omega (arith, sum_to_ones n, sum_to_le (λ k. bit (test k)) (λ _. 1) n (λ k h. bit_small (test k)))

-- Where f takes each number below n to one below n, and no two to the same, m of them go below m.
module _ (f : ℕ → ℕ) (n : ℕ) (into : (k : ℕ) → k < n → f k < n) (apart : (j k : ℕ) → j < n → k < n → f j ≡ f k → j ≡ k) where
  -- at most one goes to m
  one_hit : (m i : ℕ) → i ≤ n → count_to (λ k. nat_eq (f k) m) i ≤ 1
  one_hit m zero l = omega arith
  one_hit m (suc i) l =
      ⊎_elim
      (λ hit.
      let others : count_to (λ k. nat_eq (f k) m) i ≡ 0 =
      sum_to_same _ (λ _. 0) i (λ k h. ap (λ b. bit b) (ne_eqb (f k) m (λ also. let same : k ≡ i = apart k i (omega arith) (omega arith) (also ∙ sym hit) in omega arith))) ∙ sum_to_zeros i in
      let here : bit (f i == m) ≡ 1 = ap (λ b. bit b) (eq-eqb (f i) m hit) in
      omega (arith, others, here))
      (λ miss.
      let here : bit (f i == m) ≡ 0 = ap (λ b. bit b) (ne_eqb (f i) m miss) in
      omega (arith, one_hit m i (omega arith), here))
      (cases_eq (f i) m)

  -- how many go below m
  below : ℕ → ℕ
  below m = count_to (λ k. ltb (f k) m) n

  split : (x m : ℕ) → bit (nat_lt x (suc m)) ≡ bit (nat_lt x m) + bit (x == m)
  split x m = grind (arith, nat_tests)

  below_more : (m : ℕ) → below (suc m) ≤ below m + 1
  unfolding below
  below_more m =
      omega (
        arith,
        one_hit m n (omega arith),
        sum_to_same (λ k. bit (nat_lt (f k) (suc m))) (λ k. bit (nat_lt (f k) m) + bit (f k == m)) n (λ k h. split (f k) m),
        sum_to_add (λ k. bit (nat_lt (f k) m)) (λ k. bit (f k == m)) n,
      )

  below_far : (m d x : ℕ) → m + d ≡ x → below x ≤ below m + d
  below_far m zero x e = let same : m ≡ x = omega arith in subst (λ y. below y ≤ below m + 0) same (omega arith)
  below_far m (suc d) x e =
      let next : suc (m + d) ≡ x = omega arith in
      subst (λ y. below y ≤ below m + suc d) next (omega (arith, below_far m d (m + d) refl, below_more (m + d)))

  below_all : below n ≡ n
  unfolding below
  below_all = sum_to_same _ (λ _. 1) n (λ k h. ap (λ b. bit b) (lt-ltb (f k) n (into k h))) ∙ sum_to_ones n

  below_none : below 0 ≡ 0
  unfolding below
  below_none = sum_to_same _ (λ _. 0) n (λ k h. ap (λ b. bit b) (le-ltb (f k) 0 (omega arith))) ∙ sum_to_zeros n

  pub below_count : (m : ℕ) → m ≤ n → count_to (λ k. ltb (f k) m) n ≡ m
  unfolding below
  below_count m l =
      let up : below m ≤ m = omega (arith, below_none, below_far 0 m m (omega arith)) in
      let down : n ≤ below m + (n - m) = omega (arith, below_all, below_far m (n - m) n (omega arith)) in
      omega arith
