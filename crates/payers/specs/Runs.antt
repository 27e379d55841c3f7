-- Sums over runs of numbers, a, a + 1 and so on, as over the companies' numbers.
use Rattle.std.specs.Prelude.{◌≡◌, ℕ, zero, suc, ◌+◌, ◌-◌, ◌<◌, ◌≤◌, cond, List, [], ◌∷◌, sum_by, ◌==◌, ◌≢◌, slice_index, refl}
use Rattle.std.proofs.Common.{sym, ap, ◌∙◌, ⊎_elim, arith}
use Rattle.std.specs.List.{range_with_len}
use Rattle.std.proofs.lemmas.List.Sums.{sum_by-cons, sum-map, get_or-le-sum_by}
use Rattle.std.proofs.lemmas.List.FromFn.{length-range_with_len, get_or-range_with_len, sum_by-map-range_with_len_more}
use Rattle.std.proofs.lemmas.Bool.Decides.{nat_tests}
use Rattle.std.proofs.lemmas.Bool.{cases_eq, eq-eqb, ne_eqb, cond-true, cond-false}

pub sum_same : (f g : ℕ → ℕ) (a n : ℕ) → ((c : ℕ) → a ≤ c → c < a + n → f c ≡ g c) → sum_by f (range_with_len a n) ≡ sum_by g (range_with_len a n)
sum_same f g a zero each = refl
sum_same f g a (suc n) each =
    omega (
      arith,
      sum_by-cons f a (range_with_len (a + 1) n),
      sum_by-cons g a (range_with_len (a + 1) n),
      each a (omega arith) (omega arith),
      sum_same f g (a + 1) n (λ c low high. each c (omega arith) (omega arith)),
    )

pub sum_zero : {X : Type 0} (xs : List X) → sum_by (λ _. 0) xs ≡ 0
sum_zero [] = refl
sum_zero (x ∷ xs) = omega (arith, sum_by-cons (λ _. 0) x xs, sum_zero xs)

-- one more number at the end
pub sum_next : (f : ℕ → ℕ) (a n j : ℕ) → a + n ≡ j → sum_by f (range_with_len a (n + 1)) ≡ sum_by f (range_with_len a n) + f j
sum_next f a n j e =
    sym (sum-map f (range_with_len a (n + 1)))
    ∙ sum_by-map-range_with_len_more (λ x. x) f a n j e
    ∙ ap (λ s. s + f j) (sum-map f (range_with_len a n))

-- a sum of a part of the run, of terms that are nowhere larger
pub sum_within : (f g : ℕ → ℕ) (a k n : ℕ) → k ≤ n → ((c : ℕ) → f c ≤ g c) → sum_by f (range_with_len a k) ≤ sum_by g (range_with_len a n)
sum_within f g a zero n few each = omega arith
sum_within f g a (suc k) zero few each = absurd (omega arith)
sum_within f g a (suc k) (suc n) few each =
    omega (
      arith,
      sum_by-cons f a (range_with_len (a + 1) k),
      sum_by-cons g a (range_with_len (a + 1) n),
      each a,
      sum_within f g (a + 1) k n (omega arith) each,
    )

-- one term is at most the sum
pub sum_term : (f : ℕ → ℕ) (a n c : ℕ) → a ≤ c → c < a + n → f c ≤ sum_by f (range_with_len a n)
sum_term f a n c low high =
    let place : c - a < n = omega arith in
    let here : slice_index (range_with_len a n) (c - a) ≡ c = get_or-range_with_len a n (c - a) 0 place ∙ omega arith in
    omega (arith, get_or-le-sum_by f (range_with_len a n) (c - a) 0 (omega (arith, length-range_with_len a n)), ap f here)

-- a sum whose one term that counts is at h
abbrev pub only : ℕ → ℕ → ℕ → ℕ
only h w c = cond (h == c) w 0

pub only_there : (h w c : ℕ) → h ≡ c → only h w c ≡ w
only_there h w c same = cond-true (h == c) w 0 (eq-eqb h c same)

pub only_elsewhere : (h w c : ℕ) → (h ≢ c) → only h w c ≡ 0
only_elsewhere h w c apart = cond-false (h == c) w 0 (ne_eqb h c apart)

pub only_small : (h w c : ℕ) → only h w c ≤ w
only_small h w c = grind (arith, nat_tests)

pub sum_only : (h w a n : ℕ) → a ≤ h → h < a + n → sum_by (only h w) (range_with_len a n) ≡ w
sum_only h w a zero low high = absurd (omega arith)
sum_only h w a (suc n) low high =
    ⊎_elim
    (λ same.
    let after : sum_by (only h w) (range_with_len (a + 1) n) ≡ 0 = sum_same (only h w) (λ _. 0) (a + 1) n (λ c l u. only_elsewhere h w c (λ e. omega arith)) ∙ sum_zero (range_with_len (a + 1) n) in
    omega (arith, sum_by-cons (only h w) a (range_with_len (a + 1) n), only_there h w a same))
    (λ apart. omega (arith, sum_by-cons (only h w) a (range_with_len (a + 1) n), only_elsewhere h w a apart, sum_only h w (a + 1) n (omega arith) (omega arith)))
    (cases_eq h a)

-- a sum of sums, by rows and by columns
sum_split : {X : Type 0} (f g h : X → ℕ) → ((x : X) → f x ≡ g x + h x) → (xs : List X) → sum_by f xs ≡ sum_by g xs + sum_by h xs
sum_split f g h each [] = refl
sum_split f g h each (x ∷ xs) = omega (arith, sum_by-cons f x xs, sum_by-cons g x xs, sum_by-cons h x xs, each x, sum_split f g h each xs)

pub sum_exchange : {X Y : Type 0} (f : X → Y → ℕ) (xs : List X) (ys : List Y) → sum_by (λ x. sum_by (f x) ys) xs ≡ sum_by (λ y. sum_by (λ x. f x y) xs) ys
sum_exchange f [] ys = sym (sum_zero ys)
sum_exchange f (x ∷ xs) ys =
    omega (
      arith,
      sum_by-cons (λ x. sum_by (f x) ys) x xs,
      sum_exchange f xs ys,
      sum_split (λ y. sum_by (λ x. f x y) (x ∷ xs)) (f x) (λ y. sum_by (λ x. f x y) xs) (λ y. sum_by-cons (λ x. f x y) x xs) ys,
    )
