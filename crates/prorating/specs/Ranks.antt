-- Ranks by remainder: they are all different, so as many places come first as there are cents.
use Rattle.std.specs.Prelude.{◌≡◌, ℕ, ◌<◌, ◌≤◌, true, false, ◌&&◌, ltb, ◌⊎◌, List, length, ◌==◌, ◌≢◌, nat_lt, slice_index}
use Rattle.std.proofs.Common.{ap, ⊎_elim, inl, inr, arith}
use Rattle.std.proofs.lemmas.Bool.{cases_eq, cases_Bool, ltb-true, eqb-true, and_parts, or_cases}
use Rattle.std.proofs.lemmas.Bool.Decides.{nat_tests}
use Rattle.prorating.specs.Largest.{comes_before, rank}
use Rattle.prorating.specs.Counts.{bit, count_to, counting_count, sum_to_le, sum_to_less, sum_to_ones, bit_small, below_count}

module _ (rs : List ℕ) where
  pub rank_counts : (k : ℕ) → rank rs k ≡ count_to (λ j. comes_before rs j k) (length rs)
  unfolding rank
  rank_counts k = counting_count (λ j. comes_before rs j k) (length rs)

  first_self : (k : ℕ) → comes_before rs k k ≡ false
  first_self k = grind (arith, nat_tests)

  first_trans : (i j k : ℕ) → comes_before rs i j ≡ true → comes_before rs j k ≡ true → comes_before rs i k ≡ true
  first_trans i j k p q = grind (arith, nat_tests)

  first_total : (j k : ℕ) → (j ≢ k) → comes_before rs j k ≡ false → comes_before rs k j ≡ true
  first_total j k apart p = grind (arith, nat_tests)

  first_means : (j k : ℕ) → comes_before rs j k ≡ true → (slice_index rs k < slice_index rs j) ⊎ ((slice_index rs j ≡ slice_index rs k) × (j < k))
  first_means j k first =
      ⊎_elim
      (λ larger. inl (ltb-true (slice_index rs k) (slice_index rs j) larger))
      (λ tie. let p = and_parts (slice_index rs j == slice_index rs k) (nat_lt j k) tie in inr (eqb-true (slice_index rs j) (slice_index rs k) p.0, ltb-true j k p.1))
      (or_cases (nat_lt (slice_index rs k) (slice_index rs j)) (slice_index rs j == slice_index rs k && nat_lt j k) first)

  -- what comes first has the lower rank
  rank_less : (j k : ℕ) → j < length rs → comes_before rs j k ≡ true → rank rs j < rank rs k
  rank_less j k h first =
      omega (
        arith,
        rank_counts j,
        rank_counts k,
        sum_to_less (λ i. bit (comes_before rs i j)) (λ i. bit (comes_before rs i k)) (length rs) j h
            (λ i l. ⊎_elim
            (λ t. omega (arith, ap bit t, ap bit (first_trans i j k t first)))
            (λ f. omega (arith, ap bit f))
            (cases_Bool (comes_before rs i j)))
            (omega (arith, ap bit (first_self j), ap bit first)),
      )

  rank_into : (k : ℕ) → k < length rs → rank rs k < length rs
  rank_into k h =
      omega (
        arith,
        rank_counts k,
        sum_to_ones (length rs),
        sum_to_less (λ i. bit (comes_before rs i k)) (λ _. 1) (length rs) k h (λ i l. bit_small (comes_before rs i k)) (omega (arith, ap bit (first_self k))),
      )

  rank_apart : (j k : ℕ) → j < length rs → k < length rs → rank rs j ≡ rank rs k → j ≡ k
  rank_apart j k hj hk e =
      ⊎_elim
      (λ same. same)
      (λ apart. ⊎_elim
      (λ t. omega (arith, rank_less j k hj t))
      (λ f. omega (arith, rank_less k j hk (first_total j k apart f)))
      (cases_Bool (comes_before rs j k)))
      (cases_eq j k)

  -- m places have a rank below m
  pub rank_count : (m : ℕ) → m ≤ length rs → count_to (λ k. ltb (rank rs k) m) (length rs) ≡ m
  rank_count m l = below_count (rank rs) (length rs) rank_into rank_apart m l

  -- a place without a remainder comes after all that have one
  pub rank_last : (k : ℕ) → slice_index rs k ≡ 0 → count_to (λ j. ltb 0 (slice_index rs j)) (length rs) ≤ rank rs k
  rank_last k none =
      omega (
        arith,
        rank_counts k,
        sum_to_le (λ j. bit (nat_lt 0 (slice_index rs j))) (λ j. bit (comes_before rs j k)) (length rs) (λ j l. grind (arith, nat_tests)),
      )

  -- the lower rank has the larger remainder, or an equal one and the lower number
  pub rank_means : (j k : ℕ) → j < length rs → k < length rs → rank rs j < rank rs k → (slice_index rs k < slice_index rs j) ⊎ ((slice_index rs j ≡ slice_index rs k) × (j < k))
  rank_means j k hj hk less =
      first_means j k
      (⊎_elim
      (λ t. t)
      (λ f. ⊎_elim
      (λ same. let e : rank rs j ≡ rank rs k = ap (rank rs) same in absurd (omega arith))
      (λ apart. absurd (omega (arith, rank_less k j hk (first_total j k apart f))))
      (cases_eq j k))
      (cases_Bool (comes_before rs j k)))
