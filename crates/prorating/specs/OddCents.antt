-- Every share rounded down, and the odd cents: what the shares of the largest-remainder rule come to.
use Rattle.std.specs.Prelude.{◌≡◌, ℕ, ◌+◌, ◌*◌, ◌/◌, ◌%◌, ◌<◌, ◌≤◌, true, ltb, ◌⊎◌, List, length, sum, nat_lt, slice_index}
use Rattle.std.proofs.Common.{sym, ◌∙◌, arith}
use Rattle.std.proofs.Math.Path.{ap, subst}
use Rattle.std.proofs.Math.Logic.{⊎_elim, inl, inr}
use Rattle.std.proofs.Math.Nat.{le_of_mul-le-mul_left}
use Rattle.std.proofs.lemmas.Nat.{div-add-mod', mod_below}
use Rattle.std.proofs.lemmas.List.{length-map, get_or-map}
use Rattle.std.proofs.lemmas.List.Sums.{sum-map}
use Rattle.std.proofs.lemmas.Bool.{cases_lt, lt-ltb, le-ltb}
use Rattle.prorating.specs.Weights.{Weighed}
use Rattle.prorating.specs.Laws.{is_shared, Near, Nothing, EachNear, Keeps}
use Rattle.prorating.specs.Largest.{floors, remainders, cents_left, rank, odd_cent, largest_share, largest, floor_at, remainder_at, LargestRemainders}
use Rattle.prorating.specs.Counts.{sum_to, bit, count_to, places_sum, count_small, sum_to_add, sum_to_mul, sum_to_le, sum_to_same}
use Rattle.prorating.specs.Ranks.{rank_count, rank_last, rank_means}
use Rattle.prorating.specs.SharedBy.{shared_some, shared_none, shared_long, shared_at}
use Rattle.prorating.specs.Conclusions.{weightless_from}

module _ (pot : ℕ) (ws : List ℕ) where
  pub floors_long : length (floors pot ws) ≡ length ws
  unfolding floors
  floors_long = length-map ws (λ w. pot * w / sum ws)

  pub remainders_long : length (remainders pot ws) ≡ length ws
  unfolding remainders
  remainders_long = length-map ws (λ w. pot * w % sum ws)

  pub floors_at : (k : ℕ) → k < length ws → slice_index (floors pot ws) k ≡ floor_at pot ws k
  unfolding floors
  floors_at k h = get_or-map (λ w. pot * w / sum ws) ws k 0 0 h

  pub remainders_at : (k : ℕ) → k < length ws → slice_index (remainders pot ws) k ≡ remainder_at pot ws k
  unfolding remainders
  remainders_at k h = get_or-map (λ w. pot * w % sum ws) ws k 0 0 h

  -- the sum of the floors, by place
  floors_sum : sum (floors pot ws) ≡ sum_to (floor_at pot ws) (length ws)
  unfolding floors
  floors_sum = sum-map (λ w. pot * w / sum ws) ws ∙ places_sum (λ w. pot * w / sum ws) ws

  -- a floor with its remainder is the exact part, times the total
  exact : (k : ℕ) → sum ws * floor_at pot ws k + remainder_at pot ws k ≡ pot * slice_index ws k
  exact k = omega (arith, div-add-mod' (pot * slice_index ws k) (sum ws))

  exact_sum : sum ws * sum_to (floor_at pot ws) (length ws) + sum_to (remainder_at pot ws) (length ws) ≡ sum ws * pot
  exact_sum =
      omega (
        arith,
        ap (λ x. pot * x) (places_sum (λ w. w) ws),
        sum_to_mul pot (λ k. slice_index ws k) (length ws),
        sum_to_same (λ k. sum ws * floor_at pot ws k + remainder_at pot ws k) (λ k. pot * slice_index ws k) (length ws) (λ k h. exact k),
        sum_to_add (λ k. sum ws * floor_at pot ws k) (remainder_at pot ws) (length ws),
        sum_to_mul (sum ws) (floor_at pot ws) (length ws),
      )

  -- how many places have a remainder
  abbrev uneven : ℕ
  uneven = count_to (λ k. ltb 0 (remainder_at pot ws k)) (length ws)

  uneven_listed : count_to (λ k. ltb 0 (slice_index (remainders pot ws) k)) (length (remainders pot ws)) ≡ uneven
  uneven_listed =
      rw remainders_long
      (sum_to_same (λ k. bit (nat_lt 0 (slice_index (remainders pot ws) k))) (λ k. bit (nat_lt 0 (remainder_at pot ws k))) (length ws)
      (λ k h. ap (λ r. bit (nat_lt 0 r)) (remainders_at k h)))

  module _ (pos : 0 < sum ws) where
    remainder_below : (k : ℕ) → remainder_at pot ws k < sum ws
    remainder_below k = mod_below (pot * slice_index ws k) (sum ws) pos

    remainders_small : sum_to (remainder_at pot ws) (length ws) ≤ sum ws * uneven
    remainders_small =
        omega (
          arith,
          sum_to_mul (sum ws) (λ k. bit (nat_lt 0 (remainder_at pot ws k))) (length ws),
          sum_to_le (remainder_at pot ws) (λ k. sum ws * bit (nat_lt 0 (remainder_at pot ws k))) (length ws)
              (λ k h. ⊎_elim
              (λ some. subst (λ b. remainder_at pot ws k ≤ sum ws * bit b) (sym (lt-ltb 0 (remainder_at pot ws k) some)) (omega (arith, remainder_below k)))
              (λ none. omega arith)
              (cases_lt 0 (remainder_at pot ws k))),
        )

    -- rounding down gives no more than the pot
    pub floors_small : sum (floors pot ws) ≤ pot
    floors_small =
        let h : sum ws * sum_to (floor_at pot ws) (length ws) ≤ sum ws * pot = omega (arith, exact_sum) in
        omega (arith, floors_sum, le_of_mul-le-mul_left h pos)

    floors_and_left : sum (floors pot ws) + cents_left pot ws ≡ pot
    unfolding cents_left
    floors_and_left = omega (arith, floors_small)

    -- and leaves no more cents than there are places with a remainder
    left_small : cents_left pot ws ≤ uneven
    unfolding cents_left
    left_small =
        let h : sum ws * pot ≤ sum ws * (sum_to (floor_at pot ws) (length ws) + uneven) = omega (arith, exact_sum, remainders_small) in
        omega (arith, floors_sum, le_of_mul-le-mul_left h pos)

    -- so each cent goes to a place of its own
    cents_given : sum_to (odd_cent pot ws) (length ws) ≡ cents_left pot ws
    unfolding odd_cent
    cents_given =
        subst (λ n. sum_to (λ k. bit (nat_lt (rank (remainders pot ws) k) (cents_left pot ws))) n ≡ cents_left pot ws) remainders_long
        (rank_count (remainders pot ws) (cents_left pot ws) (omega (arith, left_small, remainders_long, count_small (λ k. ltb 0 (remainder_at pot ws k)) (length ws))))

    -- a place without a remainder gets none
    no_cent : (k : ℕ) → k < length ws → remainder_at pot ws k ≡ 0 → odd_cent pot ws k ≡ 0
    unfolding odd_cent
    no_cent k h none =
        ap bit (le-ltb (rank (remainders pot ws) k) (cents_left pot ws) (omega (arith, left_small, uneven_listed, rank_last (remainders pot ws) k (remainders_at k h ∙ none))))

    -- the odd cent of a place, told by its rank
    cent_told : (k : ℕ) → ((odd_cent pot ws k ≡ 1) × (rank (remainders pot ws) k < cents_left pot ws)) ⊎ ((odd_cent pot ws k ≡ 0) × (cents_left pot ws ≤ rank (remainders pot ws) k))
    unfolding odd_cent
    cent_told k =
        ⊎_elim
        (λ h. inl (ap bit (lt-ltb (rank (remainders pot ws) k) (cents_left pot ws) h), h))
        (λ h. inr (ap bit (le-ltb (rank (remainders pot ws) k) (cents_left pot ws) h), h))
        (cases_lt (rank (remainders pot ws) k) (cents_left pot ws))

    -- an odd cent goes only where there is a remainder
    cent_cases : (k : ℕ) → k < length ws → (odd_cent pot ws k ≡ 0) ⊎ ((odd_cent pot ws k ≡ 1) × (0 < remainder_at pot ws k))
    cent_cases k h =
        ⊎_elim
        (λ some. ⊎_elim (λ one. inr (one.0, some)) (λ none. inl none.0) (cent_told k))
        (λ none. inl (no_cent k h (omega arith)))
        (cases_lt 0 (remainder_at pot ws k))

    share_is : (k : ℕ) → k < length ws → largest_share pot ws k ≡ floor_at pot ws k + odd_cent pot ws k
    unfolding largest_share
    share_is k h = omega (arith, floors_at k h)

    shares_sum : sum_to (largest_share pot ws) (length ws) ≡ pot
    shares_sum =
        omega (
          arith,
          sum_to_same (largest_share pot ws) (λ k. floor_at pot ws k + odd_cent pot ws k) (length ws) share_is,
          sum_to_add (floor_at pot ws) (odd_cent pot ws) (length ws),
          floors_sum,
          floors_and_left,
          cents_given,
        )

    share_near : (k : ℕ) → k < length ws → Near pot (sum ws) (slice_index ws k) (largest_share pot ws k)
    share_near k h =
        rw (share_is k h)
        (⊎_elim
        (λ none. rw none (record { above = omega (arith, exact k, remainder_below k); below = omega (arith, exact k, remainder_below k) }))
        (λ one. rw one.0 (record { above = omega (arith, exact k, remainder_below k, one.1); below = omega (arith, exact k, remainder_below k) }))
        (cent_cases k h))

module _ (pot : ℕ) (ws : List ℕ) (w : Weighed ws) (shares : is_shared pot ws ≡ true) where
  some : 0 < sum ws
  some = shared_some pot ws shares

  at : (k : ℕ) → k < 48 → slice_index (largest pot ws) k ≡ floor_at pot ws k + odd_cent pot ws k
  at k h = shared_at (largest_share pot ws) pot ws w shares k h ∙ share_is pot ws some k (omega arith)

  largest_whole : sum (largest pot ws) ≡ pot
  largest_whole =
      let long = shared_long (largest_share pot ws) pot ws w in
      let by_place = places_sum (λ x. x) (largest pot ws) in
      let same : sum_to (λ k. slice_index (largest pot ws) k) (length ws) ≡ sum_to (largest_share pot ws) (length ws) =
      sum_to_same (λ k. slice_index (largest pot ws) k) (largest_share pot ws) (length ws) (λ k h. shared_at (largest_share pot ws) pot ws w shares k (omega arith)) in
      by_place ∙ ap (sum_to (λ k. slice_index (largest pot ws) k)) (long ∙ sym w.long) ∙ same ∙ shares_sum pot ws some

  pub largest_remainders : LargestRemainders pot ws (largest pot ws)
  largest_remainders =
      record {
        rounded = λ k h. ⊎_elim
            (λ one. inr (omega (arith, at k h, one.0)))
            (λ none. inl (omega (arith, at k h, none.0)))
            (cent_told pot ws some k);
        fair = λ j k hj hk one none.
            let in_j : j < length ws = omega arith in
            let in_k : k < length ws = omega arith in
            let ranked : rank (remainders pot ws) j < rank (remainders pot ws) k =
            omega (arith, at j hj, at k hk, cent_told pot ws some j, cent_told pot ws some k) in
            let means = rank_means (remainders pot ws) j k (omega (arith, remainders_long pot ws)) (omega (arith, remainders_long pot ws)) ranked in
            subst (λ r. (r < remainder_at pot ws j) ⊎ ((remainder_at pot ws j ≡ r) × (j < k))) (remainders_at pot ws k in_k)
            (subst (λ r. (slice_index (remainders pot ws) k < r) ⊎ ((r ≡ slice_index (remainders pot ws) k) × (j < k))) (remainders_at pot ws j in_j) means);
      }

largest_nothing : Nothing largest
largest_nothing pot ws w none = shared_none (largest_share pot ws) pot ws w none

largest_near : EachNear largest
largest_near pot ws k w shares h =
    rw (shared_at (largest_share pot ws) pot ws w shares k h) (share_near pot ws (shared_some pot ws shares) k (omega arith))

-- the largest-remainder rule keeps the laws
pub largest_keeps : Keeps largest
largest_keeps =
    record {
      long = λ pot ws w. shared_long (largest_share pot ws) pot ws w;
      nothing = largest_nothing;
      whole = largest_whole;
      near = largest_near;
      weightless = weightless_from largest largest_nothing largest_near;
    }
