-- What the shares of the running rule come to.
use Rattle.std.specs.Prelude.{◌≡◌, ℕ, zero, suc, ◌+◌, ◌*◌, ◌/◌, ◌%◌, ◌<◌, ◌≤◌, true, List, length, take, sum, slice_index}
use Rattle.std.proofs.Math.Path.{refl, ap}
use Rattle.std.proofs.Common.{sym, subst, ◌∙◌, ⊎_elim, mul-zero, mul-div_cancel, add-one, arith}
use Rattle.std.proofs.Math.Nat.{zero-div, mul-add}
use Rattle.std.proofs.lemmas.Nat.{div-add-mod', mod_below, le-div}
use Rattle.std.proofs.lemmas.List.{take_all}
use Rattle.std.proofs.lemmas.List.Sums.{sum_by_more}
use Rattle.std.proofs.lemmas.Bool.{cases_lt}
use Rattle.prorating.specs.Weights.{Weighed}
use Rattle.prorating.specs.Laws.{is_shared, Near, Nothing, EachNear, Keeps}
use Rattle.prorating.specs.Running.{part_to, running_share, running, RunningSums}
use Rattle.prorating.specs.SharedBy.{shared_some, shared_none, shared_long, shared_at}
use Rattle.prorating.specs.Conclusions.{weightless_from}

-- a quotient rounded down does not fall where the dividend grows
floor_grows : (a b t : ℕ) → 0 < t → a / t ≤ (a + b) / t
floor_grows a b t pos = le-div (a / t) (a + b) t pos (omega (arith, div-add-mod' a t))

-- two quotients rounded down are as far apart as the exact ones, to less than one
floor_near : (a b t q d : ℕ) → 0 < t → a / t ≡ q → (a + b) / t ≡ q + d → (d * t < b + t) × (b < d * t + t)
floor_near a b t q d pos e f =
    let m : q * t + a % t ≡ a = rw e at (div-add-mod' a t) in
    let n : (q + d) * t + (a + b) % t ≡ a + b = rw f at (div-add-mod' (a + b) t) in
    omega (arith, mod_below a t pos, mod_below (a + b) t pos)

-- one more of a list
pub sum_more : (xs : List ℕ) (k : ℕ) → k < length xs → sum (take (k + 1) xs) ≡ sum (take k xs) + slice_index xs k
sum_more xs k h = sum_by_more (λ x. x) xs k 0 h

module _ (pot : ℕ) (ws : List ℕ) where
  pub part_none : part_to pot ws 0 ≡ 0
  unfolding part_to
  part_none = rw (mul-zero, zero-div)

  pub part_all : 0 < sum ws → (k : ℕ) → length ws ≤ k → part_to pot ws k ≡ pot
  unfolding part_to
  part_all pos k h = rw take_all (mul-div_cancel pot pos)

  part_more : (k : ℕ) → k < length ws → part_to pot ws (k + 1) ≡ (pot * sum (take k ws) + pot * slice_index ws k) / sum ws
  unfolding part_to
  part_more k h = ap (λ x. x / sum ws) (ap (λ x. pot * x) (sum_more ws k h) ∙ mul-add pot (sum (take k ws)) (slice_index ws k))

  pub part_grows : 0 < sum ws → (k : ℕ) → k < length ws → part_to pot ws k ≤ part_to pot ws (k + 1)
  unfolding part_to
  part_grows pos k h = rw (part_more k h) (floor_grows (pot * sum (take k ws)) (pot * slice_index ws k) (sum ws) pos)

  share_after : 0 < sum ws → (k : ℕ) → k < length ws → part_to pot ws (k + 1) ≡ part_to pot ws k + running_share pot ws k
  unfolding running_share
  share_after pos k h = omega (arith, part_grows pos k h)

  share_near : 0 < sum ws → (k : ℕ) → k < length ws → Near pot (sum ws) (slice_index ws k) (running_share pot ws k)
  unfolding part_to
  share_near pos k h =
      let n = floor_near (pot * sum (take k ws)) (pot * slice_index ws k) (sum ws) (part_to pot ws k) (running_share pot ws k) pos refl (sym (part_more k h) ∙ share_after pos k h) in
      record { above = n.0; below = n.1 }

-- the first k shares come to the pot's part for the first k places
module _ (pot : ℕ) (ws : List ℕ) (w : Weighed ws) (shares : is_shared pot ws ≡ true) where
  prefix : (k : ℕ) → sum (take k (running pot ws)) ≡ part_to pot ws k
  prefix zero = sym (part_none pot ws)
  prefix (suc k) =
      let some = shared_some pot ws shares in
      let long = shared_long (running_share pot ws) pot ws w in
      let before = prefix k in
      subst (λ n. sum (take n (running pot ws)) ≡ part_to pot ws n) (add-one k)
      (⊎_elim
      (λ inside.
      let here : k < length ws = omega arith in
      let one = sum_more (running pot ws) k (omega arith) in
      let share = shared_at (running_share pot ws) pot ws w shares k inside in
      omega (arith, share_after pot ws some k here))
      (λ past.
      let all = ap sum (take_all (k + 1) (running pot ws) (omega arith)) in
      let all_before = ap sum (take_all k (running pot ws) (omega arith)) in
      omega (arith, part_all pot ws some (k + 1) (omega arith), part_all pot ws some k (omega arith)))
      (cases_lt k 48))

  pub running_sums : RunningSums pot ws (running pot ws)
  unfolding part_to
  running_sums k = prefix k

  -- so all of them come to the pot
  running_whole : sum (running pot ws) ≡ pot
  running_whole =
      let all = ap sum (take_all 48 (running pot ws) (omega (arith, shared_long (running_share pot ws) pot ws w))) in
      omega (arith, prefix 48, part_all pot ws (shared_some pot ws shares) 48 (omega arith))

running_nothing : Nothing running
running_nothing pot ws w none = shared_none (running_share pot ws) pot ws w none

running_near : EachNear running
running_near pot ws k w shares h =
    rw (shared_at (running_share pot ws) pot ws w shares k h) (share_near pot ws (shared_some pot ws shares) k (omega arith))

-- the running rule keeps the laws
pub running_keeps : Keeps running
running_keeps =
    record {
      long = λ pot ws w. shared_long (running_share pot ws) pot ws w;
      nothing = running_nothing;
      whole = running_whole;
      near = running_near;
      weightless = weightless_from running running_nothing running_near;
    }
