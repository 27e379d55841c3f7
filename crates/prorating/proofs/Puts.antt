-- Weights that are put one after another: the list so far, and why one is refused.
use Rattle.std.proofs.Common.{◌≡◌, ℕ, zero, suc, ◌+◌, ◌-◌, ◌<◌, ◌≤◌, true, cond, leb, List, length, get_or, take, set, replicate, is_ok, Some, None, Ok, Err, sum, sym, refl, ap, ◌∙◌, ⊎_elim, arith, length-append, length-set}
use Rattle.std.proofs.lemmas.List.Sums.{sum_by-cons, sum_by-append, sum_by-take-le}
use Rattle.std.proofs.lemmas.Bool.{cases_eq, cases_lt, cond-true}
use Rattle.std.proofs.lemmas.Bool.Decides.{nat_tests}
use Rattle.std.proofs.lemmas.List.{length-take, take_all, length-replicate, get_or-replicate, get_or_past, get_or-take, get_or_append_left, get_or-append_right, get_or-set_same, get_or-set_other}
use Rattle.prorating.specs.declared.refusal.Refusal.{Refusal}
use Rattle.prorating.specs.declared.refusal.Refusal.TheVariants.{Total}
use Rattle.prorating.specs.Weights.{limit, is_place, weight_at, with_weight, put_answer, put_after, padded, of_refusal}
use Rattle.prorating.specs.Counts.{same_places}

-- a list and its padding have the same at each place, and the same total
pub padded_long : (ws : List ℕ) → length ws ≤ 48 → length (padded ws) ≡ 48
unfolding padded
padded_long ws few = simp (length-append, length-replicate) (omega arith)

zeros_sum : (n : ℕ) → sum (replicate n 0) ≡ 0
zeros_sum zero = refl
zeros_sum (suc n) = sum_by-cons (λ x. x) 0 (replicate n 0) ∙ omega (arith, zeros_sum n)

pub padded_sum : (ws : List ℕ) → sum (padded ws) ≡ sum ws
unfolding padded
padded_sum ws = omega (arith, sum_by-append (λ x. x) ws (replicate (48 - length ws) 0), zeros_sum (48 - length ws))

zeros_at : (n k : ℕ) → get_or {A = ℕ} (replicate n 0) k 0 ≡ 0
zeros_at n k = ⊎_elim (λ h. get_or-replicate {A = ℕ} n k 0 0 h) (λ h. get_or_past (replicate n 0) k 0 (omega (arith, length-replicate {A = ℕ} n 0))) (cases_lt k n)

pub padded_at : (ws : List ℕ) (k : ℕ) → get_or (padded ws) k 0 ≡ get_or ws k 0
unfolding padded
padded_at ws k =
    ⊎_elim
    (λ h. get_or_append_left ws (replicate (48 - length ws) 0) 0 k h)
    (λ h. get_or-append_right ws (replicate (48 - length ws) 0) (length ws) k 0 refl h ∙ zeros_at (48 - length ws) (k - length ws) ∙ sym (get_or_past ws k 0 h))
    (cases_lt k (length ws))

-- one more weight, put after those before it
pub padded_more : (ws : List ℕ) (k : ℕ) → k < length ws → length ws ≤ 48 → set (padded (take k ws)) k (get_or ws k 0) ≡ padded (take (k + 1) ws)
padded_more ws k h few =
    let before = padded (take k ws) in
    let short = length-take k ws in
    let shorter = length-take (k + 1) ws in
    let long : length before ≡ 48 = padded_long (take k ws) (omega arith) in
    same_places (set before k (get_or ws k 0)) (padded (take (k + 1) ws)) 48 (simp length-set long) (padded_long (take (k + 1) ws) (omega arith))
    (λ j below. ⊎_elim
    (λ same. rw same (get_or-set_same before k (get_or ws k 0) 0 (omega arith) ∙ sym (padded_at (take (k + 1) ws) k ∙ get_or-take (k + 1) ws k 0 (omega arith))))
    (λ other. get_or-set_other before k j (get_or ws k 0) 0 (omega arith) ∙ padded_at (take k ws) j ∙ same_front j other ∙ sym (padded_at (take (k + 1) ws) j))
    (cases_eq j k)) where
      same_front : (j : ℕ) → (j ≡ k → ⊥) → get_or (take k ws) j 0 ≡ get_or (take (k + 1) ws) j 0
      same_front j other =
          ⊎_elim
          (λ below. get_or-take k ws j 0 below ∙ sym (get_or-take (k + 1) ws j 0 (omega arith)))
          (λ above. get_or_past (take k ws) j 0 (omega (arith, length-take k ws)) ∙ sym (get_or_past (take (k + 1) ws) j 0 (omega (arith, length-take (k + 1) ws))))
          (cases_lt j k)

-- what `put` answers and leaves where the weights of a list are put one after another
module _ (ws : List ℕ) (k : ℕ) (inside : k < length ws) (few : length ws ≤ 48) where
  next_place : is_place (k + 1) ≡ true
  next_place = grind (arith, nat_tests)

  next_list : with_weight (padded (take k ws)) (k + 1) (get_or ws k 0) ≡ padded (take (k + 1) ws)
  next_list = let index : k + 1 - 1 ≡ k = omega arith in rw index (padded_more ws k inside few)

  next_total : sum (with_weight (padded (take k ws)) (k + 1) (get_or ws k 0)) ≡ sum (take (k + 1) ws)
  next_total = ap sum next_list ∙ padded_sum (take (k + 1) ws)

  next_answer : put_answer (padded (take k ws)) (k + 1) (get_or ws k 0) ≡ cond (leb (sum (take (k + 1) ws)) limit) (Ok tt) (Err Total)
  next_answer = cond-true (is_place (k + 1)) _ _ next_place ∙ ap (λ n. cond (leb n limit) (Ok tt) (Err Total)) next_total

  -- a weight that is refused takes the total past the limit
  pub next_refused : (e : Refusal) → Err e ≡ put_answer (padded (take k ws)) (k + 1) (get_or ws k 0) → of_refusal ws ≡ Some e
  next_refused e said =
      let answer : Err e ≡ cond (leb (sum (take (k + 1) ws)) limit) (Ok tt) (Err Total) = said ∙ next_answer in
      let part = sum_by-take-le (λ x. x) ws (k + 1) in
      grind (arith, nat_tests)

  -- one that is admitted stands after the others
  pub next_admitted : (after : List ℕ) → Ok tt ≡ put_answer (padded (take k ws)) (k + 1) (get_or ws k 0) → after ≡ put_after (padded (take k ws)) (k + 1) (get_or ws k 0) → after ≡ padded (take (k + 1) ws)
  next_admitted after said is =
      is ∙ cond-true (is_ok (put_answer (padded (take k ws)) (k + 1) (get_or ws k 0))) _ _ (sym (ap is_ok said)) ∙ next_list

-- a list that was made of all of them
pub made_whole : (ws at : List ℕ) (k : ℕ) → length ws ≤ 48 → length ws ≤ k → at ≡ padded (take k ws) → sum at ≤ limit → (of_refusal ws ≡ None) × (at ≡ padded ws)
made_whole ws at k few all is light =
    let whole : at ≡ padded ws = is ∙ ap padded (take_all k ws all) in
    let total : sum at ≡ sum ws = ap sum whole ∙ padded_sum ws in
    (grind (arith, nat_tests), whole)

-- the weight at a place is that at its index
pub weight_at_index : (ws : List ℕ) (k : ℕ) → k < 48 → weight_at ws (k + 1) ≡ get_or ws k 0
weight_at_index ws k h =
    let place : is_place (k + 1) ≡ true = grind (arith, nat_tests) in
    let index : k + 1 - 1 ≡ k = omega arith in
    cond-true (is_place (k + 1)) _ _ place ∙ ap (λ i. get_or ws i 0) index
