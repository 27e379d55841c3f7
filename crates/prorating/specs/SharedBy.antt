-- What `shared_by` gives, for any rule: the laws that do not depend on how a share is worked out.
use Rattle.std.specs.Prelude.{◌≡◌, ℕ, ◌<◌, ◌≤◌, true, false, List, map, length, replicate, sum, ◌≢◌, slice_index}
use Rattle.std.proofs.Common.{sym, ◌∙◌, arith}
use Rattle.std.proofs.Math.Path.{ap}
use Rattle.std.specs.List.{range_with_len}
use Rattle.std.proofs.lemmas.List.FromFn.{length-map-range_with_len, get_or-map-range_with_len, fill_by_all}
use Rattle.std.proofs.lemmas.List.{length-replicate}
use Rattle.std.proofs.lemmas.Bool.{cond-true, cond-false, cond_both}
use Rattle.std.proofs.lemmas.Bool.Decides.{nat_tests}
use Rattle.prorating.specs.Weights.{limit, Weighed}
use Rattle.prorating.specs.Laws.{is_shared}
use Rattle.prorating.specs.Shares.{shared_by}

-- a pot that is shared is within the limit, and there is some weight
pub shared_small : (pot : ℕ) (ws : List ℕ) → is_shared pot ws ≡ true → pot ≤ limit
shared_small pot ws shares = grind (arith, nat_tests)

pub shared_some : (pot : ℕ) (ws : List ℕ) → is_shared pot ws ≡ true → 0 < sum ws
shared_some pot ws shares = grind (arith, nat_tests)

pub shared_or_not : (pot : ℕ) (ws : List ℕ) → is_shared pot ws ≡ true → is_shared pot ws ≢ false
shared_or_not pot ws shares none = let z : ◌≡◌ {A = ℕ} 0 1 = cc in omega arith

module _ (f : ℕ → ℕ) (pot : ℕ) (ws : List ℕ) where
  pub shared_map : is_shared pot ws ≡ true → shared_by f pot ws ≡ map f (range_with_len 0 (length ws))
  unfolding shared_by
  shared_map shares = cond-true _ _ _ shares

  pub shared_none : Weighed ws → is_shared pot ws ≡ false → shared_by f pot ws ≡ replicate 48 0
  unfolding shared_by
  shared_none w none = cond-false _ _ _ none ∙ ap (λ n. replicate n 0) w.long

  pub shared_long : Weighed ws → length (shared_by f pot ws) ≡ 48
  unfolding shared_by
  shared_long w =
      cond_both (is_shared pot ws) (map f (range_with_len 0 (length ws))) (replicate (length ws) 0) (λ xs. length xs ≡ length ws)
      (λ _. length-map-range_with_len f 0 (length ws))
      (λ _. length-replicate {A = ℕ} (length ws) 0)
      ∙ w.long

  pub shared_at : Weighed ws → is_shared pot ws ≡ true → (k : ℕ) → k < 48 → slice_index (shared_by f pot ws) k ≡ f k
  shared_at w shares k h =
      ap (λ xs. slice_index xs k) (shared_map shares) ∙ get_or-map-range_with_len f 0 (length ws) k k 0 (omega arith) (omega arith)

  -- a list that was filled place by place
  pub shared_fill : Weighed ws → is_shared pot ws ≡ true → (out : List ℕ) → length out ≡ 48 → ((k : ℕ) → k < 48 → slice_index out k ≡ f k) → out ≡ shared_by f pot ws
  shared_fill w shares out long each =
      fill_by_all f out (length ws) 0 (omega arith) (λ k h. each k (omega arith)) ∙ sym (shared_map shares)
