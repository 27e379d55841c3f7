-- Two ways to share that break a law.
use Rattle.std.proofs.Common.{◌≡◌, ℕ, List, ◌∷◌, get_or, set, replicate, refl, subst, ⊎_elim, arith}
use Rattle.std.proofs.lemmas.List.{get_or-set_other}
use Rattle.std.proofs.lemmas.Bool.{cases_eq}
use Rattle.prorating.specs.Weights.{Weighed}
use Rattle.prorating.specs.Laws.{Near, NoRuleOfZeros, NoRuleForOne}

-- two places of equal weight
abbrev pair : List ℕ
pair = 1 ∷ 1 ∷ replicate 46 0

weighed : Weighed pair
weighed = record { long = refl; light = omega arith }

pub no_rule_of_zeros : NoRuleOfZeros
no_rule_of_zeros whole = omega (arith, whole 2 pair weighed refl)

-- neither 0 nor 2 of 2 cents is near to one half of them
not_near : (share : ℕ) → (share ≡ 1 → ⊥) → Near 2 2 1 share → ⊥
not_near share other near = omega (arith, near.above, near.below)

pub no_rule_for_one : NoRuleForOne
no_rule_for_one choose near =
    let place = choose 2 pair in
    ⊎_elim
    (λ (first : place ≡ 0). not_near 2 (λ e. omega arith) (subst (λ p. Near 2 2 1 (get_or (set (replicate 48 0) p 2) 0 0)) first (near 2 pair 0 weighed refl (omega arith))))
    (λ other. not_near 0 (λ e. omega arith) (subst (Near 2 2 1) (get_or-set_other (replicate 48 0) place 0 2 0 (λ e. other (omega arith))) (near 2 pair 0 weighed refl (omega arith))))
    (cases_eq place 0)
