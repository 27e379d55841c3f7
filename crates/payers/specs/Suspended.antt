-- The weights of a base with one company suspended, for the layer of the tests.
use Rattle.std.specs.Prelude.{◌≡◌, ℕ, ◌≤◌, Bool, true, false, cond, List, sum_by, ◌==◌, ◌≢◌, refl}
use Rattle.std.proofs.Common.{sym, ap, subst, ◌∙◌, ⊎_elim, arith}
use Rattle.std.specs.List.{range_with_len}
use Rattle.std.proofs.lemmas.Bool.{cases_Bool, cond-true, cond-false, eq-eqb, ne_eqb}
use Rattle.payers.specs.Bases.{is_company, weight_of, Based}
use Rattle.payers.specs.Companies.{by_company}
use Rattle.payers.specs.CompaniesLemmas.{by_company_long, by_company_weight, by_company_sum, weights_sum}
use Rattle.payers.specs.Runs.{sum_within}

cond_small : (b : Bool) (w : ℕ) → cond b 0 w ≤ w
cond_small true w = omega arith
cond_small false w = omega arith

cond_none : (b : Bool) → cond {A = ℕ} b 0 0 ≡ 0
cond_none true = refl
cond_none false = refl

module _ (suspended : ℕ) (ws : List ℕ) where
  abbrev weight_left : ℕ → ℕ
  weight_left company = cond (company == suspended) 0 (weight_of ws company)

  pub suspended_based : Based ws → Based (by_company weight_left)
  suspended_based below = record {
    long = by_company_long weight_left;
    light = omega (
      arith,
      by_company_sum weight_left,
      subst (λ total. sum_by weight_left (range_with_len 1 32) ≤ total) (weights_sum ws below.long)
          (sum_within weight_left (weight_of ws) 1 32 32 (omega arith) (λ company. cond_small (company == suspended) (weight_of ws company))),
      below.light,
    );
  }

  suspended_weight : (company : ℕ) → weight_of (by_company weight_left) company ≡ weight_left company
  suspended_weight company =
      ⊎_elim
      (λ there. by_company_weight weight_left company there)
      (λ none.
      let nothing : weight_of ws company ≡ 0 = cond-false (is_company company) _ 0 none in
      cond-false (is_company company) _ 0 none ∙ sym (ap (λ w. cond (company == suspended) 0 w) nothing ∙ cond_none (company == suspended)))
      (cases_Bool (is_company company))

  pub suspended_itself : (company : ℕ) → company ≡ suspended → 0 ≡ weight_of (by_company weight_left) company
  suspended_itself company same = sym (suspended_weight company ∙ cond-true _ 0 _ (eq-eqb company suspended same))

  pub suspended_other : (company : ℕ) → (company ≢ suspended) → weight_of ws company ≡ weight_of (by_company weight_left) company
  suspended_other company other = sym (suspended_weight company ∙ cond-false _ 0 _ (ne_eqb company suspended other))
