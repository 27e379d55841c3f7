-- What is made of exactly so many numbers, and of one of several cases.
use Rattle.std.proofs.Common.{◌≡◌, ℕ, Bool, true, false, cond, List, [], ◌∷◌, Some, Option, refl, subst}
use Rattle.script.specs.Lines.{none, one, two, three, four, five}

pub some_is : {X : Type 0} {x y : X} → ◌≡◌ {A = Option X} (Some x) (Some y) → x ≡ y
some_is h = cc

-- Q holds of what was made and of the numbers, where it holds of every such value
module _ {X : Type 0} where
  pub none_by : (x : X) (Q : X → List ℕ → Type 0) → Q x [] → (ns : List ℕ) (y : X) → none x ns ≡ Some y → Q y ns
  none_by x Q q [] y e = subst (λ z. Q z []) (some_is e) q
  none_by x Q q (n ∷ ns) y e = cc

  pub one_by : (f : ℕ → X) (Q : X → List ℕ → Type 0) → ((a : ℕ) → Q (f a) (a ∷ [])) → (ns : List ℕ) (y : X) → one f ns ≡ Some y → Q y ns
  one_by f Q q [] y e = cc
  one_by f Q q (a ∷ ns) y e = none_by (f a) (λ z ms. Q z (a ∷ ms)) (q a) ns y e

  pub two_by : (f : ℕ → ℕ → X) (Q : X → List ℕ → Type 0) → ((a b : ℕ) → Q (f a b) (a ∷ b ∷ [])) → (ns : List ℕ) (y : X) → two f ns ≡ Some y → Q y ns
  two_by f Q q [] y e = cc
  two_by f Q q (a ∷ ns) y e = one_by (f a) (λ z ms. Q z (a ∷ ms)) (q a) ns y e

  pub three_by : (f : ℕ → ℕ → ℕ → X) (Q : X → List ℕ → Type 0) → ((a b c : ℕ) → Q (f a b c) (a ∷ b ∷ c ∷ [])) → (ns : List ℕ) (y : X) → three f ns ≡ Some y → Q y ns
  three_by f Q q [] y e = cc
  three_by f Q q (a ∷ ns) y e = two_by (f a) (λ z ms. Q z (a ∷ ms)) (q a) ns y e

  pub four_by : (f : ℕ → ℕ → ℕ → ℕ → X) (Q : X → List ℕ → Type 0) → ((a b c d : ℕ) → Q (f a b c d) (a ∷ b ∷ c ∷ d ∷ [])) → (ns : List ℕ) (y : X) → four f ns ≡ Some y → Q y ns
  four_by f Q q [] y e = cc
  four_by f Q q (a ∷ ns) y e = three_by (f a) (λ z ms. Q z (a ∷ ms)) (q a) ns y e

  pub five_by : (f : ℕ → ℕ → ℕ → ℕ → ℕ → X) (Q : X → List ℕ → Type 0) → ((a b c d e : ℕ) → Q (f a b c d e) (a ∷ b ∷ c ∷ d ∷ e ∷ [])) → (ns : List ℕ) (y : X) → five f ns ≡ Some y → Q y ns
  five_by f Q q [] y e = cc
  five_by f Q q (a ∷ ns) y e = four_by (f a) (λ z ms. Q z (a ∷ ms)) (q a) ns y e

  -- P holds where it holds in the case that was taken
  pub cond_by : (b : Bool) (x y : Option X) (z : X) (P : Type 0) → (b ≡ true → x ≡ Some z → P) → (y ≡ Some z → P) → cond b x y ≡ Some z → P
  cond_by true x y z P p q e = p refl e
  cond_by false x y z P p q e = q e
