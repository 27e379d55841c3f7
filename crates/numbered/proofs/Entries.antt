-- Lists whose entries are numbered from 1: what a write leaves of the others.
use Rattle.std.proofs.Common.{◌≡◌, ℕ, zero, suc, ◌-◌, ◌<◌, Bool, true, false, cond, eqb, List, length, get_or, set, replicate, sym, refl, ap, ◌∙◌, arith}
use Rattle.std.proofs.lemmas.List.{get_or-set_same, get_or-set_other, length-set}
use Rattle.std.proofs.lemmas.Bool.{eqb-true, eqb-false, cond-true}
use Rattle.std.proofs.lemmas.Bool.Decides.{nat_tests}
use Rattle.numbered.specs.Entries.{is_numbered, entry, with_entry}

pub getD_all : {X : Type 0} (d : X) (n i : ℕ) → get_or (replicate n d) i d ≡ d
getD_all d zero i = refl
getD_all d (suc n) zero = refl
getD_all d (suc n) (suc i) = getD_all d n i

-- every entry of a list of one value
pub entry_all : {X : Type 0} (n m : ℕ) (d : X) (number : ℕ) → entry n d (replicate m d) number ≡ d
entry_all n m d number = go (is_numbered n number)
  where
    go : (t : Bool) → cond t (get_or (replicate m d) (number - 1) d) d ≡ d
    go true = getD_all d m (number - 1)
    go false = refl

module _ {X : Type 0} (n : ℕ) (d : X) (xs : List X) (long : length xs ≡ n) (number : ℕ) (x : X) where
  pub with_entry_long : length (with_entry n xs number x) ≡ n
  with_entry_long = go (is_numbered n number)
    where
      go : (t : Bool) → length (cond t (set xs (number - 1) x) xs) ≡ n
      go true = length-set xs (number - 1) x ∙ long
      go false = long

  -- the entry of another number stays, that of this one is the new one
  pub entry_with : is_numbered n number ≡ true → (other : ℕ) → entry n d (with_entry n xs number x) other ≡ cond (eqb number other) x (entry n d xs other)
  entry_with there other = ap (λ ys. entry n d ys other) (cond-true _ _ _ there) ∙ go (eqb number other) refl
    where
      go : (t : Bool) → eqb number other ≡ t → entry n d (set xs (number - 1) x) other ≡ cond t x (entry n d xs other)
      go true e =
          let same = eqb-true number other e in
          let inside : number - 1 < length xs = grind (arith, nat_tests, long) in
          ap (entry n d (set xs (number - 1) x)) (sym same) ∙ cond-true _ _ _ there ∙ get_or-set_same xs (number - 1) x d inside
      go false e = within (is_numbered n other) refl
        where
          within : (t : Bool) → is_numbered n other ≡ t → cond t (get_or (set xs (number - 1) x) (other - 1) d) d ≡ cond t (get_or xs (other - 1) d) d
          within true q = get_or-set_other xs (number - 1) (other - 1) x d (λ p. eqb-false number other e (grind (arith, nat_tests)))
          within false q = refl
