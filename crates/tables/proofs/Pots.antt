-- The pots of sheddings.
use Rattle.std.proofs.Common.{◌≡◌, ℕ, zero, suc, List, [], ◌∷◌, map, length, Bor, MatchOption, Some, None, Option, slice_get, sym, refl, ap, ◌∙◌, subst}
use Rattle.std.specs.Option.{option_map, option_copied}
use Rattle.std.specs.Slice.{IsItemAt}
use Rattle.std.proofs.lemmas.Bool.{ltb-true, ltb-false}
use Rattle.std.proofs.lemmas.Option.{slice_get-map, slice_get_past, slice_get_read}
use Rattle.tables.specs.declared.accounts.WeightedPot.{WeightedPot}
use Rattle.payers.specs.Bases.{Based}
use Rattle.tables.specs.Accounts.{Pot, pot_at}
use Rattle.tables.specs.Tables.{as_pot}

-- the pot at an index, as a look-up finds it
copied_at : {X : Type 0} (xs : List X) (i : ℕ) (r : Option (Bor X)) → IsItemAt xs i r → option_copied r ≡ slice_get xs i
copied_at xs i None is = sym (slice_get_past xs i (ltb-false i (length xs) (sym is.0)))
copied_at xs i (Some x) is = sym (slice_get_read xs (length xs) i x.now refl (ltb-true i (length xs) (sym is.0)) is.1)

pub pot_found : (ps : List WeightedPot) (i : ℕ) (r : Option (Bor WeightedPot)) (o : Option WeightedPot) → IsItemAt ps i r → o ≡ option_copied r → MatchOption o (pot_at (map as_pot ps) i ≡ None) (λ p. pot_at (map as_pot ps) i ≡ Some (as_pot p))
pot_found ps i r o found is = go o (is ∙ copied_at ps i r found)
  where
    go : (o : Option WeightedPot) → o ≡ slice_get ps i → MatchOption o (pot_at (map as_pot ps) i ≡ None) (λ p. pot_at (map as_pot ps) i ≡ Some (as_pot p))
    go None is = slice_get-map as_pot ps i ∙ ap (option_map as_pot) (sym is)
    go (Some p) is = slice_get-map as_pot ps i ∙ ap (option_map as_pot) (sym is)

-- the weights of each are those of a zone's hour
pub pots_based : (ps : List WeightedPot) (i : ℕ) (p : Pot) → pot_at (map as_pot ps) i ≡ Some p → Based p.weights
pots_based [] i p e = absurd (cc)
pots_based (q ∷ qs) zero p e = let same : as_pot q ≡ p = cc in subst (λ r. Based r.weights) same (record { long = q.base.long; light = q.base.light })
pots_based (q ∷ qs) (suc i) p e = pots_based qs i p e
