-- What the chains make of the companies and of the pots, and a company more.
use Rattle.std.proofs.Common.{◌≡◌, ℕ, ◌+◌, Bool, true, false, cond, List, [], ◌∷◌, ◌++◌, map, length, Some, None, Option, nat_lt, slice_index, refl, ap, ◌∙◌, add-one}
use Rattle.std.specs.List.{zip, range_with_len, filter, filter_map}
use Rattle.std.specs.Option.{option_map}
use Rattle.month.specs.declared.figures.Figures.{Figures}
use Rattle.replay.specs.declared.report.Net.{Net}
use Rattle.replay.specs.declared.report.Charge.{Charge}
use Rattle.replay.specs.Reports.{nets_from, column, charges_from, charges_of}

-- the figures of a numbered company, if it is registered
abbrev pub net : ℕ × Option Figures → Option Net
net p = option_map (λ f. record { company = p.0; figures = f }) p.1

pub nets_made : (k : ℕ) (fs : List (Option Figures)) → filter_map net (zip (range_with_len k (length fs)) fs) ≡ nets_from k fs
nets_made k [] = refl
nets_made k (None ∷ fs) = nets_made (k + 1) fs
nets_made k (Some f ∷ fs) = ap (λ nets. record { company = k; figures = f } ∷ nets) (nets_made (k + 1) fs)

-- what the company at an index is charged for a numbered pot
abbrev pub charge : ℕ → ℕ × List ℕ → Charge
charge c p = record { company = c + 1; pot = p.0; cents = slice_index p.1 c }

abbrev pub is_above : Charge → Bool
is_above x = nat_lt 0 x.cents

kept : (b : Bool) (x : Charge) (xs : List Charge) → cond b (x ∷ xs) xs ≡ cond b (x ∷ []) [] ++ xs
kept true x xs = refl
kept false x xs = refl

pub charges_made : (c k : ℕ) (pots : List (List ℕ)) → filter is_above (map (charge c) (zip (range_with_len k (length pots)) pots)) ≡ charges_from (c + 1) k (column c pots)
charges_made c k [] = refl
charges_made c k (pot ∷ pots) =
    let x = charge c (k, pot) in
    kept (is_above x) x _ ∙ ap (λ xs. cond (is_above x) (x ∷ []) [] ++ xs) (charges_made c (k + 1) pots)

-- the charges of a company more
pub charges_more : (n : ℕ) (pots : List (List ℕ)) → charges_of (n + 1) pots ≡ charges_of n pots ++ charges_from (n + 1) 1 (column n pots)
unfolding charges_of
charges_more n pots = ap (λ m. charges_of m pots) (add-one n)
