-- What is printed of an outcome.
use Rattle.std.specs.Prelude.{ℕ, zero, suc, ◌+◌, ◌/◌, ◌%◌, cond, List, [], ◌∷◌, ◌++◌, map, Some, None, Option, nat_lt, slice_index, codes, decimal}
use Rattle.std.specs.Fmt.{signed_decimal}
use Rattle.std.specs.List.{zip, range_with_len, filter_map}
use Rattle.month.specs.declared.figures.Figures.{Figures}
use Rattle.month.specs.Refusals.{number}
use Rattle.replay.specs.declared.report.Net.{Net}
use Rattle.replay.specs.declared.report.Charge.{Charge}
use Rattle.replay.specs.declared.report.Payment.{Payment}
use Rattle.replay.specs.declared.report.Refused.{Refused}

-- the figures of a company, if it is registered
abbrev pub net_of : ℕ → Option Figures → List Net
net_of k None = []
net_of k (Some f) = record { company = k; figures = f } ∷ []

-- the figures of the registered ones of companies of which the first has the number k
abbrev pub nets_from : ℕ → List (Option Figures) → List Net
nets_from k [] = []
nets_from k (f ∷ fs) = net_of k f ++ nets_from (k + 1) fs

-- a charge, if it is above 0
abbrev pub if_above : Charge → List Charge
if_above charge = cond (nat_lt 0 charge.cents) (charge ∷ []) []

-- what the company at an index is charged for each pot
abbrev pub column : ℕ → List (List ℕ) → List ℕ
column c pots = map (λ pot. slice_index pot c) pots

-- a company's charges above 0, for pots of which the first has the number k
abbrev pub charges_from : ℕ → ℕ → List ℕ → List Charge
charges_from company k [] = []
charges_from company k (cents ∷ more) = if_above (record { company = company; pot = k; cents = cents }) ++ charges_from company (k + 1) more

-- the charges above 0 of the first n companies
unfoldable pub charges_of : ℕ → List (List ℕ) → List Charge
charges_of zero pots = []
charges_of (suc n) pots = charges_of n pots ++ charges_from (n + 1) 1 (column n pots)

-- the payment at an index of the table, entry (from − 1) × 32 + (to − 1), if it is above 0
abbrev pub payment_at : ℕ → ℕ → Option Payment
payment_at k cents = cond (nat_lt 0 cents) (Some (record { from = k / 32 + 1; to = k % 32 + 1; cents = cents })) None

-- the payments above 0 of the first 1,024 entries of a table, in their order
abbrev pub payments_in : List ℕ → List Payment
payments_in table = filter_map (λ p. payment_at p.0 p.1) (zip (range_with_len 0 1_024) table)

-- the line of a company's figures, of a charge, of a payment, and of a refusal
abbrev pub net_text : Net → List ℕ
net_text net = decimal net.company ++ 32 ∷ (decimal net.figures.credit ++ 32 ∷ (decimal net.figures.charge ++ 32 ∷ signed_decimal net.figures.net))

abbrev pub charge_text : Charge → List ℕ
charge_text charge = decimal charge.company ++ 32 ∷ (decimal charge.pot ++ 32 ∷ decimal charge.cents)

abbrev pub payment_text : Payment → List ℕ
payment_text payment = decimal payment.from ++ 32 ∷ (decimal payment.to ++ 32 ∷ decimal payment.cents)

abbrev pub refused_text : Refused → List ℕ
refused_text refused = codes "refused " ++ decimal (number refused.0)
