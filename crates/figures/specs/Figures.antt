-- The worked figures of docs/RULES.md, docs/PAYERS.md, docs/WORTH.md and docs/CLEARING.md: what the definitions of shares, charges, factors, worths and
-- payments have to give, in one table.
use Rattle.std.specs.Prelude.{◌≡◌, ℕ, Bool, true, false, cond, ◌&&◌, List, [], ◌∷◌, take, replicate, ◌==◌}
use Rattle.std.specs.List.{range_with_len}
use Rattle.prorating.specs.Weights.{padded}
use Rattle.prorating.specs.Running.{running}
use Rattle.prorating.specs.Largest.{largest}
use Rattle.payers.specs.Charges.{charges_of}
use Rattle.clearing.specs.Payments.{row}
use Rattle.payers.specs.Replacements.{replace_after, moved}
use Rattle.worth.specs.declared.family.Family.TheVariants.{Frequency, Voltage}
use Rattle.worth.specs.declared.line.Line.TheVariants.{UpwardAvailability, UpwardActivation, Downward, OverCost, Opportunity, ExtraFuel, ExtraResource, ExtraWithdrawal}
use Rattle.worth.specs.declared.performance.Performance.{Performance}
use Rattle.worth.specs.Performances.{factor, rewarded}
use Rattle.worth.specs.Lines.{worth}
use Rattle.worth.specs.Installations.{worth as installation_worth}
use Rattle.worth.specs.Sheddings.{worth as shedding_worth}

-- What a definition gives, and the worked figures that it has to give.
pub record Row : Type 0 where
  pub given : List ℕ
  pub worked : List ℕ

-- A row of one figure, and a row of several.
infix 3 ◌gives◌
abbrev pub ◌gives◌ : ℕ → ℕ → Row
given gives worked = record { given = given ∷ []; worked = worked ∷ [] }

infix 3 ◌all_give◌
abbrev pub ◌all_give◌ : List ℕ → List ℕ → Row
given all_give worked = record { given = given; worked = worked }

abbrev performance : ℕ → ℕ → Performance
performance unavailable activation = record { unavailable = unavailable; activation = activation }

-- The shares of the first three places, where only they have weights.
abbrev pub first_three : (ℕ → List ℕ → List ℕ) → ℕ → List ℕ → List ℕ
first_three share pot ws = take 3 (share pot (padded ws))

-- The withdrawals of companies 1 to 3, and who takes part for whom once company 1 is replaced by company 3.
abbrev pub withdrawals : List ℕ
withdrawals = 100 ∷ 200 ∷ 400 ∷ replicate 29 0

abbrev pub replaced : List ℕ
replaced = replace_after (range_with_len 1 32) 1 3

-- What companies 1 and 2 owe, and what is due to companies 3 and 4.
abbrev pub debts : List ℕ
debts = 10 ∷ 5 ∷ replicate 30 0

abbrev pub dues : List ℕ
dues = 0 ∷ 0 ∷ 7 ∷ 8 ∷ replicate 28 0

abbrev pub table : List Row
table =
    -- performance factors in a month of 720 hours
    (factor 720 Frequency (performance 72 10_000) gives 9_000)
    ∷ (factor 720 Voltage (performance 72 10_000) gives 0)
    ∷ (factor 720 Frequency (performance 36 10_000) gives 10_000)
    -- the least performance that is paid
    ∷ (rewarded Frequency 7_499 gives 0)
    ∷ (rewarded Frequency 7_500 gives 7_500)
    -- worths of lines, one of each kind
    ∷ (worth (UpwardAvailability 2_000 50_000) 9_000 gives 90_000)
    ∷ (worth (UpwardActivation 4_500 333) 0 gives 1_498)
    ∷ (worth (Downward 2_000 50_000 1_800) 10_000 gives 50_000)
    ∷ (worth (OverCost 6_000 4_500 30_001) 0 gives 45_001)
    ∷ (worth (Opportunity 4_500 6_000 40_000 30_000) 10_000 gives 15_000)
    ∷ (worth (ExtraFuel 1_200 260 240 30_001) 0 gives 720)
    ∷ (worth (ExtraResource 3_000 400 500 8_000) 0 gives 6_000)
    ∷ (worth (ExtraWithdrawal 4_500 12_345 2_000) 0 gives 46_552)
    -- an installation and a shedding
    ∷ (installation_worth 1_200_000 60_007 gives 105_000)
    ∷ (shedding_worth 1_500 2_000 1_801 gives 1_500_833)
    -- shares of a pot that leaves odd cents
    ∷ (first_three running 45_001 (100 ∷ 200 ∷ 400 ∷ []) all_give 6_428 ∷ 12_858 ∷ 25_715 ∷ [])
    ∷ (first_three largest 45_001 (100 ∷ 200 ∷ 400 ∷ []) all_give 6_429 ∷ 12_857 ∷ 25_715 ∷ [])
    -- and the charges of the same pot where company 3 takes part for company 1
    ∷ (take 3 (charges_of running 45_001 (moved replaced withdrawals)) all_give 0 ∷ 12_857 ∷ 32_144 ∷ [])
    -- payments of debts of 10 and 5 to whom 7 and 8 are due
    ∷ (take 4 (row running debts dues 0) all_give 0 ∷ 0 ∷ 4 ∷ 6 ∷ [])
    ∷ (take 4 (row running debts dues 1) all_give 0 ∷ 0 ∷ 3 ∷ 2 ∷ [])
    ∷ []

abbrev pub same : List ℕ → List ℕ → Bool
same [] [] = true
same [] (y ∷ ys) = false
same (x ∷ xs) [] = false
same (x ∷ xs) (y ∷ ys) = x == y && same xs ys

-- The rows whose figures are not given, so that a wrong one is named.
abbrev pub wrong : List Row → List Row
wrong [] = []
wrong (r ∷ rs) = cond (same r.given r.worked) (wrong rs) (r ∷ wrong rs)

-- There are none.
abbrev pub FiguresHold : Type 0
FiguresHold = wrong table ≡ []
