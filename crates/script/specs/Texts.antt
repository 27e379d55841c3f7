-- The lines that are calls, by how they are written.
use Rattle.std.specs.Prelude.{◌≡◌, ℕ, ◌^◌, ◌<◌, ◌⊎◌, List, [], ◌∷◌, ◌++◌, map, length, Some, codes, decimal, Option}
use Rattle.std.specs.List.{flat_map, join_with_byte, AllByRecursion}
use Rattle.payers.specs.declared.readings.Reading.{Reading}
use Rattle.prorating.specs.declared.built_in.BuiltIn.{BuiltIn}
use Rattle.prorating.specs.declared.built_in.BuiltIn.TheVariants.{Running, Largest}
use Rattle.worth.specs.Lines.{kind}
use Rattle.worth.specs.declared.line.Line.{Line}
use Rattle.worth.specs.declared.line.Line.TheVariants.{UpwardAvailability, UpwardActivation, Downward, OverCost, Opportunity, ExtraFuel, ExtraResource, ExtraWithdrawal}
use Rattle.month.specs.declared.calls.StageCall.TheVariants.{Open, Settle, Reopen, Confirm}
use Rattle.month.specs.Meant.{Meant, post, stage, company, replace, unit, performance, line, installation, meter, point, shed}

-- the words that the line of a call begins with
abbrev pub front : Meant BuiltIn → List (List ℕ)
front (post (company n)) = codes "company" ∷ []
front (post (replace o n)) = codes "replace" ∷ []
front (post (unit n o z)) = codes "unit" ∷ []
front (post (performance u f p)) = codes "performance" ∷ []
front (post (line u h f l)) = codes "line" ∷ []
front (post (installation u f a m)) = codes "installation" ∷ []
front (post (meter c w i)) = codes "meter" ∷ []
front (post (point n s)) = codes "point" ∷ []
front (post (shed p k s z rs)) = codes "shed" ∷ []
front (stage (Open t)) = codes "open" ∷ []
front (stage (Settle Running)) = codes "settle" ∷ codes "running" ∷ []
front (stage (Settle Largest)) = codes "settle" ∷ codes "largest" ∷ []
front (stage Reopen) = codes "reopen" ∷ []
front (stage Confirm) = codes "confirm" ∷ []

-- the figures of an hourly line
abbrev pub figures : Line → List ℕ
figures (UpwardAvailability v r) = v ∷ r ∷ []
figures (UpwardActivation m e) = m ∷ e ∷ []
figures (Downward v r s) = v ∷ r ∷ s ∷ []
figures (OverCost v m e) = v ∷ m ∷ e ∷ []
figures (Opportunity v m f e) = v ∷ m ∷ f ∷ e ∷ []
figures (ExtraFuel p d f e) = p ∷ d ∷ f ∷ e ∷ []
figures (ExtraResource p d f e) = p ∷ d ∷ f ∷ e ∷ []
figures (ExtraWithdrawal m w o) = m ∷ w ∷ o ∷ []

-- each reading is its unit and its kWh
abbrev pub flat : List Reading → List ℕ
flat [] = []
flat (r ∷ rs) = r.unit ∷ r.kwh ∷ flat rs

-- the numbers that follow the words; those of a shedding end in the count of its readings, and these
abbrev pub numbers : Meant BuiltIn → List ℕ
numbers (post (company n)) = n ∷ []
numbers (post (replace o n)) = o ∷ n ∷ []
numbers (post (unit n o z)) = n ∷ o ∷ z ∷ []
numbers (post (performance u f p)) = u ∷ f ∷ p.unavailable ∷ p.activation ∷ []
numbers (post (line u h f l)) = u ∷ h ∷ kind l ∷ f ∷ figures l
numbers (post (installation u f a m)) = u ∷ f ∷ a ∷ m ∷ []
numbers (post (meter c w i)) = c ∷ w ∷ i ∷ []
numbers (post (point n s)) = n ∷ s ∷ []
numbers (post (shed p k s z rs)) = p ∷ k ∷ s ∷ z ∷ length rs ∷ flat rs
numbers (stage (Open t)) = t.period ∷ t.hours ∷ t.failure_cost ∷ t.count ∷ t.seconds ∷ []
numbers (stage (Settle r)) = []
numbers (stage Reopen) = []
numbers (stage Confirm) = []

-- the line of a call: its words, and its numbers in decimal digits, with one space between each two
abbrev pub written : Meant BuiltIn → List ℕ
written x = join_with_byte 32 (front x ++ map decimal (numbers x))

-- a line writes this call, whose numbers have at most eleven digits
pub record Says (bytes : List ℕ) (x : Meant BuiltIn) : Type 0 where
  pub text : bytes ≡ written x
  pub small : AllByRecursion (λ n. n < 10 ^ 11) (numbers x)

-- m answers with a call just where the line writes it
abbrev pub Exactly : List ℕ → Option (Meant BuiltIn) → Type 0
Exactly bytes m = (x : Meant BuiltIn) → (m ≡ Some x → Says bytes x) × (Says bytes x → m ≡ Some x)

-- a call that can be written
abbrev pub Sound : Meant BuiltIn → Type 0
Sound x = Says (written x) x

-- the script of calls: a line for each, with its line end
abbrev pub script : List (Meant BuiltIn) → List ℕ
script xs = flat_map (λ text. text ++ 10 ∷ []) (map written xs)

-- bytes write these calls, with the last line end or without
pub record SaysAll (bytes : List ℕ) (xs : List (Meant BuiltIn)) : Type 0 where
  pub text : (bytes ≡ script xs) ⊎ (bytes ++ 10 ∷ [] ≡ script xs)
  pub sound : AllByRecursion Sound xs
