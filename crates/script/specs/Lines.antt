-- The call that a line says.
use Rattle.std.specs.Prelude.{ℕ, ◌/◌, ◌%◌, cond, ◌&&◌, List, [], ◌∷◌, length, Some, None, codes, Option, ◌==◌}
use Rattle.std.specs.Option.{option_map}
use Rattle.std.specs.Str.{bytes_eq}
use Rattle.payers.specs.declared.readings.Reading.{Reading}
use Rattle.prorating.specs.declared.built_in.BuiltIn.{BuiltIn}
use Rattle.prorating.specs.declared.built_in.BuiltIn.TheVariants.{Running, Largest}
use Rattle.worth.specs.declared.line.Line.{Line}
use Rattle.worth.specs.declared.line.Line.TheVariants.{UpwardAvailability, UpwardActivation, Downward, OverCost, Opportunity, ExtraFuel, ExtraResource, ExtraWithdrawal}
use Rattle.words.specs.Words.{number_of, split}
use Rattle.month.specs.declared.calls.StageCall.TheVariants.{Open, Settle, Reopen, Confirm}
use Rattle.month.specs.Meant.{Meant, post, stage, company, replace, unit, performance, line, installation, meter, point, shed}
use Rattle.script.specs.declared.word.Word.{Word}
use Rattle.script.specs.declared.word.Word.TheVariants as word
use Rattle.script.specs.Words.{word_of}

-- what comes next, if there is something to go on with
abbrev pub and_then : {X Y : Type 0} → Option X → (X → Option Y) → Option Y
and_then None next = None
and_then (Some x) next = next x

-- the numbers that fields write, if each writes one
abbrev pub numbers_of : List (List ℕ) → Option (List ℕ)
numbers_of [] = Some []
numbers_of (f ∷ fs) = and_then (number_of f) (λ n. option_map (λ ns. n ∷ ns) (numbers_of fs))

-- x of exactly so many numbers
abbrev pub none : {X : Type 0} → X → List ℕ → Option X
none x [] = Some x
none x (n ∷ ns) = None

abbrev pub one : {X : Type 0} → (ℕ → X) → List ℕ → Option X
one x [] = None
one x (n ∷ ns) = none (x n) ns

abbrev pub two : {X : Type 0} → (ℕ → ℕ → X) → List ℕ → Option X
two x [] = None
two x (n ∷ ns) = one (x n) ns

abbrev pub three : {X : Type 0} → (ℕ → ℕ → ℕ → X) → List ℕ → Option X
three x [] = None
three x (n ∷ ns) = two (x n) ns

abbrev pub four : {X : Type 0} → (ℕ → ℕ → ℕ → ℕ → X) → List ℕ → Option X
four x [] = None
four x (n ∷ ns) = three (x n) ns

abbrev pub five : {X : Type 0} → (ℕ → ℕ → ℕ → ℕ → ℕ → X) → List ℕ → Option X
five x [] = None
five x (n ∷ ns) = four (x n) ns

-- the hourly lines of kinds 1 to 4, and of 5 to 8, with these figures
abbrev pub low_kind : ℕ → List ℕ → Option Line
low_kind kind figures =
    cond (kind == 1) (two UpwardAvailability figures)
    (cond (kind == 2) (two UpwardActivation figures)
    (cond (kind == 3) (three Downward figures)
    (cond (kind == 4) (three OverCost figures)
    None)))

abbrev pub high_kind : ℕ → List ℕ → Option Line
high_kind kind figures =
    cond (kind == 5) (four Opportunity figures)
    (cond (kind == 6) (four ExtraFuel figures)
    (cond (kind == 7) (four ExtraResource figures)
    (cond (kind == 8) (three ExtraWithdrawal figures)
    None)))

-- the first, or else the second
abbrev pub or_else : {X : Type 0} → Option X → Option X → Option X
or_else (Some x) o = Some x
or_else None o = o

abbrev pub line_of : ℕ → List ℕ → Option Line
line_of kind figures = or_else (low_kind kind figures) (high_kind kind figures)

-- an hourly line: its unit, hour, kind and family, and then the figures of the kind
abbrev pub lined : List ℕ → Option (Meant BuiltIn)
lined [] = None
lined (u ∷ []) = None
lined (u ∷ h ∷ []) = None
lined (u ∷ h ∷ k ∷ []) = None
lined (u ∷ h ∷ k ∷ f ∷ figures) = option_map (λ l. post (line u h f l)) (line_of k figures)

-- each two numbers are a unit and its kWh
abbrev pub pairs : List ℕ → List Reading
pairs [] = []
pairs (u ∷ []) = []
pairs (u ∷ k ∷ ns) = record { unit = u; kwh = k } ∷ pairs ns

-- a shedding: its point, kW, seconds and zone, and then the count of the pairs that follow
abbrev pub shed_of : List ℕ → Option (Meant BuiltIn)
shed_of [] = None
shed_of (p ∷ []) = None
shed_of (p ∷ k ∷ []) = None
shed_of (p ∷ k ∷ s ∷ []) = None
shed_of (p ∷ k ∷ s ∷ z ∷ []) = None
shed_of (p ∷ k ∷ s ∷ z ∷ n ∷ ns) = cond (length ns % 2 == 0 && length ns / 2 == n) (Some (post (shed p k s z (pairs ns)))) None

-- the words that post a fixed count of numbers
abbrev pub posted : Word → List ℕ → Option (Meant BuiltIn)
posted word.Open ns = None
posted word.Company ns = one (λ n. post (company n)) ns
posted word.Replace ns = two (λ o n. post (replace o n)) ns
posted word.Unit ns = three (λ n o z. post (unit n o z)) ns
posted word.Performance ns = four (λ u f n a. post (performance u f (record { unavailable = n; activation = a }))) ns
posted word.Line ns = None
posted word.Installation ns = four (λ u f a m. post (installation u f a m)) ns
posted word.Meter ns = three (λ c w i. post (meter c w i)) ns
posted word.Point ns = two (λ n s. post (point n s)) ns
posted word.Shed ns = None
posted word.Reopen ns = None
posted word.Confirm ns = None

-- the words that move the stage
abbrev pub staged : Word → List ℕ → Option (Meant BuiltIn)
staged word.Open ns = five (λ p h c n s. stage (Open (record { period = p; hours = h; failure_cost = c; count = n; seconds = s }))) ns
staged word.Company ns = None
staged word.Replace ns = None
staged word.Unit ns = None
staged word.Performance ns = None
staged word.Line ns = None
staged word.Installation ns = None
staged word.Meter ns = None
staged word.Point ns = None
staged word.Shed ns = None
staged word.Reopen ns = none (stage Reopen) ns
staged word.Confirm ns = none (stage Confirm) ns

-- the call of a word with these numbers
abbrev pub call_of : Word → List ℕ → Option (Meant BuiltIn)
call_of word.Open ns = staged word.Open ns
call_of word.Company ns = posted word.Company ns
call_of word.Replace ns = posted word.Replace ns
call_of word.Unit ns = posted word.Unit ns
call_of word.Performance ns = posted word.Performance ns
call_of word.Line ns = lined ns
call_of word.Installation ns = posted word.Installation ns
call_of word.Meter ns = posted word.Meter ns
call_of word.Point ns = posted word.Point ns
call_of word.Shed ns = shed_of ns
call_of word.Reopen ns = staged word.Reopen ns
call_of word.Confirm ns = staged word.Confirm ns

-- the rule that a line settles by, if it is such a line
abbrev pub settled : List ℕ → Option BuiltIn
settled text = cond (bytes_eq text (codes "settle running")) (Some Running) (cond (bytes_eq text (codes "settle largest")) (Some Largest) None)

abbrev pub on_word : Option Word → List (List ℕ) → Option (Meant BuiltIn)
on_word None fs = None
on_word (Some w) fs = and_then (numbers_of fs) (call_of w)

-- the call of fields of which the first is a word, and the others are numbers
abbrev pub by_word : List (List ℕ) → Option (Meant BuiltIn)
by_word [] = None
by_word (f ∷ fs) = on_word (word_of f) fs

-- the call that a line says, if it says one
abbrev pub said_by : Option BuiltIn → List ℕ → Option (Meant BuiltIn)
said_by (Some rule) text = Some (stage (Settle rule))
said_by None text = by_word (split 32 text)

abbrev pub said_of : List ℕ → Option (Meant BuiltIn)
said_of text = said_by (settled text) text
