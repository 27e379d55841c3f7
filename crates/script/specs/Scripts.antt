-- The calls that a script says: those of its lines in order, or the first line that is no call.
use Rattle.std.specs.Prelude.{◌≡◌, ℕ, ◌+◌, List, [], ◌∷◌, Some, None, Ok, Err, Option, Result}
use Rattle.prorating.specs.declared.built_in.BuiltIn.{BuiltIn}
use Rattle.words.specs.Words.{split}
use Rattle.month.specs.Meant.{Meant}
use Rattle.script.specs.declared.fault.Fault.{Fault}
use Rattle.script.specs.declared.fault.Fault.TheVariants.{Memory, NoCall}
use Rattle.script.specs.declared.reader.Script.{Script}
use Rattle.script.specs.Lines.{said_of}
use Rattle.script.specs.Texts.{SaysAll}
use Rattle.script.specs.Held.{held}

-- the lines of a script: its pieces between line ends, of which an empty last one is no line
abbrev pub whole_lines : List (List ℕ) → List (List ℕ)
whole_lines [] = []
whole_lines ([] ∷ []) = []
whole_lines ((c ∷ cs) ∷ []) = (c ∷ cs) ∷ []
whole_lines (f ∷ g ∷ fs) = f ∷ whole_lines (g ∷ fs)

abbrev pub lines_of : List ℕ → List (List ℕ)
lines_of bytes = whole_lines (split 10 bytes)

-- a call before others
abbrev pub onto : Meant BuiltIn → Result (List (Meant BuiltIn)) Fault → Result (List (Meant BuiltIn)) Fault
onto x (Ok xs) = Ok (x ∷ xs)
onto x (Err e) = Err e

abbrev pub on_line : ℕ → Option (Meant BuiltIn) → Result (List (Meant BuiltIn)) Fault → Result (List (Meant BuiltIn)) Fault
on_line k None rest = Err (NoCall k)
on_line k (Some x) rest = onto x rest

-- the calls of lines, of which the first has the number k
abbrev pub calls_from : ℕ → List (List ℕ) → Result (List (Meant BuiltIn)) Fault
calls_from k [] = Ok []
calls_from k (l ∷ ls) = on_line k (said_of l) (calls_from (k + 1) ls)

abbrev pub reading : List ℕ → Result (List (Meant BuiltIn)) Fault
reading bytes = calls_from 1 (lines_of bytes)

-- a script is answered as it reads, unless there is not enough memory
abbrev pub Reads : List ℕ → Result Script Fault → Type 0
Reads bytes (Ok script) = reading bytes ≡ Ok (held script)
Reads bytes (Err (NoCall k)) = reading bytes ≡ Err (NoCall k)
Reads bytes (Err Memory) = Unit {0}

-- a script is answered with the calls that it writes, and there are no others; it is refused where it writes none
abbrev pub Exact : List ℕ → Result Script Fault → Type 0
Exact bytes (Ok script) = SaysAll bytes (held script) × ((xs : List (Meant BuiltIn)) → SaysAll bytes xs → xs ≡ held script)
Exact bytes (Err (NoCall k)) = (xs : List (Meant BuiltIn)) → SaysAll bytes xs → ⊥
Exact bytes (Err Memory) = Unit {0}
