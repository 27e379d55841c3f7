-- The words that lines begin with.
use Rattle.std.specs.Prelude.{ℕ, cond, List, [], ◌∷◌, Some, None, codes, Option}
use Rattle.std.specs.Str.{bytes_eq}
use Rattle.script.specs.declared.word.Word.{Word}
use Rattle.script.specs.declared.word.Word.TheVariants.{Open, Company, Replace, Unit, Performance, Line, Installation, Meter, Point, Shed, Reopen, Confirm}

abbrev pub name : Word → List ℕ
name Open = codes "open"
name Company = codes "company"
name Replace = codes "replace"
name Unit = codes "unit"
name Performance = codes "performance"
name Line = codes "line"
name Installation = codes "installation"
name Meter = codes "meter"
name Point = codes "point"
name Shed = codes "shed"
name Reopen = codes "reopen"
name Confirm = codes "confirm"

-- the first word of a list that a field is
abbrev pub among : List Word → List ℕ → Option Word
among [] f = None
among (w ∷ ws) f = cond (bytes_eq f (name w)) (Some w) (among ws f)

abbrev pub words : List Word
words = Open ∷ Company ∷ Replace ∷ Unit ∷ Performance ∷ Line ∷ Installation ∷ Meter ∷ Point ∷ Shed ∷ Reopen ∷ Confirm ∷ []

-- the word that a field is, if it is one
abbrev pub word_of : List ℕ → Option Word
word_of f = among words f
