-- The last line of a script may name the rule of the payments; it is no call.
use Rattle.std.specs.Prelude.{ℕ, ◌-◌, Bool, cond, ◌&&◌, ◌||◌, List, length, take, drop, codes, ◌==◌, nat_le, nat_lt, slice_index}
use Rattle.std.specs.Str.{bytes_eq}
use Rattle.prorating.specs.declared.built_in.BuiltIn.{BuiltIn}
use Rattle.prorating.specs.declared.built_in.BuiltIn.TheVariants.{Running, Largest}

-- the byte before an index is a line end
abbrev pub ended : List ℕ → ℕ → Bool
ended text n = slice_index text (n - 1) == 10

-- the bytes without the line end at their end
abbrev pub without_end : List ℕ → List ℕ
without_end bytes = cond (nat_lt 0 (length bytes) && ended bytes (length bytes)) (take (length bytes - 1) bytes) bytes

-- whether a text ends in this line, and the line begins where the text begins or after a line end
abbrev pub is_last : List ℕ → List ℕ → Bool
is_last text line =
    nat_le (length line) (length text)
    && (bytes_eq (drop (length text - length line) text) line
    && (length text - length line == 0 || ended text (length text - length line)))

-- the rule of the payments: running, where the last line does not say another
abbrev pub payments_rule : List ℕ → BuiltIn
payments_rule bytes = cond (is_last (without_end bytes) (codes "payments largest")) Largest Running

-- whether the last line names a rule, and the lines before it
abbrev pub names_rule : List ℕ → Bool
names_rule bytes = is_last (without_end bytes) (codes "payments running") || is_last (without_end bytes) (codes "payments largest")

abbrev pub lines_of_calls : List ℕ → List ℕ
lines_of_calls bytes = cond (names_rule bytes) (take (length (without_end bytes) - 16) (without_end bytes)) bytes
