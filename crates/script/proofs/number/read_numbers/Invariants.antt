-- The numbers so far, and those of the fields that are left, are those of the text.
use Rattle.std.proofs.Common.{◌≡◌, length, drop, vec_items}
use Rattle.words.specs.Words.{following}
use Rattle.script.specs.Lines.{numbers_of}
use Rattle.script.proofs.Turns.{after}
use Rattle.script.proofs.number.read_numbers.Given as goal

abbrev pub invariant-loop-field : goal.invariant-loop-field
invariant-loop-field l =
    numbers_of (following 32 l.fields) ≡ after (vec_items l.numbers) (numbers_of (drop (length l.yielded) (following 32 l.fields)))
