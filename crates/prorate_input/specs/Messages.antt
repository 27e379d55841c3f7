-- What is printed of a fault.
use Rattle.std.specs.Prelude.{ℕ, List, ◌++◌, codes, decimal}
use Rattle.prorate_input.specs.declared.faults.Fault.{Fault}
use Rattle.prorate_input.specs.declared.faults.Fault.TheVariants.{BadPot, NoSecondLine, BadWeight, TooManyWeights, BytesAfterEnd}

abbrev pub message : Fault → List ℕ
message BadPot = codes "the pot, on the first line, is not a number: write 0, or up to 11 digits of which the first is not 0"
message NoSecondLine = codes "there is no second line: write the weights there, with one space between each two"
message (BadWeight k) = codes "weight " ++ (decimal k ++ codes " is not a number: write 0, or up to 11 digits of which the first is not 0, with one space between two weights")
message TooManyWeights = codes "there are more than 48 weights"
message BytesAfterEnd = codes "there is something after the second line"
