-- What is printed of a fault.
use Rattle.std.specs.Prelude.{ℕ, List, ◌++◌, codes, decimal}
use Rattle.script.specs.declared.fault.Fault.{Fault}
use Rattle.script.specs.declared.fault.Fault.TheVariants.{Memory, NoCall}

abbrev pub message : Fault → List ℕ
message Memory = codes "there is not enough memory"
message (NoCall k) = codes "line " ++ decimal k ++ codes " is no call"
