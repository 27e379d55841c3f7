-- What an answer of `read` says.
use Rattle.std.specs.Prelude.{ℕ, List, take, Ok, Err, Result}
use Rattle.prorate_input.specs.declared.faults.Fault.{Fault}
use Rattle.prorate_input.specs.declared.inputs.Input.{Input}

-- the pot and the weights that an input holds
abbrev pub held : Input → ℕ × List ℕ
held i = (i.pot, take i.count i.weights)

abbrev pub meaning : Result Input Fault → Result (ℕ × List ℕ) Fault
meaning (Ok i) = Ok (held i)
meaning (Err e) = Err e
