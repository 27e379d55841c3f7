use Rattle.prorating.specs.declared.built_in.BuiltIn.{BuiltIn}
use Rattle.prorating.specs.declared.built_in.BuiltIn.TheVariants.{Running, Largest}
use Rattle.prorating.specs.BuiltIn.{shares_of}
use Rattle.prorating.specs.Laws.{Keeps}
use Rattle.prorating.specs.PartsTo.{running_keeps}
use Rattle.prorating.specs.OddCents.{largest_keeps}

pub keeps : (rule : BuiltIn) → Keeps (shares_of rule)
keeps Running = running_keeps
keeps Largest = largest_keeps
