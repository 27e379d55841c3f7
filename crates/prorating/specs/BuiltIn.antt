-- The shares by the rule that was chosen.
use Rattle.prorating.specs.declared.built_in.BuiltIn.{BuiltIn}
use Rattle.prorating.specs.declared.built_in.BuiltIn.TheVariants.{Running, Largest}
use Rattle.prorating.specs.Laws.{Sharing}
use Rattle.prorating.specs.Running.{running}
use Rattle.prorating.specs.Largest.{largest}

abbrev pub shares_of : BuiltIn → Sharing
shares_of Running = running
shares_of Largest = largest
