-- The calls that a script holds.
use Rattle.std.specs.Prelude.{List, map, vec_items}
use Rattle.prorating.specs.declared.built_in.BuiltIn.{BuiltIn}
use Rattle.month.specs.Meant.{Meant, meant}
use Rattle.script.specs.declared.reader.Script.{Script}

abbrev pub held : Script → List (Meant BuiltIn)
held s = map (meant vec_items) (vec_items s.calls)
