-- The number of each refusal: 10, the table is too short; 2, a figure is outside its limits.
use Rattle.std.specs.Prelude.{ℕ}
use Rattle.clearing.specs.declared.refusal.Refusal.{Refusal}
use Rattle.clearing.specs.declared.refusal.Refusal.TheVariants.{Short, Total}

abbrev pub number : Refusal → ℕ
number Short = 10
number Total = 2
