-- The number of each refusal: 2, a figure is outside its limits; 6, a replacement is barred.
use Rattle.std.specs.Prelude.{ℕ}
use Rattle.payers.specs.declared.refusal.Refusal.{Refusal}
use Rattle.payers.specs.declared.refusal.Refusal.TheVariants.{Limits, Barred}

abbrev pub number : Refusal → ℕ
number Limits = 2
number Barred = 6
