-- What a company is owed and owes.
use Rattle.std.specs.Prelude.{ℕ, List, [], pos, ◌-ℤ◌, sum_by}
use Rattle.std.specs.List.{range_with_len}
use Rattle.numbered.specs.Entries.{entry}
use Rattle.month.specs.declared.figures.Figures.{Figures}

abbrev pub figures : ℕ → ℕ → Figures
figures credit charge = record { credit = credit; charge = charge; net = pos credit -ℤ pos charge }

-- What a company is charged of a pot, from the charges by pot and company: pots 1 to 19, companies 1 to 32, and 0 for any other number.
abbrev pub charge_at : List (List ℕ) → ℕ → ℕ → ℕ
charge_at charges company pot = entry 32 0 (entry 19 [] charges pot) company

-- Over all pots.
unfoldable pub charge_over : List (List ℕ) → ℕ → ℕ
charge_over charges company = sum_by (charge_at charges company) (range_with_len 1 19)
