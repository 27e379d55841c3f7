-- A row that the vector lent, and that a call changed.
use Rattle.std.proofs.Common.{◌≡◌, ℕ, List, slice_set, ap, ◌∙◌, length}
use Rattle.std.proofs.lemmas.List.{length-set}
use Rattle.arrayvec.specs.ArrayVec.{ArrayVec, with_items}
use Rattle.arrayvec.proofs.ArrayVecLemmas.{items-with_items}
use Rattle.tables.specs.declared.units.UnitRow.{UnitRow}

pub written : (v : ArrayVec UnitRow) (lent : List UnitRow) (i : ℕ) (new : UnitRow) → lent ≡ v.items → (with_items v (slice_set lent i new)).items ≡ slice_set v.items i new
written v lent i new is =
    items-with_items v (slice_set lent i new) (length-set lent i new ∙ ap length is)
    ∙ ap (λ xs. slice_set xs i new) is
