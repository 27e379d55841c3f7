-- What the loops over readings find: what is left gives it.
use Rattle.std.proofs.Common.{◌≡◌, ℕ, ◌+◌, ◌-◌, ◌<◌, Bool, true, false, ◌||◌, eqb, List, length, get_or, take, drop, sym, ap, ◌∙◌, arith, length-drop}
use Rattle.std.proofs.lemmas.List.{at_drop_more, take_all}
use Rattle.payers.specs.declared.readings.Reading.{Reading}
use Rattle.month.specs.Table.{some_reading, twice}

abbrev no_reading : Reading
no_reading = record { unit = 0; kwh = 0 }

module _ (test : Reading → Bool) (rs : List Reading) (i : ℕ) (inside : i < length rs) where
  pub found : test (get_or rs i no_reading) ≡ true → some_reading test (drop i rs) ≡ true
  found here = at_drop_more (some_reading test) rs i no_reading inside ∙ ap (λ t. t || some_reading test (drop (i + 1) rs)) here

  pub passed : test (get_or rs i no_reading) ≡ false → some_reading test (drop i rs) ≡ some_reading test (drop (i + 1) rs)
  passed here = at_drop_more (some_reading test) rs i no_reading inside ∙ ap (λ t. t || some_reading test (drop (i + 1) rs)) here

module _ (rs : List Reading) (i : ℕ) (inside : i < length rs) (here : Bool) (is : here ≡ some_reading (λ q. eqb q.unit (get_or rs i no_reading).unit) (take (length rs - (i + 1)) (drop (i + 1) rs))) where
  pub twice_more : twice (drop i rs) ≡ (here || twice (drop (i + 1) rs))
  twice_more =
      let test : Reading → Bool = λ q. eqb q.unit (get_or rs i no_reading).unit in
      let whole = take_all (length rs - (i + 1)) (drop (i + 1) rs) (omega (arith, length-drop (i + 1) rs)) in
      at_drop_more twice rs i no_reading inside ∙ ap (λ t. t || twice (drop (i + 1) rs)) (sym (is ∙ ap (some_reading test) whole))
