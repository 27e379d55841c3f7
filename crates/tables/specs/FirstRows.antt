-- Rows that are the first of a longer list, as an array with a count has them. The tables keep vectors now; these lemmas are for whoever keeps an array.
use Rattle.std.specs.Prelude.{◌≡◌, ℕ, zero, suc, ◌+◌, ◌<◌, ◌≤◌, Bool, true, false, cond, List, [], ◌∷◌, length, get_or, take, drop, set, Some, None, Option, ◌==◌, slice_index_or, slice_set, refl}
use Rattle.std.proofs.Common.{sym, ap, ◌∙◌, arith}
use Rattle.std.proofs.lemmas.List.{at_drop_all, drop_more, length-set, get_or-take, length-take, length-take-le}
use Rattle.tables.specs.declared.units.UnitRow.{UnitRow}
use Rattle.tables.specs.Units.{no_row, find, change, are_owned, are_distinct}
use Rattle.tables.specs.Rows.{change_owned, change_distinct}

-- Of the first rows: a unit stands at an index, or is not among them.
pub record Stands (rows : List UnitRow) (count unit index : ℕ) : Type 0 where
  pub inside : index < count
  pub row : find (take count rows) unit ≡ Some (slice_index_or rows index no_row)
  pub changed : (f : UnitRow → UnitRow) → take count (slice_set rows index (f (slice_index_or rows index no_row))) ≡ change f (take count rows) unit

pub record Absent (rows : List UnitRow) (count unit : ℕ) : Type 0 where
  pub row : find (take count rows) unit ≡ None
  pub unchanged : (f : UnitRow → UnitRow) → take count rows ≡ change f (take count rows) unit

-- The index of a unit's row, among rows that are counted from k.
abbrev pub seek : ℕ → List UnitRow → ℕ → Option ℕ
seek k [] u = None
seek k (r ∷ rs) u = cond (r.number == u) (Some k) (seek (k + 1) rs u)

pub seek_more : (rows : List UnitRow) (n i u : ℕ) → i < n → n ≤ length rows → seek i (drop i (take n rows)) u ≡ cond ((get_or rows i no_row).number == u) (Some i) (seek (i + 1) (drop (i + 1) (take n rows)) u)
seek_more rows n i u l w =
    let within : i < length (take n rows) = omega (arith, length-take-le n rows w) in
    ap (λ ys. seek i ys u) (drop_more (take n rows) i no_row within)
    ∙ ap (λ r. cond (r.number == u) (Some i) (seek (i + 1) (drop (i + 1) (take n rows)) u)) (get_or-take n rows i no_row l)

pub seek_end : (rows : List UnitRow) (n i u : ℕ) → n ≤ i → seek i (drop i (take n rows)) u ≡ None
seek_end rows n i u l = at_drop_all (λ ys. seek i ys u) (take n rows) i (omega (arith, length-take n rows))

take_put : (n : ℕ) (xs : List UnitRow) (p : ℕ) (y : UnitRow) → p < n → take n (slice_set xs p y) ≡ slice_set (take n xs) p y
take_put zero xs p y l = absurd (omega arith)
take_put (suc n) [] p y l = refl
take_put (suc n) (x ∷ xs) zero y l = refl
take_put (suc n) (x ∷ xs) (suc p) y l = ap (λ ys. x ∷ ys) (take_put n xs p y (omega arith))

-- what is not found
none_find : (k : ℕ) (xs : List UnitRow) (u : ℕ) → seek k xs u ≡ None → find xs u ≡ None
none_find k [] u e = refl
none_find k (x ∷ xs) u e = go (x.number == u) e (none_find (k + 1) xs u)
  where
    go : (t : Bool) → cond t (Some k) (seek (k + 1) xs u) ≡ None → (seek (k + 1) xs u ≡ None → find xs u ≡ None) → cond t (Some x) (find xs u) ≡ None
    go true q more = let z : ◌≡◌ {A = ℕ} 0 1 = cc in absurd (omega arith)
    go false q more = more q

none_change : (f : UnitRow → UnitRow) (k : ℕ) (xs : List UnitRow) (u : ℕ) → seek k xs u ≡ None → change f xs u ≡ xs
none_change f k [] u e = refl
none_change f k (x ∷ xs) u e = go (x.number == u) e (none_change f (k + 1) xs u)
  where
    go : (t : Bool) → cond t (Some k) (seek (k + 1) xs u) ≡ None → (seek (k + 1) xs u ≡ None → change f xs u ≡ xs) → cond t (f x ∷ xs) (x ∷ change f xs u) ≡ x ∷ xs
    go true q more = let z : ◌≡◌ {A = ℕ} 0 1 = cc in absurd (omega arith)
    go false q more = ap (λ ys. x ∷ ys) (more q)

-- what is found, at j rows from the first
record Here (f : UnitRow → UnitRow) (k : ℕ) (xs : List UnitRow) (u p : ℕ) : Type 0 where
  j : ℕ
  at : p ≡ k + j
  inside : j < length xs
  row : find xs u ≡ Some (slice_index_or xs j no_row)
  changed : change f xs u ≡ slice_set xs j (f (slice_index_or xs j no_row))

some_here : (f : UnitRow → UnitRow) (k : ℕ) (xs : List UnitRow) (u p : ℕ) → seek k xs u ≡ Some p → Here f k xs u p
some_here f k [] u p e = let z : ◌≡◌ {A = ℕ} 0 1 = cc in absurd (omega arith)
some_here f k (x ∷ xs) u p e = go (x.number == u) refl e (some_here f (k + 1) xs u p)
  where
    go : (t : Bool) → (x.number == u) ≡ t → cond t (Some k) (seek (k + 1) xs u) ≡ Some p → (seek (k + 1) xs u ≡ Some p → Here f (k + 1) xs u p) → Here f k (x ∷ xs) u p
    go true b q rest =
        let here : k ≡ p = cc in
        record {
          j = 0;
          at = omega arith;
          inside = omega arith;
          row = ap (λ t. cond t (Some x) (find xs u)) b;
          changed = ap (λ t. cond t (f x ∷ xs) (x ∷ change f xs u)) b;
        }
    go false b q rest =
        let more = rest q in
        record {
          j = suc more.j;
          at = more.at ∙ omega arith;
          inside = omega (arith, more.inside);
          row = ap (λ t. cond t (Some x) (find xs u)) b ∙ more.row;
          changed = ap (λ t. cond t (f x ∷ xs) (x ∷ change f xs u)) b ∙ ap (λ ys. x ∷ ys) more.changed;
        }

pub absent : (rows : List UnitRow) (n u : ℕ) → seek 0 (take n rows) u ≡ None → Absent rows n u
absent rows n u e = record { row = none_find 0 (take n rows) u e; unchanged = λ f. sym (none_change f 0 (take n rows) u e) }

pub stands : (rows : List UnitRow) (n u p : ℕ) → n ≤ length rows → seek 0 (take n rows) u ≡ Some p → Stands rows n u p
stands rows n u p w e =
    let it = some_here (λ r. r) 0 (take n rows) u p e in
    let same : it.j ≡ p = omega (arith, it.at) in
    let long : length (take n rows) ≡ n = length-take-le n rows w in
    let inside : p < n = omega (arith, it.inside) in
    record {
      inside = inside;
      row = it.row ∙ ap Some (ap (λ i. get_or (take n rows) i no_row) same ∙ get_or-take n rows p no_row inside);
      changed = λ f.
          let that = some_here f 0 (take n rows) u p e in
          let here : that.j ≡ p = omega (arith, that.at) in
          take_put n rows p (f (slice_index_or rows p no_row)) inside
          ∙ ap (λ r. set (take n rows) p (f r)) (sym (get_or-take n rows p no_row inside))
          ∙ ap (λ i. set (take n rows) i (f (slice_index_or (take n rows) i no_row))) (sym here)
          ∙ sym that.changed;
    }

-- A change that leaves number and owner keeps what every table keeps.
module _ (f : UnitRow → UnitRow) (number_kept : (r : UnitRow) → (f r).number ≡ r.number) (owner_kept : (r : UnitRow) → (f r).owner ≡ r.owner) where
  pub record Kept (rows : List UnitRow) (n : ℕ) : Type 0 where
    pub long : length rows ≡ 48
    pub owned : are_owned (take n rows) ≡ true
    pub once : are_distinct (take n rows) ≡ true

  pub kept : (rows : List UnitRow) (n u i : ℕ) (new : UnitRow) → Stands rows n u i → new ≡ f (slice_index_or rows i no_row) → Kept rows n → Kept (slice_set rows i new) n
  kept rows n u i new there is k =
      let now = ap (λ r. take n (slice_set rows i r)) is ∙ there.changed f in
      record {
        long = length-set rows i new ∙ k.long;
        owned = ap are_owned now ∙ change_owned f number_kept owner_kept (take n rows) u ∙ k.owned;
        once = ap are_distinct now ∙ change_distinct f number_kept owner_kept (take n rows) u k.once;
      }
