-- The units after a post. They know no history.
use Rattle.std.proofs.Common.{◌≡◌, ℕ, suc, ◌+◌, ◌<◌, ◌≤◌, Bool, true, false, cond, ◌&&◌, ◌||◌, eqb, leb, List, [], ◌∷◌, ◌++◌, length, get_or, set, replicate, is_some, Some, None, Option, sym, refl, ap, ◌∙◌, subst, arith, length-append}
use Rattle.std.proofs.lemmas.List.{get_or-set_same, get_or-set_other, length-set, length-replicate}
use Rattle.std.proofs.lemmas.Bool.{eqb-true, eqb-false, cond-true, cond-false, and_from, not_from_false, lt-leb}
use Rattle.std.proofs.lemmas.Bool.Decides.{nat_tests}
use Rattle.std.specs.Option.{option_map}
use Rattle.tables.specs.declared.units.Place.{Place}
use Rattle.tables.specs.declared.units.UnitRow.{UnitRow}
use Rattle.numbered.specs.Entries.{is_numbered, entry}
use Rattle.tables.specs.Units.{fresh, find, change, place, performance, installed, slot, given, is_addable, added, with_performance, with_installation, with_line}
use Rattle.std.specs.Option.{option_or}
use Rattle.tables.proofs.Added.{find_added, is_none}
use Rattle.numbered.proofs.Entries.{getD_all, entry_all, entry_with, with_entry_long}
use Rattle.tables.specs.Rows.{find_change}
use Rattle.worth.specs.declared.line.Line.{Line}
use Rattle.worth.specs.declared.line.Line.TheVariants.{UpwardAvailability, UpwardActivation, Downward, OverCost, Opportunity, ExtraFuel, ExtraResource, ExtraWithdrawal}
use Rattle.worth.specs.declared.performance.Performance.{Performance}
use Rattle.worth.specs.Lines.{kind}
use Rattle.month.specs.Table.{no_company}
use Rattle.history.specs.History.{either, when}
use Rattle.history.proofs.Fields.{inside}
use Rattle.history.proofs.Holds.{Wide, Units}

-- The kinds are numbered 1 to 8, so a slot tells hour and kind.
kinds : (l : Line) → (1 ≤ kind l) × (kind l ≤ 8)
kinds (UpwardAvailability a r) = (omega arith, omega arith)
kinds (UpwardActivation m e) = (omega arith, omega arith)
kinds (Downward a r s) = (omega arith, omega arith)
kinds (OverCost v m e) = (omega arith, omega arith)
kinds (Opportunity v m f e) = (omega arith, omega arith)
kinds (ExtraFuel p d f e) = (omega arith, omega arith)
kinds (ExtraResource p d f e) = (omega arith, omega arith)
kinds (ExtraWithdrawal m w o) = (omega arith, omega arith)

same_slot : (hour t : ℕ) (l m : Line) → slot hour l ≡ slot t m → (hour ≡ t) × (kind l ≡ kind m)
same_slot hour t l m e = (omega (arith, kinds l, kinds m), omega (arith, kinds l, kinds m))

slot_inside : (hour : ℕ) (l : Line) → hour < 745 → slot hour l < 5960
slot_inside hour l early = omega (arith, kinds l)

given_set : (xs : List Bool) (hour t : ℕ) (l m : Line) → length xs ≡ 5960 → hour < 745 → get_or (set xs (slot hour l) true) (slot t m) false ≡ ((eqb hour t && eqb (kind l) (kind m)) || get_or xs (slot t m) false)
given_set xs hour t l m long early = go (eqb hour t) (eqb (kind l) (kind m)) refl refl
  where
    other : ((hour ≡ t) × (kind l ≡ kind m) → ⊥) → get_or (set xs (slot hour l) true) (slot t m) false ≡ get_or xs (slot t m) false
    other differ = get_or-set_other xs (slot hour l) (slot t m) true false (λ e. differ (same_slot hour t l m (sym e)))

    go : (a b : Bool) → eqb hour t ≡ a → eqb (kind l) (kind m) ≡ b → get_or (set xs (slot hour l) true) (slot t m) false ≡ ((a && b) || get_or xs (slot t m) false)
    go true true p q =
        let within : slot hour l < length xs = omega (arith, slot_inside hour l early) in
        let same : slot t m ≡ slot hour l = omega (arith, eqb-true hour t p, eqb-true (kind l) (kind m) q) in
        ap (λ i. get_or (set xs (slot hour l) true) i false) same ∙ get_or-set_same xs (slot hour l) true false within
    go true false p q = other (λ e. eqb-false (kind l) (kind m) q e.1)
    go false true p q = other (λ e. eqb-false hour t p e.0)
    go false false p q = other (λ e. eqb-false hour t p e.0)

same_some : (o : Option UnitRow) → is_some (place o) ≡ is_some o
same_some None = refl
same_some (Some r) = refl

module _ (at : ℕ → Option Place) (many : ℕ) (perf : ℕ → ℕ → Option Performance) (inst : ℕ → ℕ → Bool) (gave : ℕ → ℕ → Line → Bool) (us : List UnitRow) (k : Units at many perf inst gave us) where
  -- one unit more
  pub unit_more : (n o z : ℕ) → no_company o ≡ false → is_some (place (find us n)) ≡ false → leb 48 (length us) ≡ false → Units (λ u. either (when (eqb n u) (record { owner = o; zone = z })) (at u)) (many + 1) perf inst gave (added us n o z)
  unit_more n o z fits new room =
      let unknown : is_some (find us n) ≡ false = sym (same_some (find us n)) ∙ new in
      let now : added us n o z ≡ us ++ fresh n o z ∷ [] = cond-true (is_addable us n o) _ _ (and_from _ _ (not_from_false _ unknown) (and_from _ _ (not_from_false _ room) (inside o fits))) in
      let absent : find us n ≡ None = is_none (find us n) unknown in
      subst (Units (λ u. either (when (eqb n u) (record { owner = o; zone = z })) (at u)) (many + 1) perf inst gave) (sym now)
      (record {
        place = λ u. ap place (find_added us (fresh n o z) u) ∙ placed u (eqb n u) (find us u) refl refl absent ∙ ap (either (when (eqb n u) (record { owner = o; zone = z }))) (k.place u);
        count = length-append us (fresh n o z ∷ []) ∙ ap (λ i. i + 1) k.count;
        performed = λ u f. ap (performance f) (find_added us (fresh n o z) u) ∙ unread (performance f) (eqb n u) (find us u) (entry_all 2 2 None f) ∙ k.performed u f;
        installed = λ u f. ap (installed f) (find_added us (fresh n o z) u) ∙ unread (installed f) (eqb n u) (find us u) (entry_all 2 2 false f) ∙ k.installed u f;
        given = λ u t l. ap (given t l) (find_added us (fresh n o z) u) ∙ unread (given t l) (eqb n u) (find us u) (ungiven t l (leb 745 t)) ∙ k.given u t l;
        wide = λ u r e. widened u r (eqb n u) (find us u) refl (sym (find_added us (fresh n o z) u) ∙ e);
      })
    where
      ungiven : (t : ℕ) (l : Line) (b : Bool) → cond b false (get_or (replicate 5_960 false) (slot t l) false) ≡ false
      ungiven t l true = refl
      ungiven t l false = getD_all false 5_960 (slot t l)

      placed : (u : ℕ) (t : Bool) (f : Option UnitRow) → eqb n u ≡ t → find us u ≡ f → find us n ≡ None → place (option_or f (cond t (Some (fresh n o z)) None)) ≡ either (when t (record { owner = o; zone = z })) (place f)
      placed u true None e q absent = refl
      placed u true (Some r) e q absent = let w : ◌≡◌ {A = ℕ} 0 1 = cc (ap (find us) (eqb-true n u e)) in absurd (omega arith)
      placed u false None e q absent = refl
      placed u false (Some r) e q absent = refl

      unread : {X : Type 0} (read : Option UnitRow → X) (t : Bool) (f : Option UnitRow) → read (Some (fresh n o z)) ≡ read None → read (option_or f (cond t (Some (fresh n o z)) None)) ≡ read f
      unread read true None e = e
      unread read false None e = refl
      unread read true (Some r) e = refl
      unread read false (Some r) e = refl

      widened : (u : ℕ) (r : UnitRow) (t : Bool) (f : Option UnitRow) → find us u ≡ f → option_or f (cond t (Some (fresh n o z)) None) ≡ Some r → Wide r
      widened u r t (Some q) e there = let same : q ≡ r = cc in subst Wide same (k.wide u q e)
      widened u r true None e there =
          let same : fresh n o z ≡ r = cc in
          subst Wide same (record { performances = refl; installed = refl; given = length-replicate 5_960 false })
      widened u r false None e there = let w : ◌≡◌ {A = ℕ} 0 1 = cc in absurd (omega arith)

  -- a unit's row changed
  module _ (u : ℕ) (r : UnitRow) (there : find us u ≡ Some r) (f : UnitRow → UnitRow) (number_kept : (q : UnitRow) → (f q).number ≡ q.number) (owner_kept : (q : UnitRow) → (f q).owner ≡ q.owner) where
    after : (v : ℕ) → find (change f us u) v ≡ cond (eqb u v) (Some (f r)) (find us v)
    after v = find_change f number_kept owner_kept us u v ∙ ap (λ o. cond (eqb u v) (option_map f o) (find us v)) there

    pub read_after : {X : Type 0} (read : Option UnitRow → X) (v : ℕ) → read (find (change f us u) v) ≡ cond (eqb u v) (read (Some (f r))) (read (find us v))
    read_after read v = ap read (after v) ∙ go (eqb u v)
      where
        go : (t : Bool) → read (cond t (Some (f r)) (find us v)) ≡ cond t (read (Some (f r))) (read (find us v))
        go true = refl
        go false = refl

    pub read_same : {X : Type 0} (read : Option UnitRow → X) (v : ℕ) → read (Some (f r)) ≡ read (Some r) → read (find (change f us u) v) ≡ read (find us v)
    read_same read v same = read_after read v ∙ go (eqb u v) refl
      where
        go : (t : Bool) → eqb u v ≡ t → cond t (read (Some (f r))) (read (find us v)) ≡ read (find us v)
        go true e = same ∙ ap read (sym there) ∙ ap (λ w. read (find us w)) (eqb-true u v e)
        go false e = refl

    pub wide_after : Wide (f r) → (v : ℕ) (q : UnitRow) → find (change f us u) v ≡ Some q → Wide q
    wide_after wide v q e = go (eqb u v) (sym (after v) ∙ e)
      where
        go : (t : Bool) → cond t (Some (f r)) (find us v) ≡ Some q → Wide q
        go true p = let same : f r ≡ q = cc in subst Wide same wide
        go false p = k.wide v q p

  change_long : (f : UnitRow → UnitRow) (xs : List UnitRow) (u : ℕ) → length (change f xs u) ≡ length xs
  change_long f [] u = refl
  change_long f (x ∷ xs) u = go (eqb x.number u) (change_long f xs u)
    where
      go : (t : Bool) → length (change f xs u) ≡ length xs → length (cond t (f x ∷ xs) (x ∷ change f xs u)) ≡ suc (length xs)
      go true more = refl
      go false more = ap suc more

  module _ (u : ℕ) (r : UnitRow) (there : find us u ≡ Some r) where
    pub performed_more : (g : ℕ) (p : Performance) → is_numbered 2 g ≡ true → Units at many (λ v f. either (when (eqb u v && eqb g f) p) (perf v f)) inst gave (change (with_performance g p) us u)
    performed_more g p family =
        let f = with_performance g p in
        let wide = k.wide u r there in
        record {
          place = λ v. read_same u r there f (λ q. refl) (λ q. refl) place v refl ∙ k.place v;
          count = change_long f us u ∙ k.count;
          performed = λ v h. read_after u r there f (λ q. refl) (λ q. refl) (performance h) v ∙ ap (λ x. cond (eqb u v) x (performance h (find us v))) (entry_with 2 None r.performances wide.performances g (Some p) family h) ∙ joined v h (eqb u v) refl;
          installed = λ v h. read_same u r there f (λ q. refl) (λ q. refl) (installed h) v refl ∙ k.installed v h;
          given = λ v t l. read_same u r there f (λ q. refl) (λ q. refl) (given t l) v refl ∙ k.given v t l;
          wide = wide_after u r there f (λ q. refl) (λ q. refl) (record { performances = with_entry_long 2 None r.performances wide.performances g (Some p); installed = wide.installed; given = wide.given });
        }
      where
        joined : (v h : ℕ) (t : Bool) → eqb u v ≡ t → cond t (cond (eqb g h) (Some p) (entry 2 None r.performances h)) (performance h (find us v)) ≡ either (when (t && eqb g h) p) (perf v h)
        joined v h true e = at_family (eqb g h)
          where
            at_family : (b : Bool) → cond b (Some p) (entry 2 None r.performances h) ≡ either (when b p) (perf v h)
            at_family true = refl
            at_family false = ap (performance h) (sym there) ∙ ap (λ w. performance h (find us w)) (eqb-true u v e) ∙ k.performed v h
        joined v h false e = k.performed v h

    pub installed_more : (g : ℕ) → is_numbered 2 g ≡ true → Units at many perf (λ v f. (eqb u v && eqb g f) || inst v f) gave (change (with_installation g) us u)
    installed_more g family =
        let f = with_installation g in
        let wide = k.wide u r there in
        record {
          place = λ v. read_same u r there f (λ q. refl) (λ q. refl) place v refl ∙ k.place v;
          count = change_long f us u ∙ k.count;
          performed = λ v h. read_same u r there f (λ q. refl) (λ q. refl) (performance h) v refl ∙ k.performed v h;
          installed = λ v h. read_after u r there f (λ q. refl) (λ q. refl) (installed h) v ∙ ap (λ x. cond (eqb u v) x (installed h (find us v))) (entry_with 2 false r.installed wide.installed g true family h) ∙ joined v h (eqb u v) refl;
          given = λ v t l. read_same u r there f (λ q. refl) (λ q. refl) (given t l) v refl ∙ k.given v t l;
          wide = wide_after u r there f (λ q. refl) (λ q. refl) (record { performances = wide.performances; installed = with_entry_long 2 false r.installed wide.installed g true; given = wide.given });
        }
      where
        joined : (v h : ℕ) (t : Bool) → eqb u v ≡ t → cond t (cond (eqb g h) true (entry 2 false r.installed h)) (installed h (find us v)) ≡ ((t && eqb g h) || inst v h)
        joined v h true e = at_family (eqb g h)
          where
            at_family : (b : Bool) → cond b true (entry 2 false r.installed h) ≡ (b || inst v h)
            at_family true = refl
            at_family false = ap (installed h) (sym there) ∙ ap (λ w. installed h (find us w)) (eqb-true u v e) ∙ k.installed v h
        joined v h false e = k.installed v h

    pub given_more : (hour : ℕ) (l : Line) → hour < 745 → Units at many perf inst (λ v t m. (eqb u v && (eqb hour t && eqb (kind l) (kind m))) || gave v t m) (change (with_line hour l) us u)
    given_more hour l early =
        let f = with_line hour l in
        let wide = k.wide u r there in
        let now : cond (leb 745 hour) r.given (set r.given (slot hour l) true) ≡ set r.given (slot hour l) true = cond-false _ _ _ (lt-leb 745 hour early) in
        record {
          place = λ v. read_same u r there f (λ q. refl) (λ q. refl) place v refl ∙ k.place v;
          count = change_long f us u ∙ k.count;
          performed = λ v h. read_same u r there f (λ q. refl) (λ q. refl) (performance h) v refl ∙ k.performed v h;
          installed = λ v h. read_same u r there f (λ q. refl) (λ q. refl) (installed h) v refl ∙ k.installed v h;
          given = λ v t m. read_after u r there f (λ q. refl) (λ q. refl) (given t m) v ∙ ap (λ x. cond (eqb u v) x (given t m (find us v))) (line_given t m (leb 745 t) refl) ∙ joined v t m (eqb u v) refl;
          wide = wide_after u r there f (λ q. refl) (λ q. refl) (record { performances = wide.performances; installed = wide.installed; given = ap length now ∙ length-set r.given (slot hour l) true ∙ wide.given });
        }
      where
        line_given : (t : ℕ) (m : Line) (b : Bool) → leb 745 t ≡ b → cond b false (get_or (cond (leb 745 hour) r.given (set r.given (slot hour l) true)) (slot t m) false) ≡ ((eqb hour t && eqb (kind l) (kind m)) || cond b false (get_or r.given (slot t m) false))
        line_given t m true e =
            let late : eqb hour t ≡ false = grind (arith, nat_tests) in
            sym (ap (λ x. (x && eqb (kind l) (kind m)) || false) late)
        line_given t m false e =
            ap (λ xs. get_or xs (slot t m) false) (cond-false (leb 745 hour) r.given (set r.given (slot hour l) true) (lt-leb 745 hour early)) ∙ given_set r.given hour t l m (k.wide u r there).given early

        joined : (v t : ℕ) (m : Line) (b : Bool) → eqb u v ≡ b → cond b ((eqb hour t && eqb (kind l) (kind m)) || given t m (Some r)) (given t m (find us v)) ≡ ((b && (eqb hour t && eqb (kind l) (kind m))) || gave v t m)
        joined v t m true e = ap (λ x. (eqb hour t && eqb (kind l) (kind m)) || x) (ap (given t m) (sym there) ∙ ap (λ w. given t m (find us w)) (eqb-true u v e) ∙ k.given v t m)
        joined v t m false e = k.given v t m
