-- Each call keeps it: the book answers what the history does, and then holds what the history then is.
use Rattle.std.proofs.Common.{◌≡◌, ℕ, zero, suc, ◌+◌, ◌<◌, Bool, true, false, cond, not, ◌&&◌, ◌||◌, eqb, ltb, leb, ◌⊎◌, List, [], ◌∷◌, ◌++◌, length, is_some, Some, None, Ok, Err, Option, unwrap_or, sym, refl, ap, ◌∙◌, subst, inl, inr, arith}
use Rattle.std.proofs.lemmas.Bool.{eqb-true, or_parts, and_parts, not-false, leb-false}
use Rattle.std.proofs.lemmas.Bool.Decides.{nat_tests}
use Rattle.prorating.specs.Laws.{Sharing}
use Rattle.prorating.specs.Weights.{limit}
use Rattle.payers.specs.declared.readings.Reading.{Reading}
use Rattle.tables.specs.declared.units.Place.{Place}
use Rattle.tables.specs.declared.units.UnitRow.{UnitRow}
use Rattle.tables.specs.Accounts.{Pot, entered, with_more, with_pot}
use Rattle.tables.specs.Accounts.{shed as shed_in}
use Rattle.numbered.specs.Entries.{is_numbered}
use Rattle.tables.specs.Points.{point as point_in}
use Rattle.tables.specs.Units.{find}
use Rattle.tables.specs.Units.{place as place_in}
use Rattle.tables.specs.Rows.{found_company}
use Rattle.worth.specs.declared.family.Family.{Family}
use Rattle.worth.specs.declared.line.Line.{Line}
use Rattle.worth.specs.Families.{numbered}
use Rattle.worth.specs.Installations.{worth as worth_of_installation}
use Rattle.worth.specs.Limits.{within as line_within}
use Rattle.worth.specs.Sheddings.{within as shedding_within, highest_load, longest}
use Rattle.month.specs.declared.calls.StageCall.{StageCall}
use Rattle.month.specs.declared.calls.Terms.{Terms}
use Rattle.month.specs.Answers.{is_charged}
use Rattle.month.specs.Book.{Book}
use Rattle.month.specs.Meant.{Meant, post, stage, Posted, company, replace, unit, performance, line, installation, meter, point, shed}
use Rattle.month.specs.Pots.{some_strands, charged}
use Rattle.month.specs.Seen.{Phase, blank, begun, settled, final, strands}
use Rattle.month.specs.Steps.{service_pots as service_pots_in}
use Rattle.month.specs.Steps.{shown, owner_of, answer, post_done, done, after, on_ok, with_phase, all_pots}
use Rattle.month.specs.Table.{Answer, Row, is_begun, is_settled, first, rows, post_rows, outside, no_unit, no_company, no_zone, no_family, disallowed, line_worth, shed_worth, shed_weights, past_credits}
use Rattle.history.specs.History.{plus, when, only, is, owner, latest, phase, terms, place, earned, credits, line_pot, installation_pot, shed_pots, participants, charges, seen}
use Rattle.history.specs.Law.{Clear, then, verdict}
use Rattle.history.proofs.Fields.{company_more, replace_more, meter_more, point_more, shed_more, installed_more, lined_more, shedded_more}
use Rattle.history.specs.Kinds.{on_settle}
use Rattle.history.proofs.Holds.{Sound, Accounted, WeighedPots, Holds, sees, same_participants, same_pots}
use Rattle.history.proofs.UnitFields.{unit_more, performed_more, given_more}
use Rattle.history.proofs.UnitFields.{installed_more as unit_installed_more}

-- no row applies
pub clear : (rs : List Row) (u : Unit {0}) → first rs ≡ Ok u → Clear rs
clear [] u e = tt
clear (r ∷ rs) u e = go r.1 refl e (clear rs u)
  where
    go : (t : Bool) → r.1 ≡ t → cond t (Err r.0) (first rs) ≡ Ok u → (first rs ≡ Ok u → Clear rs) → Clear (r ∷ rs)
    go true p q more = let z : ◌≡◌ {A = ℕ} 0 1 = cc in absurd (omega arith)
    go false p q more = (p, more q)

-- families are numbered 1 and 2
families : (f : ℕ) → is_some (numbered f) ≡ true → (f ≡ 1) ⊎ (f ≡ 2)
families f e = go (eqb f 1) (eqb f 2) refl refl e
  where
    go : (a b : Bool) → eqb f 1 ≡ a → eqb f 2 ≡ b → is_some (cond a (Some Family.Frequency) (cond b (Some Family.Voltage) None)) ≡ true → (f ≡ 1) ⊎ (f ≡ 2)
    go true b p q s = inl (eqb-true f 1 p)
    go false true p q s = inr (eqb-true f 2 q)
    go false false p q s = let z : ◌≡◌ {A = ℕ} 0 1 = cc in absurd (omega arith)

numbered_2 : (f : ℕ) → (f ≡ 1) ⊎ (f ≡ 2) → is_numbered 2 f ≡ true
numbered_2 f (inl e) = ap (is_numbered 2) e
numbered_2 f (inr e) = ap (is_numbered 2) e

allowed : (l : Line) (o : Option Family) → disallowed l o ≡ false → is_some o ≡ true
allowed l None e = let z : ◌≡◌ {A = ℕ} 0 1 = cc in absurd (omega arith)
allowed l (Some f) e = refl

some_value : (o : Option ℕ) → is_some o ≡ true → (x : ℕ) × (o ≡ Some x)
some_value None e = let z : ◌≡◌ {A = ℕ} 0 1 = cc in absurd (omega arith)
some_value (Some x) e = (x, refl)

-- room for a pot, where one is needed
has_pot : (x n : ℕ) → (ltb 0 x && leb 16 n) ≡ false → (eqb x 0 || not (leb 16 n)) ≡ true
has_pot x n e = grind (arith, nat_tests)

weighed_push : (pots : List Pot) (x : ℕ) (ws : List ℕ) → strands x ws ≡ false → WeighedPots pots → WeighedPots (pots ++ record { cents = x; weights = ws } ∷ [])
weighed_push [] x ws new old zero p e = let same : record { cents = x; weights = ws } ≡ p = cc in ap (λ q. strands q.cents q.weights) (sym same) ∙ new
weighed_push [] x ws new old (suc i) p e = let z : ◌≡◌ {A = ℕ} 0 1 = cc in absurd (omega arith)
weighed_push (q ∷ qs) x ws new old zero p e = old zero p e
weighed_push (q ∷ qs) x ws new old (suc i) p e = weighed_push qs x ws new (λ j r f. old (suc j) r f) i p e

-- a settled month has charges
settled_charged : (p : Phase) → not (is_settled p) ≡ false → is_charged p ≡ true
settled_charged blank e = let z : ◌≡◌ {A = ℕ} 0 1 = cc in absurd (omega arith)
settled_charged begun e = let z : ◌≡◌ {A = ℕ} 0 1 = cc in absurd (omega arith)
settled_charged settled e = refl
settled_charged final e = let z : ◌≡◌ {A = ℕ} 0 1 = cc in absurd (omega arith)

-- an open month has no charges
uncharged : (p : Phase) → not (is_begun p) ≡ false → is_charged p ≡ true → ⊥
uncharged blank e c = let z : ◌≡◌ {A = ℕ} 0 1 = cc in omega arith
uncharged begun e c = let z : ◌≡◌ {A = ℕ} 0 1 = cc in omega arith
uncharged settled e c = let z : ◌≡◌ {A = ℕ} 0 1 = cc in omega arith
uncharged final e c = let z : ◌≡◌ {A = ℕ} 0 1 = cc in omega arith

module _ {R : Type 0} (share : R → Sharing) (h : List (Meant R)) (b : Book) (fit : Sound b) (k : Holds share h b) where
  same : shown b ≡ seen h
  same = sees share h b fit k

  -- a unit that is registered
  known : (u : ℕ) → not (is_some (place_in (find b.units u))) ≡ false → (r : UnitRow) × (find b.units u ≡ Some r)
  known u e = go (find b.units u) refl e
    where
      go : (o : Option UnitRow) → find b.units u ≡ o → not (is_some (place_in o)) ≡ false → (r : UnitRow) × (find b.units u ≡ Some r)
      go None p q = let z : ◌≡◌ {A = ℕ} 0 1 = cc in absurd (omega arith)
      go (Some r) p q = (r, p)

  -- what is earned for its owner: the place of a row is that of the history
  of_row : (u : ℕ) (r : UnitRow) → find b.units u ≡ Some r → (P : Option Place → Option Place → Type 0) → P (place_in (Some r)) (place_in (Some r)) → P (place h u) (place_in (find b.units u))
  of_row u r there P base =
      let here : place_in (Some r) ≡ place_in (find b.units u) = ap place_in (sym there) in
      subst (λ o. P o (place_in (find b.units u))) (here ∙ k.units.place u) (subst (P (place_in (Some r))) here base)

  owned_line : (u t f : ℕ) (l : Line) (r : UnitRow) → find b.units u ≡ Some r → (f ≡ 1) ⊎ (f ≡ 2) → past_credits (shown b) (line_worth (shown b) u f l) ≡ false → Accounted (earned (post (line u t f l) ∷ h)) (line_pot (post (line u t f l) ∷ h)) (installation_pot h) (credits (post (line u t f l) ∷ h)) (shed_pots h) (entered b.accounts (owner_of ((shown b).place u)) f (line_worth (shown b) u f l))
  owned_line u t f l r there which light =
      let x = line_worth (shown b) u f l in
      subst
      (λ y. Accounted (λ c. plus (earned h c) (only (is (owner (place h u)) c) (Some y))) (λ g. plus (line_pot h g) (when (eqb f g) y)) (installation_pot h) (credits h + y) (shed_pots h) (entered b.accounts (owner_of (place_in (find b.units u))) f x))
      (ap (λ s. line_worth s u f l) same)
      (of_row u r there
      (λ o q. Accounted (λ c. plus (earned h c) (only (is (owner o) c) (Some x))) (λ g. plus (line_pot h g) (when (eqb f g) x)) (installation_pot h) (credits h + x) (shed_pots h) (entered b.accounts (owner_of q) f x))
      (lined_more _ _ _ _ _ _ fit.earned k.accounts r.owner x (found_company b.units u r fit.owned there) light f which))

  owned_installation : (u f a m : ℕ) (r : UnitRow) → find b.units u ≡ Some r → past_credits (shown b) (worth_of_installation a m) ≡ false → Accounted (earned (post (installation u f a m) ∷ h)) (line_pot h) (installation_pot (post (installation u f a m) ∷ h)) (credits (post (installation u f a m) ∷ h)) (shed_pots h) (entered b.accounts (owner_of ((shown b).place u)) 3 (worth_of_installation a m))
  owned_installation u f a m r there light =
      let x = worth_of_installation a m in
      of_row u r there
      (λ o q. Accounted (λ c. plus (earned h c) (only (is (owner o) c) (Some x))) (line_pot h) (installation_pot h + x) (credits h + x) (shed_pots h) (entered b.accounts (owner_of q) 3 x))
      (installed_more _ _ _ _ _ _ fit.earned k.accounts r.owner x (found_company b.units u r fit.owned there) light)

  -- what is earned for the supplier of a point
  supplied_shed : (p kw s z sup : ℕ) (rs : List Reading) → (point_in b.points p).supplier ≡ Some sup → past_credits (shown b) (shed_worth (shown b) p kw s) ≡ false → (eqb (shed_worth (shown b) p kw s) 0 || not (leb 16 (length b.accounts.pots))) ≡ true → Accounted (earned (post (shed p kw s z rs) ∷ h)) (line_pot h) (installation_pot h) (credits (post (shed p kw s z rs) ∷ h)) (shed_pots (post (shed p kw s z rs) ∷ h)) (shed_in b.accounts (unwrap_or ((shown b).supplier p) 0) (shed_worth (shown b) p kw s) (shed_weights (shown b) z rs))
  supplied_shed p kw s z sup rs there light room =
      let x = shed_worth (shown b) p kw s in
      let ws = shed_weights (shown b) z rs in
      let by = (point_in b.points p).supplier in
      subst
      (λ seen_so. Accounted (λ c. plus (earned h c) (only (is (seen_so.supplier p) c) (Some (shed_worth seen_so p kw s)))) (line_pot h) (installation_pot h) (credits h + shed_worth seen_so p kw s) (with_pot (shed_pots h) (shed_worth seen_so p kw s) (shed_weights seen_so z rs)) (shed_in b.accounts (unwrap_or by 0) x ws))
      same
      (subst
      (λ o. Accounted (λ c. plus (earned h c) (only (is o c) (Some x))) (line_pot h) (installation_pot h) (credits h + x) (with_pot (shed_pots h) x ws) (shed_in b.accounts (unwrap_or o 0) x ws))
      (sym there)
      (shedded_more _ _ _ _ _ _ fit.earned k.accounts sup x (k.points.company p sup (sym (k.points.supplier p) ∙ there)) light ws room))

  -- a pot more has somebody to pay it
  same_sheds : (o f x : ℕ) → WeighedPots (entered b.accounts o f x).pots
  same_sheds o f x = go (is_numbered 3 f && (is_numbered 32 o && not (ltb limit (b.accounts.credits + x))))
    where
      go : (t : Bool) → WeighedPots (cond t (record { earned = with_more 32 b.accounts.earned o x; services = with_more 3 b.accounts.services f x; credits = b.accounts.credits + x; pots = b.accounts.pots }) b.accounts).pots
      go true = k.sheds_weighed
      go false = k.sheds_weighed

  more_sheds : (o x : ℕ) (ws : List ℕ) → strands x ws ≡ false → WeighedPots (shed_in b.accounts o x ws).pots
  more_sheds o x ws new = go ((eqb x 0 || not (leb 16 (length b.accounts.pots))) && (is_numbered 32 o && not (ltb limit (b.accounts.credits + x))))
    where
      joined : (t : Bool) → WeighedPots (cond t b.accounts.pots (b.accounts.pots ++ record { cents = x; weights = ws } ∷ []))
      joined true = k.sheds_weighed
      joined false = weighed_push b.accounts.pots x ws new k.sheds_weighed

      go : (t : Bool) → WeighedPots (cond t (record { earned = with_more 32 b.accounts.earned o x; services = b.accounts.services; credits = b.accounts.credits + x; pots = with_pot b.accounts.pots x ws }) b.accounts).pots
      go true = joined (eqb x 0)
      go false = k.sheds_weighed

  -- a call that is admitted
  keeps_post : (p : Posted) → Clear (post_rows (shown b) p) → Holds share (post p ∷ h) (post_done b p)
  keeps_post (company n) ok =
      record {
        phase = k.phase;
        terms = k.terms;
        charges = λ c. absurd (uncharged b.phase ok.0 c);
        companies = company_more _ _ n fit.registered ok.1.0 k.companies;
        replacing = k.replacing;
        units = k.units;
        meters = k.meters;
        points = k.points;
        accounts = k.accounts;
        sheds_weighed = k.sheds_weighed;
        services_weighed = λ e. absurd (uncharged b.phase ok.0 e);
        ruled = λ e. absurd (uncharged b.phase ok.0 e);
      }
  keeps_post (replace old new) ok =
      record {
        phase = k.phase;
        terms = k.terms;
        charges = λ c. absurd (uncharged b.phase ok.0 c);
        companies = k.companies;
        replacing = replace_more _ _ _ _ old new fit.participants fit.takes_part ok.1.0 ok.1.1.1.0 k.replacing;
        units = k.units;
        meters = k.meters;
        points = k.points;
        accounts = k.accounts;
        sheds_weighed = k.sheds_weighed;
        services_weighed = λ e. absurd (uncharged b.phase ok.0 e);
        ruled = λ e. absurd (uncharged b.phase ok.0 e);
      }
  keeps_post (unit n o z) ok =
      record {
        phase = k.phase;
        terms = k.terms;
        charges = λ c. absurd (uncharged b.phase ok.0 c);
        companies = k.companies;
        replacing = k.replacing;
        units = unit_more _ _ _ _ _ _ k.units n o z (or_parts (no_company o) (no_zone z) (or_parts (no_unit n) _ ok.1.0).1).0 ok.1.1.1.0 ok.1.1.1.1.0;
        meters = k.meters;
        points = k.points;
        accounts = k.accounts;
        sheds_weighed = k.sheds_weighed;
        services_weighed = λ e. absurd (uncharged b.phase ok.0 e);
        ruled = λ e. absurd (uncharged b.phase ok.0 e);
      }
  keeps_post (performance u f p) ok =
      let family = families f (not-false _ (or_parts (no_family f) _ (or_parts (no_unit u) _ ok.1.0).1).0) in
      let row = known u ok.1.1.0 in
      record {
        phase = k.phase;
        terms = k.terms;
        charges = λ c. absurd (uncharged b.phase ok.0 c);
        companies = k.companies;
        replacing = k.replacing;
        units = performed_more _ _ _ _ _ _ k.units u row.0 row.1 f p (numbered_2 f family);
        meters = k.meters;
        points = k.points;
        accounts = k.accounts;
        sheds_weighed = k.sheds_weighed;
        services_weighed = λ e. absurd (uncharged b.phase ok.0 e);
        ruled = λ e. absurd (uncharged b.phase ok.0 e);
      }
  keeps_post (line u t f l) ok =
      let late = or_parts (leb b.terms.hours t) _ (or_parts (no_unit u) _ ok.1.0).1 in
      let family = families f (allowed l (numbered f) (or_parts (disallowed l (numbered f)) (not (line_within l)) late.1).0) in
      let row = known u ok.1.1.0 in
      let early : t < 745 = omega (arith, leb-false _ _ late.0, fit.hours) in
      record {
        phase = k.phase;
        terms = k.terms;
        charges = λ c. absurd (uncharged b.phase ok.0 c);
        companies = k.companies;
        replacing = k.replacing;
        units = given_more _ _ _ _ _ _ k.units u row.0 row.1 t l early;
        meters = k.meters;
        points = k.points;
        accounts = owned_line u t f l row.0 row.1 family ok.1.1.1.1.1.0;
        sheds_weighed = same_sheds (owner_of ((shown b).place u)) f (line_worth (shown b) u f l);
        services_weighed = λ e. absurd (uncharged b.phase ok.0 e);
        ruled = λ e. absurd (uncharged b.phase ok.0 e);
      }
  keeps_post (installation u f a m) ok =
      let family = families f (not-false _ (or_parts (no_family f) _ (or_parts (no_unit u) _ ok.1.0).1).0) in
      let row = known u ok.1.1.0 in
      record {
        phase = k.phase;
        terms = k.terms;
        charges = λ c. absurd (uncharged b.phase ok.0 c);
        companies = k.companies;
        replacing = k.replacing;
        units = unit_installed_more _ _ _ _ _ _ k.units u row.0 row.1 f (numbered_2 f family);
        meters = k.meters;
        points = k.points;
        accounts = owned_installation u f a m row.0 row.1 ok.1.1.1.1.0;
        sheds_weighed = same_sheds (owner_of ((shown b).place u)) 3 (worth_of_installation a m);
        services_weighed = λ e. absurd (uncharged b.phase ok.0 e);
        ruled = λ e. absurd (uncharged b.phase ok.0 e);
      }
  keeps_post (meter c w i) ok =
      record {
        phase = k.phase;
        terms = k.terms;
        charges = λ e. absurd (uncharged b.phase ok.0 e);
        companies = k.companies;
        replacing = k.replacing;
        units = k.units;
        meters = meter_more _ _ _ _ c w i fit.given fit.withdrawals fit.injections (or_parts (no_company c) _ ok.1.0).0 k.meters;
        points = k.points;
        accounts = k.accounts;
        sheds_weighed = k.sheds_weighed;
        services_weighed = λ e. absurd (uncharged b.phase ok.0 e);
        ruled = λ e. absurd (uncharged b.phase ok.0 e);
      }
  keeps_post (point n s) ok =
      record {
        phase = k.phase;
        terms = k.terms;
        charges = λ c. absurd (uncharged b.phase ok.0 c);
        companies = k.companies;
        replacing = k.replacing;
        units = k.units;
        meters = k.meters;
        points = point_more _ _ _ _ _ fit.points k.points n s ok.1.0;
        accounts = k.accounts;
        sheds_weighed = k.sheds_weighed;
        services_weighed = λ e. absurd (uncharged b.phase ok.0 e);
        ruled = λ e. absurd (uncharged b.phase ok.0 e);
      }
  keeps_post (shed p kw s z rs) ok =
      let limits = or_parts (outside 1 32 p) _ ok.1.0 in
      let figures = and_parts (leb kw highest_load) (leb s longest) (not-false _ (or_parts (not (shedding_within kw s)) _ limits.1).0) in
      let there = some_value (point_in b.points p).supplier (not-false _ (or_parts (not (is_some (point_in b.points p).supplier)) _ ok.1.1.0).0) in
      let full = or_parts (leb 10_000 b.points.sheddings) _ ok.1.1.1.1.0 in
      record {
        phase = k.phase;
        terms = k.terms;
        charges = λ c. absurd (uncharged b.phase ok.0 c);
        companies = k.companies;
        replacing = k.replacing;
        units = k.units;
        meters = k.meters;
        points = shed_more _ _ _ _ _ fit.points k.points p s limits.0 full.0 figures.1;
        accounts = supplied_shed p kw s z there.0 rs there.1 ok.1.1.1.1.1.0 (has_pot (shed_worth (shown b) p kw s) (length b.accounts.pots) full.1);
        sheds_weighed = more_sheds (unwrap_or ((shown b).supplier p) 0) (shed_worth (shown b) p kw s) (shed_weights (shown b) z rs) ok.1.1.1.1.1.1.0;
        services_weighed = λ e. absurd (uncharged b.phase ok.0 e);
        ruled = λ e. absurd (uncharged b.phase ok.0 e);
      }

  -- a stage call changes the stage alone
  staged : (c : StageCall R) (p : Phase) (cs : List (List ℕ)) (t : Terms) → p ≡ phase (stage c ∷ h) → t ≡ terms (stage c ∷ h) → (is_charged p ≡ true → (cs ≡ charges share (stage c ∷ h)) × (some_strands (service_pots_in b) ≡ false) × ((r : R) × (latest (on_settle None Some) (stage c ∷ h) ≡ Some r))) → Holds share (stage c ∷ h) (with_phase b p cs t)
  staged c p cs t is_p is_t is_c =
      record {
        phase = is_p;
        terms = is_t;
        charges = λ charged. (is_c charged).0;
        companies = k.companies;
        replacing = k.replacing;
        units = k.units;
        meters = k.meters;
        points = k.points;
        accounts = k.accounts;
        sheds_weighed = k.sheds_weighed;
        services_weighed = λ charged. (is_c charged).1;
        ruled = λ charged. (is_c charged).2;
      }

  keeps : (m : Meant R) → Clear (rows (shown b) m) → Holds share (m ∷ h) (done share b m)
  keeps (post p) ok = keeps_post p ok
  keeps (stage (StageCall.Open t)) ok = staged _ _ _ _ refl refl (λ c. let z : ◌≡◌ {A = ℕ} 0 1 = cc in absurd (omega arith))
  keeps (stage (StageCall.Settle r)) ok =
      staged _ _ _ _ refl k.terms
      (λ c. (
        ap (λ ps. charged (share r) ps (all_pots b)) (same_participants share h b fit k) ∙ ap (charged (share r) (participants h)) (same_pots share h b fit k),
        ok.1.0,
        (r, refl),
      ))
  keeps (stage StageCall.Reopen) ok = staged _ _ _ _ refl k.terms (λ c. let z : ◌≡◌ {A = ℕ} 0 1 = cc in absurd (omega arith))
  keeps (stage StageCall.Confirm) ok =
      let before = settled_charged b.phase ok.0 in
      staged _ _ _ _ refl k.terms (λ c. (k.charges before, k.services_weighed before, k.ruled before))

  by_answer : (m : Meant R) (a : Answer) → answer b m ≡ a → Holds share (then a m h) (on_ok a (done share b m) b)
  by_answer m (Ok u) e = keeps m (clear (rows (shown b) m) u e)
  by_answer m (Err r) e = k

  pub same_answer : (m : Meant R) → answer b m ≡ verdict h m
  same_answer m = ap (λ s. first (rows s m)) same

  pub next : (m : Meant R) → Holds share (then (verdict h m) m h) (after share b m)
  next m = subst (λ a. Holds share (then a m h) (after share b m)) (same_answer m) (by_answer m (answer b m) refl)
