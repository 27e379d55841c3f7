-- The tables after a post. They know no history.
use Rattle.std.proofs.Common.{◌≡◌, ℕ, ◌+◌, ◌-◌, ◌<◌, Bool, true, false, cond, not, ◌&&◌, ◌||◌, eqb, ltb, leb, ◌⊎◌, List, [], ◌∷◌, ◌++◌, length, set, Some, None, sum_by, Option, unwrap_or, sym, refl, ap, ◌∙◌, subst, inl, inr, arith}
use Rattle.std.proofs.lemmas.Bool.{eqb-true, cond-true, and_from, not_from_false, or_parts}
use Rattle.std.proofs.lemmas.Bool.Decides.{nat_tests}
use Rattle.std.proofs.lemmas.List.Sums.{sum_by-append, sum_by-cons}
use Rattle.prorating.specs.Weights.{limit}
use Rattle.payers.specs.Bases.{is_company}
use Rattle.payers.specs.Replacements.{is_barred, is_replaced, is_substitute, TakesPart}
use Rattle.payers.specs.Substitutes.{participant_after, replaced_after, substitute_after}
use Rattle.tables.specs.Accounts.{Held, Pot, entered, with_pot, passes}
use Rattle.tables.specs.Accounts.{shed as shed_in}
use Rattle.numbered.specs.Entries.{is_numbered, entry, with_entry}
use Rattle.tables.specs.Points.{Points, no_point, point, supplied, shed_at, with_supplier, with_shedding}
use Rattle.numbered.proofs.Entries.{entry_with}
use Rattle.month.specs.Book.{Metering}
use Rattle.month.specs.Table.{outside, no_company}
use Rattle.history.specs.History.{either, plus, when, only, is}
use Rattle.history.proofs.Holds.{Companies, Replacing, Meters, Supplied, Accounted}

-- a number that is not outside its limits
pub inside : (n : ℕ) → outside 1 32 n ≡ false → is_numbered 32 n ≡ true
inside n e = grind (arith, nat_tests)

marked : (t x : Bool) → cond t true x ≡ (t || x)
marked true x = refl
marked false x = refl

latest_value : (t : Bool) (new other : ℕ) (o : Option ℕ) → cond t new (unwrap_or o other) ≡ unwrap_or (either (when t new) o) other
latest_value true new other o = refl
latest_value false new other o = refl

-- one mark more
pub marks_more : (marks : List Bool) (n c : ℕ) → length marks ≡ 32 → is_numbered 32 n ≡ true → entry 32 false (with_entry 32 marks n true) c ≡ (eqb n c || entry 32 false marks c)
marks_more marks n c long there = entry_with 32 false marks long n true there c ∙ marked (eqb n c) (entry 32 false marks c)

pub company_more : (on : ℕ → Bool) (marks : List Bool) (n : ℕ) → length marks ≡ 32 → no_company n ≡ false → Companies on marks → Companies (λ c. eqb n c || on c) (with_entry 32 marks n true)
company_more on marks n long fits k = record { is = λ c. marks_more marks n c long (inside n fits) ∙ ap (λ t. eqb n c || t) (k.is c) }

-- a guard that holds says nothing, and one that holds wherever the first of two facts does stands before the other alone
guarded : (t x : Bool) → t ≡ true → (t && x) ≡ x
guarded true x e = refl
guarded false x e = cc

spread : (t a x : Bool) → (a ≡ true → t ≡ true) → (t && (a || x)) ≡ (a || (t && x))
spread t true x holds = guarded t true (holds refl)
spread t false x holds = refl

pub replace_more : (gone takes : ℕ → Bool) (by : ℕ → Option ℕ) (ps : List ℕ) (old new : ℕ) → length ps ≡ 32 → ((i : ℕ) → i < 32 → TakesPart ps i) → (no_company old || no_company new) ≡ false → (((eqb old new || (is_company old && is_replaced ps old)) || (is_company new && is_replaced ps new)) || is_substitute ps old) ≡ false → Replacing gone takes by ps → Replacing (λ c. eqb old c || gone c) (λ c. eqb new c || takes c) (λ c. either (when (eqb old c) new) (by c)) (with_entry 32 ps old new)
replace_more gone takes by ps old new long each fits free k =
    let is_old = inside old (or_parts (no_company old) (no_company new) fits).0 in
    let is_new = inside new (or_parts (no_company old) (no_company new) fits).1 in
    let now : with_entry 32 ps old new ≡ set ps (old - 1) new = cond-true _ _ _ is_old in
    let unbarred : is_barred ps old new ≡ false =
    ap (λ t. ((eqb old new || t) || is_replaced ps new) || is_substitute ps old) (sym (guarded (is_company old) (is_replaced ps old) is_old))
    ∙ ap (λ t. ((eqb old new || (is_company old && is_replaced ps old)) || t) || is_substitute ps old) (sym (guarded (is_company new) (is_replaced ps new) is_new))
    ∙ free in
    subst (Replacing (λ c. eqb old c || gone c) (λ c. eqb new c || takes c) (λ c. either (when (eqb old c) new) (by c))) (sym now)
    (record {
      replaced = λ c.
          ap (λ t. is_company c && t) (replaced_after ps long each old new is_old is_new (sym unbarred) c)
          ∙ spread (is_company c) (eqb old c) (is_replaced ps c) (λ same. ap is_company (sym (eqb-true old c same)) ∙ is_old)
          ∙ ap (λ t. eqb old c || t) (k.replaced c);
      replaces = λ c. substitute_after ps long each old new is_old is_new (sym unbarred) c ∙ ap (λ t. eqb new c || t) (k.replaces c);
      participant = λ c there. participant_after ps long each old new is_old is_new (sym unbarred) c ∙ ap (cond (eqb old c) new) (k.participant c there) ∙ latest_value (eqb old c) new c (by c);
    })

pub meter_more : (on : ℕ → Bool) (w i : ℕ → Option ℕ) (m : Metering) (n x y : ℕ) → length m.given ≡ 32 → length m.withdrawals ≡ 32 → length m.injections ≡ 32 → no_company n ≡ false → Meters on w i m → Meters (λ c. eqb n c || on c) (λ c. either (when (eqb n c) x) (w c)) (λ c. either (when (eqb n c) y) (i c)) (record { given = with_entry 32 m.given n true; withdrawals = with_entry 32 m.withdrawals n x; injections = with_entry 32 m.injections n y })
meter_more on w i m n x y given_long w_long i_long fits k =
    let there = inside n fits in
    record {
      given = λ c. marks_more m.given n c given_long there ∙ ap (λ t. eqb n c || t) (k.given c);
      withdrawals = λ c company. entry_with 32 0 m.withdrawals w_long n x there c ∙ ap (cond (eqb n c) x) (k.withdrawals c company) ∙ latest_value (eqb n c) x 0 (w c);
      injections = λ c company. entry_with 32 0 m.injections i_long n y there c ∙ ap (cond (eqb n c) y) (k.injections c company) ∙ latest_value (eqb n c) y 0 (i c);
    }

-- points
module _ (by : ℕ → Option ℕ) (many lasted : ℕ → ℕ) (all : ℕ) (ps : Points) (long : length ps.points ≡ 32) (k : Supplied by many lasted all ps) where
  pub point_more : (n s : ℕ) → (outside 1 32 n || no_company s) ≡ false → Supplied (λ p. either (when (eqb n p) s) (by p)) many lasted all (with_supplier ps n s)
  point_more n s fits =
      let there = inside n (or_parts (outside 1 32 n) (no_company s) fits).0 in
      let after = λ (p : ℕ). entry_with 32 no_point ps.points long n (supplied (point ps n) s) there p in
      record {
        supplier = λ p. ap (λ q. q.supplier) (after p) ∙ named (eqb n p) p (k.supplier p);
        count = λ p. ap (λ q. q.count) (after p) ∙ counted (eqb n p) p refl ∙ k.count p;
        seconds = λ p. ap (λ q. q.seconds) (after p) ∙ timed (eqb n p) p refl ∙ k.seconds p;
        sheddings = k.sheddings;
        company = λ p c e. known (eqb n p) p c e;
      }
    where
      named : (t : Bool) (p : ℕ) → (point ps p).supplier ≡ by p → (cond t (supplied (point ps n) s) (point ps p)).supplier ≡ either (when t s) (by p)
      named true p e = refl
      named false p e = e

      counted : (t : Bool) (p : ℕ) → eqb n p ≡ t → (cond t (supplied (point ps n) s) (point ps p)).count ≡ (point ps p).count
      counted true p e = ap (λ q. (point ps q).count) (eqb-true n p e)
      counted false p e = refl

      timed : (t : Bool) (p : ℕ) → eqb n p ≡ t → (cond t (supplied (point ps n) s) (point ps p)).seconds ≡ (point ps p).seconds
      timed true p e = ap (λ q. (point ps q).seconds) (eqb-true n p e)
      timed false p e = refl

      known : (t : Bool) (p c : ℕ) → either (when t s) (by p) ≡ Some c → is_company c ≡ true
      known true p c e = let same : s ≡ c = cc in ap is_company (sym same) ∙ inside s (or_parts (outside 1 32 n) (no_company s) fits).1
      known false p c e = k.company p c e

  pub shed_more : (n s : ℕ) → outside 1 32 n ≡ false → leb 10_000 ps.sheddings ≡ false → leb s 86_400 ≡ true → Supplied by (λ p. plus (many p) (when (eqb n p) 1)) (λ p. plus (lasted p) (when (eqb n p) s)) (all + 1) (with_shedding ps n s)
  shed_more n s fits room short =
      let there = inside n fits in
      let more : ltb ps.sheddings 10_000 ≡ true = grind (arith, nat_tests) in
      let now = cond-true (is_numbered 32 n && (ltb ps.sheddings 10_000 && leb s 86_400)) (record { points = with_entry 32 ps.points n (shed_at (point ps n) s); sheddings = ps.sheddings + 1 }) ps (and_from _ _ there (and_from _ _ more short)) in
      let after = λ (p : ℕ). entry_with 32 no_point ps.points long n (shed_at (point ps n) s) there p in
      subst (Supplied by (λ p. plus (many p) (when (eqb n p) 1)) (λ p. plus (lasted p) (when (eqb n p) s)) (all + 1)) (sym now)
      (record {
        supplier = λ p. ap (λ q. q.supplier) (after p) ∙ named (eqb n p) p refl ∙ k.supplier p;
        count = λ p. ap (λ q. q.count) (after p) ∙ counted (eqb n p) p refl;
        seconds = λ p. ap (λ q. q.seconds) (after p) ∙ timed (eqb n p) p refl;
        sheddings = ap (λ x. x + 1) k.sheddings;
        company = k.company;
      })
    where
      named : (t : Bool) (p : ℕ) → eqb n p ≡ t → (cond t (shed_at (point ps n) s) (point ps p)).supplier ≡ (point ps p).supplier
      named true p e = ap (λ q. (point ps q).supplier) (eqb-true n p e)
      named false p e = refl

      counted : (t : Bool) (p : ℕ) → eqb n p ≡ t → (cond t (shed_at (point ps n) s) (point ps p)).count ≡ plus (many p) (when t 1)
      counted true p e = ap (λ x. x + 1) (ap (λ q. (point ps q).count) (eqb-true n p e) ∙ k.count p)
      counted false p e = k.count p

      timed : (t : Bool) (p : ℕ) → eqb n p ≡ t → (cond t (shed_at (point ps n) s) (point ps p)).seconds ≡ plus (lasted p) (when t s)
      timed true p e = ap (λ x. x + s) (ap (λ q. (point ps q).seconds) (eqb-true n p e) ∙ k.seconds p)
      timed false p e = k.seconds p

-- accounts
module _ (earn lines : ℕ → ℕ) (installations all : ℕ) (sheds : List Pot) (a : Held) (long : length a.earned ≡ 32) (k : Accounted earn lines installations all sheds a) (o x : ℕ) (company : is_company o ≡ true) (light : ltb limit (a.credits + x) ≡ false) where
  earned_more : (c : ℕ) → is_company c ≡ true → entry 32 0 (with_entry 32 a.earned o (entry 32 0 a.earned o + x)) c ≡ plus (earn c) (only (is (Some o) c) (Some x))
  earned_more c there = entry_with 32 0 a.earned long o (entry 32 0 a.earned o + x) company c ∙ go (eqb o c) refl
    where
      go : (t : Bool) → eqb o c ≡ t → cond t (entry 32 0 a.earned o + x) (entry 32 0 a.earned c) ≡ plus (earn c) (cond t (Some x) None)
      go true e = ap (λ y. y + x) (ap (entry 32 0 a.earned) (eqb-true o c e) ∙ k.earned c there)
      go false e = k.earned c there

  credited : is_numbered 32 o && not (passes a x) ≡ true
  credited = and_from _ _ company (not_from_false _ light)

  pub installed_more : Accounted (λ c. plus (earn c) (only (is (Some o) c) (Some x))) lines (installations + x) (all + x) sheds (entered a o 3 x)
  installed_more =
      subst (Accounted (λ c. plus (earn c) (only (is (Some o) c) (Some x))) lines (installations + x) (all + x) sheds) (sym (cond-true _ _ _ (and_from (is_numbered 3 3) _ refl credited)))
      (record {
        earned = earned_more;
        services = ap (λ ss. with_entry 3 ss 3 (entry 3 0 ss 3 + x)) k.services;
        credits = ap (λ y. y + x) k.credits;
        pots = k.pots;
        paid = omega (arith, k.paid);
      })

  abbrev services_now : ℕ → List ℕ
  services_now g = with_entry 3 (lines 1 ∷ lines 2 ∷ installations ∷ []) g (entry 3 0 (lines 1 ∷ lines 2 ∷ installations ∷ []) g + x)

  abbrev services_then : ℕ → List ℕ
  services_then g = plus (lines 1) (when (eqb g 1) x) ∷ plus (lines 2) (when (eqb g 2) x) ∷ installations ∷ []

  pub lined_more : (f : ℕ) → (f ≡ 1) ⊎ (f ≡ 2) → Accounted (λ c. plus (earn c) (only (is (Some o) c) (Some x))) (λ g. plus (lines g) (when (eqb f g) x)) installations (all + x) sheds (entered a o f x)
  lined_more f which =
      subst (Accounted (λ c. plus (earn c) (only (is (Some o) c) (Some x))) (λ g. plus (lines g) (when (eqb f g) x)) installations (all + x) sheds) (sym (cond-true _ _ _ (and_from (is_numbered 3 f) _ (numbered_3 which) credited)))
      (record {
        earned = earned_more;
        services = ap (λ ss. with_entry 3 ss f (entry 3 0 ss f + x)) k.services ∙ joins which;
        credits = ap (λ y. y + x) k.credits;
        pots = k.pots;
        paid = both which;
      })
    where
      both : (f ≡ 1) ⊎ (f ≡ 2) → plus (lines 1) (when (eqb f 1) x) + plus (lines 2) (when (eqb f 2) x) + installations + sum_by (λ p. p.cents) sheds ≡ all + x
      both (inl e) = ap (λ g. plus (lines 1) (when (eqb g 1) x) + plus (lines 2) (when (eqb g 2) x) + installations + sum_by (λ p. p.cents) sheds) e ∙ omega (arith, k.paid)
      both (inr e) = ap (λ g. plus (lines 1) (when (eqb g 1) x) + plus (lines 2) (when (eqb g 2) x) + installations + sum_by (λ p. p.cents) sheds) e ∙ omega (arith, k.paid)

      numbered_3 : (f ≡ 1) ⊎ (f ≡ 2) → is_numbered 3 f ≡ true
      numbered_3 (inl e) = ap (is_numbered 3) e
      numbered_3 (inr e) = ap (is_numbered 3) e

      joins : (f ≡ 1) ⊎ (f ≡ 2) → services_now f ≡ services_then f
      joins (inl e) = ap services_now e ∙ sym (ap services_then e)
      joins (inr e) = ap services_now e ∙ sym (ap services_then e)

  pub shedded_more : (weights : List ℕ) → (eqb x 0 || not (leb 16 (length a.pots))) ≡ true → Accounted (λ c. plus (earn c) (only (is (Some o) c) (Some x))) lines installations (all + x) (with_pot sheds x weights) (shed_in a o x weights)
  shedded_more weights room =
      subst (Accounted (λ c. plus (earn c) (only (is (Some o) c) (Some x))) lines installations (all + x) (with_pot sheds x weights)) (sym (cond-true _ _ _ (and_from _ _ room credited)))
      (record {
        earned = earned_more;
        services = k.services;
        credits = ap (λ y. y + x) k.credits;
        pots = ap (λ ps. with_pot ps x weights) k.pots;
        paid = omega (arith, k.paid, with_pot_sum (eqb x 0) refl);
      })
    where
      with_pot_sum : (t : Bool) → eqb x 0 ≡ t → sum_by (λ p. p.cents) (with_pot sheds x weights) ≡ sum_by (λ p. p.cents) sheds + x
      with_pot_sum true e = ap (λ t. sum_by (λ p. p.cents) (cond t sheds (sheds ++ record { cents = x; weights = weights } ∷ []))) e ∙ omega (arith, eqb-true x 0 e)
      with_pot_sum false e =
          ap (λ t. sum_by (λ p. p.cents) (cond t sheds (sheds ++ record { cents = x; weights = weights } ∷ []))) e
          ∙ omega (arith, sum_by-append (λ (p : Pot). p.cents) sheds (record { cents = x; weights = weights } ∷ []), sum_by-cons (λ (p : Pot). p.cents) (record { cents = x; weights = weights }) [])
