-- What is read of a line is what the line writes.
use Rattle.std.proofs.Common.{◌≡◌, ℕ, zero, suc, ◌+◌, ◌/◌, ◌%◌, ◌^◌, ◌<◌, Bool, true, false, cond, ◌&&◌, eqb, List, [], ◌∷◌, ◌++◌, map, length, Some, None, codes, decimal, Option, sym, refl, ap, ◌∙◌, subst, arith, eqb-true}
use Rattle.std.specs.Option.{option_map}
use Rattle.std.specs.List.{join_with_byte, AllByRecursion}
use Rattle.std.specs.Str.{bytes_eq}
use Rattle.std.proofs.lemmas.Slice.Eq.{bytes_eq-Decides}
use Rattle.std.proofs.lemmas.Bool.Decides.{nat_tests}
use Rattle.prorating.specs.declared.built_in.BuiltIn.{BuiltIn}
use Rattle.worth.specs.Lines.{kind}
use Rattle.worth.specs.declared.line.Line as hourly
use Rattle.worth.specs.declared.line.Line.TheVariants.{UpwardAvailability, UpwardActivation, Downward, OverCost, Opportunity, ExtraFuel, ExtraResource, ExtraWithdrawal}
use Rattle.words.specs.Words.{number_of, split}
use Rattle.words.proofs.Numbers.{number_only}
use Rattle.words.proofs.Pieces.{first_piece, rejoined_split}
use Rattle.month.specs.declared.calls.StageCall.TheVariants.{Settle}
use Rattle.month.specs.Meant.{Meant, post, stage, line, shed}
use Rattle.script.specs.declared.word.Word.{Word}
use Rattle.script.specs.declared.word.Word.TheVariants as word
use Rattle.script.specs.Words.{name, among, words, word_of}
use Rattle.script.specs.Lines.{and_then, numbers_of, low_kind, high_kind, or_else, line_of, lined, shed_of, call_of, pairs, settled, on_word, by_word, said_by, said_of}
use Rattle.script.specs.Texts.{front, figures, flat, numbers, written, Says}
use Rattle.script.proofs.Counts.{some_is, none_by, one_by, two_by, three_by, four_by, five_by, cond_by}

-- a word
among_only : (ws : List Word) (f : List ℕ) (w : Word) → among ws f ≡ Some w → f ≡ name w
among_only [] f w e = cc
among_only (v ∷ ws) f w e =
    cond_by (bytes_eq f (name v)) (Some v) (among ws f) w (f ≡ name w)
    (λ t s. (bytes_eq-Decides f (name v)).0 t ∙ ap name (some_is s))
    (λ r. among_only ws f w r)
    e

-- numbers
abbrev Small : ℕ → Type 0
Small n = n < 10 ^ 11

module _ (f : List ℕ) (fs : List (List ℕ)) where
  onto_only : (n : ℕ) (o : Option (List ℕ)) (ns : List ℕ) → number_of f ≡ Some n → ((ms : List ℕ) → o ≡ Some ms → (fs ≡ map decimal ms) × AllByRecursion Small ms) → option_map (λ ms. n ∷ ms) o ≡ Some ns → (f ∷ fs ≡ map decimal ns) × AllByRecursion Small ns
  onto_only n None ns e ih h = cc
  onto_only n (Some ms) ns e ih h =
      let first = number_only f n e in
      let rest = ih ms refl in
      let P : List ℕ → Type 0 = λ l. (f ∷ fs ≡ map decimal l) × AllByRecursion Small l in
      subst P (some_is h) (ap (λ g. g ∷ fs) first.0 ∙ ap (λ gs. decimal n ∷ gs) rest.0, (first.1, rest.1))

  field_only : (o : Option ℕ) (ns : List ℕ) → number_of f ≡ o → ((ms : List ℕ) → numbers_of fs ≡ Some ms → (fs ≡ map decimal ms) × AllByRecursion Small ms) → and_then o (λ n. option_map (λ ms. n ∷ ms) (numbers_of fs)) ≡ Some ns → (f ∷ fs ≡ map decimal ns) × AllByRecursion Small ns
  field_only None ns e ih h = cc
  field_only (Some n) ns e ih h = onto_only n (numbers_of fs) ns e ih h

numbers_only : (fs : List (List ℕ)) (ns : List ℕ) → numbers_of fs ≡ Some ns → (fs ≡ map decimal ns) × AllByRecursion Small ns
numbers_only [] ns h = let P : List ℕ → Type 0 = λ l. ([] ≡ map decimal l) × AllByRecursion Small l in subst P (some_is h) (refl, tt)
numbers_only (f ∷ fs) ns h = field_only f fs (number_of f) ns refl (λ ms. numbers_only fs ms) h

-- an hourly line
abbrev Kind : ℕ → List ℕ → hourly.Line → Type 0
Kind k fs l = (k ≡ kind l) × (fs ≡ figures l)

low_only : (k : ℕ) (fs : List ℕ) (l : hourly.Line) → low_kind k fs ≡ Some l → Kind k fs l
low_only k fs l =
    let Q : hourly.Line → List ℕ → Type 0 = λ m gs. Kind k gs m in
    cond_by (eqb k 1) _ _ l (Kind k fs l) (λ t. two_by UpwardAvailability Q (λ a b. (eqb-true k 1 t, refl)) fs l)
    (cond_by (eqb k 2) _ _ l (Kind k fs l) (λ t. two_by UpwardActivation Q (λ a b. (eqb-true k 2 t, refl)) fs l)
    (cond_by (eqb k 3) _ _ l (Kind k fs l) (λ t. three_by Downward Q (λ a b c. (eqb-true k 3 t, refl)) fs l)
    (cond_by (eqb k 4) _ _ l (Kind k fs l) (λ t. three_by OverCost Q (λ a b c. (eqb-true k 4 t, refl)) fs l)
    (λ h. cc))))

high_only : (k : ℕ) (fs : List ℕ) (l : hourly.Line) → high_kind k fs ≡ Some l → Kind k fs l
high_only k fs l =
    let Q : hourly.Line → List ℕ → Type 0 = λ m gs. Kind k gs m in
    cond_by (eqb k 5) _ _ l (Kind k fs l) (λ t. four_by Opportunity Q (λ a b c d. (eqb-true k 5 t, refl)) fs l)
    (cond_by (eqb k 6) _ _ l (Kind k fs l) (λ t. four_by ExtraFuel Q (λ a b c d. (eqb-true k 6 t, refl)) fs l)
    (cond_by (eqb k 7) _ _ l (Kind k fs l) (λ t. four_by ExtraResource Q (λ a b c d. (eqb-true k 7 t, refl)) fs l)
    (cond_by (eqb k 8) _ _ l (Kind k fs l) (λ t. three_by ExtraWithdrawal Q (λ a b c. (eqb-true k 8 t, refl)) fs l)
    (λ h. cc))))

line_only : (k : ℕ) (fs : List ℕ) (l : hourly.Line) → line_of k fs ≡ Some l → Kind k fs l
line_only k fs l = by (low_kind k fs) refl
  where
    by : (o : Option hourly.Line) → low_kind k fs ≡ o → or_else o (high_kind k fs) ≡ Some l → Kind k fs l
    by (Some m) e h = low_only k fs l (e ∙ h)
    by None e h = high_only k fs l h

-- the word and the numbers are those of the call
record Fits (w : Word) (ns : List ℕ) (x : Meant BuiltIn) : Type 0 where
  first : name w ∷ [] ≡ front x
  rest : ns ≡ numbers x

lined_fits : (u h k f : ℕ) (fs : List ℕ) (o : Option hourly.Line) (x : Meant BuiltIn) → line_of k fs ≡ o → option_map (λ l. post (line u h f l)) o ≡ Some x → Fits word.Line (u ∷ h ∷ k ∷ f ∷ fs) x
lined_fits u h k f fs None x e m = cc
lined_fits u h k f fs (Some l) x e m =
    let p = line_only k fs l e in
    subst (Fits word.Line (u ∷ h ∷ k ∷ f ∷ fs)) (some_is m)
    (record { first = refl; rest = ap (λ n. u ∷ h ∷ n ∷ f ∷ fs) p.0 ∙ ap (λ gs. u ∷ h ∷ kind l ∷ f ∷ gs) p.1 })

line_fits : (ns : List ℕ) (x : Meant BuiltIn) → lined ns ≡ Some x → Fits word.Line ns x
line_fits [] x e = cc
line_fits (u ∷ []) x e = cc
line_fits (u ∷ h ∷ []) x e = cc
line_fits (u ∷ h ∷ k ∷ []) x e = cc
line_fits (u ∷ h ∷ k ∷ f ∷ fs) x e = lined_fits u h k f fs (line_of k fs) x refl e

-- a shedding
flat_pairs : (ns : List ℕ) (n : ℕ) → length ns ≡ n + n → (ns ≡ flat (pairs ns)) × (length (pairs ns) ≡ n)
flat_pairs [] n e = (refl, omega arith)
flat_pairs (u ∷ []) n e = absurd (omega arith)
flat_pairs (u ∷ k ∷ ns) zero e = absurd (omega arith)
flat_pairs (u ∷ k ∷ ns) (suc n) e =
    let r = flat_pairs ns n (omega arith) in
    (ap (λ ms. u ∷ k ∷ ms) r.0, omega (arith, r.1))

shed_fits_by : (p k c z n : ℕ) (ns : List ℕ) (b : Bool) (x : Meant BuiltIn) → eqb (length ns % 2) 0 && eqb (length ns / 2) n ≡ b → cond b (Some (post (shed p k c z (pairs ns)))) None ≡ Some x → Fits word.Shed (p ∷ k ∷ c ∷ z ∷ n ∷ ns) x
shed_fits_by p k c z n ns false x e m = cc
shed_fits_by p k c z n ns true x e m =
    let even : length ns ≡ n + n = grind (arith, nat_tests) in
    let r = flat_pairs ns n even in
    subst (Fits word.Shed (p ∷ k ∷ c ∷ z ∷ n ∷ ns)) (some_is m)
    (record { first = refl; rest = ap (λ ms. p ∷ k ∷ c ∷ z ∷ n ∷ ms) r.0 ∙ ap (λ m. p ∷ k ∷ c ∷ z ∷ m ∷ flat (pairs ns)) (sym r.1) })

shed_fits : (ns : List ℕ) (x : Meant BuiltIn) → shed_of ns ≡ Some x → Fits word.Shed ns x
shed_fits [] x e = cc
shed_fits (p ∷ []) x e = cc
shed_fits (p ∷ k ∷ []) x e = cc
shed_fits (p ∷ k ∷ c ∷ []) x e = cc
shed_fits (p ∷ k ∷ c ∷ z ∷ []) x e = cc
shed_fits (p ∷ k ∷ c ∷ z ∷ n ∷ ns) x e = shed_fits_by p k c z n ns (eqb (length ns % 2) 0 && eqb (length ns / 2) n) x refl e

abbrev fits : {w : Word} {ns : List ℕ} {x : Meant BuiltIn} → name w ∷ [] ≡ front x → ns ≡ numbers x → Fits w ns x
fits a b = record { first = a; rest = b }

call_fits : (w : Word) (ns : List ℕ) (x : Meant BuiltIn) → call_of w ns ≡ Some x → Fits w ns x
call_fits word.Open ns x e = five_by _ (λ y ms. Fits word.Open ms y) (λ a b c d f. fits refl refl) ns x e
call_fits word.Company ns x e = one_by _ (λ y ms. Fits word.Company ms y) (λ a. fits refl refl) ns x e
call_fits word.Replace ns x e = two_by _ (λ y ms. Fits word.Replace ms y) (λ a b. fits refl refl) ns x e
call_fits word.Unit ns x e = three_by _ (λ y ms. Fits word.Unit ms y) (λ a b c. fits refl refl) ns x e
call_fits word.Performance ns x e = four_by _ (λ y ms. Fits word.Performance ms y) (λ a b c d. fits refl refl) ns x e
call_fits word.Line ns x e = line_fits ns x e
call_fits word.Installation ns x e = four_by _ (λ y ms. Fits word.Installation ms y) (λ a b c d. fits refl refl) ns x e
call_fits word.Meter ns x e = three_by _ (λ y ms. Fits word.Meter ms y) (λ a b c. fits refl refl) ns x e
call_fits word.Point ns x e = two_by _ (λ y ms. Fits word.Point ms y) (λ a b. fits refl refl) ns x e
call_fits word.Shed ns x e = shed_fits ns x e
call_fits word.Reopen ns x e = none_by _ (λ y ms. Fits word.Reopen ms y) (fits refl refl) ns x e
call_fits word.Confirm ns x e = none_by _ (λ y ms. Fits word.Confirm ms y) (fits refl refl) ns x e

-- a whole line
module _ (text : List ℕ) (x : Meant BuiltIn) where
  numbers_says : (f : List ℕ) (fs : List (List ℕ)) (w : Word) (o : Option (List ℕ)) → split 32 text ≡ f ∷ fs → f ≡ name w → numbers_of fs ≡ o → and_then o (call_of w) ≡ Some x → Says text x
  numbers_says f fs w None e i n h = cc
  numbers_says f fs w (Some ns) e i n h =
      let only = numbers_only fs ns n in
      let p = call_fits w ns x h in
      record {
        text = sym (rejoined_split 32 text) ∙ ap (join_with_byte 32) (e ∙ ap (λ g. g ∷ fs) i ∙ ap (λ gs. name w ∷ gs) only.0 ∙ ap (λ ms. name w ∷ map decimal ms) p.rest ∙ ap (λ gs. gs ++ map decimal (numbers x)) p.first);
        small = subst (AllByRecursion Small) p.rest only.1;
      }

  word_says : (f : List ℕ) (fs : List (List ℕ)) (o : Option Word) → split 32 text ≡ f ∷ fs → word_of f ≡ o → on_word o fs ≡ Some x → Says text x
  word_says f fs None e i h = cc
  word_says f fs (Some w) e i h = numbers_says f fs w (numbers_of fs) e (among_only words f w i) refl h

  by_word_says : by_word (split 32 text) ≡ Some x → Says text x
  by_word_says h =
      let p = first_piece 32 text in
      word_says p.0 p.1 (word_of p.0) p.2 refl (ap by_word (sym p.2) ∙ h)

  settle_says : (rule : BuiltIn) → text ≡ written (stage (Settle rule)) → ◌≡◌ {A = Option (Meant BuiltIn)} (Some (stage (Settle rule))) (Some x) → Says text x
  settle_says rule t h =
      let P : Meant BuiltIn → Type 0 = λ y. Says text y in
      subst P (some_is h) (record { text = t; small = tt })

  settled_says : (o : Option BuiltIn) → settled text ≡ o → said_by o text ≡ Some x → Says text x
  settled_says None e h = by_word_says h
  settled_says (Some rule) e h =
      cond_by (bytes_eq text (codes "settle running")) _ _ rule (Says text x)
      (λ t i. settle_says rule ((bytes_eq-Decides text (codes "settle running")).0 t ∙ ap (λ r. written (stage (Settle r))) (some_is i)) h)
      (cond_by (bytes_eq text (codes "settle largest")) _ _ rule (Says text x)
      (λ t i. settle_says rule ((bytes_eq-Decides text (codes "settle largest")).0 t ∙ ap (λ r. written (stage (Settle r))) (some_is i)) h)
      (λ i. cc))
      e

  pub said_only : said_of text ≡ Some x → Says text x
  said_only h = settled_says (settled text) refl h
