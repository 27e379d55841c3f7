-- A script is read as the calls that it writes, and as nothing else.
use Rattle.std.proofs.Common.{◌≡◌, ℕ, ◌+◌, ◌<◌, Bool, true, ◌&&◌, ◌⊎◌, List, [], ◌∷◌, ◌++◌, map, length, Some, None, Ok, Err, decimal, Option, Result, sym, refl, ap, ◌∙◌, subst, inl, inr, append_assoc, append-nil, arith, length-append}
use Rattle.std.specs.List.{flat_map, join_with_byte, AllByRecursion}
use Rattle.std.specs.Str.Iter.{LacksByte}
use Rattle.std.proofs.ByRecursion.{All-append}
use Rattle.std.proofs.lemmas.List.{append_cancel_right}
use Rattle.std.proofs.lemmas.Bool.Decides.{nat_tests}
use Rattle.prorating.specs.declared.built_in.BuiltIn.{BuiltIn}
use Rattle.prorating.specs.declared.built_in.BuiltIn.TheVariants.{Running, Largest}
use Rattle.words.specs.Words.{split}
use Rattle.words.proofs.Pieces.{first_piece, split_first, split_rejoined, rejoined_split, lacks_rejoined}
use Rattle.month.specs.declared.calls.StageCall.TheVariants.{Open, Settle, Reopen, Confirm}
use Rattle.month.specs.Meant.{Meant, post, stage, company, replace, unit, performance, line, installation, meter, point, shed}
use Rattle.script.specs.declared.fault.Fault.{Fault}
use Rattle.script.specs.declared.fault.Fault.TheVariants.{Memory, NoCall}
use Rattle.script.specs.declared.reader.Script.{Script}
use Rattle.script.specs.Lines.{said_of}
use Rattle.script.specs.Texts.{front, numbers, written, Sound, SaysAll}
use Rattle.script.specs.Held.{held}
use Rattle.script.specs.Scripts.{whole_lines, lines_of, onto, on_line, calls_from, reading, Reads, Exact}
use Rattle.script.proofs.Only.{said_only}
use Rattle.script.proofs.Back.{free, free_lacks, numbers_lack, said_back}

ok_is : {x y : List (Meant BuiltIn)} → ◌≡◌ {A = Result (List (Meant BuiltIn)) Fault} (Ok x) (Ok y) → x ≡ y
ok_is h = cc

-- the calls of lines are those that the lines write
abbrev Lines : List (List ℕ) → List (Meant BuiltIn) → Type 0
Lines ls xs = (ls ≡ map written xs) × AllByRecursion Sound xs

module _ (k : ℕ) (l : List ℕ) (ls : List (List ℕ)) (xs : List (Meant BuiltIn)) where
  onto_only : (x : Meant BuiltIn) (r : Result (List (Meant BuiltIn)) Fault) → said_of l ≡ Some x → ((ys : List (Meant BuiltIn)) → r ≡ Ok ys → Lines ls ys) → onto x r ≡ Ok xs → Lines (l ∷ ls) xs
  onto_only x (Err e) s ih h = cc
  onto_only x (Ok ys) s ih h =
      let says = said_only l x s in
      let rest = ih ys refl in
      subst (Lines (l ∷ ls)) (ok_is h) (
        ap (λ m. m ∷ ls) says.text ∙ ap (λ ms. written x ∷ ms) rest.0,
        (record { text = refl; small = says.small }, rest.1),
      )

  line_only : (o : Option (Meant BuiltIn)) → said_of l ≡ o → ((ys : List (Meant BuiltIn)) → calls_from (k + 1) ls ≡ Ok ys → Lines ls ys) → on_line k o (calls_from (k + 1) ls) ≡ Ok xs → Lines (l ∷ ls) xs
  line_only None s ih h = cc
  line_only (Some x) s ih h = onto_only x (calls_from (k + 1) ls) s ih h

calls_only : (k : ℕ) (ls : List (List ℕ)) (xs : List (Meant BuiltIn)) → calls_from k ls ≡ Ok xs → Lines ls xs
calls_only k [] xs h = subst (Lines []) (ok_is h) (refl, tt)
calls_only k (l ∷ ls) xs h = line_only k l ls xs (said_of l) refl (λ ys. calls_only (k + 1) ls ys) h

sound_back : (x : Meant BuiltIn) → Sound x → said_of (written x) ≡ Some x
sound_back x s = said_back x s.small

calls_back : (k : ℕ) (xs : List (Meant BuiltIn)) → AllByRecursion Sound xs → calls_from k (map written xs) ≡ Ok xs
calls_back k [] all = refl
calls_back k (x ∷ xs) all =
    ap (λ o. on_line k o (calls_from (k + 1) (map written xs))) (sound_back x all.0) ∙ ap (onto x) (calls_back (k + 1) xs all.1)

-- the text of the pieces of a script, by whether a line end is last
abbrev ends : List (List ℕ) → List ℕ
ends ls = flat_map (λ l. l ++ 10 ∷ []) ls

pieces_text : (p : List ℕ) (ps : List (List ℕ)) → (join_with_byte 10 (p ∷ ps) ≡ ends (whole_lines (p ∷ ps))) ⊎ (join_with_byte 10 (p ∷ ps) ++ 10 ∷ [] ≡ ends (whole_lines (p ∷ ps)))
pieces_text [] [] = inl refl
pieces_text (c ∷ p) [] = inr (sym (append-nil ((c ∷ p) ++ 10 ∷ [])))
pieces_text p (q ∷ ps) = by (pieces_text q ps)
  where
    by : (join_with_byte 10 (q ∷ ps) ≡ ends (whole_lines (q ∷ ps))) ⊎ (join_with_byte 10 (q ∷ ps) ++ 10 ∷ [] ≡ ends (whole_lines (q ∷ ps))) → (join_with_byte 10 (p ∷ q ∷ ps) ≡ ends (whole_lines (p ∷ q ∷ ps))) ⊎ (join_with_byte 10 (p ∷ q ∷ ps) ++ 10 ∷ [] ≡ ends (whole_lines (p ∷ q ∷ ps)))
    by (inl e) = inl (ap (λ t. p ++ 10 ∷ t) e ∙ sym (append_assoc p (10 ∷ []) (ends (whole_lines (q ∷ ps)))))
    by (inr e) = inr (append_assoc p (10 ∷ join_with_byte 10 (q ∷ ps)) (10 ∷ []) ∙ ap (λ t. p ++ 10 ∷ t) e ∙ sym (append_assoc p (10 ∷ []) (ends (whole_lines (q ∷ ps)))))

lines_text : (bytes : List ℕ) → (bytes ≡ ends (lines_of bytes)) ⊎ (bytes ++ 10 ∷ [] ≡ ends (lines_of bytes))
lines_text bytes =
    let p = first_piece 10 bytes in
    let P : List (List ℕ) → Type 0 = λ ps. (join_with_byte 10 ps ≡ ends (whole_lines ps)) ⊎ (join_with_byte 10 ps ++ 10 ∷ [] ≡ ends (whole_lines ps)) in
    let Q : List ℕ → Type 0 = λ t. (t ≡ ends (lines_of bytes)) ⊎ (t ++ 10 ∷ [] ≡ ends (lines_of bytes)) in
    subst Q (rejoined_split 10 bytes) (subst P (sym p.2) (pieces_text p.0 p.1))

pub reading_only : (bytes : List ℕ) (xs : List (Meant BuiltIn)) → reading bytes ≡ Ok xs → SaysAll bytes xs
reading_only bytes xs h =
    let l = calls_only 1 (lines_of bytes) xs h in
    let Q : List (List ℕ) → Type 0 = λ ls. (bytes ≡ ends ls) ⊎ (bytes ++ 10 ∷ [] ≡ ends ls) in
    record { text = subst Q l.0 (lines_text bytes); sound = l.1 }

-- a written line has no line end in it, and is not empty
abbrev fields_free : ℕ → List (List ℕ) → Bool
fields_free b [] = true
fields_free b (f ∷ fs) = free b f && fields_free b fs

fields_lack : (b : ℕ) (fs : List (List ℕ)) → fields_free b fs ≡ true → AllByRecursion (LacksByte b) fs
fields_lack b [] e = tt
fields_lack b (f ∷ fs) e = (free_lacks b f (grind (arith, nat_tests)), fields_lack b fs (grind (arith, nat_tests)))

front_free : (x : Meant BuiltIn) → fields_free 10 (front x) ≡ true
front_free (post (company n)) = refl
front_free (post (replace o n)) = refl
front_free (post (unit n o z)) = refl
front_free (post (performance u f p)) = refl
front_free (post (line u h f l)) = refl
front_free (post (installation u f a m)) = refl
front_free (post (meter c w i)) = refl
front_free (post (point n s)) = refl
front_free (post (shed p k s z rs)) = refl
front_free (stage (Open t)) = refl
front_free (stage (Settle Running)) = refl
front_free (stage (Settle Largest)) = refl
front_free (stage Reopen) = refl
front_free (stage Confirm) = refl

abbrev LineText : List ℕ → Type 0
LineText l = LacksByte 10 l × (0 < length l)

some_text : (l : List ℕ) (x : Meant BuiltIn) → said_of l ≡ Some x → 0 < length l
some_text [] x h = cc
some_text (c ∷ l) x h = omega arith

written_text : (x : Meant BuiltIn) → Sound x → LineText (written x)
written_text x s = (
  lacks_rejoined 10 32 (front x ++ map decimal (numbers x)) (λ e. omega arith)
      (All-append (LacksByte 10) (front x) (map decimal (numbers x)) (fields_lack 10 (front x) (front_free x)) (numbers_lack 10 (λ i. omega arith) (numbers x) s.small)),
  some_text (written x) x (sound_back x s),
)

written_texts : (xs : List (Meant BuiltIn)) → AllByRecursion Sound xs → AllByRecursion LineText (map written xs)
written_texts [] all = tt
written_texts (x ∷ xs) all = (written_text x all.0, written_texts xs all.1)

-- the lines of a text of lines
whole_cons : (l s : List ℕ) → whole_lines (l ∷ split 10 s) ≡ l ∷ whole_lines (split 10 s)
whole_cons l s = let p = first_piece 10 s in ap (λ ps. whole_lines (l ∷ ps)) p.2 ∙ ap (λ ps. l ∷ whole_lines ps) (sym p.2)

ended_lines : (ls : List (List ℕ)) → AllByRecursion LineText ls → lines_of (ends ls) ≡ ls
ended_lines [] all = refl
ended_lines (l ∷ ls) all =
    ap lines_of (append_assoc l (10 ∷ []) (ends ls))
    ∙ ap whole_lines (split_first 10 l (ends ls) all.0.0)
    ∙ whole_cons l (ends ls)
    ∙ ap (λ ms. l ∷ ms) (ended_lines ls all.1)

whole_all : (ls : List (List ℕ)) → AllByRecursion LineText ls → whole_lines ls ≡ ls
whole_all [] all = refl
whole_all ([] ∷ []) all = absurd (omega (arith, all.0.1))
whole_all ((c ∷ l) ∷ []) all = refl
whole_all (l ∷ m ∷ ls) all = ap (λ ms. l ∷ ms) (whole_all (m ∷ ls) all.1)

all_lack : (ls : List (List ℕ)) → AllByRecursion LineText ls → AllByRecursion (LacksByte 10) ls
all_lack [] all = tt
all_lack (l ∷ ls) all = (all.0.0, all_lack ls all.1)

ends_last : (l : List ℕ) (ls : List (List ℕ)) → ends (l ∷ ls) ≡ join_with_byte 10 (l ∷ ls) ++ 10 ∷ []
ends_last l [] = append-nil (l ++ 10 ∷ [])
ends_last l (m ∷ ls) =
    append_assoc l (10 ∷ []) (ends (m ∷ ls))
    ∙ ap (λ t. l ++ 10 ∷ t) (ends_last m ls)
    ∙ sym (append_assoc l (10 ∷ join_with_byte 10 (m ∷ ls)) (10 ∷ []))

open_lines : (bytes : List ℕ) (ls : List (List ℕ)) → AllByRecursion LineText ls → bytes ++ 10 ∷ [] ≡ ends ls → lines_of bytes ≡ ls
open_lines bytes [] all e = absurd (omega (arith, sym (length-append bytes (10 ∷ [])) ∙ ap length e))
open_lines bytes (l ∷ ls) all e =
    ap lines_of (append_cancel_right bytes (join_with_byte 10 (l ∷ ls)) (10 ∷ []) (e ∙ ends_last l ls))
    ∙ ap whole_lines (split_rejoined 10 l ls (all_lack (l ∷ ls) all))
    ∙ whole_all (l ∷ ls) all

lines_by : (bytes : List ℕ) (ls : List (List ℕ)) → AllByRecursion LineText ls → (bytes ≡ ends ls) ⊎ (bytes ++ 10 ∷ [] ≡ ends ls) → lines_of bytes ≡ ls
lines_by bytes ls all (inl e) = ap lines_of e ∙ ended_lines ls all
lines_by bytes ls all (inr e) = open_lines bytes ls all e

pub reading_back : (bytes : List ℕ) (xs : List (Meant BuiltIn)) → SaysAll bytes xs → reading bytes ≡ Ok xs
reading_back bytes xs says =
    ap (calls_from 1) (lines_by bytes (map written xs) (written_texts xs says.sound) says.text) ∙ calls_back 1 xs says.sound

pub script_exact : (bytes : List ℕ) (r : Result Script Fault) → Reads bytes r → Exact bytes r
script_exact bytes (Ok s) h = (reading_only bytes (held s) h, λ xs says. ok_is (sym (reading_back bytes xs says) ∙ h))
script_exact bytes (Err (NoCall k)) h = λ xs says. let same = sym h ∙ reading_back bytes xs says in cc
script_exact bytes (Err Memory) h = tt
