-- The digits of a number.
use Rattle.std.proofs.Common.{◌≡◌, ℕ, zero, suc, ◌+◌, ◌-◌, ◌*◌, ◌<◌, ◌≤◌, Bool, true, false, cond, ◌&&◌, List, [], ◌∷◌, ◌++◌, length, get_or, map, Some, None, Option, Bor, sym, refl, ap, ◌∙◌, subst, arith}
use Rattle.std.specs.Str.Parse.{digits_value, AllDigits}
use Rattle.std.specs.Char.{is_ascii_digit, digit_value as digitValue}
use Rattle.std.specs.Str.{all_ascii_digits}
use Rattle.std.specs.Option.{MatchOption}
use Rattle.std.specs.Iterator.{YieldsThen}
use Rattle.std.proofs.lemmas.Iterator.{YieldsList}
use Rattle.std.proofs.lemmas.Iterator.Consumers.{YieldsList-turn, YieldsList-end}
use Rattle.std.proofs.lemmas.Int.Digits.{digits_value_push, digits_push}
use Rattle.std.proofs.lemmas.List.{map-append, get_or_default}
use Rattle.std.proofs.lemmas.Option.{none-some}
use Rattle.std.proofs.lemmas.Str.Parse.{IsNumeralModel, numerals_by_value, tells_all_ascii_digits}
use Rattle.std.proofs.lemmas.Bool.Decides.{nat_tests}
use Rattle.words.specs.Words.{number_form, number_of}

pub own : IsNumeralModel (λ ds. all_ascii_digits ds ≡ true) (digits_value 10)
own = numerals_by_value _ tells_all_ascii_digits

pub form_short : (f : List ℕ) → number_form f ≡ true → length f ≤ 11
form_short f h = grind (arith, nat_tests)

pub form_some : (f : List ℕ) → number_form f ≡ true → 0 < length f
form_some f h = grind (arith, nat_tests)

-- a field of the form of a number, by whether all its bytes are digits
pub number_is : (f : List ℕ) → number_form f ≡ true → all_ascii_digits f ≡ true → number_of f ≡ Some (digits_value 10 f)
number_is f h d = rw (h, d)

pub number_none : (f : List ℕ) → number_form f ≡ true → all_ascii_digits f ≡ false → number_of f ≡ None
number_none f h d = rw (h, d)

-- the bytes are digits, and n is their value
abbrev pub Reads : List ℕ → ℕ → Type 0
Reads bs n = AllDigits 10 bs × (n ≡ digits_value 10 bs)

digit_by : (b : Bool) (v m : ℕ) → cond b (Some v) None ≡ Some m → (b ≡ true) × (v ≡ m)
digit_by true v m e = (refl, cc)
digit_by false v m e = absurd (let z : ◌≡◌ {A = ℕ} 0 1 = cc in omega arith)

-- one byte more
pub reads_more : (bs : List ℕ) (c n m : ℕ) → Reads bs n → cond (is_ascii_digit c) (Some (n * 10 + (c - 48))) None ≡ Some m → Reads (bs ++ c ∷ []) m
reads_more bs c n m h e =
    let d = digit_by (is_ascii_digit c) (n * 10 + (c - 48)) m e in
    let v : digitValue c ≡ c - 48 = grind (arith, nat_tests) in
    let low : digitValue c < 10 = grind (arith, nat_tests) in
    let push = digits_value_push 10 bs c in
    (digits_push 10 bs c h.0 low, omega (arith, h.1, d.1))

-- the same of bytes that are lent
pub lent_more : (xs : List (Bor ℕ)) (x : Bor ℕ) (n m : ℕ) → Reads (map (λ y. y.now) xs) n → cond (is_ascii_digit x.now) (Some (n * 10 + (x.now - 48))) None ≡ Some m → Reads (map (λ y. y.now) (xs ++ x ∷ [])) m
lent_more xs x n m h e = subst (λ bs. Reads bs m) (sym (map-append (λ y. y.now) xs (x ∷ []))) (reads_more (map (λ y. y.now) xs) x.now n m h e)

-- a byte at which it stops is no digit
pub not_digit : (b : Bool) (v : ℕ) → cond b (Some v) None ≡ None → b ≡ false
not_digit true v e = absurd (none-some v (sym e))
not_digit false v e = refl

pub not_all : (xs : List ℕ) (i : ℕ) → i < length xs → is_ascii_digit (get_or xs i 0) ≡ false → all_ascii_digits xs ≡ false
not_all [] i l h = absurd (omega arith)
not_all (x ∷ xs) zero l h = rw h
not_all (x ∷ xs) (suc i) l h = let k = not_all xs i (omega arith) h in by (is_ascii_digit x) k
  where
    by : (b : Bool) → all_ascii_digits xs ≡ false → b && all_ascii_digits xs ≡ false
    by true k = k
    by false k = refl

-- what is known of each case of an option gives another
pub map_match : {A P Q : Type 0} {V W : A → Type 0} (o : Option A) → MatchOption o P V → (P → Q) → ((x : A) → V x → W x) → MatchOption o Q W
map_match None m f g = f m
map_match (Some x) m f g = g x m

-- the bytes so far are digits: where they are all, the field writes their value, and where the next is no digit, no number
module _ {S : Type 0} (steps : S → Option (Bor ℕ) → S → Type 0) {s : S} {field : List ℕ} (road : YieldsList steps (λ y. y.now) s field) (form : number_form field ≡ true) (xs : List (Bor ℕ)) {a : ℕ} (h : Reads (map (λ y. y.now) xs) a) {u : S} (r : Option ℕ) where
  pub ended : (o : Option (Bor ℕ)) → YieldsThen steps s xs o u → MatchOption o (r ≡ Some a) (λ x. (r ≡ None) × (is_ascii_digit x.now ≡ false)) → r ≡ number_of field
  ended None y m =
      let all = YieldsList-end road xs y.0 y.1 None u refl y.2 in
      let whole : Reads field a = subst (λ bs. Reads bs a) all.0 h in
      m ∙ ap (λ v. Some v) whole.1 ∙ sym (number_is field form (own.from field whole.0))
  ended (Some x) y m =
      let turn = YieldsList-turn road xs y.0 y.1 (Some x) u x refl y.2 in
      let bad : is_ascii_digit (get_or field (length xs) 0) ≡ false = ap is_ascii_digit (sym (turn.1 ∙ get_or_default field (length xs) x.now 0 turn.0)) ∙ m.1 in
      m.0 ∙ sym (number_none field form (not_all field (length xs) turn.0 bad))
