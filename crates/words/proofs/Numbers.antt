-- A field is read as the number that it writes.
use Rattle.std.proofs.Common.{◌≡◌, ℕ, zero, suc, ◌^◌, ◌<◌, ◌≤◌, Bool, true, false, cond, ◌&&◌, List, length, get_or, Some, None, decimal, sym, refl, ap, ◌∙◌, arith}
use Rattle.std.specs.Str.Iter.{LacksByte}
use Rattle.std.specs.Str.Parse.{digits_value}
use Rattle.std.specs.Int.{IsInRange}
use Rattle.std.specs.Str.{all_ascii_digits}
use Rattle.std.proofs.lemmas.Fmt.{decimal-digits_value, digits_value-decimal, digits_decimal, decimal_nonempty, length-decimal-le, first_decimal}
use Rattle.std.proofs.lemmas.Str.Parse.{digits_value_short, not_in_digits}
use Rattle.std.proofs.lemmas.Bool.Decides.{nat_tests}
use Rattle.words.specs.Words.{number_form, number_of}
use Rattle.words.proofs.Digits.{own, form_short, number_is}

number_by : (b : Bool) (v n : ℕ) → cond b (Some v) None ≡ Some n → (b ≡ true) × (v ≡ n)
number_by true v n e = (refl, cc)
number_by false v n e = absurd (let z : ◌≡◌ {A = ℕ} 0 1 = cc in omega arith)

form_parts : (f : List ℕ) → number_form f && all_ascii_digits f ≡ true → (number_form f ≡ true) × (all_ascii_digits f ≡ true) × (0 < length f) × (get_or f 0 0 ≡ 48 → length f ≡ 1)
form_parts f h = (grind (arith, nat_tests), grind (arith, nat_tests), grind (arith, nat_tests), λ e. grind (arith, nat_tests))

pub number_only : (f : List ℕ) (n : ℕ) → number_of f ≡ Some n → (f ≡ decimal n) × (n < 10 ^ 11)
number_only f n e =
    let p = number_by (number_form f && all_ascii_digits f) (digits_value 10 f) n e in
    let q = form_parts f p.0 in
    let small : digits_value 10 f < 10 ^ 11 = digits_value_short own f 11 q.1 (form_short f q.0) in
    (sym (decimal-digits_value own f q.1 q.2 q.3 (omega arith)) ∙ ap decimal p.1, omega (arith, p.1))

form_by : (f : List ℕ) → 0 < length f → length f ≤ 11 → (1 < length f → get_or f 0 0 ≡ 48 → ⊥) → number_form f ≡ true
form_by f a b l = grind (arith, nat_tests)

-- more than one digit has no zero in front
lead : (n : ℕ) → n < 10 ^ 11 → 1 < length (decimal n) → get_or (decimal n) 0 0 ≡ 48 → ⊥
lead zero h l e = omega (arith, length-decimal-le 1 0 (omega arith) (omega arith) (omega arith))
lead (suc n) h l e = omega (arith, first_decimal (suc n) (omega arith) (omega arith))

pub number_back : (n : ℕ) → n < 10 ^ 11 → number_of (decimal n) ≡ Some n
number_back n h =
    let small : n < 2 ^ 64 = omega arith in
    let form = form_by (decimal n) (decimal_nonempty n small) (length-decimal-le 11 n (omega arith) h small) (lead n h) in
    number_is (decimal n) form (digits_decimal own n small) ∙ ap (λ v. Some v) (digits_value-decimal own n small)

pub lacks_number : (b n : ℕ) → (IsInRange 48 57 b → ⊥) → n < 10 ^ 11 → LacksByte b (decimal n)
lacks_number b n out h = not_in_digits own (decimal n) b (digits_decimal own n (omega arith)) out
