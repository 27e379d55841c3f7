-- The turns of the reader's loops.
use Rattle.std.proofs.Common.{◌≡◌, ℕ, suc, ◌+◌, ◌<◌, List, [], ◌∷◌, ◌++◌, length, drop, drop-cons, get_or, add-one, Some, None, Option, sym, refl, ap, ◌∙◌, append_assoc}
use Rattle.std.specs.Option.{option_map}
use Rattle.words.specs.Words.{number_of}
use Rattle.script.specs.Lines.{and_then, numbers_of}

-- the numbers that are done, and then those to come
abbrev pub after : List ℕ → Option (List ℕ) → Option (List ℕ)
after done o = option_map (λ ns. done ++ ns) o

after_one : (done : List ℕ) (n : ℕ) (o : Option (List ℕ)) → after done (option_map (λ ns. n ∷ ns) o) ≡ after (done ++ n ∷ []) o
after_one done n None = refl
after_one done n (Some ns) = ap (λ l. Some l) (sym (append_assoc done (n ∷ []) ns))

pub number_turn : (done f : List ℕ) (fs : List (List ℕ)) (n : ℕ) → number_of f ≡ Some n → after done (numbers_of (f ∷ fs)) ≡ after (done ++ n ∷ []) (numbers_of fs)
number_turn done f fs n e = ap (λ o. after done (and_then o (λ m. option_map (λ ns. m ∷ ns) (numbers_of fs)))) e ∙ after_one done n (numbers_of fs)

pub after_none : (o : Option (List ℕ)) → after [] o ≡ o
after_none None = refl
after_none (Some ns) = refl

pub number_bad : (done f : List ℕ) (fs : List (List ℕ)) → number_of f ≡ None → after done (numbers_of (f ∷ fs)) ≡ None
number_bad done f fs e = ap (λ o. after done (and_then o (λ m. option_map (λ ns. m ∷ ns) (numbers_of fs)))) e

-- what is left of a list from its n-th element on
pub from_place : (all : List (List ℕ)) (n : ℕ) (f : List ℕ) → n < length all → f ≡ get_or all n f → drop n all ≡ f ∷ drop (n + 1) all
from_place all n f l g = rw (add-one, drop-cons all n f l) (ap (λ x. x ∷ drop (suc n) all) (sym g))
