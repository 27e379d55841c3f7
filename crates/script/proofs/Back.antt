-- What a line writes is read of it.
use Rattle.std.proofs.Common.{◌≡◌, ℕ, ◌+◌, ◌/◌, ◌%◌, ◌^◌, ◌<◌, Bool, true, cond, not, ◌&&◌, eqb, List, [], ◌∷◌, map, length, Some, None, decimal, Option, sym, refl, ap, ◌∙◌, subst, arith}
use Rattle.std.specs.Option.{option_map}
use Rattle.std.specs.Str.Iter.{LacksByte}
use Rattle.std.specs.List.{join_with_byte, AllByRecursion}
use Rattle.std.specs.Int.{IsInRange}
use Rattle.std.proofs.lemmas.Bool.Decides.{nat_tests}
use Rattle.payers.specs.declared.readings.Reading.{Reading}
use Rattle.prorating.specs.declared.built_in.BuiltIn.{BuiltIn}
use Rattle.prorating.specs.declared.built_in.BuiltIn.TheVariants.{Running, Largest}
use Rattle.worth.specs.Lines.{kind}
use Rattle.worth.specs.declared.line.Line as hourly
use Rattle.worth.specs.declared.line.Line.TheVariants.{UpwardAvailability, UpwardActivation, Downward, OverCost, Opportunity, ExtraFuel, ExtraResource, ExtraWithdrawal}
use Rattle.words.proofs.Numbers.{number_back, lacks_number}
use Rattle.words.proofs.Pieces.{split_rejoined, lacks_cons}
use Rattle.month.specs.declared.calls.StageCall.TheVariants.{Open, Settle, Reopen, Confirm}
use Rattle.month.specs.Meant.{Meant, post, stage, company, replace, unit, performance, line, installation, meter, point, shed}
use Rattle.script.specs.declared.word.Word.{Word}
use Rattle.script.specs.declared.word.Word.TheVariants as word
use Rattle.script.specs.Words.{name, word_of}
use Rattle.script.specs.Lines.{and_then, numbers_of, line_of, call_of, pairs, settled, on_word, by_word, said_by, said_of}
use Rattle.script.specs.Texts.{figures, flat, numbers, written, Exactly}
use Rattle.script.proofs.Only.{said_only}

abbrev Small : ℕ → Type 0
Small n = n < 10 ^ 11

-- a word
pub word_back : (w : Word) → word_of (name w) ≡ Some w
word_back word.Open = refl
word_back word.Company = refl
word_back word.Replace = refl
word_back word.Unit = refl
word_back word.Performance = refl
word_back word.Line = refl
word_back word.Installation = refl
word_back word.Meter = refl
word_back word.Point = refl
word_back word.Shed = refl
word_back word.Reopen = refl
word_back word.Confirm = refl

-- each byte of s differs from b
abbrev pub free : ℕ → List ℕ → Bool
free b [] = true
free b (c ∷ s) = not (eqb c b) && free b s

pub free_lacks : (b : ℕ) (s : List ℕ) → free b s ≡ true → LacksByte b s
free_lacks b [] e = λ k l h. omega arith
free_lacks b (c ∷ s) e = lacks_cons b c s (grind (arith, nat_tests)) (free_lacks b s (grind (arith, nat_tests)))

name_free : (w : Word) → free 32 (name w) ≡ true
name_free word.Open = refl
name_free word.Company = refl
name_free word.Replace = refl
name_free word.Unit = refl
name_free word.Performance = refl
name_free word.Line = refl
name_free word.Installation = refl
name_free word.Meter = refl
name_free word.Point = refl
name_free word.Shed = refl
name_free word.Reopen = refl
name_free word.Confirm = refl

-- numbers
pub numbers_back : (ns : List ℕ) → AllByRecursion Small ns → numbers_of (map decimal ns) ≡ Some ns
numbers_back [] all = refl
numbers_back (n ∷ ns) all =
    let a = number_back n all.0 in
    let b = numbers_back ns all.1 in
    rw (a, b)

pub numbers_lack : (b : ℕ) → (IsInRange 48 57 b → ⊥) → (ns : List ℕ) → AllByRecursion Small ns → AllByRecursion (LacksByte b) (map decimal ns)
numbers_lack b out [] all = tt
numbers_lack b out (n ∷ ns) all = (lacks_number b n out all.0, numbers_lack b out ns all.1)

-- an hourly line
line_back : (l : hourly.Line) → line_of (kind l) (figures l) ≡ Some l
line_back (UpwardAvailability v r) = refl
line_back (UpwardActivation m e) = refl
line_back (Downward v r s) = refl
line_back (OverCost v m e) = refl
line_back (Opportunity v m f e) = refl
line_back (ExtraFuel p d f e) = refl
line_back (ExtraResource p d f e) = refl
line_back (ExtraWithdrawal m w o) = refl

-- a shedding
pairs_flat : (rs : List Reading) → (pairs (flat rs) ≡ rs) × (length (flat rs) ≡ length rs + length rs)
pairs_flat [] = (refl, refl)
pairs_flat (r ∷ rs) = let p = pairs_flat rs in (ap (λ qs. r ∷ qs) p.0, omega (arith, p.1))

shed_count : (m n : ℕ) → m ≡ n + n → eqb (m % 2) 0 && eqb (m / 2) n ≡ true
shed_count m n e = grind (arith, nat_tests)

-- a line of a word and the numbers of a call
line_of_word : (w : Word) (x : Meant BuiltIn) → AllByRecursion Small (numbers x) → settled (join_with_byte 32 (name w ∷ map decimal (numbers x))) ≡ None → call_of w (numbers x) ≡ Some x → said_of (join_with_byte 32 (name w ∷ map decimal (numbers x))) ≡ Some x
line_of_word w x all u t =
    ap (λ o. said_by o (join_with_byte 32 (name w ∷ map decimal (numbers x)))) u
    ∙ ap by_word (split_rejoined 32 (name w) (map decimal (numbers x)) (free_lacks 32 (name w) (name_free w), numbers_lack 32 (λ i. omega arith) (numbers x) all))
    ∙ ap (λ o. on_word o (map decimal (numbers x))) (word_back w)
    ∙ ap (λ o. and_then o (call_of w)) (numbers_back (numbers x) all)
    ∙ t

pub said_back : (x : Meant BuiltIn) → AllByRecursion Small (numbers x) → said_of (written x) ≡ Some x
said_back (post (company n)) all = line_of_word word.Company (post (company n)) all refl refl
said_back (post (replace o n)) all = line_of_word word.Replace (post (replace o n)) all refl refl
said_back (post (unit n o z)) all = line_of_word word.Unit (post (unit n o z)) all refl refl
said_back (post (performance u f p)) all = line_of_word word.Performance (post (performance u f p)) all refl refl
said_back (post (line u h f l)) all = line_of_word word.Line (post (line u h f l)) all refl (ap (option_map (λ m. post (line u h f m))) (line_back l))
said_back (post (installation u f a m)) all = line_of_word word.Installation (post (installation u f a m)) all refl refl
said_back (post (meter c w i)) all = line_of_word word.Meter (post (meter c w i)) all refl refl
said_back (post (point n s)) all = line_of_word word.Point (post (point n s)) all refl refl
said_back (post (shed p k s z rs)) all =
    let back = pairs_flat rs in
    let count = shed_count (length (flat rs)) (length rs) back.1 in
    line_of_word word.Shed (post (shed p k s z rs)) all refl
    (ap (λ b. cond b (Some (post (shed p k s z (pairs (flat rs))))) None) count ∙ ap (λ qs. Some (post (shed p k s z qs))) back.0)
said_back (stage (Open t)) all = line_of_word word.Open (stage (Open t)) all refl refl
said_back (stage (Settle Running)) all = refl
said_back (stage (Settle Largest)) all = refl
said_back (stage Reopen) all = line_of_word word.Reopen (stage Reopen) all refl refl
said_back (stage Confirm) all = line_of_word word.Confirm (stage Confirm) all refl refl

-- a line is read as what it writes, and as nothing else
pub exactly : (text : List ℕ) → Exactly text (said_of text)
exactly text x = (λ h. said_only text x h, λ says. ap said_of says.text ∙ said_back x says.small)

pub exactly_said : (text : List ℕ) (m : Option (Meant BuiltIn)) → m ≡ said_of text → Exactly text m
exactly_said text m e = subst (Exactly text) (sym e) (exactly text)
