-- The pieces of a text.
use Rattle.std.proofs.Common.{◌≡◌, ℕ, zero, suc, ◌+◌, ◌<◌, ◌≤◌, ltb, Bool, true, false, cond, eqb, List, [], ◌∷◌, ◌++◌, length, get_or, take, drop, Some, None, sym, refl, ap, ◌∙◌, add-one, arith, eq-eqb, ne_eqb, eqb-true}
use borrow.Author.Tests.{clash}
use Rattle.std.specs.Str.Iter.{LacksByte}
use Rattle.std.specs.List.{join_with_byte, AllByRecursion, position, position_or_len, slice_split, onto_first}
use Rattle.std.proofs.lemmas.List.Quantifiers.{position-Some}
use Rattle.std.proofs.lemmas.List.Sums.{fails_before_first}
use Rattle.std.proofs.lemmas.Bool.Decides.{nat_tests}
use Rattle.std.proofs.lemmas.Option.{none-some}
use Rattle.words.specs.Words.{onto, split}

-- the first piece ends before the first mark
pub split_at : (mark : ℕ) (s : List ℕ) (i : ℕ) → i < length s → get_or s i 0 ≡ mark → ((k : ℕ) → k < i → get_or s k 0 ≡ mark → ⊥) → split mark s ≡ take i s ∷ split mark (drop (i + 1) s)
split_at mark [] i l e before = absurd (omega arith)
split_at mark (c ∷ s) zero l e before = let t = eq-eqb c mark e in rw t
split_at mark (c ∷ s) (suc i) l e before =
    let h = split_at mark s i (omega arith) e (λ k lt. before (suc k) (omega arith)) in
    let n : eqb c mark ≡ false = ne_eqb c mark (before 0 (omega arith)) in
    let k = rw add-one at h in
    rw (n, add-one, k)

-- a text with no mark is one piece
pub split_none : (mark : ℕ) (s : List ℕ) → LacksByte mark s → split mark s ≡ s ∷ []
split_none mark [] free = refl
split_none mark (c ∷ s) free =
    let h = split_none mark s (λ k lt. free (suc k) (omega arith)) in
    let n : eqb c mark ≡ false = ne_eqb c mark (free 0 (omega arith)) in
    rw (n, h)

-- the same by what `position` answers
pub split_at_position : (mark : ℕ) (s : List ℕ) (i : ℕ) → position (λ b. eqb b mark) s ≡ Some i → split mark s ≡ take i s ∷ split mark (drop (i + 1) s)
split_at_position mark s i e =
    let first = position-Some (λ b. eqb b mark) s i 0 e in
    split_at mark s i first.0 (eqb-true _ mark first.1) (λ k lt is. clash (sym (first.2 k lt) ∙ eq-eqb (get_or s k 0) mark is))

-- a byte that stands in the text has a place below its length
no_cond : (b : Bool) (n : ℕ) → cond b (Some n) None ≡ None → b ≡ false
no_cond true n e = absurd (none-some n (sym e))
no_cond false n e = refl

no_place : (mark : ℕ) (s : List ℕ) → ltb (position_or_len (λ b. eqb b mark) s) (length s) ≡ false → LacksByte mark s
no_place mark s e k lt is =
    let past : length s ≤ position_or_len (λ b. eqb b mark) s = grind (arith, nat_tests) in
    clash (sym (fails_before_first (λ b. eqb b mark) s k 0 (omega arith)) ∙ eq-eqb (get_or s k 0) mark is)

pub split_no_position : (mark : ℕ) (s : List ℕ) → position (λ b. eqb b mark) s ≡ None → split mark s ≡ s ∷ []
split_no_position mark s e = split_none mark s (λ k lt is. no_place mark s (no_cond _ _ e) k lt is)

-- there is always a first piece
pub first_piece : (mark : ℕ) (s : List ℕ) → (f : List ℕ) × (fs : List (List ℕ)) × (split mark s ≡ f ∷ fs)
first_piece mark [] = ([], [], refl)
first_piece mark (c ∷ s) = by (eqb c mark) (split mark s)
  where
    by : (b : Bool) (ps : List (List ℕ)) → (f : List ℕ) × (fs : List (List ℕ)) × (cond b ([] ∷ ps) (onto c ps) ≡ f ∷ fs)
    by true ps = ([], ps, refl)
    by false [] = (c ∷ [], [], refl)
    by false (p ∷ ps) = (c ∷ p, ps, refl)

-- the same of a text that is put together
pub split_first : (mark : ℕ) (f s : List ℕ) → LacksByte mark f → split mark (f ++ mark ∷ s) ≡ f ∷ split mark s
split_first mark [] s free = let t = eq-eqb mark mark refl in rw t
split_first mark (c ∷ f) s free =
    let h = split_first mark f s (λ k lt. free (suc k) (omega arith)) in
    let n : eqb c mark ≡ false = ne_eqb c mark (free 0 (omega arith)) in
    rw (n, h)

pub lacks_cons : (b c : ℕ) (s : List ℕ) → (c ≡ b → ⊥) → LacksByte b s → LacksByte b (c ∷ s)
lacks_cons b c s ne free zero l e = ne e
lacks_cons b c s ne free (suc k) l e = free k (omega arith) e

pub lacks_append : (b : ℕ) (f s : List ℕ) → LacksByte b f → LacksByte b s → LacksByte b (f ++ s)
lacks_append b [] s hf hs = hs
lacks_append b (c ∷ f) s hf hs = lacks_cons b c (f ++ s) (hf 0 (omega arith)) (lacks_append b f s (λ k lt. hf (suc k) (omega arith)) hs)

-- the pieces with the mark between each two are the text
pub rejoined_split : (mark : ℕ) (s : List ℕ) → join_with_byte mark (split mark s) ≡ s
rejoined_split mark [] = refl
rejoined_split mark (c ∷ s) =
    let p = first_piece mark s in
    ap (λ ps. join_with_byte mark (cond (eqb c mark) ([] ∷ ps) (onto c ps))) p.2
    ∙ by (eqb c mark) p.0 p.1 refl
    ∙ ap (λ t. c ∷ t) (ap (join_with_byte mark) (sym p.2) ∙ rejoined_split mark s)
  where
    by : (b : Bool) (f : List ℕ) (fs : List (List ℕ)) → eqb c mark ≡ b → join_with_byte mark (cond b ([] ∷ f ∷ fs) ((c ∷ f) ∷ fs)) ≡ c ∷ join_with_byte mark (f ∷ fs)
    by true f fs e = ap (λ m. m ∷ join_with_byte mark (f ∷ fs)) (sym (eqb-true c mark e))
    by false f [] e = refl
    by false f (g ∷ fs) e = refl

-- pieces that lack the mark are those of the text that they are put together to
pub split_rejoined : (mark : ℕ) (f : List ℕ) (fs : List (List ℕ)) → AllByRecursion (LacksByte mark) (f ∷ fs) → split mark (join_with_byte mark (f ∷ fs)) ≡ f ∷ fs
split_rejoined mark f [] free = split_none mark f free.0
split_rejoined mark f (g ∷ fs) free =
    split_first mark f (join_with_byte mark (g ∷ fs)) free.0 ∙ ap (λ ps. f ∷ ps) (split_rejoined mark g fs free.1)

pub lacks_rejoined : (b mark : ℕ) (fs : List (List ℕ)) → (mark ≡ b → ⊥) → AllByRecursion (LacksByte b) fs → LacksByte b (join_with_byte mark fs)
lacks_rejoined b mark [] ne free = λ k l e. omega arith
lacks_rejoined b mark (f ∷ []) ne free = free.0
lacks_rejoined b mark (f ∷ g ∷ fs) ne free =
    lacks_append b f (mark ∷ join_with_byte mark (g ∷ fs)) free.0 (lacks_cons b mark (join_with_byte mark (g ∷ fs)) ne (lacks_rejoined b mark (g ∷ fs) ne free.1))

-- std's parts of a slice that is cut at each mark
onto_is : (c : ℕ) (ps : List (List ℕ)) → onto_first c ps ≡ onto c ps
onto_is c [] = refl
onto_is c (p ∷ ps) = refl

pub parts_are_pieces : (mark : ℕ) (s : List ℕ) → slice_split (λ b. eqb b mark) s ≡ split mark s
parts_are_pieces mark [] = refl
parts_are_pieces mark (c ∷ s) =
    ap (λ ps. cond (eqb c mark) ([] ∷ ps) (onto_first c ps)) (parts_are_pieces mark s)
    ∙ ap (cond (eqb c mark) ([] ∷ split mark s)) (onto_is c (split mark s))
