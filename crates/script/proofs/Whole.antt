-- The lines of a script, one after the other.
use Rattle.std.proofs.Common.{◌≡◌, ℕ, ◌+◌, ◌<◌, List, [], ◌∷◌, ◌++◌, length, Some, None, Ok, Err, Option, Result, sym, refl, ap, ◌∙◌, append_assoc, append-nil, arith, length-append, Bor}
use Rattle.std.specs.List.{join_with_byte}
use Rattle.std.specs.Option.{unwrap_or}
use Rattle.prorating.specs.declared.built_in.BuiltIn.{BuiltIn}
use Rattle.words.specs.Words.{split, following}
use Rattle.words.proofs.Pieces.{first_piece, rejoined_split}
use Rattle.month.specs.Meant.{Meant}
use Rattle.script.specs.declared.fault.Fault.{Fault}
use Rattle.script.specs.declared.fault.Fault.TheVariants.{NoCall}
use Rattle.script.specs.Lines.{said_of}
use Rattle.script.specs.Scripts.{whole_lines, lines_of, onto, on_line, calls_from}

-- the calls that are done, and then those to come
abbrev pub after : List (Meant BuiltIn) → Result (List (Meant BuiltIn)) Fault → Result (List (Meant BuiltIn)) Fault
after done (Ok xs) = Ok (done ++ xs)
after done (Err e) = Err e

after_one : (done : List (Meant BuiltIn)) (x : Meant BuiltIn) (r : Result (List (Meant BuiltIn)) Fault) → after done (onto x r) ≡ after (done ++ x ∷ []) r
after_one done x (Ok xs) = ap (λ l. Ok l) (sym (append_assoc done (x ∷ []) xs))
after_one done x (Err e) = refl

-- a line that is a call, and one that is none
line_good : (done : List (Meant BuiltIn)) (k : ℕ) (l : List ℕ) (ls : List (List ℕ)) (x : Meant BuiltIn) → said_of l ≡ Some x → after done (calls_from k (l ∷ ls)) ≡ after (done ++ x ∷ []) (calls_from (k + 1) ls)
line_good done k l ls x e = ap (λ o. after done (on_line k o (calls_from (k + 1) ls))) e ∙ after_one done x (calls_from (k + 1) ls)

pub line_bad : (done : List (Meant BuiltIn)) (k : ℕ) (l : List ℕ) (ls : List (List ℕ)) → said_of l ≡ None → after done (calls_from k (l ∷ ls)) ≡ Err (NoCall k)
line_bad done k l ls e = ap (λ o. after done (on_line k o (calls_from (k + 1) ls))) e

-- the text is its first line, and after a line end what follows
first_line : (s front more : List ℕ) → front ∷ split 10 more ≡ split 10 s → s ≡ front ++ 10 ∷ more
first_line s front more e =
    let p = first_piece 10 more in
    sym (rejoined_split 10 s)
    ∙ ap (join_with_byte 10) (sym e ∙ ap (λ ps. front ∷ ps) p.2)
    ∙ ap (λ t. front ++ 10 ∷ t) (ap (join_with_byte 10) (sym p.2) ∙ rejoined_split 10 more)

some_line : (front : List ℕ) → 0 < length front → whole_lines (front ∷ []) ≡ front ∷ []
some_line [] l = absurd (omega arith)
some_line (c ∷ front) l = refl

-- what follows a line end, and nothing where there is none
abbrev pub text_after : Option (Bor (List ℕ)) → List ℕ
text_after None = []
text_after (Some s) = s.now

pub after_end : (o : Option (Bor (List ℕ))) (r d : Bor (List ℕ)) → r ≡ unwrap_or o d → d.now ≡ [] → r.now ≡ text_after o
after_end None r d e n = ap (λ b. b.now) e ∙ n
after_end (Some s) r d e n = ap (λ b. b.now) e

-- where a text is cut at its first line end, the rest is shorter, and has the other lines
pub lines_turn : (s front : List ℕ) (o : Option (Bor (List ℕ))) → 0 < length s → front ∷ following 10 o ≡ split 10 s → (lines_of s ≡ front ∷ lines_of (text_after o)) × (length (text_after o) < length s)
lines_turn s front None l h =
    let is : s ≡ front = sym (rejoined_split 10 s) ∙ ap (join_with_byte 10) (sym h) in
    (ap whole_lines (sym h) ∙ some_line front (omega (arith, ap length is)), omega arith)
lines_turn s front (Some m) l h =
    let p = first_piece 10 m.now in
    let long = ap length (first_line s front m.now h) ∙ length-append front (10 ∷ m.now) in
    (ap whole_lines (sym h ∙ ap (λ ps. front ∷ ps) p.2) ∙ ap (λ ps. front ∷ whole_lines ps) (sym p.2), omega (arith, long))

-- a line more
pub script_turn : (whole : Result (List (Meant BuiltIn)) Fault) (done more : List (Meant BuiltIn)) (k next : ℕ) (text front tail rest : List ℕ) (x : Meant BuiltIn) → whole ≡ after done (calls_from k (lines_of text)) → lines_of text ≡ front ∷ lines_of tail → said_of front ≡ Some x → more ≡ done ++ x ∷ [] → next ≡ k + 1 → rest ≡ tail → whole ≡ after more (calls_from next (lines_of rest))
script_turn whole done more k next text front tail rest x w l e m n r =
    w
    ∙ ap (λ ls. after done (calls_from k ls)) l
    ∙ line_good done k front (lines_of tail) x e
    ∙ sym (ap (λ xs. after xs (calls_from next (lines_of rest))) m ∙ ap (λ j. after (done ++ x ∷ []) (calls_from j (lines_of rest))) n ∙ ap (λ t. after (done ++ x ∷ []) (calls_from (k + 1) (lines_of t))) r)

-- no line more
pub script_end : (whole : Result (List (Meant BuiltIn)) Fault) (done : List (Meant BuiltIn)) (k : ℕ) (text : List ℕ) → whole ≡ after done (calls_from k (lines_of text)) → length text ≡ 0 → whole ≡ Ok done
script_end whole done k [] w e = w ∙ ap (λ l. Ok l) (append-nil done)
script_end whole done k (c ∷ text) w e = absurd (omega arith)
