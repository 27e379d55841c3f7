-- An input is read as what it writes, and as nothing else.
use Rattle.std.proofs.Common.{◌≡◌, ℕ, ◌≤◌, Bool, true, false, cond, ◌⊎◌, List, [], ◌∷◌, ◌++◌, map, length, Some, None, Ok, Err, decimal, Option, Result, sym, refl, ap, ◌∙◌, subst, inl, inr, append_assoc, arith}
use borrow.Author.Tests.{clash}
use Rattle.std.specs.Option.{ok_or}
use Rattle.std.specs.List.{join_with_byte}
use Rattle.prorate_input.specs.declared.faults.Fault.{Fault}
use Rattle.prorate_input.specs.declared.faults.Fault.TheVariants.{BadPot, BytesAfterEnd}
use Rattle.words.specs.Words.{number_of, split}
use Rattle.prorate_input.specs.Reading.{and_then, weights_from, at_end, second_line, first_line, reading}
use Rattle.prorate_input.specs.Texts.{written, Says, Exactly, Limited}
use Rattle.words.proofs.Pieces.{split_none, split_first, first_piece, rejoined_split}
use Rattle.prorate_input.proofs.Fields.{err_ok, weights_only, weights_back, split_line, lacks_line}
use Rattle.words.proofs.Numbers.{number_only, number_back, lacks_number}

-- what is read is what the bytes write

-- the lines after the second are none, or the empty one
at_end_only : (lines : List (List ℕ)) → at_end lines ≡ true → (lines ≡ []) ⊎ (lines ≡ [] ∷ [])
at_end_only [] e = inl refl
at_end_only ([] ∷ []) e = inr refl
at_end_only ([] ∷ l ∷ lines) e = absurd (clash e)
at_end_only ((c ∷ cs) ∷ lines) e = absurd (clash e)

-- some weights, since a line has a first field
some_weights : (line : List ℕ) (ws : List ℕ) → split 32 line ≡ map decimal ws → 1 ≤ length ws
some_weights line [] e =
    let p = first_piece 32 line in
    let d : ◌≡◌ {A = List (List ℕ)} [] (p.0 ∷ p.1) = sym e ∙ p.2 in
    absurd (let z : ◌≡◌ {A = ℕ} 0 1 = cc in omega arith)
some_weights line (w ∷ ws) e = omega arith

text_by : (bytes first line : List ℕ) (lines : List (List ℕ)) (pot : ℕ) (ws : List ℕ) → bytes ≡ join_with_byte 10 (first ∷ line ∷ lines) → first ≡ decimal pot → line ≡ join_with_byte 32 (map decimal ws) → (lines ≡ []) ⊎ (lines ≡ [] ∷ []) → (bytes ≡ written pot ws) ⊎ (bytes ≡ written pot ws ++ 10 ∷ [])
text_by bytes first line lines pot ws b f l (inl e) =
    inl (b ∙ ap (λ ls. join_with_byte 10 (first ∷ line ∷ ls)) e ∙ ap (λ t. t ++ 10 ∷ line) f ∙ ap (λ t. decimal pot ++ 10 ∷ t) l)
text_by bytes first line lines pot ws b f l (inr e) =
    inr (b ∙ ap (λ ls. join_with_byte 10 (first ∷ line ∷ ls)) e ∙ ap (λ t. t ++ 10 ∷ (line ++ 10 ∷ [])) f ∙ ap (λ t. decimal pot ++ 10 ∷ (t ++ 10 ∷ [])) l
    ∙ sym (append_assoc (decimal pot) (10 ∷ join_with_byte 32 (map decimal ws)) (10 ∷ [])))

end_only : (bytes first line : List ℕ) (lines : List (List ℕ)) (pot : ℕ) (ws : List ℕ) → bytes ≡ join_with_byte 10 (first ∷ line ∷ lines) → number_of first ≡ Some pot → weights_from 1 (split 32 line) ≡ Ok ws → at_end lines ≡ true → Says bytes pot ws
end_only bytes first line lines pot ws b f l e =
    let p = number_only first pot f in
    let w = weights_only 1 (split 32 line) ws (omega arith) l in
    record {
      text = text_by bytes first line lines pot ws b p.0 (sym (rejoined_split 32 line) ∙ ap (join_with_byte 32) w.0) (at_end_only lines e);
      within = record { pot_fits = p.1; weights_fit = w.1; some = some_weights line ws w.0; few = omega (arith, w.2) };
    }

module _ (bytes : List ℕ) (q : ℕ × List ℕ) where
  line_only : (first line : List ℕ) (lines : List (List ℕ)) (pot : ℕ) → bytes ≡ join_with_byte 10 (first ∷ line ∷ lines) → number_of first ≡ Some pot → (m : Result (List ℕ) Fault) (b : Bool) → weights_from 1 (split 32 line) ≡ m → at_end lines ≡ b → and_then (and_then m (λ ws. Ok (pot, ws))) (λ all. cond b (Ok all) (Err BytesAfterEnd)) ≡ Ok q → Says bytes q.0 q.1
  line_only first line lines pot t f (Err e) b w l h = absurd (err_ok h)
  line_only first line lines pot t f (Ok ws) false w l h = absurd (err_ok h)
  line_only first line lines pot t f (Ok ws) true w l h =
      let is : (pot, ws) ≡ q = cc in
      subst (λ a. Says bytes a.0 a.1) is (end_only bytes first line lines pot ws t f w l)

  second_only : (first : List ℕ) (lines : List (List ℕ)) (pot : ℕ) → bytes ≡ join_with_byte 10 (first ∷ lines) → number_of first ≡ Some pot → second_line pot lines ≡ Ok q → Says bytes q.0 q.1
  second_only first [] pot t f h = absurd (err_ok h)
  second_only first (line ∷ lines) pot t f h = line_only first line lines pot t f (weights_from 1 (split 32 line)) (at_end lines) refl refl h

  pot_only : (first : List ℕ) (lines : List (List ℕ)) (o : Option ℕ) → bytes ≡ join_with_byte 10 (first ∷ lines) → number_of first ≡ o → and_then (ok_or o BadPot) (λ pot. second_line pot lines) ≡ Ok q → Says bytes q.0 q.1
  pot_only first lines None t f h = absurd (err_ok h)
  pot_only first lines (Some pot) t f h = second_only first lines pot t f h

  lines_only : (lines : List (List ℕ)) → bytes ≡ join_with_byte 10 lines → first_line lines ≡ Ok q → Says bytes q.0 q.1
  lines_only [] t h = absurd (err_ok h)
  lines_only (first ∷ lines) t h = pot_only first lines (number_of first) t refl h

  pub reading_only : reading bytes ≡ Ok q → Says bytes q.0 q.1
  reading_only h = lines_only (split 10 bytes) (sym (rejoined_split 10 bytes)) h

-- what the bytes write is read

module _ (bytes : List ℕ) (pot : ℕ) (ws : List ℕ) (says : Says bytes pot ws) where
  abbrev line : List ℕ
  line = join_with_byte 32 (map decimal ws)

  lines_back : (lines : List (List ℕ)) → at_end lines ≡ true → first_line (decimal pot ∷ line ∷ lines) ≡ Ok (pot, ws)
  lines_back lines e =
      let p = number_back pot says.within.pot_fits in
      let s = split_line ws says.within.weights_fit says.within.some in
      let w = weights_back 1 ws says.within.weights_fit (omega (arith, says.within.few)) in
      rw (p, s, w, e)

  split_lines : (rest : List ℕ) → split 10 (decimal pot ++ 10 ∷ rest) ≡ decimal pot ∷ split 10 rest
  split_lines rest = split_first 10 (decimal pot) rest (lacks_number 10 pot (λ i. omega arith) says.within.pot_fits)

  by_text : (bytes ≡ written pot ws) ⊎ (bytes ≡ written pot ws ++ 10 ∷ []) → reading bytes ≡ Ok (pot, ws)
  by_text (inl e) =
      ap reading e
      ∙ ap first_line (split_lines line ∙ ap (λ ls. decimal pot ∷ ls) (split_none 10 line (lacks_line ws says.within.weights_fit)))
      ∙ lines_back [] refl
  by_text (inr e) =
      ap reading (e ∙ append_assoc (decimal pot) (10 ∷ line) (10 ∷ []))
      ∙ ap first_line (split_lines (line ++ 10 ∷ []) ∙ ap (λ ls. decimal pot ∷ ls) (split_first 10 line [] (lacks_line ws says.within.weights_fit)))
      ∙ lines_back ([] ∷ []) refl

  pub reading_back : reading bytes ≡ Ok (pot, ws)
  reading_back = by_text says.text

pub exactly : (bytes : List ℕ) → Exactly bytes (reading bytes)
exactly bytes pot ws = (λ h. reading_only bytes (pot, ws) h, λ says. reading_back bytes pot ws says)

pub limited : (bytes : List ℕ) (m : Result (ℕ × List ℕ) Fault) → Exactly bytes m → Limited m
limited bytes (Ok p) exact = ((exact p.0 p.1).0 refl).within
limited bytes (Err e) exact = tt
