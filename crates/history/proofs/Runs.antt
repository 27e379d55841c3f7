-- A run, call by call.
use Rattle.std.proofs.Common.{◌≡◌, ℕ, suc, ◌+◌, ◌<◌, ◌≤◌, Bool, true, false, cond, not, ltb, List, [], ◌∷◌, ◌++◌, map, length, get_or, take, drop, set, Ok, Err, Result, sym, refl, ap, ◌∙◌, subst, subst₂, arith}
use Rattle.std.proofs.lemmas.List.{append_assoc, take_more, take_all, drop_more, set_at, get_or-map, length-map, length-take-le}
use Rattle.std.proofs.lemmas.Bool.{cond-true, cond-false, lt-ltb, le-ltb, or_left, or_right, or_from, both_ways}
use Rattle.prorating.specs.Laws.{Sharing, Keeps}
use Rattle.clearing.specs.Clearing.{Clears}
use Rattle.payers.specs.declared.readings.Reading.{Reading}
use Rattle.month.specs.declared.calls.Call.{Call}
use Rattle.month.specs.declared.figures.Outcome.{Outcome}
use Rattle.month.specs.declared.refusal.Refusal.{Refusal}
use Rattle.month.specs.Answers.{is_charged, outcome, outcome_answer, payments_answer, payments_after}
use Rattle.month.specs.Book.{Book, blank_book}
use Rattle.month.specs.Meant.{Meant, meant}
use Rattle.month.specs.Steps.{answer, after}
use Rattle.month.specs.Table.{Answer}
use Rattle.history.specs.History.{debts, dues}
use Rattle.history.specs.Law.{answer_number, verdict, then, run, answers, too_short, Replayed}
use Rattle.history.proofs.Blank.{blank_holds}
use Rattle.history.proofs.Holds.{Sound, Holds}
use Rattle.history.proofs.Keeps.{same_answer, next}
use Rattle.history.proofs.Only.{one_run}
use Rattle.history.proofs.Settling.{is_settled, table_clears}
use Rattle.history.proofs.Told.{same_told, same_paid}

module _ {R : Type 0} where
  run_more : (h ms : List (Meant R)) (m : Meant R) → run h (ms ++ m ∷ []) ≡ then (verdict (run h ms) m) m (run h ms)
  run_more h [] m = refl
  run_more h (x ∷ ms) m = run_more (then (verdict h x) x h) ms m

  answers_more : (h ms : List (Meant R)) (m : Meant R) → answers h (ms ++ m ∷ []) ≡ answers h ms ++ answer_number (verdict (run h ms) m) ∷ []
  answers_more h [] m = refl
  answers_more h (x ∷ ms) m = ap (λ ns. answer_number (verdict h x) ∷ ns) (answers_more (then (verdict h x) x h) ms m)

  length_answers : (h ms : List (Meant R)) → length (answers h ms) ≡ length ms
  length_answers h [] = refl
  length_answers h (x ∷ ms) = ap suc (length_answers (then (verdict h x) x h) ms)

-- one answer more is written
put_more : (xs old : List ℕ) (i n : ℕ) → length xs ≡ i → i < length old → set (xs ++ drop i old) i n ≡ (xs ++ n ∷ []) ++ drop (i + 1) old
put_more xs old i n e l =
    ap (λ ys. set (xs ++ ys) i n) (drop_more old i 0 l) ∙ set_at xs (get_or old i 0) (drop (i + 1) old) n i e ∙ sym (append_assoc xs (n ∷ []) (drop (i + 1) old))

module _ {T R : Type 0} (items : T → List Reading) (share : R → Sharing) where
  -- the call that is meant
  abbrev of : Call T R → Meant R
  of = meant items

  -- the first i calls are made: their answers are written, and the book holds what they leave
  pub record Made (cs : List (Call T R)) (old : List ℕ) (i : ℕ) (new : List ℕ) (b : Book) : Type 0 where
    pub written : new ≡ answers [] (take i (map of cs)) ++ drop i old
    pub holds : Holds share (run [] (take i (map of cs))) b

  pub starts : (cs : List (Call T R)) (old : List ℕ) (b : Book) → b ≡ blank_book → Made cs old 0 old b
  starts cs old b e = record { written = refl; holds = subst (Holds share []) (sym e) (blank_holds share) }

  pub goes_on : (cs : List (Call T R)) (old new : List ℕ) (i : ℕ) (c : Call T R) (n : ℕ) (r : Answer) (b b' : Book) → i < length cs → length cs ≤ length old → c ≡ get_or cs i c → n ≡ answer_number r → r ≡ answer b (of c) → b' ≡ after share b (of c) → Sound b → Made cs old i new b → Made cs old (i + 1) (set new i n) b'
  goes_on cs old new i c n r b b' l fits read en er eb fit made =
      let ms = map of cs in
      let h = run [] (take i ms) in
      let m = of c in
      let below : i < length ms = omega (arith, length-map cs of) in
      let all : i ≤ length ms = omega arith in
      let room : i < length old = omega arith in
      let more : take (i + 1) ms ≡ take i ms ++ m ∷ [] = take_more ms i m below ∙ ap (λ y. take i ms ++ y ∷ []) (get_or-map of cs i c m l ∙ ap of (sym read)) in
      let said : n ≡ answer_number (verdict h m) = en ∙ ap answer_number (er ∙ same_answer share h b fit made.holds m) in
      let long : length (answers [] (take i ms)) ≡ i = length_answers [] (take i ms) ∙ length-take-le i ms all in
      record {
        written =
            ap (λ ys. set ys i n) made.written
            ∙ put_more (answers [] (take i ms)) old i n long room
            ∙ ap (λ y. (answers [] (take i ms) ++ y ∷ []) ++ drop (i + 1) old) said
            ∙ ap (λ ns. ns ++ drop (i + 1) old) (sym (ap (answers []) more ∙ answers_more [] (take i ms) m));
        holds = subst₂ (Holds share) (sym (ap (run []) more ∙ run_more [] (take i ms) m)) (sym eb) (next share h b fit made.holds m);
      }

  module _ (keeps : (r : R) → Keeps (share r)) (by : Sharing) (kept : Keeps by) (cs : List (Call T R)) (old before : List ℕ) where
    -- too short a list of answers, or too short a table
    pub refused : too_short (map of cs) old before ≡ true → Replayed share by (map of cs) old old before before (Err Refusal.Short)
    refused short =
        record {
          one_run = one_run (map of cs);
          noted = sym (cond-true _ _ _ short);
          outcome = sym (cond-true _ _ _ short);
          paid = sym (cond-true _ _ _ short);
          settled = λ enough. absurd (both_ways _ enough short);
          clears = λ enough. absurd (both_ways _ enough short);
        }

    pub short_list : length old < length cs → too_short (map of cs) old before ≡ true
    short_list l = or_left _ _ (lt-ltb (length old) (length (map of cs)) (omega (arith, length-map cs of)))

    pub short_table : length before < 1_024 → too_short (map of cs) old before ≡ true
    short_table l = or_right _ _ (lt-ltb (length before) 1_024 l)

    -- the month after all calls
    module _ (new : List ℕ) (i : ℕ) (b : Book) (fits : length cs ≤ length old) (room : 1_024 ≤ length before) (low : length cs ≤ i) (high : i ≤ length cs) (fit : Sound b) (made : Made cs old i new b) where
      abbrev ms : List (Meant R)
      ms = map of cs

      abbrev h : List (Meant R)
      h = run [] ms

      whole : take i ms ≡ ms
      whole = take_all i ms (omega (arith, length-map cs of))

      holds : Holds share h b
      holds = subst (λ xs. Holds share (run [] xs) b) whole made.holds

      long : ltb (length before) 1_024 ≡ false
      long = le-ltb (length before) 1_024 room

      enough : too_short ms old before ≡ false
      enough = or_from _ _ (le-ltb (length old) (length ms) (omega (arith, length-map cs of))) long

      pub told_so : (written : List ℕ) (r : Result Outcome Refusal) → r ≡ outcome_answer b → written ≡ payments_after by b before → Replayed share by ms old new before written r
      told_so written r er ea =
          record {
            one_run = one_run ms;
            noted =
                let end : i ≡ length ms = omega (arith, length-map cs of) in
                made.written ∙ ap (λ xs. answers [] xs ++ drop i old) whole ∙ ap (λ j. answers [] ms ++ drop j old) end ∙ sym (cond-false _ _ _ enough);
            outcome = er ∙ same_told share h b fit holds ∙ sym (cond-false _ _ _ enough);
            paid = ea ∙ same_paid share h b fit holds by before long ∙ sym (cond-false _ _ _ enough);
            settled = λ _ charged. is_settled share keeps h b fit holds (ap is_charged holds.phase ∙ charged);
            clears = λ _ charged.
                subst (Clears (debts share h) (dues share h) before) (sym (ea ∙ same_paid share h b fit holds by before long ∙ cond-true _ _ _ charged))
                (table_clears share keeps h b fit holds (ap is_charged holds.phase ∙ charged) by kept before);
          }

      -- where payments are refused, so is the outcome
      pub stage_refused : (e : Refusal) → Err e ≡ payments_answer b before → Err e ≡ outcome_answer b
      stage_refused e told = go (is_charged b.phase) refl (told ∙ ap (λ t. cond (not (is_charged b.phase)) (Err Refusal.Stage) (cond t (Err Refusal.Short) (Ok tt))) long)
        where
          go : (t : Bool) → is_charged b.phase ≡ t → ◌≡◌ {A = Answer} (Err e) (cond (not (is_charged b.phase)) (Err Refusal.Stage) (Ok tt)) → ◌≡◌ {A = Result Outcome Refusal} (Err e) (cond (is_charged b.phase) (Ok (outcome b)) (Err Refusal.Stage))
          go true c q = let r : ◌≡◌ {A = Answer} (Err e) (Ok tt) = q ∙ ap (λ t. cond (not t) (Err Refusal.Stage) (Ok tt)) c in let z : ◌≡◌ {A = ℕ} 0 1 = cc in absurd (omega arith)
          go false c q =
              let r : ◌≡◌ {A = Answer} (Err e) (Err Refusal.Stage) = q ∙ ap (λ t. cond (not t) (Err Refusal.Stage) (Ok tt)) c in
              let same : e ≡ Refusal.Stage = cc in
              ap Err same ∙ sym (ap (λ t. cond t (Ok (outcome b)) (Err Refusal.Stage)) c)
