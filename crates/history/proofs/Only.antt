-- Of every list of calls there is one run.
use Rattle.std.proofs.Common.{◌≡◌, ℕ, Bool, true, false, cond, List, [], ◌∷◌, Ok, Err, sym, refl, ap, ◌∙◌, subst, inl, inr, arith}
use Rattle.month.specs.declared.refusal.Refusal.{Refusal}
use Rattle.month.specs.Meant.{Meant}
use Rattle.month.specs.Refusals.{number}
use Rattle.history.specs.History.{seen}
use Rattle.month.specs.Table.{Answer, Row, rows, first}
use Rattle.history.specs.Law.{answer_number, Clear, First, Run, verdict, then, run, answers, OnlyRun}
use Rattle.history.proofs.Keeps.{clear}

-- a refusal is by the first row that applies
refusal : (rs : List Row) (e : Refusal) → first rs ≡ Err e → First (number e) rs
refusal [] e q = let z : ◌≡◌ {A = ℕ} 0 1 = cc in absurd (omega arith)
refusal (r ∷ rs) e q = go r.1 refl q (refusal rs e)
  where
    go : (t : Bool) → r.1 ≡ t → cond t (Err r.0) (first rs) ≡ Err e → (first rs ≡ Err e → First (number e) rs) → First (number e) (r ∷ rs)
    go true p q more = let same : r.0 ≡ e = cc in inl (p, ap number (sym same))
    go false p q more = inr (p, more q)

-- and back
admits : (rs : List Row) → Clear rs → first rs ≡ Ok tt
admits [] c = refl
admits (r ∷ rs) c = ap (λ t. cond t (Err r.0) (first rs)) c.0 ∙ admits rs c.1

refuses : (rs : List Row) (n : ℕ) → First n rs → (e : Refusal) × (first rs ≡ Err e) × (n ≡ number e)
refuses [] n c = absurd c
refuses (r ∷ rs) n (inl (t, e)) = (r.0, ap (λ t. cond t (Err r.0) (first rs)) t, e)
refuses (r ∷ rs) n (inr (t, c)) = let w = refuses rs n c in (w.0, ap (λ t. cond t (Err r.0) (first rs)) t ∙ w.1, w.2)

module _ {R : Type 0} where
  is_run : (h ms : List (Meant R)) → Run h ms (answers h ms) (run h ms)
  is_run h [] = refl
  is_run h (m ∷ ms) = go (verdict h m) refl (λ k. is_run k ms)
    where
      go : (a : Answer) → verdict h m ≡ a → ((k : List (Meant R)) → Run k ms (answers k ms) (run k ms)) → Run h (m ∷ ms) (answer_number a ∷ answers (then a m h) ms) (run (then a m h) ms)
      go (Ok u) e more = inl (clear (rows (seen h) m) u e, refl, more (m ∷ h))
      go (Err r) e more = inr (refusal (rows (seen h) m) r e, more h)

  only_run : (h ms : List (Meant R)) (ns : List ℕ) (k : List (Meant R)) → Run h ms ns k → (ns ≡ answers h ms) × (k ≡ run h ms)
  only_run h [] [] k r = (refl, sym r)
  only_run h [] (n ∷ ns) k r = absurd r
  only_run h (m ∷ ms) [] k r = absurd r
  only_run h (m ∷ ms) (n ∷ ns) k (inl (c, z, r)) =
      let e = admits (rows (seen h) m) c in
      let more = only_run (m ∷ h) ms ns k r in
      subst (λ a. (n ∷ ns ≡ answer_number a ∷ answers (then a m h) ms) × (k ≡ run (then a m h) ms)) (sym e) (cc (z, more.0), more.1)
  only_run h (m ∷ ms) (n ∷ ns) k (inr (c, r)) =
      let w = refuses (rows (seen h) m) n c in
      let more = only_run h ms ns k r in
      subst (λ a. (n ∷ ns ≡ answer_number a ∷ answers (then a m h) ms) × (k ≡ run (then a m h) ms)) (sym w.1) (cc (w.2, more.0), more.1)

  pub one_run : (ms : List (Meant R)) → OnlyRun ms (answers [] ms) (run [] ms)
  one_run ms = record { is_run = is_run [] ms; only = λ ns k r. only_run [] ms ns k r }
