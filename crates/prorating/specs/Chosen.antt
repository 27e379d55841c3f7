-- A rule that chooses one of two rules by a test on the pot. It keeps the laws where both do.
use Rattle.std.specs.Prelude.{◌≡◌, ℕ, Bool, cond, length, replicate, sum, slice_index}
use Rattle.std.proofs.lemmas.Bool.{cond_both}
use Rattle.prorating.specs.Laws.{Sharing, Keeps, Near}

pub chosen_keeps : (test : ℕ → Bool) (one other : Sharing) → Keeps one → Keeps other → Keeps (λ pot ws. cond (test pot) (one pot ws) (other pot ws))
chosen_keeps test one other k l =
    record {
      long = λ pot ws w. cond_both (test pot) _ _ (λ shares. length shares ≡ 48) (λ _. k.long pot ws w) (λ _. l.long pot ws w);
      nothing = λ pot ws w none. cond_both (test pot) _ _ (λ shares. shares ≡ replicate 48 0) (λ _. k.nothing pot ws w none) (λ _. l.nothing pot ws w none);
      whole = λ pot ws w shared. cond_both (test pot) _ _ (λ shares. sum shares ≡ pot) (λ _. k.whole pot ws w shared) (λ _. l.whole pot ws w shared);
      near = λ pot ws i w shared h. cond_both (test pot) _ _ (λ shares. Near pot (sum ws) (slice_index ws i) (slice_index shares i)) (λ _. k.near pot ws i w shared h) (λ _. l.near pot ws i w shared h);
      weightless = λ pot ws i w h none. cond_both (test pot) _ _ (λ shares. slice_index shares i ≡ 0) (λ _. k.weightless pot ws i w h none) (λ _. l.weightless pot ws i w h none);
    }
