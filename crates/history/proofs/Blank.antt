-- A blank month holds the history of no calls.
use Rattle.std.proofs.Common.{◌≡◌, ℕ, ◌-◌, ◌<◌, ◌≤◌, Bool, true, false, not, ◌&&◌, eqb, [], sym, refl, ap, ◌∙◌, arith}
use Rattle.std.proofs.lemmas.List.FromFn.{get_or-range_with_len}
use Rattle.std.proofs.lemmas.Bool.{cond-true, eq-eqb, not_from_true}
use Rattle.std.proofs.lemmas.Bool.Decides.{nat_tests}
use Rattle.std.specs.List.{range_with_len}
use Rattle.prorating.specs.Laws.{Sharing}
use Rattle.payers.specs.Bases.{is_company}
use Rattle.payers.specs.Replacements.{participant_of, is_replaced, is_substitute}
use Rattle.payers.specs.Substitutes.{substitute_of_none}
use Rattle.tables.specs.Points.{no_point}
use Rattle.numbered.proofs.Entries.{entry_all}
use Rattle.month.specs.Book.{blank_book}
use Rattle.history.proofs.Holds.{Holds}

-- everybody takes part for itself
itself : (c : ℕ) → is_company c ≡ true → participant_of (range_with_len 1 32) c ≡ c
itself c there =
    let low : 1 ≤ c = grind (arith, nat_tests) in
    let high : c - 1 < 32 = grind (arith, nat_tests) in
    cond-true _ _ 0 there ∙ get_or-range_with_len 1 32 (c - 1) 0 high ∙ omega arith

nobody_replaced : (c : ℕ) → (is_company c && is_replaced (range_with_len 1 32) c) ≡ false
unfolding is_replaced
nobody_replaced c = go (is_company c) refl
  where
    go : (t : Bool) → is_company c ≡ t → (t && not (eqb (participant_of (range_with_len 1 32) c) c)) ≡ false
    go true e = not_from_true _ (eq-eqb _ _ (itself c e))
    go false e = refl

nobody_replaces : (c : ℕ) → is_substitute (range_with_len 1 32) c ≡ false
nobody_replaces c = substitute_of_none (range_with_len 1 32) c (λ other low high takes. sym (itself other (grind (arith, nat_tests))) ∙ takes)

pub blank_holds : {R : Type 0} (share : R → Sharing) → Holds share [] blank_book
blank_holds share =
    record {
      phase = refl;
      terms = refl;
      charges = λ c. let z : ◌≡◌ {A = ℕ} 0 1 = cc in absurd (omega arith);
      companies = record { is = λ c. entry_all 32 32 false c };
      replacing = record { replaced = nobody_replaced; replaces = nobody_replaces; participant = itself };
      units = record { place = λ u. refl; count = refl; performed = λ u f. refl; installed = λ u f. refl; given = λ u t l. refl; wide = λ u r e. let z : ◌≡◌ {A = ℕ} 0 1 = cc in absurd (omega arith) };
      meters = record { given = λ c. entry_all 32 32 false c; withdrawals = λ c there. entry_all 32 32 0 c; injections = λ c there. entry_all 32 32 0 c };
      points =
          record {
            supplier = λ p. ap (λ q. q.supplier) (entry_all 32 32 no_point p);
            count = λ p. ap (λ q. q.count) (entry_all 32 32 no_point p);
            seconds = λ p. ap (λ q. q.seconds) (entry_all 32 32 no_point p);
            sheddings = refl;
            company = λ p s e. let z : ◌≡◌ {A = ℕ} 0 1 = cc in absurd (omega arith);
          };
      accounts = record { earned = λ c there. entry_all 32 32 0 c; services = refl; credits = refl; pots = refl; paid = refl };
      sheds_weighed = λ i p e. let z : ◌≡◌ {A = ℕ} 0 1 = cc in absurd (omega arith);
      services_weighed = λ c. let z : ◌≡◌ {A = ℕ} 0 1 = cc in absurd (omega arith);
      ruled = λ c. let z : ◌≡◌ {A = ℕ} 0 1 = cc in absurd (omega arith);
    }
