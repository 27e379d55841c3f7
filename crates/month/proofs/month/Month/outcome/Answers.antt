use Rattle.std.proofs.Common.{rules, ◌≡◌, ℕ, map, None, Ok, Option, sym, ap, ◌∙◌}
use Rattle.std.specs.List.{range_with_len}
use Rattle.std.proofs.lemmas.Bool.{cond-true}
use Rattle.numbered.specs.Made.{made_by}
use Rattle.month.specs.declared.figures.Figures.{Figures}
use Rattle.month.specs.Answers.{outcome_figures, outcome}
use Rattle.month.specs.Book.{book}
use Rattle.month.proofs.month.Month.outcome.Goals as goal

pub returns : goal.returns
unfolding outcome
returns c =
    let told : ℕ → Option Figures = outcome_figures (book c.args.self.now) in
    let all : c.from_fn-figures.result ≡ map told (range_with_len 0 32) = made_by _ told _ (λ k y q called. search rules) _ 32 None c.from_fn-figures.ensures.items in
    ap (λ fs. Ok (record { figures = fs; charges = c.in_ok-charges.charges.now.of_pots })) all
    ∙ ap (λ t. Ok (record { figures = map told (range_with_len 0 32); charges = t })) c.in_ok-charges.ensures.1
    ∙ sym (cond-true _ _ _ c.in_ok-charges.ensures.0)
