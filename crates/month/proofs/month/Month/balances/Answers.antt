use Rattle.std.proofs.Common.{rules, ℕ, ◌-◌, get_or, ◌∙◌}
use Rattle.numbered.specs.Made.{made_by}
use Rattle.month.specs.Answers.{credit_in}
use Rattle.month.specs.Book.{book}
use Rattle.month.specs.Figures.{charge_over}
use Rattle.month.proofs.Paying.{above}
use Rattle.month.proofs.month.Month.balances.Goals as goal

pub returns : goal.returns
returns c =
    let credits = c.credits-credits.result in
    let charged = c.over_all-charged.result in
    let credit : ℕ → ℕ = credit_in (book c.args.self.now) in
    let charge : ℕ → ℕ = charge_over c.args.charges.now.of_pots in
    record {
      debts = made_by _ (λ k. get_or charged k 0 - get_or credits k 0) _ (λ k y q called. search rules) _ 32 0 c.from_fn.ensures.items ∙ above charge credit charged credits c.over_all-charged.ensures c.credits-credits.ensures;
      dues = made_by _ (λ k. get_or credits k 0 - get_or charged k 0) _ (λ k y q called. search rules) _ 32 0 c.from_fn-2.ensures.items ∙ above credit charge credits charged c.credits-credits.ensures c.over_all-charged.ensures;
    }
