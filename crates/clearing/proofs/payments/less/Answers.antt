use Rattle.std.proofs.Common.{rules, ℕ, ◌≡◌, sym, ◌-◌, length, ap, ◌∙◌, map, arith, get_or}
use Rattle.std.specs.List.{range_with_len}
use Rattle.numbered.specs.Made.{made_by}
use Rattle.clearing.specs.Payments.{less}
use Rattle.clearing.proofs.payments.less.Goals as goal

pub returns : goal.returns
unfolding less
returns c =
    let less_at : ℕ → ℕ = λ k. get_or c.args.due.now k 0 - get_or c.args.given.now k 0 in
    let long : length c.args.due.now ≡ 48 = omega arith in
    made_by _ less_at _ (λ k y q called. search rules) _ 48 0 c.from_fn.ensures.items ∙ ap (λ n. map less_at (range_with_len 0 n)) (sym long)
