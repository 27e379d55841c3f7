use Rattle.std.proofs.Common.{◌≡◌, ◌-◌, ◌++◌, length, replicate, sym, ap, ◌∙◌, arith}
use Rattle.prorating.specs.Weights.{padded}
use Rattle.clearing.proofs.payments.places.Goals as goal

pub returns : goal.returns
unfolding padded
returns c =
    let dues = c.args.dues.now in
    let rest : 48 - length dues ≡ 16 = omega arith in
    ap (λ xs. xs ++ replicate 16 0) c.copy_from_slice.ensures.after ∙ ap (λ n. dues ++ replicate n 0) (sym rest)
