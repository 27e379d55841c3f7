use Rattle.std.proofs.lemmas.Result.{err_from_is_err_and}
use Rattle.month.proofs.Paying.{answers_as}
use Rattle.month.proofs.month.Month.payments.Goals as goal

pub returns-in_err-pay : goal.returns-in_err-pay
returns-in_err-pay g c =
    let told =
    answers_as (g.R.Rule.shares c.args.rule.now) c.args.self.now _ _ _ c.args.table.now _ c.pay.result c.in_ok-charges.ensures.0 c.in_ok-charges.ensures.1
    c.balances-balances.ensures.debts c.balances-balances.ensures.dues c.pay.ensures.answered c.pay.ensures.written in
    let p = err_from_is_err_and c.from_residual-in_err-pay.result c.from_residual-in_err-pay.ensures.1 in
    let this = told.1 c.in_err-pay.field-0.0 c.in_err-pay.was in
    record { answer = rw (p.1, p.2) this.0; after = this.1 }

pub returns : goal.returns
returns g c =
    let told =
    answers_as (g.R.Rule.shares c.args.rule.now) c.args.self.now _ _ _ c.args.table.now _ c.pay.result c.in_ok-charges.ensures.0 c.in_ok-charges.ensures.1
    c.balances-balances.ensures.debts c.balances-balances.ensures.dues c.pay.ensures.answered c.pay.ensures.written in
    let this = told.0 c.in_ok-pay.was in
    record { answer = this.0; after = this.1 }
