use Rattle.std.proofs.Common.{◌≡◌, ◌*◌, ◌≤◌, true, false, ltb, ◌++◌, length, get_or, drop, sum, sym, refl, ap, ◌∙◌, subst, arith}
use Rattle.std.proofs.lemmas.Bool.{cond-true, cond-false, le-ltb, lt-ltb, leb-true, leb-false}
use Rattle.prorating.specs.Laws.{Sharing, Keeps}
use Rattle.prorating.specs.Weights.{limit}
use Rattle.clearing.specs.Clearing.{Clears}
use Rattle.clearing.specs.Payments.{rows, with_payments}
use Rattle.clearing.proofs.Due.{still_none, still_more, row_is, rows_none, rows_more, still_weighed, rows_long, written_more}
use Rattle.clearing.proofs.Clearing.{clears}
use Rattle.clearing.proofs.payments.pay.Given as given
use Rattle.clearing.proofs.payments.pay.Goals as goal

-- what a rule keeps
kept : (g : given.Over) (rule : g.row.R.Denot) → Keeps (g.R.Rule.shares rule)
kept g rule =
    let met = g.met.R.Rule in
    record { long = met.long rule; nothing = met.nothing rule; whole = met.whole rule; near = met.near rule; weightless = met.weightless rule }

-- the dues are within the limit
pub returns-then-not-are_within_limit : goal.returns-then-not-are_within_limit
returns-then-not-are_within_limit g c =
    let old = c.args.table.now in
    let dues = c.args.dues.now in
    let room : ltb (length old) 1_024 ≡ false = le-ltb (length old) 1_024 c.if-table-lt-ENTRIES.false in
    let past = leb-false (sum dues) limit (sym c.if-not-are_within_limit.ensures) in
    let over : ltb limit (sum dues) ≡ true = lt-ltb limit (sum dues) past in
    record {
      answered = sym (cond-false _ _ _ room ∙ cond-true _ _ _ over);
      written = sym (cond-false _ _ _ room ∙ cond-true _ _ _ over);
      clears = λ _ small _. absurd (omega (arith, past, small));
    }

pub loop-from-init : goal.loop-from-init
loop-from-init g c = (c.places-due.ensures ∙ sym (still_none _ _ _), ap (λ xs. xs ++ c.args.table.now) (sym (rows_none _ _ _)))

pub weight_list-requires : goal.weight_list-requires
weight_list-requires g c =
    let dues = c.args.dues.now in
    let small : sum dues ≤ limit = leb-true (sum dues) limit (sym c.if-not-are_within_limit.ensures) in
    let share : Sharing = g.R.Rule.shares c.args.rule.now in
    omega (arith, ap sum c.loop-from.invariant.0, (still_weighed share c.args.debts.now dues (kept g c.args.rule.now) c.told-dues small c.loop-from.from).light)

pub loop-from-preserved : goal.loop-from-preserved
loop-from-preserved g c =
    let dues = c.args.dues.now in
    let debts = c.args.debts.now in
    let small : sum dues ≤ limit = leb-true (sum dues) limit (sym c.if-not-are_within_limit.ensures) in
    let share : Sharing = g.R.Rule.shares c.args.rule.now in
    let n = c.loop-from.from in
    let its_row = row_is share debts dues n (get_or debts n 0) c.loop-from.due c.weight_list.result.at c.prorate-row.result c.prorate-row.ensures c.weight_list.ensures refl c.loop-from.invariant.0 in
    let due = still_more share debts dues n in
    let done = rows_more share debts dues n in
    let more = written_more (rows share debts dues n) c.prorate-row.result c.args.table.now n (rows_long share debts dues (kept g c.args.rule.now) c.told-dues small n) in
    (cc (c.less-due.ensures, c.loop-from.invariant.0), cc (c.write_row.ensures, c.loop-from.invariant.1))

pub returns : goal.returns
returns g c =
    let old = c.args.table.now in
    let dues = c.args.dues.now in
    let debts = c.args.debts.now in
    let share : Sharing = g.R.Rule.shares c.args.rule.now in
    let small : sum dues ≤ limit = leb-true (sum dues) limit (sym c.if-not-are_within_limit.ensures) in
    let end : c.loop-from.from ≡ 32 = omega arith in
    let written : c.loop-from.table ≡ with_payments share debts dues old = c.loop-from.invariant.1 ∙ ap (λ n. rows share debts dues n ++ drop (n * 32) old) end in
    let room : ltb (length old) 1_024 ≡ false = le-ltb (length old) 1_024 c.if-table-lt-ENTRIES.false in
    let within : ltb limit (sum dues) ≡ false = le-ltb limit (sum dues) small in
    record {
      answered = sym (cond-false _ _ _ room ∙ cond-false _ _ _ within);
      written = written ∙ sym (cond-false _ _ _ room ∙ cond-false _ _ _ within);
      clears = λ _ _ even. subst (Clears debts dues old) (sym written) (clears (record { keeps = kept g c.args.rule.now; debtors = c.told-debts; creditors = c.told-dues; even = even; small = small }) old);
    }
