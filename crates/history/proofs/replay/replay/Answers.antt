use Rattle.std.proofs.Common.{Err, sym, ap, ◌∙◌, arith}
use Rattle.std.proofs.lemmas.Result.{err_from_is_err_and}
use Rattle.prorating.specs.Laws.{Keeps}
use Rattle.payers.specs.Figures.{column_based}
use Rattle.tables.proofs.Pots.{pots_based}
use Rattle.tables.specs.Tables.{as_pot}
use Rattle.std.proofs.lemmas.List.{length-map}
use Rattle.month.specs.declared.month.Month.{Month}
use Rattle.month.specs.Book.{book}
use Rattle.history.proofs.Holds.{Sound}
use Rattle.history.proofs.Runs.{starts, goes_on, refused, short_list, short_table, told_so, stage_refused}
use Rattle.history.proofs.replay.replay.Given as given
use Rattle.history.proofs.replay.replay.Goals as goal

-- what the month's types keep
sound : (m : Month) → Sound (book m)
sound m =
    record {
      registered = m.registered.long;
      participants = m.replacements.long;
      takes_part = m.replacements.each;
      given = m.metered.long;
      withdrawals = m.meters.withdrawals_long;
      injections = m.meters.injections_long;
      points = m.points.long;
      earned = m.accounts.earned_long;
      hours = m.hours;
      owned = m.units.owned;
      withdrawals_based = column_based m.meters.withdrawals m.meters.withdrawals_long m.meters.withdrawals_small;
      injections_based = column_based m.meters.injections m.meters.injections_long m.meters.injections_small;
      pots_based = pots_based m.accounts.sheddings.items;
      few_pots = omega (arith, length-map m.accounts.sheddings.items as_pot, m.accounts.few);
      light = m.accounts.light;
      earned_sum = m.accounts.earned_sum;
    }

-- what a rule keeps
kept : (g : given.Over) (rule : g.row.P.Denot) → Keeps (g.P.Rule.shares rule)
kept g rule =
    let met = g.met.P.Rule in
    record { long = met.long rule; nothing = met.nothing rule; whole = met.whole rule; near = met.near rule; weightless = met.weightless rule }

keeps : (g : given.Over) (rule : g.row.R.Denot) → Keeps (g.R.Rule.shares rule)
keeps g rule =
    let met = g.met.R.Rule in
    record { long = met.long rule; nothing = met.nothing rule; whole = met.whole rule; near = met.near rule; weightless = met.weightless rule }

pub returns-then-answers-calls : goal.returns-then-answers-calls
returns-then-answers-calls g c =
    refused g.T.AsSlice.items g.R.Rule.shares (keeps g) (g.P.Rule.shares c.args.rule.now) (kept g c.args.rule.now) c.args.calls.now c.args.answers.now c.args.table.now
    (short_list g.T.AsSlice.items g.R.Rule.shares (keeps g) (g.P.Rule.shares c.args.rule.now) (kept g c.args.rule.now) c.args.calls.now c.args.answers.now c.args.table.now c.if-answers-calls.true)

pub returns-then-table-lt-ENTRIES : goal.returns-then-table-lt-ENTRIES
returns-then-table-lt-ENTRIES g c =
    refused g.T.AsSlice.items g.R.Rule.shares (keeps g) (g.P.Rule.shares c.args.rule.now) (kept g c.args.rule.now) c.args.calls.now c.args.answers.now c.args.table.now
    (short_table g.T.AsSlice.items g.R.Rule.shares (keeps g) (g.P.Rule.shares c.args.rule.now) (kept g c.args.rule.now) c.args.calls.now c.args.answers.now c.args.table.now c.if-table-lt-ENTRIES.true)

pub loop-i-init : goal.loop-i-init
loop-i-init g c = starts g.T.AsSlice.items g.R.Rule.shares c.args.calls.now c.args.answers.now _ c.blank-month.ensures

pub loop-i-preserved : goal.loop-i-preserved
loop-i-preserved g c =
    goes_on g.T.AsSlice.items g.R.Rule.shares _ _ _ _ c.index-calls-i.result _ _ _ _ c.loop-i-test.true c.if-answers-calls.false c.index-calls-i.is c.answer_number.ensures c.apply.ensures.answer c.apply.ensures.after (sound c.loop-i.month) c.loop-i.invariant

pub returns : goal.returns
returns g c =
    told_so g.T.AsSlice.items g.R.Rule.shares (keeps g) (g.P.Rule.shares c.args.rule.now) (kept g c.args.rule.now) c.args.calls.now c.args.answers.now c.args.table.now
    c.loop-i.answers c.loop-i.i (book c.loop-i.month) c.if-answers-calls.false c.if-table-lt-ENTRIES.false c.loop-i-test.false (omega arith) (sound c.loop-i.month) c.loop-i.invariant
    c.payments.new.table c.outcome.result c.outcome.ensures c.payments.ensures.after

pub returns-in_err-payments : goal.returns-in_err-payments
returns-in_err-payments g c =
    let items = g.T.AsSlice.items in
    let share = g.R.Rule.shares in
    let by = g.P.Rule.shares c.args.rule.now in
    let p = err_from_is_err_and c.from_residual.result c.from_residual.ensures.1 in
    let refusal =
    stage_refused items share (keeps g) by (kept g c.args.rule.now) c.args.calls.now c.args.answers.now c.args.table.now
    c.loop-i.answers c.loop-i.i (book c.loop-i.month) c.if-answers-calls.false c.if-table-lt-ENTRIES.false c.loop-i-test.false (omega arith) (sound c.loop-i.month) c.loop-i.invariant
    c.in_err-payments.field-0.0 (sym c.in_err-payments.was ∙ c.payments.ensures.answer) in
    told_so items share (keeps g) by (kept g c.args.rule.now) c.args.calls.now c.args.answers.now c.args.table.now
    c.loop-i.answers c.loop-i.i (book c.loop-i.month) c.if-answers-calls.false c.if-table-lt-ENTRIES.false c.loop-i-test.false (omega arith) (sound c.loop-i.month) c.loop-i.invariant
    c.payments.new.table c.from_residual.result (p.1 ∙ ap Err p.2 ∙ refusal) c.payments.ensures.after
