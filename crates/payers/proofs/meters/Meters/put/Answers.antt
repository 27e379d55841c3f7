use Rattle.std.proofs.Common.{◌≤◌, ◌∙◌, arith}
use Rattle.std.proofs.lemmas.Bool.Decides.{nat_tests}
use Rattle.payers.specs.CompaniesLemmas.{entry_long}
use Rattle.payers.specs.Meters.{figure_limit}
use Rattle.payers.specs.Figures.{entry_small}
use Rattle.payers.proofs.meters.Meters.put.Goals as goal

pub invariant_of-self : goal.invariant_of-self
invariant_of-self c =
    let meters = c.args.self.now in
    let company = c.args.company in
    let small = c.if-not-within_limits.ensures in
    let withdrawals_within : c.args.meter.withdrawals ≤ figure_limit = grind (arith, nat_tests) in
    let injections_within : c.args.meter.injections ≤ figure_limit = grind (arith, nat_tests) in
    record {
      withdrawals_long = rw c.set_entry.ensures (entry_long meters.withdrawals company c.args.meter.withdrawals ∙ meters.withdrawals_long);
      injections_long = rw c.set_entry-2.ensures (entry_long meters.injections company c.args.meter.injections ∙ meters.injections_long);
      withdrawals_small = rw c.set_entry.ensures (entry_small meters.withdrawals company c.args.meter.withdrawals meters.withdrawals_long withdrawals_within meters.withdrawals_small);
      injections_small = rw c.set_entry-2.ensures (entry_small meters.injections company c.args.meter.injections meters.injections_long injections_within meters.injections_small);
    }
