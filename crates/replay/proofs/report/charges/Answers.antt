-- A turn adds the charges of one company.
use Rattle.std.proofs.Common.{◌+◌, ◌++◌, sym, ap, ◌∙◌}
use Rattle.replay.specs.Reports.{charges_from, charges_of, column}
use Rattle.replay.proofs.Steps.{charges_more}
use Rattle.replay.proofs.report.charges.Goals as goal

pub loop-index-init : goal.loop-index-init
unfolding charges_of
loop-index-init c = c.new-list.ensures.items

pub loop-index-preserved : goal.loop-index-preserved
loop-index-preserved c =
    c.in_ok-add_charges.ensures
    ∙ ap (λ l. l ++ charges_from (c.loop-index.index + 1) 1 (column c.loop-index.index c.args.charges.now)) c.loop-index.invariant
    ∙ sym (charges_more c.loop-index.index c.args.charges.now)
