-- By computation.
use Rattle.std.proofs.Common.{refl}
use Rattle.prorating.specs.Weights.{padded}
use Rattle.prorating.specs.Shares.{shared_by}
use Rattle.prorating.specs.Running.{part_to, running_share}
use Rattle.prorating.specs.Largest.{floors, remainders, cents_left, rank, odd_cent, largest_share}
use Rattle.payers.specs.Charges.{charges_of}
use Rattle.payers.specs.Companies.{by_company}
use Rattle.payers.specs.Replacements.{is_replaced, is_substitute, weight_moved}
use Rattle.clearing.specs.Payments.{row, still, less}
use Rattle.figures.proofs.worked_figures_hold.Goals as goal

pub returns : goal.returns
unfolding padded shared_by part_to running_share floors remainders cents_left rank odd_cent largest_share charges_of by_company is_replaced is_substitute weight_moved row still less
returns c = refl
