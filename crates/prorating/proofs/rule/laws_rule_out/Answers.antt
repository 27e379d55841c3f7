use Rattle.prorating.proofs.RuledOut.{no_rule_of_zeros, no_rule_for_one}
use Rattle.prorating.proofs.rule.laws_rule_out.Goals as goal

pub returns : goal.returns
returns c = record { zeros = no_rule_of_zeros; one = no_rule_for_one }
