use Rattle.std.proofs.Common.{ap, ◌∙◌}
use Rattle.tables.specs.Accounts.{Pot}
use Rattle.tables.specs.Tables.{as_pot}
use Rattle.month.specs.Pots.{some_strands}
use Rattle.month.specs.Seen.{strands}
use Rattle.month.proofs.Charged.{any_map}
use Rattle.month.proofs.month.Month.is_service_stranded.Goals as goal

pub returns : goal.returns
returns c =
    c.are_some_stranded.ensures ∙ any_map (λ (p : Pot). strands p.cents p.weights) as_pot c.service_pots.result ∙ ap some_strands c.service_pots.ensures
