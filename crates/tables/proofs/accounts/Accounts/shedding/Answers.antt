use Rattle.std.proofs.Common.{subst}
use Rattle.std.specs.Slice.{IsItemAt}
use Rattle.tables.proofs.Pots.{pot_found}
use Rattle.tables.proofs.accounts.Accounts.shedding.Goals as goal

pub returns : goal.returns
returns c =
    let found : IsItemAt c.args.self.now.sheddings.items c.args.index c.get.result = subst (λ xs. IsItemAt xs c.args.index c.get.result) c.deref.ensures.0 c.get.ensures.lookup in
    pot_found c.args.self.now.sheddings.items c.args.index c.get.result c.copied.result found c.copied.ensures
