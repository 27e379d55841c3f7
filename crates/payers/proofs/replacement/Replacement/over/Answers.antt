use Rattle.payers.specs.Moved.{moves}
use Rattle.payers.proofs.replacement.Replacement.over.Goals as goal

pub returns-clause-moves : goal.returns-clause-moves
returns-clause-moves g c =
    let base = c.args.base in
    let r = c.args.replacements in
    moves r.participants r.each (g.B.PayerBase.weights base) (g.met.B.PayerBase.based base).long
