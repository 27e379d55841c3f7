use Rattle.std.proofs.Common.{sym, ap, ◌∙◌, ◌++◌, ◌∷◌, []}
use Rattle.tables.specs.Units.{are_owned, are_distinct}
use Rattle.tables.proofs.Added.{added_kept}
use Rattle.tables.proofs.units.UnitTable.add.Goals as goal

pub invariant_of-self : goal.invariant_of-self
invariant_of-self c =
    let t = c.args.self.now in
    let now = c.push.ensures.items ∙ ap (λ r. t.rows.items ++ r ∷ []) c.fresh.ensures in
    let k = added_kept t.rows.items c.args.number c.args.place.owner c.args.place.zone (sym c.is_addable.ensures ∙ c.if-is_addable.true) t.owned t.once in
    record { owned = ap are_owned now ∙ k.0; once = ap are_distinct now ∙ k.1 }
