use Rattle.std.proofs.Common.{slice_index_or, slice_set, sym, refl, ap, ◌∙◌}
use Rattle.std.specs.Fn.{FnOnceReturnsAtMut}
use Rattle.tables.specs.Units.{no_row, are_owned, are_distinct}
use Rattle.tables.specs.Rows.{stands, absent, kept}
use Rattle.tables.proofs.Changed.{written}
use Rattle.tables.proofs.units.UnitTable.change.Goals as goal

pub invariant_of-self : goal.invariant_of-self
invariant_of-self g c =
    let t = c.args.self.now in
    let i = c.in-Some.index in
    let there = stands t.rows.items c.args.unit i (sym c.index.ensures ∙ c.in-Some.is) in
    let back = written t.rows c.deref_mut.result.now i c.f.new.arg2 c.deref_mut.ensures.value in
    let said : FnOnceReturnsAtMut g.F.FnOnce c.args.f (slice_index_or t.rows.items i no_row) tt c.f.new.arg2 = record { shown = _; shows = ap (λ xs. slice_index_or xs i no_row) c.deref_mut.ensures.value; left = _; met = c.f.ensures; leaves = refl } in
    let same = c.requires.keeps _ _ said in
    let k = kept t.rows.items c.args.unit i c.f.new.arg2 there same.0 same.1 t.owned t.once in
    record { owned = ap are_owned back ∙ k.0; once = ap are_distinct back ∙ k.1 }

pub returns-in-Some : goal.returns-in-Some
returns-in-Some g c = λ f says.
    let t = c.args.self.now in
    let i = c.in-Some.index in
    let there = stands t.rows.items c.args.unit i (sym c.index.ensures ∙ c.in-Some.is) in
    written t.rows c.deref_mut.result.now i c.f.new.arg2 c.deref_mut.ensures.value
    ∙ ap (slice_set t.rows.items i) (says _ _ (record { shown = _; shows = ap (λ xs. slice_index_or xs i no_row) c.deref_mut.ensures.value; left = _; met = c.f.ensures; leaves = refl }))
    ∙ there.changed f

pub returns-in_default : goal.returns-in_default
returns-in_default g c = λ f says. (absent c.args.self.now.rows.items c.args.unit (sym c.index.ensures ∙ c.in_default.is)).unchanged f
