use Rattle.std.proofs.Common.{sym, length-set}
use Rattle.payers.specs.Substitutes.{replaced_takes_part}
use Rattle.payers.proofs.replacement.Replacements.replace.Goals as goal

pub invariant_of-self : goal.invariant_of-self
invariant_of-self c =
    let s = c.args.self.now in
    let is_old = sym c.if-not-is_numbered.ensures in
    let is_new = sym c.if-not-is_numbered-2.ensures in
    let free = c.if-is_barred.ensures in
    let after = rw is_old at c.set_entry.ensures in
    record {
      long = rw after (simp length-set s.long);
      each = rw after (replaced_takes_part s.participants s.long s.each c.args.old c.args.new is_old is_new free);
    }
