use Rattle.std.proofs.Common.{ℕ, ◌<◌, List, [], length, get_or, set, refl, ap, ◌∙◌, arith}
use Rattle.std.proofs.lemmas.List.FromFn.{fill_by_all}
use Rattle.std.proofs.lemmas.List.Edits.{fill_by_more}
use Rattle.std.proofs.lemmas.List.{length-set}
use Rattle.month.specs.Book.{book}
use Rattle.month.specs.Pots.{pot_charges, charged}
use Rattle.month.specs.Steps.{all_pots}
use Rattle.month.proofs.Charged.{set_small, zeros_small}
use Rattle.month.proofs.month.Month.charged.Goals as goal

pub loop-k-init : goal.loop-k-init
loop-k-init g c = (refl, λ j l. absurd (omega arith), zeros_small)

pub loop-k-preserved : goal.loop-k-preserved
loop-k-preserved g c =
    let inside : c.loop-k.k < length c.loop-k.charges-items = omega (arith, c.loop-k.invariant.0) in
    let row : ℕ → List ℕ = pot_charges (g.R.Rule.shares c.args.rule.now) (book c.args.self.now).participants (all_pots (book c.args.self.now)) in (
      length-set c.loop-k.charges-items c.loop-k.k _ ∙ c.loop-k.invariant.0,
      λ j l. ap (λ r. get_or (set c.loop-k.charges-items c.loop-k.k r) j []) c.pot_charges.ensures.meant ∙ fill_by_more row c.loop-k.charges-items c.loop-k.k [] inside c.loop-k.invariant.1 j l,
      set_small c.loop-k.charges-items c.loop-k.k _ inside c.pot_charges.ensures.small c.loop-k.invariant.2,
    )

pub invariant_of-result : goal.invariant_of-result
invariant_of-result g c = record { small = c.loop-k.invariant.2 }

pub returns : goal.returns
unfolding charged
returns g c =
    let row : ℕ → List ℕ = pot_charges (g.R.Rule.shares c.args.rule.now) (book c.args.self.now).participants (all_pots (book c.args.self.now)) in
    fill_by_all row c.loop-k.charges-items 19 [] c.loop-k.invariant.0 (λ j l. c.loop-k.invariant.1 j (omega arith))
