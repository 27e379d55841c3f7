use Rattle.std.proofs.Common.{◌≡◌, ◌≤◌, ℕ, ◌+◌, length, get_or, take, sum, sym, ap, ◌∙◌, arith}
use Rattle.numbered.specs.Entries.{entry, with_entry}
use Rattle.payers.specs.Bases.{weight_of}
use Rattle.payers.specs.Zones.{zone_weights}
use Rattle.payers.proofs.ReadingLists.{no_reading}
use Rattle.payers.proofs.ZoneWeights.{added, weights_none, weights_more, weights_all, weights_long, weights_total, weights_light, weight_fits}
use Rattle.payers.proofs.zone.summed.Goals as goal
use Rattle.payers.proofs.zone.summed.Goals.{in-Some, in_default}

pub loop-reading-init : goal.loop-reading-init
loop-reading-init g c = sym (weights_none (g.O.Owners.owner c.args.owners.now) c.args.zone)

-- whichever number the entry was asked for
pub overflow_add-injected : goal.overflow_add-injected
overflow_add-injected g c =
    let s = c.args.owners.now in
    let zone = c.args.zone in
    let rs = c.args.readings.now in
    let i = c.loop-reading.reading-index in
    let fits : (number : ℕ) → entry 32 0 c.loop-reading.kwh number + (get_or rs i no_reading).kwh ≤ 96_000_000 = λ number.
    omega (
      arith,
      ap (λ ws. weight_of ws number) c.loop-reading.invariant,
      weight_fits (g.O.Owners.owner s) zone (g.met.O.Owners.company s) rs i number c.requires c.loop-reading-test.true,
    ) in
    grind (arith, fits, c.entry_of.ensures)

pub loop-reading-preserved : goal.loop-reading-preserved
loop-reading-preserved g c =
    let s = c.args.owners.now in
    let zone = c.args.zone in
    let rs = c.args.readings.now in
    let i = c.loop-reading.reading-index in
    let r = get_or rs i no_reading in
    let o = g.O.Owners.owner s in
    let here : added c.loop-reading.kwh r.kwh (o r.unit zone) ≡ zone_weights o zone (take (i + 1) rs) =
    ap (λ ws. added ws r.kwh (o r.unit zone)) c.loop-reading.invariant
    ∙ weights_more o zone rs i c.loop-reading-test.true (g.met.O.Owners.company s r.unit zone) in
    elim c.match-owner_in.branch [
      | in-Some w ↦ w.kwh-is ∙ w.set_entry.ensures ∙ ap (λ e. with_entry 32 c.loop-reading.kwh w.in-Some.company (e + r.kwh)) w.entry_of.ensures ∙ ap (added c.loop-reading.kwh r.kwh) w.in-Some.ensures ∙ here
      | in_default w ↦ w.kwh-is ∙ ap (added c.loop-reading.kwh r.kwh) (sym w.in_default.is ∙ c.owner_in.ensures) ∙ here
    ]

pub invariant_of-result : goal.invariant_of-result
invariant_of-result g c =
    let s = c.args.owners.now in
    let zone = c.args.zone in
    let rs = c.args.readings.now in
    let o = g.O.Owners.owner s in
    let made = weights_all o zone rs c.loop-reading.kwh c.loop-reading.reading-index c.loop-reading.invariant c.loop-reading-test.false in
    let light = weights_light o zone (g.met.O.Owners.company s) rs c.requires in
    record { long = ap length made ∙ weights_long o zone rs; light = omega (arith, ap sum made, light) }

pub returns : goal.returns
returns g c =
    let s = c.args.owners.now in
    let zone = c.args.zone in
    let rs = c.args.readings.now in
    let o = g.O.Owners.owner s in
    let made = weights_all o zone rs c.loop-reading.kwh c.loop-reading.reading-index c.loop-reading.invariant c.loop-reading-test.false in
    record { weighed = made; whole = ap sum made ∙ weights_total o zone (g.met.O.Owners.company s) rs }
