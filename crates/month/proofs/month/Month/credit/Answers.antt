use Rattle.std.proofs.Common.{◌≡◌, ap, ◌∙◌, arith}
use Rattle.payers.specs.Bases.{weight_of}
use Rattle.payers.specs.Replacements.{weight_moved, moved}
use Rattle.payers.specs.Moved.{part_small, moved_any}
use Rattle.month.proofs.month.Month.credit.Goals as goal

pub returns : goal.returns
unfolding weight_moved
returns c =
    let m = c.args.self.now in
    let ps = m.replacements.participants in
    let earned = m.accounts.earned in
    let is : c.weight.result ≡ weight_moved ps earned c.args.company =
    c.weight.ensures
    ∙ ap (λ qs. weight_of (moved qs c.credited.result.base.at) c.args.company) c.credited.ensures.0
    ∙ ap (λ ws. weight_of (moved ps ws) c.args.company) c.credited.ensures.1
    ∙ moved_any ps m.replacements.each earned m.accounts.earned_long c.args.company in
    record {
      is = is;
      small = omega (arith, is, part_small ps earned m.accounts.earned_long c.args.company 32 (omega arith), m.accounts.earned_sum, m.accounts.light);
    }
