-- The theorem on texts, at what the lines gave.
use Rattle.std.proofs.Common.{sym, subst}
use Rattle.prorate_input.specs.Meaning.{meaning}
use Rattle.prorate_input.specs.Texts.{Exactly}
use Rattle.prorate_input.proofs.Exact.{exactly, limited}
use Rattle.prorate_input.proofs.reader.read.Goals as goal

exact : (c : goal.After-read_lines) → Exactly c.args.bytes.now (meaning c.read_lines.result)
exact c = subst (Exactly c.args.bytes.now) (sym c.read_lines.ensures) (exactly c.args.bytes.now)

pub returns : goal.returns
returns c = record {
  value = c.read_lines.ensures;
  exact = exact c;
  limited = limited c.args.bytes.now (meaning c.read_lines.result) (exact c);
}
