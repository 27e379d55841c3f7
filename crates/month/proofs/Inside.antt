-- What figures that are not outside their limits are within.
use Rattle.std.proofs.Common.{◌≡◌, ℕ, true, false, leb}
use Rattle.std.proofs.lemmas.Bool.{or_parts, not-false}
use Rattle.worth.specs.declared.line.Line.{Line}
use Rattle.worth.specs.Families.{numbered}
use Rattle.worth.specs.Limits.{within as line_within}
use Rattle.month.specs.declared.calls.Terms.{Terms}
use Rattle.month.specs.Table.{no_unit, disallowed, line_outside}

pub line_inside : (t : Terms) (u hour f : ℕ) (l : Line) → line_outside t u hour f l ≡ false → line_within l ≡ true
line_inside t u hour f l e =
    not-false (line_within l) (or_parts (disallowed l (numbered f)) _ (or_parts (leb t.hours hour) _ (or_parts (no_unit u) _ e).1).1).1
