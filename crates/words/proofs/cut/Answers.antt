-- The text is cut at its first mark, or is one piece.
use Rattle.std.proofs.Common.{sym, ◌∙◌}
use Rattle.std.proofs.lemmas.List.{take_rest}
use Rattle.words.proofs.Pieces.{split_at_position, split_no_position}
use Rattle.words.proofs.cut.Goals as goal

pub returns-in-Some : goal.returns-in-Some
returns-in-Some c =
    rw take_rest (sym (split_at_position c.args.mark c.args.s.now c.in-Some.i (sym c.first.ensures ∙ c.in-Some.is)))

pub returns-in-None : goal.returns-in-None
returns-in-None c = sym (split_no_position c.args.mark c.args.s.now (sym c.first.ensures ∙ c.in-None.is))
