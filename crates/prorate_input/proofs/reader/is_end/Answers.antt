-- Nothing follows where what follows is empty.
use Rattle.std.proofs.Common.{◌≡◌, ℕ, Bool, true, List, eqb, length, Some, None, Option, sym, ◌∙◌, rules}
use Rattle.std.specs.Borrow.{Bor}
use Rattle.std.specs.Option.{MatchOption}
use Rattle.words.specs.Words.{following}
use Rattle.prorate_input.specs.Reading.{at_end}
use Rattle.prorate_input.proofs.Steps.{split_end}
use Rattle.prorate_input.proofs.reader.is_end.Goals as goal

ended : (o : Option (Bor (List ℕ))) (P : Bor (List ℕ) → Type 0) (b : Bool) → MatchOption o (b ≡ true) P → ((s : Bor (List ℕ)) → P s → b ≡ eqb (length s.now) 0) → b ≡ at_end (following 10 o)
ended None P b h same = h
ended (Some s) P b h same = same s h ∙ sym (split_end 10 s.now)

pub returns : goal.returns
returns c = ended c.args.after _ c.is_none_or.result c.is_none_or.ensures (λ s called. search rules)
