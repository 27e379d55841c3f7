-- Each arm writes the message of its fault.
use Rattle.std.proofs.Common.{◌≡◌, ℕ, List, sym, subst}
use Rattle.std.specs.Fmt.{HasWritten}
use Rattle.std.specs.declared.fmt.Formatter.{Formatter}
use Rattle.prorate_input.specs.declared.faults.Fault.{Fault}
use Rattle.prorate_input.specs.Messages.{message}
use Rattle.prorate_input.proofs.faults.FaultDisplay.fmt.Goals as goal

-- the message of the variant is that of the fault
told : {W : Type 0} {took : W → List ℕ → W → Type 0} {f g : Formatter W} {fault variant : Fault} → fault ≡ variant → HasWritten took f (message variant) g → HasWritten took f (message fault) g
told {took = took} {f = f} {g = g} is put = subst (λ x. HasWritten took f (message x) g) (sym is) put

pub returns-in-BadPot-clause-writes : goal.returns-in-BadPot-clause-writes
returns-in-BadPot-clause-writes g c = λ plain ok. told c.in-BadPot.is (c.write.ensures.writes plain ok)

pub returns-in-NoSecondLine-clause-writes : goal.returns-in-NoSecondLine-clause-writes
returns-in-NoSecondLine-clause-writes g c = λ plain ok. told c.in-NoSecondLine.is (c.write-in-NoSecondLine.ensures.writes plain ok)

pub returns-in-BadWeight-clause-writes : goal.returns-in-BadWeight-clause-writes
returns-in-BadWeight-clause-writes g c = λ plain ok. told c.in-BadWeight.is (c.write-in-BadWeight.ensures.writes plain ok)

pub returns-in-TooManyWeights-clause-writes : goal.returns-in-TooManyWeights-clause-writes
returns-in-TooManyWeights-clause-writes g c = λ plain ok. told c.in-TooManyWeights.is (c.write-in-TooManyWeights.ensures.writes plain ok)

pub returns-in-BytesAfterEnd-clause-writes : goal.returns-in-BytesAfterEnd-clause-writes
returns-in-BytesAfterEnd-clause-writes g c = λ plain ok. told c.in-BytesAfterEnd.is (c.write-in-BytesAfterEnd.ensures.writes plain ok)
