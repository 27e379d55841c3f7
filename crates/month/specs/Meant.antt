-- The calls that are meant: a call of the code, with the readings that its list holds.
use Rattle.std.specs.Prelude.{ℕ, List}
use Rattle.worth.specs.declared.line.Line.{Line}
use Rattle.worth.specs.declared.performance.Performance.{Performance}
use Rattle.payers.specs.declared.readings.Reading.{Reading}
use Rattle.month.specs.declared.calls.Post.{Post}
use Rattle.month.specs.declared.calls.StageCall.{StageCall}
use Rattle.month.specs.declared.calls.Call.{Call}

-- What is posted; the arguments stand as in the call.
pub data Posted : Type 0 where
  company : ℕ → Posted
  replace : ℕ → ℕ → Posted
  unit : ℕ → ℕ → ℕ → Posted
  performance : ℕ → ℕ → Performance → Posted
  line : ℕ → ℕ → ℕ → Line → Posted
  installation : ℕ → ℕ → ℕ → ℕ → Posted
  meter : ℕ → ℕ → ℕ → Posted
  point : ℕ → ℕ → Posted
  shed : ℕ → ℕ → ℕ → ℕ → List Reading → Posted

pub data Meant (R : Type 0) : Type 0 where
  post : Posted → Meant R
  stage : StageCall R → Meant R

abbrev pub meant_post : {T : Type 0} → (T → List Reading) → Post T → Posted
meant_post items (Post.Company n) = company n
meant_post items (Post.Replace old new) = replace old new
meant_post items (Post.Unit n p) = unit n p.owner p.zone
meant_post items (Post.Performance u f p) = performance u f p
meant_post items (Post.Line u hour f l) = line u hour f l
meant_post items (Post.Installation u f i) = installation u f i.annuity i.maintenance
meant_post items (Post.Meter c m) = meter c m.withdrawals m.injections
meant_post items (Post.Point n s) = point n s
meant_post items (Post.Shed p s z rs) = shed p s.kw s.seconds z (items rs)

abbrev pub meant : {T R : Type 0} → (T → List Reading) → Call T R → Meant R
meant items (Call.Post p) = post (meant_post items p)
meant items (Call.Stage s) = stage s
