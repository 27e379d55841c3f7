-- What a call of one kind says, and else something given.
use Rattle.std.specs.Prelude.{ℕ, List}
use Rattle.worth.specs.declared.line.Line.{Line}
use Rattle.worth.specs.declared.performance.Performance.{Performance}
use Rattle.payers.specs.declared.readings.Reading.{Reading}
use Rattle.month.specs.declared.calls.StageCall.{StageCall}
use Rattle.month.specs.declared.calls.Terms.{Terms}
use Rattle.month.specs.Meant.{Meant, post, stage, company, replace, unit, performance, line, installation, meter, point, shed}

module _ {R X : Type 0} (d : X) where
  abbrev pub on_company : (ℕ → X) → Meant R → X
  on_company say (post (company n)) = say n
  on_company say (post (replace old new)) = d
  on_company say (post (unit n o z)) = d
  on_company say (post (performance u f p)) = d
  on_company say (post (line u t f l)) = d
  on_company say (post (installation u f a m)) = d
  on_company say (post (meter c w i)) = d
  on_company say (post (point n s)) = d
  on_company say (post (shed p kw s z rs)) = d
  on_company say (stage c) = d

  abbrev pub on_replace : (ℕ → ℕ → X) → Meant R → X
  on_replace say (post (company n)) = d
  on_replace say (post (replace old new)) = say old new
  on_replace say (post (unit n o z)) = d
  on_replace say (post (performance u f p)) = d
  on_replace say (post (line u t f l)) = d
  on_replace say (post (installation u f a m)) = d
  on_replace say (post (meter c w i)) = d
  on_replace say (post (point n s)) = d
  on_replace say (post (shed p kw s z rs)) = d
  on_replace say (stage c) = d

  abbrev pub on_unit : (ℕ → ℕ → ℕ → X) → Meant R → X
  on_unit say (post (company n)) = d
  on_unit say (post (replace old new)) = d
  on_unit say (post (unit n o z)) = say n o z
  on_unit say (post (performance u f p)) = d
  on_unit say (post (line u t f l)) = d
  on_unit say (post (installation u f a m)) = d
  on_unit say (post (meter c w i)) = d
  on_unit say (post (point n s)) = d
  on_unit say (post (shed p kw s z rs)) = d
  on_unit say (stage c) = d

  abbrev pub on_performance : (ℕ → ℕ → Performance → X) → Meant R → X
  on_performance say (post (company n)) = d
  on_performance say (post (replace old new)) = d
  on_performance say (post (unit n o z)) = d
  on_performance say (post (performance u f p)) = say u f p
  on_performance say (post (line u t f l)) = d
  on_performance say (post (installation u f a m)) = d
  on_performance say (post (meter c w i)) = d
  on_performance say (post (point n s)) = d
  on_performance say (post (shed p kw s z rs)) = d
  on_performance say (stage c) = d

  abbrev pub on_line : (ℕ → ℕ → ℕ → Line → X) → Meant R → X
  on_line say (post (company n)) = d
  on_line say (post (replace old new)) = d
  on_line say (post (unit n o z)) = d
  on_line say (post (performance u f p)) = d
  on_line say (post (line u t f l)) = say u t f l
  on_line say (post (installation u f a m)) = d
  on_line say (post (meter c w i)) = d
  on_line say (post (point n s)) = d
  on_line say (post (shed p kw s z rs)) = d
  on_line say (stage c) = d

  abbrev pub on_installation : (ℕ → ℕ → ℕ → ℕ → X) → Meant R → X
  on_installation say (post (company n)) = d
  on_installation say (post (replace old new)) = d
  on_installation say (post (unit n o z)) = d
  on_installation say (post (performance u f p)) = d
  on_installation say (post (line u t f l)) = d
  on_installation say (post (installation u f a m)) = say u f a m
  on_installation say (post (meter c w i)) = d
  on_installation say (post (point n s)) = d
  on_installation say (post (shed p kw s z rs)) = d
  on_installation say (stage c) = d

  abbrev pub on_meter : (ℕ → ℕ → ℕ → X) → Meant R → X
  on_meter say (post (company n)) = d
  on_meter say (post (replace old new)) = d
  on_meter say (post (unit n o z)) = d
  on_meter say (post (performance u f p)) = d
  on_meter say (post (line u t f l)) = d
  on_meter say (post (installation u f a m)) = d
  on_meter say (post (meter c w i)) = say c w i
  on_meter say (post (point n s)) = d
  on_meter say (post (shed p kw s z rs)) = d
  on_meter say (stage c) = d

  abbrev pub on_point : (ℕ → ℕ → X) → Meant R → X
  on_point say (post (company n)) = d
  on_point say (post (replace old new)) = d
  on_point say (post (unit n o z)) = d
  on_point say (post (performance u f p)) = d
  on_point say (post (line u t f l)) = d
  on_point say (post (installation u f a m)) = d
  on_point say (post (meter c w i)) = d
  on_point say (post (point n s)) = say n s
  on_point say (post (shed p kw s z rs)) = d
  on_point say (stage c) = d

  abbrev pub on_shed : (ℕ → ℕ → ℕ → ℕ → List Reading → X) → Meant R → X
  on_shed say (post (company n)) = d
  on_shed say (post (replace old new)) = d
  on_shed say (post (unit n o z)) = d
  on_shed say (post (performance u f p)) = d
  on_shed say (post (line u t f l)) = d
  on_shed say (post (installation u f a m)) = d
  on_shed say (post (meter c w i)) = d
  on_shed say (post (point n s)) = d
  on_shed say (post (shed p kw s z rs)) = say p kw s z rs
  on_shed say (stage c) = d

  abbrev pub on_open : (Terms → X) → Meant R → X
  on_open say (post p) = d
  on_open say (stage (StageCall.Open t)) = say t
  on_open say (stage (StageCall.Settle r)) = d
  on_open say (stage StageCall.Reopen) = d
  on_open say (stage StageCall.Confirm) = d

  abbrev pub on_settle : (R → X) → Meant R → X
  on_settle say (post p) = d
  on_settle say (stage (StageCall.Open t)) = d
  on_settle say (stage (StageCall.Settle r)) = say r
  on_settle say (stage StageCall.Reopen) = d
  on_settle say (stage StageCall.Confirm) = d
