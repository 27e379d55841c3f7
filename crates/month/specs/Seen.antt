-- What the refusal table asks of a month: answered by the calls admitted so far, and by what a month holds.
use Rattle.std.specs.Prelude.{ℕ, ◌+◌, Bool, cond, ◌&&◌, List, Some, None, sum, Option, ◌==◌, nat_lt}
use Rattle.tables.specs.declared.units.Place.{Place}
use Rattle.worth.specs.declared.family.Family.{Family}
use Rattle.worth.specs.declared.line.Line.{Line}
use Rattle.worth.specs.declared.performance.Performance.{Performance}
use Rattle.worth.specs.declared.shedding.UnpaidLimits.{UnpaidLimits}
use Rattle.worth.specs.Families.{numbered}
use Rattle.worth.specs.Lines.{worth}
use Rattle.worth.specs.Performances.{factor}
use Rattle.worth.specs.Sheddings.{paid, worth as worth_of_shedding}
use Rattle.month.specs.declared.calls.Terms.{Terms}

-- The stages of a month.
pub data Phase : Type 0 where
  blank begun settled final : Phase

-- What stands before a month is opened.
abbrev pub no_terms : Terms
no_terms = record { period = 0; hours = 0; failure_cost = 0; count = 0; seconds = 0 }

pub record Seen : Type 0 where
  pub phase : Phase
  pub terms : Terms
  -- is this company registered, is it replaced, does it take part for another
  pub registered : ℕ → Bool
  pub replaced : ℕ → Bool
  pub replaces : ℕ → Bool
  -- who owns this unit and where is it, and how many are there
  pub place : ℕ → Option Place
  pub units : ℕ
  -- what was given of a unit: performance and installation by family, lines by hour and kind
  pub performed : ℕ → ℕ → Option Performance
  pub installed : ℕ → ℕ → Bool
  pub given : ℕ → ℕ → Line → Bool
  -- was this company's meter given
  pub metered : ℕ → Bool
  -- who supplies this point, how many sheddings it had and for how many seconds
  pub supplier : ℕ → Option ℕ
  pub shed_count : ℕ → ℕ
  pub shed_seconds : ℕ → ℕ
  -- how many sheddings and pots of sheddings there are
  pub sheddings : ℕ
  pub shed_pots : ℕ
  -- all credits together
  pub credits : ℕ
  -- whether a pot of a service is above 0 and its weights total 0
  pub stranded : Bool

-- The factor of a unit in a family; 0 where none is given.
abbrev pub factor_in : ℕ → Option Family → Option Performance → ℕ
factor_in hours None o = 0
factor_in hours (Some f) None = 0
factor_in hours (Some f) (Some p) = factor hours f p

-- What a line is worth after a performance was given, or none.
abbrev pub worth_of_line : Terms → ℕ → Option Performance → Line → ℕ
worth_of_line terms family performed line = worth line (factor_in terms.hours (numbered family) performed)

-- What a shedding is worth at a point that had so many, and so many seconds, before it: nothing where it is unpaid.
abbrev pub unpaid_limits : Terms → UnpaidLimits
unpaid_limits t = record { count = t.count; seconds = t.seconds }

abbrev pub worth_of_shed : Terms → ℕ → ℕ → ℕ → ℕ → ℕ
worth_of_shed terms count sum kw seconds =
    cond (paid (count + 1) (sum + seconds) (unpaid_limits terms)) (worth_of_shedding terms.failure_cost kw seconds) 0

-- Whether a pot above 0 has nobody to pay it.
abbrev pub strands : ℕ → List ℕ → Bool
strands cents weights = nat_lt 0 cents && sum weights == 0
