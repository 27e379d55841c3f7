-- What a month holds, without the facts that its types keep.
use Rattle.std.specs.Prelude.{ℕ, Bool, false, List, [], replicate}
use Rattle.std.specs.List.{range_with_len}
use Rattle.tables.specs.declared.units.UnitRow.{UnitRow}
use Rattle.tables.specs.Accounts.{Held, nothing_held}
use Rattle.tables.specs.Points.{Points, no_points}
use Rattle.tables.specs.Tables.{listed, points_of, held}
use Rattle.month.specs.declared.calls.Terms.{Terms}
use Rattle.month.specs.declared.month.Month.{Month}
use Rattle.month.specs.declared.month.Stage.{Stage}
use Rattle.month.specs.declared.month.Stage.TheVariants.{Blank, Open, Settled, Final}
use Rattle.month.specs.Seen.{Phase, blank, begun, settled, final, no_terms}

pub record Metering : Type 0 where
  pub given : List Bool
  pub withdrawals : List ℕ
  pub injections : List ℕ

pub record Book : Type 0 where
  pub phase : Phase
  -- by pot and company; none where the month is neither settled nor final
  pub charges : List (List ℕ)
  pub terms : Terms
  pub registered : List Bool
  pub participants : List ℕ
  pub units : List UnitRow
  pub meters : Metering
  pub points : Points
  pub accounts : Held

abbrev pub phase_of : Stage → Phase
phase_of Blank = blank
phase_of Open = begun
phase_of (Settled c) = settled
phase_of (Final c) = final

abbrev pub charges_in : Stage → List (List ℕ)
charges_in Blank = []
charges_in Open = []
charges_in (Settled c) = c.of_pots
charges_in (Final c) = c.of_pots

abbrev pub book : Month → Book
book m =
    record {
      phase = phase_of m.stage;
      charges = charges_in m.stage;
      terms = m.terms;
      registered = m.registered.at;
      participants = m.replacements.participants;
      units = listed m.units;
      meters = record { given = m.metered.at; withdrawals = m.meters.withdrawals; injections = m.meters.injections };
      points = points_of m.points;
      accounts = held m.accounts;
    }

abbrev pub blank_book : Book
blank_book =
    record {
      phase = blank;
      charges = [];
      terms = no_terms;
      registered = replicate 32 false;
      participants = range_with_len 1 32;
      units = [];
      meters = record { given = replicate 32 false; withdrawals = replicate 32 0; injections = replicate 32 0 };
      points = no_points;
      accounts = nothing_held;
    }
