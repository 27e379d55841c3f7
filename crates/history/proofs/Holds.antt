-- A book holds a history: what each part of it is in terms of the calls.
use Rattle.std.proofs.Common.{◌≡◌, ℕ, ◌+◌, ◌<◌, ◌≤◌, Bool, true, false, ◌&&◌, eqb, List, [], ◌∷◌, ◌++◌, length, Some, None, sum_by, sum, Option, unwrap_or, sym, ◌∙◌, arith}
use Rattle.std.proofs.lemmas.Bool.Decides.{nat_tests}
use Rattle.prorating.specs.Laws.{Sharing}
use Rattle.prorating.specs.Counts.{same_places}
use Rattle.prorating.specs.Weights.{limit}
use Rattle.payers.specs.Bases.{is_company, Based}
use Rattle.payers.specs.Companies.{by_company}
use Rattle.payers.specs.Replacements.{participant_of, is_replaced, is_substitute, TakesPart}
use Rattle.payers.specs.CompaniesLemmas.{weight_next, by_company_long, by_company_at}
use Rattle.tables.specs.declared.units.Place.{Place}
use Rattle.tables.specs.declared.units.UnitRow.{UnitRow}
use Rattle.tables.specs.Accounts.{Held, Pot, pot_at}
use Rattle.numbered.specs.Entries.{entry}
use Rattle.tables.specs.Points.{Points}
use Rattle.tables.specs.Points.{point as point_in}
use Rattle.tables.specs.Units.{find, are_owned}
use Rattle.tables.specs.Units.{place as place_in, performance as performance_in, installed as installed_in, given as given_in}
use Rattle.worth.specs.declared.line.Line.{Line}
use Rattle.worth.specs.declared.performance.Performance.{Performance}
use Rattle.month.specs.Answers.{is_charged}
use Rattle.month.specs.Book.{Book, Metering}
use Rattle.month.specs.Meant.{Meant}
use Rattle.month.specs.Pots.{some_strands}
use Rattle.month.specs.Seen.{strands}
use Rattle.month.specs.Steps.{shown, all_pots}
use Rattle.month.specs.Steps.{service_pots as service_pots_in}
use Rattle.history.specs.Kinds.{on_replace, on_meter, on_settle}
use Rattle.history.specs.History.{when, latest, phase, terms, registered, replaced, replaces, participants, place, units, performed, installed, given, metered, withdrawn, injected, supplier, shed_count, shed_seconds, sheddings, earned, credits, line_pot, installation_pot, shed_pots, service_pots, pots, charges, seen}

-- What the types of a month keep of its book.
pub record Sound (b : Book) : Type 0 where
  pub registered : length b.registered ≡ 32
  pub participants : length b.participants ≡ 32
  pub takes_part : (k : ℕ) → k < 32 → TakesPart b.participants k
  pub given : length b.meters.given ≡ 32
  pub withdrawals : length b.meters.withdrawals ≡ 32
  pub injections : length b.meters.injections ≡ 32
  pub points : length b.points.points ≡ 32
  pub earned : length b.accounts.earned ≡ 32
  pub hours : b.terms.hours ≤ 745
  pub owned : are_owned b.units ≡ true
  pub withdrawals_based : Based b.meters.withdrawals
  pub injections_based : Based b.meters.injections
  pub pots_based : (k : ℕ) (p : Pot) → pot_at b.accounts.pots k ≡ Some p → Based p.weights
  pub few_pots : length b.accounts.pots ≤ 16
  pub light : b.accounts.credits ≤ limit
  pub earned_sum : sum b.accounts.earned ≡ b.accounts.credits

pub record Companies (on : ℕ → Bool) (marks : List Bool) : Type 0 where
  pub is : (c : ℕ) → entry 32 false marks c ≡ on c

pub record Replacing (gone takes : ℕ → Bool) (by : ℕ → Option ℕ) (ps : List ℕ) : Type 0 where
  pub replaced : (c : ℕ) → (is_company c && is_replaced ps c) ≡ gone c
  pub replaces : (c : ℕ) → is_substitute ps c ≡ takes c
  pub participant : (c : ℕ) → is_company c ≡ true → participant_of ps c ≡ unwrap_or (by c) c

-- the tables of a row are as long as they are
pub record Wide (r : UnitRow) : Type 0 where
  pub performances : length r.performances ≡ 2
  pub installed : length r.installed ≡ 2
  pub given : length r.given ≡ 5960

pub record Units (at : ℕ → Option Place) (many : ℕ) (perf : ℕ → ℕ → Option Performance) (inst : ℕ → ℕ → Bool) (gave : ℕ → ℕ → Line → Bool) (us : List UnitRow) : Type 0 where
  pub place : (u : ℕ) → place_in (find us u) ≡ at u
  pub count : length us ≡ many
  pub performed : (u f : ℕ) → performance_in f (find us u) ≡ perf u f
  pub installed : (u f : ℕ) → installed_in f (find us u) ≡ inst u f
  pub given : (u hour : ℕ) (l : Line) → given_in hour l (find us u) ≡ gave u hour l
  pub wide : (u : ℕ) (r : UnitRow) → find us u ≡ Some r → Wide r

pub record Meters (on : ℕ → Bool) (w i : ℕ → Option ℕ) (m : Metering) : Type 0 where
  pub given : (c : ℕ) → entry 32 false m.given c ≡ on c
  pub withdrawals : (c : ℕ) → is_company c ≡ true → entry 32 0 m.withdrawals c ≡ unwrap_or (w c) 0
  pub injections : (c : ℕ) → is_company c ≡ true → entry 32 0 m.injections c ≡ unwrap_or (i c) 0

pub record Supplied (by : ℕ → Option ℕ) (many lasted : ℕ → ℕ) (all : ℕ) (ps : Points) : Type 0 where
  pub supplier : (p : ℕ) → (point_in ps p).supplier ≡ by p
  pub count : (p : ℕ) → (point_in ps p).count ≡ many p
  pub seconds : (p : ℕ) → (point_in ps p).seconds ≡ lasted p
  pub sheddings : ps.sheddings ≡ all
  -- whoever supplies a point is a company
  pub company : (p s : ℕ) → by p ≡ Some s → is_company s ≡ true

pub record Accounted (earn : ℕ → ℕ) (lines : ℕ → ℕ) (installations all : ℕ) (sheds : List Pot) (a : Held) : Type 0 where
  pub earned : (c : ℕ) → is_company c ≡ true → entry 32 0 a.earned c ≡ earn c
  pub services : a.services ≡ lines 1 ∷ lines 2 ∷ installations ∷ []
  pub credits : a.credits ≡ all
  pub pots : a.pots ≡ sheds
  -- the pots pay all that is credited
  pub paid : lines 1 + lines 2 + installations + sum_by (λ p. p.cents) sheds ≡ all

-- no pot is above 0 and has no weights
abbrev pub WeighedPots : List Pot → Type 0
WeighedPots pots = (k : ℕ) (p : Pot) → pot_at pots k ≡ Some p → strands p.cents p.weights ≡ false

module _ {R : Type 0} (share : R → Sharing) where
  pub record Holds (h : List (Meant R)) (b : Book) : Type 0 where
    pub phase : b.phase ≡ phase h
    pub terms : b.terms ≡ terms h
    pub charges : is_charged b.phase ≡ true → b.charges ≡ charges share h
    pub companies : Companies (registered h) b.registered
    pub replacing : Replacing (replaced h) (replaces h) (λ c. latest (on_replace None (λ old new. when (eqb old c) new)) h) b.participants
    pub units : Units (place h) (units h) (performed h) (installed h) (given h) b.units
    pub meters : Meters (metered h) (λ c. latest (on_meter None (λ d w i. when (eqb d c) w)) h) (λ c. latest (on_meter None (λ d w i. when (eqb d c) i)) h) b.meters
    pub points : Supplied (supplier h) (shed_count h) (shed_seconds h) (sheddings h) b.points
    pub accounts : Accounted (earned h) (line_pot h) (installation_pot h) (credits h) (shed_pots h) b.accounts
    -- every pot of a shedding has somebody to pay it, and in a settled month those of services too
    pub sheds_weighed : WeighedPots b.accounts.pots
    pub services_weighed : is_charged b.phase ≡ true → some_strands (service_pots_in b) ≡ false
    -- a settled month was settled by a rule
    pub ruled : is_charged b.phase ≡ true → (r : R) × (latest (on_settle None Some) h ≡ Some r)

-- a list of 32 is told by its entries
pub by_entries : (xs : List ℕ) (f : ℕ → ℕ) → length xs ≡ 32 → ((c : ℕ) → is_company c ≡ true → entry 32 0 xs c ≡ f c) → xs ≡ by_company f
by_entries xs f long each =
    same_places xs (by_company f) 32 long (by_company_long f)
    (λ k inside. sym (weight_next xs k inside) ∙ each (k + 1) (grind (arith, nat_tests)) ∙ sym (by_company_at f k inside))

module _ {R : Type 0} (share : R → Sharing) (h : List (Meant R)) (b : Book) (fit : Sound b) (k : Holds share h b) where
  pub same_participants : b.participants ≡ participants h
  same_participants = by_entries b.participants _ fit.participants k.replacing.participant

  same_withdrawals : b.meters.withdrawals ≡ by_company (withdrawn h)
  same_withdrawals = by_entries b.meters.withdrawals _ fit.withdrawals k.meters.withdrawals

  same_injections : b.meters.injections ≡ by_company (injected h)
  same_injections = by_entries b.meters.injections _ fit.injections k.meters.injections

  pub same_service_pots : service_pots_in b ≡ service_pots h
  same_service_pots =
      λ i. record { cents = entry 3 0 (k.accounts.services i) 1; weights = same_withdrawals i }
      ∷ record { cents = entry 3 0 (k.accounts.services i) 2; weights = same_withdrawals i }
      ∷ record { cents = entry 3 0 (k.accounts.services i) 3; weights = same_injections i }
      ∷ []

  -- so the refusal table is told the same
  pub sees : shown b ≡ seen h
  sees =
      λ i. record {
        phase = k.phase i;
        terms = k.terms i;
        registered = λ c. k.companies.is c i;
        replaced = λ c. k.replacing.replaced c i;
        replaces = λ c. k.replacing.replaces c i;
        place = λ u. k.units.place u i;
        units = k.units.count i;
        performed = λ u f. k.units.performed u f i;
        installed = λ u f. k.units.installed u f i;
        given = λ u hour l. k.units.given u hour l i;
        metered = λ c. k.meters.given c i;
        supplier = λ p. k.points.supplier p i;
        shed_count = λ p. k.points.count p i;
        shed_seconds = λ p. k.points.seconds p i;
        sheddings = k.points.sheddings i;
        shed_pots = length (k.accounts.pots i);
        credits = k.accounts.credits i;
        stranded = some_strands (same_service_pots i);
      }

  pub same_pots : all_pots b ≡ pots h
  same_pots = λ i. same_service_pots i ++ k.accounts.pots i
