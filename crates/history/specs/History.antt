-- The month in terms of the calls alone. A history is the list of the calls that were admitted, the newest first.
use Rattle.std.specs.Prelude.{ℕ, ◌+◌, ◌-◌, Bool, false, cond, ◌&&◌, ◌||◌, List, [], ◌∷◌, ◌++◌, length, replicate, ℤ, pos, ◌-ℤ◌, Some, None, Option, ◌==◌, nat_eq}
use Rattle.std.specs.Option.{unwrap_or}
use Rattle.prorating.specs.Laws.{Sharing}
use Rattle.payers.specs.Companies.{by_company}
use Rattle.payers.specs.Replacements.{weight_moved, moved}
use Rattle.payers.specs.Zones.{zone_weights}
use Rattle.tables.specs.declared.units.Place.{Place}
use Rattle.tables.specs.Accounts.{Pot, pot_at, with_pot}
use Rattle.tables.specs.Units.{owner_in}
use Rattle.worth.specs.declared.line.Line.{Line}
use Rattle.worth.specs.declared.performance.Performance.{Performance}
use Rattle.worth.specs.Lines.{kind}
use Rattle.worth.specs.Installations.{worth as worth_of_installation}
use Rattle.month.specs.declared.calls.StageCall.{StageCall}
use Rattle.month.specs.declared.calls.Terms.{Terms}
use Rattle.history.specs.Kinds.{on_company, on_replace, on_unit, on_performance, on_line, on_installation, on_meter, on_point, on_shed, on_open, on_settle}
use Rattle.month.specs.Meant.{Meant, post, stage}
use Rattle.month.specs.Seen.{Phase, blank, begun, settled, final, no_terms, Seen, worth_of_line, worth_of_shed}
use Rattle.month.specs.Figures.{charge_at, charge_over}
use Rattle.month.specs.Pots.{some_strands, charged}

-- the first that is there
abbrev pub either : {X : Type 0} → Option X → Option X → Option X
either None o = o
either (Some x) o = Some x

-- whether it is this one
abbrev pub is : Option ℕ → ℕ → Bool
is None c = false
is (Some o) c = o == c

-- more by what is brought, if anything is
abbrev pub plus : ℕ → Option ℕ → ℕ
plus n None = n
plus n (Some x) = n + x

abbrev pub when : {X : Type 0} → Bool → X → Option X
when t x = cond t (Some x) None

abbrev pub only : {X : Type 0} → Bool → Option X → Option X
only t o = cond t o None

-- who owns what is at a place
abbrev pub owner : Option Place → Option ℕ
owner None = None
owner (Some p) = Some p.owner

-- the cents and the weights of a pot; none of an unused one
abbrev pub cents_of : Option Pot → ℕ
cents_of None = 0
cents_of (Some p) = p.cents

abbrev pub weights_of : Option Pot → List ℕ
weights_of None = replicate 32 0
weights_of (Some p) = p.weights

module _ {R : Type 0} where
  -- Three ways to read a history: some call is so; what the newest that says it says; the sum of what each brings, given those before it.
  abbrev pub ever : (Meant R → Bool) → List (Meant R) → Bool
  ever p [] = false
  ever p (m ∷ h) = p m || ever p h

  abbrev pub latest : {X : Type 0} → (Meant R → Option X) → List (Meant R) → Option X
  latest f [] = None
  latest f (m ∷ h) = either (f m) (latest f h)

  abbrev pub total : (List (Meant R) → Meant R → Option ℕ) → List (Meant R) → ℕ
  total f [] = 0
  total f (m ∷ h) = plus (total f h) (f h m)

  -- The stage: the newest stage call says it.
  abbrev pub phase : List (Meant R) → Phase
  phase [] = blank
  phase (post p ∷ h) = phase h
  phase (stage (StageCall.Open t) ∷ h) = begun
  phase (stage (StageCall.Settle r) ∷ h) = settled
  phase (stage StageCall.Reopen ∷ h) = begun
  phase (stage StageCall.Confirm ∷ h) = final

  -- The figures that the month was opened with.
  abbrev pub terms : List (Meant R) → Terms
  terms h = unwrap_or (latest (on_open None Some) h) no_terms

  -- Companies: whether one is registered, whether another takes part for it, whether it takes part for another, and who takes part for it.
  abbrev pub registered : List (Meant R) → ℕ → Bool
  registered h c = ever (on_company false (λ n. nat_eq n c)) h

  abbrev pub replaced : List (Meant R) → ℕ → Bool
  replaced h c = ever (on_replace false (λ old new. nat_eq old c)) h

  abbrev pub replaces : List (Meant R) → ℕ → Bool
  replaces h c = ever (on_replace false (λ old new. nat_eq new c)) h

  abbrev pub participant : List (Meant R) → ℕ → ℕ
  participant h c = unwrap_or (latest (on_replace None (λ old new. when (old == c) new)) h) c

  abbrev pub participants : List (Meant R) → List ℕ
  participants h = by_company (participant h)

  -- Units: who owns one and where it is, how many there are, and what was given of one.
  abbrev pub place : List (Meant R) → ℕ → Option Place
  place h u = latest (on_unit None (λ n o z. when (n == u) (record { owner = o; zone = z }))) h

  abbrev pub units : List (Meant R) → ℕ
  units h = total (λ before. on_unit None (λ n o z. Some 1)) h

  abbrev pub performed : List (Meant R) → ℕ → ℕ → Option Performance
  performed h u f = latest (on_performance None (λ v g p. when (v == u && g == f) p)) h

  abbrev pub installed : List (Meant R) → ℕ → ℕ → Bool
  installed h u f = ever (on_installation false (λ v g a m. (v == u) && g == f)) h

  -- lines by hour and kind, whatever the family
  abbrev pub given : List (Meant R) → ℕ → ℕ → Line → Bool
  given h u hour l = ever (on_line false (λ v t g k. (v == u) && (t == hour && kind k == kind l))) h

  -- Meters: whether a company's was given, and its figures; one that was not given counts as 0.
  abbrev pub metered : List (Meant R) → ℕ → Bool
  metered h c = ever (on_meter false (λ d w i. nat_eq d c)) h

  abbrev pub withdrawn : List (Meant R) → ℕ → ℕ
  withdrawn h c = unwrap_or (latest (on_meter None (λ d w i. when (d == c) w)) h) 0

  abbrev pub injected : List (Meant R) → ℕ → ℕ
  injected h c = unwrap_or (latest (on_meter None (λ d w i. when (d == c) i)) h) 0

  -- Points: who supplies one, and how many sheddings it had and for how many seconds; how many there were at all points.
  abbrev pub supplier : List (Meant R) → ℕ → Option ℕ
  supplier h p = latest (on_point None (λ n s. when (n == p) s)) h

  abbrev pub shed_count : List (Meant R) → ℕ → ℕ
  shed_count h p = total (λ before. on_shed None (λ q kw s z rs. when (q == p) 1)) h

  abbrev pub shed_seconds : List (Meant R) → ℕ → ℕ
  shed_seconds h p = total (λ before. on_shed None (λ q kw s z rs. when (q == p) s)) h

  abbrev pub sheddings : List (Meant R) → ℕ
  sheddings h = total (λ before. on_shed None (λ p kw s z rs. Some 1)) h

  -- What a line and a shedding are worth, after those before it, and who pays for a shedding: those who injected in its zone.
  abbrev pub line_worth : List (Meant R) → ℕ → ℕ → Line → ℕ
  line_worth h u f l = worth_of_line (terms h) f (performed h u f) l

  abbrev pub shed_worth : List (Meant R) → ℕ → ℕ → ℕ → ℕ
  shed_worth h p kw s = worth_of_shed (terms h) (shed_count h p) (shed_seconds h p) kw s

  -- What a call is worth after those before it, and who earns it: a line and an installation the owner of the unit, a shedding the supplier of
  -- the point. Other calls are worth nothing.
  abbrev pub worth : List (Meant R) → Meant R → Option ℕ
  worth h m =
      on_line
      (on_installation
      (on_shed
      None
      (λ p kw s z rs. Some (shed_worth h p kw s)) m)
      (λ u f a y. Some (worth_of_installation a y)) m)
      (λ u t f l. Some (line_worth h u f l)) m

  abbrev pub earner : List (Meant R) → Meant R → Option ℕ
  earner h m =
      on_line
      (on_installation
      (on_shed
      None
      (λ p kw s z rs. supplier h p) m)
      (λ u f a y. owner (place h u)) m)
      (λ u t f l. owner (place h u)) m

  -- What a company earned, and all credits together.
  abbrev pub earned : List (Meant R) → ℕ → ℕ
  earned h c = total (λ before m. only (is (earner before m) c) (worth before m)) h

  abbrev pub credits : List (Meant R) → ℕ
  credits h = total (λ before m. worth before m) h

  -- The pots: of lines by family, of installations, and of sheddings, in the order in which they were admitted.
  abbrev pub line_pot : List (Meant R) → ℕ → ℕ
  line_pot h f = total (λ before. on_line None (λ u t g l. when (g == f) (line_worth before u g l))) h

  abbrev pub installation_pot : List (Meant R) → ℕ
  installation_pot h = total (λ before. on_installation None (λ u f a y. Some (worth_of_installation a y))) h

  abbrev pub shed_pots : List (Meant R) → List Pot
  shed_pots [] = []
  shed_pots (m ∷ h) =
      on_shed (shed_pots h) (λ p kw s z rs. with_pot (shed_pots h) (shed_worth h p kw s) (zone_weights (λ u. owner_in (place h u)) z rs)) m

  -- Their bases: withdrawals for frequency and voltage, injections for installations, and the zone's hour for a shedding.
  abbrev pub service_pots : List (Meant R) → List Pot
  service_pots h =
      record { cents = line_pot h 1; weights = by_company (withdrawn h) }
      ∷ record { cents = line_pot h 2; weights = by_company (withdrawn h) }
      ∷ record { cents = installation_pot h; weights = by_company (injected h) }
      ∷ []

  abbrev pub pots : List (Meant R) → List Pot
  pots h = service_pots h ++ shed_pots h

  -- A company's credit: what all those earned that it takes part for, itself included; nothing for one that is replaced.
  abbrev pub credit : List (Meant R) → ℕ → ℕ
  credit h c = weight_moved (participants h) (by_company (earned h)) c

  -- The charges, by pot and company: the shares that the rule of the last settlement means, over the weights under replacement.
  abbrev pub charges_by_rule : (R → Sharing) → List ℕ → List Pot → Option R → List (List ℕ)
  charges_by_rule share ps pots None = []
  charges_by_rule share ps pots (Some r) = charged (share r) ps pots

  abbrev pub charges : (R → Sharing) → List (Meant R) → List (List ℕ)
  charges share h = charges_by_rule share (participants h) (pots h) (latest (on_settle None Some) h)

  -- Pots by number: 1 frequency, 2 voltage, 3 installations, 4 to 19 sheddings.
  abbrev pub pot : List (Meant R) → ℕ → Option Pot
  pot h p = pot_at (pots h) (p - 1)

  -- The weights of a pot under replacement.
  abbrev pub pot_weights : List (Meant R) → ℕ → List ℕ
  pot_weights h p = moved (participants h) (weights_of (pot h p))

  -- What a company is charged of a pot and over all pots; its net; what it owes and what is due to it.
  module _ (share : R → Sharing) (h : List (Meant R)) where
    abbrev pub pot_charge : ℕ → ℕ → ℕ
    pot_charge p c = charge_at (charges share h) c p

    abbrev pub charge : ℕ → ℕ
    charge c = charge_over (charges share h) c

    abbrev pub net : ℕ → ℤ
    net c = pos (credit h c) -ℤ pos (charge c)

    abbrev pub debts : List ℕ
    debts = by_company (λ c. charge c - credit h c)

    abbrev pub dues : List ℕ
    dues = by_company (λ c. credit h c - charge c)

  -- What the refusal table asks, answered by the calls.
  abbrev pub seen : List (Meant R) → Seen
  seen h =
      record {
        phase = phase h;
        terms = terms h;
        registered = λ c. registered h c;
        replaced = λ c. replaced h c;
        replaces = λ c. replaces h c;
        place = λ u. place h u;
        units = units h;
        performed = λ u f. performed h u f;
        installed = λ u f. installed h u f;
        given = λ u hour l. given h u hour l;
        metered = λ c. metered h c;
        supplier = λ p. supplier h p;
        shed_count = λ p. shed_count h p;
        shed_seconds = λ p. shed_seconds h p;
        sheddings = sheddings h;
        shed_pots = length (shed_pots h);
        credits = credits h;
        stranded = some_strands (service_pots h);
      }
