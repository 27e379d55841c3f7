-- What each call answers, and the book that it leaves.
use Rattle.std.specs.Prelude.{ℕ, Bool, true, false, ◌&&◌, List, [], ◌∷◌, ◌++◌, length, Some, None, Ok, Err, Option}
use Rattle.std.specs.Option.{unwrap_or}
use Rattle.prorating.specs.Laws.{Sharing}
use Rattle.payers.specs.Bases.{is_company}
use Rattle.payers.specs.Replacements.{is_replaced, is_substitute}
use Rattle.tables.specs.declared.units.Place.{Place}
use Rattle.tables.specs.declared.units.UnitRow.{UnitRow}
use Rattle.tables.specs.Accounts.{Held, Pot, entered}
use Rattle.tables.specs.Accounts.{shed as shed_in}
use Rattle.numbered.specs.Entries.{entry, with_entry}
use Rattle.tables.specs.Points.{Points, with_supplier, with_shedding}
use Rattle.tables.specs.Points.{point as point_in}
use Rattle.tables.specs.Units.{find, change, added, with_performance, with_installation, with_line}
use Rattle.tables.specs.Units.{place as place_in, performance as performance_in, installed as installed_in, given as given_in}
use Rattle.worth.specs.Installations.{worth as worth_of_installation}
use Rattle.month.specs.declared.calls.StageCall.{StageCall}
use Rattle.month.specs.declared.calls.Terms.{Terms}
use Rattle.month.specs.Meant.{Meant, post, stage, Posted, company, replace, unit, performance, line, installation, meter, point, shed}
use Rattle.month.specs.Seen.{Phase, begun, settled, final, Seen}
use Rattle.month.specs.Table.{Answer, first, post_rows, stage_rows, rows, line_worth, shed_worth, shed_weights}
use Rattle.month.specs.Pots.{some_strands, charged}
use Rattle.month.specs.Book.{Book, Metering}

-- The pots of services and their bases: 1 frequency and 2 voltage over withdrawals, 3 installations over injections.
abbrev pub service_pot : Book → ℕ → List ℕ → Pot
service_pot b service weights = record { cents = entry 3 0 b.accounts.services service; weights = weights }

abbrev pub service_pots : Book → List Pot
service_pots b =
    service_pot b 1 b.meters.withdrawals
    ∷ service_pot b 2 b.meters.withdrawals
    ∷ service_pot b 3 b.meters.injections
    ∷ []

-- All pots: those of services, then those of sheddings.
abbrev pub all_pots : Book → List Pot
all_pots b = service_pots b ++ b.accounts.pots

-- What a book tells the refusal table.
abbrev pub shown : Book → Seen
shown b =
    record {
      phase = b.phase;
      terms = b.terms;
      registered = λ c. entry 32 false b.registered c;
      replaced = λ c. is_company c && is_replaced b.participants c;
      replaces = λ c. is_substitute b.participants c;
      place = λ u. place_in (find b.units u);
      units = length b.units;
      performed = λ u f. performance_in f (find b.units u);
      installed = λ u f. installed_in f (find b.units u);
      given = λ u hour l. given_in hour l (find b.units u);
      metered = λ c. entry 32 false b.meters.given c;
      supplier = λ p. (point_in b.points p).supplier;
      shed_count = λ p. (point_in b.points p).count;
      shed_seconds = λ p. (point_in b.points p).seconds;
      sheddings = b.points.sheddings;
      shed_pots = length b.accounts.pots;
      credits = b.accounts.credits;
      stranded = some_strands (service_pots b);
    }

-- Who is credited: the owner of a unit, the supplier of a point; nobody, and so no company's number, where it is not registered.
abbrev pub owner_of : Option Place → ℕ
owner_of None = 0
owner_of (Some p) = p.owner

-- A book with some of it changed.
module _ (b : Book) where
  abbrev pub with_registered : List Bool → Book
  with_registered rs =
      record { phase = b.phase; charges = b.charges; terms = b.terms; registered = rs; participants = b.participants; units = b.units; meters = b.meters; points = b.points; accounts = b.accounts }

  abbrev pub with_participants : List ℕ → Book
  with_participants ps =
      record { phase = b.phase; charges = b.charges; terms = b.terms; registered = b.registered; participants = ps; units = b.units; meters = b.meters; points = b.points; accounts = b.accounts }

  abbrev pub with_units : List UnitRow → Held → Book
  with_units us held =
      record { phase = b.phase; charges = b.charges; terms = b.terms; registered = b.registered; participants = b.participants; units = us; meters = b.meters; points = b.points; accounts = held }

  abbrev pub with_meters : Metering → Book
  with_meters ms =
      record { phase = b.phase; charges = b.charges; terms = b.terms; registered = b.registered; participants = b.participants; units = b.units; meters = ms; points = b.points; accounts = b.accounts }

  abbrev pub with_points : Points → Held → Book
  with_points ps held =
      record { phase = b.phase; charges = b.charges; terms = b.terms; registered = b.registered; participants = b.participants; units = b.units; meters = b.meters; points = ps; accounts = held }

  abbrev pub with_phase : Phase → List (List ℕ) → Terms → Book
  with_phase p cs t =
      record { phase = p; charges = cs; terms = t; registered = b.registered; participants = b.participants; units = b.units; meters = b.meters; points = b.points; accounts = b.accounts }

-- The book after a post that is admitted.
abbrev pub post_done : Book → Posted → Book
post_done b (company n) = with_registered b (with_entry 32 b.registered n true)
post_done b (replace old new) = with_participants b (with_entry 32 b.participants old new)
post_done b (unit n o z) = with_units b (added b.units n o z) b.accounts
post_done b (performance u f p) = with_units b (change (with_performance f p) b.units u) b.accounts
post_done b (line u hour f l) =
    with_units b (change (with_line hour l) b.units u) (entered b.accounts (owner_of ((shown b).place u)) f (line_worth (shown b) u f l))
post_done b (installation u f a m) =
    with_units b (change (with_installation f) b.units u) (entered b.accounts (owner_of ((shown b).place u)) 3 (worth_of_installation a m))
post_done b (meter c w i) =
    with_meters b
    (record {
      given = with_entry 32 b.meters.given c true;
      withdrawals = with_entry 32 b.meters.withdrawals c w;
      injections = with_entry 32 b.meters.injections c i;
    })
post_done b (point n s) = with_points b (with_supplier b.points n s) b.accounts
post_done b (shed p kw seconds z rs) =
    with_points b (with_shedding b.points p seconds)
    (shed_in b.accounts (unwrap_or ((shown b).supplier p) 0) (shed_worth (shown b) p kw seconds) (shed_weights (shown b) z rs))

abbrev pub stage_done : {R : Type 0} → (R → Sharing) → Book → StageCall R → Book
stage_done share b (StageCall.Open t) = with_phase b begun [] t
stage_done share b (StageCall.Settle r) = with_phase b settled (charged (share r) b.participants (all_pots b)) b.terms
stage_done share b StageCall.Reopen = with_phase b begun [] b.terms
stage_done share b StageCall.Confirm = with_phase b final b.charges b.terms

-- The answers, by the refusal table.
abbrev pub post_answer : Book → Posted → Answer
post_answer b p = first (post_rows (shown b) p)

abbrev pub stage_answer : {R : Type 0} → Book → StageCall R → Answer
stage_answer b c = first (stage_rows (shown b) c)

-- The book after a call: as it was, where the call is refused.
abbrev pub on_ok : {X : Type 0} → Answer → X → X → X
on_ok (Ok u) x y = x
on_ok (Err e) x y = y

abbrev pub post_after : Book → Posted → Book
post_after b p = on_ok (post_answer b p) (post_done b p) b

abbrev pub stage_after : {R : Type 0} → (R → Sharing) → Book → StageCall R → Book
stage_after share b c = on_ok (stage_answer b c) (stage_done share b c) b

abbrev pub answer : {R : Type 0} → Book → Meant R → Answer
answer b m = first (rows (shown b) m)

abbrev pub done : {R : Type 0} → (R → Sharing) → Book → Meant R → Book
done share b (post p) = post_done b p
done share b (stage c) = stage_done share b c

abbrev pub after : {R : Type 0} → (R → Sharing) → Book → Meant R → Book
after share b m = on_ok (answer b m) (done share b m) b
