-- The weights of a zone's hour: one more reading, and their total.
use Rattle.std.proofs.Common.{◌≡◌, ℕ, ◌+◌, ◌-◌, ◌<◌, ◌≤◌, true, false, cond, eqb, List, [], ◌∷◌, length, get_or, take, replicate, is_some, Some, None, sum_by, sum, Option, sym, refl, ap, ◌∙◌, ⊎_elim, arith}
use Rattle.std.specs.List.{range_with_len}
use Rattle.std.proofs.lemmas.List.{take_all, get_or-set_same, get_or-set_other}
use Rattle.std.proofs.lemmas.List.Sums.{sum_by-cons, sum_by_more, sum_by-take-le}
use Rattle.std.proofs.lemmas.Bool.{cases_eq}
use Rattle.std.proofs.lemmas.Bool.Decides.{nat_tests}
use Rattle.prorating.specs.Counts.{same_places}
use Rattle.payers.specs.declared.readings.Reading.{Reading}
use Rattle.numbered.specs.Entries.{with_entry}
use Rattle.payers.specs.Bases.{is_company, weight_of}
use Rattle.payers.specs.Zones.{Owner, is_owner, are_readings, injected, zone_weights, zone_kwh}
use Rattle.payers.specs.Companies.{by_company}
use Rattle.payers.specs.CompaniesLemmas.{entry_long, weight_small, by_company_long, by_company_at, by_company_sum}
use Rattle.payers.specs.Runs.{sum_zero, sum_only, sum_exchange}
use Rattle.payers.proofs.ReadingLists.{no_reading, kwh_small}

-- what one reading of an owner's unit adds for a company, and in all
abbrev share : Option ℕ → ℕ → ℕ → ℕ
share owner kwh company = cond (is_owner company owner) kwh 0

abbrev counted : Option ℕ → ℕ → ℕ
counted owner kwh = cond (is_some owner) kwh 0

-- the weights after a reading
abbrev pub added : List ℕ → ℕ → Option ℕ → List ℕ
added ws kwh None = ws
added ws kwh (Some company) = with_entry 32 ws company (weight_of ws company + kwh)

abbrev pub Company : Option ℕ → Type 0
Company owner = (c : ℕ) → owner ≡ Some c → is_company c ≡ true

added_long : (ws : List ℕ) (kwh : ℕ) (owner : Option ℕ) → length (added ws kwh owner) ≡ length ws
added_long ws kwh None = refl
added_long ws kwh (Some c) = entry_long ws c (weight_of ws c + kwh)

added_at : (ws : List ℕ) (kwh : ℕ) (owner : Option ℕ) (k : ℕ) → length ws ≡ 32 → Company owner → k < 32 → get_or (added ws kwh owner) k 0 ≡ get_or ws k 0 + share owner kwh (k + 1)
added_at ws kwh None k long company below = omega arith
added_at ws kwh (Some c) k long company below =
    let one = company c refl in
    let first : 0 < c = grind (arith, nat_tests) in
    ⊎_elim
    (λ same.
    let here : eqb c (k + 1) ≡ true = grind (arith, nat_tests) in
    rw (one, ← same, here) (get_or-set_same ws k (get_or ws k 0 + kwh) 0 (omega arith)))
    (λ other.
    let away : eqb c (k + 1) ≡ false = grind (arith, nat_tests) in
    rw (one, away) (get_or-set_other ws (c - 1) k (get_or ws (c - 1) 0 + kwh) 0 (omega arith) ∙ omega arith))
    (cases_eq k (c - 1))

module _ (owner : Owner) (zone : ℕ) where
  pub weights_long : (rs : List Reading) → length (zone_weights owner zone rs) ≡ 32
  unfolding zone_weights
  weights_long rs = by_company_long (injected owner zone rs)

  weights_at : (rs : List Reading) (k : ℕ) → k < 32 → get_or (zone_weights owner zone rs) k 0 ≡ injected owner zone rs (k + 1)
  unfolding zone_weights
  weights_at rs k below = by_company_at (injected owner zone rs) k below

  injected_more : (rs : List Reading) (i company : ℕ) → i < length rs → injected owner zone (take (i + 1) rs) company ≡ injected owner zone (take i rs) company + share (owner (get_or rs i no_reading).unit zone) (get_or rs i no_reading).kwh company
  unfolding injected
  injected_more rs i company inside = sum_by_more (λ r. share (owner r.unit zone) r.kwh company) rs i no_reading inside

  pub weights_more : (rs : List Reading) (i : ℕ) → i < length rs → Company (owner (get_or rs i no_reading).unit zone) → added (zone_weights owner zone (take i rs)) (get_or rs i no_reading).kwh (owner (get_or rs i no_reading).unit zone) ≡ zone_weights owner zone (take (i + 1) rs)
  weights_more rs i inside company =
      let ws = zone_weights owner zone (take i rs) in
      let r = get_or rs i no_reading in
      let long = weights_long (take i rs) in
      same_places (added ws r.kwh (owner r.unit zone)) (zone_weights owner zone (take (i + 1) rs)) 32
      (added_long ws r.kwh (owner r.unit zone) ∙ long)
      (weights_long (take (i + 1) rs))
      (λ k below. added_at ws r.kwh (owner r.unit zone) k long company below
      ∙ ap (λ n. n + share (owner r.unit zone) r.kwh (k + 1)) (weights_at (take i rs) k below)
      ∙ sym (injected_more rs i (k + 1) inside)
      ∙ sym (weights_at (take (i + 1) rs) k below))

  pub weights_all : (rs : List Reading) (ws : List ℕ) (i : ℕ) → ws ≡ zone_weights owner zone (take i rs) → length rs ≤ i → ws ≡ zone_weights owner zone rs
  weights_all rs ws i are past = are ∙ ap (zone_weights owner zone) (take_all i rs past)

  pub weights_none : zone_weights owner zone [] ≡ replicate 32 0
  unfolding zone_weights by_company injected
  weights_none = refl

-- what one reading adds for the companies together
all_shares : (owner : Option ℕ) (kwh : ℕ) → Company owner → sum_by (share owner kwh) (range_with_len 1 32) ≡ counted owner kwh
all_shares None kwh company = sum_zero (range_with_len 1 32)
all_shares (Some c) kwh company =
    let one = company c refl in
    sum_only c kwh 1 32 (grind (arith, nat_tests)) (grind (arith, nat_tests))

-- where every owner is a company
module _ (owner : Owner) (zone : ℕ) (company : (unit place : ℕ) → Company (owner unit place)) where
  -- nothing is counted twice, and nothing is lost
  pub weights_total : (rs : List Reading) → sum (zone_weights owner zone rs) ≡ zone_kwh owner zone rs
  unfolding zone_weights injected zone_kwh
  weights_total rs =
      by_company_sum (injected owner zone rs)
      ∙ sum_exchange (λ one r. share (owner r.unit zone) r.kwh one) (range_with_len 1 32) rs
      ∙ (λ i. sum_by (λ r. all_shares (owner r.unit zone) r.kwh (company r.unit zone) i) rs)

  -- and the total is at most the kWh of all the readings
  counted_small : (o : Option ℕ) (kwh : ℕ) → counted o kwh ≤ kwh
  counted_small None kwh = omega arith
  counted_small (Some c) kwh = omega arith

  zone_small : (rs : List Reading) → zone_kwh owner zone rs ≤ sum_by (λ r. r.kwh) rs
  unfolding zone_kwh
  zone_small [] = omega arith
  zone_small (r ∷ rs) =
      omega (
        arith,
        counted_small (owner r.unit zone) r.kwh,
        zone_small rs,
        sum_by-cons (λ (r : Reading). counted (owner r.unit zone) r.kwh) r rs,
        sum_by-cons (λ (r : Reading). r.kwh) r rs,
      )

  weights_small : (rs : List Reading) → sum (zone_weights owner zone rs) ≤ sum_by (λ r. r.kwh) rs
  weights_small rs = omega (arith, weights_total rs, zone_small rs)

  pub weights_light : (rs : List Reading) → are_readings rs ≡ true → sum (zone_weights owner zone rs) ≤ 96_000_000
  weights_light rs are = omega (arith, weights_small rs, kwh_small rs are)

  -- there is room for one more reading
  pub weight_fits : (rs : List Reading) (i one : ℕ) → are_readings rs ≡ true → i < length rs → weight_of (zone_weights owner zone (take i rs)) one + (get_or rs i no_reading).kwh ≤ 96_000_000
  weight_fits rs i one are inside =
      let ws = zone_weights owner zone (take i rs) in
      omega (
        arith,
        weight_small ws one (weights_long owner zone (take i rs)),
        weights_small (take i rs),
        sum_by_more (λ (r : Reading). r.kwh) rs i no_reading inside,
        sum_by-take-le (λ (r : Reading). r.kwh) rs (i + 1),
        kwh_small rs are,
      )
