-- The fleet that comes first of those of planets that are held, and what comes first of an item and a fleet.
use Rattle.std.proofs.Common.{◌≡◌, ℕ, ◌<◌, ◌≤◌, ◌&&◌, inl, inr, Bool, true, false, cond, List, [], ◌∷◌, arith, refl, ap, ◌∙◌, sym, subst, Option, Some, None}
use Rattle.std.proofs.lemmas.Bool.Decides.{nat_tests}
use Rattle.std.specs.Prelude.{MatchOption, nat_le, option_map}
use Rattle.std.specs.BTreeMap.{get, is_at}
use Rattle.std.specs.List.{AllByRecursion}
use Rattle.base_ids.specs.Cells.{same_cell}
use Rattle.base_ids.specs.Order.{EventKey, key_before}
use Rattle.base_ids.specs.declared.cell_id.CellId.TheVariants.{Planet}
use Rattle.base_ids.specs.declared.coord.Coord.{Coord}
use Rattle.fleet_rec.specs.Fleet.{fleet_seen}
use Rattle.fleet_rec.specs.Fleets.{coming_by, coming_key, first_fleet, sooner_fleet}
use Rattle.fleet_rec.specs.declared.fleet.Fleet.{Fleet as FleetRecord}
use Rattle.laziness.proofs.Bringing.{never, test}
use Rattle.tick_model.specs.Events.{coming, fights, key_of, landing_step, lands}
use Rattle.tick_model.specs.Flights.{landing}
use Rattle.tick_model.specs.Raids.{Raid, attacks, raid_of}
use Rattle.tick_model.specs.Rules.{IsIn}
use Rattle.tick_model.specs.Universe.{Fleet, Item}
use Rattle.tick_model.proofs.Keys.{key-not_before, key-one_way}
use Rattle.tick_model.proofs.Lists.{and-from, and-is, cell-from, cell-is, fails, from-filter, in-filter}
use Rattle.happenings.specs.Due.{IsFirstOfQueues, IsFirstOwed, IsNoneOfQueues, key_at, sooner_of}
use Rattle.happenings.specs.Happening.{IsFirstComing, IsFirstDue, IsNoneComing, IsNothingDue, coming_in, coming_key_of, first_of_two}
use Rattle.happenings.specs.Held.{planet_stand}
use Rattle.happenings.specs.Landings.{LandsIn}
use Rattle.happenings.specs.Orders.{place_order}
use Rattle.happenings.specs.Queues.{event_of, items_held, seen_held, seen_of}
use Rattle.happenings.specs.declared.due.Due.{Due}
use Rattle.happenings.specs.declared.happening.Happening.{Happening}
use Rattle.happenings.specs.declared.happening.Happening.TheVariants.{Item as ItemDue, Coming}
use Rattle.happenings.specs.declared.held.Held.{Held}
use Rattle.happenings.specs.declared.held.PlanetCell.{PlanetCell}
use Rattle.happenings.specs.declared.queue.Queue.{Queue}
use Rattle.happenings.proofs.Firsts.{NotSooner}
use Rattle.happenings.proofs.Keys.{found_holds, place_is}
use Rattle.happenings.proofs.Owing.{key-is, planet_there}

-- the fleet that comes first to a planet that is held
abbrev pub coming_owed : ℕ → Coord × PlanetCell → Option Fleet
coming_owed moment entry = first_fleet (coming_by entry.0 moment entry.1.fleets)

-- the first of two fleets is seen as the first of two
at-seen : (b : Bool) (one other : FleetRecord) → cond b (Some (fleet_seen other)) (Some (fleet_seen one)) ≡ option_map fleet_seen (cond b (Some other) (Some one))
at-seen true one other = refl
at-seen false one other = refl

pub sooner-seen : (one other : Option FleetRecord) → sooner_of coming_key (option_map fleet_seen one) (option_map fleet_seen other) ≡ option_map fleet_seen (sooner_of coming_key_of one other)
sooner-seen None other = refl
sooner-seen (Some one) None = refl
sooner-seen (Some one) (Some other) = at-seen (key_before (coming_key_of other) (coming_key_of one)) one other

-- The fleets that come to a place.

abbrev comes_here : Coord → ℕ → Fleet → Bool
comes_here at moment fleet = same_cell (Planet (landing fleet)) (Planet at) && nat_le fleet.second moment

due-here : (at : Coord) (moment : ℕ) (fleets : List Fleet) (fleet : Fleet) → IsIn fleet fleets → landing fleet ≡ at → fleet.second ≤ moment → IsIn fleet (coming_by at moment fleets)
due-here at moment fleets fleet is place by =
    let due : nat_le fleet.second moment ≡ true = grind (arith, nat_tests) in
    in-filter (comes_here at moment) fleet fleets is
    (and-from (same_cell (Planet (landing fleet)) (Planet at)) (nat_le fleet.second moment) (cell-from (Planet (landing fleet)) (Planet at) (ap Planet place)) due)

-- a fleet that comes to a place
record IsDueHere (at : Coord) (moment : ℕ) (fleets : List Fleet) (fleet : Fleet) : Type 0 where
  within : IsIn fleet fleets
  place : landing fleet ≡ at
  by : fleet.second ≤ moment

from-due : (at : Coord) (moment : ℕ) (fleets : List Fleet) (fleet : Fleet) → IsIn fleet (coming_by at moment fleets) → IsDueHere at moment fleets fleet
from-due at moment fleets fleet is =
    let both = from-filter (comes_here at moment) fleet fleets is in
    let parts = and-is (same_cell (Planet (landing fleet)) (Planet at)) (nat_le fleet.second moment) both.1 in
    let due : nat_le fleet.second moment ≡ true = parts.1 in
    let same : Planet (landing fleet) ≡ Planet at = cell-is (Planet (landing fleet)) (Planet at) parts.0 in
    record { within = both.0; place = (let one : landing fleet ≡ at = cc in one); by = grind (arith, nat_tests) }

-- The first of some fleets.

key-itself : (key : EventKey) → key_before key key ≡ false
key-itself key = fails (key_before key key) (λ before. never (key_before key key) before (key-one_way key key before))

pub record IsFirstFleet (fleets : List Fleet) (first_one : Fleet) : Type 0 where
  pub within : IsIn first_one fleets
  pub first : (fleet : Fleet) → IsIn fleet fleets → key_before (coming_key fleet) (coming_key first_one) ≡ false

first-at : (fleet other : Fleet) (fleets : List Fleet) (b : Bool) → key_before (coming_key other) (coming_key fleet) ≡ b → IsFirstFleet fleets other → IsFirstFleet (fleet ∷ fleets) (cond b other fleet)
first-at fleet other fleets true before rest = record {
  within = inr rest.within;
  first = λ x is. elim is [
    | inl same ↦ subst (λ f. key_before (coming_key f) (coming_key other) ≡ false) (sym same) (key-one_way (coming_key other) (coming_key fleet) before)
    | inr later ↦ rest.first x later
  ];
}
first-at fleet other fleets false after rest = record {
  within = inl refl;
  first = λ x is. elim is [
    | inl same ↦ subst (λ f. key_before (coming_key f) (coming_key fleet) ≡ false) (sym same) (key-itself (coming_key fleet))
    | inr later ↦ key-not_before (coming_key x) (coming_key other) (coming_key fleet) (rest.first x later) after
  ];
}

first-alone : (fleet : Fleet) (fleets : List Fleet) → fleets ≡ [] → IsFirstFleet (fleet ∷ fleets) fleet
first-alone fleet fleets none = record {
  within = inl refl;
  first = λ x is. elim is [
    | inl same ↦ subst (λ f. key_before (coming_key f) (coming_key fleet) ≡ false) (sym same) (key-itself (coming_key fleet))
    | inr later ↦ absurd (subst (IsIn x) none later)
  ];
}

first-from : (fleet : Fleet) (fleets : List Fleet) (rest : Option Fleet) → MatchOption rest (fleets ≡ []) (IsFirstFleet fleets) → (o : Option Fleet) → Some (sooner_fleet fleet rest) ≡ o
    → MatchOption o (fleet ∷ fleets ≡ []) (IsFirstFleet (fleet ∷ fleets))
first-from fleet fleets None none o is = subst (λ o. MatchOption o (fleet ∷ fleets ≡ []) (IsFirstFleet (fleet ∷ fleets))) is (first-alone fleet fleets none)
first-from fleet fleets (Some other) rest o is =
    subst (λ o. MatchOption o (fleet ∷ fleets ≡ []) (IsFirstFleet (fleet ∷ fleets))) is
    (first-at fleet other fleets (key_before (coming_key other) (coming_key fleet)) refl rest)

first-is : (fleets : List Fleet) (o : Option Fleet) → first_fleet fleets ≡ o → MatchOption o (fleets ≡ []) (IsFirstFleet fleets)
first-is [] None is = refl
first-is [] (Some fleet) is = absurd (cc is)
first-is (fleet ∷ fleets) o is = first-from fleet fleets (first_fleet fleets) (first-is fleets (first_fleet fleets) refl) o is

-- the entry of the planet at which a fleet lands
record FliesAt (P : Coord × PlanetCell → Type 0) (at : Coord) (fleet : Fleet) : Type 0 where
  cell : PlanetCell
  holds : P (at, cell)
  flies : IsIn fleet cell.fleets

flies-at : (held : Held) (P : Coord × PlanetCell → Type 0) (at : Coord) (o : Option PlanetCell) (fleet : Fleet) → AllByRecursion P held.planets.entries
    → get place_order held.planets at ≡ o → IsIn fleet (seen_of (option_map planet_stand o)).fleets → FliesAt P at fleet
flies-at held P at None fleet all found is = absurd is
flies-at held P at (Some cell) fleet all found is =
    let entry = found_holds (is_at (place_order at)) P held.planets.entries cell all found in
    record { cell = cell; holds = subst (λ k. P (k, cell)) (sym (place_is at entry.0 entry.1)) entry.2; flies = is }

nothing-in : {A : Type 0} (x : A) (xs : List A) → xs ≡ [] → IsIn x xs → ⊥
nothing-in x xs none is = subst (IsIn x) none is

none-coming : (held : Held) (moment : ℕ) → AllByRecursion (λ e. coming_owed moment e ≡ None) held.planets.entries → IsNoneComing held moment
none-coming held moment all fleet is =
    let at = landing fleet in
    let here = flies-at held (λ e. coming_owed moment e ≡ None) at (get place_order held.planets at) fleet all refl is in
    let due = coming_by at moment here.cell.fleets in
    elim (test (nat_le fleet.second moment)) [
      | inl yes_due ↦ (let by : fleet.second ≤ moment = grind (arith, nat_tests) in absurd (nothing-in fleet due (first-is due None here.holds) (due-here at moment here.cell.fleets fleet here.flies refl by)))
      | inr later ↦ (let not_yet : moment < fleet.second = grind (arith, nat_tests) in not_yet)
    ]

-- no fleet of a list comes before what isn't after its first
not-before : (fleets : List Fleet) (found : Option Fleet) (fleet due : Fleet) → first_fleet fleets ≡ found → IsIn fleet fleets → NotSooner coming_key found due → key_before (coming_key fleet) (coming_key due) ≡ false
not-before fleets None fleet due is within first = absurd (nothing-in fleet fleets (first-is fleets None is) within)
not-before fleets (Some least) fleet due is within first =
    key-not_before (coming_key fleet) (coming_key least) (coming_key due) ((first-is fleets (Some least) is).first fleet within) (first least refl)

coming-after : (held : Held) (moment : ℕ) (due : Fleet) → AllByRecursion (λ e. NotSooner coming_key (coming_owed moment e) due) held.planets.entries
    → (fleet : Fleet) → LandsIn held fleet → fleet.second ≤ moment → key_before (coming_key fleet) (coming_key due) ≡ false
coming-after held moment due all fleet is by =
    let at = landing fleet in
    let here = flies-at held (λ e. NotSooner coming_key (coming_owed moment e) due) at (get place_order held.planets at) fleet all refl is in
    let fleets = coming_by at moment here.cell.fleets in
    not-before fleets (first_fleet fleets) fleet due refl (due-here at moment here.cell.fleets fleet here.flies refl by) here.holds

-- the first of what planets have is the fleet that comes first
pub comings_first : (held : Held) (moment : ℕ) (found : Option FleetRecord) → IsFirstOwed coming_key (coming_owed moment) (planet_there held) held.planets.entries (option_map fleet_seen found)
    → MatchOption found (IsNoneComing held moment) (IsFirstComing held moment)
comings_first held moment None all = none-coming held moment all
comings_first held moment (Some fleet) (found, all) =
    let entry = found.0 in
    let fleets = coming_by entry.0 moment entry.1.fleets in
    let first = first-is fleets (Some (fleet_seen fleet)) found.2 in
    let here = from-due entry.0 moment entry.1.fleets (fleet_seen fleet) first.within in
    let place : get place_order held.planets (landing (fleet_seen fleet)) ≡ Some entry.1 = ap (get place_order held.planets) here.place ∙ found.1 in
    record {
      owed = subst (λ o. IsIn (fleet_seen fleet) (seen_of (option_map planet_stand o)).fleets) (sym place) here.within;
      due_by = here.by;
      first = coming-after held moment (fleet_seen fleet) all;
    }

-- What comes first of an item and a fleet.

item-first : (held : Held) (moment : ℕ) (due : Due) → IsFirstOfQueues held moment due → ((fleet : Fleet) → LandsIn held fleet → fleet.second ≤ moment → key_before (coming_key fleet) (key_at due) ≡ false)
    → IsFirstDue held moment (ItemDue due)
item-first held moment due is fleets =
    let key = key-is due.queue is.item is.later due refl is.second is.number in
    record {
      event = event_of due.queue is.item is.later;
      owed = record { item = is.item; later = is.later; owed = is.owed; second = is.second; is = refl };
      due_by = is.due_by;
      items = λ queue item later here by. ap (key_before (key_of (event_of queue item later))) key ∙ is.first queue item later refl here by;
      fleets = λ fleet comes_there by. ap (key_before (coming_key fleet)) key ∙ fleets fleet comes_there by;
    }

-- a fleet comes to an event with its key
key-at : (raid : Raid) (fleet : Fleet) (b : Bool) → raid.second ≡ fleet.second → raid.group ≡ fleet.group
    → key_of (cond b (fights raid) (lands fleet)) ≡ cond b (record { second = fleet.second; number = fleet.group; step = 5 }) (record { second = fleet.second; number = fleet.number; step = landing_step fleet })
key-at raid fleet true second group = λ i. record { second = second i; number = group i; step = 5 }
key-at raid fleet false second group = refl

pub key-coming : (fleets : List Fleet) (fleet : Fleet) → key_of (coming fleets fleet) ≡ coming_key fleet
key-coming fleets fleet = key-at (raid_of fleets fleet) fleet (attacks fleet) refl refl

coming-first : (held : Held) (moment : ℕ) (fleet : FleetRecord) → IsFirstComing held moment fleet
    → ((queue : Queue) (item : Item) (later : List Item) → items_held held queue ≡ item ∷ later → item.second ≤ moment → key_before (key_of (event_of queue item later)) (coming_key_of fleet) ≡ false)
    → IsFirstDue held moment (Coming fleet)
coming-first held moment fleet is items =
    let key = key-coming (seen_held held (Planet (landing (fleet_seen fleet)))).fleets (fleet_seen fleet) in
    record {
      event = coming_in held (fleet_seen fleet);
      owed = record { owed = is.owed; is = refl };
      due_by = is.due_by;
      items = λ queue item later here by. ap (key_before (key_of (event_of queue item later))) key ∙ items queue item later here by;
      fleets = λ other comes_there by. ap (key_before (coming_key other)) key ∙ is.first other comes_there by;
    }

too-late : {A : Type 0} (second moment : ℕ) → moment < second → second ≤ moment → A
too-late second moment later by = let no : ⊥ = omega (arith, later, by) in absurd no

two-first : (held : Held) (moment : ℕ) (due : Due) (fleet : FleetRecord) (b : Bool) → key_before (coming_key_of fleet) (key_at due) ≡ b → IsFirstOfQueues held moment due → IsFirstComing held moment fleet
    → (found : Option Happening) → cond b (Some (Coming fleet)) (Some (ItemDue due)) ≡ found → MatchOption found (IsNothingDue held moment) (IsFirstDue held moment)
two-first held moment due fleet true before item flight found is =
    subst (λ o. MatchOption o (IsNothingDue held moment) (IsFirstDue held moment)) is
    (coming-first held moment fleet flight (λ queue other later here by.
    key-not_before (key_of (event_of queue other later)) (key_at due) (coming_key_of fleet) (item.first queue other later refl here by) (key-one_way (coming_key_of fleet) (key_at due) before)))
two-first held moment due fleet false after item flight found is =
    subst (λ o. MatchOption o (IsNothingDue held moment) (IsFirstDue held moment)) is
    (item-first held moment due item (λ other here by.
    key-not_before (coming_key other) (coming_key_of fleet) (key_at due) (flight.first other here by) after))

-- the first of both is the first of all
pub first_of_all : (held : Held) (moment : ℕ) (item : Option Due) (fleet : Option FleetRecord) (found : Option Happening) → MatchOption item (IsNoneOfQueues held moment) (IsFirstOfQueues held moment)
    → MatchOption fleet (IsNoneComing held moment) (IsFirstComing held moment) → first_of_two item fleet ≡ found → MatchOption found (IsNothingDue held moment) (IsFirstDue held moment)
first_of_all held moment None None found none none_comes is =
    subst (λ o. MatchOption o (IsNothingDue held moment) (IsFirstDue held moment)) is
    (record { items = λ queue item later here. none queue item later refl here; fleets = none_comes })
first_of_all held moment None (Some fleet) found none flight is =
    subst (λ o. MatchOption o (IsNothingDue held moment) (IsFirstDue held moment)) is
    (coming-first held moment fleet flight (λ queue item later here by. too-late item.second moment (none queue item later refl here) by))
first_of_all held moment (Some due) None found item none_comes is =
    subst (λ o. MatchOption o (IsNothingDue held moment) (IsFirstDue held moment)) is
    (item-first held moment due item (λ fleet here by. too-late fleet.second moment (none_comes fleet here) by))
first_of_all held moment (Some due) (Some fleet) found item flight is =
    two-first held moment due fleet (key_before (coming_key_of fleet) (key_at due)) refl item flight found is
