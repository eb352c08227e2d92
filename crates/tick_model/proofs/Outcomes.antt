-- What comes of a request: nothing is changed, or a planet's own fields are, or an item joins a queue.
use Rattle.std.proofs.Common.{◌≡◌, ℕ, ◌⊎◌, inl, inr, zero, suc, ◌+◌, ◌-◌, ◌*◌, ◌/◌, ◌^◌, ◌<◌, ◌≤◌, List, [], ◌∷◌, ◌++◌, Bool, true, false, not, cond, eqb, Option, None, Some, length, nat_le, nat_lt, sum, arith, refl, ap, ◌∙◌, sym, subst, ◌&&◌}
use Rattle.std.specs.Prelude.{IsTrue, nat_lt}
use Rattle.std.specs.List.{list_any}
use Rattle.std.proofs.lemmas.Bool.Decides.{nat_tests}
use Rattle.std.proofs.lemmas.List.Sums.{sum_by-cons}
use Rattle.base_ids.specs.Cells.{same_cell, same_player}
use Rattle.base_ids.specs.declared.fleet_number.FleetNumber.{FleetNumber}
use Rattle.base_num.specs.Root.{root}
use Rattle.base_num.proofs.Quotients.{ceiling_bounds}
use Rattle.base_ids.specs.declared.coord.Coord.{Coord}
use Rattle.base_ids.specs.declared.player.Player.{Player}
use Rattle.base_ids.specs.declared.cell_id.CellId.{CellId}
use Rattle.base_ids.specs.declared.cell_id.CellId.TheVariants.{Account, Planet}
use Rattle.catalog.specs.Classes.{is_building, is_technology, is_unit}
use Rattle.catalog.specs.Kinds.{place_in}
use Rattle.catalog.specs.Levels.{level_cap_of}
use Rattle.catalog.specs.Technologies.{level_in}
use Rattle.catalog.specs.declared.classes.TheConstants.{UNIT_KINDS}
use Rattle.catalog.specs.declared.kind.Kind.{Kind}
use Rattle.catalog.specs.declared.mission.Mission.{Mission}
use Rattle.catalog.specs.declared.mission.Mission.TheVariants.{Transport, Deploy, Harvest, Attack}
use Rattle.catalog.specs.declared.ships.TheConstants.{SHIPS, UNITS}
use Rattle.flight.specs.Distances.{distance_of}
use Rattle.flight.specs.Freight.{capacity_of}
use Rattle.flight.specs.Speeds.{fleet_speed}
use Rattle.flight.specs.Times.{flight_seconds, pace, way}
use Rattle.laziness.proofs.Bringing.{never}
use Rattle.reply_text.specs.OrderLines.{back_line}
use Rattle.request_text.specs.declared.request.Request.{Request}
use Rattle.request_text.specs.declared.request.Request.TheVariants.{Planet as PlanetOf, Account as AccountOf, Fleets, System as SystemOf, Build, Research, Yard as YardOf, Set, Send, Join, Recall}
use Rattle.tick_model.specs.declared.codes.TheConstants.{BAD_MISSION, CEILING, GROUP_FULL, LEVEL_CAP, MOST_IN_GROUP, MOST_QUEUED, NO_FLEET, NO_SHIPS, NO_SLOT, NOT_OUTBOUND, NOT_YOURS, POOR, QUEUE_FULL, REQUIRES, TOO_LATE, NO_FIELDS, NO_ROOM}
use Rattle.tick_model.specs.Buildings.{pays, started}
use Rattle.tick_model.specs.Changes.{Change, new_fleet, new_owns, new_queue, no_change, owns, sends_fleet}
use Rattle.tick_model.specs.Flights.{left_by, recalled_at, turned, cargo_units}
use Rattle.tick_model.specs.Lines.{own_fleets, slots_of}
use Rattle.tick_model.specs.Raids.{companions, is_attack, raiders}
use Rattle.tick_model.specs.Refusals.{build_refusal, is_full, research_refusal, yard_refusal, is_dome, queued, used_fields}
use Rattle.tick_model.specs.Requests.{Sight, Outcome, refused, granted, on_own, on_account, queue_seen, with_planet, ordered, queues, queues_research, queues_batch, builds, researches, yards, own_seen, outcome, shows, sets, tells, tells_fleets, tells_system, companions_seen, errand_of, joins_on, joins_raid, owner_there, raiders_seen, recalls, recalls_own, sends, sends_on}
use Rattle.tick_model.specs.Sending.{Errand, arrival_of, can_go, departed, fleet_of, has_ships, is_late, join_refusal, launched, seconds_to, send_refusal, suits, with_group, fuel_of, has_room, load_of}
use Rattle.tick_model.specs.Researches.{pays_research, started_research}
use Rattle.tick_model.specs.Rules.{IsBatch, IsIn, queue_cell}
use Rattle.tick_model.specs.Universe.{Own, of_nothing, of_account, of_planet, AccountFields, Buildings, Researches, Yard, PlanetFields, Fleet, Item, QueueClass}
use Rattle.tick_model.specs.Yards.{begun, pays_batch, count_of}
use Rattle.tick_model.specs.Limits.{IsErrand, IsLoaded}
use Rattle.tick_model.specs.Production.{level_of}
use Rattle.tick_model.proofs.Ends.{duration-least, research-least, unit-least}
use Rattle.tick_model.proofs.Fleets.{IsFleetOf, fleet-found}
use Rattle.tick_model.proofs.Lists.{and-is, not-false, not-true, number-is, or-is, player-from}
use Rattle.tick_model.proofs.Owns.{IsAlike, Stays, alike-itself, put-alike}
use Rattle.tick_model.proofs.Raids.{raiders-are}
use Rattle.tick_model.proofs.Steady.{IsBuiltAlike, IsSteady, left-below, one-account, one-planet, put-steady, steady-itself, steady-planet, units-alike}
use Rattle.tick_model.proofs.Spans.{errand-most}
use Rattle.tick_model.proofs.Timing.{IsFresh, fresh-batch, fresh-building, fresh-research, fresh-waits}
use Rattle.tick_model.proofs.Units.{unit-place}
use Rattle.tick_model.proofs.Waiting.{IsBehind, IsNext}

-- the caller's account and a planet of the caller are seen
pub record IsOwn (sight : Sight) (player : Player) (at : Coord) (account : AccountFields) (planet : PlanetFields) : Type 0 where
  pub caller : owns sight.seen (Account player) ≡ of_account account
  pub there : owns sight.seen (Planet at) ≡ of_planet planet
  pub owner : planet.owner ≡ player

-- what cells have of their own stays alike
abbrev pub AllSeenAlike : Sight → (CellId → Own) → Type 0
AllSeenAlike sight own = (x : CellId) → IsAlike (owns sight.seen x) (own x)

-- what cells have of their own is steady
abbrev pub AllSeenSteady : Sight → (CellId → Own) → Type 0
AllSeenSteady sight own = (x : CellId) → IsSteady (owns sight.seen x) (own x)

-- An item may join these of a cell: with it no level rises above its highest one, a planet has the fields for its buildings, and no
-- second dome of a kind. If it is the first one it is the next level of its kind, and else it waits.
abbrev pub IsAllowed : QueueClass → Item → Own → List Item → Type 0
IsAllowed Buildings item own items =
    (planet : PlanetFields) → own ≡ of_planet planet
    → (level_of planet item.kind + queued item.kind items < level_cap_of item.kind) × (used_fields planet + length items < planet.fields) × IsNext (level_of planet) items item
IsAllowed Researches item own items =
    (account : AccountFields) → own ≡ of_account account
    → (level_in account.techs.n item.kind + queued item.kind items < level_cap_of item.kind) × IsNext (level_in account.techs.n) items item
IsAllowed Yard item own items =
    (planet : PlanetFields) → own ≡ of_planet planet → (is_dome item.kind ≡ true → count_of planet item.kind + queued item.kind items + item.left ≤ 1) × IsBehind items item

-- a request's item: it bears the request's number, and joins the queue of the right cell
pub record IsOrdered (sight : Sight) (player : Player) (item : Item) : Type 0 where
  pub account : AccountFields
  pub planet : PlanetFields
  pub is_own : IsOwn sight player item.place account planet
  pub number : item.number ≡ sight.number
  pub cell : item.cell ≡ queue_cell item.class item.place player
  pub batch : IsBatch item.class item
  -- if none is before it, it runs, and comes due after the request's moment
  pub runs : queue_seen sight item.cell item.class ≡ [] → sight.moment < item.second
  pub paced : queue_seen sight item.cell item.class ≡ [] → item.class ≡ Yard → 1 ≤ item.unit_seconds
  -- the queue has room for it, and the caller may have its units
  pub room : length (queue_seen sight item.cell item.class) < MOST_QUEUED
  pub few : item.class ≡ Yard → (sight.seen (Account player)).units + item.left ≤ UNITS
  pub allowed : IsAllowed item.class item (owns sight.seen item.cell) (queue_seen sight item.cell item.class)
  pub fresh : IsFresh sight.moment item

-- a fleet flies in a group of its own, for 2^27 seconds at most, or along with one that flies to the same place
pub data IsGrouped (fleets : List Fleet) (fleet : Fleet) : Type 0 where
  alone : fleet.group ≡ fleet.number → fleet.second ≤ fleet.launch + 2 ^ 27 → IsGrouped fleets fleet
  along : (leader : Fleet) → IsIn leader fleets → leader.outbound ≡ true → leader.group ≡ fleet.group → leader.target ≡ fleet.target → leader.second ≡ fleet.second
      → IsGrouped fleets fleet

-- A fleet that a request sends from a planet of the caller, which is as before but for its stocks and units. It bears the request's
-- number, and comes due after the request's moment.
pub record IsSent (sight : Sight) (player : Player) (own : CellId → Own) (fleet : Fleet) : Type 0 where
  pub account : AccountFields
  pub planet : PlanetFields
  pub departed : PlanetFields
  pub is_own : IsOwn sight player fleet.origin account planet
  pub stays : Stays (of_planet planet) (of_planet departed)
  pub own_is : own ≡ with_planet sight fleet.origin departed
  -- its ships are gone from there
  pub gone : sum departed.units + sum fleet.ships ≡ sum planet.units
  pub built : IsBuiltAlike planet departed
  -- they carry its cargo, and the caller has a slot for it
  pub loaded : IsLoaded fleet
  pub errand : 1 ≤ sight.number → IsErrand fleet
  pub slot : length (own_fleets player (sight.seen (Account player)).fleets) < slots_of account
  pub to : PlanetFields
  pub reaches : owns sight.seen (Planet fleet.target) ≡ of_planet to
  pub is_theirs : to.owner ≡ fleet.target_owner
  pub number : fleet.number ≡ sight.number
  pub owner : fleet.owner ≡ player
  pub kinds : length fleet.ships ≡ length SHIPS
  pub launched : fleet.launch ≡ sight.moment
  pub later : fleet.launch < fleet.second
  pub runs : sight.moment < fleet.second
  pub is_deployed : fleet.mission ≡ Deploy → fleet.target_owner ≡ fleet.owner
  pub grouped : IsGrouped (sight.seen (Planet fleet.target)).fleets fleet
  -- where there is room for it
  pub room : (fleet.group ≡ fleet.number) ⊎ (length (companions fleet.target fleet.group (sight.seen (Planet fleet.target)).fleets) < MOST_IN_GROUP)

-- what becomes of a fleet that is recalled
abbrev pub recalled : Sight → Fleet → Option Fleet
recalled sight fleet = Some (turned fleet (recalled_at fleet sight.moment) fleet.cargo)

-- what a request changes
pub data Changes (sight : Sight) (player : Player) (req : Request) (change : Change) : Type 0 where
  nothing : change ≡ no_change sight.seen → Changes sight player req change
  fields : (own : CellId → Own) → AllSeenAlike sight own → AllSeenSteady sight own → change ≡ new_owns own → Changes sight player req change
  joined : (own : CellId → Own) (item : Item) → AllSeenAlike sight own → AllSeenSteady sight own → IsOrdered sight player item
      → change ≡ new_queue own item.cell item.class (queue_seen sight item.cell item.class ++ item ∷ []) → Changes sight player req change
  dispatched : (own : CellId → Own) (fleet : Fleet) → IsSent sight player own fleet → change ≡ sends_fleet own fleet → Changes sight player req change
  called_back : (number : FleetNumber) (fleet : Fleet) → req ≡ Recall number → IsFleetOf player number.f (sight.seen (Account player)).fleets fleet → fleet.outbound ≡ true
      → change ≡ new_fleet (owns sight.seen) number.f (recalled sight) → Changes sight player req change

-- a planet with the same owner and units is alike
planet-alike : (sight : Sight) (at : Coord) (planet new : PlanetFields) → owns sight.seen (Planet at) ≡ of_planet planet → IsAlike (of_planet planet) (of_planet new)
    → AllSeenAlike sight (with_planet sight at new)
planet-alike sight at planet new is alike =
    put-alike (Planet at) (of_planet new) (owns sight.seen) (owns sight.seen) (subst (λ own. IsAlike own (of_planet new)) (sym is) alike) (λ x. alike-itself (owns sight.seen x))

seen-alike : (sight : Sight) → AllSeenAlike sight (owns sight.seen)
seen-alike sight x = alike-itself (owns sight.seen x)

-- the queue is not empty
some-before : {A : Type 0} (first : Item) (later items : List Item) → first ∷ later ≡ items → items ≡ [] → A
some-before first later items is none = absurd (let both : first ∷ later ≡ [] = is ∙ none in cc)

-- and so it is steady, if its levels and fields are the same as well
planet-steady : (sight : Sight) (at : Coord) (planet new : PlanetFields) → owns sight.seen (Planet at) ≡ of_planet planet → new.levels ≡ planet.levels → new.fields ≡ planet.fields → new.units ≡ planet.units
    → AllSeenSteady sight (with_planet sight at new)
planet-steady sight at planet new is levels room units =
    put-steady (Planet at) (of_planet new) (owns sight.seen) (subst (λ own. IsSteady own (of_planet new)) (sym is) (steady-planet planet new (units-alike planet new levels room units)))

seen-steady : (sight : Sight) → AllSeenSteady sight (owns sight.seen)
seen-steady sight x = steady-itself (owns sight.seen x)

-- What is allowed by the planet or the account that is seen.

abbrev MayBuild : Item → List Item → PlanetFields → Type 0
MayBuild item items planet =
    (level_of planet item.kind + queued item.kind items < level_cap_of item.kind) × (used_fields planet + length items < planet.fields) × IsNext (level_of planet) items item

allowed-building : (item : Item) (own : Own) (planet : PlanetFields) (items seen : List Item) → own ≡ of_planet planet → items ≡ seen → MayBuild item items planet → IsAllowed Buildings item own seen
allowed-building item own planet items seen there is may p has =
    subst (MayBuild item seen) (one-planet planet p (sym there ∙ has)) (subst (λ queue. MayBuild item queue planet) is may)

abbrev MayResearch : Item → List Item → AccountFields → Type 0
MayResearch item items account = (level_in account.techs.n item.kind + queued item.kind items < level_cap_of item.kind) × IsNext (level_in account.techs.n) items item

allowed-research : (item : Item) (own : Own) (account : AccountFields) (items seen : List Item) → own ≡ of_account account → items ≡ seen → MayResearch item items account → IsAllowed Researches item own seen
allowed-research item own account items seen there is may a has =
    subst (MayResearch item seen) (one-account account a (sym there ∙ has)) (subst (λ queue. MayResearch item queue account) is may)

abbrev MayMake : Item → List Item → PlanetFields → Type 0
MayMake item items planet = (is_dome item.kind ≡ true → count_of planet item.kind + queued item.kind items + item.left ≤ 1) × IsBehind items item

allowed-batch : (item : Item) (own : Own) (planet : PlanetFields) (items seen : List Item) → own ≡ of_planet planet → items ≡ seen → MayMake item items planet → IsAllowed Yard item own seen
allowed-batch item own planet items seen there is may p has =
    subst (MayMake item seen) (one-planet planet p (sym there ∙ has)) (subst (λ queue. MayMake item queue planet) is may)

room-seen : (items seen : List Item) → items ≡ seen → length items < MOST_QUEUED → length seen < MOST_QUEUED
room-seen items seen is room = subst (λ queue. length queue < MOST_QUEUED) is room

queues-change : (sight : Sight) (player : Player) (req : Request) (at : Coord) (kind : Kind) (account : AccountFields) (planet : PlanetFields) (items : List Item) → IsOwn sight player at account planet
    → IsTrue (is_building kind) → items ≡ queue_seen sight (Planet at) Buildings → length items < MOST_QUEUED
    → (level_of planet kind + queued kind items < level_cap_of kind) × (used_fields planet + length items < planet.fields) → Changes sight player req (queues sight at kind planet items).change
queues-change sight player req at kind account planet [] own class is room below =
    let item = started sight.rules.speed sight.moment planet (ordered sight (Planet at) Buildings at kind 0) in
    let least = duration-least sight.rules.speed planet kind in
    joined (with_planet sight at (pays planet kind)) item (planet-alike sight at planet (pays planet kind) own.there (refl, refl)) (planet-steady sight at planet (pays planet kind) own.there refl refl refl)
    (record { account = account; planet = planet; is_own = own; number = refl; cell = refl; batch = tt; runs = λ none. omega (arith, least); paced = λ none yard. absurd cc; room = room-seen _ _ is room; few = λ yard. absurd cc; allowed = allowed-building item (owns sight.seen (Planet at)) planet _ _ own.there is (below.0, below.1, refl); fresh = fresh-building sight.rules.speed sight.moment planet (ordered sight (Planet at) Buildings at kind 0) sight.rules.speed_from refl class (let cap = below.0 in omega (arith, cap)) (refl, refl, refl) })
    (ap (λ items. new_queue (with_planet sight at (pays planet kind)) (Planet at) Buildings (items ++ item ∷ [])) is)
queues-change sight player req at kind account planet (first ∷ later) own class is room below =
    let item = ordered sight (Planet at) Buildings at kind 0 in
    joined (owns sight.seen) item (seen-alike sight) (seen-steady sight)
    (record { account = account; planet = planet; is_own = own; number = refl; cell = refl; batch = tt; runs = λ none. some-before first later _ is none; paced = λ none yard. absurd cc; room = room-seen _ _ is room; few = λ yard. absurd cc; allowed = allowed-building item (owns sight.seen (Planet at)) planet _ _ own.there is (below.0, below.1, (refl, refl, refl)); fresh = fresh-waits sight.moment item class (refl, refl, refl) })
    (ap (λ items. new_queue (owns sight.seen) (Planet at) Buildings (items ++ item ∷ [])) is)

research-change : (sight : Sight) (player : Player) (req : Request) (at : Coord) (kind : Kind) (account : AccountFields) (planet : PlanetFields) (items : List Item) → IsOwn sight player at account planet
    → IsTrue (is_technology kind) → items ≡ queue_seen sight (Account player) Researches → length items < MOST_QUEUED → level_in account.techs.n kind + queued kind items < level_cap_of kind
    → Changes sight player req (queues_research sight player at kind account planet items).change
research-change sight player req at kind account planet [] own class is room below =
    let item = started_research sight.rules.speed sight.moment account planet (ordered sight (Account player) Researches at kind 0) in
    let least = research-least sight.rules.speed account planet kind in
    joined (with_planet sight at (pays_research account planet kind)) item (planet-alike sight at planet (pays_research account planet kind) own.there (refl, refl)) (planet-steady sight at planet (pays_research account planet kind) own.there refl refl refl)
    (record { account = account; planet = planet; is_own = own; number = refl; cell = refl; batch = tt; runs = λ none. omega (arith, least); paced = λ none yard. absurd cc; room = room-seen _ _ is room; few = λ yard. absurd cc; allowed = allowed-research item (owns sight.seen (Account player)) account _ _ own.caller is (below, refl); fresh = fresh-research sight.rules.speed sight.moment account planet (ordered sight (Account player) Researches at kind 0) sight.rules.speed_from refl class (omega (arith, below)) (refl, refl, refl) })
    (ap (λ items. new_queue (with_planet sight at (pays_research account planet kind)) (Account player) Researches (items ++ item ∷ [])) is)
research-change sight player req at kind account planet (first ∷ later) own class is room below =
    let item = ordered sight (Account player) Researches at kind 0 in
    joined (owns sight.seen) item (seen-alike sight) (seen-steady sight)
    (record { account = account; planet = planet; is_own = own; number = refl; cell = refl; batch = tt; runs = λ none. some-before first later _ is none; paced = λ none yard. absurd cc; room = room-seen _ _ is room; few = λ yard. absurd cc; allowed = allowed-research item (owns sight.seen (Account player)) account _ _ own.caller is (below, (refl, refl, refl)); fresh = fresh-waits sight.moment item class (refl, refl, refl) })
    (ap (λ items. new_queue (owns sight.seen) (Account player) Researches (items ++ item ∷ [])) is)

batch-change : (sight : Sight) (player : Player) (req : Request) (at : Coord) (kind : Kind) (count : ℕ) (account : AccountFields) (planet : PlanetFields) (items : List Item) → IsOwn sight player at account planet
    → 1 ≤ count → IsTrue (is_unit kind) → place_in UNIT_KINDS kind < length UNIT_KINDS → items ≡ queue_seen sight (Planet at) Yard → length items < MOST_QUEUED → (sight.seen (Account player)).units + count ≤ UNITS
    → (is_dome kind ≡ true → count_of planet kind + queued kind items + count ≤ 1) → Changes sight player req (queues_batch sight at kind count planet items).change
batch-change sight player req at kind count account planet [] own some class known is room few lone =
    let new = pays_batch planet kind count in
    let item = begun sight.rules.speed sight.moment planet (ordered sight (Planet at) Yard at kind count) in
    let least = unit-least sight.rules.speed planet kind in
    joined (with_planet sight at new) item (planet-alike sight at planet new own.there (refl, refl)) (planet-steady sight at planet new own.there refl refl refl)
    (record { account = account; planet = planet; is_own = own; number = refl; cell = refl; batch = (some, known); runs = λ none. omega (arith, least); paced = λ none yard. least; room = room-seen _ _ is room; few = λ yard. few; allowed = allowed-batch item (owns sight.seen (Planet at)) planet _ _ own.there is (lone, tt); fresh = fresh-batch sight.rules.speed sight.moment planet (ordered sight (Planet at) Yard at kind count) sight.rules.speed_from refl class })
    (ap (λ items. new_queue (with_planet sight at new) (Planet at) Yard (items ++ item ∷ [])) is)
batch-change sight player req at kind count account planet (first ∷ later) own some class known is room few lone =
    let new = pays_batch planet kind count in
    let item = ordered sight (Planet at) Yard at kind count in
    joined (with_planet sight at new) item (planet-alike sight at planet new own.there (refl, refl)) (planet-steady sight at planet new own.there refl refl refl)
    (record {
      account = account;
      planet = planet;
      is_own = own;
      number = refl;
      cell = refl;
      batch = (some, known);
      runs = λ none. some-before first later _ is none;
      paced = λ none yard. some-before first later _ is none;
      room = room-seen _ _ is room;
      few = λ yard. few;
      allowed = allowed-batch item (owns sight.seen (Planet at)) planet _ _ own.there is (lone, (refl, refl, refl));
      fresh = fresh-waits sight.moment item class (refl, refl, refl);
    })
    (ap (λ items. new_queue (with_planet sight at new) (Planet at) Yard (items ++ item ∷ [])) is)

own-change : (sight : Sight) (player : Player) (req : Request) (at : Coord) (caller there : Own) (grant : AccountFields → PlanetFields → Outcome) → owns sight.seen (Account player) ≡ caller → owns sight.seen (Planet at) ≡ there
    → ((account : AccountFields) (planet : PlanetFields) → IsOwn sight player at account planet → Changes sight player req (grant account planet).change)
    → Changes sight player req (on_own sight player caller there grant).change
own-change sight player req at (of_account account) (of_planet planet) grant caller there granted =
    elim (same_player planet.owner player) as (λ b. same_player planet.owner player ≡ b → Changes sight player req (cond b (grant account planet) (refused sight NOT_YOURS)).change) [
      | true ↦ λ same. granted account planet (record { caller = caller; there = there; owner = player-from planet.owner player same })
      | false ↦ λ other. nothing refl
    ] refl
own-change sight player req at (of_account account) of_nothing grant caller there granted = nothing refl
own-change sight player req at (of_account account) (of_account other) grant caller there granted = nothing refl
own-change sight player req at of_nothing there grant caller is granted = nothing refl
own-change sight player req at (of_planet planet) there grant caller is granted = nothing refl

account-change : (sight : Sight) (player : Player) (req : Request) (caller : Own) (grant : AccountFields → Outcome) → ((account : AccountFields) → Changes sight player req (grant account).change)
    → Changes sight player req (on_account sight caller grant).change
account-change sight player req (of_account account) grant granted = granted account
account-change sight player req of_nothing grant granted = nothing refl
account-change sight player req (of_planet planet) grant granted = nothing refl

at-own : (sight : Sight) (player : Player) (req : Request) (at : Coord) (grant : AccountFields → PlanetFields → Outcome)
    → ((account : AccountFields) (planet : PlanetFields) → IsOwn sight player at account planet → Changes sight player req (grant account planet).change)
    → Changes sight player req (on_own sight player (own_seen sight (Account player)) (own_seen sight (Planet at)) grant).change
at-own sight player req at grant granted = own-change sight player req at (own_seen sight (Account player)) (own_seen sight (Planet at)) grant refl refl granted

-- what is refused with a code above 0 changes nothing, and else there is no reason to refuse
unless-refused : (sight : Sight) (player : Player) (req : Request) (code : ℕ) (grant : Outcome) → (code ≡ 0 → Changes sight player req grant.change)
    → Changes sight player req (cond (eqb code 0) grant (refused sight code)).change
unless-refused sight player req code grant granted =
    elim (eqb code 0) as (λ b. eqb code 0 ≡ b → Changes sight player req (cond b grant (refused sight code)).change) [
      | true ↦ λ none. granted (number-is code 0 none)
      | false ↦ λ some. nothing refl
    ] refl

-- a reason that doesn't hold is passed over
passed : (code rest : ℕ) (holds : Bool) → 1 ≤ code → cond holds code rest ≡ 0 → (holds ≡ false) × (rest ≡ 0)
passed code rest true some none = absurd (omega (arith, some, none))
passed code rest false some none = (refl, none)

-- what isn't refused finds room in its queue
has-room : (items : List Item) → is_full items ≡ false → length items < MOST_QUEUED
has-room items is = grind (arith, nat_tests)

below-cap : (most n : ℕ) → nat_le most n ≡ false → n < most
below-cap most n is = grind (arith, nat_tests)

-- a building that isn't refused has a level and a field to rise to
build-room : (account : AccountFields) (planet : PlanetFields) (items : List Item) (kind : Kind) → build_refusal account planet items kind ≡ 0
    → (length items < MOST_QUEUED) × (level_of planet kind + queued kind items < level_cap_of kind) × (used_fields planet + length items < planet.fields)
unfolding build_refusal
build-room account planet items kind none =
    let some : (1 ≤ LEVEL_CAP) × (1 ≤ REQUIRES) × (1 ≤ NO_FIELDS) = (omega arith, omega arith, omega arith) in
    let full = passed QUEUE_FULL _ (is_full items) (omega arith) none in
    let cap = passed LEVEL_CAP _ (nat_le (level_cap_of kind) (level_of planet kind + queued kind items)) some.0 full.1 in
    let met = passed REQUIRES _ _ some.1 cap.1 in
    let fields = passed NO_FIELDS _ (nat_le planet.fields (used_fields planet + length items)) some.2 met.1 in
    (has-room items full.0, below-cap (level_cap_of kind) (level_of planet kind + queued kind items) cap.0, below-cap planet.fields (used_fields planet + length items) fields.0)

-- and a technology a level
research-room : (speed : ℕ) (account : AccountFields) (planet : PlanetFields) (items : List Item) (kind : Kind) → research_refusal speed account planet items kind ≡ 0
    → (length items < MOST_QUEUED) × (level_in account.techs.n kind + queued kind items < level_cap_of kind)
unfolding research_refusal
research-room speed account planet items kind none =
    let some : 1 ≤ LEVEL_CAP = omega arith in
    let full = passed QUEUE_FULL _ (is_full items) (omega arith) none in
    let cap = passed LEVEL_CAP _ (nat_le (level_cap_of kind) (level_in account.techs.n kind + queued kind items)) some full.1 in
    (has-room items full.0, below-cap (level_cap_of kind) (level_in account.techs.n kind + queued kind items) cap.0)

-- and a batch keeps the caller's units within the ceiling
below-ceiling : (units : ℕ) → nat_le (UNITS + 1) units ≡ false → units ≤ UNITS
below-ceiling units is = grind (arith, nat_tests)

-- a dome is the only one of its kind
dome-alone : (dome : Bool) (n : ℕ) → dome && nat_le 2 n ≡ false → dome ≡ true → n ≤ 1
dome-alone true n two is = grind (arith, nat_tests)
dome-alone false n two is = absurd cc

yard-room : (account : AccountFields) (units : ℕ) (planet : PlanetFields) (batches : List Item) (kind : Kind) (count : ℕ) → yard_refusal account units planet batches kind count ≡ 0
    → (length batches < MOST_QUEUED) × (units + count ≤ UNITS) × (is_dome kind ≡ true → count_of planet kind + queued kind batches + count ≤ 1)
unfolding yard_refusal
yard-room account units planet batches kind count none =
    let some : (1 ≤ LEVEL_CAP) × (1 ≤ REQUIRES) × (1 ≤ POOR) × (1 ≤ CEILING) = (omega arith, omega arith, omega arith, omega arith) in
    let full = passed QUEUE_FULL _ (is_full batches) (omega arith) none in
    let cap = passed LEVEL_CAP _ (is_dome kind && nat_le 2 (count_of planet kind + queued kind batches + count)) some.0 full.1 in
    let met = passed REQUIRES _ _ some.1 cap.1 in
    let paid = passed POOR _ _ some.2 met.1 in
    let ceiling = passed CEILING _ (nat_le (UNITS + 1) (units + count)) some.3 paid.1 in
    (has-room batches full.0, below-ceiling (units + count) ceiling.0, dome-alone (is_dome kind) (count_of planet kind + queued kind batches + count) cap.0)

-- a mission that isn't refused suits the target
pub send-goes : (player : Player) (account : AccountFields) (fleets : ℕ) (planet : PlanetFields) (target : Own) (errand : Errand) → send_refusal player account fleets planet target errand ≡ 0
    → (has_ships planet.units errand.ships ≡ true) × (can_go player errand target ≡ true)
unfolding send_refusal
send-goes player account fleets planet target errand none =
    let ships = passed NO_SHIPS _ (not (has_ships planet.units errand.ships)) (omega arith) none in
    let goes = passed BAD_MISSION _ (not (can_go player errand target)) (omega arith) ships.1 in
    (not-false (has_ships planet.units errand.ships) ships.0, not-false (can_go player errand target) goes.0)

sum-cons : (x : ℕ) (xs : List ℕ) → sum (x ∷ xs) ≡ x + sum xs
sum-cons x xs = sum_by-cons (λ (n : ℕ). n) x xs

ship-fits : (ship count : ℕ) → nat_le ship count ≡ true → ship ≤ count
ship-fits ship count is = grind (arith, nat_tests)

-- it has a slot, and room for its cargo
send-fits : (player : Player) (account : AccountFields) (fleets : ℕ) (planet : PlanetFields) (target : Own) (errand : Errand) → send_refusal player account fleets planet target errand ≡ 0
    → (fleets < slots_of account) × (has_room account errand ≡ true)
unfolding send_refusal
send-fits player account fleets planet target errand none =
    let some : (1 ≤ NO_SLOT) × (1 ≤ NO_ROOM) = (omega arith, omega arith) in
    let ships = passed NO_SHIPS _ (not (has_ships planet.units errand.ships)) (omega arith) none in
    let goes = passed BAD_MISSION _ (not (can_go player errand target)) (omega arith) ships.1 in
    let slot = passed NO_SLOT _ (nat_le (slots_of account) fleets) some.0 goes.1 in
    let room = passed NO_ROOM _ (not (has_room account errand)) some.1 slot.1 in
    (below-cap (slots_of account) fleets slot.0, not-false (has_room account errand) room.0)

cargo-fits : (account : AccountFields) (errand : Errand) → has_room account errand ≡ true → cargo_units errand.cargo ≤ capacity_of errand.ships
unfolding has_room load_of
cargo-fits account errand room =
    let all : errand.cargo.metal + errand.cargo.crystal + (errand.cargo.deuterium + fuel_of account errand) ≤ capacity_of errand.ships = ship-fits _ _ room in
    omega (arith, all)

-- some ships are sent
some-ships : (ships : List ℕ) → IsTrue (list_any (λ count. nat_lt 0 count) ships) → 1 ≤ sum ships
some-ships [] some = absurd cc
some-ships (ship ∷ ships) some =
    let all = sum-cons ship ships in
    elim (or-is (nat_lt 0 ship) (list_any (λ count. nat_lt 0 count) ships) some) [
      | inl first ↦ (let more = one-ship ship first in omega (arith, all, more))
      | inr later ↦ (let more = some-ships ships later in omega (arith, all, more))
    ]
  where
    one-ship : (n : ℕ) → nat_lt 0 n ≡ true → 1 ≤ n
    one-ship n is = grind (arith, nat_tests)

-- the target is a planet, and a fleet is deployed to the caller's own
pub record GoesTo (player : Player) (errand : Errand) (target : Own) : Type 0 where
  pub to : PlanetFields
  pub reaches : target ≡ of_planet to
  pub is_deployed : errand.mission ≡ Deploy → to.owner ≡ player
  pub elsewhere : same_cell (Planet errand.from) (Planet errand.to) ≡ false
  pub suited : suits errand.mission (same_player to.owner player) errand.ships ≡ true

deployed-own : (mission : Mission) (b : Bool) (ships : List ℕ) → mission ≡ Deploy → suits mission b ships ≡ true → b ≡ true
deployed-own Deploy b ships is suits = suits
deployed-own Transport b ships is suits = absurd cc
deployed-own Harvest b ships is suits = absurd cc
deployed-own Attack b ships is suits = absurd cc

pub goes-to : (player : Player) (errand : Errand) (target : Own) → can_go player errand target ≡ true → GoesTo player errand target
goes-to player errand (of_planet planet) goes =
    let both = and-is (not (same_cell (Planet errand.from) (Planet errand.to))) (suits errand.mission (same_player planet.owner player) errand.ships) goes in
    record {
      to = planet;
      reaches = refl;
      is_deployed = λ is. player-from planet.owner player (deployed-own errand.mission (same_player planet.owner player) errand.ships is both.1);
      elsewhere = not-true (same_cell (Planet errand.from) (Planet errand.to)) both.0;
      suited = both.1;
    }
goes-to player errand of_nothing goes = never false goes refl
goes-to player errand (of_account account) goes = never false goes refl

pub left-kinds : (counts ships : List ℕ) → length (left_by counts ships) ≡ length counts
left-kinds [] ships = refl
left-kinds (count ∷ counts) [] = refl
left-kinds (count ∷ counts) (ship ∷ ships) = let rest = left-kinds counts ships in omega (arith, rest)

pub departed-stays : (account : AccountFields) (planet : PlanetFields) (errand : Errand) → Stays (of_planet planet) (of_planet (departed account planet errand))
unfolding departed
departed-stays account planet errand = (refl, left-kinds planet.units errand.ships)

-- what leaves a planet is gone from there
pub left-sum : (counts ships : List ℕ) → has_ships counts ships ≡ true → sum (left_by counts ships) + sum ships ≡ sum counts
left-sum [] [] has = refl
left-sum (count ∷ counts) [] has = let same : sum (count ∷ counts) + 0 ≡ sum (count ∷ counts) = omega arith in same
left-sum [] (ship ∷ ships) has = never false has refl
left-sum (count ∷ counts) (ship ∷ ships) has =
    let both = and-is (nat_le ship count) (has_ships counts ships) has in
    let fits = ship-fits ship count both.0 in
    let rest = left-sum counts ships both.1 in
    let new = sum-cons (count - ship) (left_by counts ships) in
    let old = sum-cons count counts in
    let sent = sum-cons ship ships in
    omega (arith, fits, rest, new, old, sent)

departed-sum : (account : AccountFields) (planet : PlanetFields) (errand : Errand) → has_ships planet.units errand.ships ≡ true → sum (departed account planet errand).units + sum errand.ships ≡ sum planet.units
unfolding departed
departed-sum account planet errand has = left-sum planet.units errand.ships has

departed-built : (account : AccountFields) (planet : PlanetFields) (errand : Errand) → IsBuiltAlike planet (departed account planet errand)
unfolding departed count_of
departed-built account planet errand = record { levels = refl; fields = refl; domes = λ kind is. left-below planet.units errand.ships (place_in UNIT_KINDS kind) }

-- a flight takes a second or more
some-part : (n d q : ℕ) → 1 ≤ n → n ≤ q * d → 1 ≤ q
some-part n d zero some reaches = absurd (omega (arith, some, reaches))
some-part n d (suc q) some reaches = omega arith

pub flight-least : (speed : ℕ) (account : AccountFields) (errand : Errand) → 1 ≤ speed → 1 ≤ seconds_to speed account errand
unfolding seconds_to
flight-least speed account errand some =
    let d = distance_of errand.from errand.to in
    let v = fleet_speed account.techs.n errand.ships in
    let n = 10 + root (way d / pace v errand.setting) in
    some-part n speed (flight_seconds d v errand.setting speed) (omega arith) (ceiling_bounds n speed some).reaches

owner-there : (player : Player) (own : Own) (to : PlanetFields) → own ≡ of_planet to → to.owner ≡ owner_there player own
owner-there player (of_planet planet) to is = let same : planet ≡ to = cc in ap (λ (p : PlanetFields). p.owner) (sym same)
owner-there player of_nothing to is = absurd cc
owner-there player (of_account account) to is = absurd cc

-- the fleet that leaves on an errand, with a group and a second of its arrival
abbrev pub leaving : Sight → Player → Errand → AccountFields → ℕ → ℕ → Fleet
leaving sight player errand account group second =
    with_group group second (launched sight.rules.speed sight.number sight.moment player account (owner_there player (own_seen sight (Planet errand.to))) errand)

-- it has ships, a slot, and room for its cargo
pub record HasFit (sight : Sight) (player : Player) (errand : Errand) (account : AccountFields) : Type 0 where
  pub some : IsTrue (list_any (λ count. nat_lt 0 count) errand.ships)
  pub slot : length (own_fleets player (sight.seen (Account player)).fleets) < slots_of account
  pub cargo : has_room account errand ≡ true

-- a fleet that isn't refused is sent
leaves-so : (sight : Sight) (player : Player) (errand : Errand) (account : AccountFields) (planet : PlanetFields) (group second : ℕ) → length errand.ships ≡ length SHIPS
    → IsOwn sight player errand.from account planet → has_ships planet.units errand.ships ≡ true → can_go player errand (own_seen sight (Planet errand.to)) ≡ true → sight.moment < second
    → IsGrouped (sight.seen (Planet errand.to)).fleets (leaving sight player errand account group second)
    → (group ≡ sight.number) ⊎ (length (companions errand.to group (sight.seen (Planet errand.to)).fleets) < MOST_IN_GROUP)
    → HasFit sight player errand account → (is_attack errand.mission ≡ false → group ≡ sight.number) → (1 ≤ sight.number → 1 ≤ group)
    → IsSent sight player (with_planet sight errand.from (departed account planet errand)) (leaving sight player errand account group second)
leaves-so sight player errand account planet group second kinds own has goes later grouped room fit lone drawn =
    let target = own_seen sight (Planet errand.to) in
    let to = goes-to player errand target goes in
    let theirs = owner-there player target to.to to.reaches in
    record {
      account = account;
      planet = planet;
      departed = departed account planet errand;
      is_own = own;
      stays = departed-stays account planet errand;
      own_is = refl;
      gone = departed-sum account planet errand has;
      built = departed-built account planet errand;
      loaded = (some-ships errand.ships fit.some, cargo-fits account errand fit.cargo);
      errand = λ numbered. record {
        elsewhere = to.elsewhere;
        suited = subst (λ (k : Player). suits errand.mission (same_player k player) errand.ships ≡ true) theirs to.suited;
        alone = lone;
        grouped = drawn numbered;
      };
      slot = fit.slot;
      to = to.to;
      reaches = to.reaches;
      is_theirs = theirs;
      number = refl;
      owner = refl;
      kinds = kinds;
      launched = refl;
      later = later;
      runs = later;
      is_deployed = λ is. sym theirs ∙ to.is_deployed is;
      grouped = grouped;
      room = room;
    }

sends-change : (sight : Sight) (player : Player) (req : Request) (errand : Errand) (account : AccountFields) (planet : PlanetFields) → length errand.ships ≡ length SHIPS
    → IsOwn sight player errand.from account planet → has_ships planet.units errand.ships ≡ true → can_go player errand (own_seen sight (Planet errand.to)) ≡ true → HasFit sight player errand account
    → Changes sight player req (sends sight player errand account planet).change
sends-change sight player req errand account planet kinds own has goes fit =
    let least = flight-least sight.rules.speed account errand sight.rules.speed_from in
    let most = errand-most sight.rules.speed account errand sight.rules.speed_from in
    let second = sight.moment + seconds_to sight.rules.speed account errand in
    dispatched (with_planet sight errand.from (departed account planet errand)) (leaving sight player errand account sight.number second)
    (leaves-so sight player errand account planet sight.number second kinds own has goes (omega (arith, least)) (alone refl (omega (arith, most))) (inl refl) fit (λ other. refl) (λ numbered. numbered)) refl

-- why a fleet that joins a raid isn't refused
pub record MayJoin (sight : Sight) (player : Player) (errand : Errand) (account : AccountFields) (planet : PlanetFields) (raid : List Fleet) (fleets companions : ℕ) : Type 0 where
  pub some : nat_le (length raid) 0 ≡ false
  pub room : companions < MOST_IN_GROUP
  pub has : has_ships planet.units errand.ships ≡ true
  pub goes : can_go player errand (own_seen sight (Planet errand.to)) ≡ true
  pub in_time : sight.moment + seconds_to sight.rules.speed account errand ≤ arrival_of raid
  pub slot : fleets < slots_of account
  pub cargo : has_room account errand ≡ true

below-most : (companions : ℕ) → nat_le MOST_IN_GROUP companions ≡ false → companions < MOST_IN_GROUP
below-most companions is = grind (arith, nat_tests)

in-time : (arrival leaves : ℕ) → nat_lt arrival leaves ≡ false → leaves ≤ arrival
in-time arrival leaves is = grind (arith, nat_tests)

pub may-join : (sight : Sight) (player : Player) (errand : Errand) (account : AccountFields) (planet : PlanetFields) (raid : List Fleet) (fleets companions : ℕ)
    → join_refusal sight.rules.speed sight.moment player account fleets planet (own_seen sight (Planet errand.to)) errand raid companions ≡ 0 → MayJoin sight player errand account planet raid fleets companions
unfolding join_refusal
may-join sight player errand account planet raid fleets companions none =
    let some : (1 ≤ NO_FLEET) × (1 ≤ GROUP_FULL) × (1 ≤ NO_SHIPS) × (1 ≤ BAD_MISSION) × (1 ≤ NO_SLOT) × (1 ≤ TOO_LATE) = (omega arith, omega arith, omega arith, omega arith, omega arith, omega arith) in
    let target = own_seen sight (Planet errand.to) in
    let group = passed NO_FLEET _ (nat_le (length raid) 0) some.0 none in
    let room = passed GROUP_FULL _ (nat_le MOST_IN_GROUP companions) some.1 group.1 in
    let ships = passed NO_SHIPS _ (not (has_ships planet.units errand.ships)) some.2 room.1 in
    let goes = passed BAD_MISSION _ (not (can_go player errand target)) some.3 ships.1 in
    let slot = passed NO_SLOT _ (nat_le (slots_of account) fleets) some.4 goes.1 in
    let late = passed TOO_LATE _ (is_late sight.rules.speed sight.moment account errand raid) some.5 slot.1 in
    let cargo = passed NO_ROOM _ (not (has_room account errand)) (omega arith) late.1 in
    record {
      some = group.0;
      room = below-most companions room.0;
      has = not-false (has_ships planet.units errand.ships) ships.0;
      goes = not-false (can_go player errand target) goes.0;
      in_time = in-time (arrival_of raid) (sight.moment + seconds_to sight.rules.speed account errand) late.0;
      slot = below-cap (slots_of account) fleets slot.0;
      cargo = not-false (has_room account errand) cargo.0;
    }

-- a raid that isn't empty has a fleet with which others can arrive
raid-leads : (at : Coord) (group : ℕ) (fleets : List Fleet) (raid : List Fleet) (fleet : Fleet) → raiders at group fleets ≡ raid → nat_le (length raid) 0 ≡ false → fleet.target ≡ at → fleet.group ≡ group
    → fleet.second ≡ arrival_of raid → IsGrouped fleets fleet
raid-leads at group fleets [] fleet is some target grouped second = absurd (never true refl some)
raid-leads at group fleets (first ∷ later) fleet is some target grouped second =
    let leads = raiders-are at group fleets first (subst (IsIn first) (sym is) (inl refl)) in
    along first leads.within leads.out (leads.group_is ∙ sym grouped) (leads.target ∙ sym target) (sym second)

joins-change : (sight : Sight) (player : Player) (req : Request) (group : ℕ) (errand : Errand) (account : AccountFields) (planet : PlanetFields) → length errand.ships ≡ length SHIPS
    → IsOwn sight player errand.from account planet → MayJoin sight player errand account planet (raiders_seen sight errand.to group) (length (own_fleets player (sight.seen (Account player)).fleets)) (length (companions_seen sight errand.to group))
    → HasFit sight player errand account → is_attack errand.mission ≡ true → 1 ≤ group → Changes sight player req (joins_raid sight player group errand account planet).change
joins-change sight player req group errand account planet kinds own may fit attack drawn =
    let least = flight-least sight.rules.speed account errand sight.rules.speed_from in
    let raid = raiders_seen sight errand.to group in
    let in_time = may.in_time in
    let fleet = leaving sight player errand account group (arrival_of raid) in
    dispatched (with_planet sight errand.from (departed account planet errand)) fleet
    (leaves-so sight player errand account planet group (arrival_of raid) kinds own may.has may.goes (omega (arith, least, in_time))
    (raid-leads errand.to group (sight.seen (Planet errand.to)).fleets raid fleet refl may.some refl refl refl) (inr may.room) fit (λ other. never (is_attack errand.mission) attack other) (λ numbered. drawn)) refl

recalls_at : (sight : Sight) (player : Player) (number : FleetNumber) (fleet : Fleet) (b : Bool) → fleet.outbound ≡ b → IsFleetOf player number.f (sight.seen (Account player)).fleets fleet
    → Changes sight player (Recall number)
    (cond b (granted (back_line (recalled_at fleet sight.moment)) (new_fleet (owns sight.seen) number.f (recalled sight))) (refused sight NOT_OUTBOUND)).change
recalls_at sight player number fleet true out theirs = called_back number fleet refl theirs out refl
recalls_at sight player number fleet false out theirs = nothing refl

recalls-change : (sight : Sight) (player : Player) (number : FleetNumber) (found : Option Fleet) → fleet_of player number.f (sight.seen (Account player)).fleets ≡ found
    → Changes sight player (Recall number) (recalls sight number.f found).change
recalls-change sight player number None is = nothing refl
recalls-change sight player number (Some fleet) is =
    recalls_at sight player number fleet fleet.outbound refl (fleet-found player number.f (sight.seen (Account player)).fleets fleet is)

pub outcome-changes : (sight : Sight) (player : Player) (req : Request) → Changes sight player req (outcome sight player req).change
outcome-changes sight player (PlanetOf at) = at-own sight player (PlanetOf at) at (shows sight at) (λ account planet own. nothing refl)
outcome-changes sight player AccountOf = account-change sight player AccountOf (own_seen sight (Account player)) (tells sight player) (λ account. nothing refl)
outcome-changes sight player (Build at building) =
    at-own sight player (Build at building) at (builds sight at building.kind) (λ account planet own.
    let items = queue_seen sight (Planet at) Buildings in
    unless-refused sight player (Build at building) (build_refusal account planet items building.kind) (queues sight at building.kind planet items) (λ none.
    let room = build-room account planet items building.kind none in
    queues-change sight player (Build at building) at building.kind account planet items own building.class refl room.0 (room.1, room.2)))
outcome-changes sight player (Research at technology) =
    at-own sight player (Research at technology) at (researches sight player at technology.kind) (λ account planet own.
    let items = queue_seen sight (Account player) Researches in
    unless-refused sight player (Research at technology) (research_refusal sight.rules.speed account planet items technology.kind) (queues_research sight player at technology.kind account planet items) (λ none.
    let room = research-room sight.rules.speed account planet items technology.kind none in
    research-change sight player (Research at technology) at technology.kind account planet items own technology.class refl room.0 room.1))
outcome-changes sight player (YardOf at unit count) =
    at-own sight player (YardOf at unit count) at (yards sight player at unit.kind count.n) (λ account planet own.
    let batches = queue_seen sight (Planet at) Yard in
    let units = (sight.seen (Account player)).units in
    unless-refused sight player (YardOf at unit count) (yard_refusal account units planet batches unit.kind count.n) (queues_batch sight at unit.kind count.n planet batches) (λ none.
    let room = yard-room account units planet batches unit.kind count.n none in
    batch-change sight player (YardOf at unit count) at unit.kind count.n account planet batches own count.from unit.class (unit-place unit.kind unit.class) refl room.0 room.1 room.2))
outcome-changes sight player (Set at work tenths) =
    at-own sight player (Set at work tenths) at (sets sight at work.kind tenths.n) (λ account planet own. fields (with_planet sight at _) (planet-alike sight at planet _ own.there (refl, refl)) (planet-steady sight at planet _ own.there refl refl refl) refl)
outcome-changes sight player Fleets = account-change sight player Fleets (own_seen sight (Account player)) (tells_fleets sight player) (λ account. nothing refl)
outcome-changes sight player (SystemOf system) = account-change sight player (SystemOf system) (own_seen sight (Account player)) (tells_system sight system) (λ account. nothing refl)
outcome-changes sight player (Send from to mission setting ships cargo) =
    let req = Send from to mission setting ships cargo in
    let errand = errand_of from to mission setting.p ships.n cargo in
    at-own sight player req from (sends_on sight player errand) (λ account planet own.
    let fleets = length (own_fleets player (sight.seen (Account player)).fleets) in
    let target = own_seen sight (Planet to) in
    unless-refused sight player req (send_refusal player account fleets planet target errand) (sends sight player errand account planet) (λ none.
    let goes = send-goes player account fleets planet target errand none in
    let fits = send-fits player account fleets planet target errand none in
    sends-change sight player req errand account planet ships.kinds own goes.0 goes.1 (record { some = ships.some; slot = fits.0; cargo = fits.1 })))
outcome-changes sight player (Recall fleet) =
    account-change sight player (Recall fleet) (own_seen sight (Account player)) (recalls_own sight player fleet.f) (λ account.
    recalls-change sight player fleet (fleet_of player fleet.f (sight.seen (Account player)).fleets) refl)
outcome-changes sight player (Join group from to setting ships cargo) =
    let req = Join group from to setting ships cargo in
    let errand = errand_of from to Attack setting.p ships.n cargo in
    at-own sight player req from (joins_on sight player group.f errand) (λ account planet own.
    let fleets = length (own_fleets player (sight.seen (Account player)).fleets) in
    let target = own_seen sight (Planet to) in
    let raid = raiders_seen sight to group.f in
    let companions = length (companions_seen sight to group.f) in
    unless-refused sight player req (join_refusal sight.rules.speed sight.moment player account fleets planet target errand raid companions) (joins_raid sight player group.f errand account planet) (λ none.
    let may = may-join sight player errand account planet raid fleets companions none in
    joins-change sight player req group.f errand account planet ships.kinds own may (record { some = ships.some; slot = may.slot; cargo = may.cargo }) refl group.from))
