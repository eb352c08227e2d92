-- What a request comes to, whatever its number: it is refused and changes nothing, or it is granted to the caller. And what its number
-- makes of that.
use Rattle.std.proofs.Common.{◌≡◌, ℕ, ◌+◌, ◌-◌, ◌≤◌, Bool, true, false, not, cond, eqb, ◌&&◌, List, [], ◌∷◌, ◌++◌, nat_le, sum, length, filter, refl, ap, ◌∙◌, sym, subst, arith, Option, Some, None}
use Rattle.std.proofs.Math.Path.{fun_ext}
use Rattle.std.proofs.lemmas.Bool.Decides.{nat_tests}
use Rattle.std.proofs.lemmas.List.Sums.{sum_by-cons}
use Rattle.std.specs.Prelude.{IfSome, option_map}
use Rattle.std.specs.List.{filter_map}
use Rattle.base_ids.specs.Cells.{same_cell, same_coord, same_player}
use Rattle.base_ids.specs.declared.cell_id.CellId.{CellId}
use Rattle.base_ids.specs.declared.cell_id.CellId.TheVariants.{Account, Planet}
use Rattle.base_ids.specs.declared.coord.Coord.{Coord}
use Rattle.base_ids.specs.declared.fleet_number.FleetNumber.{FleetNumber}
use Rattle.base_ids.specs.declared.player.Player.{Player}
use Rattle.catalog.specs.declared.kind.Kind.{Kind}
use Rattle.catalog.specs.declared.mission.Mission.TheVariants.{Attack}
use Rattle.fleet_rec.specs.Fleet.{fleet_seen, numbered as fleet_with}
use Rattle.fleet_rec.specs.Fleets.{last_numbered}
use Rattle.fleet_rec.specs.declared.fleet.Fleet.{Fleet as FleetRecord}
use Rattle.happenings.specs.Queues.{class_of, home_of}
use Rattle.happenings.specs.declared.queue.Queue.{Queue}
use Rattle.happenings.specs.declared.queue.Queue.TheVariants.{Buildings as BuildingsOf, Research as ResearchOf, Yard as YardAt}
use Rattle.laziness.proofs.Bringing.{never}
use Rattle.lazy.specs.Plans.{IsOrdered, fleet_ordered, last_fleet, queue_ordered}
use Rattle.lazy.specs.declared.ordered.Ordered.{Ordered}
use Rattle.lazy.specs.declared.ordered.Ordered.TheVariants.{Item as ItemOrdered, Fleet as FleetSent}
use Rattle.orders.specs.Acting.{elsewhere, fleets_after, from_place, to_place, units_ordered}
use Rattle.planet_cell.specs.Queue.{numbered}
use Rattle.reply_text.specs.OrderLines.{arrives_line, back_line, starts_line, waits_line}
use Rattle.request_text.specs.declared.request.Request.{Request}
use Rattle.request_text.specs.declared.request.Request.TheVariants.{Planet as PlanetOf, Account as AccountOf, Fleets as FleetsOf, System as SystemOf, Build, Research, Yard as YardOf, Set, Send, Join, Recall}
use Rattle.tick_model.proofs.Lists.{and-is, number-is, player-from, same_number}
use Rattle.tick_model.proofs.Outcomes.{AllSeenAlike, GoesTo, IsOwn, goes-to, may-join, send-goes}
use Rattle.tick_model.proofs.Owns.{IsAlike, alike-itself, put-alike}
use Rattle.tick_model.specs.Buildings.{pays, started}
use Rattle.tick_model.specs.Changes.{Change, new_fleet, new_owns, new_queue, no_change, owns, sends_fleet}
use Rattle.tick_model.specs.Flights.{left_by, recalled_at, turned}
use Rattle.tick_model.specs.Lines.{account_text, fleet_lines, own_fleets, planet_text}
use Rattle.tick_model.specs.Refusals.{build_refusal, research_refusal, yard_refusal}
use Rattle.tick_model.specs.Requests.{Answer, Outcome, Sight, companions_seen, errand_of, granted, joins_on, joins_raid, on_account, on_own, ordered, outcome, own_seen, owner_there, place_behind, queue_seen, queues, raiders_seen, queues_batch, queues_research, recalls, recalls_own, refused, sends, sends_on, sets, shows, system_lines, tells, tells_fleets, tells_system, with_planet, builds, researches, yards}
use Rattle.tick_model.specs.Researches.{pays_research, started_research}
use Rattle.tick_model.specs.Rules.{queue_cell}
use Rattle.tick_model.specs.Sending.{Errand, arrival_of, can_go, departed, fleet_of, fuel_of, has_ships, join_refusal, launched, seconds_to, send_refusal, with_group}
use Rattle.tick_model.specs.Universe.{AccountFields, Buildings, Researches, Yard, Fleet, Item, Own, PlanetFields, QueueClass, same_class, of_account, of_nothing, of_planet}
use Rattle.tick_model.specs.Views.{View, belongs}
use Rattle.tick_model.specs.Yards.{begun, pays_batch}
use Rattle.tick_model.specs.declared.codes.TheConstants.{NOT_OUTBOUND, NOT_YOURS, NO_FLEET, NO_PLANET, NO_PLAYER}

-- a cell is at the place that is named, if one is
abbrev pub is_named : Option Coord → CellId → Bool
is_named None cell = false
is_named (Some at) cell = same_cell (Planet at) cell

-- the fleets that a caller sees
abbrev pub flown : Sight → Player → List Fleet
flown sight player = (sight.seen (Account player)).fleets

-- the same sight, of a request with a number
abbrev pub at_number : ℕ → Sight → Sight
at_number number sight = record sight { number = number }

-- a planet stands at each of these places
abbrev pub StandsAt : Sight → Option Coord → Type 0
StandsAt sight named = IfSome named (λ at. (planet : PlanetFields) × (own_seen sight (Planet at) ≡ of_planet planet))

-- the caller has an account, and at the places that are named planets stand
pub record IsGranted (sight : Sight) (player : Player) (req : Request) : Type 0 where
  pub account : AccountFields
  pub caller : own_seen sight (Account player) ≡ of_account account
  pub place : StandsAt sight (from_place player (flown sight player) req)
  pub away : StandsAt sight (to_place player (flown sight player) req)

-- nothing is ordered
pub record OrdersNone (player : Player) (req : Request) : Type 0 where
  pub queue : queue_ordered player req ≡ None
  pub fleet : (fleets : List Fleet) → fleet_ordered req fleets ≡ None
  pub units : units_ordered req ≡ 0

-- an item that a request orders: it joins this queue of the caller's, and if that is a yard it has as many units as are ordered
pub record IsJoining (sight : Sight) (player : Player) (req : Request) (queue : Queue) (item : Item) : Type 0 where
  pub account : AccountFields
  pub planet : PlanetFields
  pub own : IsOwn sight player item.place account planet
  pub cell : item.cell ≡ home_of queue
  pub class : item.class ≡ class_of queue
  pub home : item.cell ≡ queue_cell item.class item.place player
  pub units : item.left ≡ units_ordered req
  pub none : same_class item.class Yard ≡ false → item.left ≡ 0
  pub named : from_place player (flown sight player) req ≡ Some item.place

-- a fleet that a request sends: it leaves a planet of the caller's, whose ships it takes, for another planet
pub record IsLeaving (sight : Sight) (player : Player) (req : Request) (own : CellId → Own) (fleet : Fleet) : Type 0 where
  pub from : PlanetFields
  pub leaves : own_seen sight (Planet fleet.origin) ≡ of_planet from
  pub is_own : from.owner ≡ player
  pub left : PlanetFields
  pub left_owner : left.owner ≡ from.owner
  pub left_units : sum left.units + sum fleet.ships ≡ sum from.units
  pub own_is : own ≡ with_planet sight fleet.origin left
  pub owner : fleet.owner ≡ player
  pub to : PlanetFields
  pub reaches : own_seen sight (Planet fleet.target) ≡ of_planet to
  pub is_theirs : to.owner ≡ fleet.target_owner
  pub from_is : from_place player (flown sight player) req ≡ Some fleet.origin
  pub to_is : to_place player (flown sight player) req ≡ elsewhere fleet.origin fleet.target
  pub number : fleet.number ≡ 0
  pub queue : queue_ordered player req ≡ None
  pub ordered : (fleets : List Fleet) → fleet_ordered req fleets ≡ last_fleet fleets
  pub units : units_ordered req ≡ 0

-- what becomes of a fleet that is called back
abbrev pub called_at : ℕ → Fleet → Option Fleet
called_at moment fleet = Some (turned fleet (recalled_at fleet moment) fleet.cargo)

-- What a request comes to, by its number.
pub data ComesTo (sight : Sight) (player : Player) (req : Request) (came : ℕ → Outcome) : Type 0 where
  refuses : (code : ℕ) → (code ≡ 0 → ⊥) → ((number : ℕ) → came number ≡ refused sight code) → ComesTo sight player req came
  keeps : (body : List ℕ) (own : CellId → Own) → IsGranted sight player req → OrdersNone player req → AllSeenAlike sight own
      → ((cell : CellId) → is_named (from_place player (flown sight player) req) cell ≡ false → own cell ≡ own_seen sight cell)
      → ((number : ℕ) → came number ≡ granted body (new_owns own)) → ComesTo sight player req came
  orders : (body : List ℕ) (own : CellId → Own) (queue : Queue) (item : Item) → IsGranted sight player req → queue_ordered player req ≡ Some queue
      → IsJoining sight player req queue item → AllSeenAlike sight own
      → ((cell : CellId) → is_named (from_place player (flown sight player) req) cell ≡ false → own cell ≡ own_seen sight cell)
      → ((number : ℕ) → came number ≡ granted body (new_queue own item.cell item.class (queue_seen sight item.cell item.class ++ record item { number = number } ∷ [])))
      → ComesTo sight player req came
  sends_out : (body : List ℕ) (own : CellId → Own) (fleet : Fleet) → IsGranted sight player req → IsLeaving sight player req own fleet
      → ((number : ℕ) → came number ≡ granted body (sends_fleet own (fleet_with number fleet))) → ComesTo sight player req came
  calls_back : (body : List ℕ) (number : FleetNumber) (fleet : Fleet) (account : AccountFields) → own_seen sight (Account player) ≡ of_account account → OrdersNone player req
      → req ≡ Recall number → fleet_of player number.f (flown sight player) ≡ Some fleet → fleet.outbound ≡ true
      → ((count : ℕ) → came count ≡ granted body (new_fleet (owns sight.seen) number.f (called_at sight.moment))) → ComesTo sight player req came

-- a planet with the same owner and units is alike
planet-alike : (sight : Sight) (at : Coord) (planet new : PlanetFields) → owns sight.seen (Planet at) ≡ of_planet planet → IsAlike (of_planet planet) (of_planet new)
    → AllSeenAlike sight (with_planet sight at new)
planet-alike sight at planet new is alike =
    put-alike (Planet at) (of_planet new) (owns sight.seen) (owns sight.seen) (subst (λ own. IsAlike own (of_planet new)) (sym is) alike) (λ x. alike-itself (owns sight.seen x))

seen-alike : (sight : Sight) → AllSeenAlike sight (owns sight.seen)
seen-alike sight x = alike-itself (owns sight.seen x)

-- what is put at the place that is named is put nowhere else
put-named : (sight : Sight) (named : Option Coord) (at : Coord) (new : PlanetFields) → named ≡ Some at → (cell : CellId) → is_named named cell ≡ false → with_planet sight at new cell ≡ own_seen sight cell
put-named sight named at new is cell out = ap (λ b. cond b (of_planet new) (own_seen sight cell)) (ap (λ place. is_named place cell) (sym is) ∙ out)

own-comes : (sight : Sight) (player : Player) (req : Request) (at : Coord) (caller there : Own) (grant : ℕ → AccountFields → PlanetFields → Outcome)
    → own_seen sight (Account player) ≡ caller → own_seen sight (Planet at) ≡ there
    → ((account : AccountFields) (planet : PlanetFields) → IsOwn sight player at account planet → ComesTo sight player req (λ number. grant number account planet))
    → ComesTo sight player req (λ number. on_own (at_number number sight) player caller there (grant number))
own-comes sight player req at (of_account account) (of_planet planet) grant caller there gives =
    elim (same_player planet.owner player) as (λ b. same_player planet.owner player ≡ b → ComesTo sight player req (λ number. cond b (grant number account planet) (refused sight NOT_YOURS))) [
      | true ↦ λ same. gives account planet (record { caller = caller; there = there; owner = player-from planet.owner player same })
      | false ↦ λ other. refuses NOT_YOURS (λ none. absurd (omega arith)) (λ number. refl)
    ] refl
own-comes sight player req at (of_account account) of_nothing grant caller there gives = refuses NO_PLANET (λ none. absurd (omega arith)) (λ number. refl)
own-comes sight player req at (of_account account) (of_account other) grant caller there gives = refuses NO_PLANET (λ none. absurd (omega arith)) (λ number. refl)
own-comes sight player req at of_nothing there grant caller is gives = refuses NO_PLAYER (λ none. absurd (omega arith)) (λ number. refl)
own-comes sight player req at (of_planet planet) there grant caller is gives = refuses NO_PLAYER (λ none. absurd (omega arith)) (λ number. refl)

at-own : (sight : Sight) (player : Player) (req : Request) (at : Coord) (grant : ℕ → AccountFields → PlanetFields → Outcome)
    → ((account : AccountFields) (planet : PlanetFields) → IsOwn sight player at account planet → ComesTo sight player req (λ number. grant number account planet))
    → ComesTo sight player req (λ number. on_own (at_number number sight) player (own_seen sight (Account player)) (own_seen sight (Planet at)) (grant number))
at-own sight player req at grant gives = own-comes sight player req at (own_seen sight (Account player)) (own_seen sight (Planet at)) grant refl refl gives

-- a request about one planet of the caller's
given-at : (sight : Sight) (player : Player) (req : Request) (at : Coord) (account : AccountFields) (planet : PlanetFields) → IsOwn sight player at account planet
    → from_place player (flown sight player) req ≡ Some at → to_place player (flown sight player) req ≡ None → IsGranted sight player req
given-at sight player req at account planet own near far = record {
  account = account;
  caller = own.caller;
  place = subst (StandsAt sight) (sym near) (planet, own.there);
  away = subst (StandsAt sight) (sym far) tt;
}

-- what is ordered is refused with a code above 0
unless-comes : (sight : Sight) (player : Player) (req : Request) (code : ℕ) (grant : ℕ → Outcome) → (code ≡ 0 → ComesTo sight player req grant)
    → ComesTo sight player req (λ number. cond (eqb code 0) (grant number) (refused sight code))
unless-comes sight player req code grant gives =
    elim (eqb code 0) as (λ b. eqb code 0 ≡ b → ComesTo sight player req (λ number. cond b (grant number) (refused sight code))) [
      | true ↦ λ test. gives (number-is code 0 test)
      | false ↦ λ test. refuses code (λ none. never (eqb code 0) (ap (λ n. eqb n 0) none) test) (λ number. refl)
    ] refl

-- what is only shown
shown-comes : (sight : Sight) (player : Player) (req : Request) (body : List ℕ) → IsGranted sight player req → OrdersNone player req → ComesTo sight player req (λ number. granted body (no_change sight.seen))
shown-comes sight player req body given none = keeps body (owns sight.seen) given none (seen-alike sight) (λ cell out. refl) (λ number. refl)

queues-comes : (sight : Sight) (player : Player) (req : Request) (at : Coord) (kind : Kind) (account : AccountFields) (planet : PlanetFields) (items : List Item)
    → queue_ordered player req ≡ Some (BuildingsOf at) → 0 ≡ units_ordered req → from_place player (flown sight player) req ≡ Some at → IsOwn sight player at account planet → IsGranted sight player req
    → items ≡ queue_seen sight (Planet at) Buildings → ComesTo sight player req (λ number. queues (at_number number sight) at kind planet items)
queues-comes sight player req at kind account planet [] place few near own given is =
    let item = started sight.rules.speed sight.moment planet (ordered sight (Planet at) Buildings at kind 0) in
    let after = with_planet sight at (pays planet kind) in
    let body = starts_line item.level item.second in
    orders body after (BuildingsOf at) item given place
    (record { account = account; planet = planet; own = own; cell = refl; class = refl; home = refl; units = few; none = λ other. refl; named = near })
    (planet-alike sight at planet (pays planet kind) own.there (refl, refl)) (put-named sight (from_place player (flown sight player) req) at (pays planet kind) near)
    (λ number. ap (λ items. granted body (new_queue after (Planet at) Buildings (items ++ record item { number = number } ∷ []))) is)
queues-comes sight player req at kind account planet (first ∷ later) place few near own given is =
    let item = ordered sight (Planet at) Buildings at kind 0 in
    let body = waits_line (place_behind (first ∷ later)) in
    orders body (owns sight.seen) (BuildingsOf at) item given place
    (record { account = account; planet = planet; own = own; cell = refl; class = refl; home = refl; units = few; none = λ other. refl; named = near })
    (seen-alike sight) (λ cell out. refl)
    (λ number. ap (λ items. granted body (new_queue (owns sight.seen) (Planet at) Buildings (items ++ record item { number = number } ∷ []))) is)

research-comes : (sight : Sight) (player : Player) (req : Request) (at : Coord) (kind : Kind) (account : AccountFields) (planet : PlanetFields) (items : List Item)
    → queue_ordered player req ≡ Some (ResearchOf player) → 0 ≡ units_ordered req → from_place player (flown sight player) req ≡ Some at → IsOwn sight player at account planet → IsGranted sight player req
    → items ≡ queue_seen sight (Account player) Researches → ComesTo sight player req (λ number. queues_research (at_number number sight) player at kind account planet items)
research-comes sight player req at kind account planet [] place few near own given is =
    let item = started_research sight.rules.speed sight.moment account planet (ordered sight (Account player) Researches at kind 0) in
    let after = with_planet sight at (pays_research account planet kind) in
    let body = starts_line item.level item.second in
    orders body after (ResearchOf player) item given place
    (record { account = account; planet = planet; own = own; cell = refl; class = refl; home = refl; units = few; none = λ other. refl; named = near })
    (planet-alike sight at planet (pays_research account planet kind) own.there (refl, refl)) (put-named sight (from_place player (flown sight player) req) at (pays_research account planet kind) near)
    (λ number. ap (λ items. granted body (new_queue after (Account player) Researches (items ++ record item { number = number } ∷ []))) is)
research-comes sight player req at kind account planet (first ∷ later) place few near own given is =
    let item = ordered sight (Account player) Researches at kind 0 in
    let body = waits_line (place_behind (first ∷ later)) in
    orders body (owns sight.seen) (ResearchOf player) item given place
    (record { account = account; planet = planet; own = own; cell = refl; class = refl; home = refl; units = few; none = λ other. refl; named = near })
    (seen-alike sight) (λ cell out. refl)
    (λ number. ap (λ items. granted body (new_queue (owns sight.seen) (Account player) Researches (items ++ record item { number = number } ∷ []))) is)

batch-comes : (sight : Sight) (player : Player) (req : Request) (at : Coord) (kind : Kind) (count : ℕ) (account : AccountFields) (planet : PlanetFields) (items : List Item)
    → queue_ordered player req ≡ Some (YardAt at) → count ≡ units_ordered req → from_place player (flown sight player) req ≡ Some at → IsOwn sight player at account planet → IsGranted sight player req
    → items ≡ queue_seen sight (Planet at) Yard → ComesTo sight player req (λ number. queues_batch (at_number number sight) at kind count planet items)
batch-comes sight player req at kind count account planet [] place many near own given is =
    let new = pays_batch planet kind count in
    let item = begun sight.rules.speed sight.moment planet (ordered sight (Planet at) Yard at kind count) in
    let after = with_planet sight at new in
    let body = starts_line count item.second in
    orders body after (YardAt at) item given place
    (record { account = account; planet = planet; own = own; cell = refl; class = refl; home = refl; units = many; none = λ other. absurd cc; named = near })
    (planet-alike sight at planet new own.there (refl, refl)) (put-named sight (from_place player (flown sight player) req) at new near)
    (λ number. ap (λ items. granted body (new_queue after (Planet at) Yard (items ++ record item { number = number } ∷ []))) is)
batch-comes sight player req at kind count account planet (first ∷ later) place many near own given is =
    let new = pays_batch planet kind count in
    let item = ordered sight (Planet at) Yard at kind count in
    let after = with_planet sight at new in
    let body = waits_line (place_behind (first ∷ later)) in
    orders body after (YardAt at) item given place
    (record { account = account; planet = planet; own = own; cell = refl; class = refl; home = refl; units = many; none = λ other. absurd cc; named = near })
    (planet-alike sight at planet new own.there (refl, refl)) (put-named sight (from_place player (flown sight player) req) at new near)
    (λ number. ap (λ items. granted body (new_queue after (Planet at) Yard (items ++ record item { number = number } ∷ []))) is)

-- the ships that leave and those that stay are all
ships-cons : (x : ℕ) (xs : List ℕ) → sum (x ∷ xs) ≡ x + sum xs
ships-cons x xs = sum_by-cons (λ (n : ℕ). n) x xs

at-most : (m n : ℕ) → nat_le m n ≡ true → m ≤ n
at-most m n is = grind (arith, nat_tests)

left-sum : (counts ships : List ℕ) → has_ships counts ships ≡ true → sum (left_by counts ships) + sum ships ≡ sum counts
left-sum [] [] has = refl
left-sum [] (ship ∷ ships) has = never false has refl
left-sum (count ∷ counts) [] has = let same : sum (count ∷ counts) + 0 ≡ sum (count ∷ counts) = omega arith in same
left-sum (count ∷ counts) (ship ∷ ships) has =
    let both = and-is (nat_le ship count) (has_ships counts ships) has in
    let fits = at-most ship count both.0 in
    let rest = left-sum counts ships both.1 in
    let new = ships-cons (count - ship) (left_by counts ships) in
    let old = ships-cons count counts in
    let more = ships-cons ship ships in
    omega (arith, fits, rest, new, old, more)

departed-owner : (account : AccountFields) (planet : PlanetFields) (errand : Errand) → (departed account planet errand).owner ≡ planet.owner
unfolding departed
departed-owner account planet errand = refl

departed-units : (account : AccountFields) (planet : PlanetFields) (errand : Errand) → has_ships planet.units errand.ships ≡ true → sum (departed account planet errand).units + sum errand.ships ≡ sum planet.units
unfolding departed
departed-units account planet errand has = left-sum planet.units errand.ships has

theirs : (player : Player) (own : Own) (to : PlanetFields) → own ≡ of_planet to → to.owner ≡ owner_there player own
theirs player (of_planet planet) to is = let same : planet ≡ to = cc in ap (λ (p : PlanetFields). p.owner) (sym same)
theirs player of_nothing to is = absurd cc
theirs player (of_account account) to is = absurd cc

stands-elsewhere : (sight : Sight) (from to : Coord) (planet : PlanetFields) (b : Bool) → own_seen sight (Planet to) ≡ of_planet planet → StandsAt sight (cond b None (Some to))
stands-elsewhere sight from to planet true is = tt
stands-elsewhere sight from to planet false is = (planet, is)

-- a fleet that isn't refused leaves
leaves-comes : (sight : Sight) (player : Player) (req : Request) (errand : Errand) (account : AccountFields) (planet : PlanetFields) (group second : ℕ) (body : List ℕ) (came : ℕ → Outcome)
    → IsOwn sight player errand.from account planet → has_ships planet.units errand.ships ≡ true → can_go player errand (own_seen sight (Planet errand.to)) ≡ true
    → from_place player (flown sight player) req ≡ Some errand.from → to_place player (flown sight player) req ≡ elsewhere errand.from errand.to
    → queue_ordered player req ≡ None → ((fleets : List Fleet) → fleet_ordered req fleets ≡ last_fleet fleets) → units_ordered req ≡ 0
    → ((number : ℕ) → came number
    ≡ granted body (sends_fleet (with_planet sight errand.from (departed account planet errand))
    (fleet_with number (with_group group second (launched sight.rules.speed 0 sight.moment player account (owner_there player (own_seen sight (Planet errand.to))) errand)))))
    → ComesTo sight player req came
leaves-comes sight player req errand account planet group second body came own has goes near far queue sent few is =
    let target = own_seen sight (Planet errand.to) in
    let to = goes-to player errand target goes in
    let fleet = with_group group second (launched sight.rules.speed 0 sight.moment player account (owner_there player target) errand) in
    sends_out body (with_planet sight errand.from (departed account planet errand)) fleet
    (record {
      account = account;
      caller = own.caller;
      place = subst (StandsAt sight) (sym near) (planet, own.there);
      away = subst (StandsAt sight) (sym far) (stands-elsewhere sight errand.from errand.to to.to (same_coord errand.from errand.to) to.reaches);
    })
    (record {
      from = planet;
      leaves = own.there;
      is_own = own.owner;
      left = departed account planet errand;
      left_owner = departed-owner account planet errand;
      left_units = departed-units account planet errand has;
      own_is = refl;
      owner = refl;
      to = to.to;
      reaches = to.reaches;
      is_theirs = theirs player target to.to to.reaches;
      from_is = near;
      to_is = far;
      number = refl;
      queue = queue;
      ordered = sent;
      units = few;
    })
    is

-- a fleet that is sent
sends-comes : (sight : Sight) (player : Player) (req : Request) (errand : Errand) (account : AccountFields) (planet : PlanetFields) → IsOwn sight player errand.from account planet
    → has_ships planet.units errand.ships ≡ true → can_go player errand (own_seen sight (Planet errand.to)) ≡ true
    → from_place player (flown sight player) req ≡ Some errand.from → to_place player (flown sight player) req ≡ elsewhere errand.from errand.to
    → queue_ordered player req ≡ None → ((fleets : List Fleet) → fleet_ordered req fleets ≡ last_fleet fleets) → units_ordered req ≡ 0
    → ComesTo sight player req (λ number. sends (at_number number sight) player errand account planet)
sends-comes sight player req errand account planet own has goes near far queue sent few =
    let second = sight.moment + seconds_to sight.rules.speed account errand in
    leaves-comes sight player req errand account planet 0 second (arrives_line second (fuel_of account errand)) _ own has goes near far queue sent few (λ number. refl)

-- a group has a number
some-group : (group : ℕ) → 1 ≤ group → eqb group 0 ≡ false
some-group group some = grind (arith, nat_tests)

-- a fleet that joins a raid
joins-comes : (sight : Sight) (player : Player) (req : Request) (group : FleetNumber) (errand : Errand) (account : AccountFields) (planet : PlanetFields) → IsOwn sight player errand.from account planet
    → has_ships planet.units errand.ships ≡ true → can_go player errand (own_seen sight (Planet errand.to)) ≡ true
    → from_place player (flown sight player) req ≡ Some errand.from → to_place player (flown sight player) req ≡ elsewhere errand.from errand.to
    → queue_ordered player req ≡ None → ((fleets : List Fleet) → fleet_ordered req fleets ≡ last_fleet fleets) → units_ordered req ≡ 0
    → ComesTo sight player req (λ number. joins_raid (at_number number sight) player group.f errand account planet)
joins-comes sight player req group errand account planet own has goes near far queue sent few =
    let second = arrival_of (raiders_seen sight errand.to group.f) in
    let body = arrives_line second (fuel_of account errand) in
    let after = with_planet sight errand.from (departed account planet errand) in
    let flies = launched sight.rules.speed 0 sight.moment player account (owner_there player (own_seen sight (Planet errand.to))) errand in
    let given = some-group group.f group.from in
    leaves-comes sight player req errand account planet group.f second body _ own has goes near far queue sent few
    (λ number i. granted body (sends_fleet after (record (with_group group.f second flies) { number = number; group = cond (sym given i) number group.f })))

calls-at : (sight : Sight) (player : Player) (number : FleetNumber) (fleet : Fleet) (account : AccountFields) (b : Bool) → fleet.outbound ≡ b → own_seen sight (Account player) ≡ of_account account
    → fleet_of player number.f (flown sight player) ≡ Some fleet
    → ComesTo sight player (Recall number)
    (λ count. cond b (granted (back_line (recalled_at fleet sight.moment)) (new_fleet (owns sight.seen) number.f (called_at sight.moment))) (refused sight NOT_OUTBOUND))
calls-at sight player number fleet account true out caller found =
    calls_back (back_line (recalled_at fleet sight.moment)) number fleet account caller (record { queue = refl; fleet = λ fleets. refl; units = refl }) refl found out (λ count. refl)
calls-at sight player number fleet account false out caller found = refuses NOT_OUTBOUND (λ none. absurd (omega arith)) (λ count. refl)

calls-comes : (sight : Sight) (player : Player) (number : FleetNumber) (account : AccountFields) (found : Option Fleet) → own_seen sight (Account player) ≡ of_account account
    → fleet_of player number.f (flown sight player) ≡ found → ComesTo sight player (Recall number) (λ count. recalls (at_number count sight) number.f found)
calls-comes sight player number account None caller is = refuses NO_FLEET (λ none. absurd (omega arith)) (λ count. refl)
calls-comes sight player number account (Some fleet) caller is = calls-at sight player number fleet account fleet.outbound refl caller is

account-comes : (sight : Sight) (player : Player) (req : Request) (caller : Own) (grant : ℕ → AccountFields → Outcome) → own_seen sight (Account player) ≡ caller
    → ((account : AccountFields) → own_seen sight (Account player) ≡ of_account account → ComesTo sight player req (λ number. grant number account))
    → ComesTo sight player req (λ number. on_account (at_number number sight) caller (grant number))
account-comes sight player req (of_account account) grant is gives = gives account is
account-comes sight player req of_nothing grant is gives = refuses NO_PLAYER (λ none. absurd (omega arith)) (λ number. refl)
account-comes sight player req (of_planet planet) grant is gives = refuses NO_PLAYER (λ none. absurd (omega arith)) (λ number. refl)

pub comes-to : (sight : Sight) (player : Player) (req : Request) → ComesTo sight player req (λ number. outcome (at_number number sight) player req)
comes-to sight player (PlanetOf at) =
    at-own sight player (PlanetOf at) at (λ number. shows (at_number number sight) at) (λ account planet own.
    shown-comes sight player (PlanetOf at) (planet_text sight.rules.speed at planet (queue_seen sight (Planet at))) (given-at sight player (PlanetOf at) at account planet own refl refl)
    (record { queue = refl; fleet = λ fleets. refl; units = refl }))
comes-to sight player AccountOf =
    account-comes sight player AccountOf (own_seen sight (Account player)) (λ number. tells (at_number number sight) player) refl (λ account caller.
    shown-comes sight player AccountOf (account_text player account (sight.seen (Account player))) (record { account = account; caller = caller; place = tt; away = tt })
    (record { queue = refl; fleet = λ fleets. refl; units = refl }))
comes-to sight player FleetsOf =
    account-comes sight player FleetsOf (own_seen sight (Account player)) (λ number. tells_fleets (at_number number sight) player) refl (λ account caller.
    shown-comes sight player FleetsOf (fleet_lines (own_fleets player (flown sight player))) (record { account = account; caller = caller; place = tt; away = tt })
    (record { queue = refl; fleet = λ fleets. refl; units = refl }))
comes-to sight player (SystemOf system) =
    account-comes sight player (SystemOf system) (own_seen sight (Account player)) (λ number. tells_system (at_number number sight) system) refl (λ account caller.
    shown-comes sight player (SystemOf system) (system_lines system sight.seen sight.cells) (record { account = account; caller = caller; place = tt; away = tt })
    (record { queue = refl; fleet = λ fleets. refl; units = refl }))
comes-to sight player (Build at building) =
    let req = Build at building in
    at-own sight player req at (λ number. builds (at_number number sight) at building.kind) (λ account planet own.
    let items = queue_seen sight (Planet at) Buildings in
    unless-comes sight player req (build_refusal account planet items building.kind) (λ number. queues (at_number number sight) at building.kind planet items) (λ none.
    queues-comes sight player req at building.kind account planet items refl refl refl own (given-at sight player req at account planet own refl refl) refl))
comes-to sight player (Research at technology) =
    let req = Research at technology in
    at-own sight player req at (λ number. researches (at_number number sight) player at technology.kind) (λ account planet own.
    let items = queue_seen sight (Account player) Researches in
    unless-comes sight player req (research_refusal sight.rules.speed account planet items technology.kind)
    (λ number. queues_research (at_number number sight) player at technology.kind account planet items) (λ none.
    research-comes sight player req at technology.kind account planet items refl refl refl own (given-at sight player req at account planet own refl refl) refl))
comes-to sight player (YardOf at unit count) =
    let req = YardOf at unit count in
    at-own sight player req at (λ number. yards (at_number number sight) player at unit.kind count.n) (λ account planet own.
    let batches = queue_seen sight (Planet at) Yard in
    unless-comes sight player req (yard_refusal account (sight.seen (Account player)).units planet batches unit.kind count.n)
    (λ number. queues_batch (at_number number sight) at unit.kind count.n planet batches) (λ none.
    batch-comes sight player req at unit.kind count.n account planet batches refl refl refl own (given-at sight player req at account planet own refl refl) refl))
comes-to sight player (Set at work tenths) =
    let req = Set at work tenths in
    at-own sight player req at (λ number. sets (at_number number sight) at work.kind tenths.n) (λ account planet own.
    keeps [] (with_planet sight at _) (given-at sight player req at account planet own refl refl) (record { queue = refl; fleet = λ fleets. refl; units = refl })
    (planet-alike sight at planet _ own.there (refl, refl)) (put-named sight (Some at) at _ refl) (λ number. refl))
comes-to sight player (Send from to mission setting ships cargo) =
    let req = Send from to mission setting ships cargo in
    let errand = errand_of from to mission setting.p ships.n cargo in
    at-own sight player req from (λ number. sends_on (at_number number sight) player errand) (λ account planet own.
    let fleets = length (own_fleets player (flown sight player)) in
    let target = own_seen sight (Planet to) in
    unless-comes sight player req (send_refusal player account fleets planet target errand) (λ number. sends (at_number number sight) player errand account planet) (λ none.
    let goes = send-goes player account fleets planet target errand none in
    sends-comes sight player req errand account planet own goes.0 goes.1 refl refl refl (λ all. refl) refl))
comes-to sight player (Recall fleet) =
    account-comes sight player (Recall fleet) (own_seen sight (Account player)) (λ number. recalls_own (at_number number sight) player fleet.f) refl (λ account caller.
    calls-comes sight player fleet account (fleet_of player fleet.f (flown sight player)) caller refl)
comes-to sight player (Join group from to setting ships cargo) =
    let req = Join group from to setting ships cargo in
    let errand = errand_of from to Attack setting.p ships.n cargo in
    at-own sight player req from (λ number. joins_on (at_number number sight) player group.f errand) (λ account planet own.
    let fleets = length (own_fleets player (flown sight player)) in
    let target = own_seen sight (Planet to) in
    let raid = raiders_seen sight to group.f in
    let companions = length (companions_seen sight to group.f) in
    unless-comes sight player req (join_refusal sight.rules.speed sight.moment player account fleets planet target errand raid companions)
    (λ number. joins_raid (at_number number sight) player group.f errand account planet) (λ none.
    let may = may-join sight player errand account planet raid fleets companions none in
    joins-comes sight player req group errand account planet own may.has may.goes refl refl refl (λ all. refl) refl))

-- The answer doesn't depend on the number.
pub answer-same : (sight : Sight) (player : Player) (req : Request) (came : ℕ → Outcome) (one other : ℕ) → ComesTo sight player req came → (came one).answer ≡ (came other).answer
answer-same sight player req came one other (refuses code reason is) = ap (λ (x : Outcome). x.answer) (is one ∙ sym (is other))
answer-same sight player req came one other (keeps body own given none alike leaves is) = ap (λ (x : Outcome). x.answer) (is one ∙ sym (is other))
answer-same sight player req came one other (orders body own queue item given place joining alike leaves is) =
    ap (λ (x : Outcome). x.answer) (is one) ∙ ap (λ (x : Outcome). x.answer) (sym (is other))
answer-same sight player req came one other (sends_out body own fleet given leaving is) =
    ap (λ (x : Outcome). x.answer) (is one) ∙ ap (λ (x : Outcome). x.answer) (sym (is other))
answer-same sight player req came one other (calls_back body number fleet account caller none recall found out is) = ap (λ (x : Outcome). x.answer) (is one ∙ sym (is other))

-- nor does what cells have of their own
pub own-same : (sight : Sight) (player : Player) (req : Request) (came : ℕ → Outcome) (one other : ℕ) → ComesTo sight player req came → (came one).change.own ≡ (came other).change.own
own-same sight player req came one other (refuses code reason is) = ap (λ (x : Outcome). x.change.own) (is one ∙ sym (is other))
own-same sight player req came one other (keeps body own given none alike leaves is) = ap (λ (x : Outcome). x.change.own) (is one ∙ sym (is other))
own-same sight player req came one other (orders body own queue item given place joining alike leaves is) =
    ap (λ (x : Outcome). x.change.own) (is one) ∙ ap (λ (x : Outcome). x.change.own) (sym (is other))
own-same sight player req came one other (sends_out body own fleet given leaving is) =
    ap (λ (x : Outcome). x.change.own) (is one) ∙ ap (λ (x : Outcome). x.change.own) (sym (is other))
own-same sight player req came one other (calls_back body number fleet account caller none recall found out is) = ap (λ (x : Outcome). x.change.own) (is one ∙ sym (is other))

-- what is refused changes nothing
pub refused-change : (sight : Sight) (player : Player) (req : Request) (came : ℕ → Outcome) (number : ℕ) → ComesTo sight player req came → ((came number).answer.code ≡ 0 → ⊥)
    → (came number).change ≡ no_change sight.seen
refused-change sight player req came number (refuses code reason is) denied = ap (λ (x : Outcome). x.change) (is number)
refused-change sight player req came number (keeps body own given none alike leaves is) denied = absurd (denied (ap (λ (x : Outcome). x.answer.code) (is number)))
refused-change sight player req came number (orders body own queue item given place joining alike leaves is) denied = absurd (denied (ap (λ (x : Outcome). x.answer.code) (is number)))
refused-change sight player req came number (sends_out body own fleet given leaving is) denied = absurd (denied (ap (λ (x : Outcome). x.answer.code) (is number)))
refused-change sight player req came number (calls_back body count fleet account caller none recall found out is) denied = absurd (denied (ap (λ (x : Outcome). x.answer.code) (is number)))

-- What the number makes of what is seen.

-- what is seen of a cell, of which this was seen, once it has this of its own, and a change has come to its queues and fleets
abbrev pub after_view : Change → CellId → View → Own → View
after_view change cell v own =
    record v { own = own; queue = λ c. cond (change.requeued cell c) change.items (v.queue c); fleets = fleets_after change cell v.fleets }

-- what was ordered has this number
abbrev pub number_seen : ℕ → Option Ordered → CellId → View → View
number_seen number None cell seen = seen
number_seen number (Some (ItemOrdered queue)) cell seen =
    cond (same_cell (home_of queue) cell) (record seen { queue = λ c. cond (same_class (class_of queue) c) (numbered number (seen.queue c)) (seen.queue c) }) seen
number_seen number (Some (FleetSent fleet)) cell seen = cond (belongs cell (fleet_seen fleet)) (record seen { fleets = last_numbered number seen.fleets }) seen

none-ordered : (ordered : Option Ordered) (queue : Option Queue) (fleet : Option Fleet) → queue ≡ None → fleet ≡ None → IsOrdered queue fleet ordered → ordered ≡ None
none-ordered None queue fleet no_queue no_fleet is = refl
none-ordered (Some (ItemOrdered other)) queue fleet no_queue no_fleet is = absurd (let both : None ≡ Some other = sym no_queue ∙ is.0 in cc)
none-ordered (Some (FleetSent other)) queue fleet no_queue no_fleet is = absurd (let both : None ≡ Some (fleet_seen other) = sym no_fleet ∙ is.1 in cc)

item-ordered : (ordered : Option Ordered) (queue : Option Queue) (fleet : Option Fleet) (one : Queue) → queue ≡ Some one → IsOrdered queue fleet ordered → ordered ≡ Some (ItemOrdered one)
item-ordered None queue fleet one some is = absurd (let both : None ≡ Some one = sym is.0 ∙ some in cc)
item-ordered (Some (ItemOrdered other)) queue fleet one some is =
    let both : Some other ≡ Some one = sym is.0 ∙ some in
    let same : other ≡ one = cc in ap (λ q. Some (ItemOrdered q)) same
item-ordered (Some (FleetSent other)) queue fleet one some is = absurd (let both : None ≡ Some one = sym is.0 ∙ some in cc)

-- a fleet is ordered
pub record OrdersFleet (ordered : Option Ordered) (fleet : Fleet) : Type 0 where
  pub sent : FleetRecord
  pub is : ordered ≡ Some (FleetSent sent)
  pub seen : fleet_seen sent ≡ fleet

fleet-ordered : (ordered : Option Ordered) (queue : Option Queue) (fleet : Option Fleet) (one : Fleet) → queue ≡ None → fleet ≡ Some one → IsOrdered queue fleet ordered → OrdersFleet ordered one
fleet-ordered None queue fleet one none some is = absurd (let both : None ≡ Some one = sym is.1 ∙ some in cc)
fleet-ordered (Some (ItemOrdered other)) queue fleet one none some is = absurd (let both : None ≡ Some other = sym none ∙ is.0 in cc)
fleet-ordered (Some (FleetSent other)) queue fleet one none some is =
    let both : Some (fleet_seen other) ≡ Some one = sym is.1 ∙ some in
    let same : fleet_seen other ≡ one = cc in record { sent = other; is = refl; seen = same }

numbered-last : (number : ℕ) (items : List Item) (item : Item) → numbered number (items ++ item ∷ []) ≡ items ++ record item { number = number } ∷ []
numbered-last number [] item = refl
numbered-last number (first ∷ []) item = refl
numbered-last number (first ∷ next ∷ later) item = ap (λ items. first ∷ items) (numbered-last number (next ∷ later) item)

fleet-last : (number : ℕ) (fleets : List Fleet) (fleet : Fleet) → last_numbered number (fleets ++ fleet ∷ []) ≡ fleets ++ fleet_with number fleet ∷ []
fleet-last number [] fleet = refl
fleet-last number (first ∷ []) fleet = refl
fleet-last number (first ∷ next ∷ later) fleet = ap (λ fleets. first ∷ fleets) (fleet-last number (next ∷ later) fleet)

last-is : (fleets : List Fleet) (fleet : Fleet) → last_fleet (fleets ++ fleet ∷ []) ≡ Some fleet
last-is [] fleet = refl
last-is (first ∷ []) fleet = refl
last-is (first ∷ next ∷ later) fleet = last-is (next ∷ later) fleet

queue-numbered : (b : Bool) (number : ℕ) (old one other : List Item) → one ≡ numbered number other → cond b one old ≡ cond b (numbered number (cond b other old)) (cond b other old)
queue-numbered true number old one other is = is
queue-numbered false number old one other is = refl

view-numbered : (b : Bool) (d : QueueClass → Bool) (number : ℕ) (v : View) (own : Own) (fleets : List Fleet) (one other : List Item) → one ≡ numbered number other
    → record v { own = own; queue = λ c. cond (b && d c) one (v.queue c); fleets = fleets }
    ≡ cond b (record v { own = own; queue = λ c. cond (d c) (numbered number (cond (b && d c) other (v.queue c))) (cond (b && d c) other (v.queue c)); fleets = fleets })
    (record v { own = own; queue = λ c. cond (b && d c) other (v.queue c); fleets = fleets })
view-numbered true d number v own fleets one other is = ap (λ q. record v { own = own; queue = q; fleets = fleets }) (fun_ext (λ c. queue-numbered (d c) number (v.queue c) one other is))
view-numbered false d number v own fleets one other is = refl

-- a fleet that joins those of a cell gets its number there
fleets-numbered : (b : Bool) (number : ℕ) (v : View) (own : Own) (left : List Fleet) (zero one : Fleet) → fleet_with number zero ≡ one
    → record v { own = own; queue = v.queue; fleets = left ++ cond b (one ∷ []) [] }
    ≡ cond b (record v { own = own; queue = v.queue; fleets = last_numbered number (left ++ cond b (zero ∷ []) []) }) (record v { own = own; queue = v.queue; fleets = left ++ cond b (zero ∷ []) [] })
fleets-numbered true number v own left zero one is = ap (λ fs. record v { own = own; queue = v.queue; fleets = fs }) (sym (fleet-last number left zero ∙ ap (λ f. left ++ f ∷ []) is))
fleets-numbered false number v own left zero one is = refl

group-twice : (b : Bool) (number group : ℕ) → eqb group 0 ≡ b → cond (eqb (cond b 0 group) 0) number (cond b 0 group) ≡ cond b number group
group-twice true number group is = refl
group-twice false number group is = ap (λ b. cond b number group) is

-- a number that is given after 0 is the one that counts
numbered-twice : (number : ℕ) (fleet : Fleet) → fleet_with number (fleet_with 0 fleet) ≡ fleet_with number fleet
numbered-twice number fleet = (λ i. record fleet { number = number; group = group-twice (eqb fleet.group 0) number fleet.group refl i })

-- the fleets of the caller's account that has such a fleet end with it
pub record EndsWith (fleets : List Fleet) (fleet : Fleet) : Type 0 where
  pub before : List Fleet
  pub is : fleets ≡ before ++ fleet ∷ []

-- Of what is granted the last item of the queue that is ordered bears the number, or the fleet that is sent, and all else is as with
-- the number 0.
pub view-ordered : (sight : Sight) (player : Player) (req : Request) (came : ℕ → Outcome) (number : ℕ) (ordered : Option Ordered) (fleets : List Fleet) (cell : CellId) (v : View) (own : Own)
    → ComesTo sight player req came → (came 0).answer.code ≡ 0
    → IsOrdered (queue_ordered player req) (fleet_ordered req fleets) ordered → ((before : List Fleet) × (fleets ≡ fleets_after (came 0).change (Account player) before))
    → after_view (came number).change cell v own ≡ number_seen number ordered cell (after_view (came 0).change cell v own)
view-ordered sight player req came number ordered fleets cell v own (refuses code reason is) zero marks had = absurd (reason (ap (λ (x : Outcome). x.answer.code) (sym (is 0)) ∙ zero))
view-ordered sight player req came number ordered fleets cell v own (keeps body owns_now given none alike leaves is) zero marks had =
    ap (λ (x : Outcome). after_view x.change cell v own) (is number ∙ sym (is 0))
    ∙ ap (λ o. number_seen number o cell (after_view (came 0).change cell v own)) (sym (none-ordered ordered _ _ none.queue (none.fleet fleets) marks))
view-ordered sight player req came number ordered fleets cell v own (calls_back body count fleet account caller none recall found out is) zero marks had =
    ap (λ (x : Outcome). after_view x.change cell v own) (is number ∙ sym (is 0))
    ∙ ap (λ o. number_seen number o cell (after_view (came 0).change cell v own)) (sym (none-ordered ordered _ _ none.queue (none.fleet fleets) marks))
view-ordered sight player req came number ordered fleets cell v own (orders body owns_now queue item given place joining alike leaves is) zero marks had =
    let items = queue_seen sight item.cell item.class in
    let change = new_queue owns_now item.cell item.class (items ++ record item { number = 0 } ∷ []) in
    ap (λ (x : Outcome). after_view x.change cell v own) (is number)
    ∙ view-numbered (same_cell item.cell cell) (same_class item.class) number v own (fleets_after change cell v.fleets) (items ++ record item { number = number } ∷ []) (items ++ record item { number = 0 } ∷ [])
    (sym (numbered-last number items (record item { number = 0 })))
    ∙ (λ i. let w = after_view change cell v own in
    cond (same_cell (joining.cell i) cell) (record w { queue = λ c. cond (same_class (joining.class i) c) (numbered number (w.queue c)) (w.queue c) }) w)
    ∙ ap (λ (x : Outcome). number_seen number (Some (ItemOrdered queue)) cell (after_view x.change cell v own)) (sym (is 0))
    ∙ ap (λ o. number_seen number o cell (after_view (came 0).change cell v own)) (sym (item-ordered ordered _ _ queue place marks))
view-ordered sight player req came number ordered fleets cell v own (sends_out body owns_now fleet given leaving is) zero marks had =
    let zeroth = fleet_with 0 fleet in
    let left = filter (belongs cell) (filter_map Some v.fleets) in
    let mine : belongs (Account player) fleet ≡ true = subst (λ k. belongs (Account k) fleet ≡ true) leaving.owner (own-belongs fleet) in
    let ends : fleets ≡ filter (belongs (Account player)) (filter_map Some had.0) ++ zeroth ∷ [] =
    had.1 ∙ ap (λ (x : Outcome). fleets_after x.change (Account player) had.0) (is 0)
    ∙ ap (λ b. filter (belongs (Account player)) (filter_map Some had.0) ++ cond b (zeroth ∷ []) []) mine in
    let last : fleet_ordered req fleets ≡ Some zeroth = leaving.ordered fleets ∙ ap last_fleet ends ∙ last-is (filter (belongs (Account player)) (filter_map Some had.0)) zeroth in
    let sent = fleet-ordered ordered _ _ zeroth leaving.queue last marks in
    ap (λ (x : Outcome). after_view x.change cell v own) (is number)
    ∙ fleets-numbered (belongs cell fleet) number v own left zeroth (fleet_with number fleet) (numbered-twice number fleet)
    ∙ (λ i. let w = after_view (sends_fleet owns_now zeroth) cell v own in cond (belongs cell (sym sent.seen i)) (record w { fleets = last_numbered number w.fleets }) w)
    ∙ ap (λ (x : Outcome). number_seen number (Some (FleetSent sent.sent)) cell (after_view x.change cell v own)) (sym (is 0))
    ∙ ap (λ o. number_seen number o cell (after_view (came 0).change cell v own)) (sym sent.is)
  where
    own-belongs : (fleet : Fleet) → belongs (Account fleet.owner) fleet ≡ true
    own-belongs fleet = rw (same_number fleet.owner.k) refl

-- how many units there are does not depend on it
pub number-units : (number : ℕ) (ordered : Option Ordered) (cell : CellId) (seen : View) (units : ℕ)
    → number_seen number ordered cell (record seen { units = units }) ≡ record (number_seen number ordered cell seen) { units = units }
number-units number None cell seen units = refl
number-units number (Some (ItemOrdered queue)) cell seen units =
    let more = record seen { queue = λ c. cond (same_class (class_of queue) c) (numbered number (seen.queue c)) (seen.queue c) } in
    elim (same_cell (home_of queue) cell) as (λ b. cond b (record more { units = units }) (record seen { units = units }) ≡ record (cond b more seen) { units = units }) [ true ↦ refl | false ↦ refl ]
number-units number (Some (FleetSent fleet)) cell seen units =
    let more = record seen { fleets = last_numbered number seen.fleets } in
    elim (belongs cell (fleet_seen fleet)) as (λ b. cond b (record more { units = units }) (record seen { units = units }) ≡ record (cond b more seen) { units = units }) [ true ↦ refl | false ↦ refl ]
