-- A fleet that lands among cells that are held: what it leaves is what the event makes of them.
use Rattle.std.proofs.Common.{◌≡◌, ◌+◌, ◌-◌, ◌≤◌, Bool, sum, true, false, cond, ◌==◌, List, [], ◌++◌, filter, refl, ap, ◌∙◌, sym, subst, inl, inr, Option, Some, None}
use Rattle.std.proofs.Math.Path.{fun_ext}
use Rattle.std.proofs.lemmas.List.{append-nil}
use Rattle.std.specs.List.{filter_map}
use Rattle.std.specs.Option.{ForSome}
use Rattle.std.specs.Prelude.{IfSome, option_map}
use Rattle.std.specs.BTreeMap.{get}
use Rattle.base_ids.specs.Cells.{same_cell}
use Rattle.base_ids.specs.declared.cell_id.CellId.{CellId}
use Rattle.base_ids.specs.declared.cell_id.CellId.TheVariants.{Planet as PlanetId}
use Rattle.catalog.specs.declared.mission.Mission.{Mission}
use Rattle.catalog.specs.declared.mission.Mission.TheVariants.{Attack, Deploy, Harvest, Transport}
use Rattle.catalog.specs.declared.amounts.Amounts.{Amounts}
use Rattle.catalog.specs.declared.ships.TheConstants.{UNITS}
use Rattle.fleet_rec.specs.Fleet.{cargo_seen, fleet_seen}
use Rattle.fleet_rec.specs.declared.fleet.Fleet.{Fleet as FleetRecord}
use Rattle.fleet_rec.specs.Fleets.{after_landing}
use Rattle.laziness.proofs.Bringing.{never, test}
use Rattle.planet_cell.specs.Planet.{batches_of, buildings_of, fields_of, queue_of}
use Rattle.reply_text.specs.declared.units.Units.{Units}
use Rattle.tick_model.specs.Changes.{Change, new_fleet, owns, put_own, queue_after, stays_queued}
use Rattle.tick_model.specs.Events.{Event, lands}
use Rattle.tick_model.specs.Flights.{Landed, arrived, harvested, landed, landing, moored, supplied, turns}
use Rattle.tick_model.specs.Rules.{IsIn}
use Rattle.tick_model.specs.Universe.{Fleet, Item, Own, PlanetFields, QueueClass, Yard, of_planet}
use Rattle.tick_model.specs.Views.{View, belongs, holding, nothing_seen, units_left}
use Rattle.tick_model.specs.declared.rules.Rules.{Rules}
use Rattle.tick_model.proofs.Gains.{gained as gained_view}
use Rattle.tick_model.proofs.Landings.{landing-belongs}
use Rattle.tick_model.proofs.Owns.{alike-holding}
use Rattle.tick_model.proofs.Lists.{cell-is, fails, filter-all}
use Rattle.happenings.specs.Applying.{fields_then, held_after, seen_then, stand_after}
use Rattle.happenings.specs.Gaining.{gained, gained_at}
use Rattle.happenings.specs.Held.{Puts, Stand, account_stand, held_at, planet_stand}
use Rattle.happenings.specs.Landings.{HasRoom, LandsIn, Leaves, Unloads, left, stand_left, stand_unloaded}
use Rattle.happenings.specs.Orders.{place_order}
use Rattle.happenings.specs.Queues.{seen_of}
use Rattle.happenings.specs.declared.held.AccountCell.{AccountCell}
use Rattle.happenings.specs.declared.held.Held.{Held}
use Rattle.happenings.specs.declared.held.PlanetCell.{PlanetCell}
use Rattle.happenings.proofs.Cargoes.{back-then}
use Rattle.happenings.proofs.Gains.{account_gained, queue-same}
use Rattle.happenings.proofs.Numbered.{put-at}
use Rattle.happenings.proofs.Standing.{planet_seen, seen-gains}

-- Cells of their own.

-- a cell whose fleets have changed once it gained
pub planet_left : (rules : Rules) (fleet : Fleet) (back : Option Units) (name : CellId) (old mid new : PlanetCell) → planet_stand mid ≡ gained rules fleet.second (planet_stand old)
    → planet_stand new ≡ stand_left fleet back name (planet_stand mid) → planet_stand new ≡ left rules fleet back name (planet_stand old)
planet_left rules fleet back name old mid new grown is = is ∙ ap (stand_left fleet back name) grown

pub account_left : (rules : Rules) (fleet : Fleet) (back : Option Units) (name : CellId) (old mid new : AccountCell) → account_stand mid ≡ record (account_stand old) { second = fleet.second }
    → account_stand new ≡ stand_left fleet back name (account_stand mid) → account_stand new ≡ left rules fleet back name (account_stand old)
account_left rules fleet back name old mid new grown is = is ∙ ap (stand_left fleet back name) (account_gained rules fleet.second old mid grown)

-- a planet that takes what a fleet leaves there
pub planet_unloaded : (fleet : Fleet) (old new : PlanetCell) → new.second ≡ old.second → new.fleets ≡ old.fleets → of_planet (fields_of new.planet) ≡ (landed fleet (of_planet (fields_of old.planet))).own
    → buildings_of new.planet ≡ buildings_of old.planet → batches_of new.planet ≡ batches_of old.planet → planet_stand new ≡ stand_unloaded fleet (planet_stand old)
planet_unloaded fleet old new second flown own buildings yard =
    let queue = fun_ext (queue-same new.planet old.planet buildings yard) in
    (λ i. record { second = second i; seen = planet_seen (own i) (queue i) (flown i) })

pub back_moors : (fleet : Fleet) (planet : PlanetFields) → fleet.outbound ≡ false → (landed fleet (of_planet planet)).own ≡ of_planet (moored planet fleet)
back_moors fleet planet home = ap (λ b. (cond b (arrived fleet.mission fleet planet) (record { own = of_planet (moored planet fleet); back = None })).own) home

pub out_does : (fleet : Fleet) (planet : PlanetFields) (mission : Mission) → fleet.outbound ≡ true → fleet.mission ≡ mission → (landed fleet (of_planet planet)).own ≡ (arrived mission fleet planet).own
out_does fleet planet mission out is =
    ap (λ b. (cond b (arrived fleet.mission fleet planet) (record { own = of_planet (moored planet fleet); back = None })).own) out
    ∙ ap (λ m. (arrived m fleet planet).own) is

pub puts_unloaded : (fleet : Fleet) (old new : Held) (stand now : Stand) → Puts old new (PlanetId (landing fleet)) now → held_at old (PlanetId (landing fleet)) ≡ Some stand
    → now ≡ stand_unloaded fleet stand → Unloads fleet old new
puts_unloaded fleet old new stand now puts found is cell =
    let place = PlanetId (landing fleet) in
    puts cell ∙ put-at (same_cell place cell) (stand_unloaded fleet) (held_at old cell) stand now (λ same. ap (held_at old) (sym (cell-is place cell same)) ∙ found) is

-- All cells together.

pub queue-kept : (change : Change) (cell : CellId) (queue : QueueClass → List Item) → change.items ≡ [] → ((item : Item) → stays_queued change item ≡ true)
    → (λ class. queue_after change cell class (queue class)) ≡ queue
queue-kept change cell queue none stays = fun_ext (λ class.
    ap (λ items. queue_after (record change { items = items }) cell class (queue class)) none
    ∙ append-nil (filter (stays_queued change) (queue class)) ∙ filter-all (stays_queued change) (queue class) (λ item is. stays item))

module _ (rules : Rules) (old mid new : Held) (fleet : Fleet) (back : Option Units) (place : PlanetCell) (found : get place_order old.planets (landing fleet) ≡ Some place)
    (is_back : back ≡ (landed fleet (of_planet (fields_of place.planet))).back) (leaves : Leaves (λ cell. belongs cell fleet) rules fleet back old mid) (unloads : Unloads fleet mid new) where
  abbrev event : Event
  event = lands fleet

  abbrev home_place : CellId
  home_place = PlanetId (landing fleet)

  abbrev seen : CellId → View
  seen = seen_then rules event old

  abbrev came : Landed
  came = landed fleet (owns seen home_place)

  held-place : held_at old home_place ≡ Some (planet_stand place)
  held-place = ap (option_map planet_stand) found

  -- what a cell has of its own then
  own-then : (cell : CellId) (stand : Stand) → belongs cell fleet ≡ true → held_at old cell ≡ Some stand → owns seen cell ≡ (gained rules fleet.second stand).seen.own
  own-then cell stand has there =
      ap (λ b. (cond b (seen_of (gained_at rules fleet.second old cell)) nothing_seen).own) has
      ∙ ap (λ o. (seen_of (option_map (gained rules fleet.second) o)).own) there

  place-then : owns seen home_place ≡ of_planet (fields_then rules fleet.second place)
  place-then =
      own-then home_place (planet_stand place) (landing-belongs fleet) held-place
      ∙ ap (λ (v : View). v.own) (seen-gains rules (fleet.second - place.second) (fields_of place.planet) (queue_of place.planet) place.fleets)

  turns-same : came.back ≡ back
  turns-same = ap (λ own. (landed fleet own).back) place-then ∙ sym (is_back ∙ back-then rules fleet.second place fleet)

  fleets-then : (cell : CellId) (fleets : List Fleet)
      → filter (belongs cell) (filter_map (λ (f : Fleet). cond (f.number == fleet.number) (turns came.back f) (Some f)) fleets) ++ []
      ≡ filter (belongs cell) (after_landing fleet.number back fleets)
  fleets-then cell fleets =
      append-nil (filter (belongs cell) (filter_map (λ (f : Fleet). cond (f.number == fleet.number) (turns came.back f) (Some f)) fleets))
      ∙ ap (λ b. filter (belongs cell) (after_landing fleet.number b fleets)) turns-same

  queue-then : (cell : CellId) (queue : QueueClass → List Item)
      → (λ class. queue_after (new_fleet (put_own home_place came.own (owns seen)) fleet.number (turns came.back)) cell class (queue class)) ≡ queue
  queue-then cell queue = queue-kept (new_fleet (put_own home_place came.own (owns seen)) fleet.number (turns came.back)) cell queue refl (λ item. refl)

  -- how a cell stands afterwards, by what it has of its own
  stands-so : (cell : CellId) (stand : Stand) (own : Own) → put_own home_place came.own (owns seen) cell ≡ own
      → stand_after rules event old cell stand
      ≡ record { second = fleet.second; seen = record (left rules fleet back cell stand).seen { own = own } }
  stands-so cell stand own is =
      let grown = (gained rules fleet.second stand).seen in
      λ i. record {
        second = fleet.second;
        seen = record {
          own = is i;
          queue = queue-then cell grown.queue i;
          fleets = fleets-then cell grown.fleets i;
          planets = grown.planets;
          units = grown.units;
        };
      }

  at-place : (cell : CellId) (stand : Stand) → same_cell home_place cell ≡ true → belongs cell fleet ≡ true → held_at old cell ≡ Some stand
      → stand_unloaded fleet (left rules fleet back cell stand) ≡ stand_after rules event old cell stand
  at-place cell stand same has there =
      let here : put_own home_place came.own (owns seen) cell ≡ (landed fleet (gained rules fleet.second stand).seen.own).own =
      ap (λ b. cond b came.own (owns seen cell)) same
      ∙ ap (λ x. (landed fleet (owns seen x)).own) (cell-is home_place cell same)
      ∙ ap (λ own. (landed fleet own).own) (own-then cell stand has there) in
      sym (stands-so cell stand (landed fleet (gained rules fleet.second stand).seen.own).own here)

  elsewhere : (cell : CellId) (stand : Stand) → same_cell home_place cell ≡ false → belongs cell fleet ≡ true → held_at old cell ≡ Some stand
      → left rules fleet back cell stand ≡ stand_after rules event old cell stand
  elsewhere cell stand other has there =
      let here : put_own home_place came.own (owns seen) cell ≡ (gained rules fleet.second stand).seen.own =
      ap (λ b. cond b came.own (owns seen cell)) other ∙ own-then cell stand has there in
      sym (stands-so cell stand (gained rules fleet.second stand).seen.own here)

  cell-after : (b : Bool) (cell : CellId) (o : Option Stand) → same_cell home_place cell ≡ b → belongs cell fleet ≡ true → held_at old cell ≡ o
      → cond b (option_map (stand_unloaded fleet) (option_map (left rules fleet back cell) o)) (option_map (left rules fleet back cell) o) ≡ option_map (stand_after rules event old cell) o
  cell-after true cell None same has there = refl
  cell-after false cell None same has there = refl
  cell-after true cell (Some stand) same has there = ap Some (at-place cell stand same has there)
  cell-after false cell (Some stand) same has there = ap Some (elsewhere cell stand same has there)

  -- a landing is the event
  pub landing_after : (cell : CellId) → held_at new cell ≡ held_after rules event old cell
  landing_after cell =
      elim (test (belongs cell fleet)) [
        | inl has ↦
            (let gone : held_at mid cell ≡ option_map (left rules fleet back cell) (held_at old cell) =
            leaves cell ∙ ap (λ b. cond b (option_map (left rules fleet back cell) (held_at old cell)) (held_at old cell)) has in
            unloads cell
            ∙ (λ i. cond (same_cell home_place cell) (option_map (stand_unloaded fleet) (gone i)) (gone i))
            ∙ cell-after (same_cell home_place cell) cell (held_at old cell) refl has refl
            ∙ sym (ap (λ b. cond b (option_map (stand_after rules event old cell) (held_at old cell)) (held_at old cell)) has))
        | inr out ↦
            (let apart : same_cell home_place cell ≡ false = fails (same_cell home_place cell) (λ same.
            never (belongs cell fleet) (subst (λ x. belongs x fleet ≡ true) (cell-is home_place cell same) (landing-belongs fleet)) out) in
            unloads cell
            ∙ ap (λ b. cond b (option_map (stand_unloaded fleet) (held_at mid cell)) (held_at mid cell)) apart
            ∙ leaves cell ∙ ap (λ b. cond b (option_map (left rules fleet back cell) (held_at old cell)) (held_at old cell)) out
            ∙ sym (ap (λ b. cond b (option_map (stand_after rules event old cell) (held_at old cell)) (held_at old cell)) out))
      ]

-- What the code knows.

-- the planet where the fleet lands
pub record PlaceHeld (held : Held) (fleet : Fleet) : Type 0 where
  pub cell : PlanetCell
  pub found : get place_order held.planets (landing fleet) ≡ Some cell

place-held : (held : Held) (fleet : Fleet) (o : Option PlanetCell) → get place_order held.planets (landing fleet) ≡ o → IsIn fleet (seen_of (option_map planet_stand o)).fleets → PlaceHeld held fleet
place-held held fleet None found is = absurd is
place-held held fleet (Some cell) found is = record { cell = cell; found = found }

pub place_held : (held : Held) (fleet : Fleet) → LandsIn held fleet → PlaceHeld held fleet
place_held held fleet is = place-held held fleet (get place_order held.planets (landing fleet)) refl is

-- the cargo with which it turns back
pub seen_out : (back : Option Amounts) (P : Type 0) → ForSome back (λ cargo. P) → ForSome (option_map cargo_seen back) (λ cargo. P)
seen_out None P out cargo is = absurd (cc is)
seen_out (Some amounts) P out cargo is = out amounts refl

-- the room at the planet stays
room-left : (rules : Rules) (fleet : Fleet) (back : Option Units) (cell : CellId) (stand : Stand) → HasRoom fleet stand → HasRoom fleet (left rules fleet back cell stand)
room-left rules fleet back cell stand room stays kept is =
    let grown = gained_view rules (fleet.second - stand.second) stand.seen in
    let same : holding (gained rules fleet.second stand).seen.own ((gained rules fleet.second stand).seen.queue Yard) ≡ holding stand.seen.own (stand.seen.queue Yard) =
    ap (λ q. holding (gained rules fleet.second stand).seen.own (q Yard)) grown.queue
    ∙ alike-holding stand.seen.own (gained rules fleet.second stand).seen.own (stand.seen.queue Yard) grown.alike in
    room stays kept (sym same ∙ is)

pub room_kept : (rules : Rules) (fleet : Fleet) (back : Option Units) (old mid : Held) → Leaves (λ cell. belongs cell fleet) rules fleet back old mid → IfSome (held_at old (PlanetId (landing fleet))) (HasRoom fleet)
    → IfSome (held_at mid (PlanetId (landing fleet))) (HasRoom fleet)
room_kept rules fleet back old mid leaves room =
    let place = PlanetId (landing fleet) in
    let there : held_at mid place ≡ option_map (left rules fleet back place) (held_at old place) =
    leaves place ∙ ap (λ b. cond b (option_map (left rules fleet back place) (held_at old place)) (held_at old place)) (landing-belongs fleet) in
    subst (λ (o : Option Stand). IfSome o (HasRoom fleet)) (sym there) (mapped-room (held_at old place) room)
  where
    mapped-room : (o : Option Stand) → IfSome o (HasRoom fleet) → IfSome (option_map (left rules fleet back (PlanetId (landing fleet))) o) (HasRoom fleet)
    mapped-room None room = tt
    mapped-room (Some stand) room = room-left rules fleet back (PlanetId (landing fleet)) stand room

-- A planet that takes what a fleet leaves there.

pub room_back : (fleet : FleetRecord) (cell : PlanetCell) → HasRoom (fleet_seen fleet) (planet_stand cell) → fleet.outbound ≡ false
    → sum (fields_of cell.planet).units + units_left (batches_of cell.planet) + sum fleet.ships.n ≤ UNITS
room_back fleet cell room home = room (inl home) (record { owner = (fields_of cell.planet).owner; units = sum (fields_of cell.planet).units + units_left (batches_of cell.planet) }) refl

pub room_deployed : (fleet : FleetRecord) (cell : PlanetCell) → HasRoom (fleet_seen fleet) (planet_stand cell) → fleet.mission ≡ Deploy
    → sum (fields_of cell.planet).units + units_left (batches_of cell.planet) + sum fleet.ships.n ≤ UNITS
room_deployed fleet cell room deploy = room (inr deploy) (record { owner = (fields_of cell.planet).owner; units = sum (fields_of cell.planet).units + units_left (batches_of cell.planet) }) refl

module _ (fleet : FleetRecord) (old new : PlanetCell) (second : new.second ≡ old.second) (flown : new.fleets ≡ old.fleets) (buildings : buildings_of new.planet ≡ buildings_of old.planet)
    (yard : batches_of new.planet ≡ batches_of old.planet) where
  pub back_unloads : fleet.outbound ≡ false → ((f : Fleet) → f.cargo ≡ cargo_seen fleet.cargo → f.ships ≡ fleet.ships.n → fields_of new.planet ≡ moored (fields_of old.planet) f)
      → planet_stand new ≡ stand_unloaded (fleet_seen fleet) (planet_stand old)
  back_unloads home fields =
      let seen = fleet_seen fleet in
      planet_unloaded seen old new second flown (ap of_planet (fields seen refl refl) ∙ sym (back_moors seen (fields_of old.planet) home)) buildings yard

  pub deployed_unloads : fleet.outbound ≡ true → fleet.mission ≡ Deploy → ((f : Fleet) → f.cargo ≡ cargo_seen fleet.cargo → f.ships ≡ fleet.ships.n → fields_of new.planet ≡ moored (fields_of old.planet) f)
      → planet_stand new ≡ stand_unloaded (fleet_seen fleet) (planet_stand old)
  deployed_unloads out mission fields =
      let seen = fleet_seen fleet in
      planet_unloaded seen old new second flown (ap of_planet (fields seen refl refl) ∙ sym (out_does seen (fields_of old.planet) Deploy out mission)) buildings yard

  pub transport_unloads : fleet.outbound ≡ true → fleet.mission ≡ Transport → ((f : Fleet) → f.cargo ≡ cargo_seen fleet.cargo → fields_of new.planet ≡ supplied (fields_of old.planet) f)
      → planet_stand new ≡ stand_unloaded (fleet_seen fleet) (planet_stand old)
  transport_unloads out mission fields =
      let seen = fleet_seen fleet in
      planet_unloaded seen old new second flown (ap of_planet (fields seen refl) ∙ sym (out_does seen (fields_of old.planet) Transport out mission)) buildings yard

  pub harvest_unloads : fleet.outbound ≡ true → fleet.mission ≡ Harvest → fields_of new.planet ≡ harvested (fields_of old.planet) (fleet_seen fleet)
      → planet_stand new ≡ stand_unloaded (fleet_seen fleet) (planet_stand old)
  harvest_unloads out mission fields =
      let seen = fleet_seen fleet in
      planet_unloaded seen old new second flown (ap of_planet fields ∙ sym (out_does seen (fields_of old.planet) Harvest out mission)) buildings yard

pub attack_unloads : (fleet : FleetRecord) (cell : PlanetCell) → fleet.outbound ≡ true → fleet.mission ≡ Attack → planet_stand cell ≡ stand_unloaded (fleet_seen fleet) (planet_stand cell)
attack_unloads fleet cell out mission =
    planet_unloaded (fleet_seen fleet) cell cell refl refl (sym (out_does (fleet_seen fleet) (fields_of cell.planet) Attack out mission)) refl refl

pub ruleset unloading = (room_back, room_deployed, back_unloads, deployed_unloads, transport_unloads, harvest_unloads, attack_unloads)
