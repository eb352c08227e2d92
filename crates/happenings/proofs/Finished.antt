-- A building or a unit that is done, on a planet that is held.
use Rattle.std.proofs.Common.{◌≡◌, ℕ, ◌-◌, ◌≤◌, Bool, true, false, cond, ◌&&◌, List, [], ◌∷◌, map, refl, ap, ◌∙◌, sym, subst, Option, Some, None}
use Rattle.std.proofs.Math.Path.{fun_ext}
use Rattle.std.specs.Prelude.{◌||◌, IfSome, option_map}
use Rattle.std.specs.BTreeMap.{get}
use Rattle.base_ids.specs.Cells.{same_cell}
use Rattle.base_ids.specs.declared.cell_id.CellId.{CellId}
use Rattle.base_ids.specs.declared.cell_id.CellId.TheVariants.{Planet as PlanetId}
use Rattle.base_ids.specs.declared.coord.Coord.{Coord}
use Rattle.planet_cell.specs.Planet.{batches_of, buildings_of, fields_of, queue_of, item_of}
use Rattle.planet_cell.specs.Queue.{Runs, built_of, finished}
use Rattle.planet_cell.specs.Yard.{Builds, built, unit_finished, yard_of}
use Rattle.planet_cell.specs.declared.building_item.BuildingItem.{BuildingItem}
use Rattle.ports.specs.declared.clock.TheConstants.{LATEST}
use Rattle.tick_model.specs.Buildings.{Built, done}
use Rattle.tick_model.specs.Changes.{new_queue, owns, put_own, seen_after}
use Rattle.tick_model.specs.Events.{Event, event_change, footprint, is_payer, item_due}
use Rattle.tick_model.specs.Rules.{IsIn}
use Rattle.tick_model.specs.Universe.{Buildings, Researches, Yard, Item, Own, QueueClass, of_planet, same_class}
use Rattle.tick_model.specs.Views.{View, nothing_seen}
use Rattle.tick_model.specs.Yards.{unit_done}
use Rattle.tick_model.specs.declared.rules.Rules.{Rules}
use Rattle.tick_model.proofs.Lists.{cell-is, cell-itself}
use Rattle.happenings.specs.Applying.{CanFinish, Finishes, fields_then, held_after, seen_then, stand_after}
use Rattle.happenings.specs.Gaining.{gained, gained_at}
use Rattle.happenings.specs.Landings.{HasOwnFleets, HaveOwnFleets}
use Rattle.happenings.specs.Held.{IsNamed, Puts, Stand, held_at, planet_stand}
use Rattle.happenings.specs.Orders.{place_order}
use Rattle.happenings.specs.Queues.{class_of, event_of, home_of, items_held, seen_of}
use Rattle.happenings.specs.declared.due.Due.{Due}
use Rattle.happenings.specs.declared.held.Held.{Held}
use Rattle.happenings.specs.declared.held.PlanetCell.{PlanetCell}
use Rattle.happenings.specs.declared.queue.Queue.{Queue}
use Rattle.happenings.specs.declared.queue.Queue.TheVariants.{Buildings as BuildingsOf, Yard as YardOf}
use Rattle.happenings.proofs.Acting.{named_planet}
use Rattle.happenings.proofs.Standing.{IsWell, first-is, planet-stands, planet_seen, seen-anew, seen-gains}

-- what a planet has of its own when an event of its queues acts
own-then : (rules : Rules) (old : Held) (at : Coord) (cell : PlanetCell) (class : QueueClass) (item : Item) (later : List Item) → item.cell ≡ PlanetId at → get place_order old.planets at ≡ Some cell
    → owns (seen_then rules (item_due class item later) old) item.cell ≡ of_planet (fields_then rules item.second cell)
own-then rules old at cell class item later place found =
    let e : Event = item_due class item later in
    let inside : footprint e item.cell ≡ true = ap (λ b. b || is_payer class later item.cell) (cell-itself item.cell) in
    ap (λ b. (cond b (seen_of (gained_at rules item.second old item.cell)) nothing_seen).own) inside
    ∙ ap (λ x. (seen_of (gained_at rules item.second old x)).own) place
    ∙ ap (λ o. (seen_of (option_map (gained rules item.second) (option_map planet_stand o))).own) found
    ∙ ap (λ (v : View). v.own) (seen-gains rules (item.second - cell.second) (fields_of cell.planet) (queue_of cell.planet) cell.fleets)

-- a planet one of whose queues is written anew
stand-anew : (rules : Rules) (second : ℕ) (at : Coord) (cell now : PlanetCell) (class : QueueClass) (came : Built) (own : CellId → Own) (home : CellId)
    → cell.planet.at ≡ at → home ≡ PlanetId at → now.second ≡ second → of_planet (fields_of now.planet) ≡ came.own → now.fleets ≡ cell.fleets → HasOwnFleets (PlanetId at) (planet_stand cell).seen
    → ((c : QueueClass) → queue_of now.planet c ≡ cond (same_class class c) came.queue (queue_of cell.planet c))
    → ((item : Item) → IsIn item came.queue → (item.cell ≡ home) × (item.class ≡ class))
    → planet_stand now ≡ record { second = second; seen = seen_after (new_queue (put_own home came.own own) home class came.queue) (PlanetId at) (gained rules second (planet_stand cell)).seen }
stand-anew rules second at cell now class came own home name place stamp fields flown own_fleets queues news =
    let grown = seen-gains rules (second - cell.second) (fields_of cell.planet) (queue_of cell.planet) cell.fleets in
    let seen : View = planet_seen (of_planet (fields_then rules second cell)) (queue_of cell.planet) cell.fleets in
    let well : IsWell (PlanetId at) seen = record { stands = subst (λ p. (c : QueueClass) (item : Item) → IsIn item (queue_of cell.planet c) → (item.cell ≡ PlanetId p) × (item.class ≡ c)) name (planet-stands cell); fleets = own_fleets } in
    let after = seen-anew (put_own home came.own own) home class came.queue (PlanetId at) seen well news in
    let same : same_cell home (PlanetId at) ≡ true = ap (λ h. same_cell h (PlanetId at)) place ∙ cell-itself (PlanetId at) in
    let here : planet_seen (of_planet (fields_of now.planet)) (queue_of now.planet) now.fleets
    ≡ planet_seen (put_own home came.own own (PlanetId at)) (λ c. cond (same_cell home (PlanetId at) && same_class class c) came.queue (queue_of cell.planet c)) cell.fleets =
    (λ i. planet_seen (fields i) (fun_ext queues i) (flown i))
    ∙ (λ i. planet_seen (cond (sym same i) came.own (own (PlanetId at))) (λ c. cond (sym same i && same_class class c) came.queue (queue_of cell.planet c)) cell.fleets) in
    (λ i. record { second = stamp i; seen = here i })
    ∙ (λ i. record { second = second; seen = sym after i })
    ∙ (λ i. record { second = second; seen = seen_after (new_queue (put_own home came.own own) home class came.queue) (PlanetId at) (sym grown i) })

-- a planet that is held has only fleets that belong to it
pub planet-own_fleets : (held : Held) (at : Coord) (cell : PlanetCell) → HaveOwnFleets held → get place_order held.planets at ≡ Some cell → HasOwnFleets (PlanetId at) (planet_stand cell).seen
planet-own_fleets held at cell own found = subst (λ o. HasOwnFleets (PlanetId at) (seen_of (option_map planet_stand o))) found (own (PlanetId at))

-- an event of a planet's queue, in words that fit both of its queues
record IsOfPlanet (rules : Rules) (class : QueueClass) (outcome : Item → List Item → Own → Built) : Type 0 where
  alone : (later : List Item) (cell : CellId) → is_payer class later cell ≡ false
  change : (item : Item) (later : List Item) (seen : CellId → View) → event_change rules (item_due class item later) seen
      ≡ new_queue (put_own item.cell (outcome item later (owns seen item.cell)).own (owns seen)) item.cell class (outcome item later (owns seen item.cell)).queue

building-event : (rules : Rules) → IsOfPlanet rules Buildings (done rules.speed)
building-event rules = record { alone = λ later cell. refl; change = λ item later seen. refl }

unit-event : (rules : Rules) → IsOfPlanet rules Yard (unit_done rules.speed)
unit-event rules = record { alone = λ later cell. refl; change = λ item later seen. refl }

or-false : (b : Bool) → (b || false) ≡ b
or-false true = refl
or-false false = refl

put-happened : (b : Bool) (rules : Rules) (e : Event) (old : Held) (at : Coord) (x : CellId) (cell : PlanetCell) (stand : Stand) → same_cell (PlanetId at) x ≡ b → get place_order old.planets at ≡ Some cell
    → stand ≡ stand_after rules e old (PlanetId at) (planet_stand cell)
    → cond b (Some stand) (held_at old x) ≡ cond b (option_map (stand_after rules e old x) (held_at old x)) (held_at old x)
put-happened true rules e old at x cell stand same found is =
    let place = cell-is (PlanetId at) x same in
    let there : held_at old x ≡ Some (planet_stand cell) = ap (held_at old) (sym place) ∙ ap (option_map planet_stand) found in
    ap Some is ∙ (λ i. Some (stand_after rules e old (place i) (planet_stand cell))) ∙ ap (option_map (stand_after rules e old x)) (sym there)
put-happened false rules e old at x cell stand other found is = refl

planet-happens : (rules : Rules) (class : QueueClass) (outcome : Item → List Item → Own → Built) → IsOfPlanet rules class outcome
    → (old new : Held) (at : Coord) (cell now : PlanetCell) (item : Item) (later : List Item)
    → IsNamed old → HaveOwnFleets old → item.cell ≡ PlanetId at → get place_order old.planets at ≡ Some cell → Puts old new (PlanetId at) (planet_stand now) → now.second ≡ item.second → now.fleets ≡ cell.fleets
    → of_planet (fields_of now.planet) ≡ (outcome item later (of_planet (fields_then rules item.second cell))).own
    → ((c : QueueClass) → queue_of now.planet c ≡ cond (same_class class c) (outcome item later (of_planet (fields_then rules item.second cell))).queue (queue_of cell.planet c))
    → now.planet.at ≡ cell.planet.at → queue_of now.planet class ≡ (outcome item later (of_planet (fields_then rules item.second cell))).queue
    → (x : CellId) → held_at new x ≡ held_after rules (item_due class item later) old x
planet-happens rules class outcome is old new at cell now item later named own_fleets place found puts stamp flown own queues same_place here x =
    let e : Event = item_due class item later in
    let name = named_planet old at cell named found in
    let grown : Own = of_planet (fields_then rules item.second cell) in
    let came = outcome item later grown in
    let then = own-then rules old at cell class item later place found in
    let seen = seen_then rules e old in
    let news : (i : Item) → IsIn i came.queue → (i.cell ≡ item.cell) × (i.class ≡ class) = λ i within.
    let stands = planet-stands now class i (subst (IsIn i) (sym here) within) in
    (stands.0 ∙ ap PlanetId (same_place ∙ name) ∙ sym place, stands.1) in
    let stand : planet_stand now ≡ stand_after rules e old (PlanetId at) (planet_stand cell) =
    stand-anew rules item.second at cell now class came (owns seen) item.cell name place stamp own flown (planet-own_fleets old at cell own_fleets found) queues news
    ∙ (λ i. record {
      second = item.second;
      seen = seen_after (new_queue (put_own item.cell (outcome item later (sym then i)).own (owns seen)) item.cell class (outcome item later (sym then i)).queue) (PlanetId at) (gained rules item.second (planet_stand cell)).seen;
    })
    ∙ (λ i. record { second = item.second; seen = seen_after (sym (is.change item later seen) i) (PlanetId at) (gained rules item.second (planet_stand cell)).seen }) in
    let cells : same_cell (PlanetId at) x ≡ footprint e x =
    (λ i. same_cell (sym place i) x) ∙ sym (or-false (same_cell item.cell x)) ∙ ap (λ b. same_cell item.cell x || b) (sym (is.alone later x)) in
    puts x ∙ put-happened (same_cell (PlanetId at) x) rules e old at x cell (planet_stand now) refl found stand
    ∙ ap (λ b. cond b (option_map (stand_after rules e old x) (held_at old x)) (held_at old x)) cells

-- what is held of the planet whose event can happen
abbrev InQueue : Held → Queue → (Item → List Item → Type 0)
InQueue held queue item later = items_held held queue ≡ item ∷ later

building-queues : (cell now : PlanetCell) (came : Built) → buildings_of now.planet ≡ came.queue → batches_of now.planet ≡ batches_of cell.planet
    → (c : QueueClass) → queue_of now.planet c ≡ cond (same_class Buildings c) came.queue (queue_of cell.planet c)
building-queues cell now came buildings yard Buildings = buildings
building-queues cell now came buildings yard Researches = refl
building-queues cell now came buildings yard Yard = yard

unit-queues : (cell now : PlanetCell) (came : Built) → batches_of now.planet ≡ came.queue → buildings_of now.planet ≡ buildings_of cell.planet
    → (c : QueueClass) → queue_of now.planet c ≡ cond (same_class Yard c) came.queue (queue_of cell.planet c)
unit-queues cell now came yard buildings Buildings = buildings
unit-queues cell now came yard buildings Researches = refl
unit-queues cell now came yard buildings Yard = yard

queue-at : (held : Held) (at : Coord) (cell : PlanetCell) (class : QueueClass) → get place_order held.planets at ≡ Some cell
    → (seen_of (held_at held (PlanetId at))).queue class ≡ queue_of cell.planet class
queue-at held at cell class found = ap (λ o. (seen_of (option_map planet_stand o)).queue class) found

pub first-same : (items : List Item) (item other : Item) (later more : List Item) → items ≡ item ∷ later → items ≡ other ∷ more → item ≡ other
first-same items item other later more one two = let both : item ∷ later ≡ other ∷ more = sym one ∙ two in cc

module _ (rules : Rules) (due : Due) (old new : Held) (at : Coord) (cell now : PlanetCell) (named : IsNamed old) (can : CanFinish old due) (found : get place_order old.planets at ≡ Some cell)
    (puts : Puts old new (PlanetId at) (planet_stand now)) (stamp : now.second ≡ due.second) (same_place : now.planet.at ≡ cell.planet.at) (flown : now.fleets ≡ cell.fleets) where
  -- a building is done
  pub building_happens : due.queue ≡ BuildingsOf at → built_of now.planet ≡ finished rules.speed (fields_then rules due.second cell) (buildings_of cell.planet)
      → batches_of now.planet ≡ batches_of cell.planet → Finishes rules due old new
  building_happens queue is yard item later owed =
      let first = first-same (items_held old due.queue) can.item item can.later later can.owed owed in
      let second : due.second ≡ item.second = sym can.second ∙ ap (λ (i : Item). i.second) first in
      let items : buildings_of cell.planet ≡ item ∷ later = sym (queue-at old at cell Buildings found) ∙ ap (items_held old) (sym queue) ∙ owed in
      let place : item.cell ≡ PlanetId at = (first-is old due.queue item later named owed).0 ∙ ap home_of queue in
      let came = done rules.speed item later (of_planet (fields_then rules item.second cell)) in
      let became : built_of now.planet ≡ came = is ∙ (λ i. finished rules.speed (fields_then rules (second i) cell) (items i)) in
      let here = ap (λ (b : Built). b.queue) became in
      λ x. planet-happens rules Buildings (done rules.speed) (building-event rules) old new at cell now item later named can.own_fleets place found puts (stamp ∙ second) flown
      (ap (λ (b : Built). b.own) became) (building-queues cell now came here yard) same_place here x
      ∙ ap (λ q. held_after rules (event_of q item later) old x) (sym queue)

  -- a unit is done
  pub unit_happens : due.queue ≡ YardOf at → built (yard_of now.planet) ≡ unit_finished rules.speed (fields_then rules due.second cell) (batches_of cell.planet)
      → buildings_of now.planet ≡ buildings_of cell.planet → Finishes rules due old new
  unit_happens queue is buildings item later owed =
      let first = first-same (items_held old due.queue) can.item item can.later later can.owed owed in
      let second : due.second ≡ item.second = sym can.second ∙ ap (λ (i : Item). i.second) first in
      let items : batches_of cell.planet ≡ item ∷ later = sym (queue-at old at cell Yard found) ∙ ap (items_held old) (sym queue) ∙ owed in
      let place : item.cell ≡ PlanetId at = (first-is old due.queue item later named owed).0 ∙ ap home_of queue in
      let came = unit_done rules.speed item later (of_planet (fields_then rules item.second cell)) in
      let became : built (yard_of now.planet) ≡ came = is ∙ (λ i. unit_finished rules.speed (fields_then rules (second i) cell) (items i)) in
      let here = ap (λ (b : Built). b.queue) became in
      λ x. planet-happens rules Yard (unit_done rules.speed) (unit-event rules) old new at cell now item later named can.own_fleets place found puts (stamp ∙ second) flown
      (ap (λ (b : Built). b.own) became) (unit-queues cell now came here buildings) same_place here x
      ∙ ap (λ q. held_after rules (event_of q item later) old x) (sym queue)

-- What a planet must be for that.

runs-from : (at : Coord) (items : List BuildingItem) (item : Item) (later : List Item) → map (item_of at) items ≡ item ∷ later → item.second ≤ LATEST → Runs items
runs-from at [] item later is by = let none : [] ≡ item ∷ later = is in absurd (cc none)
runs-from at (first ∷ rest) item later is by =
    let same : item_of at first ≡ item = cc in
    subst (λ s. s ≤ LATEST) (ap (λ (i : Item). i.second) (sym same)) by

builds-from : (items : List Item) (item : Item) (later : List Item) → items ≡ item ∷ later → item.second ≤ LATEST → Builds items
builds-from items item later is by = subst Builds (sym is) by

module _ (due : Due) (old : Held) (at : Coord) (can : CanFinish old due) where
  in-time : can.item.second ≤ LATEST
  in-time = subst (λ s. s ≤ LATEST) (sym can.second) can.in_time

  pub building_runs : (cell : PlanetCell) → get place_order old.planets at ≡ Some cell → due.queue ≡ BuildingsOf at → Runs cell.planet.buildings.items
  building_runs cell found queue =
      runs-from cell.planet.at cell.planet.buildings.items can.item can.later (sym (queue-at old at cell Buildings found) ∙ ap (items_held old) (sym queue) ∙ can.owed) in-time

  pub unit_builds : (cell : PlanetCell) → get place_order old.planets at ≡ Some cell → due.queue ≡ YardOf at → Builds (batches_of cell.planet)
  unit_builds cell found queue =
      builds-from (batches_of cell.planet) can.item can.later (sym (queue-at old at cell Yard found) ∙ ap (items_held old) (sym queue) ∙ can.owed) in-time

  -- the home of the event stands no later
  pub home_behind : (cell : PlanetCell) → IsNamed old → get place_order old.planets at ≡ Some cell → home_of due.queue ≡ PlanetId at → cell.second ≤ due.second
  home_behind cell named found home =
      let place : can.item.cell ≡ PlanetId at = (first-is old due.queue can.item can.later named can.owed).0 ∙ home in
      let inside : footprint (event_of due.queue can.item can.later) (PlanetId at) ≡ true =
      ap (λ b. b || is_payer (class_of due.queue) can.later (PlanetId at)) (ap (λ h. same_cell h (PlanetId at)) place ∙ cell-itself (PlanetId at)) in
      subst (λ (o : Option Stand). IfSome o (λ stand. stand.second ≤ due.second)) (ap (option_map planet_stand) found) (can.behind (PlanetId at) inside)

  -- it is held
  pub home_held : {A : Type 0} → get place_order old.planets at ≡ None → home_of due.queue ≡ PlanetId at → A
  home_held none home =
      let nothing : [] ≡ can.item ∷ can.later = sym (ap (λ o. (seen_of (option_map planet_stand o)).queue (class_of due.queue)) none)
      ∙ ap (λ h. (seen_of (held_at old h)).queue (class_of due.queue)) (sym home) ∙ can.owed in
      absurd (cc nothing)
