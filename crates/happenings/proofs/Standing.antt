-- Planets and accounts that are held, as their universe sees them.
use Rattle.std.proofs.Common.{◌≡◌, ℕ, zero, suc, true, false, not, cond, ◌&&◌, List, [], ◌∷◌, ◌++◌, map, filter, refl, ap, ◌∙◌, sym, subst, inl, inr, Option, None, Some}
use Rattle.std.proofs.Math.Path.{fun_ext}
use Rattle.std.proofs.lemmas.List.{append-nil}
use Rattle.std.specs.Prelude.{IfSome, option_map}
use Rattle.std.specs.BTreeMap.{get}
use Rattle.account_cell.specs.Account.{research_item}
use Rattle.account_cell.specs.declared.research_item.ResearchItem.{ResearchItem}
use Rattle.base_ids.specs.Cells.{same_cell}
use Rattle.base_ids.specs.declared.cell_id.CellId.{CellId}
use Rattle.base_ids.specs.declared.cell_id.CellId.TheVariants.{Account as AccountId, Planet as PlanetId}
use Rattle.base_ids.specs.declared.coord.Coord.{Coord}
use Rattle.base_ids.specs.declared.player.Player.{Player}
use Rattle.laziness.proofs.Bringing.{never}
use Rattle.planet_cell.specs.Planet.{batch_item_of, item_of}
use Rattle.planet_cell.specs.declared.batch.Batch.{Batch}
use Rattle.planet_cell.specs.declared.building_item.BuildingItem.{BuildingItem}
use Rattle.rates.specs.Times.{times}
use Rattle.tick_model.specs.Changes.{new_queue, queue_after, seen_after, stays_queued}
use Rattle.tick_model.specs.Production.{cell_second, gains, planet_second}
use Rattle.tick_model.specs.Rules.{IsIn}
use Rattle.std.specs.List.{filter_map}
use Rattle.tick_model.specs.Universe.{Buildings, Researches, Yard, QueueClass, same_class, Fleet, Item, Own, of_planet, PlanetFields}
use Rattle.tick_model.specs.Views.{View, belongs, stands_in}
use Rattle.tick_model.specs.declared.rules.Rules.{Rules}
use Rattle.tick_model.proofs.Lists.{and-from, and-is, cell-is, cell-itself, class-is, class-itself, fails, filter-all, filter-none, filter_map-all}
use Rattle.tick_model.proofs.Queues.{stands-there}
use Rattle.happenings.specs.Landings.{HasOwnFleets, HaveOwnFleets}
use Rattle.happenings.specs.Held.{IsNamed, account_stand, planet_stand}
use Rattle.happenings.specs.Orders.{place_order, player_order}
use Rattle.happenings.specs.Queues.{class_of, home_of, items_held, seen_held, seen_of}
use Rattle.happenings.specs.declared.held.AccountCell.{AccountCell}
use Rattle.happenings.specs.declared.held.Held.{Held}
use Rattle.happenings.specs.declared.held.PlanetCell.{PlanetCell}
use Rattle.happenings.specs.declared.queue.Queue.{Queue}
use Rattle.happenings.specs.declared.queue.Queue.TheVariants.{Buildings as BuildingsOf, Research as ResearchOf, Yard as YardOf}

-- what is seen of a planet
abbrev pub planet_seen : Own → (QueueClass → List Item) → List Fleet → View
planet_seen own queue fleets = record { own = own; queue = queue; fleets = fleets; planets = []; units = 0 }

-- gains of a planet are seconds of what it has of its own
pub seen-gains : (rules : Rules) (n : ℕ) (planet : PlanetFields) (queue : QueueClass → List Item) (fleets : List Fleet)
    → gains rules n (planet_seen (of_planet planet) queue fleets) ≡ planet_seen (of_planet (times n (planet_second rules.speed) planet)) queue fleets
unfolding times
seen-gains rules zero planet queue fleets = refl
seen-gains rules (suc n) planet queue fleets = ap (cell_second rules) (seen-gains rules n planet queue fleets)

-- The items of a cell stand in its queues.
abbrev pub StandsIn : CellId → View → Type 0
StandsIn cell seen = (class : QueueClass) (item : Item) → IsIn item (seen.queue class) → (item.cell ≡ cell) × (item.class ≡ class)

building-stands : (at : Coord) (items : List BuildingItem) (item : Item) → IsIn item (map (item_of at) items) → (item.cell ≡ PlanetId at) × (item.class ≡ Buildings)
building-stands at [] item is = absurd is
building-stands at (first ∷ later) item (inl same) = (ap (λ (i : Item). i.cell) same, ap (λ (i : Item). i.class) same)
building-stands at (first ∷ later) item (inr is) = building-stands at later item is

batch-stands : (at : Coord) (items : List Batch) (item : Item) → IsIn item (map (batch_item_of at) items) → (item.cell ≡ PlanetId at) × (item.class ≡ Yard)
batch-stands at [] item is = absurd is
batch-stands at (first ∷ later) item (inl same) = (ap (λ (i : Item). i.cell) same, ap (λ (i : Item). i.class) same)
batch-stands at (first ∷ later) item (inr is) = batch-stands at later item is

research-stands : (player : Player) (items : List ResearchItem) (item : Item) → IsIn item (map (research_item player) items) → (item.cell ≡ AccountId player) × (item.class ≡ Researches)
research-stands player [] item is = absurd is
research-stands player (first ∷ later) item (inl same) = (ap (λ (i : Item). i.cell) same, ap (λ (i : Item). i.class) same)
research-stands player (first ∷ later) item (inr is) = research-stands player later item is

pub planet-stands : (cell : PlanetCell) → StandsIn (PlanetId cell.planet.at) (planet_stand cell).seen
planet-stands cell Buildings item is = building-stands cell.planet.at cell.planet.buildings.items item is
planet-stands cell Researches item is = absurd is
planet-stands cell Yard item is = batch-stands cell.planet.at cell.planet.yard.items item is

pub account-stands : (cell : AccountCell) → StandsIn (AccountId cell.account.player) (account_stand cell).seen
account-stands cell Buildings item is = absurd is
account-stands cell Researches item is = research-stands cell.account.player cell.account.research.items item is
account-stands cell Yard item is = absurd is

-- the items of a cell stand in its queues, and its fleets belong to it
pub record IsWell (cell : CellId) (seen : View) : Type 0 where
  pub stands : StandsIn cell seen
  pub fleets : HasOwnFleets cell seen

account-items : (player : Player) (o : Option AccountCell) → IfSome o (λ c. c.account.player ≡ player) → StandsIn (AccountId player) (seen_of (option_map account_stand o))
account-items player None same = λ class item is. absurd is
account-items player (Some cell) same = subst (λ k. StandsIn (AccountId k) (account_stand cell).seen) same (account-stands cell)

planet-items : (at : Coord) (o : Option PlanetCell) → IfSome o (λ c. c.planet.at ≡ at) → StandsIn (PlanetId at) (seen_of (option_map planet_stand o))
planet-items at None same = λ class item is. absurd is
planet-items at (Some cell) same = subst (λ k. StandsIn (PlanetId k) (planet_stand cell).seen) same (planet-stands cell)

pub held-stands : (held : Held) (cell : CellId) → IsNamed held → StandsIn cell (seen_held held cell)
held-stands held (AccountId player) named = account-items player (get player_order held.accounts player) (named.players player)
held-stands held (PlanetId at) named = planet-items at (get place_order held.planets at) (named.places at)

pub held-well : (held : Held) (cell : CellId) → IsNamed held → HaveOwnFleets held → IsWell cell (seen_held held cell)
held-well held cell named fleets = record { stands = held-stands held cell named; fleets = fleets cell }

-- the first item of a queue that is held is an item of its cell and its class
pub first-is : (held : Held) (queue : Queue) (item : Item) (later : List Item) → IsNamed held → items_held held queue ≡ item ∷ later → (item.cell ≡ home_of queue) × (item.class ≡ class_of queue)
first-is held queue item later named is = held-stands held (home_of queue) named (class_of queue) item (subst (IsIn item) (sym is) (inl refl))

-- each queue that is not empty is one of the three
no-items : {A : Type 0} (item : Item) (later : List Item) → [] ≡ item ∷ later → A
no-items item later is = absurd (cc is)

account-queues : (held : Held) (player : Player) (o : Option AccountCell) (class : QueueClass) (item : Item) (later : List Item) → (seen_of (option_map account_stand o)).queue class ≡ item ∷ later
    → (queue : Queue) × (home_of queue ≡ AccountId player) × (class_of queue ≡ class)
account-queues held player None class item later is = no-items item later is
account-queues held player (Some cell) Buildings item later is = no-items item later is
account-queues held player (Some cell) Researches item later is = (ResearchOf player, refl, refl)
account-queues held player (Some cell) Yard item later is = no-items item later is

planet-queues : (held : Held) (at : Coord) (o : Option PlanetCell) (class : QueueClass) (item : Item) (later : List Item) → (seen_of (option_map planet_stand o)).queue class ≡ item ∷ later
    → (queue : Queue) × (home_of queue ≡ PlanetId at) × (class_of queue ≡ class)
planet-queues held at None class item later is = no-items item later is
planet-queues held at (Some cell) Buildings item later is = (BuildingsOf at, refl, refl)
planet-queues held at (Some cell) Researches item later is = no-items item later is
planet-queues held at (Some cell) Yard item later is = (YardOf at, refl, refl)

pub queue-held : (held : Held) (cell : CellId) (class : QueueClass) (item : Item) (later : List Item) → (seen_held held cell).queue class ≡ item ∷ later
    → (queue : Queue) × (home_of queue ≡ cell) × (class_of queue ≡ class)
queue-held held (AccountId player) class item later is = account-queues held player (get player_order held.accounts player) class item later is
queue-held held (PlanetId at) class item later is = planet-queues held at (get place_order held.planets at) class item later is

-- A queue that is written anew has what is written, and the others stay.

other-stands : (home : CellId) (class : QueueClass) (cell : CellId) (other : QueueClass) (item : Item) → (same_cell home cell && same_class class other) ≡ false
    → (item.cell ≡ cell) × (item.class ≡ other) → (same_cell home item.cell && same_class class item.class) ≡ false
other-stands home class cell other item apart is = (λ i. same_cell home (is.0 i) && same_class class (is.1 i)) ∙ apart

queue-anew : (own : CellId → Own) (home : CellId) (class : QueueClass) (items : List Item) (cell : CellId) (other : QueueClass) (old : List Item)
    → ((item : Item) → IsIn item old → (item.cell ≡ cell) × (item.class ≡ other)) → ((item : Item) → IsIn item items → (item.cell ≡ home) × (item.class ≡ class))
    → queue_after (new_queue own home class items) cell other old ≡ cond (same_cell home cell && same_class class other) items old
queue-anew own home class items cell other old stands news =
    let change = new_queue own home class items in
    elim (same_cell home cell && same_class class other) as (λ b. (same_cell home cell && same_class class other) ≡ b → queue_after change cell other old ≡ cond b items old) [
      | true ↦ λ here.
          (let both = and-is (same_cell home cell) (same_class class other) here in
          let place = cell-is home cell both.0 in
          let sort = class-is class other both.1 in
          let gone = filter-none (stays_queued change) old (λ item is.
          ap not ((λ i. same_cell home ((stands item is).0 i) && same_class class ((stands item is).1 i)) ∙ here)) in
          let stay = filter-all (stands_in cell other) items (λ item is. stands-there cell other item ((news item is).0 ∙ place) ((news item is).1 ∙ sort)) in
          (λ i. gone i ++ stay i))
      | false ↦ λ apart.
          (let kept = filter-all (stays_queued change) old (λ item is. ap not (other-stands home class cell other item apart (stands item is))) in
          let none = filter-none (stands_in cell other) items (λ item is.
          fails (stands_in cell other item) (λ here.
          let both = and-is (same_cell cell item.cell) (same_class other item.class) here in
          let place = cell-is cell item.cell both.0 in
          let sort = class-is other item.class both.1 in
          never (same_cell home cell && same_class class other)
          ((λ i. same_cell home ((place ∙ (news item is).0) i) && same_class class ((sort ∙ (news item is).1) i)) ∙ self home class) apart)) in
          (λ i. kept i ++ none i) ∙ append-nil old)
    ] refl
  where
    self : (home : CellId) (class : QueueClass) → (same_cell home home && same_class class class) ≡ true
    self home class = and-from (same_cell home home) (same_class class class) (cell-itself home) (class-itself class)

-- what is seen of a cell after one queue was written anew
pub seen-anew : (own : CellId → Own) (home : CellId) (class : QueueClass) (items : List Item) (cell : CellId) (seen : View) → IsWell cell seen
    → ((item : Item) → IsIn item items → (item.cell ≡ home) × (item.class ≡ class))
    → seen_after (new_queue own home class items) cell seen ≡ record seen { own = own cell; queue = λ c. cond (same_cell home cell && same_class class c) items (seen.queue c) }
seen-anew own home class items cell seen well news =
    let queue = fun_ext (λ c. queue-anew own home class items cell c (seen.queue c) (well.stands c) news) in
    λ i. record {
      own = own cell;
      queue = queue i;
      fleets = (fleets-same cell seen.fleets well.fleets) i;
      planets = seen.planets;
      units = seen.units;
    }
  where
    fleets-same : (cell : CellId) (fleets : List Fleet) → ((fleet : Fleet) → IsIn fleet fleets → belongs cell fleet ≡ true) → filter (belongs cell) (filter_map Some fleets) ++ [] ≡ fleets
    fleets-same cell fleets own =
        append-nil (filter (belongs cell) (filter_map Some fleets)) ∙ ap (filter (belongs cell)) (filter_map-all fleets) ∙ filter-all (belongs cell) fleets own
