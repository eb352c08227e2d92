-- What is held after the last item of a queue got its number.
use Rattle.std.proofs.lemmas.Bool.Decides.{nat_tests}
use Rattle.std.proofs.Common.{◌≡◌, ℕ, Bool, true, false, cond, ◌==◌, ◌&&◌, List, [], ◌∷◌, map, length, vec_len, ap, ◌∙◌, sym, refl, subst, arith, Option, Some, None}
use Rattle.std.proofs.Math.Path.{fun_ext}
use Rattle.std.specs.Prelude.{◌||◌, IfSome, Vec, option_map}
use Rattle.base_ids.specs.declared.cell_id.CellId.{CellId}
use Rattle.base_ids.specs.declared.cell_id.CellId.TheVariants.{Account as AccountId, Planet as PlanetId}
use Rattle.std.specs.BTreeMap.{Updates, get}
use Rattle.account_cell.specs.Account.{KeepsHoldings, account_fields, account_queue, research_of}
use Rattle.account_cell.specs.Queue.{numbered as research_numbered}
use Rattle.account_cell.specs.declared.account.Account.{Account}
use Rattle.base_ids.specs.Cells.{same_cell}
use Rattle.base_ids.specs.declared.coord.Coord.{Coord}
use Rattle.base_ids.specs.declared.player.Player.{Player}
use Rattle.fleet_rec.specs.Fleet.{numbered as fleet_number}
use Rattle.fleet_rec.specs.Fleets.{last_numbered}
use Rattle.planet_cell.specs.Planet.{batches_of, buildings_of, fields_of, queue_of}
use Rattle.planet_cell.specs.Queue.{numbered}
use Rattle.planet_cell.specs.declared.planet.Planet.{Planet}
use Rattle.tick_model.specs.Views.{belongs}
use Rattle.tick_model.specs.Universe.{Buildings, Researches, Yard, Fleet, Item, QueueClass, of_account, of_planet, same_class}
use Rattle.tick_model.proofs.Lists.{cell-is}
use Rattle.happenings.specs.Held.{IsNamed, Puts, Stand, account_stand, held_at, planet_stand}
use Rattle.happenings.specs.Numbering.{Numbers, NumbersFleet, fleet_numbered, numbered_stand}
use Rattle.happenings.specs.Orders.{place_order, player_order}
use Rattle.happenings.specs.Queues.{class_of, home_of}
use Rattle.happenings.specs.declared.held.AccountCell.{AccountCell}
use Rattle.happenings.specs.declared.held.Held.{Held}
use Rattle.happenings.specs.declared.held.PlanetCell.{PlanetCell}
use Rattle.happenings.specs.declared.queue.Queue.{Queue}
use Rattle.happenings.specs.declared.queue.Queue.TheVariants.{Buildings as BuildingsOf, Research as ResearchOf, Yard as YardOf}
use Rattle.happenings.proofs.Putting.{place_named, place_puts, player_named, player_puts}
use Rattle.happenings.proofs.Standing.{planet_seen}

-- research is numbered as buildings are
same-numbered : (number : ℕ) (items : List Item) → research_numbered number items ≡ numbered number items
same-numbered number [] = refl
same-numbered number (item ∷ []) = refl
same-numbered number (item ∷ next ∷ later) = ap (λ xs. item ∷ xs) (same-numbered number (next ∷ later))

-- the queues of a cell after one of them was numbered
abbrev queue-numbered : ℕ → QueueClass → (QueueClass → List Item) → QueueClass → List Item
queue-numbered number class queue c = cond (same_class class c) (numbered number (queue c)) (queue c)

building-queue : (number : ℕ) (old new : Planet) → buildings_of new ≡ numbered number (buildings_of old) → batches_of new ≡ batches_of old
    → (class : QueueClass) → queue_of new class ≡ queue-numbered number Buildings (queue_of old) class
building-queue number old new buildings yard Buildings = buildings
building-queue number old new buildings yard Researches = refl
building-queue number old new buildings yard Yard = yard

yard-queue : (number : ℕ) (old new : Planet) → buildings_of new ≡ buildings_of old → batches_of new ≡ numbered number (batches_of old)
    → (class : QueueClass) → queue_of new class ≡ queue-numbered number Yard (queue_of old) class
yard-queue number old new buildings yard Buildings = buildings
yard-queue number old new buildings yard Researches = refl
yard-queue number old new buildings yard Yard = yard

research-queue : (number : ℕ) (old new : Account) → research_of new ≡ research_numbered number (research_of old)
    → (class : QueueClass) → account_queue new class ≡ queue-numbered number Researches (account_queue old) class
research-queue number old new research Buildings = refl
research-queue number old new research Researches = research ∙ same-numbered number (research_of old)
research-queue number old new research Yard = refl

planet-numbered : (number : ℕ) (class : QueueClass) (old new : PlanetCell) → new.second ≡ old.second → new.fleets ≡ old.fleets → fields_of new.planet ≡ fields_of old.planet
    → ((c : QueueClass) → queue_of new.planet c ≡ queue-numbered number class (queue_of old.planet) c) → planet_stand new ≡ numbered_stand number class (planet_stand old)
planet-numbered number class old new second flown fields queues =
    let queue = fun_ext queues in
    (λ i. record { second = second i; seen = planet_seen (of_planet (fields i)) (queue i) (flown i) })

-- a planet whose last building, or last batch, got its number, and an account whose last research did
pub building_numbered : (number : ℕ) (old new : PlanetCell) → new.second ≡ old.second → new.fleets ≡ old.fleets → fields_of new.planet ≡ fields_of old.planet
    → buildings_of new.planet ≡ numbered number (buildings_of old.planet) → batches_of new.planet ≡ batches_of old.planet
    → planet_stand new ≡ numbered_stand number Buildings (planet_stand old)
building_numbered number old new second flown fields buildings yard =
    planet-numbered number Buildings old new second flown fields (building-queue number old.planet new.planet buildings yard)

pub batch_numbered : (number : ℕ) (old new : PlanetCell) → new.second ≡ old.second → new.fleets ≡ old.fleets → fields_of new.planet ≡ fields_of old.planet
    → buildings_of new.planet ≡ buildings_of old.planet → batches_of new.planet ≡ numbered number (batches_of old.planet)
    → planet_stand new ≡ numbered_stand number Yard (planet_stand old)
batch_numbered number old new second flown fields buildings yard =
    planet-numbered number Yard old new second flown fields (yard-queue number old.planet new.planet buildings yard)

pub research_numbered_here : (number : ℕ) (old new : AccountCell) → new.second ≡ old.second → new.fleets ≡ old.fleets → account_fields new.account ≡ account_fields old.account
    → research_of new.account ≡ research_numbered number (research_of old.account) → KeepsHoldings old.account new.account
    → account_stand new ≡ numbered_stand number Researches (account_stand old)
research_numbered_here number old new second flown fields research keeps =
    let queue = fun_ext (research-queue number old.account new.account research) in
    (λ i. record {
      second = second i;
      seen = record { own = of_account (fields i); queue = queue i; fleets = flown i; planets = keeps.planets i; units = keeps.units i };
    })

-- a queue without items stays as it is
no-items : {X Z : Type 0} (v : Vec X Z) → vec_len v ≡ 0 → length v.items ≡ 0
no-items v empty = omega arith

nothing-mapped : {A B : Type 0} (f : A → B) (items : List A) → length items ≡ 0 → map f items ≡ []
nothing-mapped f [] none = refl
nothing-mapped f (item ∷ later) none = absurd (omega arith)

pub no_building_numbered : (number : ℕ) (cell : PlanetCell) → vec_len cell.planet.buildings ≡ 0 → planet_stand cell ≡ numbered_stand number Buildings (planet_stand cell)
no_building_numbered number cell empty =
    let none : buildings_of cell.planet ≡ [] = nothing-mapped _ cell.planet.buildings.items (no-items cell.planet.buildings empty) in
    building_numbered number cell cell refl refl refl (none ∙ ap (numbered number) (sym none)) refl

pub no_batch_numbered : (number : ℕ) (cell : PlanetCell) → vec_len cell.planet.yard ≡ 0 → planet_stand cell ≡ numbered_stand number Yard (planet_stand cell)
no_batch_numbered number cell empty =
    let none : batches_of cell.planet ≡ [] = nothing-mapped _ cell.planet.yard.items (no-items cell.planet.yard empty) in
    batch_numbered number cell cell refl refl refl refl (none ∙ ap (numbered number) (sym none))

pub no_research_numbered : (number : ℕ) (cell : AccountCell) → vec_len cell.account.research ≡ 0
    → account_stand cell ≡ numbered_stand number Researches (account_stand cell)
no_research_numbered number cell empty =
    let none : research_of cell.account ≡ [] = nothing-mapped _ cell.account.research.items (no-items cell.account.research empty) in
    research_numbered_here number cell cell refl refl refl (none ∙ ap (research_numbered number) (sym none)) (record { player = refl; planets = refl; units = refl })

pub ruleset numbered_cells = (building_numbered, batch_numbered, research_numbered_here, no_building_numbered, no_batch_numbered, no_research_numbered)

-- the cell of the queue, and another cell
pub put-at : (b : Bool) (f : Stand → Stand) (o : Option Stand) (stand now : Stand) → (b ≡ true → o ≡ Some stand) → now ≡ f stand → cond b (Some now) o ≡ cond b (option_map f o) o
put-at true f o stand now here is = ap Some is ∙ ap (option_map f) (sym (here refl))
put-at false f o stand now here is = refl

-- the cell of a queue is held anew, with its number
put-numbered : (number : ℕ) (queue : Queue) (old new : Held) (stand now : Stand) → Puts old new (home_of queue) now → held_at old (home_of queue) ≡ Some stand
    → now ≡ numbered_stand number (class_of queue) stand → Numbers number queue old new
put-numbered number queue old new stand now puts found is cell =
    puts cell
    ∙ put-at (same_cell (home_of queue) cell) (numbered_stand number (class_of queue)) (held_at old cell) stand now
    (λ same. ap (held_at old) (sym (cell-is (home_of queue) cell same)) ∙ found) is

module _ (old new : Held) (at : Coord) (cell now : PlanetCell) (found : get place_order old.planets at ≡ Some cell) (updates : Updates place_order old.planets new.planets at (Some now))
    (accounts : new.accounts ≡ old.accounts) where
  pub building_held : (number : ℕ) → planet_stand now ≡ numbered_stand number Buildings (planet_stand cell) → Numbers number (BuildingsOf at) old new
  building_held number is =
      put-numbered number (BuildingsOf at) old new (planet_stand cell) (planet_stand now) (place_puts old new at now updates accounts) (ap (option_map planet_stand) found) is

  pub batch_held : (number : ℕ) → planet_stand now ≡ numbered_stand number Yard (planet_stand cell) → Numbers number (YardOf at) old new
  batch_held number is =
      put-numbered number (YardOf at) old new (planet_stand cell) (planet_stand now) (place_puts old new at now updates accounts) (ap (option_map planet_stand) found) is

  pub planet_still_named : now.planet.at ≡ cell.planet.at → IsNamed old → IsNamed new
  planet_still_named same named =
      let own = subst (λ (o : Option PlanetCell). IfSome o (λ c. c.planet.at ≡ at)) found (named.places at) in
      place_named old new at now updates accounts (same ∙ own) named

module _ (old new : Held) (player : Player) (cell now : AccountCell) (found : get player_order old.accounts player ≡ Some cell)
    (updates : Updates player_order old.accounts new.accounts player (Some now)) (planets : new.planets ≡ old.planets) where
  pub research_held : (number : ℕ) → account_stand now ≡ numbered_stand number Researches (account_stand cell) → Numbers number (ResearchOf player) old new
  research_held number is =
      put-numbered number (ResearchOf player) old new (account_stand cell) (account_stand now) (player_puts old new player now updates planets) (ap (option_map account_stand) found) is

  pub account_still_named : now.account.player ≡ cell.account.player → IsNamed old → IsNamed new
  account_still_named same named =
      let own = subst (λ (o : Option AccountCell). IfSome o (λ c. c.account.player ≡ player)) found (named.players player) in
      player_named old new player now updates planets (same ∙ own) named

-- The last fleets of cells.

pub planet_fleet_numbered : (number : ℕ) (old new : PlanetCell) → new.second ≡ old.second → new.planet ≡ old.planet → new.fleets ≡ last_numbered number old.fleets
    → planet_stand new ≡ fleet_numbered number (planet_stand old)
planet_fleet_numbered number old new second planet fleets = λ i. record { second = second i; seen = planet_seen (of_planet (fields_of (planet i))) (queue_of (planet i)) (fleets i) }

pub account_fleet_numbered : (number : ℕ) (old new : AccountCell) → new.second ≡ old.second → new.account ≡ old.account → new.fleets ≡ last_numbered number old.fleets
    → account_stand new ≡ fleet_numbered number (account_stand old)
account_fleet_numbered number old new second account fleets = λ i. record {
  second = second i;
  seen = record { own = of_account (account_fields (account i)); queue = account_queue (account i); fleets = fleets i; planets = (account i).planets.items; units = (account i).units };
}

no-fleets : (number : ℕ) (fleets : List Fleet) → length fleets ≡ 0 → fleets ≡ last_numbered number fleets
no-fleets number [] none = refl
no-fleets number (fleet ∷ later) none = absurd (omega arith)

none-test : {A : Type 0} (xs : List A) → (length xs == 0) ≡ true → length xs ≡ 0
none-test xs is = grind (arith, nat_tests)

pub no_planet_fleet : (number : ℕ) (cell : PlanetCell) → (length cell.fleets == 0) ≡ true → planet_stand cell ≡ fleet_numbered number (planet_stand cell)
no_planet_fleet number cell empty = planet_fleet_numbered number cell cell refl refl (no-fleets number cell.fleets (none-test cell.fleets empty))

pub no_account_fleet : (number : ℕ) (cell : AccountCell) → (length cell.fleets == 0) ≡ true → account_stand cell ≡ fleet_numbered number (account_stand cell)
no_account_fleet number cell empty = account_fleet_numbered number cell cell refl refl (no-fleets number cell.fleets (none-test cell.fleets empty))

pub ruleset fleets_numbered = (planet_fleet_numbered, account_fleet_numbered, no_planet_fleet, no_account_fleet)

-- one cell
pub puts_numbered : (number : ℕ) (old new : Held) (name : CellId) (stand now : Stand) → Puts old new name now → held_at old name ≡ Some stand → now ≡ fleet_numbered number stand
    → NumbersFleet (same_cell name) number old new
puts_numbered number old new name stand now puts found is cell =
    puts cell ∙ put-at (same_cell name cell) (fleet_numbered number) (held_at old cell) stand now (λ same. ap (held_at old) (sym (cell-is name cell same)) ∙ found) is

-- A fleet that has its number gets no other.
group-again : (number group : ℕ) (b : Bool) → (group == 0) ≡ b → cond (cond b number group == 0) number (cond b number group) ≡ cond b number group
group-again number group true is = same-group (number == 0) number
  where
    same-group : (c : Bool) (number : ℕ) → cond c number number ≡ number
    same-group true number = refl
    same-group false number = refl
group-again number group false is = ap (λ c. cond c number group) is

numbered-again : (number : ℕ) (fleet : Fleet) → fleet_number number (fleet_number number fleet) ≡ fleet_number number fleet
numbered-again number fleet = λ i. record (fleet_number number fleet) { group = group-again number fleet.group (fleet.group == 0) refl i }

last-again : (number : ℕ) (fleets : List Fleet) → last_numbered number (last_numbered number fleets) ≡ last_numbered number fleets
last-again number [] = refl
last-again number (fleet ∷ []) = ap (λ (f : Fleet). f ∷ []) (numbered-again number fleet)
last-again number (fleet ∷ next ∷ []) = ap (λ (f : Fleet). fleet ∷ f ∷ []) (numbered-again number next)
last-again number (fleet ∷ next ∷ third ∷ later) = ap (λ (fs : List Fleet). fleet ∷ fs) (last-again number (next ∷ third ∷ later))

stand-again : (number : ℕ) (stand : Stand) → fleet_numbered number (fleet_numbered number stand) ≡ fleet_numbered number stand
stand-again number stand = λ i. record stand { seen = record stand.seen { fleets = last-again number stand.seen.fleets i } }

once-more : (number : ℕ) (first then : Bool) (o : Option Stand)
    → cond then (option_map (fleet_numbered number) (cond first (option_map (fleet_numbered number) o) o)) (cond first (option_map (fleet_numbered number) o) o)
    ≡ cond (first || then) (option_map (fleet_numbered number) o) o
once-more number true true None = refl
once-more number true true (Some stand) = ap Some (stand-again number stand)
once-more number true false o = refl
once-more number false true o = refl
once-more number false false o = refl

-- more cells
pub number_more : (number : ℕ) (S T : CellId → Bool) (old mid new : Held) → NumbersFleet S number old mid → NumbersFleet T number mid new → NumbersFleet (λ cell. S cell || T cell) number old new
number_more number S T old mid new first second cell =
    second cell
    ∙ (λ i. cond (T cell) (option_map (fleet_numbered number) (first cell i)) (first cell i))
    ∙ once-more number (S cell) (T cell) (held_at old cell)

same-number_cells : (number : ℕ) (S T : CellId → Bool) (old new : Held) → ((cell : CellId) → S cell ≡ T cell) → NumbersFleet S number old new → NumbersFleet T number old new
same-number_cells number S T old new same numbers cell = numbers cell ∙ ap (λ b. cond b (option_map (fleet_numbered number) (held_at old cell)) (held_at old cell)) (same cell)

or-nothing : (b : Bool) → b ≡ (b || false)
or-nothing true = refl
or-nothing false = refl

-- all cells of a fleet
pub number_out : (number : ℕ) (fleet : Fleet) (old mid new : Held) → fleet.outbound ≡ true
    → NumbersFleet (λ cell. same_cell (PlanetId fleet.origin) cell || same_cell (AccountId fleet.owner) cell) number old mid
    → NumbersFleet (λ cell. same_cell (PlanetId fleet.target) cell || same_cell (AccountId fleet.target_owner) cell) number mid new → NumbersFleet (λ cell. belongs cell fleet) number old new
number_out number fleet old mid new out first second =
    let near = λ (cell : CellId). same_cell (PlanetId fleet.origin) cell || same_cell (AccountId fleet.owner) cell in
    let far = λ (cell : CellId). same_cell (PlanetId fleet.target) cell || same_cell (AccountId fleet.target_owner) cell in
    same-number_cells number (λ cell. near cell || far cell) (λ cell. belongs cell fleet) old new (λ cell. ap (λ b. near cell || (b && far cell)) (sym out)) (number_more number near far old mid new first second)

pub number_back : (number : ℕ) (fleet : Fleet) (old new : Held) → fleet.outbound ≡ false
    → NumbersFleet (λ cell. same_cell (PlanetId fleet.origin) cell || same_cell (AccountId fleet.owner) cell) number old new → NumbersFleet (λ cell. belongs cell fleet) number old new
number_back number fleet old new home first =
    let near = λ (cell : CellId). same_cell (PlanetId fleet.origin) cell || same_cell (AccountId fleet.owner) cell in
    let far = λ (cell : CellId). same_cell (PlanetId fleet.target) cell || same_cell (AccountId fleet.target_owner) cell in
    same-number_cells number near (λ cell. belongs cell fleet) old new (λ cell. or-nothing (near cell) ∙ ap (λ b. near cell || (b && far cell)) (sym home)) first
