-- What can happen to cells that show a universe.
use Rattle.std.proofs.Common.{◌≡◌, ℕ, ◌+◌, ◌≤◌, Bool, true, false, cond, eqb, ◌||◌, ◌&&◌, List, [], ◌∷◌, sum, sum_by, arith, refl, ap, ◌∙◌, sym, subst, inl, inr, Option, Some, None}
use Rattle.std.proofs.lemmas.List.Sums.{sum_by-cons}
use Rattle.std.specs.Prelude.{IfSome, is_some, option_map}
use Rattle.std.specs.BTreeMap.{get}
use Rattle.base_ids.specs.Cells.{same_cell, same_player}
use Rattle.base_ids.specs.declared.cell_id.CellId.{CellId}
use Rattle.base_ids.specs.declared.cell_id.CellId.TheVariants.{Account as AccountId, Planet as PlanetId}
use Rattle.base_ids.specs.declared.player.Player.{Player}
use Rattle.catalog.specs.declared.ships.TheConstants.{UNITS}
use Rattle.fleet_rec.specs.Fleet.{fleet_seen}
use Rattle.fleet_rec.specs.declared.fleet.Fleet.{Fleet as FleetRecord}
use Rattle.laziness.proofs.Bringing.{never}
use Rattle.laziness.specs.Stamps.{Stamps}
use Rattle.tick_model.specs.Events.{Owes, fights, footprint, home, lands}
use Rattle.tick_model.specs.Raids.{attacks, raid_of}
use Rattle.tick_model.specs.Flights.{landing}
use Rattle.tick_model.specs.Game.{game}
use Rattle.tick_model.specs.Rules.{IsFlying, IsIn, KeepsRules}
use Rattle.tick_model.specs.Universe.{Fleet, PlanetFields, Setting, State, Yard, of_planet}
use Rattle.tick_model.specs.declared.rules.Rules.{Rules}
use Rattle.tick_model.specs.Views.{Holding, View, belongs, holding, holding_at, queue_in, ships_of, units_held, units_left, view}
use Rattle.tick_model.proofs.Landings.{flies-in}
use Rattle.tick_model.proofs.Lists.{cell-itself, fleet-one, from-filter, in-contained, or-first, or-second, same_number}
use Rattle.tick_model.proofs.Nexts.{landing-listed}
use Rattle.happenings.specs.Applying.{CanFinish, Finishes, Happens, held_after}
use Rattle.happenings.specs.Coming.{CanHappen}
use Rattle.happenings.specs.Happening.{IsOwed, coming_in}
use Rattle.happenings.specs.Held.{Shows, ShowsCell, Stand, account_stand, held_at, holds}
use Rattle.happenings.specs.Landings.{CanLand, HasRoom, HaveOwnFleets, LandsIn, Stays}
use Rattle.happenings.specs.Orders.{player_order}
use Rattle.happenings.specs.Queues.{seen_held, seen_of}
use Rattle.happenings.specs.declared.due.Due.{Due}
use Rattle.happenings.specs.declared.happening.Happening.{Happening}
use Rattle.happenings.specs.declared.happening.Happening.TheVariants.{Item as ItemDue, Coming}
use Rattle.happenings.specs.declared.held.AccountCell.{AccountCell}
use Rattle.happenings.specs.declared.held.Held.{Held}
use Rattle.happenings.proofs.Acting.{event-there, if_some}
use Rattle.happenings.proofs.Firsts.{one_event}

-- the fleets of a cell that is held are those of its universe
pub shown-fleet : (setting : Setting) (f : Stamps (game setting)) (cell : CellId) (o : Option Stand) (fleet : Fleet) → IfSome o (ShowsCell setting f cell) → IsIn fleet (seen_of o).fleets
    → IsIn fleet (view setting.cells f.universe cell).fleets
shown-fleet setting f cell None fleet shown is = absurd is
shown-fleet setting f cell (Some stand) fleet shown is = subst (λ (v : View). IsIn fleet v.fleets) shown.seen is

pub own_fleets : (setting : Setting) (held : Held) (f : Stamps (game setting)) → Shows setting held f → HaveOwnFleets held
own_fleets setting held f shows cell fleet is =
    (from-filter (belongs cell) fleet f.universe.fleets (shown-fleet setting f cell (held_at held cell) fleet (shows cell) is)).1

-- no cell that is held and that an event needs stands later
pub stands-by : (setting : Setting) (held : Held) (f : Stamps (game setting)) (cell : CellId) (second : ℕ) → Shows setting held f → f.at cell ≤ second → IfSome (held_at held cell) (λ stand. stand.second ≤ second)
stands-by setting held f cell second shows by =
    if_some (held_at held cell) (ShowsCell setting f cell) (λ stand. stand.second ≤ second) (λ stand shown. let at : stand.second ≡ f.at cell = shown.second in omega (arith, at, by)) (shows cell)

-- an item can be finished
pub can_finish : (held : Held) (what : Happening) (due : Due) → what ≡ ItemDue due → CanHappen held what → CanFinish held due
can_finish held what due is can =
    can-end held due (subst (CanHappen held) is can)
  where
    can-end : (held : Held) (due : Due) → CanHappen held (ItemDue due) → CanFinish held due
    can-end held due can = record {
      item = can.owed.item;
      later = can.owed.later;
      owed = can.owed.owed;
      second = can.owed.second;
      in_time = can.in_time;
      behind = λ cell needed. stands-by can.setting held can.stamps cell due.second can.shows (can.timely cell (ap (λ e. footprint e cell) can.owed.is ∙ needed));
      own_fleets = own_fleets can.setting held can.stamps can.shows;
    }

-- The planet where a fleet stays is its owner's, and its units and the ships are among those of the owner's account.

pub one-of-sum : {A : Type 0} (f : A → ℕ) (xs : List A) (x : A) → IsIn x xs → f x ≤ sum_by f xs
one-of-sum f [] x is = absurd is
one-of-sum f (first ∷ later) x (inl same) =
    let here : f x ≡ f first = ap f same in
    let all = sum_by-cons f first later in
    omega (arith, here, all)
one-of-sum f (first ∷ later) x (inr is) =
    let there = one-of-sum f later x is in
    let all = sum_by-cons f first later in
    omega (arith, there, all)

-- the planet of its owner
record OwnPlanet (state : State) (fleet : Fleet) : Type 0 where
  planet : PlanetFields
  is : state.own (PlanetId (landing fleet)) ≡ of_planet planet
  owner : planet.owner ≡ fleet.owner

home-planet : (state : State) (fleet : Fleet) → fleet.outbound ≡ false → IsFlying state fleet → OwnPlanet state fleet
home-planet state fleet home flying = record {
  planet = flying.from;
  is = ap (λ b. state.own (PlanetId (cond b fleet.target fleet.origin))) home ∙ flying.leaves;
  owner = flying.is_own;
}

own-planet : (state : State) (fleet : Fleet) (b : Bool) → fleet.outbound ≡ b → IsFlying state fleet → Stays fleet → OwnPlanet state fleet
own-planet state fleet b is flying (inl home) = home-planet state fleet home flying
own-planet state fleet true is flying (inr deploy) = record {
  planet = flying.to;
  is = ap (λ c. state.own (PlanetId (cond c fleet.target fleet.origin))) is ∙ flying.reaches;
  owner = flying.is_theirs ∙ flying.deployed deploy;
}
own-planet state fleet false is flying (inr deploy) = home-planet state fleet is flying

pub counted : (b : Bool) (units : ℕ) → b ≡ true → cond b units 0 ≡ units
counted b units is = ap (λ c. cond c units 0) is

pub player-itself : (player : Player) → same_player player player ≡ true
player-itself player = same_number player.k

-- the account of its owner
pub record OwnerHeld (held : Held) (player : Player) : Type 0 where
  pub cell : AccountCell
  pub found : get player_order held.accounts player ≡ Some cell

pub owner-held : (held : Held) (player : Player) (o : Option AccountCell) → get player_order held.accounts player ≡ o → is_some (option_map account_stand o) ≡ true → OwnerHeld held player
owner-held held player None found inside = never false inside refl
owner-held held player (Some cell) found inside = record { cell = cell; found = found }

pub owner-belongs : (fleet : Fleet) → belongs (AccountId fleet.owner) fleet ≡ true
owner-belongs fleet =
    or-first (same_cell (PlanetId fleet.origin) (AccountId fleet.owner) || same_cell (AccountId fleet.owner) (AccountId fleet.owner))
    (fleet.outbound && (same_cell (PlanetId fleet.target) (AccountId fleet.owner) || same_cell (AccountId fleet.target_owner) (AccountId fleet.owner)))
    (or-second (same_cell (PlanetId fleet.origin) (AccountId fleet.owner)) (same_cell (AccountId fleet.owner) (AccountId fleet.owner)) (cell-itself (AccountId fleet.owner)))

pub account-shown : (setting : Setting) (held : Held) (f : Stamps (game setting)) (player : Player) (cell : AccountCell) → Shows setting held f → get player_order held.accounts player ≡ Some cell
    → ShowsCell setting f (AccountId player) (account_stand cell)
account-shown setting held f player cell shows found =
    subst (λ (o : Option Stand). IfSome o (ShowsCell setting f (AccountId player))) (ap (option_map account_stand) found) (shows (AccountId player))

module _ (setting : Setting) (held : Held) (f : Stamps (game setting)) (fleet : Fleet) (shows : Shows setting held f) (fine : KeepsRules setting f.universe)
    (within : (cell : CellId) → belongs cell fleet ≡ true → holds held cell ≡ true) (flies : IsIn fleet f.universe.fleets) where
  abbrev place : CellId
  place = PlanetId (landing fleet)

  units-within : (kept : Holding) → holding_at f.universe place ≡ Some kept → Stays fleet → kept.units + sum fleet.ships ≤ UNITS
  units-within kept is stays =
      let owner = fleet.owner in
      let here = own-planet f.universe fleet fleet.outbound refl (fine.flying fleet flies) stays in
      let batches = queue_in f.universe.items place Yard in
      let same : holding (of_planet here.planet) batches ≡ Some kept = ap (λ own. holding own batches) (sym here.is) ∙ is in
      let counts : Holding = record { owner = here.planet.owner; units = sum here.planet.units + units_left batches } in
      let mine : kept.owner ≡ owner = ap (λ (h : Holding). h.owner) (sym (one_event counts kept same)) ∙ here.owner in
      let theirs = owner-held held owner (get player_order held.accounts owner) refl (within (AccountId owner) (owner-belongs fleet)) in
      let shown = account-shown setting held f owner theirs.cell shows theirs.found in
      let f_planets = λ (cell : CellId). units_held owner (holding_at f.universe cell) in
      let planet_units : f_planets place ≡ kept.units =
      ap (units_held owner) is ∙ counted (same_player kept.owner owner) kept.units (ap (λ k. same_player k owner) mine ∙ player-itself owner) in
      let flown_units : ships_of owner fleet ≡ sum fleet.ships = counted (same_player fleet.owner owner) (sum fleet.ships) (player-itself owner) in
      let planets : f_planets place ≤ sum_by f_planets setting.cells = one-of-sum f_planets setting.cells place (in-contained setting.cells place (landing-listed setting f.universe fleet fine flies)) in
      let fleets : ships_of owner fleet ≤ sum_by (ships_of owner) f.universe.fleets = one-of-sum (ships_of owner) f.universe.fleets fleet flies in
      let all : theirs.cell.account.units ≡ sum_by f_planets setting.cells + sum_by (ships_of owner) f.universe.fleets = ap (λ (v : View). v.units) shown.seen in
      let most : theirs.cell.account.units ≤ UNITS = theirs.cell.account.within_units in
      omega (arith, planet_units, flown_units, planets, fleets, all, most)

  room : IfSome (held_at held place) (HasRoom fleet)
  room = if_some (held_at held place) (ShowsCell setting f place) (HasRoom fleet)
      (λ stand shown stays kept is. units-within kept (ap (λ (v : View). holding v.own (v.queue Yard)) (sym shown.seen) ∙ is) stays) (shows place)

  pub can-land : (behind : (cell : CellId) → belongs cell fleet ≡ true → f.at cell ≤ fleet.second) → LandsIn held fleet → CanLand held fleet
  can-land behind owed = record {
    owed = owed;
    room = room;
    behind = λ cell has. stands-by setting held f cell fleet.second shows (behind cell has);
    own_fleets = own_fleets setting held f shows;
    alone = λ cell other is same.
        fleet-one f.universe.fleets other fleet fine.apart (flies-in setting.cells f.universe cell other (shown-fleet setting f cell (held_at held cell) other (shows cell) is)) flies
        (ap (λ n. eqb n fleet.number) same ∙ same_number fleet.number);
  }

-- the event of a fleet that doesn't attack is its landing
pub alone-event : (held : Held) (fleet : Fleet) → attacks fleet ≡ false → coming_in held fleet ≡ lands fleet
alone-event held fleet alone = ap (λ b. cond b (fights (raid_of (seen_held held (PlanetId (landing fleet))).fleets fleet)) (lands fleet)) alone

-- a fleet can land
pub can_land : (held : Held) (what : Happening) (fleet : FleetRecord) → what ≡ Coming fleet → attacks (fleet_seen fleet) ≡ false → CanHappen held what → CanLand held (fleet_seen fleet)
can_land held what fleet is alone can =
    can-end held fleet alone (subst (CanHappen held) is can)
  where
    can-end : (held : Held) (fleet : FleetRecord) → attacks (fleet_seen fleet) ≡ false → CanHappen held (Coming fleet) → CanLand held (fleet_seen fleet)
    can-end held fleet alone can =
        let seen = fleet_seen fleet in
        let there = event-there can.setting held can.stamps (Coming fleet) can.event can.shows can.owed in
        let lands_is : can.event ≡ lands seen = can.owed.is ∙ alone-event held seen alone in
        let stands = subst (λ e. Owes (view can.setting.cells can.stamps.universe (home e)) e) lands_is there.stands in
        let flies = flies-in can.setting.cells can.stamps.universe (home (lands seen)) seen stands.0 in
        let needed : (cell : CellId) → footprint can.event cell ≡ belongs cell seen = λ cell. ap (λ e. footprint e cell) lands_is in
        can-land can.setting held can.stamps seen can.shows can.fine (λ cell has. can.within cell (needed cell ∙ has)) flies
        (λ cell has. can.timely cell (needed cell ∙ has)) can.owed.owed

-- an item that is finished has happened
pub item_happens : (rules : Rules) (what : Happening) (due : Due) (old new : Held) → what ≡ ItemDue due → Finishes rules due old new → Happens rules what old new
item_happens rules what due old new is finishes event owed cell =
    let item = subst (λ w. IsOwed old w event) is owed in
    finishes item.item item.later item.owed cell ∙ ap (λ e. held_after rules e old cell) (sym item.is)

-- and so has a landing
pub landing_happens : (rules : Rules) (what : Happening) (fleet : FleetRecord) (old new : Held) → what ≡ Coming fleet → attacks (fleet_seen fleet) ≡ false
    → ((cell : CellId) → held_at new cell ≡ held_after rules (lands (fleet_seen fleet)) old cell) → Happens rules what old new
landing_happens rules what fleet old new is alone after event owed cell =
    let landed = subst (λ w. IsOwed old w event) is owed in
    after cell ∙ ap (λ e. held_after rules e old cell) (sym (landed.is ∙ alone-event old (fleet_seen fleet) alone))
