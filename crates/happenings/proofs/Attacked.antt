-- Fleets that can fight among cells that show a universe.
use Rattle.std.proofs.Common.{◌≡◌, ℕ, zero, suc, ◌+◌, ◌-◌, ◌*◌, ◌<◌, ◌≤◌, Bool, true, false, cond, eqb, ◌||◌, ◌&&◌, List, [], ◌∷◌, filter, length, map, sum, sum_by, arith, refl, ap, ◌∙◌, sym, subst, inl, inr, Option, Some, None}
use Rattle.std.proofs.lemmas.List.Sums.{sum_by-cons}
use Rattle.std.proofs.Math.Nat.{suc-mul}
use Rattle.std.specs.Prelude.{IfSome, is_some, option_map, slice_index}
use Rattle.std.specs.BTreeMap.{get}
use Rattle.std.specs.List.{filter_map, list_any}
use Rattle.std.specs.List.Sorted.{IsStrictlyIncreasing}
use Rattle.base_ids.specs.Cells.{same_cell, same_coord, same_player}
use Rattle.base_ids.specs.declared.cell_id.CellId.{CellId}
use Rattle.base_ids.specs.declared.cell_id.CellId.TheVariants.{Account as AccountId, Planet as PlanetId}
use Rattle.base_ids.specs.declared.player.Player.{Player}
use Rattle.catalog.specs.declared.ships.TheConstants.{UNITS}
use Rattle.fleet_rec.specs.Fleet.{fleet_seen}
use Rattle.fleet_rec.specs.Fleets.{MayFight, after_battle, became_in}
use Rattle.fleet_rec.specs.declared.fleet.Fleet.{Fleet as FleetRecord}
use Rattle.laziness.specs.Stamps.{Stamps, bring_to}
use Rattle.tick_model.specs.Battles.{Fought, comes_back, fought}
use Rattle.laziness.proofs.Bringing.{never}
use Rattle.tick_model.specs.Changes.{Change, owns, same_flight}
use Rattle.tick_model.specs.Events.{Event, IsRaid, Owes, battle_change, battle_losses, event_change, fights, footprint, home, lands, ships_lost, units_lost}
use Rattle.tick_model.specs.Flights.{landing}
use Rattle.tick_model.specs.Game.{game}
use Rattle.tick_model.specs.Production.{advance, gains}
use Rattle.tick_model.specs.Raids.{Raid, attacks, is_attack, outbound_in, raid_of, raiders}
use Rattle.tick_model.specs.Rules.{DoRise, IsFlying, IsIn, KeepsRules}
use Rattle.tick_model.specs.Universe.{Fleet, PlanetFields, Setting, State, of_planet}
use Rattle.tick_model.specs.Views.{View, belongs, holding_at, nothing_seen, ships_of, shown, units_held, view}
use Rattle.tick_model.specs.declared.codes.TheConstants.{MOST_IN_GROUP}
use Rattle.tick_model.specs.declared.rules.Rules.{Rules}
use Rattle.tick_model.proofs.Battling.{battle-home, became, came_fought, change-fought, defender-needed}
use Rattle.tick_model.proofs.Casualties.{losses-within, ships-fewer}
use Rattle.tick_model.proofs.Effects.{seen_of as seen_by_event}
use Rattle.tick_model.proofs.Gains.{advance-keeps, gains-owe, view-advanced}
use Rattle.tick_model.proofs.Landings.{flies-in}
use Rattle.tick_model.proofs.Lists.{and-from, and-is, any-in, filter-both, fleet-one, from-filter, in-filter, or-second, in-any}
use Rattle.tick_model.proofs.Nexts.{landing-out}
use Rattle.tick_model.proofs.Owns.{owner_of}
use Rattle.tick_model.proofs.Raids.{IsRaidIn, raid-in, raiders-are}
use Rattle.tick_model.proofs.Writes.{flown-own, shown-alike}
use Rattle.happenings.specs.Applying.{Happens, change_then, fields_then, held_after, seen_then}
use Rattle.happenings.specs.Coming.{CanHappen}
use Rattle.happenings.specs.Fighting.{CanBeFought, CanFight, CanLose, CanSettle, IsBattle, account_losses, came_at, raid_in, touches}
use Rattle.happenings.specs.Gaining.{gained, gained_at}
use Rattle.happenings.specs.Happening.{IsOwed, coming_in}
use Rattle.happenings.specs.Held.{Shows, ShowsCell, Stand, account_stand, held_at, holds, planet_stand}
use Rattle.happenings.specs.Landings.{LandsIn}
use Rattle.happenings.specs.Orders.{place_order, player_order}
use Rattle.happenings.specs.Queues.{seen_held, seen_of}
use Rattle.happenings.specs.declared.combat.Battle.{Battle}
use Rattle.happenings.specs.declared.happening.Happening.{Happening}
use Rattle.happenings.specs.declared.happening.Happening.TheVariants.{Coming}
use Rattle.happenings.specs.declared.held.AccountCell.{AccountCell}
use Rattle.happenings.specs.declared.held.Held.{Held}
use Rattle.happenings.specs.declared.held.PlanetCell.{PlanetCell}
use Rattle.happenings.proofs.Acting.{event-there, gained-shown, held-seen, if_some}
use Rattle.happenings.proofs.Allowed.{account-shown, counted, one-of-sum, owner-belongs, owner-held, player-itself, shown-fleet, stands-by}
use Rattle.happenings.proofs.Battled.{change, change-is, place-seen, touches-same, units-at}
use Rattle.happenings.proofs.Firsts.{one_event}
use Rattle.happenings.proofs.Gains.{account_gained}
use Rattle.happenings.proofs.Standing.{seen-gains}
use Rattle.planet_cell.specs.Planet.{fields_of, queue_of}

-- Lists of fleets.

rise-kept : (b : Bool) (p : Fleet → Bool) (x : Fleet) (xs : List Fleet) → DoRise (x ∷ xs) → DoRise (filter p xs) → DoRise (cond b (x ∷ filter p xs) (filter p xs))
rise-kept true p x xs rise later = ((λ other is. rise.0 other (from-filter p other xs is).0), later)
rise-kept false p x xs rise later = later

rise-filter : (p : Fleet → Bool) (xs : List Fleet) → DoRise xs → DoRise (filter p xs)
rise-filter p [] rise = tt
rise-filter p (x ∷ xs) rise = rise-kept (p x) p x xs rise (rise-filter p xs rise.1)

increasing : (xs : List Fleet) → DoRise xs → IsStrictlyIncreasing (map (λ (fleet : Fleet). fleet.number) xs)
increasing [] rise k within = absurd (omega (arith, within))
increasing (x ∷ []) rise k within = absurd (omega (arith, within))
increasing (x ∷ y ∷ xs) rise zero within = rise.0 y (inl refl)
increasing (x ∷ y ∷ xs) rise (suc k) within =
    let numbers = map (λ (fleet : Fleet). fleet.number) (x ∷ y ∷ xs) in
    let next : suc (k + 1) ≡ suc k + 1 = omega arith in
    subst (λ n. slice_index numbers (suc k) < slice_index numbers n) next (increasing (y ∷ xs) rise.1 k (omega (arith, within)))

fewer-kept : (a b : Bool) (m n : ℕ) → (a ≡ true → b ≡ true) → m ≤ n → cond a (suc m) m ≤ cond b (suc n) n
fewer-kept true true m n kept less = omega (arith, less)
fewer-kept true false m n kept less = never false (kept refl) refl
fewer-kept false true m n kept less = omega (arith, less)
fewer-kept false false m n kept less = less

length-kept : {A : Type 0} (b : Bool) (x : A) (xs : List A) → length (cond b (x ∷ xs) xs) ≡ cond b (suc (length xs)) (length xs)
length-kept true x xs = refl
length-kept false x xs = refl

-- fewer pass a test that is harder
filter-fewer : {A : Type 0} (p q : A → Bool) (xs : List A) → ((x : A) → p x ≡ true → q x ≡ true) → length (filter p xs) ≤ length (filter q xs)
filter-fewer p q [] harder = omega arith
filter-fewer p q (x ∷ xs) harder =
    let less = fewer-kept (p x) (q x) (length (filter p xs)) (length (filter q xs)) (harder x) (filter-fewer p q xs harder) in
    subst (λ n. n ≤ length (filter q (x ∷ xs))) (sym (length-kept (p x) x (filter p xs))) (subst (λ n. cond (p x) (suc (length (filter p xs))) (length (filter p xs)) ≤ n) (sym (length-kept (q x) x (filter q xs))) less)

most-in-all : (f : Fleet → ℕ) (most : ℕ) (xs : List Fleet) → ((x : Fleet) → IsIn x xs → f x ≤ most) → sum_by f xs ≤ length xs * most
most-in-all f most [] each = omega arith
most-in-all f most (x ∷ xs) each =
    let here = each x (inl refl) in
    let there = most-in-all f most xs (λ y is. each y (inr is)) in
    let all = sum_by-cons f x xs in
    let product = suc-mul (length xs) most in
    omega (arith, here, there, all, product)

same-planet : (one other : PlanetFields) → of_planet one ≡ of_planet other → one ≡ other
same-planet one other same = cc

-- Cells that show a universe.
module _ (setting : Setting) (held : Held) (f : Stamps (game setting)) (one : Fleet) (shows : Shows setting held f) (fine : KeepsRules setting f.universe) (owed : LandsIn held one)
    (hostile : attacks one ≡ true) (is_raid : IsRaid (view setting.cells f.universe (PlanetId one.target)).fleets (raid_in held one))
    (within : (cell : CellId) → footprint (fights (raid_in held one)) cell ≡ true → holds held cell ≡ true)
    (timely : (cell : CellId) → footprint (fights (raid_in held one)) cell ≡ true → f.at cell ≤ one.second) where
  abbrev raid : Raid
  raid = raid_in held one

  abbrev event : Event
  event = fights raid

  abbrev foot : CellId → Bool
  foot = footprint event

  abbrev place : CellId
  place = PlanetId one.target

  abbrev seconds : CellId → ℕ
  seconds cell = cond (foot cell) (one.second - f.at cell) 0

  -- the universe in which it is fought
  abbrev there : State
  there = advance setting seconds f.universe

  kept : KeepsRules setting there
  kept = advance-keeps setting seconds f.universe fine

  raid_there : IsRaid (view setting.cells there place).fleets raid
  raid_there =
      subst (λ (v : View). IsRaid v.fleets raid) (sym (view-advanced setting seconds f.universe place))
      (gains-owe setting.rules (seconds place) (view setting.cells f.universe place) event is_raid)

  now_in : IsRaidIn f.universe raid
  now_in = raid-in setting f.universe raid fine is_raid

  then_in : IsRaidIn there raid
  then_in = raid-in setting there raid kept raid_there

  behind : (cell : CellId) → foot cell ≡ true → IfSome (held_at held cell) (λ stand. stand.second ≤ one.second)
  behind cell has = stands-by setting held f cell one.second shows (timely cell has)

  raider-needed : (fleet : Fleet) (cell : CellId) → IsIn fleet raid.fleets → belongs cell fleet ≡ true → foot cell ≡ true
  raider-needed fleet cell is has = or-second (same_cell place cell) (list_any (belongs cell) raid.fleets) (in-any (belongs cell) fleet raid.fleets is has)

  -- an account counts its ships
  account-ships : (player : Player) (cell : AccountCell) → get player_order held.accounts player ≡ Some cell → sum_by (ships_of player) f.universe.fleets ≤ UNITS
  account-ships player cell found =
      let shown = account-shown setting held f player cell shows found in
      let planets = sum_by (λ (x : CellId). units_held player (holding_at f.universe x)) setting.cells in
      let all : cell.account.units ≡ planets + sum_by (ships_of player) f.universe.fleets = ap (λ (v : View). v.units) shown.seen in
      let most : cell.account.units ≤ UNITS = cell.account.within_units in
      omega (arith, all, most)

  -- no fleet of the raid has more ships than an account may have
  raider-ships : (fleet : Fleet) → IsIn fleet raid.fleets → sum fleet.ships ≤ UNITS
  raider-ships fleet is =
      let owner = fleet.owner in
      let theirs = owner-held held owner (get player_order held.accounts owner) refl (within (AccountId owner) (raider-needed fleet (AccountId owner) is (owner-belongs fleet))) in
      let all = account-ships owner theirs.cell theirs.found in
      let ships : ships_of owner fleet ≡ sum fleet.ships = counted (same_player fleet.owner owner) (sum fleet.ships) (player-itself owner) in
      let some = one-of-sum (ships_of owner) f.universe.fleets fleet (now_in.each fleet is).flies in
      omega (arith, all, ships, some)

  abbrev goes : Fleet → Bool
  goes fleet = fleet.outbound && same_coord fleet.target one.target && eqb fleet.group one.group

  raid-fleets : raid.fleets ≡ raiders one.target one.group (filter (belongs place) f.universe.fleets)
  raid-fleets = ap (λ (v : View). raiders one.target one.group v.fleets) (held-seen setting held f place shows (within place (battle-home raid)))

  rising : IsStrictlyIncreasing (map (λ (fleet : Fleet). fleet.number) raid.fleets)
  rising =
      let rise = rise-filter (λ (fleet : Fleet). is_attack fleet.mission) _ (rise-filter goes _ (rise-filter (belongs place) f.universe.fleets fine.rise)) in
      increasing raid.fleets (subst DoRise (sym raid-fleets) rise)

  outbound-one : (fleet : Fleet) → belongs place fleet && (goes fleet && is_attack fleet.mission) ≡ true → fleet.outbound && eqb fleet.group one.group ≡ true
  outbound-one fleet is =
      let both = and-is (goes fleet) (is_attack fleet.mission) (and-is (belongs place fleet) (goes fleet && is_attack fleet.mission) is).1 in
      let grouped = and-is (fleet.outbound && same_coord fleet.target one.target) (eqb fleet.group one.group) both.0 in
      and-from fleet.outbound (eqb fleet.group one.group) (and-is fleet.outbound (same_coord fleet.target one.target) grouped.0).0 grouped.1

  few-fleets : length raid.fleets ≤ MOST_IN_GROUP
  few-fleets =
      let mine = filter (belongs place) f.universe.fleets in
      let merged : raid.fleets ≡ filter (λ fleet. belongs place fleet && (goes fleet && is_attack fleet.mission)) f.universe.fleets =
      raid-fleets
      ∙ filter-both (λ (fleet : Fleet). is_attack fleet.mission) goes mine
      ∙ filter-both (λ fleet. goes fleet && is_attack fleet.mission) (belongs place) f.universe.fleets in
      let less = filter-fewer (λ fleet. belongs place fleet && (goes fleet && is_attack fleet.mission)) (λ fleet. fleet.outbound && eqb fleet.group one.group) f.universe.fleets outbound-one in
      let count = ap (λ (fleets : List Fleet). length fleets) merged in
      let most = fine.few one.group in
      omega (arith, less, count, most)

  few : sum_by (λ (fleet : Fleet). sum fleet.ships) raid.fleets ≤ MOST_IN_GROUP * UNITS
  few =
      let all = most-in-all (λ (fleet : Fleet). sum fleet.ships) UNITS raid.fleets raider-ships in
      let most = few-fleets in
      omega (arith, all, most)

  -- what is held of a cell that the battle needs, once it gained, is what that universe has of it
  brought : (cell : CellId) → foot cell ≡ true → seen_of (gained_at setting.rules one.second held cell) ≡ view setting.cells there cell
  brought cell has = gained-shown setting f foot one.second cell (held_at held cell) has (within cell has) (shows cell)

  place-own : (cell : PlanetCell) → get place_order held.planets one.target ≡ Some cell → there.own place ≡ of_planet (fields_then setting.rules one.second cell)
  place-own cell found =
      ap (λ (v : View). v.own) (sym (brought place (battle-home raid)))
      ∙ ap (λ o. (seen_of (option_map (gained setting.rules one.second) (option_map planet_stand o))).own) found
      ∙ ap (λ (v : View). v.own) (seen-gains setting.rules (one.second - cell.second) (fields_of cell.planet) (queue_of cell.planet) cell.fleets)

  owner-needed : (cell : PlanetCell) → get place_order held.planets one.target ≡ Some cell → foot (AccountId (fields_then setting.rules one.second cell).owner) ≡ true
  owner-needed cell found = defender-needed setting there raid kept then_in (fields_then setting.rules one.second cell).owner (ap owner_of (place-own cell found))

  -- the fleets of the raid fly out
  may-fight : (cell : CellId) → foot cell ≡ true → MayFight raid.fleets (seen_held held cell).fleets
  may-fight cell has fleet is numbered =
      let flies = flies-in setting.cells f.universe cell fleet (subst (λ (v : View). IsIn fleet v.fleets) (held-seen setting held f cell shows (within cell has)) is) in
      let found = any-in (same_flight fleet) raid.fleets numbered in
      let raider = now_in.each found.0 found.1 in
      let same = fleet-one f.universe.fleets fleet found.0 fine.apart flies raider.flies found.2 in
      ap (λ (x : Fleet). x.outbound) same ∙ (and-is found.0.outbound (is_attack found.0.mission) raider.hostile).0

  module _ (battle : Battle) (is : IsBattle setting.rules held one battle) where
    needed : (cell : CellId) → touches battle cell ≡ true → foot cell ≡ true
    needed cell has = sym (touches-same setting.rules held one battle is cell) ∙ has

    seen-same : seen_then setting.rules event held ≡ seen_by_event setting event there
    seen-same = shown-alike foot (λ y. seen_of (gained_at setting.rules one.second held y)) (view setting.cells there) brought

    planet-same : fields_then setting.rules one.second is.place ≡ then_in.planet
    planet-same = same-planet (fields_then setting.rules one.second is.place) then_in.planet (sym (place-own is.place is.found) ∙ then_in.there)

    left-same : battle.after.fleets ≡ (came_fought setting raid there then_in.planet).fleets
    left-same = sym is.fleets ∙ (λ i. (fought setting.rules.seed (owns (seen-same i)) raid (planet-same i)).fleets)

    became-same : became_in battle.raid battle.after.fleets ≡ became setting there raid kept then_in
    became-same = λ i fleet. cond (list_any (same_flight fleet) (is.raid i)) (comes_back (left-same i) fleet) (Some fleet)

    change-same : change setting.rules held one battle is ≡ battle_change setting.rules raid (seen_by_event setting event there) (of_planet then_in.planet)
    change-same =
        sym (change-is setting.rules held one battle is)
        ∙ ap (event_change setting.rules event) seen-same
        ∙ change-fought setting raid there then_in.planet then_in.there

    module _ (player : Player) (cell : AccountCell) (found : get player_order held.accounts player ≡ Some cell) (has : foot (AccountId player) ≡ true) where
      abbrev x : CellId
      x = AccountId player

      abbrev stand : Stand
      stand = account_stand cell

      abbrev fought_change : Change
      fought_change = battle_change setting.rules raid (seen_by_event setting event there) (of_planet then_in.planet)

      fleets-same : stand.seen.fleets ≡ (view setting.cells there x).fleets
      fleets-same = ap (λ (v : View). v.fleets) (account-shown setting held f player cell shows found).seen

      grown : gained setting.rules one.second stand ≡ record stand { second = one.second }
      grown = sym (account_gained setting.rules one.second cell (record cell { second = one.second }) refl)

      units-same : (view setting.cells there x).units ≡ stand.seen.units
      units-same =
          ap (λ (v : View). v.units) (sym (brought x has))
          ∙ ap (λ o. (seen_of (option_map (gained setting.rules one.second) (option_map account_stand o))).units) found
          ∙ ap (λ (s : Stand). s.seen.units) grown

      shown-at : (y : CellId) → foot y ≡ true → seen_by_event setting event there y ≡ view setting.cells there y
      shown-at y there_too = ap (λ b. cond b (view setting.cells there y) nothing_seen) there_too

      losses-same : account_losses battle player stand.seen.fleets ≡ battle_losses raid fought_change (view setting.cells there) x
      losses-same =
          ap (λ (s : Stand). account_losses battle player s.seen.fleets) (sym grown)
          ∙ units-at setting.rules held one battle is x stand has (ap (option_map account_stand) found)
          ∙ (λ i. battle_losses raid (change-same i) (seen-same i) x)
          ∙ (λ i. ships_lost player fought_change.fleet (shown-at x has i).fleets + units_lost player (shown-at place (battle-home raid) i).own (fought_change.own place))

      losses : account_losses battle player stand.seen.fleets ≤ stand.seen.units
      losses =
          let less = losses-within setting there raid kept then_in x in
          let lost = losses-same in
          let units = units-same in
          omega (arith, less, lost, units)

      ships : sum_by (ships_of player) stand.seen.fleets ≤ UNITS
      ships =
          let all = account-ships player cell found in
          let mine = ap (sum_by (ships_of player)) fleets-same ∙ sym (flown-own player f.universe.fleets) in
          omega (arith, all, mine)

      fewer : sum_by (ships_of player) (after_battle battle.raid battle.after.fleets stand.seen.fleets) ≤ sum_by (ships_of player) stand.seen.fleets
      fewer =
          let less = ships-fewer setting there raid kept then_in player in
          let after = ap (sum_by (ships_of player)) (λ i. filter_map (became-same i) (fleets-same i)) in
          let before = ap (sum_by (ships_of player)) fleets-same in
          omega (arith, less, after, before)

      can-lose : CanLose battle player stand.seen
      can-lose = record {
        fight = subst (λ fleets. MayFight fleets stand.seen.fleets) (sym is.raid) (subst (λ o. MayFight raid.fleets (seen_of (option_map account_stand o)).fleets) found (may-fight x has));
        ships = ships;
        fewer = fewer;
        losses = losses;
      }

    settles : (cell : PlanetCell) → get place_order held.planets battle.target ≡ Some cell → CanSettle battle (fields_then setting.rules battle.second cell)
    settles cell found =
        let same : is.place ≡ cell = one_event is.place cell (sym is.found ∙ ap (get place_order held.planets) (sym is.target) ∙ found) in
        subst (λ c. CanSettle battle (fields_then setting.rules battle.second c)) same (subst (λ s. CanSettle battle (fields_then setting.rules s is.place)) (sym is.second) is.settles)

    can-be-fought : CanBeFought setting.rules battle held
    can-be-fought = record {
      behind = λ cell has. subst (λ s. IfSome (held_at held cell) (λ stand. stand.second ≤ s)) (sym is.second) (behind cell (needed cell has));
      fly = λ cell has. subst (λ fleets. MayFight fleets (seen_held held cell).fleets) (sym is.raid) (may-fight cell (needed cell has));
      settles = settles;
      lose = λ player cell found has. can-lose player cell found (needed (AccountId player) has);
    }

  pub can-fight : CanFight setting.rules held one
  can-fight = record {
    owed = owed;
    hostile = hostile;
    within = within;
    behind = behind;
    owner = owner-needed;
    rising = rising;
    few = few;
    fought = can-be-fought;
  }

-- the event of a fleet that attacks is the battle of its raid
raid-event : (held : Held) (fleet : Fleet) → attacks fleet ≡ true → coming_in held fleet ≡ fights (raid_in held fleet)
raid-event held fleet hostile =
    ap (λ b. cond b (fights (raid_of (seen_held held (PlanetId (landing fleet))).fleets fleet)) (lands fleet)) hostile
    ∙ ap (λ at. fights (raid_of (seen_held held (PlanetId at)).fleets fleet)) (landing-out fleet hostile)

-- rules that cells keep don't depend on the seed and the speed
with-rules : (rules : Rules) (setting : Setting) (state : State) → KeepsRules setting state → KeepsRules (record setting { rules = rules }) state
with-rules rules setting state fine = record {
  listed = fine.listed;
  once = fine.once;
  owned = fine.owned;
  kinds = fine.kinds;
  placed = fine.placed;
  drawn = fine.drawn;
  distinct = fine.distinct;
  paced = fine.paced;
  flying = fine.flying;
  sent = fine.sent;
  apart = fine.apart;
  rise = fine.rise;
  together = fine.together;
  few = fine.few;
}

-- a fleet can fight with its group
pub can_fight : (rules : Rules) (held : Held) (what : Happening) (fleet : FleetRecord) → what ≡ Coming fleet → attacks (fleet_seen fleet) ≡ true → CanHappen held what → CanFight rules held (fleet_seen fleet)
can_fight rules held what fleet is hostile can =
    fights-so rules held fleet hostile (subst (CanHappen held) is can)
  where
    fights-so : (rules : Rules) (held : Held) (fleet : FleetRecord) → attacks (fleet_seen fleet) ≡ true → CanHappen held (Coming fleet) → CanFight rules held (fleet_seen fleet)
    fights-so rules held fleet hostile can =
        let seen = fleet_seen fleet in
        let setting : Setting = record can.setting { rules = rules } in
        let f : Stamps (game setting) = record { universe = can.stamps.universe; at = can.stamps.at } in
        let shows : Shows setting held f = λ cell.
        if_some (held_at held cell) (ShowsCell can.setting can.stamps cell) (ShowsCell setting f cell) (λ stand shown. record { second = shown.second; seen = shown.seen }) (can.shows cell) in
        let event_is : can.event ≡ fights (raid_in held seen) = can.owed.is ∙ raid-event held seen hostile in
        let stands = subst (λ e. Owes (view can.setting.cells can.stamps.universe (home e)) e) event_is (event-there can.setting held can.stamps (Coming fleet) can.event can.shows can.owed).stands in
        let needed : (cell : CellId) → footprint can.event cell ≡ footprint (fights (raid_in held seen)) cell = λ cell. ap (λ e. footprint e cell) event_is in
        can-fight setting held f seen shows (with-rules rules can.setting can.stamps.universe can.fine) can.owed.owed hostile stands
        (λ cell has. can.within cell (needed cell ∙ has)) (λ cell has. can.timely cell (needed cell ∙ has))

-- a battle has happened
pub battle_happens : (rules : Rules) (what : Happening) (fleet : FleetRecord) (old new : Held) → what ≡ Coming fleet → attacks (fleet_seen fleet) ≡ true
    → ((cell : CellId) → held_at new cell ≡ held_after rules (fights (raid_in old (fleet_seen fleet))) old cell) → Happens rules what old new
battle_happens rules what fleet old new is hostile after event owed cell =
    let fought_so = subst (λ w. IsOwed old w event) is owed in
    after cell ∙ ap (λ e. held_after rules e old cell) (sym (fought_so.is ∙ raid-event old (fleet_seen fleet) hostile))
