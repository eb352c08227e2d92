-- How a battle is fought among cells that are held.
use Rattle.std.proofs.Common.{◌≡◌, ℕ, ◌-◌, ◌≤◌, true, cond, ◌||◌, List, [], ◌∷◌, map, sum, inl, inr, refl, ap, ◌∙◌, sym, subst, Option, Some, None}
use Rattle.std.specs.BTreeMap.{get}
use Rattle.std.specs.List.{list_any, Contains}
use Rattle.std.specs.Prelude.{IfSome, option_map}
use Rattle.std.proofs.lemmas.List.Elements.{All-cons, All-contains, All-nil}
use Rattle.base_ids.specs.Cells.{same_cell}
use Rattle.base_ids.specs.declared.player.Player.{Player}
use Rattle.base_ids.specs.declared.cell_id.CellId.{CellId}
use Rattle.base_ids.specs.declared.cell_id.CellId.TheVariants.{Account as AccountId, Planet as PlanetId}
use Rattle.account_cell.specs.Account.{account_fields}
use Rattle.fleet_rec.specs.Fleet.{fleet_seen}
use Rattle.planet_cell.specs.Planet.{fields_of}
use Rattle.planet_cell.specs.declared.planet.Planet.{Planet}
use Rattle.raids.specs.Aftermath.{HaveTechs, IsAftermath, Leaves}
use Rattle.raids.specs.Leaving.{fleets_seen}
use Rattle.raids.specs.declared.aftermath.Raider.{Raider}
use Rattle.tick_model.specs.Battles.{fought, techs_in}
use Rattle.tick_model.specs.Changes.{owns}
use Rattle.tick_model.specs.Events.{fights, footprint}
use Rattle.tick_model.specs.Raids.{Raid, raiders}
use Rattle.tick_model.specs.Rules.{IsIn}
use Rattle.tick_model.specs.Universe.{Fleet, Own, PlanetFields, of_account}
use Rattle.tick_model.specs.Views.{View, belongs, nothing_seen}
use Rattle.tick_model.specs.declared.rules.Rules.{Rules}
use Rattle.tick_model.proofs.Battling.{battle-home}
use Rattle.tick_model.proofs.Lists.{in-any, or-second}
use Rattle.tick_model.proofs.Nexts.{landing-out}
use Rattle.happenings.specs.Applying.{fields_then, seen_then}
use Rattle.happenings.specs.Fighting.{AreOwnersHeld, AreRaiders, CanFight, HasTechs, IsBattle, CanSettle, raid_in, settled}
use Rattle.happenings.specs.Gaining.{gained, gained_at}
use Rattle.happenings.specs.Held.{Stand, account_stand, held_at, planet_stand}
use Rattle.happenings.specs.Orders.{place_order, player_order}
use Rattle.happenings.specs.Queues.{seen_of}
use Rattle.happenings.specs.declared.combat.Battle.{Battle}
use Rattle.happenings.specs.declared.held.AccountCell.{AccountCell}
use Rattle.happenings.specs.declared.held.Held.{Held}
use Rattle.happenings.specs.declared.held.PlanetCell.{PlanetCell}
use Rattle.happenings.proofs.Allowed.{owner-belongs, owner-held}
use Rattle.happenings.proofs.Gains.{account_gained}
use Rattle.happenings.proofs.Landed.{PlaceHeld, place_held}
use Rattle.std.specs.Prelude.{All}

-- each raider's fleet is among those that are seen
all-seen : (all : List Raider) → All (λ (r : Raider). IsIn (fleet_seen r.fleet) (fleets_seen all)) all
all-seen all = seen-among all all (λ f is. is)
  where
    seen-among : (all some : List Raider) → ((f : Fleet) → IsIn f (fleets_seen some) → IsIn f (fleets_seen all)) → All (λ (r : Raider). IsIn (fleet_seen r.fleet) (fleets_seen all)) some
    seen-among all [] within = All-nil (λ (r : Raider). IsIn (fleet_seen r.fleet) (fleets_seen all))
    seen-among all (first ∷ later) within =
        All-cons (λ (r : Raider). IsIn (fleet_seen r.fleet) (fleets_seen all)) first later (within (fleet_seen first.fleet) (inl refl)) (seen-among all later (λ f is. within f (inr is)))

pub raider-numbers : (all : List Raider) → map (λ (r : Raider). r.fleet.number) all ≡ map (λ (f : Fleet). f.number) (fleets_seen all)
raider-numbers [] = refl
raider-numbers (first ∷ later) = ap (λ ns. first.fleet.number ∷ ns) (raider-numbers later)

module _ (rules : Rules) (held : Held) (one : Fleet) (can : CanFight rules held one) where
  abbrev raid : Raid
  raid = raid_in held one

  abbrev seen : CellId → View
  seen = seen_then rules (fights raid) held

  pub target-held : PlaceHeld held one
  target-held = place_held held one can.owed

  pub target-found : get place_order held.planets one.target ≡ Some target-held.cell
  target-found = ap (get place_order held.planets) (sym (landing-out one can.hostile)) ∙ target-held.found

  pub raid-here : (cell : PlanetCell) → get place_order held.planets one.target ≡ Some cell → raid.fleets ≡ raiders one.target one.group cell.fleets
  raid-here cell found = ap (λ o. raiders one.target one.group (seen_of (option_map planet_stand o)).fleets) found

  owner-needed : (fleet : Fleet) → IsIn fleet raid.fleets → footprint (fights raid) (AccountId fleet.owner) ≡ true
  owner-needed fleet is =
      or-second (same_cell (PlanetId one.target) (AccountId fleet.owner)) (list_any (belongs (AccountId fleet.owner)) raid.fleets)
      (in-any (belongs (AccountId fleet.owner)) fleet raid.fleets is (owner-belongs fleet))

  pub owners-held : AreOwnersHeld held raid.fleets
  owners-held fleet is = can.within (AccountId fleet.owner) (owner-needed fleet is)

  pub target-behind : (cell : PlanetCell) → get place_order held.planets one.target ≡ Some cell → cell.second ≤ one.second
  target-behind cell found =
      subst (λ (o : Option Stand). IfSome o (λ stand. stand.second ≤ one.second)) (ap (option_map planet_stand) found) (can.behind (PlanetId one.target) (battle-home raid))

  -- what a player knows then is what the player's account that is held knows
  techs-then : (player : Player) (cell : AccountCell) → footprint (fights raid) (AccountId player) ≡ true → get player_order held.accounts player ≡ Some cell → techs_in (owns seen (AccountId player)) ≡ cell.account.techs
  techs-then player cell has found =
      let grown : gained rules one.second (account_stand cell) ≡ record (account_stand cell) { second = one.second } =
      sym (account_gained rules one.second cell (record cell { second = one.second }) refl) in
      let own : owns seen (AccountId player) ≡ of_account (account_fields cell.account) =
      ap (λ b. (cond b (seen_of (gained_at rules one.second held (AccountId player))) nothing_seen).own) has
      ∙ ap (λ o. (seen_of (option_map (gained rules one.second) (option_map account_stand o))).own) found
      ∙ ap (λ (s : Stand). s.seen.own) grown in
      ap techs_in own

  known-then : (player : Player) (techs : _) → footprint (fights raid) (AccountId player) ≡ true → HasTechs held player techs → techs_in (owns seen (AccountId player)) ≡ techs
  known-then player techs has known =
      let theirs = owner-held held player (get player_order held.accounts player) refl (can.within (AccountId player) has) in
      techs-then player theirs.cell has theirs.found ∙ sym (known theirs.cell theirs.found)

  pub all-known : (all : List Raider) → AreRaiders held raid.fleets all → HaveTechs (owns seen) all
  all-known all are raider within =
      let is : IsIn (fleet_seen raider.fleet) raid.fleets = subst (IsIn (fleet_seen raider.fleet)) are.fleets_are (raider-in all raider within) in
      known-then raider.fleet.owner raider.techs (owner-needed (fleet_seen raider.fleet) is) (All-contains (λ (r : Raider). HasTechs held r.fleet.owner r.techs) all raider are.techs within)
    where
      raider-in : (all : List Raider) (raider : Raider) → Contains all raider → IsIn (fleet_seen raider.fleet) (fleets_seen all)
      raider-in all raider within = All-contains (λ (r : Raider). IsIn (fleet_seen r.fleet) (fleets_seen all)) all raider (all-seen all) within

  -- what is left is what the battle comes to
  pub fought-so : (cell : PlanetCell) (planet : Planet) (all : List Raider) (battle : Battle) (techs : _) → get place_order held.planets one.target ≡ Some cell → fields_of planet ≡ fields_then rules one.second cell
      → AreRaiders held raid.fleets all → HasTechs held planet.owner techs → IsAftermath rules.seed one.group all planet techs battle.after → battle.second ≡ one.second → battle.target ≡ one.target
      → battle.raid ≡ raid.fleets → battle.owner ≡ planet.owner → battle.lost ≡ sum planet.units - sum battle.after.units → IsBattle rules held one battle
  fought-so cell planet all battle techs found fields are known after second target raid_is owner lost =
      let needed = ap (λ (p : PlanetFields). footprint (fights raid) (AccountId p.owner)) fields ∙ can.owner cell found in
      let leaves = after.leaves (owns seen) raid refl (sym are.fleets_are) (all-known all are) (known-then planet.owner techs needed known) in
      record {
        second = second;
        target = target;
        raid = raid_is;
        place = cell;
        found = found;
        fleets = subst (λ (p : PlanetFields). (fought rules.seed (owns seen) raid p).fleets ≡ battle.after.fleets) fields leaves.fleets;
        planet = subst (λ (p : PlanetFields). (fought rules.seed (owns seen) raid p).planet ≡ settled battle p) fields leaves.planet_is;
        settles = subst (CanSettle battle) fields (record { taken = after.taken; units = after.units });
        owner = owner ∙ ap (λ (p : PlanetFields). p.owner) fields;
        lost = lost ∙ ap (λ (p : PlanetFields). sum p.units - sum battle.after.units) fields;
      }
