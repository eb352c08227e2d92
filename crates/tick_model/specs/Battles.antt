-- What a battle makes of a planet and of the fleets that attack it. Rules: docs/RULES.md, "Attacks", "Debris", "Rebuilding" and "Loot".
use Rattle.std.specs.Prelude.{ℕ, ◌+◌, ◌-◌, ◌*◌, ◌/◌, List, [], ◌∷◌, ◌++◌, Bool, Option, find, get_or, length, map, min, nat_le, option_map, replicate, sum, sum_by, take, if◌then◌else◌}
use Rattle.base_ids.specs.declared.cell_id.CellId.{CellId}
use Rattle.base_ids.specs.declared.cell_id.CellId.TheVariants.{Account}
use Rattle.battle.specs.Ending.{BattleEnd, battle_end}
use Rattle.battle.specs.declared.outcome.Verdict.{Verdict}
use Rattle.battle.specs.declared.outcome.Verdict.TheVariants.{Attackers, Planet, Draw}
use Rattle.battle.specs.declared.part.Part.{Part}
use Rattle.catalog.specs.Classes.{is_among}
use Rattle.catalog.specs.Costs.{cost_of}
use Rattle.catalog.specs.declared.amounts.TheConstants.{CAP}
use Rattle.catalog.specs.declared.classes.TheConstants.{UNIT_KINDS}
use Rattle.catalog.specs.declared.kind.Kind.{Kind}
use Rattle.catalog.specs.declared.kind.Kind.TheVariants.{LargeDome, Launcher, Satellite}
use Rattle.catalog.specs.declared.ships.TheConstants.{SHIPS}
use Rattle.catalog.specs.declared.techs.Techs.{Techs}
use Rattle.flight.specs.Fleets.{total}
use Rattle.flight.specs.Freight.{capacity_of}
use Rattle.rates.specs.Stock.{whole}
use Rattle.rates.specs.declared.resources.Resources.{Resources}
use Rattle.reply_text.specs.declared.units.Units.{Units}
use Rattle.spoils.specs.Defences.{rebuilt}
use Rattle.spoils.specs.Loot.{loading}
use Rattle.tick_model.specs.declared.debris.Debris.{Debris}
use Rattle.tick_model.specs.Buildings.{paid}
use Rattle.tick_model.specs.Changes.{same_flight}
use Rattle.tick_model.specs.Flights.{back_at, both_cargoes, free_room, left_by, no_cargo, turned}
use Rattle.tick_model.specs.Raids.{Raid}
use Rattle.tick_model.specs.Universe.{Own, of_account, Fleet, PlanetFields}

-- The two sides.

-- the technologies of a player, by what the player's account has of its own
abbrev pub techs_in : Own → Techs
techs_in (of_account account) = account.techs
techs_in _ = record { n = [] }

-- ships as units of all kinds: a fleet has no satellites and no defences
abbrev pub fleet_units : List ℕ → List ℕ
fleet_units ships = ships ++ replicate (length UNIT_KINDS - length SHIPS) 0

abbrev pub fleet_part : (CellId → Own) → Fleet → Part
fleet_part own fleet = record { number = fleet.number; techs = techs_in (own (Account fleet.owner)); n = fleet_units fleet.ships }

abbrev pub planet_part : (CellId → Own) → PlanetFields → Part
planet_part own planet = record { number = 0; techs = techs_in (own (Account planet.owner)); n = planet.units }

-- the part of each fleet of a raid
abbrev pub raid_parts : (CellId → Own) → Raid → List Part
raid_parts own raid = map (fleet_part own) raid.fleets

-- how the battle of a raid ends
unfoldable pub battle_of_raid : ℕ → (CellId → Own) → Raid → PlanetFields → BattleEnd
battle_of_raid seed own raid planet = battle_end (raid_parts own raid) (planet_part own planet ∷ []) seed raid.group

-- What is lost.

-- what the parts of a side have lost
abbrev pub losses : List Part → List Part → List (List ℕ)
losses (part ∷ parts) (left ∷ lefts) = left_by part.n left.n ∷ losses parts lefts
losses _ _ = []

-- the kinds of which debris is left: all ships and satellites
abbrev pub wrecks : List Kind
wrecks = SHIPS ++ Satellite ∷ []

-- debris with three tenths of what lost ships and satellites have cost, up to CAP
abbrev pub littered : ℕ → (Kind → ℕ) → List (List ℕ) → ℕ
littered there price lost = min (there + 3 * sum_by (total price wrecks) lost / 10) CAP

unfoldable pub debris_after : Debris → List (List ℕ) → Debris
debris_after debris lost =
    record {
      metal = littered debris.metal (λ kind. (cost_of kind).metal) lost;
      crystal = littered debris.crystal (λ kind. (cost_of kind).crystal) lost;
    }

abbrev pub is_defence : Kind → Bool
is_defence kind = is_among Launcher LargeDome kind

-- the units of a planet after a battle that left so many of them: seven tenths of each kind of defence that was lost stand again
abbrev pub units_after : List Kind → List ℕ → List ℕ → List ℕ
units_after (kind ∷ kinds) (count ∷ counts) (left ∷ lefts) =
    (if is_defence kind then left + rebuilt (count - left) else left) ∷ units_after kinds counts lefts
units_after _ _ _ = []

-- What the fleets take away.

-- as much of a cargo as a room holds: first metal, then crystal, then deuterium
unfoldable pub fitting : ℕ → Units → Units
fitting room cargo =
    let metal = min room cargo.metal in
    let crystal = min (room - metal) cargo.crystal in
    record { metal = metal; crystal = crystal; deuterium = min (room - metal - crystal) cargo.deuterium }

-- what is left of a cargo
abbrev pub without : Units → Units → Units
without cargo taken = record { metal = cargo.metal - taken.metal; crystal = cargo.crystal - taken.crystal; deuterium = cargo.deuterium - taken.deuterium }

-- a fleet with the ships that are left of it, and with as much of its cargo as they carry
abbrev pub battered : Fleet → Part → Fleet
battered fleet left =
    let ships = take (length SHIPS) left.n in
    record fleet { ships = ships; cargo = fitting (capacity_of ships) fleet.cargo }

-- the fleets that have ships left
abbrev pub survivors : List Fleet → List Part → List Fleet
survivors (fleet ∷ fleets) (left ∷ lefts) =
    let after = battered fleet left in
    if nat_le 1 (sum after.ships) then after ∷ survivors fleets lefts else survivors fleets lefts
survivors _ _ = []

-- what fleets that have won take of the stocks of a planet: at most half of the whole units of each
unfoldable pub loot : List Fleet → Resources → Units
loot fleets stock =
    let there = whole stock in
    let steps = loading (sum_by free_room fleets) (there.metal / 2) (there.crystal / 2) (there.deuterium / 2) in
    record {
      metal = steps.first_metal + steps.second_metal;
      crystal = steps.first_crystal + steps.second_crystal;
      deuterium = steps.first_deuterium;
    }

abbrev pub loot_if : Verdict → List Fleet → Resources → Units
loot_if Attackers fleets stock = loot fleets stock
loot_if Planet fleets stock = no_cargo
loot_if Draw fleets stock = no_cargo

-- fleets load what is taken, each in turn as much as it has room for
abbrev pub laden : Units → List Fleet → List Fleet
laden taken [] = []
laden taken (fleet ∷ fleets) =
    let part = fitting (free_room fleet) taken in
    record fleet { cargo = both_cargoes fleet.cargo part } ∷ laden (without taken part) fleets

-- What a battle comes to: the planet, and the fleets that are left, with their ships and their cargo.
pub record Fought : Type 0 where
  pub planet : PlanetFields
  pub fleets : List Fleet

-- a battle of this raid on a planet, by what the accounts of those who fight have of their own
unfoldable pub fought : ℕ → (CellId → Own) → Raid → PlanetFields → Fought
fought seed own raid planet =
    let ending = battle_of_raid seed own raid planet in
    let planet_left = get_or ending.planet 0 (planet_part own planet) in
    let fleets = survivors raid.fleets ending.attackers in
    let taken = loot_if ending.outcome.verdict fleets planet.stock in
    let lost = losses (raid_parts own raid) ending.attackers ++ left_by planet.units planet_left.n ∷ [] in
    record {
      planet = record planet {
        stock = paid planet.stock (record { metal = taken.metal; crystal = taken.crystal; deuterium = taken.deuterium });
        debris = debris_after planet.debris lost;
        units = units_after UNIT_KINDS planet.units planet_left.n;
      };
      fleets = laden taken fleets;
    }

-- a fleet turns back with what is left of it
abbrev pub back_with : Fleet → Fleet → Fleet
back_with fleet left = record (turned fleet (back_at fleet) left.cargo) { ships = left.ships }

-- what becomes of a fleet of which something may be left among these
abbrev pub comes_back : List Fleet → Fleet → Option Fleet
comes_back left fleet = option_map (back_with fleet) (find (same_flight fleet) left)
