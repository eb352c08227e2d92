-- What a battle leaves is what its rules say, whatever accounts there are.
use Rattle.std.proofs.Common.{◌≡◌, ◌∙◌, ℕ, suc, ◌<◌, ◌≤◌, List, [], ◌∷◌, ◌++◌, length, map, sum, get_or, refl, ap, sym, subst, arith}
use Rattle.std.specs.List.{Contains}
use Rattle.std.proofs.lemmas.List.{get_or_default}
use Rattle.base_ids.specs.declared.cell_id.CellId.{CellId}
use Rattle.base_ids.specs.declared.cell_id.CellId.TheVariants.{Account}
use Rattle.battle.proofs.CourseEnds.{one_battle_end}
use Rattle.battle.specs.Ending.{BattleEnd, battle_end}
use Rattle.battle.specs.Outcomes.{IsFought}
use Rattle.battle.specs.declared.outcome.Outcome.{Outcome}
use Rattle.battle.specs.declared.outcome.Verdict.{Verdict}
use Rattle.battle.specs.declared.part.Part.{Part}
use Rattle.catalog.specs.declared.classes.TheConstants.{UNIT_KINDS}
use Rattle.catalog.specs.declared.techs.Techs.{Techs}
use Rattle.fleet_rec.specs.Fleet.{cargo_seen, fleet_seen}
use Rattle.planet_cell.specs.Planet.{fields_of}
use Rattle.planet_cell.specs.declared.planet.Planet.{Planet}
use Rattle.raids.proofs.Ended.{both_left}
use Rattle.raids.specs.Aftermath.{HaveTechs, IsAftermath, Leaves}
use Rattle.raids.proofs.Named.{laden_in, survivor_in}
use Rattle.raids.specs.Leaving.{IsLeft, fleets_seen, numbers_of}
use Rattle.raids.specs.Parts.{home_part, raider_part, raider_parts}
use Rattle.raids.specs.declared.aftermath.Aftermath.{Aftermath}
use Rattle.raids.specs.declared.aftermath.Raider.{Raider}
use Rattle.tick_model.specs.Battles.{Fought, battle_of_raid, debris_after, fleet_part, fleet_units, fought, laden, loot_if, losses, planet_part, raid_parts, survivors, techs_in, units_after}
use Rattle.tick_model.specs.Buildings.{paid}
use Rattle.tick_model.specs.Flights.{left_by}
use Rattle.tick_model.specs.Raids.{Raid}
use Rattle.tick_model.specs.Rules.{IsIn}
use Rattle.tick_model.specs.Universe.{Fleet, Own, PlanetFields}

-- The sides are the same, by what the accounts have.

contains_later : (first x : Raider) (later : List Raider) → Contains later x → Contains (first ∷ later) x
contains_later first x later has = (suc has.0, omega (arith, has.1), has.2)

parts_same : (own : CellId → Own) (raiders : List Raider) → HaveTechs own raiders → map (fleet_part own) (fleets_seen raiders) ≡ raider_parts raiders
parts_same own [] have = refl
parts_same own (raider ∷ raiders) have =
    let techs : techs_in (own (Account raider.fleet.owner)) ≡ raider.techs = have raider (0, omega arith, refl) in
    let first : fleet_part own (fleet_seen raider.fleet) ≡ raider_part raider = ap (λ (t : Techs). record { number = raider.fleet.number; techs = t; n = fleet_units raider.fleet.ships.n }) techs in
    let later = parts_same own raiders (λ r has. have r (contains_later raider r raiders has)) in
    λ i. first i ∷ later i

home_same : (own : CellId → Own) (planet : Planet) (techs : Techs) → techs_in (own (Account planet.owner)) ≡ techs → planet_part own (fields_of planet) ≡ home_part planet.units techs
home_same own planet techs have = ap (λ (t : Techs). record { number = 0; techs = t; n = planet.units }) have

-- What a battle comes to, by its sides and its end.
abbrev come_to : PlanetFields → List Part → Part → BattleEnd → List Fleet → Fought
come_to planet parts home ending all =
    let planet_left = get_or ending.planet 0 home in
    let fleets = survivors all ending.attackers in
    let taken = loot_if ending.outcome.verdict fleets planet.stock in
    let lost = losses parts ending.attackers ++ left_by planet.units planet_left.n ∷ [] in
    record {
      planet = record planet {
        stock = paid planet.stock (record { metal = taken.metal; crystal = taken.crystal; deuterium = taken.deuterium });
        debris = debris_after planet.debris lost;
        units = units_after UNIT_KINDS planet.units planet_left.n;
      };
      fleets = laden taken fleets;
    }

fought_by : (seed : ℕ) (own : CellId → Own) (raid : Raid) (planet : PlanetFields)
    → fought seed own raid planet ≡ come_to planet (raid_parts own raid) (planet_part own planet) (battle_end (raid_parts own raid) (planet_part own planet ∷ []) seed raid.group) raid.fleets
unfolding fought battle_of_raid
fought_by seed own raid planet = refl

fought_same : (seed group : ℕ) (own : CellId → Own) (raid : Raid) (planet : PlanetFields) (parts : List Part) (home : Part) (fleets : List Fleet)
    → raid.group ≡ group → raid.fleets ≡ fleets → raid_parts own raid ≡ parts → planet_part own planet ≡ home
    → fought seed own raid planet ≡ come_to planet parts home (battle_end parts (home ∷ []) seed group) fleets
fought_same seed group own raid planet parts home fleets groups all sides place =
    fought_by seed own raid planet
    ∙ (λ i. come_to planet (sides i) (place i) (battle_end (sides i) (place i ∷ []) seed (groups i)) (all i))

-- So it leaves what is left.
leaves_end : (raiders : List Raider) (planet : Planet) (home : Part) (verdict : Verdict) (lefts planet_left : List Part) (ending : BattleEnd) (after : Aftermath)
    → verdict ≡ ending.outcome.verdict → lefts ≡ ending.attackers → planet_left ≡ ending.planet → IsLeft raiders lefts planet (get_or planet_left 0 home) verdict after
    → Leaves (come_to (fields_of planet) (raider_parts raiders) home ending (fleets_seen raiders)) planet after
leaves_end raiders planet home verdict lefts planet_left ending after won fleets_end planet_end is =
    let all = fleets_seen raiders in
    let taken : loot_if ending.outcome.verdict (survivors all ending.attackers) planet.stock ≡ cargo_seen after.taken =
    sym (is.taken_is ∙ (λ i. loot_if (won i) (survivors all (fleets_end i)) planet.stock)) in
    let fleets : laden (loot_if ending.outcome.verdict (survivors all ending.attackers) planet.stock) (survivors all ending.attackers) ≡ after.fleets =
    (λ i. laden (taken i) (survivors all (sym fleets_end i))) ∙ sym is.fleets_are in
    let debris : debris_after planet.debris (losses (raider_parts raiders) ending.attackers ++ left_by planet.units (get_or ending.planet 0 home).n ∷ []) ≡ after.debris =
    sym (is.debris_is ∙ (λ i. debris_after planet.debris (losses (raider_parts raiders) (fleets_end i) ++ left_by planet.units (get_or (planet_end i) 0 home).n ∷ []))) in
    let units : units_after UNIT_KINDS planet.units (get_or ending.planet 0 home).n ≡ after.units =
    sym (is.units_are ∙ (λ i. units_after UNIT_KINDS planet.units (get_or (planet_end i) 0 home).n)) in
    record {
      fleets = fleets;
      planet_is = λ i. record (fields_of planet) {
        stock = paid planet.stock (record { metal = (taken i).metal; crystal = (taken i).crystal; deuterium = (taken i).deuterium });
        debris = debris i;
        units = units i;
      };
    }

-- The battle that is fought is one of these sides.
pub sides_fought : (raiders : List Raider) (home : Part) (seed number : ℕ) (result : Outcome) (fleets homes lefts planet_left : List Part) → fleets ≡ raider_parts raiders → homes ≡ home ∷ []
    → IsFought fleets homes seed number result lefts planet_left → IsFought (raider_parts raiders) (home ∷ []) seed number result lefts planet_left
sides_fought raiders home seed number result fleets homes lefts planet_left one two is =
    subst (λ (xs : List Part). IsFought xs (home ∷ []) seed number result lefts planet_left) one
    (subst (λ (ys : List Part). IsFought fleets ys seed number result lefts planet_left) two is)

pub settled : (seed group : ℕ) (raiders : List Raider) (planet : Planet) (techs : Techs) (result : Outcome) (lefts planet_left seen planet_seen : List Part) (d : Part) (after : Aftermath) → length planet.units ≡ 22
    → seen ≡ lefts → planet_seen ≡ planet_left
    → IsFought (raider_parts raiders) (home_part planet.units techs ∷ []) seed group result lefts planet_left
    → IsLeft raiders seen planet (get_or planet_seen 0 d) result.verdict after
    → IsAftermath seed group raiders planet techs after
settled seed group raiders planet techs result lefts planet_left seen planet_seen d after all seen_is planet_is fought_so left =
    let parts = raider_parts raiders in
    let home = home_part planet.units techs in
    let ends = one_battle_end parts (home ∷ []) lefts planet_left seed group result fought_so in
    let both = both_left raiders home seed group result lefts planet_left all fought_so in
    let one : 0 < length planet_left = omega (arith, both.one) in
    let last : get_or planet_seen 0 d ≡ get_or planet_left 0 home = ap (λ (xs : List Part). get_or xs 0 d) planet_is ∙ get_or_default planet_left 0 d home one in
    let is : IsLeft raiders lefts planet (get_or planet_left 0 home) result.verdict after =
    subst (λ (p : Part). IsLeft raiders lefts planet p result.verdict after) last
    (subst (λ (xs : List Part). IsLeft raiders xs planet (get_or planet_seen 0 d) result.verdict after) seen_is left) in
    record {
      leaves = λ own raid groups fleets have owner.
          let sides : raid_parts own raid ≡ parts = ap (map (fleet_part own)) fleets ∙ parts_same own raiders have in
          let came = fought_same seed group own raid (fields_of planet) parts home (fleets_seen raiders) groups fleets sides (home_same own planet techs owner) in
          subst (λ (f : Fought). Leaves f planet after) (sym came)
          (leaves_end raiders planet home result.verdict lefts planet_left (battle_end parts (home ∷ []) seed group) after (ap (λ (o : Outcome). o.verdict) ends.0) ends.1 ends.2 is);
      taken = is.paid;
      units = subst (λ (xs : List ℕ). sum xs ≤ sum planet.units) (sym is.units_are) both.units;
      numbers = λ fleet there. laden_in (numbers_of raiders) (cargo_seen after.taken) (survivors (fleets_seen raiders) lefts) (survivor_in raiders lefts) fleet (subst (IsIn fleet) is.fleets_are there);
    }
