-- The parts of the two sides, by what the program has of those who fight. Rule: docs/RULES.md, "Attacks".
use Rattle.std.specs.Prelude.{ℕ, List, map}
use Rattle.battle.specs.declared.part.Part.{Part}
use Rattle.catalog.specs.declared.techs.Techs.{Techs}
use Rattle.raids.specs.declared.aftermath.Raider.{Raider}
use Rattle.tick_model.specs.Battles.{fleet_units}

abbrev pub raider_part : Raider → Part
raider_part raider = record { number = raider.fleet.number; techs = raider.techs; n = fleet_units raider.fleet.ships.n }

abbrev pub raider_parts : List Raider → List Part
raider_parts raiders = map raider_part raiders

abbrev pub home_part : List ℕ → Techs → Part
home_part units techs = record { number = 0; techs = techs; n = units }
