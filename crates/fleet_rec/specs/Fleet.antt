-- What a fleet of the program stands for. Rule: docs/RULES.md, "Fleets".
use Rattle.std.specs.Prelude.{ℕ, ◌==◌, if◌then◌else◌}
use Rattle.catalog.specs.declared.amounts.Amounts.{Amounts}
use Rattle.fleet_rec.specs.declared.fleet.Fleet.{Fleet as FleetRecord}
use Rattle.reply_text.specs.declared.units.Units.{Units}
use Rattle.tick_model.specs.Universe.{Fleet}

-- what is on board
abbrev pub cargo_seen : Amounts → Units
cargo_seen amounts = record { metal = amounts.m; crystal = amounts.c; deuterium = amounts.d }

-- the fleet that is seen
abbrev pub fleet_seen : FleetRecord → Fleet
fleet_seen fleet =
    record {
      number = fleet.number;
      group = fleet.group;
      owner = fleet.owner;
      mission = fleet.mission;
      origin = fleet.origin;
      target = fleet.target;
      target_owner = fleet.target_owner;
      outbound = fleet.outbound;
      setting = fleet.setting.p;
      launch = fleet.launch;
      second = fleet.second;
      cargo = cargo_seen fleet.cargo;
      ships = fleet.ships.n;
    }

-- a fleet gets its number, and if it joined nobody, so does its group
abbrev pub numbered : ℕ → Fleet → Fleet
numbered number fleet = record fleet { number = number; group = if fleet.group == 0 then number else fleet.group }
