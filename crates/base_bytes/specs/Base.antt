-- The universe that a base of the program stands for.
use Rattle.std.specs.Prelude.{List, [], ◌++◌, filter, find, map, Option, None, Some}
use Rattle.std.specs.List.{flat_map}
use Rattle.account_cell.specs.Account.{account_fields, account_queue, research_of}
use Rattle.account_cell.specs.declared.account.Account.{Account}
use Rattle.base_bytes.specs.declared.base.Base.{Base}
use Rattle.base_ids.specs.Cells.{same_coord, same_player}
use Rattle.base_ids.specs.declared.cell_id.CellId.{CellId}
use Rattle.base_ids.specs.declared.cell_id.CellId.TheVariants.{Account as AccountId, Planet as PlanetId}
use Rattle.planet_cell.specs.Planet.{batches_of, buildings_of, fields_of, queue_of}
use Rattle.planet_cell.specs.declared.planet.Planet.{Planet}
use Rattle.tick_model.specs.Universe.{Fleet, Item, Own, of_nothing, of_account, of_planet, Setting, Universe}
use Rattle.tick_model.specs.Views.{View, belongs}

-- the names of the cells: the accounts, then the planets, each in their order
abbrev pub cells_of : List Account → List Planet → List CellId
cells_of accounts planets = map (λ account. AccountId account.player) accounts ++ map (λ planet. PlanetId planet.at) planets

-- the rules of a base, and the directory of its cells
abbrev pub setting_of : Base → Setting
setting_of base =
    record {
      rules = record { seed = base.seed; speed = base.speed; speed_from = base.speed_from; speed_to = base.speed_to };
      cells = cells_of base.accounts.items base.planets.items;
    }

abbrev pub own_account : Option Account → Own
own_account None = of_nothing
own_account (Some account) = of_account (account_fields account)

abbrev pub own_planet : Option Planet → Own
own_planet None = of_nothing
own_planet (Some planet) = of_planet (fields_of planet)

-- what each cell has of its own: what the lists have under its name
abbrev pub own_of : List Account → List Planet → CellId → Own
own_of accounts planets (AccountId player) = own_account (find (λ account. same_player account.player player) accounts)
own_of accounts planets (PlanetId at) = own_planet (find (λ planet. same_coord planet.at at) planets)

-- the items of the queues of a planet
abbrev pub planet_items : Planet → List Item
planet_items planet = buildings_of planet ++ batches_of planet

-- the items of all queues
abbrev pub all_items : List Account → List Planet → List Item
all_items accounts planets = flat_map research_of accounts ++ flat_map planet_items planets

-- the universe of a base
abbrev pub universe_of : Base → Universe
universe_of base =
    record {
      setting = setting_of base;
      moment = base.moment;
      state =
          record {
            number = base.number;
            own = own_of base.accounts.items base.planets.items;
            items = all_items base.accounts.items base.planets.items;
            fleets = base.fleets;
          };
    }

-- the fleets that belong to a cell, in the order of their numbers, among all those of the universe
abbrev pub fleets_of : CellId → List Fleet → List Fleet
fleets_of cell fleets = filter (belongs cell) fleets

-- what is seen of an account
abbrev pub account_seen : List Fleet → Account → View
account_seen fleets account =
    record {
      own = of_account (account_fields account);
      queue = account_queue account;
      fleets = fleets_of (AccountId account.player) fleets;
      planets = account.planets.items;
      units = account.units;
    }

-- what is seen of a planet
abbrev pub planet_seen : List Fleet → Planet → View
planet_seen fleets planet =
    record {
      own = of_planet (fields_of planet);
      queue = queue_of planet;
      fleets = fleets_of (PlanetId planet.at) fleets;
      planets = [];
      units = 0;
    }
