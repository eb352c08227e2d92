-- The universe that a founding text founds. Rule: docs/RULES.md, "The founding".
use Rattle.std.specs.Prelude.{[], ◌++◌, List, map, Option, None, Some, if◌then◌else◌}
use Rattle.base_ids.specs.declared.cell_id.CellId.{CellId}
use Rattle.base_ids.specs.declared.cell_id.CellId.TheVariants.{Account, Planet}
use Rattle.base_ids.specs.declared.player.Player.{Player}
use Rattle.tick_model.specs.Universe.{AccountFields, Own, of_nothing, of_account, of_planet, Universe}
use Rattle.founding.specs.Drafts.{is_named, planet_at, DraftPlanet, Drafted}

abbrev pub own_planet : Option DraftPlanet → Own
own_planet None = of_nothing
own_planet (Some planet) = of_planet planet.own

-- what each cell has: each player an account, and each place the planet that stands there
abbrev pub first_own : List Player → (Player → AccountFields) → List DraftPlanet → CellId → Own
first_own players owns planets (Account player) = if is_named player players then of_account (owns player) else of_nothing
first_own players owns planets (Planet at) = own_planet (planet_at at planets)

-- It has the accounts of the players and the planets, in their orders, stands at the moment of the heading, and no request
-- has come.
abbrev pub founded : Drafted → Universe
founded draft =
    record {
      setting =
          record {
            rules = draft.heading.rules;
            cells = map Account draft.players ++ map (λ planet. Planet planet.at) draft.planets;
          };
      moment = draft.heading.moment;
      state = record { number = 0; own = first_own draft.players draft.owns draft.planets; items = []; fleets = [] };
    }
