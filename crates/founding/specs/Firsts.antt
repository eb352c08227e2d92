-- What a player and a planet have when they are founded. Rule: docs/RULES.md, "The founding".
use Rattle.std.specs.Prelude.{◌*◌, length, replicate}
use Rattle.catalog.specs.declared.classes.TheConstants.{BUILDINGS, TECHNOLOGIES, UNIT_KINDS, WORKS}
use Rattle.rates.specs.declared.resources.Resources.{Resources}
use Rattle.rates.specs.declared.stock.TheConstants.{GRAINS}
use Rattle.tick_model.specs.Universe.{AccountFields, PlanetFields}
use Rattle.founding.specs.declared.named.TheConstants.{FIRST_UNITS}
use Rattle.founding.specs.declared.named.NewPlanet.{NewPlanet}

-- the first units of metal and of crystal, and no deuterium
abbrev pub first_stock : Resources
first_stock = record { metal = FIRST_UNITS * GRAINS; crystal = FIRST_UNITS * GRAINS; deuterium = 0 }

-- a planet without buildings and units, whose works run at ten tenths
abbrev pub first_fields : NewPlanet → PlanetFields
first_fields planet =
    record {
      owner = planet.owner;
      temperature = planet.temperature;
      fields = planet.fields;
      levels = replicate (length BUILDINGS) 0;
      tenths = replicate (length WORKS) 10;
      stock = first_stock;
      debris = record { metal = 0; crystal = 0 };
      units = replicate (length UNIT_KINDS) 0;
    }

-- an account without technologies
abbrev pub first_account : AccountFields
first_account = record { techs = record { n = replicate (length TECHNOLOGIES) 0 } }
