-- How fleets fly, and what they bring to a planet. Rules: docs/RULES.md, "Fleets".
use Rattle.std.specs.Prelude.{ℕ, ◌+◌, ◌-◌, ◌*◌, List, [], ◌∷◌, false, Option, None, Some, max, min, if◌then◌else◌, slice_index}
use Rattle.base_ids.specs.declared.coord.Coord.{Coord}
use Rattle.catalog.specs.Kinds.{place_in}
use Rattle.catalog.specs.declared.amounts.TheConstants.{CAP}
use Rattle.catalog.specs.declared.kind.Kind.TheVariants.{Recycler}
use Rattle.catalog.specs.declared.ships.TheConstants.{SHIPS}
use Rattle.catalog.specs.declared.mission.Mission.{Mission}
use Rattle.catalog.specs.declared.mission.Mission.TheVariants.{Transport, Deploy, Harvest, Attack}
use Rattle.flight.specs.Freight.{capacity_of}
use Rattle.rates.specs.declared.resources.Resources.{Resources}
use Rattle.rates.specs.declared.stock.TheConstants.{GRAINS}
use Rattle.reply_text.specs.declared.units.Units.{Units}
use Rattle.spoils.specs.Harvest.{scraping}
use Rattle.tick_model.specs.declared.debris.TheConstants.{RECYCLER_ROOM}
use Rattle.tick_model.specs.Universe.{Fleet, Own, of_planet, PlanetFields}

-- where a fleet lands: at its target, or on its way back at its origin
abbrev pub landing : Fleet → Coord
landing fleet = if fleet.outbound then fleet.target else fleet.origin

-- nothing on board
abbrev pub no_cargo : Units
no_cargo = record { metal = 0; crystal = 0; deuterium = 0 }

-- a fleet on its way back, to be there at a second
abbrev pub turned : Fleet → ℕ → Units → Fleet
turned fleet second cargo = record fleet { outbound = false; second = second; cargo = cargo }

-- the way back takes as long as the way out
abbrev pub back_at : Fleet → ℕ
back_at fleet = fleet.second + (fleet.second - fleet.launch)

-- a fleet that is recalled at a moment is back after as long as it flew, and no sooner than a second later
abbrev pub recalled_at : Fleet → ℕ → ℕ
recalled_at fleet moment = moment + max 1 (moment - fleet.launch)

-- a stock takes units, up to CAP in all; what goes above is lost
abbrev pub filled : ℕ → ℕ → ℕ
filled grains units = min (grains + GRAINS * units) (GRAINS * CAP)

-- so do the stocks of a planet
unfoldable pub unloaded : Resources → Units → Resources
unloaded stock cargo =
    record {
      metal = filled stock.metal cargo.metal;
      crystal = filled stock.crystal cargo.crystal;
      deuterium = filled stock.deuterium cargo.deuterium;
    }

-- counts of units with so many more of the first kinds
abbrev pub joined_by : List ℕ → List ℕ → List ℕ
joined_by [] ships = []
joined_by (count ∷ counts) [] = count ∷ counts
joined_by (count ∷ counts) (ship ∷ ships) = (count + ship) ∷ joined_by counts ships

-- and with so many fewer
abbrev pub left_by : List ℕ → List ℕ → List ℕ
left_by [] ships = []
left_by (count ∷ counts) [] = count ∷ counts
left_by (count ∷ counts) (ship ∷ ships) = (count - ship) ∷ left_by counts ships

-- a planet takes the cargo of a fleet
unfoldable pub supplied : PlanetFields → Fleet → PlanetFields
supplied planet fleet = record planet { stock = unloaded planet.stock fleet.cargo }

-- and its ships as well
unfoldable pub moored : PlanetFields → Fleet → PlanetFields
moored planet fleet = record planet { stock = unloaded planet.stock fleet.cargo; units = joined_by planet.units fleet.ships }

-- the units of a cargo
abbrev pub cargo_units : Units → ℕ
cargo_units cargo = cargo.metal + cargo.crystal + cargo.deuterium

-- the room that a fleet has free
unfoldable pub free_room : Fleet → ℕ
free_room fleet = capacity_of fleet.ships - cargo_units fleet.cargo

-- the room for a harvest: what is free, but no more than each recycler can fill
unfoldable pub harvest_room : Fleet → ℕ
harvest_room fleet = min (free_room fleet) (RECYCLER_ROOM * slice_index fleet.ships (place_in SHIPS Recycler))

-- what a fleet takes of the debris around a planet
unfoldable pub harvest : PlanetFields → Fleet → Units
harvest planet fleet =
    let steps = scraping (harvest_room fleet) planet.debris.metal planet.debris.crystal in
    record { metal = steps.first_metal + steps.second_metal; crystal = steps.first_crystal; deuterium = 0 }

-- the planet with what is left of its debris
unfoldable pub harvested : PlanetFields → Fleet → PlanetFields
harvested planet fleet =
    let taken = harvest planet fleet in
    record planet { debris = record { metal = planet.debris.metal - taken.metal; crystal = planet.debris.crystal - taken.crystal } }

-- a cargo with another one
abbrev pub both_cargoes : Units → Units → Units
both_cargoes one other = record { metal = one.metal + other.metal; crystal = one.crystal + other.crystal; deuterium = one.deuterium + other.deuterium }

-- what landing makes of the place, and the cargo with which the fleet turns back, if it does
pub record Landed : Type 0 where
  pub own : Own
  pub back : Option Units

-- A fleet that arrives does what it was sent for. A transport leaves its cargo and turns back; a deployed fleet stays; a harvest takes
-- of the debris and turns back. Fleets that attack don't arrive alone: they fight (Battles).
abbrev pub arrived : Mission → Fleet → PlanetFields → Landed
arrived Transport fleet planet = record { own = of_planet (supplied planet fleet); back = Some no_cargo }
arrived Deploy fleet planet = record { own = of_planet (moored planet fleet); back = None }
arrived Harvest fleet planet = record { own = of_planet (harvested planet fleet); back = Some (both_cargoes fleet.cargo (harvest planet fleet)) }
arrived Attack fleet planet = record { own = of_planet planet; back = Some fleet.cargo }

-- A fleet that is back stays at its origin, with its ships and its cargo.
abbrev pub landed : Fleet → Own → Landed
landed fleet (of_planet planet) =
    if fleet.outbound then arrived fleet.mission fleet planet else record { own = of_planet (moored planet fleet); back = None }
landed fleet own = record { own = own; back = None }

-- what becomes of a fleet that has landed
abbrev pub turns : Option Units → Fleet → Option Fleet
turns None fleet = None
turns (Some cargo) fleet = Some (turned fleet (back_at fleet) cargo)
