-- What a planet of the program stands for.
use Rattle.std.specs.Prelude.{◌≡◌, List, [], map}
use Rattle.base_ids.specs.declared.cell_id.CellId.TheVariants.{Planet as PlanetId}
use Rattle.base_ids.specs.declared.coord.Coord.{Coord}
use Rattle.planet_cell.specs.declared.batch.Batch.{Batch}
use Rattle.planet_cell.specs.declared.building_item.BuildingItem.{BuildingItem}
use Rattle.planet_cell.specs.declared.planet.Planet.{Planet}
use Rattle.tick_model.specs.Universe.{Buildings, Item, PlanetFields, QueueClass, Researches, Yard}

-- what a planet has of its own
abbrev pub fields_of : Planet → PlanetFields
fields_of planet =
    record {
      owner = planet.owner;
      temperature = planet.temperature;
      fields = planet.fields;
      levels = planet.levels;
      tenths = planet.tenths;
      stock = planet.stock;
      debris = planet.debris;
      units = planet.units;
    }

-- an item of the building queue of the planet at a place
abbrev pub item_of : Coord → BuildingItem → Item
item_of at item =
    record {
      number = item.number;
      cell = PlanetId at;
      class = Buildings;
      kind = item.kind.kind;
      place = at;
      level = item.level;
      left = 0;
      unit_seconds = 0;
      second = item.second;
    }

-- the building queue of a planet
abbrev pub buildings_of : Planet → List Item
buildings_of planet = map (item_of planet.at) planet.buildings.items

-- a batch of the yard of the planet at a place
abbrev pub batch_item_of : Coord → Batch → Item
batch_item_of at batch =
    record {
      number = batch.number;
      cell = PlanetId at;
      class = Yard;
      kind = batch.kind.kind;
      place = at;
      level = 0;
      left = batch.left;
      unit_seconds = batch.unit_seconds;
      second = batch.second;
    }

-- the yard of a planet
abbrev pub batches_of : Planet → List Item
batches_of planet = map (batch_item_of planet.at) planet.yard.items

-- the queues of a planet
abbrev pub queue_of : Planet → QueueClass → List Item
queue_of planet Buildings = buildings_of planet
queue_of planet Researches = []
queue_of planet Yard = batches_of planet

-- Two planets are the same: they stand at the same place, have the same of their own, and build the same.
pub record AreSame (first second : Planet) : Type 0 where
  pub at : first.at ≡ second.at
  pub fields : fields_of first ≡ fields_of second
  pub buildings : first.buildings.items ≡ second.buildings.items
  pub yard : first.yard.items ≡ second.yard.items
