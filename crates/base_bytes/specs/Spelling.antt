-- The bytes of a base. Numbers stand with their most significant byte first. Rule: docs/FORMATS.md, "Bases".
use Rattle.std.specs.Prelude.{ℕ, Bool, List, [], ◌∷◌, codes, length, true, false}
use Rattle.std.specs.Int.{cast_unsigned, w16}
use Rattle.std.specs.List.{flat_map}
use Rattle.account_cell.specs.declared.account.Account.{Account}
use Rattle.account_cell.specs.declared.research_item.ResearchItem.{ResearchItem}
use Rattle.base_bytes.specs.declared.base.Base.{Base}
use Rattle.base_ids.specs.declared.coord.Coord.{Coord}
use Rattle.catalog.specs.Kinds.{kind_number}
use Rattle.catalog.specs.Missions.{mission_number}
use Rattle.planet_cell.specs.declared.batch.Batch.{Batch}
use Rattle.planet_cell.specs.declared.building_item.BuildingItem.{BuildingItem}
use Rattle.planet_cell.specs.declared.planet.Planet.{Planet}
use Rattle.records.specs.Columns.{place_of}
use Rattle.records.specs.Entries.{u8, u16, u32, u64, joined, load_bytes, place_bytes}
use Rattle.records.specs.declared.fields.Load.{Load}
use Rattle.tick_model.specs.Universe.{Fleet}

abbrev pub coord_bytes : Coord → List ℕ
coord_bytes at = place_bytes (place_of at)

-- the 22 bytes of a technology in a queue
abbrev pub research_bytes : ResearchItem → List ℕ
research_bytes item =
    joined (u64 item.number ∷ u8 (kind_number item.kind.kind) ∷ coord_bytes item.at ∷ u8 item.level ∷ u64 item.second ∷ [])

-- An account: whose it is, its levels, how many units it has, and its research queue.
abbrev pub account_bytes : Account → List ℕ
account_bytes account =
    joined (u32 account.player.k ∷ account.techs.n ∷ u32 account.units
    ∷ u8 (length account.research.items) ∷ flat_map research_bytes account.research.items ∷ [])

-- the 18 bytes of a building in a queue
abbrev pub building_bytes : BuildingItem → List ℕ
building_bytes item = joined (u64 item.number ∷ u8 (kind_number item.kind.kind) ∷ u8 item.level ∷ u64 item.second ∷ [])

-- the 29 bytes of a batch
abbrev pub batch_bytes : Batch → List ℕ
batch_bytes batch =
    joined (u64 batch.number ∷ u8 (kind_number batch.kind.kind) ∷ u32 batch.left ∷ u64 batch.unit_seconds ∷ u64 batch.second ∷ [])

-- What a planet is: where it stands, whose it is, its temperature and its fields, its levels and its tenths.
abbrev pub ground_bytes : Planet → List ℕ
ground_bytes planet =
    joined (coord_bytes planet.at ∷ u32 planet.owner.k ∷ u16 (cast_unsigned w16 planet.temperature) ∷ u16 planet.fields
    ∷ planet.levels ∷ planet.tenths ∷ [])

-- what stands there: its stocks in grains, the debris around it, and its units
abbrev pub goods_bytes : Planet → List ℕ
goods_bytes planet =
    joined (u64 planet.stock.metal ∷ u64 planet.stock.crystal ∷ u64 planet.stock.deuterium
    ∷ u64 planet.debris.metal ∷ u64 planet.debris.crystal ∷ flat_map u32 planet.units ∷ [])

-- what it builds: its building queue and its yard
abbrev pub works_bytes : Planet → List ℕ
works_bytes planet =
    joined (u8 (length planet.buildings.items) ∷ flat_map building_bytes planet.buildings.items
    ∷ u8 (length planet.yard.items) ∷ flat_map batch_bytes planet.yard.items ∷ [])

abbrev pub planet_bytes : Planet → List ℕ
planet_bytes planet = joined (ground_bytes planet ∷ goods_bytes planet ∷ works_bytes planet ∷ [])

-- out, or back
abbrev pub stage_number : Bool → ℕ
stage_number true = 1
stage_number false = 2

-- who flies in which group, and from where to where
abbrev pub flight_bytes : Fleet → List ℕ
flight_bytes fleet =
    joined (u64 fleet.number ∷ u64 fleet.group ∷ u32 fleet.owner.k ∷ u8 (mission_number fleet.mission) ∷ u8 (stage_number fleet.outbound)
    ∷ coord_bytes fleet.origin ∷ coord_bytes fleet.target ∷ [])

-- how fast it flies, when it was sent, and when it arrives or is back
abbrev pub timing_bytes : Fleet → List ℕ
timing_bytes fleet = joined (u8 fleet.setting ∷ u64 fleet.launch ∷ u64 fleet.second ∷ [])

-- its cargo, and a count for each kind of ship that flies
abbrev pub load_of : Fleet → Load
load_of fleet = record { metal = fleet.cargo.metal; crystal = fleet.cargo.crystal; deuterium = fleet.cargo.deuterium; ships = fleet.ships }

abbrev pub fleet_bytes : Fleet → List ℕ
fleet_bytes fleet = joined (flight_bytes fleet ∷ timing_bytes fleet ∷ load_bytes (load_of fleet) ∷ [])

-- the first 40 bytes: the mark, the rules, and the second at which the base stands
abbrev pub rules_bytes : Base → List ℕ
rules_bytes base = joined (codes "OGBASE01" ∷ u64 base.seed ∷ u32 base.speed ∷ u32 base.capacity ∷ u64 base.moment ∷ u64 base.number ∷ [])

-- the next 12: how many accounts, planets and fleets follow
abbrev pub counts_bytes : Base → List ℕ
counts_bytes base = joined (u32 (length base.accounts.items) ∷ u32 (length base.planets.items) ∷ u32 (length base.fleets) ∷ [])

-- the bytes that spell a base
unfoldable pub base_spelling : Base → List ℕ
base_spelling base =
    joined (rules_bytes base ∷ counts_bytes base ∷ flat_map account_bytes base.accounts.items
    ∷ flat_map planet_bytes base.planets.items ∷ flat_map fleet_bytes base.fleets ∷ [])
