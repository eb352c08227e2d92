-- The classes of kinds, each from its first kind to its last. Rule: docs/RULES.md, "Kinds and costs".
use Rattle.std.specs.Prelude.{Bool, nat_le, ◌==◌, ◌&&◌, ◌||◌}
use Rattle.catalog.specs.Kinds.{kind_number}
use Rattle.catalog.specs.declared.kind.Kind.{Kind}
use Rattle.catalog.specs.declared.kind.Kind.TheVariants.{MetalMine, SolarPlant, Nanite, Energy, Graviton, SmallCargo, Probe, Satellite, LargeDome}

-- a kind is one of those from a first to a last, by number
abbrev pub is_among : Kind → Kind → Kind → Bool
is_among first last kind = nat_le (kind_number first) (kind_number kind) && nat_le (kind_number kind) (kind_number last)

abbrev pub is_building : Kind → Bool
is_building kind = is_among MetalMine Nanite kind

abbrev pub is_technology : Kind → Bool
is_technology kind = is_among Energy Graviton kind

-- a ship that flies
abbrev pub is_ship : Kind → Bool
is_ship kind = is_among SmallCargo Probe kind

-- a ship, the satellite or a defence
abbrev pub is_unit : Kind → Bool
is_unit kind = is_among SmallCargo LargeDome kind

-- a mine, the solar plant or the satellite
abbrev pub is_work : Kind → Bool
is_work kind = is_among MetalMine SolarPlant kind || kind_number kind == kind_number Satellite
