-- The lines that show a planet, in their order. Rule: docs/PROTOCOL.md, "The lines of a planet".
use Rattle.std.specs.Prelude.{ℕ, List, [], ◌∷◌, codes}
use Rattle.std.specs.Fmt.{decimal, signed_decimal}
use Rattle.base_ids.specs.Text.{coord_text, player_text}
use Rattle.catalog.specs.declared.classes.TheConstants.{BUILDINGS, UNIT_KINDS, WORKS}
use Rattle.reply_text.specs.Units.{units_text}
use Rattle.reply_text.specs.Words.{kind_lines, line}
use Rattle.reply_text.specs.declared.planet_lines.PlanetHead.{PlanetHead}
use Rattle.reply_text.specs.declared.units.Units.{Units}

-- `planet C K TEMPERATURE FIELDS USED`
abbrev pub planet_line : PlanetHead → List ℕ
planet_line planet =
    line (codes "planet" ∷ coord_text planet.at ∷ player_text planet.owner ∷ signed_decimal planet.temperature ∷ decimal planet.fields ∷ decimal planet.used ∷ [])

-- NAME METAL CRYSTAL DEUTERIUM
abbrev pub amounts_line : List ℕ → Units → List ℕ
amounts_line name units = line (name ∷ units_text units ∷ [])

-- `stock METAL CRYSTAL DEUTERIUM`: what the planet has
abbrev pub stock_line : Units → List ℕ
stock_line units = amounts_line (codes "stock") units

-- `hourly METAL CRYSTAL DEUTERIUM`: what it yields an hour
abbrev pub hourly_line : Units → List ℕ
hourly_line units = amounts_line (codes "hourly") units

-- `limit METAL CRYSTAL DEUTERIUM`: the units up to which production fills its stocks
abbrev pub limit_line : Units → List ℕ
limit_line units = amounts_line (codes "limit") units

-- `energy GIVEN NEED`
abbrev pub energy_line : ℕ → ℕ → List ℕ
energy_line given need = line (codes "energy" ∷ decimal given ∷ decimal need ∷ [])

-- `debris METAL CRYSTAL`
abbrev pub debris_line : ℕ → ℕ → List ℕ
debris_line metal crystal = line (codes "debris" ∷ decimal metal ∷ decimal crystal ∷ [])

-- `level BUILDING LEVEL` for each building above 0, in the order of BUILDINGS
abbrev pub level_lines : List ℕ → List ℕ
level_lines levels = kind_lines (codes "level") 0 BUILDINGS levels

-- `set WORK TENTHS` for each setting other than 10, in the order of WORKS
abbrev pub set_lines : List ℕ → List ℕ
set_lines settings = kind_lines (codes "set") 10 WORKS settings

-- `units UNIT COUNT` for each ship and defence above 0, in the order of UNIT_KINDS
abbrev pub unit_lines : List ℕ → List ℕ
unit_lines counts = kind_lines (codes "units") 0 UNIT_KINDS counts
