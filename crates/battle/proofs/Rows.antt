-- The table of rapid fire holds the rapid fire of the rules.
use Rattle.std.proofs.Common.{◌≡◌, ℕ, [], get_or, refl}
use Rattle.catalog.specs.RapidFire.{battlecruiser_fire, bomber_fire, common_fire, cruiser_fire, deathstar_fire, destroyer_fire, heavy_fighter_fire, rapid_of}
use Rattle.catalog.specs.declared.kind.Kind.{Kind}
use Rattle.catalog.specs.declared.kind.Kind.TheVariants.{SmallCargo, LargeCargo, LightFighter, HeavyFighter, Cruiser, Battleship, Battlecruiser, Bomber, Destroyer, Deathstar, Recycler, ColonyShip}
use Rattle.battle.specs.declared.rapid_fire.TheConstants.{RAPID_FIRE}
use Rattle.battle.specs.Columns.{column_of}

-- a cell of the table
abbrev cell : ℕ → ℕ → ℕ
cell row column = get_or (get_or RAPID_FIRE row []) column 0

common_row : (to : Kind) → cell 0 (column_of to) ≡ common_fire to
common_row SmallCargo = refl
common_row _ = refl

heavy_fighter_row : (to : Kind) → cell 3 (column_of to) ≡ heavy_fighter_fire to
heavy_fighter_row SmallCargo = refl
heavy_fighter_row _ = refl

cruiser_row : (to : Kind) → cell 4 (column_of to) ≡ cruiser_fire to
cruiser_row SmallCargo = refl
cruiser_row _ = refl

battlecruiser_row : (to : Kind) → cell 6 (column_of to) ≡ battlecruiser_fire to
battlecruiser_row SmallCargo = refl
battlecruiser_row _ = refl

bomber_row : (to : Kind) → cell 7 (column_of to) ≡ bomber_fire to
bomber_row SmallCargo = refl
bomber_row _ = refl

destroyer_row : (to : Kind) → cell 8 (column_of to) ≡ destroyer_fire to
destroyer_row SmallCargo = refl
destroyer_row _ = refl

deathstar_row : (to : Kind) → cell 9 (column_of to) ≡ deathstar_fire to
deathstar_row SmallCargo = refl
deathstar_row _ = refl

no_row : (to : Kind) → cell 12 (column_of to) ≡ 0
no_row SmallCargo = refl
no_row _ = refl

-- each cell is the rapid fire of its row's kind against its column's
pub cell_is : (from to : Kind) → cell (column_of from) (column_of to) ≡ rapid_of from to
cell_is SmallCargo to = common_row to
cell_is LargeCargo to = common_row to
cell_is LightFighter to = common_row to
cell_is HeavyFighter to = heavy_fighter_row to
cell_is Cruiser to = cruiser_row to
cell_is Battleship to = common_row to
cell_is Battlecruiser to = battlecruiser_row to
cell_is Bomber to = bomber_row to
cell_is Destroyer to = destroyer_row to
cell_is Deathstar to = deathstar_row to
cell_is Recycler to = common_row to
cell_is ColonyShip to = common_row to
cell_is _ to = no_row to
