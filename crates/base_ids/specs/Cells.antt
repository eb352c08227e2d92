-- Which cell is which.
use Rattle.std.specs.Prelude.{Bool, false, ◌==◌, ◌&&◌}
use Rattle.base_ids.specs.declared.coord.Coord.{Coord}
use Rattle.base_ids.specs.declared.player.Player.{Player}
use Rattle.base_ids.specs.declared.cell_id.CellId.{CellId}
use Rattle.base_ids.specs.declared.cell_id.CellId.TheVariants.{Account, Planet}

-- the same player
abbrev pub same_player : Player → Player → Bool
same_player a b = a.k == b.k

-- the same place
abbrev pub same_coord : Coord → Coord → Bool
same_coord a b = a.g == b.g && a.s == b.s && a.p == b.p

-- the same cell
abbrev pub same_cell : CellId → CellId → Bool
same_cell (Account a) (Account b) = same_player a b
same_cell (Planet a) (Planet b) = same_coord a b
same_cell (Account a) (Planet b) = false
same_cell (Planet a) (Account b) = false
