-- How players and coordinates are written. Rule: docs/PROTOCOL.md, "Lines, words, numbers".
use Rattle.std.specs.Prelude.{ℕ, List, ◌++◌, codes}
use Rattle.std.specs.Fmt.{decimal}
use Rattle.base_ids.specs.declared.coord.Coord.{Coord}
use Rattle.base_ids.specs.declared.player.Player.{Player}
use Rattle.base_ids.specs.declared.system.System.{System}

-- a player is written as its number
abbrev pub player_text : Player → List ℕ
player_text player = decimal player.k

-- a coordinate is written G:S:P
abbrev pub coord_text : Coord → List ℕ
coord_text at = decimal at.g ++ codes ":" ++ decimal at.s ++ codes ":" ++ decimal at.p

-- a system is written G:S
abbrev pub system_text : System → List ℕ
system_text system = decimal system.g ++ codes ":" ++ decimal system.s
