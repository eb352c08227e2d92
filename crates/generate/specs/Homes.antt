-- The players of a generated universe and their planets. Rule: docs/FORMATS.md, "The generated text".
use Rattle.std.specs.Prelude.{ℕ, ◌+◌, ◌==◌, List, ◌++◌, codes, if◌then◌else◌}
use Rattle.std.specs.Fmt.{decimal}
use Rattle.rand_pcg.specs.Lcg.{Lcg}
use Rattle.generate.specs.Drawing.{drawn}

-- a planet of a player stands in galaxy 1, in the system that has the player's number
abbrev pub home_text : ℕ → ℕ → List ℕ
home_text player position = decimal 1 ++ codes ":" ++ decimal player ++ codes ":" ++ decimal position

-- that system
abbrev pub system_of : ℕ → List ℕ
system_of player = decimal 1 ++ codes ":" ++ decimal player

-- the next two words draw a planet: first its player, then its position
abbrev pub drawn_player : Lcg → ℕ
drawn_player stream = 1 + drawn stream 0 50

abbrev pub drawn_position : Lcg → ℕ
drawn_position stream = if drawn stream 1 2 == 0 then 4 else 8

abbrev pub drawn_home : Lcg → List ℕ
drawn_home stream = home_text (drawn_player stream) (drawn_position stream)
