-- The lines that show fleets, and the planets of a system.
use Rattle.std.specs.Prelude.{ℕ, List, [], ◌∷◌, ◌++◌, codes}
use Rattle.std.specs.Fmt.{decimal}
use Rattle.base_ids.specs.Text.{coord_text, player_text}
use Rattle.base_ids.specs.declared.coord.Coord.{Coord}
use Rattle.base_ids.specs.declared.player.Player.{Player}
use Rattle.catalog.specs.Missions.{mission_word}
use Rattle.catalog.specs.Texts.{ships_text}
use Rattle.reply_text.specs.Units.{units_text}
use Rattle.reply_text.specs.Words.{line}
use Rattle.reply_text.specs.declared.fleet_lines.FleetLine.{FleetLine}
use Rattle.reply_text.specs.declared.fleet_lines.Stage.{Stage}
use Rattle.reply_text.specs.declared.fleet_lines.Stage.TheVariants.{Out, Back}

-- the word of a stage
abbrev pub stage_word : Stage → List ℕ
stage_word Out = codes "out"
stage_word Back = codes "back"

-- F GROUP MISSION A B: which fleet it is, and what it is sent for
abbrev pub course_words : FleetLine → List (List ℕ)
course_words fleet =
    decimal fleet.number ∷ decimal fleet.group ∷ mission_word fleet.mission ∷ coord_text fleet.from ∷ coord_text fleet.to ∷ []

-- STAGE SECOND METAL CRYSTAL DEUTERIUM SHIPS: how far it is, and what it has on board
abbrev pub state_words : FleetLine → List (List ℕ)
state_words fleet = stage_word fleet.stage ∷ decimal fleet.second ∷ units_text fleet.cargo ∷ ships_text fleet.ships ∷ []

-- `fleet F GROUP MISSION A B STAGE SECOND METAL CRYSTAL DEUTERIUM SHIPS`
abbrev pub fleet_line : FleetLine → List ℕ
fleet_line fleet = line (codes "fleet" ∷ course_words fleet ++ state_words fleet)

-- `at C K METAL CRYSTAL`: a planet of a system, with the metal and crystal of its debris
abbrev pub at_line : Coord → Player → ℕ → ℕ → List ℕ
at_line at owner metal crystal = line (codes "at" ∷ coord_text at ∷ player_text owner ∷ decimal metal ∷ decimal crystal ∷ [])
