-- The lines that show an account; those of its research queue are in QueueLines.
use Rattle.std.specs.Prelude.{ℕ, List, [], ◌∷◌, codes}
use Rattle.std.specs.Fmt.{decimal}
use Rattle.base_ids.specs.Text.{coord_text, player_text}
use Rattle.base_ids.specs.declared.coord.Coord.{Coord}
use Rattle.catalog.specs.declared.classes.TheConstants.{TECHNOLOGIES}
use Rattle.reply_text.specs.Words.{kind_lines, line}
use Rattle.reply_text.specs.declared.account_lines.AccountHead.{AccountHead}

-- `account K UNITS FLEETS SLOTS`
abbrev pub account_line : AccountHead → List ℕ
account_line account =
    line (codes "account" ∷ player_text account.player ∷ decimal account.units ∷ decimal account.fleets ∷ decimal account.slots ∷ [])

-- `tech TECH LEVEL` for each technology above 0, in the order of TECHNOLOGIES
abbrev pub tech_lines : List ℕ → List ℕ
tech_lines levels = kind_lines (codes "tech") 0 TECHNOLOGIES levels

-- `planet C`: a planet of the account
abbrev pub own_planet_line : Coord → List ℕ
own_planet_line at = line (codes "planet" ∷ coord_text at ∷ [])
