-- Cells that were brought to a moment. Rule: docs/RULES.md, "Time and order".
use Rattle.std.specs.Prelude.{◌≡◌, ℕ, IfSome}
use Rattle.base_ids.specs.declared.cell_id.CellId.{CellId}
use Rattle.laziness.specs.Stamps.{Stamps, brought}
use Rattle.happenings.specs.Held.{Shows, held_at, holds}
use Rattle.happenings.specs.declared.held.Held.{Held}
use Rattle.tick_model.specs.Game.{game}
use Rattle.tick_model.specs.Universe.{Setting}
use Rattle.tick_model.specs.declared.rules.Rules.{Rules}
use Rattle.lazy.specs.Planning.{CanAdvance}

-- Whatever universe of these rules the cells showed, if they could be brought to the moment in it, they now show it with these
-- cells brought there, through their events.
abbrev pub AdvancesIn : Rules → Held → ℕ → Held → Type 0
AdvancesIn kept held moment after =
    (setting : Setting) (f : Stamps (game setting)) → CanAdvance setting kept held moment f → Shows setting after (brought (game setting) (holds held) moment f)

-- every cell that is held stands at a moment
abbrev pub StandAt : ℕ → Held → Type 0
StandAt moment held = (cell : CellId) → IfSome (held_at held cell) (λ stand. stand.second ≡ moment)
