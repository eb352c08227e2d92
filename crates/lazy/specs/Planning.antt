-- Cells that are brought to a moment, and a request that acts on them there, whatever the cells are that aren't held.
use Rattle.std.specs.Prelude.{◌≡◌, ℕ, ◌+◌, true}
use Rattle.base_ids.specs.declared.cell_id.CellId.{CellId}
use Rattle.base_ids.specs.declared.player.Player.{Player}
use Rattle.request_text.specs.declared.entry.Entry.{Entry}
use Rattle.request_text.specs.declared.request.Request.{Request}
use Rattle.reply_text.specs.declared.reply.Reply.{Reply}
use Rattle.laziness.specs.Stamps.{Stamps, brought, request_acts}
use Rattle.laziness.specs.Theorems.{CanBring}
use Rattle.closure.specs.Directory.{cells_of}
use Rattle.closure.specs.declared.places.Places.{Places}
use Rattle.happenings.specs.Held.{IsNamed, Shows, holds}
use Rattle.happenings.specs.declared.held.Held.{Held}
use Rattle.tick_model.specs.Game.{game}
use Rattle.tick_model.specs.Requests.{asked}
use Rattle.tick_model.specs.Step.{step}
use Rattle.tick_model.specs.Universe.{Setting}
use Rattle.tick_model.specs.Views.{view}
use Rattle.tick_model.specs.declared.rules.Rules.{Rules}

-- The cells that are held show a universe of these rules, in which they can be brought to a moment.
pub record CanAdvance (setting : Setting) (kept : Rules) (held : Held) (moment : ℕ) (f : Stamps (game setting)) : Type 0 where
  pub rules : setting.rules ≡ kept
  pub shows : Shows setting held f
  pub can_bring : CanBring (game setting) (holds held) moment f

-- Besides, they have all that a request asks for, by the directory.
pub record CanAnswer (setting : Setting) (kept : Rules) (places : Places) (held : Held) (player : Player) (req : Request) (moment : ℕ) (f : Stamps (game setting)) : Type 0 where
  pub advance : CanAdvance setting kept held moment f
  pub directory : setting.cells ≡ cells_of places
  pub covers : (cell : CellId) → asked setting.cells (view setting.cells f.universe) player req cell ≡ true → holds held cell ≡ true

-- the same cells are held
abbrev pub HoldsSame : Held → Held → Type 0
HoldsSame old new = (cell : CellId) → holds new cell ≡ holds old cell

-- After a request with the next number the cells show the universe in which it acted, and the reply is the one that it has there.
pub record IsAnswered (setting : Setting) (held : Held) (player : Player) (req : Request) (moment number : ℕ) (f : Stamps (game setting)) (after : Held) (reply : Reply) : Type 0 where
  pub same : HoldsSame held after
  pub named : IsNamed after
  pub shows : (entry : Entry) → entry.player ≡ player → entry.req ≡ req → number ≡ f.universe.number + 1 → Shows setting after (request_acts (game setting) (holds held) moment entry f)
  pub replied : number ≡ f.universe.number + 1
      → reply ≡ (step setting player req moment (brought (game setting) (holds held) moment f).universe).reply
