-- The universe that ticks second by second through a history. Rule: docs/RULES.md, "Time and order".
use Rattle.std.specs.Prelude.{ℕ, List}
use Rattle.request_text.specs.declared.entry.Entry.{Entry}
use Rattle.reply_text.specs.declared.reply.Reply.{Reply}
use Rattle.laziness.specs.World.{Base, world as world_of, world_reply}
use Rattle.tick_model.specs.Game.{game}
use Rattle.tick_model.specs.Universe.{Universe}

-- a universe as a base of histories
abbrev pub base_of : (universe : Universe) → Base (game universe.setting)
base_of universe = record { moment = universe.moment; universe = universe.state }

-- The universe at a moment, from the base's moment on: the base's own second has the entries of its moment; each further second
-- passes, and then the entries of its moment act. (laziness/specs/World and Second)
abbrev pub world : Universe → List Entry → ℕ → Universe
world base history moment =
    record { setting = base.setting; moment = moment; state = world_of (game base.setting) (base_of base) history moment }

-- the reply to an entry, in the world of the entries before it at its own moment
abbrev pub reply : Universe → List Entry → Entry → Reply
reply base before entry = world_reply (game base.setting) (base_of base) before entry
