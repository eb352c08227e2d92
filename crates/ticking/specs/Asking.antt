-- What it is for a universe that ticks to stand for a history, and to be asked. Rule: docs/RULES.md, "Time and order".
use Rattle.std.specs.Prelude.{◌≡◌, ℕ, ◌≤◌, max, List, [], ◌∷◌, ◌++◌}
use Rattle.base_ids.specs.declared.player.Player.{Player}
use Rattle.request_text.specs.declared.entry.Entry.{Entry}
use Rattle.request_text.specs.declared.request.Request.{Request}
use Rattle.reply_text.specs.declared.reply.Reply.{Reply}
use Rattle.closure.specs.Directory.{cells_of}
use Rattle.tick_model.specs.History.{MayFollow}
use Rattle.tick_model.specs.Keeping.{stamps_text}
use Rattle.tick_model.specs.Standing.{last_moment, last_number}
use Rattle.tick_model.specs.Universe.{Universe}
use Rattle.tick_model.specs.World.{reply as reply_of}
use Rattle.ticking.specs.Standing.{AreWorld, ticking_at}
use Rattle.ticking.specs.declared.universe.TickingUniverse.{TickingUniverse}

-- A universe stands for a legal history from a base: it has the base's rules and directory and the number of the last entry, and
-- every cell is at the universe's moment as the universe that ticks has it then.
pub record StandsFor (base : Universe) (history : List Entry) (ticking : TickingUniverse) : Type 0 where
  pub cells_are : AreWorld base history ticking.rules ticking.moment ticking.cells
  pub directory : base.setting.cells ≡ cells_of ticking.places
  pub number : ticking.number ≡ last_number base.state.number history

-- it stands for some history
abbrev pub StandsForSome : TickingUniverse → Type 0
StandsForSome ticking = (base : Universe) × (history : List Entry) × StandsFor base history ticking

-- Seconds have passed, and nothing was asked: for whatever history the universe stood, it still does, at another moment.
pub record TicksTo (old new : TickingUniverse) (moment : ℕ) : Type 0 where
  pub moment_is : new.moment ≡ moment
  pub stands : (base : Universe) (history : List Entry) → StandsFor base history old → StandsFor base history new

-- A universe stands for a history, and didn't tick further than to the moment at which a request at this reading would act.
pub record IsInTime (base : Universe) (history : List Entry) (ticking : TickingUniverse) (reading : ℕ) : Type 0 where
  pub stands : StandsFor base history ticking
  pub not_past : ticking.moment ≤ max reading (last_moment base.moment history)

-- so a request can be asked at this reading
abbrev pub CanAsk : TickingUniverse → ℕ → Type 0
CanAsk ticking reading = (base : Universe) × (history : List Entry) × IsInTime base history ticking reading

-- a universe stands for some history, at the moment of its last request
abbrev pub StandsAtLast : TickingUniverse → Type 0
StandsAtLast ticking = (base : Universe) × (history : List Entry) × StandsFor base history ticking × (ticking.moment ≡ last_moment base.moment history)

-- A request that was asked at a reading is the next entry of the history, at whose moment the universe now stands; and the reply
-- is that entry's in the universe that ticks.
pub record Continues (base : Universe) (history : List Entry) (new : TickingUniverse) (player : Player) (req : Request) (reading : ℕ) (reply : Reply) : Type 0 where
  pub entry : Entry
  pub follows : MayFollow (last_number base.state.number history) (last_moment base.moment history) entry
  pub reading_is : entry.reading ≡ reading
  pub player_is : entry.player ≡ player
  pub req_is : entry.req ≡ req
  pub stands : StandsFor base (history ++ entry ∷ []) new
  pub moment_is : new.moment ≡ entry.moment
  pub replied : reply ≡ reply_of base history entry

-- A universe was asked: for whatever history it stood, it stands for that history with one entry more.
abbrev pub Asks : TickingUniverse → TickingUniverse → Player → Request → ℕ → Reply → Type 0
Asks old new player req reading reply =
    (base : Universe) (history : List Entry) → IsInTime base history old reading → Continues base history new player req reading reply

-- the text of all cells of the universe that ticks at a moment, and a line `.`
abbrev pub moment_text : Universe → List Entry → ℕ → List ℕ
moment_text base history moment = stamps_text base.setting (ticking_at base history moment)
