-- What it is for a lazy universe to keep a history, and to be asked. Rule: docs/RULES.md, "Time and order".
use Rattle.std.specs.Prelude.{◌≡◌, ℕ, ◌+◌, max, true, List, [], ◌∷◌, ◌++◌}
use Rattle.base_ids.specs.declared.cell_id.CellId.{CellId}
use Rattle.base_ids.specs.declared.player.Player.{Player}
use Rattle.request_text.specs.declared.entry.Entry.{Entry}
use Rattle.request_text.specs.declared.request.Request.{Request}
use Rattle.reply_text.specs.declared.reply.Reply.{Reply}
use Rattle.closure.specs.Directory.{cells_of}
use Rattle.happenings.specs.Held.{IsNamed, Shows, holds}
use Rattle.tick_model.specs.History.{IsLegal, MayFollow}
use Rattle.tick_model.specs.Keeping.{IsFounded, lazily_at, touched_at}
use Rattle.tick_model.specs.Requests.{is_listed}
use Rattle.tick_model.specs.Standing.{last_moment, last_number}
use Rattle.tick_model.specs.Universe.{Universe}
use Rattle.tick_model.specs.World.{reply as reply_of}
use Rattle.lazy.specs.declared.universe.LazyUniverse.{LazyUniverse}
use Rattle.lazy.specs.declared.universe.Prepared.{Prepared}

-- A universe keeps a legal history from a base: it has the base's rules and directory, and the number and moment of the last
-- entry; it holds every cell of the directory, each at its last touch, as the universe that ticks had it there.
pub record Keeps (base : Universe) (history : List Entry) (lazy : LazyUniverse) : Type 0 where
  pub founded : IsFounded base
  pub legal : IsLegal base history
  pub rules : base.setting.rules ≡ lazy.rules
  pub directory : base.setting.cells ≡ cells_of lazy.places
  pub moment : lazy.moment ≡ last_moment base.moment history
  pub number : lazy.number ≡ last_number base.state.number history
  pub held : (cell : CellId) → holds lazy.cells cell ≡ is_listed base.setting.cells cell
  pub named : IsNamed lazy.cells
  pub shows : Shows base.setting lazy.cells (lazily_at base history)

-- it keeps some history
abbrev pub KeepsSome : LazyUniverse → Type 0
KeepsSome lazy = (base : Universe) × (history : List Entry) × Keeps base history lazy

-- A request that was asked at a reading is the next entry of the history, and the reply is the one that the universe that ticks
-- gives to that entry.
pub record Continues (base : Universe) (history : List Entry) (new : LazyUniverse) (player : Player) (req : Request) (reading : ℕ) (reply : Reply) : Type 0 where
  pub entry : Entry
  pub follows : MayFollow (last_number base.state.number history) (last_moment base.moment history) entry
  pub reading_is : entry.reading ≡ reading
  pub player_is : entry.player ≡ player
  pub req_is : entry.req ≡ req
  pub keeps : Keeps base (history ++ entry ∷ []) new
  pub replied : reply ≡ reply_of base history entry

-- A universe was asked: whatever history it kept, it keeps that history with one entry more.
abbrev pub Asks : LazyUniverse → LazyUniverse → Player → Request → ℕ → Reply → Type 0
Asks old new player req reading reply =
    (base : Universe) (history : List Entry) → Keeps base history old → Continues base history new player req reading reply

-- What was worked out of an entry that may follow a history: just the cells that it touches, as they are after it, and its reply.
pub record Works (base : Universe) (history : List Entry) (entry : Entry) (prepared : Prepared) : Type 0 where
  pub touched : (cell : CellId) → holds prepared.cells cell ≡ touched_at base history entry cell
  pub shows : Shows base.setting prepared.cells (lazily_at base (history ++ entry ∷ []))
  pub replied : prepared.reply ≡ reply_of base history entry

-- the entry that a request becomes that a universe is asked at a reading
abbrev pub entry_of : LazyUniverse → Player → Request → ℕ → Entry
entry_of lazy player req reading =
    record { number = lazy.number + 1; moment = max reading lazy.moment; reading = reading; player = player; req = req }

-- A request was worked out beside a universe: it has cells of the universe, the next number, and as its moment the greater of
-- its reading and the universe's moment; and whatever history the universe keeps, it is what comes of that entry.
pub record IsPrepared (old : LazyUniverse) (player : Player) (req : Request) (reading : ℕ) (prepared : Prepared) : Type 0 where
  pub within : (cell : CellId) → holds prepared.cells cell ≡ true → holds old.cells cell ≡ true
  pub named : IsNamed prepared.cells
  pub next : prepared.reply.number ≡ old.number + 1
  pub latest : prepared.moment ≡ max reading old.moment
  pub works : (base : Universe) (history : List Entry) → Keeps base history old → Works base history (entry_of old player req reading) prepared
