-- What a ticking model gives: universes with no clock in them, and what can happen to them. What never changes, as
-- rules, and which cells there are, stands beside a model: there is one model for each such setting.
use Rattle.std.specs.Prelude.{ℕ, Bool, List, Option}

pub record Model : Type 1 where
  -- a universe, the name of a cell, and what a universe has of one cell
  pub Universe : Type 0
  pub Id : Type 0
  pub View : Type 0
  pub view : Universe → Id → View
  -- the directory: the names of the cells that a request can come to need
  pub ids : List Id
  -- an event, its second, and the cell that owes it, which shows it
  pub Event : Type 0
  pub second_of : Event → ℕ
  pub home : Event → Id
  pub Owes : View → Event → Type 0
  -- the cells that an event reads and changes
  pub footprint : Event → Id → Bool
  -- one event acts before another one
  pub Before : Event → Event → Type 0
  -- the universe after an event
  pub effect : Event → Universe → Universe
  -- the first of the events that are due by a second and that cells of this set owe
  pub next : (Id → Bool) → ℕ → Universe → Option Event
  -- at most so many events can still come
  pub measure : Universe → ℕ
  -- a cell after so many seconds in which no event comes to it; and every cell after seconds of its own
  pub gains : ℕ → View → View
  pub advance : (Id → ℕ) → Universe → Universe
  -- a request with its caller, a reply, and an entry of a history, with its moment and its request
  pub Ask : Type 0
  pub Reply : Type 0
  pub Entry : Type 0
  pub moment_of : Entry → ℕ
  pub ask_of : Entry → Ask
  -- the cells that a request asks for, by what is seen of the cells
  pub asks : Ask → (Id → View) → Id → Bool
  -- the cells without which a cell can't come to a second
  pub brings : View → ℕ → Id → Bool
  -- the universe after a request at a second, and the reply
  pub act : Ask → ℕ → Universe → Universe
  pub reply : Ask → ℕ → Universe → Reply
  -- the number of the last request
  pub count : Universe → ℕ
  -- the rules that every universe keeps
  pub Fine : Universe → Type 0
