-- What happens among cells that are held, whatever universe they show. Rule: docs/RULES.md, "Events".
use Rattle.std.specs.Prelude.{◌≡◌, ◌≤◌, ℕ, true, Option, MatchOption}
use Rattle.base_ids.specs.declared.cell_id.CellId.{CellId}
use Rattle.laziness.specs.Laws.{IsNext, NoneDue}
use Rattle.laziness.specs.Stamps.{Stamps, event_acts}
use Rattle.ports.specs.declared.clock.TheConstants.{LATEST}
use Rattle.tick_model.specs.Events.{Event, footprint}
use Rattle.tick_model.specs.Game.{game}
use Rattle.tick_model.specs.Rules.{KeepsRules}
use Rattle.tick_model.specs.Universe.{Setting}
use Rattle.tick_model.specs.declared.rules.Rules.{Rules}
use Rattle.happenings.specs.Held.{IsNamed, Shows, holds}
use Rattle.happenings.specs.Happening.{IsOwed, second_at}
use Rattle.happenings.specs.declared.happening.Happening.{Happening}
use Rattle.happenings.specs.declared.held.Held.{Held}

-- This is the first of the events that are due by a moment and that the cells owe.
pub record IsFirstEvent (setting : Setting) (held : Held) (moment : ℕ) (f : Stamps (game setting)) (what : Happening) : Type 0 where
  pub event : Event
  pub owed : IsOwed held what event
  pub next : IsNext (game setting) (holds held) moment f.universe event

-- Whatever universe the cells show, this is the first of the events that are due by a moment and that they owe in it, if there
-- is any.
abbrev pub FindsFirst : Held → ℕ → Option Happening → Type 0
FindsFirst held moment found =
    (setting : Setting) (f : Stamps (game setting)) → Shows setting held f → IsNamed held
    → MatchOption found (NoneDue (game setting) (holds held) moment f.universe) (IsFirstEvent setting held moment f)

-- It can happen: the cells show a universe that keeps the rules, and owe the event. They have all cells that it needs, of which none
-- stands later. (If ships come to stay, their planet has room for them, since their owner's account counts all that the owner has.)
pub record CanHappen (held : Held) (what : Happening) : Type 0 where
  pub setting : Setting
  pub stamps : Stamps (game setting)
  pub shows : Shows setting held stamps
  pub fine : KeepsRules setting stamps.universe
  pub event : Event
  pub owed : IsOwed held what event
  pub in_time : second_at what ≤ LATEST
  pub within : (cell : CellId) → footprint event cell ≡ true → holds held cell ≡ true
  pub timely : (cell : CellId) → footprint event cell ≡ true → stamps.at cell ≤ second_at what

-- Whatever universe of these rules the cells showed, if it keeps the rules and they have all that the event needs, they now show it
-- after the event.
abbrev pub ActsIn : Rules → Happening → Held → Held → Type 0
ActsIn kept what old new =
    (setting : Setting) (f : Stamps (game setting)) (event : Event) → setting.rules ≡ kept → Shows setting old f → KeepsRules setting f.universe
    → IsOwed old what event → ((cell : CellId) → footprint event cell ≡ true → holds old cell ≡ true)
    → Shows setting new (event_acts (game setting) event f)
