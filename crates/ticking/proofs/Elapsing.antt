-- A second passes for all cells of a universe.
use Rattle.std.proofs.Common.{◌≡◌, ℕ, suc, ◌+◌, ◌-◌, ◌<◌, ◌≤◌, true, inl, inr, List, Option, None, Some, arith, refl, ap, ◌∙◌, sym, subst}
use Rattle.std.specs.Prelude.{is_some, option_map}
use Rattle.base_ids.specs.declared.cell_id.CellId.{CellId}
use Rattle.happenings.specs.Coming.{ActsIn, CanHappen, FindsFirst}
use Rattle.happenings.specs.Gaining.{AreBehind, Gains, GainsIn, gained as stand_gained}
use Rattle.happenings.specs.Held.{IsEqual, IsNamed, Shows, ShowsCell, held_at, holds}
use Rattle.happenings.specs.Sights.{names_held}
use Rattle.happenings.specs.declared.happening.Happening.{Happening}
use Rattle.happenings.specs.declared.held.Held.{Held}
use Rattle.laziness.proofs.Bringing.{at-inside, early, stands-before, view-inside}
use Rattle.laziness.proofs.Seconds.{Ticks, gained, stand, ticks}
use Rattle.laziness.proofs.Worlds.{ticked-idle}
use Rattle.laziness.specs.Laws.{Stands}
use Rattle.laziness.specs.Second.{everything, second as second_of_model}
use Rattle.laziness.specs.Stamps.{bring_to, happened}
use Rattle.laziness.specs.World.{IsBase, last_moment as last_moment_of, ticked}
use Rattle.lazy.proofs.Coursing.{AreEqual, Courses, can-happen, course-ends, course-falls, shows-equal}
use Rattle.lazy.proofs.Showing.{if_some_is}
use Rattle.lazy.proofs.Waiting.{waiting_in}
use Rattle.lazy.specs.Planning.{CanAdvance, HoldsSame}
use Rattle.ports.specs.declared.clock.TheConstants.{LATEST}
use Rattle.request_text.specs.declared.entry.Entry.{Entry}
use Rattle.tick_model.proofs.GameLaws.{game_laws}
use Rattle.tick_model.proofs.Keeping.{founded-later}
use Rattle.tick_model.proofs.Worlds.{last_moment-is, legal-order, rises}
use Rattle.tick_model.specs.Events.{Event, second_of}
use Rattle.tick_model.specs.Game.{game}
use Rattle.tick_model.specs.History.{IsLegal}
use Rattle.tick_model.specs.Requests.{is_listed}
use Rattle.tick_model.specs.Standing.{last_moment}
use Rattle.tick_model.specs.Universe.{State, Universe}
use Rattle.tick_model.specs.Views.{view}
use Rattle.tick_model.specs.World.{base_of, world}
use Rattle.tick_model.specs.declared.rules.Rules.{Rules}
use Rattle.ticking.proofs.Wholes.{can-bring, happened-alike}
use Rattle.ticking.specs.Standing.{AreWorld, Pass, ticking_at}

-- after the last entry only seconds pass
pub world-second : (base : Universe) (history : List Entry) (s : ℕ) → IsLegal base history → last_moment base.moment history ≤ s
    → (world base history (s + 1)).state ≡ second_of_model (game base.setting) (s + 1) (world base history s).state
world-second base history s legal since =
    let M = game base.setting in
    let n = s - base.moment in
    let start : base.moment ≤ last_moment base.moment history = rises base.state.number base.moment history legal in
    let end : last_moment_of M base.moment history ≡ last_moment base.moment history = last_moment-is base.setting base.moment history in
    let longer : (s + 1) - base.moment ≡ suc n = omega (arith, start, since) in
    let now : base.moment + suc n ≡ s + 1 = omega (arith, start, since) in
    let later : last_moment_of M base.moment history ≤ base.moment + n = omega (arith, start, since, end) in
    ap (ticked M (base_of base) history) longer
    ∙ ticked-idle M (base_of base) history n (legal-order base.setting base.state.number base.moment history legal) later
    ∙ ap (λ t. second_of_model M t (ticked M (base_of base) history n)) now

mapped-some : {A B : Type 0} (f : A → B) (o : Option A) → is_some (option_map f o) ≡ is_some o
mapped-some f None = refl
mapped-some f (Some x) = refl

-- copies of the cells are all cells too
pub equal-world : (rules : Rules) (second : ℕ) (cells copy : Held) → IsEqual cells copy → IsNamed copy → Pass rules second cells second copy
equal-world rules second cells copy equal named base history are = record {
  founded = are.founded;
  legal = are.legal;
  since = are.since;
  rules_are = are.rules_are;
  held = λ cell. ap is_some (equal cell) ∙ are.held cell;
  named = named;
  shows = shows-equal base.setting cells copy (ticking_at base history second) equal are.shows;
}

module _ (base : Universe) (history : List Entry) (rules : Rules) (second : ℕ) (cells : Held) (are : AreWorld base history rules second cells) where
  abbrev state : State
  state = (world base history second).state

  -- nothing is due any more
  pub is-base : IsBase (game base.setting) (base_of (world base history second))
  is-base = founded-later base history second are.founded are.legal are.since

  -- no cell stands later than the next second
  pub all-behind : AreBehind (second + 1) cells
  all-behind cell =
      if_some_is (held_at cells cell) (ShowsCell base.setting (ticking_at base history second) cell) (λ stand. stand.second ≤ second + 1)
      (λ stand is shown. let stamp : stand.second ≡ second = shown.second in omega (arith, stamp)) (are.shows cell)

  -- the next event is later
  due-later : (e : Event) → Stands (game base.setting) (gained (game base.setting) state) e → second + 1 ≤ second_of e
  due-later e stands = elim (early (second_of e) second) [
    | inl due ↦ absurd (is-base.none e (stands-before (game base.setting) (game_laws base.setting) (λ x. 1) state e stands) refl due)
    | inr late ↦ omega (arith, late)
  ]

  module _ (later : Held) (gains : Gains rules (second + 1) cells later) (gains_in : GainsIn rules (second + 1) cells later) where
    -- the same cells are held
    later-held : (cell : CellId) → holds later cell ≡ is_listed base.setting.cells cell
    later-held cell = ap is_some (gains cell) ∙ mapped-some (stand_gained rules (second + 1)) (held_at cells cell) ∙ are.held cell

    -- each has gained for one second
    later-shows : Shows base.setting later (stand (game base.setting) (second + 1) (gained (game base.setting) state))
    later-shows cell =
        let M = game base.setting in
        let L = game_laws base.setting in
        let f = ticking_at base history second in
        if_some_is (held_at later cell) (ShowsCell base.setting (bring_to M (holds cells) (second + 1) f) cell) (ShowsCell base.setting (stand M (second + 1) (gained M state)) cell)
        (λ found is shown.
        let inside : holds cells cell ≡ true = are.held cell ∙ sym (later-held cell) ∙ ap is_some is in
        let one : (second + 1) - second ≡ 1 = omega arith in
        record {
          second = shown.second ∙ at-inside M (holds cells) (second + 1) f cell inside;
          seen = shown.seen ∙ view-inside M L (holds cells) (second + 1) f cell inside ∙ ap (λ n. M.gains n (M.view state cell)) one ∙ sym (L.advanced (λ x. 1) state cell);
        })
        (gains_in base.setting f are.rules_are are.shows cell)

    -- so what is due then can happen
    pub can-go-on : CanAdvance base.setting rules later (second + 1) (stand (game base.setting) (second + 1) (gained (game base.setting) state))
    can-go-on = record {
      rules = are.rules_are;
      shows = later-shows;
      can_bring = can-bring base.setting (holds later) later-held (second + 1) (second + 1) (gained (game base.setting) state)
          ((game_laws base.setting).advance_fine (λ x. 1) state is-base.fine) due-later (omega arith);
    }

    pub event-happens : (now : Held) (what : Happening) → Courses AreEqual rules later (second + 1) now → FindsFirst now (second + 1) (Some what) → second + 1 ≤ LATEST → CanHappen now what
    event-happens now what course finds latest =
        can-happen AreEqual rules later now (second + 1) course what finds base.setting (stand (game base.setting) (second + 1) (gained (game base.setting) state)) can-go-on latest

    -- and fewer events are left then
    pub event-falls : (now : Held) (what : Happening) → Courses AreEqual rules later (second + 1) now → FindsFirst now (second + 1) (Some what) → (new : Held) → ActsIn rules what now new → HoldsSame now new
        → waiting_in new (names_held later) < waiting_in now (names_held later)
    event-falls now what course finds new acts same =
        course-falls AreEqual rules later now (second + 1) course what finds base.setting (stand (game base.setting) (second + 1) (gained (game base.setting) state)) can-go-on new acts same

    -- and once nothing is due, the second has passed
    pub second-passed : (now : Held) → Courses AreEqual rules later (second + 1) now → FindsFirst now (second + 1) None → AreWorld base history rules (second + 1) now
    second-passed now course finds =
        let M = game base.setting in
        let L = game_laws base.setting in
        let f = stand M (second + 1) (gained M state) in
        let tick : Ticks M (second + 1) state (second_of_model M (second + 1) state) = ticks M L second (second + 1) state refl is-base.fine is-base.none in
        let next = world-second base history second are.legal are.since in
        let shows : Shows base.setting now (happened M (everything M) (second + 1) f) =
        subst (Shows base.setting now) (sym (happened-alike base.setting (holds later) later-held (second + 1) f)) (course-ends rules later now (second + 1) course finds base.setting f can-go-on) in
        record {
          founded = are.founded;
          legal = are.legal;
          since = let before : last_moment base.moment history ≤ second = are.since in omega (arith, before);
          rules_are = are.rules_are;
          held = λ cell. course.same cell ∙ later-held cell;
          named = course.named;
          shows = λ cell.
              if_some_is (held_at now cell) (ShowsCell base.setting (happened M (everything M) (second + 1) f) cell) (ShowsCell base.setting (ticking_at base history (second + 1)) cell)
              (λ found is shown. record {
                second = shown.second ∙ tick.shows.at cell;
                seen = shown.seen ∙ tick.shows.view cell ∙ ap (λ (u : State). view base.setting.cells u cell) (sym next);
              }) (shows cell);
        }
