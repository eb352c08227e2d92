-- The course of cells through the events that they owe by a moment.
use Rattle.std.proofs.Common.{◌≡◌, ℕ, ◌+◌, ◌<◌, ◌≤◌, inl, inr, Bool, true, refl, ap, ◌∙◌, sym, subst, arith, Option, Some, None}
use Rattle.std.proofs.Math.Path.{fun_ext}
use Rattle.std.specs.Prelude.{IfOk, IfSome, is_some, option_map}
use Rattle.std.specs.declared.result.Result.{Result}
use Rattle.std.specs.declared.result.Result.TheVariants.{Ok, Err}
use Rattle.base_ids.specs.declared.cell_id.CellId.{CellId}
use Rattle.laziness.proofs.Bringing.{early}
use Rattle.laziness.specs.Laws.{IsNext, NoneDue}
use Rattle.laziness.specs.Stamps.{AgreeStamped, Stamps, bring_to, brought, event_acts, happened}
use Rattle.laziness.specs.Theorems.{CanBring, FirstActs}
use Rattle.ports.specs.declared.clock.TheConstants.{LATEST}
use Rattle.happenings.specs.Coming.{ActsIn, CanHappen, FindsFirst, IsFirstEvent}
use Rattle.happenings.specs.Gaining.{AreBehind, Gains, GainsIn, gained}
use Rattle.happenings.specs.Held.{IsEqual, IsNamed, Shows, ShowsCell, Stand, held_at, holds}
use Rattle.happenings.specs.Happening.{second_at}
use Rattle.happenings.specs.declared.happening.Happening.{Happening}
use Rattle.happenings.specs.declared.held.Held.{Held}
use Rattle.happenings.specs.Naming.{held_named}
use Rattle.happenings.specs.Sights.{names_held}
use Rattle.happenings.proofs.Acting.{event-there, owed-second}
use Rattle.tick_model.specs.Events.{footprint, second_of}
use Rattle.tick_model.specs.Game.{game}
use Rattle.tick_model.specs.Universe.{Setting}
use Rattle.tick_model.specs.declared.rules.Rules.{Rules}
use Rattle.tick_model.proofs.Keeping.{game_cells}
use Rattle.lazy.specs.Advancing.{AdvancesIn}
use Rattle.lazy.specs.Planning.{CanAdvance, HoldsSame}
use Rattle.lazy.specs.Running.{YardsRun, first_turn, run_before}
use Rattle.lazy.proofs.Alone.{alone, alone-agrees, alone-can, alone-stands, stand_in}
use Rattle.lazy.proofs.Turns.{IsQuiet, all-quiet, first-turn-least, none-runs}
use Rattle.lazy.proofs.Waiting.{waiting_falls, waiting_in}

pub if-both : {T E : Type 0} (r : Result T E) (P Q R : T → Type 0) → ((x : T) → P x → Q x → R x) → IfOk r P → IfOk r Q → IfOk r R
if-both (Ok x) P Q R f p q = f x p q
if-both (Err e) P Q R f p q = tt

-- How what comes of two universes has to agree: it is the same, or it is the same of these cells once they are brought to the moment.
abbrev pub Agreement : Type 1
Agreement = (setting : Setting) → (CellId → Bool) → ℕ → Stamps (game setting) → Stamps (game setting) → Type 0

abbrev pub AreEqual : Agreement
AreEqual setting S moment one other = one ≡ other

abbrev pub AgreeThen : Agreement
AgreeThen setting S moment one other = AgreeStamped (game setting) S (bring_to (game setting) S moment one) (bring_to (game setting) S moment other)

-- The cells show a universe, and what comes of it agrees with what comes of this one.
pub record LeadsOn (Agree : Agreement) (setting : Setting) (S : CellId → Bool) (moment : ℕ) (f : Stamps (game setting)) (now : Held) : Type 0 where
  pub stamps : Stamps (game setting)
  pub shows : Shows setting now stamps
  pub can_bring : CanBring (game setting) S moment stamps
  pub rest : Agree setting S moment (happened (game setting) S moment stamps) (happened (game setting) S moment f)

-- It does so for each universe in which the cells can be brought to the moment.
pub record Courses (Agree : Agreement) (kept : Rules) (held : Held) (moment : ℕ) (now : Held) : Type 0 where
  pub named : IsNamed now
  pub same : HoldsSame held now
  pub leads : (setting : Setting) (f : Stamps (game setting)) → CanAdvance setting kept held moment f → LeadsOn Agree setting (holds held) moment f now

pub shows-equal : (setting : Setting) (old new : Held) (f : Stamps (game setting)) → IsEqual old new → Shows setting old f → Shows setting new f
shows-equal setting old new f equal shows cell = subst (λ (o : Option Stand). IfSome o (ShowsCell setting f cell)) (sym (equal cell)) (shows cell)

agree-then : (setting : Setting) (S : CellId → Bool) (f g h : Stamps (game setting)) → AgreeStamped (game setting) S f g → AgreeStamped (game setting) S g h → AgreeStamped (game setting) S f h
agree-then setting S f g h one two = record { view = λ x inside. one.view x inside ∙ two.view x inside; at = λ x inside. one.at x inside ∙ two.at x inside }

-- cells show every universe that agrees on them
shows-agree : (setting : Setting) (S : CellId → Bool) (f g : Stamps (game setting)) (held : Held) → AgreeStamped (game setting) S f g → ((cell : CellId) → holds held cell ≡ true → S cell ≡ true)
    → Shows setting held f → Shows setting held g
shows-agree setting S f g held agree within shows cell = at-cell (held_at held cell) refl (shows cell)
  where
    at-cell : (o : Option Stand) → held_at held cell ≡ o → IfSome o (ShowsCell setting f cell) → IfSome o (ShowsCell setting g cell)
    at-cell None is shown = tt
    at-cell (Some stand) is shown =
        let inside = within cell (ap is_some is) in
        record { second = shown.second ∙ agree.at cell inside; seen = shown.seen ∙ agree.view cell inside }

-- what is held of a cell is the cell as the universe has it
held-stand : (setting : Setting) (f : Stamps (game setting)) (cell : CellId) (o : Option Stand) → is_some o ≡ true → IfSome o (ShowsCell setting f cell) → o ≡ Some (stand_in setting f cell)
held-stand setting f cell None held shown = absurd (cc held)
held-stand setting f cell (Some stand) held shown = λ i. Some (record { second = shown.second i; seen = shown.seen i })

mapped-some : (f : Stand → Stand) (o : Option Stand) → is_some (option_map f o) ≡ is_some o
mapped-some f None = refl
mapped-some f (Some stand) = refl

-- copies begin the course
course-starts : (Agree : Agreement) → ((setting : Setting) (S : CellId → Bool) (moment : ℕ) (f : Stamps (game setting)) → Agree setting S moment f f)
    → (kept : Rules) (held now : Held) (moment : ℕ) → IsEqual held now → IsNamed now → Courses Agree kept held moment now
course-starts Agree itself kept held now moment equal named = record {
  named = named;
  same = λ cell. ap is_some (equal cell);
  leads = λ setting f can. record { stamps = f; shows = shows-equal setting held now f equal can.shows; can_bring = can.can_bring; rest = itself setting (holds held) moment (happened (game setting) (holds held) moment f) };
}

pub starts-equal : (kept : Rules) (held now : Held) (moment : ℕ) → IsEqual held now → IsNamed now → Courses AreEqual kept held moment now
starts-equal = course-starts AreEqual (λ setting S moment f. refl)

pub starts-alike : (kept : Rules) (held now : Held) (moment : ℕ) → IsEqual held now → IsNamed now → Courses AgreeThen kept held moment now
starts-alike = course-starts AgreeThen (λ setting S moment f. record { view = λ x inside. refl; at = λ x inside. refl })

module _ (Agree : Agreement) (kept : Rules) (held now : Held) (moment : ℕ) (course : Courses Agree kept held moment now) where
  -- the same set of cells
  set-is : holds now ≡ holds held
  set-is = fun_ext course.same

  -- what is found is the first event of each universe that the cells show
  module _ (what : Happening) (finds : FindsFirst now moment (Some what)) where
    module _ (setting : Setting) (f : Stamps (game setting)) (can : CanAdvance setting kept held moment f) where
      abbrev lead : LeadsOn Agree setting (holds held) moment f now
      lead = course.leads setting f can

      abbrev first : IsFirstEvent setting now moment lead.stamps what
      first = finds setting lead.stamps lead.shows course.named

      first-acts : FirstActs (game setting) (holds held) moment lead.stamps first.event
      first-acts =
          let next = subst (λ (S : CellId → Bool). IsNext (game setting) S moment lead.stamps.universe first.event) set-is first.next in
          (game_cells setting).first (holds held) moment lead.stamps first.event lead.can_bring next

      -- the cells have all that it needs
      all-within : (cell : CellId) → footprint first.event cell ≡ true → holds now cell ≡ true
      all-within cell needed = course.same cell ∙ first-acts.inside cell needed

      shows-then : (new : Held) → ActsIn kept what now new → Shows setting new (event_acts (game setting) first.event lead.stamps)
      shows-then new acts = acts setting lead.stamps first.event can.rules lead.shows lead.can_bring.fine first.owed all-within

      lead-next : (new : Held) → ActsIn kept what now new → LeadsOn Agree setting (holds held) moment f new
      lead-next new acts = record {
        stamps = event_acts (game setting) first.event lead.stamps;
        shows = shows-then new acts;
        can_bring = first-acts.still;
        rest = subst (λ h. Agree setting (holds held) moment h (happened (game setting) (holds held) moment f)) (sym first-acts.rest) lead.rest;
      }

      -- it can happen
      pub can-happen : moment ≤ LATEST → CanHappen now what
      can-happen latest =
          let due : second_of first.event ≤ moment = first.next.due in
          let second : second_of first.event ≡ second_at what = owed-second now what first.event first.owed in
          record {
            setting = setting;
            stamps = lead.stamps;
            shows = lead.shows;
            fine = lead.can_bring.fine;
            event = first.event;
            owed = first.owed;
            in_time = omega (arith, due, second, latest);
            within = all-within;
            timely = λ cell needed. subst (λ (n : ℕ). lead.stamps.at cell ≤ n) second (lead.can_bring.timely first.event first.next.stands cell needed);
          }

      -- fewer events are left then
      pub course-falls : (new : Held) → ActsIn kept what now new → HoldsSame now new → waiting_in new (names_held held) < waiting_in now (names_held held)
      course-falls new acts same =
          let there = event-there setting now lead.stamps what first.event lead.shows first.owed in
          waiting_falls setting lead.stamps now new first.event lead.shows lead.can_bring.fine there.stands there.inside (shows-then new acts) same held course.same

    -- and the course goes on
    pub course-goes-on : (new : Held) → ActsIn kept what now new → IsNamed new → HoldsSame now new → Courses Agree kept held moment new
    course-goes-on new acts named same = record {
      named = named;
      same = λ cell. same cell ∙ course.same cell;
      leads = λ setting f can. lead-next setting f can new acts;
    }

  -- no event is due any more
  ended : (setting : Setting) (f : Stamps (game setting)) (lead : LeadsOn Agree setting (holds held) moment f now) → FindsFirst now moment None
      → happened (game setting) (holds held) moment lead.stamps ≡ lead.stamps
  ended setting f lead finds =
      let M = game setting in
      let none = subst (λ (S : CellId → Bool). NoneDue M S moment lead.stamps.universe) set-is (finds setting lead.stamps lead.shows course.named) in
      (game_cells setting).none (holds held) moment lead.stamps lead.can_bring.fine none

  -- no cell stands later than the moment
  pub course-behind : (setting : Setting) (f : Stamps (game setting)) → CanAdvance setting kept held moment f → AreBehind moment now
  course-behind setting f can cell =
      let lead = course.leads setting f can in
      stand-behind lead.stamps (held_at now cell) refl (lead.shows cell) lead.can_bring.behind
    where
      stand-behind : (g : Stamps (game setting)) (o : Option Stand) → held_at now cell ≡ o → IfSome o (ShowsCell setting g cell)
          → ((x : CellId) → holds held x ≡ true → g.at x ≤ moment) → IfSome o (λ stand. stand.second ≤ moment)
      stand-behind g None is shown behind = tt
      stand-behind g (Some stand) is shown behind =
          let inside : holds held cell ≡ true = sym (course.same cell) ∙ ap is_some is in
          let within : g.at cell ≤ moment = behind cell inside in
          let stamp : stand.second ≡ g.at cell = shown.second in
          omega arith

-- the cells show what has happened, once no event is due any more
pub course-ends : (kept : Rules) (held now : Held) (moment : ℕ) → Courses AreEqual kept held moment now → FindsFirst now moment None
    → (setting : Setting) (f : Stamps (game setting)) → CanAdvance setting kept held moment f → Shows setting now (happened (game setting) (holds held) moment f)
course-ends kept held now moment course finds setting f can =
    let lead = course.leads setting f can in
    subst (Shows setting now) (sym (ended AreEqual kept held now moment course setting f lead finds) ∙ lead.rest) lead.shows

module _ (kept : Rules) (held now : Held) (moment : ℕ) (course : Courses AgreeThen kept held moment now) where
  same-set : holds now ≡ holds held
  same-set = fun_ext course.same

  -- the yards build on alone
  module _ (new : Held) (runs : YardsRun kept moment now new) where
    abbrev limit : ℕ
    limit = first_turn now (moment + 1) (names_held now)

    module _ (setting : Setting) (g : Stamps (game setting)) (rules : setting.rules ≡ kept) (shows : Shows setting now g) where
      stand-is : (x : CellId) → holds held x ≡ true → held_at now x ≡ Some (stand_in setting g x)
      stand-is x inside = held-stand setting g x (held_at now x) (course.same x ∙ inside) (shows x)

      all-are-quiet : (x : CellId) → holds held x ≡ true → IsQuiet limit x (stand_in setting g x)
      all-are-quiet x inside = all-quiet now (moment + 1) (names_held now) x (stand_in setting g x) (held_named now x (course.same x ∙ inside)) (stand-is x inside)

      -- what is held now shows every universe whose cells have run
      shows-run : (h : Stamps (game setting)) → ((x : CellId) → holds held x ≡ true → stand_in setting h x ≡ run_before setting.rules limit (stand_in setting g x)) → Shows setting new h
      shows-run h ran x = subst (λ (o : Option Stand). IfSome o (ShowsCell setting h x)) (sym (runs x)) (at-cell (held_at now x) refl (shows x))
        where
          at-cell : (o : Option Stand) → held_at now x ≡ o → IfSome o (ShowsCell setting g x) → IfSome (option_map (run_before kept limit) o) (ShowsCell setting h x)
          at-cell None is shown = tt
          at-cell (Some stand) is shown =
              let inside : holds held x ≡ true = sym (course.same x) ∙ ap is_some is in
              let same : stand ≡ stand_in setting g x = λ i. record { second = shown.second i; seen = shown.seen i } in
              let now_is : run_before kept limit stand ≡ stand_in setting h x = (λ i. run_before (sym rules i) limit (same i)) ∙ sym (ran x inside) in
              record { second = ap (λ (s : Stand). s.second) now_is; seen = ap (λ (s : Stand). s.seen) now_is }

    lead-run : (setting : Setting) (f : Stamps (game setting)) → CanAdvance setting kept held moment f → LeadsOn AgreeThen setting (holds held) moment f new
    lead-run setting f can =
        let M = game setting in
        let S = holds held in
        let lead = course.leads setting f can in
        let g = lead.stamps in
        let quiet = all-are-quiet setting g can.rules lead.shows in
        let within = first-turn-least now (moment + 1) (names_held now) in
        elim (early 1 limit) [
          | inl some ↦ record {
            stamps = alone setting S limit moment g lead.can_bring some within quiet;
            shows = shows-run setting g can.rules lead.shows (alone setting S limit moment g lead.can_bring some within quiet)
                (alone-stands setting S limit moment g lead.can_bring some within quiet);
            can_bring = alone-can setting S limit moment g lead.can_bring some within quiet;
            rest = agree-then setting S (brought M S moment (alone setting S limit moment g lead.can_bring some within quiet)) (brought M S moment g) (brought M S moment f)
                (alone-agrees setting S limit moment g lead.can_bring some within quiet) lead.rest;
          }
          | inr none ↦ record {
            stamps = g;
            shows = shows-run setting g can.rules lead.shows g (λ x inside. sym (none-runs setting.rules limit (stand_in setting g x) none));
            can_bring = lead.can_bring;
            rest = lead.rest;
          }
        ]

    run-same : HoldsSame now new
    run-same cell = ap is_some (runs cell) ∙ mapped-some (run_before kept limit) (held_at now cell)

    pub course-runs : IsNamed new → Courses AgreeThen kept held moment new
    course-runs named = record {
      named = named;
      same = λ cell. run-same cell ∙ course.same cell;
      leads = lead-run;
    }

  -- once no event is due any more, cells that gained from here on are brought to the moment
  pub course-advances : FindsFirst now moment None → (after : Held) → Gains kept moment now after → GainsIn kept moment now after → AdvancesIn kept held moment after
  course-advances finds after gains gains_in setting f can =
      let M = game setting in
      let S = holds held in
      let lead = course.leads setting f can in
      let end = ended AgreeThen kept held now moment course setting f lead finds in
      let shown : Shows setting after (bring_to M S moment lead.stamps) = subst (λ (T : CellId → Bool). Shows setting after (bring_to M T moment lead.stamps)) same-set (gains_in setting lead.stamps can.rules lead.shows) in
      let come : Shows setting after (brought M S moment lead.stamps) = subst (λ h. Shows setting after (bring_to M S moment h)) (sym end) shown in
      shows-agree setting S (brought M S moment lead.stamps) (brought M S moment f) after lead.rest
      (λ cell there. sym (ap is_some (gains cell) ∙ mapped-some (gained kept moment) (held_at now cell) ∙ course.same cell) ∙ there) come
