-- A universe that ticks is asked.
use Rattle.std.proofs.Common.{◌≡◌, ℕ, ◌+◌, ◌≤◌, max, true, List, [], ◌∷◌, ◌++◌, codes, inl, inr, arith, refl, ap, ◌∙◌, sym, subst}
use Rattle.std.specs.Prelude.{is_some}
use Rattle.base_bytes.specs.Base.{universe_of}
use Rattle.base_bytes.specs.declared.base.Base.{Base}
use Rattle.base_ids.specs.declared.cell_id.CellId.{CellId}
use Rattle.base_ids.specs.declared.player.Player.{Player}
use Rattle.closure.specs.Directory.{cells_of}
use Rattle.closure.specs.declared.places.Places.{Places}
use Rattle.happenings.specs.Held.{IsNamed, Shows, ShowsCell, held_at, holds}
use Rattle.happenings.specs.declared.held.Held.{Held}
use Rattle.laziness.proofs.Bringing.{at-inside, early, gains-now, view-inside}
use Rattle.laziness.specs.Laws.{Agree, Covers, IsReady, NoneDue, Stands}
use Rattle.laziness.specs.Stamps.{Stamps, bring_to, brought, happened, request_acts}
use Rattle.lazy.proofs.Least.{in-listed}
use Rattle.lazy.proofs.Showing.{if_some_is}
use Rattle.lazy.proofs.Texts.{texts-same}
use Rattle.lazy.specs.Dumping.{held_text}
use Rattle.lazy.specs.Keeping.{Keeps}
use Rattle.lazy.specs.Planning.{CanAnswer, IsAnswered}
use Rattle.lazy.specs.declared.universe.LazyUniverse.{LazyUniverse}
use Rattle.reply_text.specs.Words.{line}
use Rattle.reply_text.specs.declared.reply.Reply.{Reply}
use Rattle.request_text.specs.declared.entry.Entry.{Entry}
use Rattle.request_text.specs.declared.request.Request.{Request}
use Rattle.tick_model.proofs.GameLaws.{game_laws}
use Rattle.tick_model.proofs.Keeping.{game_cells}
use Rattle.tick_model.proofs.Worlds.{last_moment-more, last_number-more, legal-more, rises, world-next, world-number, world-start}
use Rattle.tick_model.specs.Events.{Event, second_of}
use Rattle.tick_model.specs.Game.{game}
use Rattle.tick_model.specs.History.{MayFollow}
use Rattle.tick_model.specs.Standing.{last_moment, last_number}
use Rattle.tick_model.specs.Universe.{Setting, State, Universe}
use Rattle.tick_model.specs.Views.{view}
use Rattle.tick_model.specs.World.{world}
use Rattle.tick_model.specs.declared.rules.Rules.{Rules}
use Rattle.ticking.proofs.Elapsing.{is-base}
use Rattle.ticking.proofs.Wholes.{can-bring, closed-whole}
use Rattle.ticking.specs.Asking.{Continues, IsInTime, StandsFor, moment_text}
use Rattle.ticking.specs.Standing.{AreWorld, ticking_at}
use Rattle.ticking.specs.declared.universe.TickingUniverse.{TickingUniverse}

-- a base stands for itself, with no request yet
pub stands-base : (base : Base) (lazy : LazyUniverse) (ticking : TickingUniverse) → Keeps (universe_of base) [] lazy → ticking.rules ≡ lazy.rules → ticking.places ≡ lazy.places
    → ticking.cells ≡ lazy.cells → ticking.moment ≡ base.moment → ticking.number ≡ base.number → StandsFor (universe_of base) [] ticking
stands-base base lazy ticking keeps rules places cells moment number =
    let universe = universe_of base in
    let start : (λ (u : Universe). u.state) universe ≡ (world universe [] universe.moment).state = sym (ap (λ (u : Universe). u.state) (world-start universe)) in
    record {
      cells_are = record {
        founded = keeps.founded;
        legal = tt;
        since = omega (arith, moment);
        rules_are = keeps.rules ∙ sym rules;
        held = λ cell. ap (λ c. holds c cell) cells ∙ keeps.held cell;
        named = subst IsNamed (sym cells) keeps.named;
        shows = subst (λ m. Shows universe.setting ticking.cells (ticking_at universe [] m)) (sym moment)
            (subst (λ c. Shows universe.setting c (ticking_at universe [] base.moment)) (sym cells)
            (subst (λ (s : State). Shows universe.setting lazy.cells (record { universe = s; at = λ cell. base.moment })) start keeps.shows));
      };
      directory = keeps.directory ∙ ap cells_of (sym places);
      number = number;
    }

module _ (base : Universe) (history : List Entry) (rules : Rules) (moment : ℕ) (cells : Held) (are : AreWorld base history rules moment cells)
    (places : Places) (directory : base.setting.cells ≡ cells_of places) (entry : Entry) where
  abbrev f : Stamps (game base.setting)
  f = ticking_at base history moment

  abbrev b : Stamps (game base.setting)
  b = brought (game base.setting) (holds cells) moment f

  -- nothing is due by the moment
  none-now : NoneDue (game base.setting) (holds cells) moment f.universe
  none-now e stands inside due = (is-base base history rules moment cells are).none e stands refl due

  due-since : (e : Event) → Stands (game base.setting) f.universe e → moment ≤ second_of e
  due-since e stands = elim (early (second_of e) moment) [
    | inl due ↦ absurd ((is-base base history rules moment cells are).none e stands refl due)
    | inr late ↦ omega (arith, late)
  ]

  covers : Covers (game base.setting) ((game base.setting).view f.universe) entry (holds cells)
  covers y asks = are.held y ∙ in-listed base.setting.cells y ((game_laws base.setting).asked_listed f.universe entry y (is-base base history rules moment cells are).fine asks)

  -- a request can act on all cells where they stand
  pub can-answer : CanAnswer base.setting rules places cells entry.player entry.req moment f
  can-answer = record {
    advance = record {
      rules = are.rules_are;
      shows = are.shows;
      can_bring = can-bring base.setting (holds cells) are.held moment moment f.universe (is-base base history rules moment cells are).fine due-since (omega arith);
    };
    directory = directory;
    covers = covers;
  }

  -- since nothing is to be brought
  brought-is : b ≡ bring_to (game base.setting) (holds cells) moment f
  brought-is = ap (bring_to (game base.setting) (holds cells) moment) ((game_cells base.setting).none (holds cells) moment f (is-base base history rules moment cells are).fine none-now)

  brought-agrees : Agree (game base.setting) (holds cells) b.universe f.universe
  brought-agrees x inside =
      ap (λ (g : Stamps (game base.setting)). view base.setting.cells g.universe x) brought-is
      ∙ view-inside (game base.setting) (game_laws base.setting) (holds cells) moment f x inside
      ∙ gains-now (game base.setting) (game_laws base.setting) moment (view base.setting.cells f.universe x)

  brought-count : b.universe.number ≡ f.universe.number
  brought-count = ap (λ (g : Stamps (game base.setting)). g.universe.number) brought-is

  ready-now : IsReady (game base.setting) (holds cells) moment entry f.universe
  ready-now = record {
    fine = (is-base base history rules moment cells are).fine;
    closed = closed-whole base.setting (holds cells) are.held moment f.universe (is-base base history rules moment cells are).fine;
    covers = covers;
    none = none-now;
  }

  ready-brought : IsReady (game base.setting) (holds cells) moment entry b.universe
  ready-brought = (game_cells base.setting).ready (holds cells) moment entry f can-answer.advance.can_bring covers

  -- it makes the same of them, with the same reply
  pub acts-same : Agree (game base.setting) (holds cells) ((game base.setting).act entry moment b.universe) ((game base.setting).act entry moment f.universe)
  acts-same = (game_laws base.setting).act_depends (holds cells) moment b.universe f.universe entry ready-brought ready-now brought-count brought-agrees

  pub reply-same : (game base.setting).reply entry moment b.universe ≡ (game base.setting).reply entry moment f.universe
  reply-same = (game_laws base.setting).reply_depends (holds cells) moment b.universe f.universe entry ready-brought ready-now brought-count brought-agrees

  pub at-now : (x : CellId) → holds cells x ≡ true → b.at x ≡ moment
  at-now x inside = at-inside (game base.setting) (holds cells) moment (happened (game base.setting) (holds cells) moment f) x inside

  -- so after an entry of this moment they are all cells of the world with the entry
  module _ (own : entry.moment ≡ moment) (follows : MayFollow (last_number base.state.number history) (last_moment base.moment history) entry) (after : Held)
      (same : (cell : CellId) → holds after cell ≡ holds cells cell) (named : IsNamed after) (shows : Shows base.setting after (request_acts (game base.setting) (holds cells) moment entry f)) where
    world-entry : (game base.setting).act entry moment f.universe ≡ (world base (history ++ entry ∷ []) moment).state
    world-entry =
        let since : base.moment ≤ entry.moment = let start : base.moment ≤ last_moment base.moment history = rises base.state.number base.moment history are.legal in let late = are.since in omega (arith, start, late, own) in
        subst (λ m. (game base.setting).act entry m (world base history m).state ≡ (world base (history ++ entry ∷ []) m).state) own
        (sym (ap (λ (u : Universe). u.state) (world-next base history entry since)))

    pub world-more : AreWorld base (history ++ entry ∷ []) rules moment after
    world-more = record {
      founded = are.founded;
      legal = legal-more base.state.number base.moment history entry are.legal follows;
      since = let end : last_moment base.moment (history ++ entry ∷ []) ≡ entry.moment = last_moment-more base.moment history entry in omega (arith, end, own);
      rules_are = are.rules_are;
      held = λ cell. same cell ∙ are.held cell;
      named = named;
      shows = λ cell.
          if_some_is (held_at after cell) (ShowsCell base.setting (request_acts (game base.setting) (holds cells) moment entry f) cell)
          (ShowsCell base.setting (ticking_at base (history ++ entry ∷ []) moment) cell)
          (λ stand is shown.
          let inside : holds cells cell ≡ true = sym (same cell) ∙ ap is_some is in
          record {
            second = shown.second ∙ at-now cell inside;
            seen = shown.seen ∙ acts-same cell inside ∙ ap (λ (u : State). view base.setting.cells u cell) world-entry;
          }) (shows cell);
    }

-- the entry that a request becomes
abbrev pub entry_of : TickingUniverse → Player → Request → ℕ → ℕ → Entry
entry_of old player req reading moment = record { number = old.number + 1; moment = moment; reading = reading; player = player; req = req }

module _ (base : Universe) (history : List Entry) (old : TickingUniverse) (player : Player) (req : Request) (reading moment : ℕ) (in_time : IsInTime base history old reading)
    (latest : moment ≡ max reading old.moment) (cells : Held) (are : AreWorld base history old.rules moment cells) where
  abbrev entry : Entry
  entry = entry_of old player req reading moment

  -- it may follow
  may-follow : MayFollow (last_number base.state.number history) (last_moment base.moment history) entry
  may-follow = record {
    next = ap (λ n. n + 1) in_time.stands.number;
    latest =
        let past : old.moment ≤ max reading (last_moment base.moment history) = in_time.not_past in
        let since : last_moment base.moment history ≤ old.moment = in_time.stands.cells_are.since in
        omega (arith, latest, past, since);
  }

  -- it can be worked out
  pub can-work : CanAnswer base.setting old.rules old.places cells player req moment (ticking_at base history moment)
  can-work = can-answer base history old.rules moment cells are old.places in_time.stands.directory entry

  next-number : old.number + 1 ≡ (world base history moment).state.number + 1
  next-number = ap (λ n. n + 1) (in_time.stands.number ∙ sym (world-number base history moment are.legal are.since))

  -- and the universe goes on with what comes of it
  pub continues : (after : Held) (reply : Reply) (new : TickingUniverse) → IsAnswered base.setting cells player req moment (old.number + 1) (ticking_at base history moment) after reply
      → new.rules ≡ old.rules → new.places ≡ old.places → new.cells ≡ after → new.moment ≡ moment → new.number ≡ old.number + 1
      → Continues base history new player req reading reply
  continues after reply new is rules places now stands number =
      let more = world-more base history old.rules moment cells are old.places in_time.stands.directory entry refl may-follow after is.same is.named (is.shows entry refl refl next-number) in
      record {
        entry = entry;
        follows = may-follow;
        reading_is = refl;
        player_is = refl;
        req_is = refl;
        stands = record {
          cells_are = subst (λ (r : Rules). AreWorld base (history ++ entry ∷ []) r new.moment new.cells) (sym rules)
              (subst (λ m. AreWorld base (history ++ entry ∷ []) old.rules m new.cells) (sym stands)
              (subst (λ c. AreWorld base (history ++ entry ∷ []) old.rules moment c) (sym now) more));
          directory = in_time.stands.directory ∙ ap cells_of (sym places);
          number = number ∙ sym (last_number-more base.state.number history entry);
        };
        moment_is = stands;
        replied = is.replied next-number ∙ reply-same base history old.rules moment cells are old.places in_time.stands.directory entry;
      }

-- the text of the cells is that of the universe
pub text-is : (base : Universe) (history : List Entry) (ticking : TickingUniverse) (text : List ℕ) → StandsFor base history ticking
    → ((setting : Setting) → setting.rules ≡ ticking.rules → IsNamed ticking.cells → text ≡ held_text setting ticking.cells (cells_of ticking.places) ++ line (codes "." ∷ []))
    → text ≡ moment_text base history ticking.moment
text-is base history ticking text stands told =
    let are = stands.cells_are in
    told base.setting are.rules_are are.named
    ∙ ap (λ cells. held_text base.setting ticking.cells cells ++ line (codes "." ∷ [])) (sym stands.directory)
    ∙ ap (λ all. all ++ line (codes "." ∷ [])) (texts-same base.setting (ticking_at base history ticking.moment) ticking.cells base.setting.cells are.shows (λ cell is. are.held cell ∙ is))
