-- A request is worked out on the cells that it touches.
use Rattle.std.proofs.Common.{◌≡◌, ℕ, ◌+◌, max, Bool, true, false, cond, List, [], ◌∷◌, ◌++◌, Option, None, Some, refl, ap, ◌∙◌, sym, subst}
use Rattle.std.proofs.Math.Path.{fun_ext}
use Rattle.std.specs.Prelude.{IfSome, is_some}
use Rattle.base_ids.specs.declared.player.Player.{Player}
use Rattle.request_text.specs.declared.entry.Entry.{Entry}
use Rattle.request_text.specs.declared.request.Request.{Request}
use Rattle.reply_text.specs.declared.reply.Reply.{Reply}
use Rattle.laziness.specs.Stamps.{brought, request_acts}
use Rattle.laziness.specs.Theorems.{CanBring}
use Rattle.happenings.specs.Held.{Shows, ShowsCell, Stand, held_at, holds}
use Rattle.happenings.specs.declared.held.Held.{Held}
use Rattle.tick_model.specs.Game.{game}
use Rattle.tick_model.specs.Keeping.{AnswersEntry, lazily_at, touched_at}
use Rattle.tick_model.specs.Step.{step}
use Rattle.tick_model.specs.Universe.{Universe}
use Rattle.tick_model.specs.World.{reply as reply_of}
use Rattle.tick_model.proofs.Keeping.{answers-entry, keeps-history}
use Rattle.tick_model.proofs.Worlds.{legal-more, reply-number}
use Rattle.lazy.specs.Keeping.{IsPrepared, Keeps, KeepsSome, entry_of}
use Rattle.lazy.specs.Planning.{CanAnswer, IsAnswered}
use Rattle.lazy.specs.Touching.{AreTouched}
use Rattle.lazy.specs.declared.universe.LazyUniverse.{LazyUniverse}
use Rattle.lazy.specs.declared.universe.Prepared.{Prepared}
use Rattle.lazy.proofs.Continuing.{may-follow}

copied-shown : (P : Stand → Type 0) (b : Bool) (found : Option Stand) → IfSome found P → IfSome (cond b found None) P
copied-shown P true found shows = shows
copied-shown P false found shows = tt

module _ (base : Universe) (history : List Entry) (lazy : LazyUniverse) (player : Player) (req : Request) (reading : ℕ) (cells : Held) (keeps : Keeps base history lazy)
    (touched : AreTouched lazy player req (max reading lazy.moment) cells) where
  the-answer : AnswersEntry base history (entry_of lazy player req reading)
  the-answer = answers-entry base history (entry_of lazy player req reading) keeps.founded keeps.legal (may-follow base history lazy player req reading keeps)

  same-cells : touched_at base history (entry_of lazy player req reading) ≡ holds cells
  same-cells = fun_ext (λ cell. sym (touched.touched base history (entry_of lazy player req reading) keeps refl refl refl cell))

  -- the cells can be brought to the request's moment, and have all that it asks for
  pub can-answer : CanAnswer base.setting lazy.rules lazy.places cells player req (max reading lazy.moment) (lazily_at base history)
  can-answer = record {
    advance = record {
      rules = keeps.rules;
      shows = λ cell. subst (λ found. IfSome found (ShowsCell base.setting (lazily_at base history) cell)) (sym (touched.copies cell))
          (copied-shown (ShowsCell base.setting (lazily_at base history) cell) (holds cells cell) (held_at lazy.cells cell) (keeps.shows cell));
      can_bring = subst (λ S. CanBring (game base.setting) S (max reading lazy.moment) (lazily_at base history)) same-cells the-answer.can_bring;
    };
    directory = keeps.directory;
    covers = λ cell asks. ap (λ S. S cell) (sym same-cells) ∙ the-answer.least.covers cell asks;
  }

  next-number : lazy.number + 1 ≡ (lazily_at base history).universe.number + 1
  next-number = ap (λ n. n + 1) (keeps.number ∙ sym (keeps-history base history keeps.founded keeps.legal).number)

  module _ (after : Held) (reply : Reply) (is : IsAnswered base.setting cells player req (max reading lazy.moment) (lazy.number + 1) (lazily_at base history) after reply) where
    pub reply-is : reply ≡ reply_of base history (entry_of lazy player req reading)
    reply-is =
        is.replied next-number
        ∙ ap (λ S. (step base.setting player req (max reading lazy.moment) (brought (game base.setting) S (max reading lazy.moment) (lazily_at base history)).universe).reply) (sym same-cells)
        ∙ the-answer.replied

    pub reply-next : reply.number ≡ lazy.number + 1
    reply-next =
        ap (λ (r : Reply). r.number) reply-is
        ∙ reply-number base history (entry_of lazy player req reading)
        (legal-more base.state.number base.moment history (entry_of lazy player req reading) keeps.legal (may-follow base history lazy player req reading keeps))

    pub shows-next : Shows base.setting after (lazily_at base (history ++ entry_of lazy player req reading ∷ []))
    shows-next =
        subst (Shows base.setting after)
        (ap (λ S. request_acts (game base.setting) S (max reading lazy.moment) (entry_of lazy player req reading) (lazily_at base history)) (sym same-cells) ∙ sym the-answer.next)
        (is.shows (entry_of lazy player req reading) refl refl next-number)

-- so the request can be worked out for every history that is kept
pub can-answer-at : (base : Universe) (history : List Entry) (lazy : LazyUniverse) (player : Player) (req : Request) (reading moment : ℕ) (cells : Held) → moment ≡ max reading lazy.moment
    → AreTouched lazy player req moment cells → Keeps base history lazy → CanAnswer base.setting lazy.rules lazy.places cells player req moment (lazily_at base history)
can-answer-at base history lazy player req reading moment cells at touched keeps =
    subst (λ m. CanAnswer base.setting lazy.rules lazy.places cells player req m (lazily_at base history)) (sym at)
    (can-answer base history lazy player req reading cells keeps (subst (λ m. AreTouched lazy player req m cells) at touched))

-- the cells and the reply are what comes of the request, whatever history is kept
abbrev pub AnswersAll : LazyUniverse → Player → Request → ℕ → Held → Held → Reply → Type 0
AnswersAll lazy player req moment cells after reply =
    (base : Universe) (history : List Entry) → Keeps base history lazy
    → IsAnswered base.setting cells player req moment (lazy.number + 1) (lazily_at base history) after reply

is-prepared : (lazy : LazyUniverse) (player : Player) (req : Request) (reading : ℕ) (cells : Held) (prepared : Prepared) → KeepsSome lazy
    → AreTouched lazy player req (max reading lazy.moment) cells → prepared.moment ≡ max reading lazy.moment → AnswersAll lazy player req (max reading lazy.moment) cells prepared.cells prepared.reply
    → IsPrepared lazy player req reading prepared
is-prepared lazy player req reading cells prepared (base, history, keeps) touched moment answers =
    let first = answers base history keeps in
    record {
      within = λ cell has. copied-within (held_at cells cell) (held_at lazy.cells cell) (touched.copies cell) (sym (first.same cell) ∙ has);
      named = first.named;
      next = reply-next base history lazy player req reading cells keeps touched prepared.cells prepared.reply first;
      latest = moment;
      works = λ base history keeps.
          let is = answers base history keeps in
          record {
            touched = λ cell. is.same cell ∙ touched.touched base history (entry_of lazy player req reading) keeps refl refl refl cell;
            shows = shows-next base history lazy player req reading cells keeps touched prepared.cells prepared.reply is;
            replied = reply-is base history lazy player req reading cells keeps touched prepared.cells prepared.reply is;
          };
    }
  where
    copied-within : (copy found : Option Stand) → copy ≡ cond (is_some copy) found None → is_some copy ≡ true → is_some found ≡ true
    copied-within None found is has = absurd (cc has)
    copied-within (Some stand) found is has = ap is_some (sym is)

pub prepared-at : (lazy : LazyUniverse) (player : Player) (req : Request) (reading moment : ℕ) (cells : Held) (prepared : Prepared) → KeepsSome lazy
    → moment ≡ max reading lazy.moment → AreTouched lazy player req moment cells → prepared.moment ≡ moment → AnswersAll lazy player req moment cells prepared.cells prepared.reply
    → IsPrepared lazy player req reading prepared
prepared-at lazy player req reading moment cells prepared keeps at touched same answers =
    is-prepared lazy player req reading cells prepared keeps (subst (λ m. AreTouched lazy player req m cells) at touched) (same ∙ at)
    (subst (λ m. AnswersAll lazy player req m cells prepared.cells prepared.reply) at answers)
