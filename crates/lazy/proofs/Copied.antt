-- What is brought of copies of cells, or worked out on them, is of the cells.
use Rattle.std.proofs.Common.{◌≡◌, ℕ, Bool, ap, ◌∙◌, sym, subst}
use Rattle.std.proofs.Math.Path.{fun_ext}
use Rattle.std.specs.Prelude.{IfSome, is_some}
use Rattle.base_ids.specs.declared.cell_id.CellId.{CellId}
use Rattle.base_ids.specs.declared.player.Player.{Player}
use Rattle.closure.specs.declared.places.Places.{Places}
use Rattle.happenings.specs.Held.{IsEqual, Shows, ShowsCell, holds}
use Rattle.happenings.specs.declared.held.Held.{Held}
use Rattle.laziness.specs.Stamps.{Stamps, brought, request_acts}
use Rattle.laziness.specs.Theorems.{CanBring}
use Rattle.lazy.proofs.Coursing.{shows-equal}
use Rattle.lazy.specs.Advancing.{AdvancesIn}
use Rattle.lazy.specs.Planning.{CanAdvance, CanAnswer, HoldsSame}
use Rattle.lazy.specs.Plans.{IsPlan, ordered_at, reply_with}
use Rattle.lazy.specs.declared.planning.Plan.{Plan}
use Rattle.request_text.specs.declared.request.Request.{Request}
use Rattle.tick_model.specs.Game.{game}
use Rattle.tick_model.specs.Step.{step}
use Rattle.tick_model.specs.Universe.{Setting}
use Rattle.tick_model.specs.declared.rules.Rules.{Rules}

module _ (kept : Rules) (held copies : Held) (moment : ℕ) (equal : IsEqual held copies) where
  set-is : holds copies ≡ holds held
  set-is = fun_ext (λ cell. ap is_some (equal cell))

  pub can-advance : (setting : Setting) (f : Stamps (game setting)) → CanAdvance setting kept held moment f → CanAdvance setting kept copies moment f
  can-advance setting f can = record {
    rules = can.rules;
    shows = shows-equal setting held copies f equal can.shows;
    can_bring = subst (λ (S : CellId → Bool). CanBring (game setting) S moment f) (sym set-is) can.can_bring;
  }

  pub advances-alike : (after : Held) → AdvancesIn kept copies moment after → AdvancesIn kept held moment after
  advances-alike after advances setting f can =
      subst (λ (S : CellId → Bool). Shows setting after (brought (game setting) S moment f)) set-is (advances setting f (can-advance setting f can))

  pub same-alike : (after : Held) → HoldsSame copies after → HoldsSame held after
  same-alike after same cell = same cell ∙ ap is_some (equal cell)

  module _ (places : Places) (player : Player) (req : Request) (setting : Setting) (f : Stamps (game setting)) where
    pub can-answer : CanAnswer setting kept places held player req moment f → CanAnswer setting kept places copies player req moment f
    can-answer can = record {
      advance = can-advance setting f can.advance;
      directory = can.directory;
      covers = λ cell asks. ap is_some (equal cell) ∙ can.covers cell asks;
    }

    pub plan-alike : (plan : Plan) → IsPlan setting copies player req moment f plan → IsPlan setting held player req moment f plan
    plan-alike plan is = record {
      same = λ cell. is.same cell ∙ ap is_some (equal cell);
      named = is.named;
      shows = λ number entry next whose what cell.
          subst (λ (S : CellId → Bool). IfSome (ordered_at number plan.ordered plan.cells cell) (ShowsCell setting (request_acts (game setting) S moment entry f) cell)) set-is
          (is.shows number entry next whose what cell);
      replied = λ number next.
          subst (λ (S : CellId → Bool). reply_with number plan ≡ (step setting player req moment (brought (game setting) S moment f).universe).reply) set-is (is.replied number next);
    }
