-- A plan that got its number, for an item or a fleet.
use Rattle.std.proofs.Common.{◌≡◌, ℕ, ◌+◌, Bool, true, false, cond, refl, ap, ◌∙◌, sym, subst, Option, Some, None}
use Rattle.std.specs.Prelude.{IfSome, is_some, option_map}
use Rattle.base_ids.specs.Cells.{same_cell}
use Rattle.base_ids.specs.declared.cell_id.CellId.{CellId}
use Rattle.base_ids.specs.declared.player.Player.{Player}
use Rattle.fleet_rec.specs.Fleet.{fleet_seen}
use Rattle.happenings.specs.Held.{IsNamed, ShowsCell, Stand, held_at, holds}
use Rattle.happenings.specs.Numbering.{fleet_numbered, numbered_stand}
use Rattle.happenings.specs.Queues.{class_of, home_of}
use Rattle.happenings.specs.declared.held.Held.{Held}
use Rattle.laziness.specs.Stamps.{Stamps, request_acts}
use Rattle.lazy.specs.Planning.{IsAnswered}
use Rattle.lazy.specs.Plans.{IsPlan, ordered_at, reply_with}
use Rattle.lazy.specs.declared.ordered.Ordered.{Ordered}
use Rattle.lazy.specs.declared.ordered.Ordered.TheVariants.{Item as ItemOrdered, Fleet as FleetSent}
use Rattle.lazy.specs.declared.planning.Plan.{Plan}
use Rattle.request_text.specs.declared.request.Request.{Request}
use Rattle.tick_model.specs.Game.{game}
use Rattle.tick_model.specs.Universe.{Setting}
use Rattle.tick_model.specs.Views.{belongs}

still-held : (b : Bool) (g : Stand → Stand) (o : Option Stand) → is_some (cond b (option_map g o) o) ≡ is_some o
still-held true g None = refl
still-held true g (Some stand) = refl
still-held false g o = refl

ordered-held : (number : ℕ) (ordered : Option Ordered) (held : Held) (cell : CellId) → is_some (ordered_at number ordered held cell) ≡ holds held cell
ordered-held number None held cell = refl
ordered-held number (Some (ItemOrdered queue)) held cell = still-held (same_cell (home_of queue) cell) (numbered_stand number (class_of queue)) (held_at held cell)
ordered-held number (Some (FleetSent fleet)) held cell = still-held (belongs cell (fleet_seen fleet)) (fleet_numbered number) (held_at held cell)

-- the cells and the reply are the answer
pub plan-finished : (setting : Setting) (f : Stamps (game setting)) (held : Held) (player : Player) (req : Request) (moment number : ℕ) (plan : Plan) (cells : Held)
    → ((cell : CellId) → held_at cells cell ≡ ordered_at number plan.ordered plan.cells cell) → (IsNamed plan.cells → IsNamed cells)
    → IsPlan setting held player req moment f plan → IsAnswered setting held player req moment number f cells (reply_with number plan)
plan-finished setting f held player req moment number plan cells numbers named is = record {
  same = λ cell. ap is_some (numbers cell) ∙ ordered-held number plan.ordered plan.cells cell ∙ is.same cell;
  named = named is.named;
  shows = λ entry is_player is_req next cell.
      subst (λ (o : Option Stand). IfSome o (ShowsCell setting (request_acts (game setting) (holds held) moment entry f) cell)) (sym (numbers cell)) (is.shows number entry next is_player is_req cell);
  replied = is.replied number;
}
