-- One request. Rule: docs/RULES.md, "Time and order".
use Rattle.std.specs.Prelude.{ℕ, ◌+◌}
use Rattle.base_ids.specs.declared.player.Player.{Player}
use Rattle.request_text.specs.declared.request.Request.{Request}
use Rattle.reply_text.specs.declared.reply.Reply.{Reply}
use Rattle.tick_model.specs.Changes.{write}
use Rattle.tick_model.specs.Requests.{Sight, asked, outcome}
use Rattle.tick_model.specs.Universe.{Setting, State}
use Rattle.tick_model.specs.Views.{shown, view}

-- what a request can go by that acts at a moment: the cells that it asks for are shown to it, and it has the next number
abbrev pub sight_of : Setting → Player → Request → ℕ → State → Sight
sight_of setting player req moment state =
    let seen = view setting.cells state in
    record {
      rules = setting.rules;
      cells = setting.cells;
      number = state.number + 1;
      moment = moment;
      seen = shown (asked setting.cells seen player req) seen;
    }

-- the state after a request, and the reply
pub record Stepped : Type 0 where
  pub state : State
  pub reply : Reply

-- One request acts at a moment. A request that is refused changes nothing but the last number.
unfoldable pub step : Setting → Player → Request → ℕ → State → Stepped
step setting player req moment state =
    let came = outcome (sight_of setting player req moment state) player req in
    record {
      state = record (write (asked setting.cells (view setting.cells state) player req) came.change state) { number = state.number + 1 };
      reply = record { number = state.number + 1; moment = moment; code = came.answer.code; body = came.answer.body };
    }
