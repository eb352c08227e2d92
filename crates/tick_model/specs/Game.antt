-- The game as a ticking model: what the theory of laziness asks for, each by its definition.
use Rattle.std.specs.Prelude.{◌≡◌, ℕ, ◌+◌, List, [], ◌∷◌, Bool, true, false, nat_le, sum_by, ◌&&◌, ◌||◌, if◌then◌else◌}
use Rattle.std.specs.List.{list_any}
use Rattle.base_ids.specs.Cells.{same_cell}
use Rattle.base_ids.specs.Order.{key_before}
use Rattle.base_ids.specs.declared.cell_id.CellId.{CellId}
use Rattle.base_ids.specs.declared.cell_id.CellId.TheVariants.{Account}
use Rattle.request_text.specs.declared.entry.Entry.{Entry}
use Rattle.reply_text.specs.declared.reply.Reply.{Reply}
use Rattle.laziness.specs.Model.{Model}
use Rattle.tick_model.specs.Events.{Event, Owes, effect, footprint, home, is_payer, key_of, next_event, second_of}
use Rattle.tick_model.specs.Production.{advance, gains}
use Rattle.tick_model.specs.Requests.{asked}
use Rattle.tick_model.specs.Rules.{KeepsRules}
use Rattle.tick_model.specs.Step.{step}
use Rattle.tick_model.specs.Universe.{Own, of_planet, Researches, Fleet, Item, Setting, State}
use Rattle.tick_model.specs.Views.{View, belongs, view}

-- a planet can't be brought to a second without its owner's account
abbrev pub own_brings : Own → CellId → Bool
own_brings (of_planet planet) cell = same_cell (Account planet.owner) cell
own_brings _ cell = false

-- nor an account by whose research that is done by then others can start, without the planets that are to pay these
abbrev pub research_brings : ℕ → List Item → CellId → Bool
research_brings second [] cell = false
research_brings second (item ∷ later) cell = nat_le item.second second && is_payer Researches later cell

-- nor a cell to which a fleet belongs that lands by then, without all cells of the fleet
abbrev pub fleets_bring : ℕ → List Fleet → CellId → Bool
fleets_bring second fleets cell = list_any (λ fleet. nat_le fleet.second second && belongs cell fleet) fleets

-- the cells without which a cell can't be brought to a second
abbrev pub brings : View → ℕ → CellId → Bool
brings seen second cell =
    own_brings seen.own cell || research_brings second (seen.queue Researches) cell || fleets_bring second seen.fleets cell

-- how many events of these items can still come: one for each building and research, and one for each unit
abbrev pub events_left : List Item → ℕ
events_left items = sum_by (λ item. 1 + item.left) items

-- how often these fleets can still land: two times on their way out, and once on their way back
abbrev pub landings_left : List Fleet → ℕ
landings_left fleets = sum_by (λ fleet. if fleet.outbound then 2 else 1) fleets

abbrev pub game : Setting → Model
game setting = record {
  Universe = State;
  Id = CellId;
  View = View;
  view = view setting.cells;
  ids = setting.cells;
  Event = Event;
  second_of = second_of;
  home = home;
  Owes = Owes;
  footprint = footprint;
  Before = λ one other. key_before (key_of one) (key_of other) ≡ true;
  effect = effect setting;
  next = next_event setting;
  measure = λ state. events_left state.items + landings_left state.fleets;
  gains = gains setting.rules;
  advance = advance setting;
  Ask = Entry;
  Reply = Reply;
  Entry = Entry;
  moment_of = λ entry. entry.moment;
  ask_of = λ entry. entry;
  asks = λ entry seen. asked setting.cells seen entry.player entry.req;
  brings = brings;
  act = λ entry moment state. (step setting entry.player entry.req moment state).state;
  reply = λ entry moment state. (step setting entry.player entry.req moment state).reply;
  count = λ state. state.number;
  Fine = KeepsRules setting;
}
