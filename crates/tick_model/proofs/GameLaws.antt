-- The game as it ticks meets the laws of laziness.
use Rattle.laziness.specs.Laws.{ModelLaws}
use Rattle.tick_model.specs.Game.{game}
use Rattle.tick_model.specs.Universe.{Setting}
use Rattle.tick_model.proofs.EventLaws as Events
use Rattle.tick_model.proofs.Requesting as Requests

pub game_laws : (setting : Setting) → ModelLaws (game setting)
game_laws setting = record {
  gains_none = Events.gains_none setting;
  gains_more = Events.gains_more setting;
  gains_keep = Events.gains_keep setting;
  gains_make_none = Events.gains_make_none setting;
  gains_bring = Events.gains_bring setting;
  advanced = Events.advanced setting;
  advance_fine = Events.advance_fine setting;
  advance_count = Events.advance_count setting;
  advance_measure = Events.advance_measure setting;
  advance_asks = Events.advance_asks setting;
  sooner_first = Events.sooner_first setting;
  first_sooner = Events.first_sooner setting;
  one = Events.one setting;
  home = Events.home setting;
  depends = Events.depends setting;
  outside = Events.outside setting;
  arises = Events.arises setting;
  closure = Events.closure setting;
  widens = Events.widens setting;
  asks_after = Events.asks_after setting;
  effect_count = Events.effect_count setting;
  effect_fine = Events.effect_fine setting;
  falls = Events.falls setting;
  next_found = Events.next_found setting;
  none_found = Events.none_found setting;
  asked_listed = Requests.asked_listed setting;
  brought_listed = Requests.brought_listed setting;
  asks_within = Requests.asks_within setting;
  reply_depends = Requests.reply_depends setting;
  act_depends = Requests.act_depends setting;
  act_outside = Requests.act_outside setting;
  act_arises = Requests.act_arises setting;
  act_count = Requests.act_count setting;
  act_fine = Requests.act_fine setting;
}
