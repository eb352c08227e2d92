-- An entry, for a step of which nobody says which entry it appends.
use Rattle.std.specs.Prelude.{◌≤◌}
use Rattle.std.proofs.Common.{arith}
use Rattle.base_ids.specs.declared.numbers.TheConstants.{LAST_PLAYER}
use Rattle.base_ids.specs.declared.player.Player.{Player}
use Rattle.request_text.specs.declared.entry.Entry.{Entry}
use Rattle.request_text.specs.declared.request.Request.TheVariants.{Account}

pub first_is_from : 1 ≤ 1
first_is_from = omega arith

pub first_is_to : 1 ≤ LAST_PLAYER
first_is_to = omega arith

abbrev pub some_player : Player
some_player = record { k = 1; from = first_is_from; to = first_is_to }

abbrev pub some_entry : Entry
some_entry = record { number = 0; moment = 0; reading = 0; player = some_player; req = Account }
