use Rattle.std.proofs.Common.{◌∙◌}
use Rattle.base_ids.specs.Cells.{same_player}
use Rattle.base_ids.specs.Order.{player_before}
use Rattle.closure.proofs.Comparing.{player_cmp, players_follow}
use Rattle.closure.proofs.Searching.{searched}
use Rattle.closure.proofs.places.Places.has_player.Goals as goal

-- the slice is all players
pub returns : goal.returns
returns c =
    let facts = c.binary_search.ensures in
    c.is_ok.ensures.value
    ∙ searched (λ other. other) player_cmp player_before same_player players_follow c.args.self.now.players.items c.deref.result.now c.args.player _ c.args.self.now.players_rise c.deref.ensures.value facts.bound facts.position
