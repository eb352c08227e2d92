use Rattle.std.proofs.Common.{◌≡◌, true, map, ap, ◌∙◌, sym, subst}
use Rattle.std.specs.Prelude.{AllPairs}
use Rattle.base_ids.specs.Order.{coord_before, player_before}
use Rattle.base_ids.specs.declared.player.Player.{Player}
use Rattle.closure.specs.declared.spot.Spot.{Spot}
use Rattle.lazy.specs.Beginning.{player_of, spot_of}
use Rattle.lazy.proofs.Filling.{pairs-map}
use Rattle.lazy.proofs.beginning.places_of.Goals as goal

pub invariant_of-result : goal.invariant_of-result
invariant_of-result c =
    let base = c.args.base.now in
    let players = c.in_ok-players_of.ensures ∙ ap (map player_of) c.deref.ensures.value in
    let planets = c.in_ok-spots_of.ensures ∙ ap (map spot_of) c.deref-2.ensures.value in
    record {
      players_rise = subst (AllPairs (λ (one other : Player). player_before one other ≡ true)) (sym players)
          (pairs-map player_of (λ one other. player_before one other ≡ true) base.accounts.items c.requires.accounts_rise);
      planets_rise = subst (AllPairs (λ (one other : Spot). coord_before one.at other.at ≡ true)) (sym planets)
          (pairs-map spot_of (λ one other. coord_before one.at other.at ≡ true) base.planets.items c.requires.planets_rise);
    }
