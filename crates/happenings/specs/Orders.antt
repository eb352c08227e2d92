-- The orders by which cells are kept.
use Rattle.std.specs.Ordering.{nat_cmp, ordering_then}
use Rattle.std.specs.declared.cmp.Ordering.{Ordering}
use Rattle.base_ids.specs.declared.coord.Coord.{Coord}
use Rattle.base_ids.specs.declared.player.Player.{Player}

-- the order of players
abbrev pub player_order : Player → Player → Ordering
player_order a b = nat_cmp a.k b.k

-- the order of places
abbrev pub place_order : Coord → Coord → Ordering
place_order a b = ordering_then (nat_cmp a.g b.g) (ordering_then (nat_cmp a.s b.s) (nat_cmp a.p b.p))
