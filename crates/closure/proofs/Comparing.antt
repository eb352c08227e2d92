-- How players and places compare.
use Rattle.std.proofs.Common.{◌≡◌, ℕ, eqb, ltb, refl, ap, sym, ◌∙◌, arith}
use Rattle.std.specs.Prelude.{◌&&◌, ◌||◌}
use Rattle.std.specs.Ordering.{is_eq, is_lt, nat_cmp, ordering_then}
use Rattle.std.specs.declared.cmp.Ordering.{Ordering}
use Rattle.std.specs.declared.cmp.Ordering.TheVariants.{Less, Equal, Greater}
use Rattle.std.proofs.lemmas.Bool.Decides.{nat_tests}
use Rattle.base_ids.specs.Cells.{same_coord, same_player}
use Rattle.base_ids.specs.Order.{coord_before, player_before}
use Rattle.base_ids.specs.declared.coord.Coord.{Coord}
use Rattle.base_ids.specs.declared.player.Player.{Player}
use Rattle.base_ids.proofs.Ordering.{coords_ordered, players_ordered}
use Rattle.closure.proofs.Sameness.{same_coord_is, same_player_is}
use Rattle.closure.proofs.Searching.{Follows}

same_number : (a b : ℕ) → is_eq (nat_cmp a b) ≡ eqb b a
same_number a b = grind (arith, nat_tests)

lower_number : (a b : ℕ) → is_lt (nat_cmp a b) ≡ ltb a b
lower_number a b = grind (arith, nat_tests)

both_same : (a b : Ordering) → is_eq (ordering_then a b) ≡ (is_eq a && is_eq b)
both_same Less b = refl
both_same Equal b = refl
both_same Greater b = refl

first_lower : (a b : Ordering) → is_lt (ordering_then a b) ≡ (is_lt a || is_eq a && is_lt b)
first_lower Less b = refl
first_lower Equal b = refl
first_lower Greater b = refl

abbrev pub player_cmp : Player → Player → Ordering
player_cmp a b = nat_cmp a.k b.k

pub players_follow : Follows player_cmp player_before same_player
players_follow = record {
  order = players_ordered;
  lower = λ a b. lower_number a.k b.k;
  tied = λ a b. same_number a.k b.k;
  one = λ a b same. sym (same_player_is b a same);
}

abbrev pub coord_cmp : Coord → Coord → Ordering
coord_cmp a b = ordering_then (nat_cmp a.g b.g) (ordering_then (nat_cmp a.s b.s) (nat_cmp a.p b.p))

lower_place : (a b : Coord) → is_lt (coord_cmp a b) ≡ coord_before a b
lower_place a b =
    first_lower (nat_cmp a.g b.g) (ordering_then (nat_cmp a.s b.s) (nat_cmp a.p b.p))
    ∙ ap (λ x. is_lt (nat_cmp a.g b.g) || is_eq (nat_cmp a.g b.g) && x) (first_lower (nat_cmp a.s b.s) (nat_cmp a.p b.p))
    ∙ grind (arith, nat_tests)

same_place : (a b : Coord) → is_eq (coord_cmp a b) ≡ same_coord b a
same_place a b =
    both_same (nat_cmp a.g b.g) (ordering_then (nat_cmp a.s b.s) (nat_cmp a.p b.p))
    ∙ ap (λ x. is_eq (nat_cmp a.g b.g) && x) (both_same (nat_cmp a.s b.s) (nat_cmp a.p b.p))
    ∙ grind (arith, nat_tests)

pub coords_follow : Follows coord_cmp coord_before same_coord
coords_follow = record {
  order = coords_ordered;
  lower = lower_place;
  tied = same_place;
  one = λ a b same. sym (same_coord_is b a same);
}
