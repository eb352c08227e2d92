-- The orders of the maps are those of players and places.
use Rattle.std.proofs.Common.{◌≡◌, ℕ, Bool, true, false, eqb, ltb, ap, ◌∙◌, sym, refl, arith}
use Rattle.std.specs.Prelude.{◌&&◌, ◌||◌}
use Rattle.std.specs.Ordering.{is_eq, is_lt, nat_cmp, ordering_then}
use Rattle.std.specs.declared.cmp.Ordering.{Ordering}
use Rattle.std.specs.declared.cmp.Ordering.TheVariants.{Less, Equal, Greater}
use Rattle.std.proofs.lemmas.Bool.Decides.{nat_tests}
use Rattle.base_bytes.proofs.Owned.{place-one}
use Rattle.base_ids.proofs.Names.{player_is}
use Rattle.base_ids.specs.Cells.{same_coord}
use Rattle.base_ids.specs.Order.{coord_before}
use Rattle.base_ids.specs.declared.coord.Coord.{Coord}
use Rattle.base_ids.specs.declared.player.Player.{Player}
use Rattle.founding.specs.DraftMaps.{place_order, player_order}

pub same_number : (a b : ℕ) → is_eq (nat_cmp a b) ≡ eqb a b
same_number a b = grind (arith, nat_tests)

pub lower_number : (a b : ℕ) → is_lt (nat_cmp a b) ≡ ltb a b
lower_number a b = grind (arith, nat_tests)

both_same : (a b : Ordering) → is_eq (ordering_then a b) ≡ (is_eq a && is_eq b)
both_same Less b = refl
both_same Equal b = refl
both_same Greater b = refl

first_lower : (a b : Ordering) → is_lt (ordering_then a b) ≡ (is_lt a || is_eq a && is_lt b)
first_lower Less b = refl
first_lower Equal b = refl
first_lower Greater b = refl

and_regrouped : (a b c : Bool) → (a && (b && c)) ≡ ((a && b) && c)
and_regrouped true b c = refl
and_regrouped false b c = refl

-- places that the order does not tell apart are the same
pub same_place : (a b : Coord) → is_eq (place_order a b) ≡ same_coord a b
same_place a b =
    both_same (nat_cmp a.g b.g) (ordering_then (nat_cmp a.s b.s) (nat_cmp a.p b.p))
    ∙ ap (λ x. is_eq (nat_cmp a.g b.g) && x) (both_same (nat_cmp a.s b.s) (nat_cmp a.p b.p))
    ∙ ap (λ x. x && (is_eq (nat_cmp a.s b.s) && is_eq (nat_cmp a.p b.p))) (same_number a.g b.g)
    ∙ ap (λ x. eqb a.g b.g && (x && is_eq (nat_cmp a.p b.p))) (same_number a.s b.s)
    ∙ ap (λ x. eqb a.g b.g && (eqb a.s b.s && x)) (same_number a.p b.p)
    ∙ and_regrouped (eqb a.g b.g) (eqb a.s b.s) (eqb a.p b.p)

-- places in order come before one another
pub lower_place : (a b : Coord) → is_lt (place_order a b) ≡ coord_before a b
lower_place a b =
    first_lower (nat_cmp a.g b.g) (ordering_then (nat_cmp a.s b.s) (nat_cmp a.p b.p))
    ∙ ap (λ x. is_lt (nat_cmp a.g b.g) || is_eq (nat_cmp a.g b.g) && x) (first_lower (nat_cmp a.s b.s) (nat_cmp a.p b.p))
    ∙ (λ i. lower_number a.g b.g i || same_number a.g b.g i && (lower_number a.s b.s i || same_number a.s b.s i && lower_number a.p b.p i))

pub flip : (a b : ℕ) → eqb a b ≡ eqb b a
flip a b = grind (arith, nat_tests)

pub flip_place : (a b : Coord) → same_coord a b ≡ same_coord b a
flip_place a b = λ i. flip a.g b.g i && flip a.s b.s i && flip a.p b.p i

pub same_player_is : (a b : Player) → is_eq (player_order a b) ≡ true → a ≡ b
same_player_is a b same = player_is a b (grind (arith, nat_tests, same))

pub same_place_is : (a b : Coord) → is_eq (place_order a b) ≡ true → a ≡ b
same_place_is a b same = place-one a b (sym (same_place a b) ∙ same)
