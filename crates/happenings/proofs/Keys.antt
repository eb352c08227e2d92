-- What the orders of players and places say of equality, and what a map finds.
use Rattle.std.proofs.Common.{◌≡◌, ℕ, Bool, true, false, cond, eqb, List, [], ◌∷◌, ◌&&◌, ap, ◌∙◌, sym, refl, subst, arith, Option, Some}
use Rattle.std.proofs.Common.{◌+◌, ◌<◌, ◌++◌, length, get_or}
use Rattle.std.proofs.Math.Seq.{get_or-append_seam}
use Rattle.std.proofs.lemmas.List.{length-append}
use Rattle.std.proofs.lemmas.Bool.Decides.{nat_tests}
use Rattle.std.specs.BTreeMap.{is_at}
use Rattle.std.specs.List.{AllByRecursion}
use Rattle.std.specs.Map.{lookup}
use Rattle.std.specs.Ordering.{is_eq, nat_cmp, ordering_then}
use Rattle.std.specs.declared.cmp.Ordering.{Ordering}
use Rattle.std.specs.declared.cmp.Ordering.TheVariants.{Less, Equal, Greater}
use Rattle.base_ids.specs.Cells.{same_coord, same_player}
use Rattle.base_ids.specs.declared.cell_id.CellId.TheVariants.{Account, Planet}
use Rattle.base_ids.specs.declared.coord.Coord.{Coord}
use Rattle.base_ids.specs.declared.player.Player.{Player}
use Rattle.tick_model.proofs.Lists.{cell-is}
use Rattle.happenings.specs.Orders.{place_order, player_order}

same_number : (a b : ℕ) → is_eq (nat_cmp a b) ≡ eqb a b
same_number a b = grind (arith, nat_tests)

both_same : (a b : Ordering) → is_eq (ordering_then a b) ≡ (is_eq a && is_eq b)
both_same Less b = refl
both_same Equal b = refl
both_same Greater b = refl

and_regrouped : (a b c : Bool) → (a && (b && c)) ≡ ((a && b) && c)
and_regrouped true b c = refl
and_regrouped false b c = refl

-- players, and places, that the order does not tell apart are the same
pub at_player : (a b : Player) → is_at (player_order a) b ≡ same_player a b
at_player a b = same_number a.k b.k

pub at_place : (a b : Coord) → is_at (place_order a) b ≡ same_coord a b
at_place a b =
    both_same (nat_cmp a.g b.g) (ordering_then (nat_cmp a.s b.s) (nat_cmp a.p b.p))
    ∙ ap (λ x. is_eq (nat_cmp a.g b.g) && x) (both_same (nat_cmp a.s b.s) (nat_cmp a.p b.p))
    ∙ ap (λ x. x && (is_eq (nat_cmp a.s b.s) && is_eq (nat_cmp a.p b.p))) (same_number a.g b.g)
    ∙ ap (λ x. eqb a.g b.g && (x && is_eq (nat_cmp a.p b.p))) (same_number a.s b.s)
    ∙ ap (λ x. eqb a.g b.g && (eqb a.s b.s && x)) (same_number a.p b.p)
    ∙ and_regrouped (eqb a.g b.g) (eqb a.s b.s) (eqb a.p b.p)

pub place_is : (a b : Coord) → is_at (place_order a) b ≡ true → a ≡ b
place_is a b is = let same : Planet a ≡ Planet b = cell-is (Planet a) (Planet b) (sym (at_place a b) ∙ is) in cc

found_at : {K X : Type 0} (test : K → Bool) (P : K × X → Type 0) (b : Bool) (e : K × X) (rest : Option X) (x : X) → test e.0 ≡ b → cond b (Some e.1) rest ≡ Some x
    → P e → (rest ≡ Some x → (k : K) × (test k ≡ true) × P (k, x)) → (k : K) × (test k ≡ true) × P (k, x)
found_at test P true e rest x is found first later = let same : e.1 ≡ x = cc in (e.0, is, subst (λ (y : _). P (e.0, y)) same first)
found_at test P false e rest x is found first later = later found

-- what holds of each entry holds of the one that is found
pub found_holds : {K X : Type 0} (test : K → Bool) (P : K × X → Type 0) (entries : List (K × X)) (x : X) → AllByRecursion P entries → lookup test entries ≡ Some x
    → (k : K) × (test k ≡ true) × P (k, x)
found_holds test P [] x all found = absurd (cc found)
found_holds test P (e ∷ es) x (first, later) found = found_at test P (test e.0) e (lookup test es) x refl found first (λ f. found_holds test P es x later f)

-- what holds of each element of a list holds of one that stands in it
pub holds_within : {A : Type 0} (P : A → Type 0) (xs ys zs : List A) (y : A) → ((k : ℕ) (d : A) → k < length zs → P (get_or zs k d)) → xs ++ y ∷ ys ≡ zs → P y
holds_within P xs ys zs y all parts =
    let long : length zs ≡ length xs + length (y ∷ ys) = sym (ap length parts) ∙ length-append xs (y ∷ ys) in
    let some : 0 < length (y ∷ ys) = omega arith in
    let within : length xs < length zs = omega arith in
    subst P (ap (λ l. get_or l (length xs) y) (sym parts) ∙ get_or-append_seam xs y ys y) (all (length xs) y within)

pub player_at_is : (a b : Player) → is_at (player_order a) b ≡ true → a ≡ b
player_at_is a b is = let same : Account a ≡ Account b = cell-is (Account a) (Account b) (sym (at_player a b) ∙ is) in cc
