-- The planet that stands at a place.
use Rattle.std.proofs.Common.{◌≡◌, ℕ, zero, suc, ◌<◌, true, List, [], ◌∷◌, Result, length, get_or, inl, inr, arith, refl, ap, ◌∙◌, subst, sym}
use Rattle.std.specs.List.Sorted.{IsBinarySearchResult, IsSearchInRange}
use Rattle.std.specs.Ordering.{is_eq}
use Rattle.std.specs.Result.{is_ok}
use Rattle.std.specs.declared.cmp.Ordering.TheVariants.{Equal}
use Rattle.base_bytes.specs.Sound.{places_owned, planets_owned}
use Rattle.base_bytes.specs.Told.{DoRise, IsOwnAt}
use Rattle.base_bytes.proofs.Among.{has-place, in-map, name-once}
use Rattle.base_bytes.proofs.Flying.{owned-by}
use Rattle.base_bytes.proofs.Owned.{place-same, player-same}
use Rattle.base_ids.proofs.Ordering.{coords_ordered}
use Rattle.base_ids.specs.Cells.{same_coord, same_player}
use Rattle.base_ids.specs.Order.{coord_before}
use Rattle.base_ids.specs.declared.coord.Coord.{Coord}
use Rattle.base_ids.specs.declared.player.Player.{Player}
use Rattle.closure.proofs.Comparing.{coord_cmp, coords_follow}
use Rattle.closure.proofs.Searching.{searched}
use Rattle.planet_cell.specs.declared.planet.Planet.{Planet}
use Rattle.tick_model.proofs.Lists.{in-any, in-filter}
use Rattle.tick_model.specs.Rules.{IsIn}

-- what stands at a place of a list is among it
pub at-place : {A : Type 0} (xs : List A) (i : ℕ) (d : A) → i < length xs → IsIn (get_or xs i d) xs
at-place [] i d below = absurd (omega (arith, below))
at-place (x ∷ xs) zero d below = inl refl
at-place (x ∷ xs) (suc i) d below = inr (at-place xs i d (omega (arith, below)))

-- a planet stands at its place, and is its owner's
pub own-there : (planets : List Planet) (i : ℕ) (d : Planet) (at : Coord) → i < length planets → (get_or planets i d).at ≡ at → IsOwnAt planets (get_or planets i d).owner at
own-there planets i d at below same =
    let planet = get_or planets i d in
    let kept = in-filter (λ (p : Planet). same_player p.owner planet.owner) planet planets (at-place planets i d below) (player-same planet.owner planet.owner refl) in
    subst (IsOwnAt planets planet.owner) same
    (has-place planet.at (places_owned planet.owner planets) (in-map (λ (p : Planet). p.at) planet (planets_owned planet.owner planets) kept))

-- it is no other player's
pub one-owner : (planets : List Planet) (i : ℕ) (d : Planet) (owner : Player) (at : Coord) → i < length planets → (get_or planets i d).at ≡ at → DoRise planets → IsOwnAt planets owner at
    → (get_or planets i d).owner ≡ owner
one-owner planets i d owner at below same rise own =
    let there = owned-by owner planets at own in
    let one = name-once (λ (p : Planet). p.at) coord_before coords_ordered.never_itself (get_or planets i d) there.0 planets rise (at-place planets i d below) there.1 (same ∙ sym there.2) in
    ap (λ (p : Planet). p.owner) one ∙ there.3

-- a binary search finds it
pub is-found-there : (planets : List Planet) (owner : Player) (at : Coord) (r : Result ℕ ℕ) → DoRise planets → IsOwnAt planets owner at → IsSearchInRange r (length planets)
    → IsBinarySearchResult (λ (p : Planet). coord_cmp p.at at) planets r → is_ok r ≡ true
is-found-there planets owner at r rise own within result =
    let there = owned-by owner planets at own in
    searched (λ (p : Planet). p.at) coord_cmp coord_before same_coord coords_follow planets planets at r rise refl within result
    ∙ in-any (λ (p : Planet). same_coord at p.at) there.0 planets there.1 (place-same at there.0.at (sym there.2))

-- places that compare equal are one
pub equal-one : (a b : Coord) → coord_cmp a b ≡ Equal → a ≡ b
equal-one a b equal = coords_follow.one a b (sym (coords_follow.tied a b) ∙ ap is_eq equal)
