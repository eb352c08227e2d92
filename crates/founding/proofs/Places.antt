-- The places of a player's planets.
use Rattle.std.proofs.Common.{◌≡◌, suc, Bool, true, false, cond, List, [], ◌∷◌, length, filter, ap, ◌∙◌, sym, refl, Some}
use Rattle.std.specs.Prelude.{if◌then◌else◌, map}
use Rattle.std.specs.List.{AllByRecursion}
use Rattle.std.proofs.lemmas.List.{length-map}
use Rattle.std.proofs.lemmas.List.Sums.{length-filter}
use Rattle.base_ids.proofs.Ordering.{coords_ordered}
use Rattle.base_ids.specs.Cells.{same_coord, same_player}
use Rattle.base_ids.specs.Order.{coord_before}
use Rattle.base_ids.specs.declared.coord.Coord.{Coord}
use Rattle.base_ids.specs.declared.player.Player.{Player}
use Rattle.founding.specs.DraftMaps.{places_of}
use Rattle.founding.specs.Drafts.{planet_at, planet_before, planets_of, put, replaced, DraftPlanet}
use Rattle.founding.proofs.Rising.{all-passed, Rises}

-- they are as many as the planets
pub places-counted : (player : Player) (planets : List DraftPlanet) → length (places_of player planets) ≡ planets_of player planets
places-counted player planets =
    length-map (filter (λ (p : DraftPlanet). same_player p.own.owner player) planets) (λ (p : DraftPlanet). p.at) ∙ length-filter (λ (p : DraftPlanet). same_player p.own.owner player) planets

put-first : (at : Coord) (places : List Coord) → AllByRecursion (λ place. coord_before at place ≡ true) places → put coord_before at places ≡ at ∷ places
put-first at [] above = refl
put-first at (place ∷ places) (first, later) = ap (λ b. if b then at ∷ place ∷ places else place ∷ put coord_before at places) first

places-above : (player : Player) (at : Coord) (planets : List DraftPlanet) → AllByRecursion (λ planet. coord_before at planet.at ≡ true) planets → AllByRecursion (λ place. coord_before at place ≡ true) (places_of player planets)
places-above player at [] above = tt
places-above player at (planet ∷ planets) (first, later) = either (same_player planet.own.owner player) (places-above player at planets later)
  where
    either : (b : Bool) → AllByRecursion (λ place. coord_before at place ≡ true) (places_of player planets) → AllByRecursion (λ place. coord_before at place ≡ true) (map (λ (p : DraftPlanet). p.at) (cond b (planet ∷ filter (λ (p : DraftPlanet). same_player p.own.owner player) planets) (filter (λ (p : DraftPlanet). same_player p.own.owner player) planets)))
    either true rest = (first, rest)
    either false rest = rest

kept-at : (b : Bool) (planet : DraftPlanet) (kept : List DraftPlanet) → map (λ (p : DraftPlanet). p.at) (cond b (planet ∷ kept) kept) ≡ cond b (planet.at ∷ map (λ (p : DraftPlanet). p.at) kept) (map (λ (p : DraftPlanet). p.at) kept)
kept-at true planet kept = refl
kept-at false planet kept = refl

-- the places of a planet and of those behind it
pub places-first : (player : Player) (planet : DraftPlanet) (planets : List DraftPlanet)
    → places_of player (planet ∷ planets) ≡ cond (same_player planet.own.owner player) (planet.at ∷ places_of player planets) (places_of player planets)
places-first player planet planets = kept-at (same_player planet.own.owner player) planet (filter (λ (p : DraftPlanet). same_player p.own.owner player) planets)

front : (b : Bool) (at : Coord) (places : List Coord) → put coord_before at places ≡ at ∷ places → cond b (at ∷ places) places ≡ cond b (put coord_before at places) places
front true at places first = sym first
front false at places first = refl

behind : (b d : Bool) (at other : Coord) (places changed : List Coord) → coord_before at other ≡ false → changed ≡ cond b (put coord_before at places) places
    → cond d (other ∷ changed) changed ≡ cond b (put coord_before at (cond d (other ∷ places) places)) (cond d (other ∷ places) places)
behind true true at other places changed after rest = ap (λ l. other ∷ l) rest ∙ ap (λ c. if c then at ∷ other ∷ places else other ∷ put coord_before at places) (sym after)
behind true false at other places changed after rest = rest
behind false true at other places changed after rest = ap (λ l. other ∷ l) rest
behind false false at other places changed after rest = rest

-- a planet that comes to its place among planets that rise comes to its place among those of its owner
pub places-put : (player : Player) (new : DraftPlanet) (planets : List DraftPlanet) → Rises planet_before planets
    → places_of player (put planet_before new planets) ≡ cond (same_player new.own.owner player) (put coord_before new.at (places_of player planets)) (places_of player planets)
places-put player new [] rises = places-first player new []
places-put player new (planet ∷ planets) (above, rises) = either (coord_before new.at planet.at) refl (places-put player new planets rises)
  where
    either : (c : Bool) → coord_before new.at planet.at ≡ c
        → places_of player (put planet_before new planets) ≡ cond (same_player new.own.owner player) (put coord_before new.at (places_of player planets)) (places_of player planets)
        → places_of player (if c then new ∷ planet ∷ planets else planet ∷ put planet_before new planets)
        ≡ cond (same_player new.own.owner player) (put coord_before new.at (places_of player (planet ∷ planets))) (places_of player (planet ∷ planets))
    either true before rest =
        let passed = all-passed planet_before new planet planets (λ y. coords_ordered.transitive new.at planet.at y.at) before above in
        places-first player new (planet ∷ planets)
        ∙ front (same_player new.own.owner player) new.at (places_of player (planet ∷ planets)) (put-first new.at (places_of player (planet ∷ planets)) (places-above player new.at (planet ∷ planets) (before, passed)))
    either false after rest =
        places-first player planet (put planet_before new planets)
        ∙ behind (same_player new.own.owner player) (same_player planet.own.owner player) new.at planet.at (places_of player planets) (places_of player (put planet_before new planets)) after rest
        ∙ (λ i. cond (same_player new.own.owner player) (put coord_before new.at (sym (places-first player planet planets) i)) (sym (places-first player planet planets) i))

-- a planet of the same owner at the same place leaves the places
pub places-replaced : (player : Player) (new old : DraftPlanet) (planets : List DraftPlanet) → planet_at new.at planets ≡ Some old → new.at ≡ old.at → new.own.owner ≡ old.own.owner
    → places_of player (replaced new planets) ≡ places_of player planets
places-replaced player new old [] stands place owner = refl
places-replaced player new old (planet ∷ planets) stands place owner = either (same_coord planet.at new.at) stands (λ found. places-replaced player new old planets found place owner)
  where
    either : (b : Bool) → cond b (Some planet) (planet_at new.at planets) ≡ Some old → (planet_at new.at planets ≡ Some old → places_of player (replaced new planets) ≡ places_of player planets)
        → places_of player (if b then new ∷ planets else planet ∷ replaced new planets) ≡ places_of player (planet ∷ planets)
    either true found rest =
        let one : planet ≡ old = cc in
        let same_place : new.at ≡ planet.at = place ∙ ap (λ (p : DraftPlanet). p.at) (sym one) in
        let same_owner : new.own.owner ≡ planet.own.owner = owner ∙ ap (λ (p : DraftPlanet). p.own.owner) (sym one) in
        places-first player new planets ∙ (λ i. cond (same_player (same_owner i) player) (same_place i ∷ places_of player planets) (places_of player planets)) ∙ sym (places-first player planet planets)
    either false found rest =
        places-first player planet (replaced new planets)
        ∙ ap (λ l. cond (same_player planet.own.owner player) (planet.at ∷ l) l) (rest found)
        ∙ sym (places-first player planet planets)

pub length-replaced : (new : DraftPlanet) (planets : List DraftPlanet) → length (replaced new planets) ≡ length planets
length-replaced new [] = refl
length-replaced new (planet ∷ planets) = either (same_coord planet.at new.at) (length-replaced new planets)
  where
    either : (b : Bool) → length (replaced new planets) ≡ length planets → length (if b then new ∷ planets else planet ∷ replaced new planets) ≡ length (planet ∷ planets)
    either true rest = refl
    either false rest = ap suc rest
