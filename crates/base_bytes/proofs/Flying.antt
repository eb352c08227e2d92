-- The fleets of a sound base fly between its planets.
use Rattle.std.proofs.Common.{◌≡◌, ℕ, ◌<◌, ◌≤◌, inl, inr, Bool, true, false, eqb, List, [], ◌∷◌, arith, ap, ◌∙◌, sym, subst}
use Rattle.std.specs.Prelude.{AllPairs}
use Rattle.std.specs.List.{Contains}
use Rattle.std.proofs.lemmas.Bool.Decides.{nat_tests}
use Rattle.std.proofs.lemmas.List.Elements.{All-contains}
use Rattle.base_bytes.specs.Base.{own_planet, universe_of}
use Rattle.base_bytes.specs.Sound.{IsInGroup, IsSound, IsSoundFleet, places_owned, planets_owned}
use Rattle.base_bytes.specs.declared.base.Base.{Base}
use Rattle.base_bytes.proofs.Among.{from-map, has-place, is-among, pairs-first, pairs-later}
use Rattle.base_bytes.proofs.Owned.{planet-found, player-one}
use Rattle.base_ids.specs.Cells.{same_player}
use Rattle.base_ids.specs.declared.cell_id.CellId.TheVariants.{Planet as PlanetId}
use Rattle.base_ids.specs.declared.coord.Coord.{Coord}
use Rattle.base_ids.specs.declared.player.Player.{Player}
use Rattle.catalog.specs.declared.mission.Mission.{Mission}
use Rattle.catalog.specs.declared.mission.Mission.TheVariants.{Transport, Deploy, Harvest, Attack}
use Rattle.planet_cell.specs.Planet.{fields_of}
use Rattle.planet_cell.specs.declared.planet.Planet.{Planet}
use Rattle.tick_model.proofs.Lists.{any-none, from-filter}
use Rattle.tick_model.specs.Rules.{AreApart, AreTogether, ArriveTogether, DoRise, IsFlying, IsIn, same_flight}
use Rattle.tick_model.specs.Sending.{suits}
use Rattle.tick_model.specs.Universe.{Fleet, of_planet}

-- the planets of a player are the player's
pub owned-by : (player : Player) (planets : List Planet) (at : Coord) → Contains (places_owned player planets) at
    → (planet : Planet) × IsIn planet planets × (planet.at ≡ at) × (planet.owner ≡ player)
owned-by player planets at has =
    let comes = from-map (λ (p : Planet). p.at) at (planets_owned player planets) (is-among at (places_owned player planets) has) in
    let kept = from-filter (λ (p : Planet). same_player p.owner player) comes.0 planets comes.1 in
    (comes.0, kept.0, sym comes.2, player-one comes.0.owner player kept.1)

-- a planet stands for itself
pub stands-here : (base : Base) (planet : Planet) → IsSound base → IsIn planet base.planets.items → (universe_of base).state.own (PlanetId planet.at) ≡ of_planet (fields_of planet)
stands-here base planet sound is = ap own_planet (planet-found base planet sound is)

pub each-fleet : (base : Base) (fleet : Fleet) → IsSound base → IsIn fleet base.fleets → IsSoundFleet base fleet
each-fleet base fleet sound is = All-contains (IsSoundFleet base) base.fleets fleet sound.flying (has-place fleet base.fleets is)

-- a fleet is deployed to a planet of its owner
own-target : (mission : Mission) (is_own : Bool) (ships : List ℕ) → suits mission is_own ships ≡ true → mission ≡ Deploy → is_own ≡ true
own-target mission is_own ships suited same = subst (λ (m : Mission). suits m is_own ships ≡ true) same suited

-- the group of a fleet is its own number or a lower one
group-at : (mission : Mission) (number group : ℕ) → IsInGroup mission number group → group ≤ number
group-at Attack number group grouped = grouped.1
group-at Transport number group grouped = omega (arith, grouped)
group-at Deploy number group grouped = omega (arith, grouped)
group-at Harvest number group grouped = omega (arith, grouped)

group-low : (fleet : Fleet) → IsInGroup fleet.mission fleet.number fleet.group → fleet.group ≤ fleet.number
group-low fleet grouped = group-at fleet.mission fleet.number fleet.group grouped

pub fleet-flies : (base : Base) (fleet : Fleet) → IsSound base → IsIn fleet base.fleets → IsFlying (universe_of base).state fleet
fleet-flies base fleet sound is =
    let rules = each-fleet base fleet sound is in
    let from = owned-by fleet.owner base.planets.items fleet.origin rules.leaves in
    let to = owned-by fleet.target_owner base.planets.items fleet.target rules.reaches in
    record {
      from = fields_of from.0;
      leaves = ap (λ at. (universe_of base).state.own (PlanetId at)) (sym from.2) ∙ stands-here base from.0 sound from.1;
      is_own = from.3;
      to = fields_of to.0;
      reaches = ap (λ at. (universe_of base).state.own (PlanetId at)) (sym to.2) ∙ stands-here base to.0 sound to.1;
      is_theirs = to.3;
      kinds = rules.kinds;
      later = λ out. omega (arith, rules.sent, rules.lands);
      grouped = group-low fleet rules.grouped;
      deployed = λ same. player-one fleet.target_owner fleet.owner (own-target fleet.mission (same_player fleet.target_owner fleet.owner) fleet.ships rules.suited same);
    }

numbers-apart : (m n : ℕ) → m < n → eqb m n ≡ false
numbers-apart m n below = grind (arith, nat_tests)

-- fleets that rise by number are apart
pub fleets-apart : (fleets : List Fleet) → AllPairs (λ first second. first.number < second.number) fleets → AreApart fleets
fleets-apart [] rise = tt
fleets-apart (fleet ∷ fleets) rise = (
  any-none (same_flight fleet) fleets (λ other is. numbers-apart fleet.number other.number (pairs-first (λ (a b : Fleet). a.number < b.number) fleet other fleets rise is)),
  fleets-apart fleets (pairs-later (λ (a b : Fleet). a.number < b.number) fleet fleets rise),
)

-- and their numbers rise
pub fleets-rise : (fleets : List Fleet) → AllPairs (λ first second. first.number < second.number) fleets → DoRise fleets
fleets-rise [] rise = tt
fleets-rise (fleet ∷ fleets) rise = (
  λ other is. pairs-first (λ (a b : Fleet). a.number < b.number) fleet other fleets rise is,
  fleets-rise fleets (pairs-later (λ (a b : Fleet). a.number < b.number) fleet fleets rise),
)

turned : (a b : Fleet) → ArriveTogether a b → ArriveTogether b a
turned a b together out_b out_a group = let both = together out_a out_b (sym group) in (sym both.0, sym both.1)

-- fleets of a group arrive together
pub fleets-together : (fleets : List Fleet) → AllPairs ArriveTogether fleets → AreTogether fleets
fleets-together [] together a b is_a is_b = absurd is_a
fleets-together (fleet ∷ fleets) together a b (inl first) (inl second) =
    let same : a ≡ b = first ∙ sym second in
    λ out_a out_b group. (ap (λ (f : Fleet). f.target) same, ap (λ (f : Fleet). f.second) same)
fleets-together (fleet ∷ fleets) together a b (inl first) (inr second) =
    subst (λ f. ArriveTogether f b) (sym first) (pairs-first ArriveTogether fleet b fleets together second)
fleets-together (fleet ∷ fleets) together a b (inr first) (inl second) =
    subst (ArriveTogether a) (sym second) (turned fleet a (pairs-first ArriveTogether fleet a fleets together first))
fleets-together (fleet ∷ fleets) together a b (inr first) (inr second) =
    fleets-together fleets (pairs-later ArriveTogether fleet fleets together) a b first second
