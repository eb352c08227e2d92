-- What the parts of a base tell of the whole.
use Rattle.std.proofs.Common.{◌≡◌, Bool, true, false, cond, List, [], ◌∷◌, ◌++◌, All, get_or, map, arith, refl, ap, ◌∙◌, subst, sym}
use Rattle.std.specs.List.{AllZip, Contains, flat_map}
use Rattle.std.proofs.lemmas.List.Elements.{AllZip-get_or, length_all_zip}
use Rattle.account_cell.specs.declared.account.Account.{Account}
use Rattle.base_bytes.specs.Spelling.{account_bytes, base_spelling, counts_bytes, fleet_bytes, planet_bytes, rules_bytes}
use Rattle.base_bytes.specs.Sound.{places_owned, planets_owned}
use Rattle.base_bytes.specs.Told.{AreAlike, AreSame, DoRise, FleetFits}
use Rattle.base_bytes.specs.declared.base.Base.{Base}
use Rattle.base_ids.specs.Cells.{same_player}
use Rattle.base_ids.specs.Order.{coord_before}
use Rattle.base_ids.specs.declared.coord.Coord.{Coord}
use Rattle.base_ids.specs.declared.player.Player.{Player}
use Rattle.fleet_rec.specs.declared.fleet.Fleet.{Fleet}
use Rattle.planet_cell.specs.declared.planet.Planet.{Planet}

-- the parts of a base's bytes, one behind another
pub base-parts : (base : Base) → base_spelling base
    ≡ rules_bytes base ++ (counts_bytes base ++ (flat_map account_bytes base.accounts.items ++ (flat_map planet_bytes base.planets.items ++ (flat_map fleet_bytes base.fleets ++ []))))
unfolding base_spelling
base-parts base = refl

-- what is alike to what is alike is alike
pub alike-through : (first second third : List Account) → AllZip AreAlike first second → AllZip AreAlike second third → AllZip AreAlike first third
alike-through [] [] [] one other = tt
alike-through [] [] (z ∷ third) one other = absurd other
alike-through [] (y ∷ second) third one other = absurd one
alike-through (x ∷ first) [] third one other = absurd one
alike-through (x ∷ first) (y ∷ second) [] one other = absurd other
alike-through (x ∷ first) (y ∷ second) (z ∷ third) one other = (
  record {
    player = other.0.player ∙ one.0.player;
    techs = other.0.techs ∙ one.0.techs;
    units = other.0.units ∙ one.0.units;
    research = other.0.research ∙ one.0.research;
  },
  alike-through first second third one.1 other.1,
)

place-at : (b : Bool) (x y : Planet) (xs ys : List Planet) → y.at ≡ x.at → map (λ (planet : Planet). planet.at) ys ≡ map (λ (planet : Planet). planet.at) xs
    → map (λ (planet : Planet). planet.at) (cond b (y ∷ ys) ys) ≡ map (λ (planet : Planet). planet.at) (cond b (x ∷ xs) xs)
place-at true x y xs ys same rest = λ i. same i ∷ rest i
place-at false x y xs ys same rest = rest

-- of planets that are the same a player has the same places
pub places-same : (player : Player) (first second : List Planet) → AllZip AreSame first second → places_owned player second ≡ places_owned player first
places-same player [] [] same = refl
places-same player [] (y ∷ second) same = absurd same
places-same player (x ∷ first) [] same = absurd same
places-same player (x ∷ first) (y ∷ second) same =
    ap (λ (owner : Player). map (λ (planet : Planet). planet.at) (cond (same_player owner player) (y ∷ planets_owned player second) (planets_owned player second))) same.0.owner
    ∙ place-at (same_player x.owner player) x y (planets_owned player first) (planets_owned player second) same.0.at (places-same player first second same.1)

-- if the ones rise, so do the others
pub rise-same : (first second : List Planet) → AllZip AreSame first second → DoRise first → DoRise second
rise-same first second same rise = λ i j d before below.
    let long = length_all_zip AreSame first second same in
    let one = AllZip-get_or AreSame first second i d d same (omega (arith, below, before, long)) in
    let other = AllZip-get_or AreSame first second j d d same (omega (arith, below, long)) in
    subst (λ (at : Coord). coord_before at (get_or second j d).at ≡ true) (sym one.at)
    (subst (λ (at : Coord). coord_before (get_or first i d).at at ≡ true) (sym other.at) (rise i j d before (omega (arith, below, long))))

-- fleets that fit with the ones fit with the others
pub fleets-fit : (held : List Fleet) (first second : List Planet) → AllZip AreSame first second → All (FleetFits first) held → All (FleetFits second) held
fleets-fit held first second same fits = λ i d below.
    let fit = fits i d below in
    let fleet = get_or held i d in
    record {
      in_time = fit.in_time;
      target = subst (λ (places : List Coord). Contains places fleet.target) (sym (places-same fleet.target_owner first second same)) fit.target;
    }
