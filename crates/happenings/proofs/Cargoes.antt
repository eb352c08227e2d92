-- What a fleet that lands takes back, by the planet.
use Rattle.std.proofs.Common.{◌≡◌, ℕ, zero, suc, ◌-◌, Bool, true, false, cond, Option, None, Some, refl, ap, ◌∙◌, sym}
use Rattle.std.specs.Prelude.{option_map}
use Rattle.catalog.specs.declared.mission.Mission.{Mission}
use Rattle.catalog.specs.declared.mission.Mission.TheVariants.{Attack, Deploy, Harvest, Transport}
use Rattle.planet_cell.specs.Planet.{fields_of}
use Rattle.rates.specs.Times.{times}
use Rattle.tick_model.specs.Flights.{Landed, arrived, both_cargoes, harvest, landed, moored, turns}
use Rattle.tick_model.specs.Production.{planet_second}
use Rattle.tick_model.specs.Universe.{Fleet, PlanetFields, of_planet}
use Rattle.happenings.specs.Applying.{fields_then}
use Rattle.happenings.specs.declared.held.PlanetCell.{PlanetCell}
use Rattle.tick_model.specs.declared.rules.Rules.{Rules}

-- production leaves debris as it is
debris-second : (speed : ℕ) (planet : PlanetFields) → (planet_second speed planet).debris ≡ planet.debris
unfolding planet_second
debris-second speed planet = refl

debris-times : (n speed : ℕ) (planet : PlanetFields) → (times n (planet_second speed) planet).debris ≡ planet.debris
unfolding times
debris-times zero speed planet = refl
debris-times (suc n) speed planet = debris-second speed (times n (planet_second speed) planet) ∙ debris-times n speed planet

harvest-same : (one other : PlanetFields) (fleet : Fleet) → one.debris ≡ other.debris → harvest one fleet ≡ harvest other fleet
unfolding harvest
harvest-same one other fleet same = λ i. harvest (record one { debris = same i }) fleet

arrived-same : (mission : Mission) (one other : PlanetFields) (fleet : Fleet) → one.debris ≡ other.debris → (arrived mission fleet one).back ≡ (arrived mission fleet other).back
arrived-same Transport one other fleet same = refl
arrived-same Deploy one other fleet same = refl
arrived-same Harvest one other fleet same = ap (λ taken. Some (both_cargoes fleet.cargo taken)) (harvest-same one other fleet same)
arrived-same Attack one other fleet same = refl

back_at : (b : Bool) (one other : PlanetFields) (fleet : Fleet) → one.debris ≡ other.debris
    → (cond b (arrived fleet.mission fleet one) (record { own = of_planet (moored one fleet); back = None })).back
    ≡ (cond b (arrived fleet.mission fleet other) (record { own = of_planet (moored other fleet); back = None })).back
back_at true one other fleet same = arrived-same fleet.mission one other fleet same
back_at false one other fleet same = refl

-- so the cargo that is taken back is the same before and after
pub back-then : (rules : Rules) (second : ℕ) (cell : PlanetCell) (fleet : Fleet)
    → (landed fleet (of_planet (fields_of cell.planet))).back ≡ (landed fleet (of_planet (fields_then rules second cell))).back
back-then rules second cell fleet =
    back_at fleet.outbound (fields_of cell.planet) (fields_then rules second cell) fleet (sym (debris-times (second - cell.second) rules.speed (fields_of cell.planet)))

pub home_back : (fleet : Fleet) (planet : PlanetFields) → fleet.outbound ≡ false → (landed fleet (of_planet planet)).back ≡ None
home_back fleet planet home = ap (λ b. (cond b (arrived fleet.mission fleet planet) (record { own = of_planet (moored planet fleet); back = None })).back) home

pub out_back : (fleet : Fleet) (planet : PlanetFields) (mission : Mission) → fleet.outbound ≡ true → fleet.mission ≡ mission → (landed fleet (of_planet planet)).back ≡ (arrived mission fleet planet).back
out_back fleet planet mission out is =
    ap (λ b. (cond b (arrived fleet.mission fleet planet) (record { own = of_planet (moored planet fleet); back = None })).back) out
    ∙ ap (λ m. (arrived m fleet planet).back) is

pub ruleset backs = (home_back, out_back)

-- one planet stands at a place
pub one-place : {A : Type 0} (a b : A) (o : Option A) → Some a ≡ o → o ≡ Some b → a ≡ b
one-place a b o first second = let both : Some a ≡ Some b = first ∙ second in cc

pub no-place : {A B : Type 0} (a : A) (o : Option A) → None ≡ o → o ≡ Some a → B
no-place a o none some = absurd (let both : None ≡ Some a = none ∙ some in cc)
