-- The two sides are sides of a battle.
use Rattle.std.proofs.Common.{◌≡◌, ◌∙◌, ℕ, ◌+◌, ◌≤◌, List, [], ◌∷◌, length, map, replicate, sum, refl, ap, sym, subst, arith, length-append}
use Rattle.std.specs.Prelude.{sum_by}
use Rattle.std.specs.List.Sorted.{IsStrictlyIncreasing}
use Rattle.std.proofs.lemmas.List.Sums.{sum_by-append, sum_by-cons}
use Rattle.std.proofs.lemmas.Simd.{map-map}
use Rattle.battle.proofs.UnitCounts.{length-part, rest_of}
use Rattle.battle.specs.Sides.{IsSide, part_fighters}
use Rattle.battle.specs.declared.part.Part.{Part}
use Rattle.catalog.specs.declared.techs.Techs.{Techs}
use Rattle.raids.specs.Parts.{home_part, raider_part, raider_parts}
use Rattle.raids.specs.declared.aftermath.Raider.{Raider}
use Rattle.tick_model.specs.Battles.{fleet_units}

-- a fleet has as many units as ships
units_ships : (ships : List ℕ) → sum (fleet_units ships) ≡ sum ships
units_ships ships =
    let both : sum (fleet_units ships) ≡ sum ships + 0 = sum_by-append (λ (n : ℕ). n) ships (replicate 9 0) in
    omega (arith, both)

raider_fighters : (place : ℕ) (raider : Raider) → length (part_fighters place (raider_part raider)) ≡ sum raider.fleet.ships.n
raider_fighters place raider =
    let all : length (fleet_units raider.fleet.ships.n) ≡ 22 = length-append raider.fleet.ships.n (replicate 9 0) ∙ ap (λ (n : ℕ). n + 9) raider.fleet.ships.kinds in
    length-part place (raider_part raider) all ∙ units_ships raider.fleet.ships.n

rest_fighters : (place : ℕ) (raiders : List Raider) → length (rest_of place (raider_parts raiders)) ≡ sum_by (λ (r : Raider). sum r.fleet.ships.n) raiders
rest_fighters place [] = refl
rest_fighters place (raider ∷ raiders) =
    let first = raider_fighters place raider in
    let later = rest_fighters (place + 1) raiders in
    let both = length-append (part_fighters place (raider_part raider)) (rest_of (place + 1) (raider_parts raiders)) in
    let all = sum_by-cons (λ (r : Raider). sum r.fleet.ships.n) raider raiders in
    omega (arith, first, later, both, all)

pub raiders_side : (raiders : List Raider) → IsStrictlyIncreasing (map (λ raider. raider.fleet.number) raiders) → sum_by (λ (r : Raider). sum r.fleet.ships.n) raiders ≤ 800000
    → IsSide (raider_parts raiders)
raiders_side raiders rising few =
    record {
      numbers = subst IsStrictlyIncreasing (sym (map-map (λ (p : Part). p.number) raider_part raiders)) rising;
      most = let all = rest_fighters 0 raiders in omega (arith, all, few);
    }

one_rises : (x : ℕ) → IsStrictlyIncreasing (x ∷ [])
one_rises x k less = absurd (omega (arith, less))

pub home_side : (units : List ℕ) (techs : Techs) → length units ≡ 22 → sum units ≤ 100000 → IsSide (home_part units techs ∷ [])
home_side units techs all few =
    record {
      numbers = one_rises 0;
      most =
          let counted = length-part 0 (home_part units techs) all in
          let both = length-append (part_fighters 0 (home_part units techs)) [] in
          omega (arith, counted, both, few);
    }
