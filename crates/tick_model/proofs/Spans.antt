-- How long what is ordered takes, at most.
use Rattle.std.proofs.Common.{ℕ, zero, suc, ◌+◌, ◌-◌, ◌*◌, ◌/◌, ◌^◌, ◌<◌, ◌≤◌, inl, inr, Bool, true, false, cond, eqb, arith, lit≤}
use Rattle.std.specs.Prelude.{IsTrue, nat_le}
use Rattle.std.specs.Int.{abs_diff}
use Rattle.std.proofs.lemmas.Bool.Decides.{nat_tests}
use Rattle.std.proofs.Math.Nat.{div-le_self}
use Rattle.base_ids.specs.declared.coord.Coord.{Coord}
use Rattle.base_num.specs.Division.{ceiling}
use Rattle.base_num.specs.Root.{next_root, root}
use Rattle.base_num.proofs.Quotients.{ceiling_below}
use Rattle.base_num.proofs.Rooting.{root_below}
use Rattle.catalog.specs.Classes.{is_building, is_technology, is_unit}
use Rattle.catalog.specs.Levels.{level_cap_of}
use Rattle.catalog.specs.Technologies.{level_in}
use Rattle.catalog.specs.declared.kind.Kind.{Kind}
use Rattle.catalog.specs.declared.kind.Kind.TheVariants.{MetalMine, Robotics, Nanite, Shipyard, Lab}
use Rattle.flight.specs.Distances.{distance_in_system, distance_of}
use Rattle.flight.specs.Speeds.{fleet_speed}
use Rattle.flight.specs.Times.{flight_seconds, pace, way}
use Rattle.prices.proofs.Longest.{building_seconds_within, technology_seconds_within, unit_seconds_within}
use Rattle.tick_model.specs.Buildings.{next_duration, next_price}
use Rattle.tick_model.specs.Production.{level_of}
use Rattle.tick_model.specs.Researches.{research_duration, research_price}
use Rattle.tick_model.specs.Sending.{Errand, seconds_to}
use Rattle.tick_model.specs.Universe.{AccountFields, PlanetFields}
use Rattle.tick_model.specs.Yards.{unit_duration}

-- no level of a building takes longer than 2^29 seconds
pub duration-most : (speed : ℕ) (planet : PlanetFields) (kind : Kind) → IsTrue (is_building kind) → level_of planet kind < level_cap_of kind → 1 ≤ speed → next_duration speed planet kind ≤ 2 ^ 29
unfolding next_duration next_price
duration-most speed planet kind class below some =
    building_seconds_within kind (level_of planet kind + 1) (level_of planet Robotics) (level_of planet Nanite) speed class (omega arith) some

-- no level of a technology takes longer than 2^36 seconds
pub research-most : (speed : ℕ) (account : AccountFields) (planet : PlanetFields) (kind : Kind) → IsTrue (is_technology kind) → level_in account.techs.n kind < level_cap_of kind → 1 ≤ speed
    → research_duration speed account planet kind ≤ 2 ^ 36
unfolding research_duration research_price
research-most speed account planet kind class below some =
    technology_seconds_within kind (level_in account.techs.n kind + 1) (level_of planet Lab) speed class (omega arith) some

capped-from : (kind : Kind) → 1 ≤ level_cap_of kind
capped-from MetalMine = omega arith
capped-from _ = omega arith

-- and no unit longer than 2^24 seconds
pub unit-most : (speed : ℕ) (planet : PlanetFields) (kind : Kind) → IsTrue (is_unit kind) → 1 ≤ speed → unit_duration speed planet kind ≤ 2 ^ 24
unfolding unit_duration
unit-most speed planet kind class some =
    unit_seconds_within kind 1 (level_of planet Shipyard) (level_of planet Nanite) speed class (capped-from kind) some

-- Flights.

within-system : (p q : ℕ) → p ≤ 15 → q ≤ 15 → distance_in_system p q ≤ 160000
within-system p q first second =
    elim (eqb p q) as (λ b. cond b 5 (1000 + 5 * abs_diff p q) ≤ 160000) [ true ↦ omega arith | false ↦ omega (arith, first, second) ]

within-galaxy : (b : Bool) (near r s : ℕ) → near ≤ 160000 → r ≤ 499 → s ≤ 499 → cond b near (2700 + 95 * abs_diff r s) ≤ 160000
within-galaxy true near r s most first second = most
within-galaxy false near r s most first second = omega (arith, first, second)

between-galaxies : (b : Bool) (near g h : ℕ) → near ≤ 160000 → (1 ≤ g) × (g ≤ 9) → (1 ≤ h) × (h ≤ 9) → cond b near (20000 * abs_diff g h) ≤ 160000
between-galaxies true near g h most first second = most
between-galaxies false near g h most first second =
    let from = first.0 in
    let to = first.1 in
    let other_from = second.0 in
    let other_to = second.1 in
    omega (arith, from, to, other_from, other_to)

-- no two places are farther apart
pub distance-most : (a b : Coord) → distance_of a b ≤ 160000
distance-most a b =
    let galaxies : (a.g ≤ 9) × (b.g ≤ 9) = (let one = a.galaxy_to in omega (arith, one), let other = b.galaxy_to in omega (arith, other)) in
    let systems : (a.s ≤ 499) × (b.s ≤ 499) = (let one = a.system_to in omega (arith, one), let other = b.system_to in omega (arith, other)) in
    let places : (a.p ≤ 15) × (b.p ≤ 15) = (let one = a.position_to in omega (arith, one), let other = b.position_to in omega (arith, other)) in
    between-galaxies (eqb a.g b.g) _ a.g b.g
    (within-galaxy (eqb a.s b.s) (distance_in_system a.p b.p) a.s b.s (within-system a.p b.p places.0 places.1) systems.0 systems.1) (a.galaxy_from, galaxies.0) (b.galaxy_from, galaxies.1)

next-fits : (n r : ℕ) → r * r ≤ n → next_root (suc n) r * next_root (suc n) r ≤ suc n
next-fits n r fits = grind (arith, nat_tests)

root-fits : (n : ℕ) → root n * root n ≤ n
unfolding root
root-fits zero = omega arith
root-fits (suc n) = next-fits n (root n) (root-fits n)

-- a root of a number below 2^52 is below 2^26
root-most : (n : ℕ) → n < 2 ^ 52 → root n < 2 ^ 26
root-most n small = let fits = root-fits n in root_below (root n) 67108863 (omega (arith, fits, small))

-- no flight takes longer than 2^27 seconds
pub flight-most : (d v p speed : ℕ) → d ≤ 160000 → 1 ≤ speed → flight_seconds d v p speed ≤ 2 ^ 27
flight-most d v p speed far some =
    let n = 10 + root (way d / pace v p) in
    let quotient : way d / pace v p ≤ way d = div-le_self (way d) (pace v p) in
    let rooted = root-most (way d / pace v p) (omega (arith, quotient, far)) in
    let slow : n * 1 ≤ n * speed = grind (arith, some) in
    ceiling_below n speed (2 ^ 27) some (omega (arith, rooted, slow, some))

pub errand-most : (speed : ℕ) (account : AccountFields) (errand : Errand) → 1 ≤ speed → seconds_to speed account errand ≤ 2 ^ 27
unfolding seconds_to
errand-most speed account errand some =
    flight-most (distance_of errand.from errand.to) (fleet_speed account.techs.n errand.ships) errand.setting speed (distance-most errand.from errand.to) some
