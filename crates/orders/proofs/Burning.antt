-- How much a flight burns, and how long it takes, at most.
use Rattle.std.proofs.Common.{◌≡◌, ℕ, zero, suc, ◌+◌, ◌*◌, ◌<◌, ◌≤◌, ◌^◌, Bool, true, false, List, [], ◌∷◌, length, arith, lit≤, inl, inr}
use Rattle.std.specs.Prelude.{IsTrue, nat_le, if◌then◌else◌}
use Rattle.std.specs.List.{list_all}
use Rattle.std.proofs.lemmas.Bool.Decides.{nat_tests}
use Rattle.catalog.specs.declared.kind.Kind.{Kind}
use Rattle.catalog.specs.declared.kind.Kind.TheVariants.{SmallCargo}
use Rattle.catalog.specs.declared.engine.Drive.TheVariants.{Combustion, Impulse}
use Rattle.catalog.specs.Flight.{engine}
use Rattle.catalog.specs.declared.ships.TheConstants.{SHIPS, UNITS}
use Rattle.flight.specs.Fleets.{total}
use Rattle.flight.specs.Freight.{burning, engine_fuel, flight_fuel, ship_fuel}
use Rattle.flight.specs.Speeds.{impulse_in}
use Rattle.orders.proofs.Left.{test}
use Rattle.flight.specs.Times.{IsFlightTime, pace, way}

product_to : (a b c d : ℕ) → a ≤ b → c ≤ d → a * c ≤ b * d
product_to a b c d first second = grind arith

small_fuel : (b : Bool) → engine_fuel (if b then engine 10000 Impulse 20 else engine 5000 Combustion 10) ≤ 1000
small_fuel true = lit≤ tt
small_fuel false = lit≤ tt

-- no ship burns more than 1000
ship_fuel_to : (impulse : ℕ) (kind : Kind) → ship_fuel impulse kind ≤ 1000
ship_fuel_to impulse SmallCargo = small_fuel (nat_le 5 impulse)
ship_fuel_to impulse _ = lit≤ tt

-- nor do all ships of a fleet burn more than so many
fleet_fuel_to : (impulse : ℕ) (kinds : List Kind) (counts : List ℕ) → IsTrue (list_all (λ count. nat_le count UNITS) counts) → total (ship_fuel impulse) kinds counts ≤ 100000000 * length kinds
unfolding total
fleet_fuel_to impulse [] counts within = lit≤ tt
fleet_fuel_to impulse (kind ∷ kinds) [] within = omega arith
fleet_fuel_to impulse (kind ∷ kinds) (count ∷ counts) within =
    let here : count ≤ 100000 = grind (arith, nat_tests) in
    let rest : IsTrue (list_all (λ count. nat_le count UNITS) counts) = grind (arith, nat_tests) in
    let one = ship_fuel_to impulse kind in
    let ships : count * ship_fuel impulse kind ≤ 100000 * 1000 = product_to count 100000 (ship_fuel impulse kind) 1000 here one in
    omega (arith, fleet_fuel_to impulse kinds counts rest, ships)

pub fuel_within : (levels ships : List ℕ) (d p fuel : ℕ) → fuel ≡ flight_fuel levels ships d p → d ≤ 160000 → p ≤ 10 → length ships ≡ length SHIPS → IsTrue (list_all (λ count. nat_le count UNITS) ships) → fuel ≤ 30000000000
fuel_within levels ships d p fuel is far fast kinds within =
    let all : total (ship_fuel (impulse_in levels)) SHIPS ships ≤ 1300000000 = omega (arith, fleet_fuel_to (impulse_in levels) SHIPS ships within) in
    let way_all = product_to (total (ship_fuel (impulse_in levels)) SHIPS ships) 1300000000 d 160000 all far in
    let square = product_to (p + 10) 20 (p + 10) 20 (omega arith) (omega arith) in
    let whole : burning levels ships d p ≤ 1300000000 * 160000 * (20 * 20) = product_to (total (ship_fuel (impulse_in levels)) SHIPS ships * d) (1300000000 * 160000) ((p + 10) * (p + 10)) (20 * 20) way_all square in
    omega (arith, is, whole)

-- a root of a number below 2^52 is below 2^26
root_to : (root n : ℕ) → root * root ≤ n → n < 2 ^ 52 → root < 2 ^ 26
root_to root n fits small =
    elim (test (nat_le 67108864 root)) [
      | inl reached ↦
          (let large : 67108864 ≤ root = grind (arith, nat_tests) in
          let square : 67108864 * 67108864 ≤ root * root = product_to 67108864 root 67108864 root large large in
          absurd (omega (arith, square, fits, small)))
      | inr below ↦ grind (arith, nat_tests)
    ]

-- nor is a quotient that is rounded up above what is divided
ceiling_to : (n speed seconds : ℕ) → seconds * speed < n + speed → 1 ≤ speed → seconds ≤ n
ceiling_to n speed zero least some = omega arith
ceiling_to n speed (suc before) least some =
    let one : before * 1 ≤ before * speed = product_to before before 1 speed (omega arith) some in
    omega (arith, one, least)

pub seconds_within : (d v p speed seconds : ℕ) → IsFlightTime d v p speed seconds → d ≤ 160000 → 1 ≤ v → 1 ≤ p → 1 ≤ speed → seconds < 2 ^ 41
seconds_within d v p speed seconds time far moving slow some =
    let square : 1 * 1 ≤ p * p = product_to 1 p 1 p slow slow in
    let paced : 1 * 1 ≤ p * p * v = product_to 1 (p * p) 1 v square moving in
    let divided : time.quotient * 1 ≤ time.quotient * pace v p = product_to time.quotient time.quotient 1 (pace v p) (omega arith) paced in
    let fits : time.quotient * pace v p ≤ way d = time.divided.fits in
    let small : time.quotient < 2 ^ 52 = omega (arith, divided, fits, far) in
    let root = root_to time.whole_root time.quotient time.rooted.fits small in
    let most : seconds ≤ 10 + time.whole_root = ceiling_to (10 + time.whole_root) speed seconds time.sped.least some in
    omega (arith, root, most)
