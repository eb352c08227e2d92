-- How much a fleet can carry, at most, and what a harvest leaves.
use Rattle.std.proofs.Common.{◌≡◌, ℕ, ◌+◌, ◌-◌, ◌*◌, ◌/◌, ◌≤◌, ◌∙◌, List, [], ◌∷◌, length, min, arith}
use Rattle.std.specs.Prelude.{IsTrue, nat_le}
use Rattle.std.specs.List.{list_all}
use Rattle.std.proofs.lemmas.Bool.Decides.{nat_tests}
use Rattle.catalog.specs.Flight.{cargo_of}
use Rattle.catalog.specs.declared.amounts.TheConstants.{CAP}
use Rattle.catalog.specs.declared.kind.Kind.{Kind}
use Rattle.catalog.specs.declared.ships.TheConstants.{SHIPS, UNITS}
use Rattle.flight.specs.Fleets.{total}
use Rattle.flight.specs.Freight.{capacity_of}
use Rattle.flight.proofs.Sums.{cargo_to}
use Rattle.spoils.specs.Harvest.{scraping}

product_to : (a b c d : ℕ) → a ≤ b → c ≤ d → a * c ≤ b * d
product_to a b c d first second = grind arith

holds_to : (kinds : List Kind) (counts : List ℕ) → IsTrue (list_all (λ count. nat_le count UNITS) counts) → total cargo_of kinds counts ≤ 100000000000 * length kinds
unfolding total
holds_to [] counts within = omega arith
holds_to (kind ∷ kinds) [] within = omega arith
holds_to (kind ∷ kinds) (count ∷ counts) within =
    let here : count ≤ 100000 = grind (arith, nat_tests) in
    let rest : IsTrue (list_all (λ count. nat_le count UNITS) counts) = grind (arith, nat_tests) in
    let one = cargo_to kind in
    let ships : count * cargo_of kind ≤ 100000 * 1000000 = product_to count 100000 (cargo_of kind) 1000000 here one in
    omega (arith, holds_to kinds counts rest, ships)

-- ships carry no more than a stock may hold
pub capacity_to : (ships : List ℕ) → IsTrue (list_all (λ count. nat_le count UNITS) ships) → capacity_of ships ≤ CAP
capacity_to ships within = omega (arith, holds_to SHIPS ships within)

-- debris above the cap is as good as at it, for a room that is no greater
pub clamped : (room metal crystal : ℕ) → room ≤ CAP → scraping room (min metal CAP) (min crystal CAP) ≡ scraping room metal crystal
unfolding scraping
clamped room metal crystal less =
    let first : min (room / 2) (min metal CAP) ≡ min (room / 2) metal = omega (arith, less) in
    let second : min (room - min (room / 2) metal) (min crystal CAP) ≡ min (room - min (room / 2) metal) crystal = omega (arith, less) in
    let third : min (room - min (room / 2) metal - min (room - min (room / 2) metal) crystal) (min metal CAP - min (room / 2) metal) ≡ min (room - min (room / 2) metal - min (room - min (room / 2) metal) crystal) (metal - min (room / 2) metal) = omega (arith, less) in
    (λ i. record { first_metal = first i; first_crystal = min (room - first i) (min crystal CAP); second_metal = min (room - first i - min (room - first i) (min crystal CAP)) (min metal CAP - first i) })
    ∙ (λ i. record { first_metal = min (room / 2) metal; first_crystal = second i; second_metal = min (room - min (room / 2) metal - second i) (min metal CAP - min (room / 2) metal) })
    ∙ (λ i. record { first_metal = min (room / 2) metal; first_crystal = min (room - min (room / 2) metal) crystal; second_metal = third i })

pub ruleset holds = (capacity_to)

pub ruleset taking = (clamped)
