-- What a fleet carries fits in the bytes that it has.
use Rattle.std.proofs.Common.{◌≡◌, ℕ, zero, suc, ◌≤◌, List, [], ◌∷◌, get_or, arith}
use Rattle.std.proofs.lemmas.Bool.Decides.{nat_tests}
use Rattle.std.specs.List.{list_all}
use Rattle.std.specs.Prelude.{nat_le, true}
use Rattle.base_bytes.specs.Spelling.{load_of}
use Rattle.catalog.specs.declared.ships.TheConstants.{UNITS}
use Rattle.fleet_rec.specs.Fleet.{fleet_seen}
use Rattle.fleet_rec.specs.declared.fleet.Fleet.{Fleet}
use Rattle.records.specs.Ranges.{LoadFits}

each-within : (counts : List ℕ) → list_all (λ count. nat_le count UNITS) counts ≡ true → (k : ℕ) → get_or counts k 0 ≤ UNITS
each-within [] all k = omega arith
each-within (count ∷ counts) all zero = grind (arith, nat_tests)
each-within (count ∷ counts) all (suc k) = each-within counts (grind (arith, nat_tests)) k

pub load-fits : (fleet : Fleet) → LoadFits (load_of (fleet_seen fleet))
load-fits fleet = record {
  metal = omega (arith, fleet.cargo.metal);
  crystal = omega (arith, fleet.cargo.crystal);
  deuterium = omega (arith, fleet.cargo.deuterium);
  ships = record { size = fleet.ships.kinds; each = λ k below. omega (arith, each-within fleet.ships.n fleet.ships.within k) };
}
