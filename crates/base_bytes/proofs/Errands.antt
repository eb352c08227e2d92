-- When a fleet is sound.
use Rattle.std.proofs.Common.{◌≡◌, ℕ, ◌<◌, ◌≤◌, ◌^◌, true, false, List, [], ◌∷◌, arith}
use Rattle.std.specs.Prelude.{IsTrue, nat_lt, sum}
use Rattle.std.specs.List.{list_any}
use Rattle.std.proofs.lemmas.Bool.Decides.{nat_tests}
use Rattle.std.proofs.lemmas.List.Sums.{sum_by-cons}
use Rattle.base_bytes.specs.Sound.{IsInGroup, IsSoundFleet}
use Rattle.base_bytes.specs.Told.{IsOwnAt}
use Rattle.base_bytes.specs.declared.base.Base.{Base}
use Rattle.base_ids.specs.Cells.{same_coord, same_player}
use Rattle.fleet_rec.specs.Fleet.{cargo_seen, fleet_seen}
use Rattle.fleet_rec.specs.declared.fleet.Fleet.{Fleet}
use Rattle.flight.specs.Freight.{capacity_of}
use Rattle.tick_model.specs.Flights.{cargo_units}
use Rattle.tick_model.specs.Sending.{suits}

-- where there is a ship of some kind, there are ships
some-ships : (counts : List ℕ) → IsTrue (list_any (λ count. nat_lt 0 count) counts) → 1 ≤ sum counts
some-ships [] some = absurd cc
some-ships (first ∷ later) some =
    let sums = sum_by-cons (λ (n : ℕ). n) first later in
    let rest = some-ships later in
    grind (arith, nat_tests)

-- a fleet of the program is sound if it keeps what its type doesn't say
pub sound-from : (base : Base) (fleet : Fleet) → (1 ≤ fleet.number) × (fleet.number ≤ base.number) × IsInGroup fleet.mission fleet.number fleet.group
    → IsOwnAt base.planets.items fleet.owner fleet.origin × IsOwnAt base.planets.items fleet.target_owner fleet.target × (same_coord fleet.origin fleet.target ≡ false)
    → (suits fleet.mission (same_player fleet.target_owner fleet.owner) fleet.ships.n ≡ true) × (cargo_units (cargo_seen fleet.cargo) ≤ capacity_of fleet.ships.n)
    → (fleet.launch ≤ base.moment) × (base.moment < fleet.second) × (fleet.second < 2 ^ 42) → IsSoundFleet base (fleet_seen fleet)
sound-from base fleet numbered flies fit flying = record {
  drawn = (numbered.0, numbered.1);
  grouped = numbered.2;
  leaves = flies.0;
  reaches = flies.1;
  elsewhere = flies.2;
  suited = fit.0;
  kinds = fleet.ships.kinds;
  manned = some-ships fleet.ships.n fleet.ships.some;
  laden = fit.1;
  sent = flying.0;
  lands = flying.1;
  in_time = flying.2;
}
