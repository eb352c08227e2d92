use Rattle.std.proofs.Common.{◌≡◌, ◌++◌, All, List, ℕ, length, map, take, drop}
use Rattle.std.specs.List.{flat_map}
use Rattle.base_bytes.specs.Spelling.{fleet_bytes}
use Rattle.base_bytes.specs.Told.{DoRise, FleetFits, IsOwnAt}
use Rattle.fleet_rec.specs.Fleet.{fleet_seen}
use Rattle.fleet_rec.specs.declared.fleet.Fleet.{Fleet as FleetRecord}
use Rattle.tick_model.specs.Universe.{Fleet}
use Rattle.base_bytes.proofs.lists.next_fleets.Given as goal

abbrev pub invariant-fleets : goal.invariant-fleets
invariant-fleets l = record {
  fleets : (held : List FleetRecord) (more : List ℕ) → DoRise l.planets → length held ≡ l.count → All (FleetFits l.planets) held
      → l.initial.numbers.rest.now ≡ flat_map fleet_bytes (map fleet_seen held) ++ more
      → (l.fleets ≡ map fleet_seen (take l.counter held)) × (l.numbers.rest.now ≡ flat_map fleet_bytes (map fleet_seen (drop l.counter held)) ++ more);
  owners : All (λ (fleet : Fleet). IsOwnAt l.planets fleet.target_owner fleet.target) l.fleets;
}
