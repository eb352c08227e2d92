use Rattle.std.proofs.Common.{◌≡◌, ◌≤◌, drop, length, map}
use Rattle.std.specs.Prelude.{option_map}
use Rattle.fleet_rec.specs.Fleet.{fleet_seen}
use Rattle.fleet_rec.specs.Fleets.{coming_by, first_fleet}
use Rattle.fleet_rec.proofs.coming_first.first_coming.Given as goal

abbrev pub invariant-fleets : goal.invariant-fleets
invariant-fleets l =
    record {
      within : l.left ≤ length l.fleets;
      first : option_map fleet_seen l.first ≡ first_fleet (coming_by l.at l.second (map fleet_seen (drop l.left l.fleets)));
    }

abbrev pub decreases-fleets : goal.decreases-fleets
decreases-fleets l = l.left
