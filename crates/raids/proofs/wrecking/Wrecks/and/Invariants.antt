-- What is counted and what is still to be counted come to the whole.
use Rattle.std.proofs.Common.{◌≡◌, ◌+◌, drop, min}
use Rattle.flight.specs.Fleets.{total}
use Rattle.raids.specs.Losses.{crystal_of, metal_of}
use Rattle.raids.specs.declared.wrecking.TheConstants.{ENOUGH}
use Rattle.tick_model.specs.Battles.{wrecks}
use Rattle.tick_model.specs.Flights.{left_by}
use Rattle.raids.proofs.wrecking.Wrecks.and.Given as goal

abbrev pub invariant-kinds : goal.invariant-kinds
invariant-kinds l =
    let rest = left_by (drop l.place l.before) (drop l.place l.left) in
    let whole = left_by l.before l.left in
    record {
      metal : min (l.all.metal + total metal_of (drop l.place wrecks) rest) ENOUGH ≡ min (l.initial.all.metal + total metal_of wrecks whole) ENOUGH;
      crystal : min (l.all.crystal + total crystal_of (drop l.place wrecks) rest) ENOUGH ≡ min (l.initial.all.crystal + total crystal_of wrecks whole) ENOUGH;
    }
