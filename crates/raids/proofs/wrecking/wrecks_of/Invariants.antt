-- What is counted and what is still to be counted come to the whole.
use Rattle.std.proofs.Common.{◌≡◌, ◌+◌, drop, min}
use Rattle.std.specs.Prelude.{sum_by}
use Rattle.flight.specs.Fleets.{total}
use Rattle.raids.specs.Losses.{crystal_of, metal_of}
use Rattle.raids.specs.Parts.{raider_parts}
use Rattle.raids.specs.declared.wrecking.TheConstants.{ENOUGH}
use Rattle.tick_model.specs.Battles.{losses, wrecks}
use Rattle.raids.proofs.wrecking.wrecks_of.Given as goal

abbrev pub invariant-raiders : goal.invariant-raiders
invariant-raiders l =
    let rest = losses (raider_parts (drop l.place l.raiders)) (drop l.place l.left) in
    let whole = losses (raider_parts l.raiders) l.left in
    record {
      metal : min (l.all.metal + sum_by (total metal_of wrecks) rest) ENOUGH ≡ min (sum_by (total metal_of wrecks) whole) ENOUGH;
      crystal : min (l.all.crystal + sum_by (total crystal_of wrecks) rest) ENOUGH ≡ min (sum_by (total crystal_of wrecks) whole) ENOUGH;
    }
