-- What is seen of the planets so far.
use Rattle.std.proofs.Common.{◌≡◌, take}
use Rattle.happenings.specs.Queues.{seen_held}
use Rattle.lazy.proofs.Taken.{spots_named}
use Rattle.lazy.specs.Taking.{planets_seen}
use Rattle.lazy.proofs.taking.take_system.Given as goal

abbrev pub invariant-spots : goal.invariant-spots
invariant-spots l = l.seen.items ≡ planets_seen l.system (spots_named (take l.spot-index l.places.planets.items)) (seen_held l.cells)
