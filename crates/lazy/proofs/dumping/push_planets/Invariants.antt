-- The lines of the planets so far are there.
use Rattle.std.proofs.Common.{◌≡◌, ◌++◌, map, take}
use Rattle.happenings.specs.Held.{IsNamed}
use Rattle.tick_model.specs.Universe.{Setting}
use Rattle.lazy.specs.Dumping.{held_text, place_of}
use Rattle.lazy.proofs.dumping.push_planets.Given as goal

abbrev pub invariant-spots : goal.invariant-spots
invariant-spots l = (setting : Setting) → setting.rules ≡ l.rules → IsNamed l.cells → l.text ≡ l.initial.text ++ held_text setting l.cells (map place_of (take l.spot-index l.spots))
