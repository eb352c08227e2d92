use Rattle.std.proofs.Common.{◌≡◌, ◌++◌, drop}
use Rattle.tick_model.specs.Lines.{own_planet_lines}
use Rattle.orders.proofs.writing.push_planets.Given as goal

abbrev pub invariant-planets : goal.invariant-planets
invariant-planets l = l.body ++ own_planet_lines (drop l.at-index l.planets) ≡ l.initial.body ++ own_planet_lines l.planets
