use Rattle.std.proofs.Common.{◌≡◌, ◌++◌, drop}
use Rattle.orders.specs.Acting.{system_text}
use Rattle.orders.proofs.writing.push_system.Given as goal

abbrev pub invariant-planets : goal.invariant-planets
invariant-planets l = l.body ++ system_text (drop l.planet-index l.planets) ≡ l.initial.body ++ system_text l.planets
