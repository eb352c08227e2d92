use Rattle.std.proofs.Common.{◌≡◌, ◌+◌, ◌≤◌, ◌++◌, length, map, vec_capacity}
use Rattle.std.specs.BTreeMap.{values}
use Rattle.founding.specs.Filing.{facts_of, facts_sketched}
use Rattle.founding.proofs.filing.list_planets.Given as goal

abbrev pub invariant-planets : goal.invariant-planets
invariant-planets l = record {
  listed : map facts_of l.list.items ++ map facts_sketched l.sketch-iterator ≡ map facts_sketched (values l.planets);
  room : length l.list.items + length l.sketch-iterator ≤ vec_capacity l.list;
}
