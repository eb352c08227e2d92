-- The names so far, and those that are left of the accounts or of the planets, are all names of these.
use Rattle.std.proofs.Common.{◌≡◌, ◌++◌, map}
use Rattle.std.specs.BTreeMap.{keys}
use Rattle.base_ids.specs.declared.cell_id.CellId.TheVariants.{Account, Planet}
use Rattle.happenings.specs.Sights.{names_held}
use Rattle.happenings.proofs.held.Held.names.Given as goal

abbrev pub invariant-players : goal.invariant-players
invariant-players l = l.names.items ++ map Account l.player-iterator ≡ map Account (keys l.self.accounts)

abbrev pub invariant-planets : goal.invariant-planets
invariant-planets l = l.names.items ++ map Planet l.at-iterator ≡ names_held l.self
