-- The accounts are held, and the planets so far.
use Rattle.std.proofs.Common.{[], ◌++◌, map, take}
use Rattle.base_ids.specs.declared.cell_id.CellId.TheVariants.{Account, Planet}
use Rattle.lazy.specs.Beginning.{HoldsWith}
use Rattle.lazy.proofs.beginning.hold_planets.Given as goal

abbrev pub invariant-planets : goal.invariant-planets
invariant-planets l =
    HoldsWith l.base [] (map (λ account. Account account.player) l.base.accounts.items ++ map (λ planet. Planet planet.at) (take l.planet-index l.base.planets.items)) l.cells
