use Rattle.std.proofs.Common.{ℕ, ◌+◌, ◌<◌, ◌≤◌, get_or}
use Rattle.std.specs.Prelude.{IsTrue}
use Rattle.account_cell.specs.Bounds.{count_of}
use Rattle.catalog.specs.Classes.{is_technology}
use Rattle.catalog.specs.Levels.{level_cap_of}
use Rattle.catalog.specs.Technologies.{level_in}
use Rattle.catalog.specs.declared.kind.Kind.{Kind}
use Rattle.catalog.specs.declared.kind.TheConstants.{KINDS}
use Rattle.base_bytes.proofs.caps.are_techs_within.Given as goal

abbrev pub invariant-kinds : goal.invariant-kinds
invariant-kinds l = (k : ℕ) (d : Kind) → k < l.kind-index → IsTrue (is_technology (get_or KINDS k d))
    → level_in l.techs.n (get_or KINDS k d) + count_of (get_or KINDS k d) l.items ≤ level_cap_of (get_or KINDS k d)
