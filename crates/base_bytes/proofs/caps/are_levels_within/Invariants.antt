use Rattle.std.proofs.Common.{ℕ, ◌+◌, ◌<◌, ◌≤◌, get_or}
use Rattle.std.specs.Prelude.{IsTrue, slice_index}
use Rattle.catalog.specs.Classes.{is_building}
use Rattle.catalog.specs.Kinds.{place_in}
use Rattle.catalog.specs.Levels.{level_cap_of}
use Rattle.catalog.specs.declared.classes.TheConstants.{BUILDINGS}
use Rattle.catalog.specs.declared.kind.Kind.{Kind}
use Rattle.catalog.specs.declared.kind.TheConstants.{KINDS}
use Rattle.planet_cell.specs.Bounds.{count_of}
use Rattle.base_bytes.proofs.caps.are_levels_within.Given as goal

abbrev pub invariant-kinds : goal.invariant-kinds
invariant-kinds l = (k : ℕ) (d : Kind) → k < l.kind-index → IsTrue (is_building (get_or KINDS k d))
    → slice_index l.levels (place_in BUILDINGS (get_or KINDS k d)) + count_of (get_or KINDS k d) l.items ≤ level_cap_of (get_or KINDS k d)
