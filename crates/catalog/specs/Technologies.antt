-- The levels of an account's technologies. Rule: docs/RULES.md, "Technologies".
use Rattle.std.specs.Prelude.{ℕ, List, slice_index}
use Rattle.catalog.specs.Kinds.{place_in}
use Rattle.catalog.specs.declared.classes.TheConstants.{TECHNOLOGIES}
use Rattle.catalog.specs.declared.kind.Kind.{Kind}

-- the level of a technology in a list of the levels of all, which stand in the order of TECHNOLOGIES
abbrev pub level_in : List ℕ → Kind → ℕ
level_in levels kind = slice_index levels (place_in TECHNOLOGIES kind)
