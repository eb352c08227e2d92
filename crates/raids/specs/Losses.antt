-- What a lost unit had cost. Rule: docs/RULES.md, "Debris".
use Rattle.std.specs.Prelude.{ℕ}
use Rattle.catalog.specs.Costs.{cost_of}
use Rattle.catalog.specs.declared.kind.Kind.{Kind}

abbrev pub metal_of : Kind → ℕ
metal_of kind = (cost_of kind).metal

abbrev pub crystal_of : Kind → ℕ
crystal_of kind = (cost_of kind).crystal
