-- The kinds of a fleet, and sums over its ships. Rule: docs/RULES.md, "Distances, speeds and flights".
use Rattle.std.specs.Prelude.{ℕ, List, [], ◌∷◌, ◌+◌, ◌*◌, ◌==◌, if◌then◌else◌}
use Rattle.catalog.specs.declared.kind.Kind.{Kind}

-- the kinds that are there: those whose count is not 0
unfoldable pub present : List Kind → List ℕ → List Kind
present [] counts = []
present (kind ∷ kinds) [] = []
present (kind ∷ kinds) (count ∷ counts) = if count == 0 then present kinds counts else kind ∷ present kinds counts

-- the sum over all ships of what each ship has by its kind
unfoldable pub total : (Kind → ℕ) → List Kind → List ℕ → ℕ
total of_kind [] counts = 0
total of_kind (kind ∷ kinds) [] = 0
total of_kind (kind ∷ kinds) (count ∷ counts) = count * of_kind kind + total of_kind kinds counts
