use Rattle.std.proofs.Common.{◌≡◌, ℕ, ◌<◌, get_or}
use Rattle.catalog.specs.Kinds.{kind_number}
use Rattle.planet_cell.proofs.places.place_in.Given as goal

abbrev pub invariant-kinds : goal.invariant-kinds
invariant-kinds l = (k : ℕ) → k < l.place → kind_number (get_or l.kinds k l.kind) ≡ kind_number l.kind → ⊥
