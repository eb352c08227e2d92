-- The number is of none of the kinds passed so far.
use Rattle.std.proofs.Common.{◌≡◌, ℕ, ◌<◌, get_or}
use Rattle.catalog.specs.Kinds.{kind_number}
use Rattle.catalog.specs.declared.kind.Kind.{Kind}
use Rattle.records.proofs.values.numbered.Given as goal

abbrev pub invariant-kinds : goal.invariant-kinds
invariant-kinds l = (k : ℕ) (d : Kind) → k < l.kind-index → l.number ≡ kind_number (get_or l.kinds k d) → ⊥
