-- The parts so far come by their numbers.
use Rattle.std.proofs.Common.{ℕ, ◌+◌, ◌<◌, get_or, map}
use Rattle.battle.specs.declared.part.Part.{Part}
use Rattle.battle.proofs.ready.is_in_order.Given as goal

abbrev pub invariant-places : goal.invariant-places
invariant-places l =
    (k : ℕ) → k + 1 < l.place → get_or (map (λ (p : Part). p.number) l.parts) k 0 < get_or (map (λ (p : Part). p.number) l.parts) (k + 1) 0
