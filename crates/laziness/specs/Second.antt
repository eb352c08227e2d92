-- One second of a universe.
use Rattle.std.specs.Prelude.{ℕ, zero, suc, Bool, true, Option, None, Some}
use Rattle.laziness.specs.Model.{Model}

-- all cells
abbrev pub everything : (M : Model) → M.Id → Bool
everything M x = true

abbrev pub settled_at : {State Event : Type 0} → (State → State) → (Event → State → State) → State → Option Event → State
settled_at rest act state None = state
settled_at rest act state (Some e) = rest (act e state)

-- what comes next acts, again and again until nothing comes next, or until that was done `most` times
abbrev pub settled : {State Event : Type 0} → (State → Option Event) → (Event → State → State) → ℕ → State → State
settled next act zero state = state
settled next act (suc most) state = settled_at (settled next act most) act state (next state)

-- The second that ends at t: every cell gains for one second, and then the events that are due by t act, the first one
-- first. Each lowers the measure, so no more can come than the measure says.
unfoldable pub second : (M : Model) → ℕ → M.Universe → M.Universe
second M t u =
    let gained = M.advance (λ x. 1) u in
    settled (M.next (everything M) t) M.effect (M.measure gained) gained
