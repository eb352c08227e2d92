-- Runs of events: what the fuel finds is one.
use Rattle.std.proofs.Common.{◌≡◌, ℕ, zero, suc, ◌<◌, ◌≤◌, List, [], ◌∷◌, Option, None, Some, arith, refl}
use Rattle.laziness.specs.Second.{settled, settled_at}

-- events act, one after another
abbrev pub acting : {State Event : Type 0} → (Event → State → State) → List Event → State → State
acting act [] s = s
acting act (e ∷ es) s = acting act es (act e s)

-- each of these events is next when it acts, and after them nothing is left
abbrev pub Leading : {State Event : Type 0} → (Event → State → State) → (State → Event → Type 0) → (State → Type 0) → State → List Event → Type 0
Leading act IsNext Over s [] = Over s
Leading act IsNext Over s (e ∷ es) = IsNext s e × Leading act IsNext Over (act e s) es

-- what a search for the next event must do
pub record Finds {State Event : Type 0} (next : State → Option Event) (act : Event → State → State) (measure : State → ℕ) (Fine : State → Type 0) (IsNext : State → Event → Type 0) (Over : State → Type 0) : Type 0 where
  pub found : (s : State) (e : Event) → Fine s → next s ≡ Some e → IsNext s e
  pub nothing : (s : State) → Fine s → next s ≡ None → Over s
  pub keeps : (s : State) (e : Event) → Fine s → IsNext s e → Fine (act e s)
  pub falls : (s : State) (e : Event) → Fine s → IsNext s e → measure (act e s) < measure s

-- a state is the end of a run from another one
pub record Run {State Event : Type 0} (act : Event → State → State) (IsNext : State → Event → Type 0) (Over : State → Type 0) (s end : State) : Type 0 where
  pub events : List Event
  pub leads : Leading act IsNext Over s events
  pub is : end ≡ acting act events s

run_at : {State Event : Type 0} (next : State → Option Event) (act : Event → State → State) (measure : State → ℕ) (Fine : State → Type 0) (IsNext : State → Event → Type 0) (Over : State → Type 0)
    → Finds next act measure Fine IsNext Over → (fuel : ℕ) (s : State) (found : Option Event) → Fine s → next s ≡ found
    → ((e : Event) → IsNext s e → Run act IsNext Over (act e s) (settled next act fuel (act e s)))
    → Run act IsNext Over s (settled_at (settled next act fuel) act s found)
run_at next act measure Fine IsNext Over F fuel s None fine is rest = record { events = []; leads = F.nothing s fine is; is = refl }
run_at next act measure Fine IsNext Over F fuel s (Some e) fine is rest =
    let first = F.found s e fine is in
    let more = rest e first in
    record { events = e ∷ more.events; leads = (first, more.leads); is = more.is }

over_at : {State Event : Type 0} (next : State → Option Event) (act : Event → State → State) (measure : State → ℕ) (Fine : State → Type 0) (IsNext : State → Event → Type 0) (Over : State → Type 0)
    → Finds next act measure Fine IsNext Over → (s : State) (found : Option Event) → Fine s → next s ≡ found → measure s ≤ 0 → Over s
over_at next act measure Fine IsNext Over F s None fine is little = F.nothing s fine is
over_at next act measure Fine IsNext Over F s (Some e) fine is little =
    let falls : measure (act e s) < measure s = F.falls s e fine (F.found s e fine is) in
    absurd (omega (arith, falls, little))

-- with as much fuel as the measure says the search ends with a run
pub runs : {State Event : Type 0} (next : State → Option Event) (act : Event → State → State) (measure : State → ℕ) (Fine : State → Type 0) (IsNext : State → Event → Type 0) (Over : State → Type 0)
    → Finds next act measure Fine IsNext Over → (fuel : ℕ) (s : State) → Fine s → measure s ≤ fuel → Run act IsNext Over s (settled next act fuel s)
runs next act measure Fine IsNext Over F zero s fine enough =
    record { events = []; leads = over_at next act measure Fine IsNext Over F s (next s) fine refl enough; is = refl }
runs next act measure Fine IsNext Over F (suc fuel) s fine enough =
    run_at next act measure Fine IsNext Over F fuel s (next s) fine refl (λ e first.
    let falls : measure (act e s) < measure s = F.falls s e fine first in
    runs next act measure Fine IsNext Over F fuel (act e s) (F.keeps s e fine first) (omega (arith, falls, enough)))
