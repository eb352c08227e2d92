-- Universes in which each cell stands at a second of its own.
use Rattle.std.specs.Prelude.{◌≡◌, ℕ, ◌-◌, ◌≤◌, Bool, true, if◌then◌else◌}
use Rattle.laziness.specs.Model.{Model}
use Rattle.laziness.specs.Laws.{Stands}
use Rattle.laziness.specs.Second.{settled}

-- a universe, and the second at which each of its cells stands
pub record Stamps (M : Model) : Type 0 where
  pub universe : M.Universe
  pub at : M.Id → ℕ

-- the cells of a set gain until a second
abbrev pub bring_to : (M : Model) → (M.Id → Bool) → ℕ → Stamps M → Stamps M
bring_to M S t f = record {
  universe = M.advance (λ x. if S x then t - f.at x else 0) f.universe;
  at = λ x. if S x then t else f.at x;
}

-- an event acts: its footprint is brought to its second, and it changes the footprint there
abbrev pub event_acts : (M : Model) → M.Event → Stamps M → Stamps M
event_acts M e f =
    let b = bring_to M (M.footprint e) (M.second_of e) f in
    record { universe = M.effect e b.universe; at = b.at }

-- the events that cells of a set owe by a second act, the first one first
unfoldable pub happened : (M : Model) → (M.Id → Bool) → ℕ → Stamps M → Stamps M
happened M S t f = settled (λ g. M.next S t g.universe) (event_acts M) (M.measure f.universe) f

-- the cells of a set are brought to a second, through their events
abbrev pub brought : (M : Model) → (M.Id → Bool) → ℕ → Stamps M → Stamps M
brought M S t f = bring_to M S t (happened M S t f)

-- a request acts on a set of cells that was brought to its second
abbrev pub request_acts : (M : Model) → (M.Id → Bool) → ℕ → M.Ask → Stamps M → Stamps M
request_acts M S t a f =
    let b = brought M S t f in
    record { universe = M.act a t b.universe; at = b.at }

-- no cell stands later than the second of an event that needs it
abbrev pub IsTimely : (M : Model) → Stamps M → Type 0
IsTimely M f = (e : M.Event) → Stands M f.universe e → (x : M.Id) → M.footprint e x ≡ true → f.at x ≤ M.second_of e

-- two such universes have the same of these cells, at the same seconds
pub record AgreeStamped (M : Model) (S : M.Id → Bool) (f g : Stamps M) : Type 0 where
  pub view : (x : M.Id) → S x ≡ true → M.view f.universe x ≡ M.view g.universe x
  pub at : (x : M.Id) → S x ≡ true → f.at x ≡ g.at x
