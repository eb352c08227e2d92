-- What events leave of the cells that they need, and of all others.
use Rattle.std.proofs.Common.{◌≡◌, true, false, ap, ◌∙◌, sym, subst}
use Rattle.base_ids.specs.declared.cell_id.CellId.{CellId}
use Rattle.tick_model.specs.Changes.{write}
use Rattle.tick_model.specs.Events.{Event, item_due, lands, fights, Owes, effect, event_change, footprint, home}
use Rattle.tick_model.specs.Rules.{KeepsRules}
use Rattle.tick_model.specs.Universe.{Setting, State}
use Rattle.tick_model.specs.Views.{view}
use Rattle.tick_model.proofs.Battling.{battle-within}
use Rattle.tick_model.proofs.Raids.{raid-in}
use Rattle.tick_model.proofs.Effects.{event-within, seen_of}
use Rattle.tick_model.proofs.Landings.{flies-in, landing-within}
use Rattle.tick_model.proofs.Writes.{IsWithin, inside, outside, shown-alike}

-- an event changes its footprint alone
pub stays-within : (setting : Setting) (state : State) (event : Event) → KeepsRules setting state → Owes (view setting.cells state (home event)) event
    → IsWithin (footprint event) (footprint event) (event_change setting.rules event (seen_of setting event state)) state
stays-within setting state (item_due class item later) fine stands = event-within setting state class item later fine stands
stays-within setting state (lands fleet) fine stands = landing-within setting state fleet fine (flies-in setting.cells state (home (lands fleet)) fleet stands.0)
stays-within setting state (fights raid) fine stands = battle-within setting state raid fine (raid-in setting state raid fine stands)

-- a cell that the event doesn't need is seen as before
pub event-outside : (setting : Setting) (state : State) (event : Event) (x : CellId) → KeepsRules setting state → Owes (view setting.cells state (home event)) event → footprint event x ≡ false
    → view setting.cells (effect setting event state) x ≡ view setting.cells state x
event-outside setting state event x fine stands out =
    outside setting.cells (footprint event) (footprint event) (event_change setting.rules event (seen_of setting event state)) state x (stays-within setting state event fine stands) out

-- and of a cell that it needs, what is seen depends on what was seen of those cells
pub event-depends : (setting : Setting) (one other : State) (event : Event) → KeepsRules setting one → KeepsRules setting other → Owes (view setting.cells one (home event)) event
    → Owes (view setting.cells other (home event)) event
    → ((x : CellId) → footprint event x ≡ true → view setting.cells one x ≡ view setting.cells other x)
    → (x : CellId) → footprint event x ≡ true → view setting.cells (effect setting event one) x ≡ view setting.cells (effect setting event other) x
event-depends setting one other event fine fine' stands stands' agree x has =
    let cells = footprint event in
    let change = event_change setting.rules event (seen_of setting event one) in
    let same : event_change setting.rules event (seen_of setting event other) ≡ change =
    ap (event_change setting.rules event) (sym (shown-alike cells (view setting.cells one) (view setting.cells other) agree)) in
    let second = subst (λ c. IsWithin cells cells c other) same (stays-within setting other event fine' stands') in
    inside setting.cells cells cells change one other (record { first = stays-within setting one event fine stands; second = second; agree = agree }) x has
    ∙ ap (λ c. view setting.cells (write cells c other) x) (sym same)
