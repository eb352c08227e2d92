-- Gains and events keep the limits, and so do seconds.
use Rattle.std.proofs.Common.{◌≡◌, ℕ, zero, suc, ◌-◌, ◌≤◌, inl, inr, ◌&&◌, List, [], ◌∷◌, Option, None, Some, length, arith, refl, ap, ◌∙◌, sym, subst}
use Rattle.base_ids.specs.Cells.{same_cell}
use Rattle.base_ids.specs.declared.player.Player.{Player}
use Rattle.base_ids.specs.declared.cell_id.CellId.{CellId}
use Rattle.base_ids.specs.declared.cell_id.CellId.TheVariants.{Account}
use Rattle.catalog.specs.declared.ships.TheConstants.{UNITS}
use Rattle.laziness.specs.Second.{everything, second, settled, settled_at}
use Rattle.laziness.proofs.Bringing.{test}
use Rattle.tick_model.specs.declared.codes.TheConstants.{MOST_QUEUED}
use Rattle.tick_model.specs.Changes.{Change}
use Rattle.tick_model.specs.Events.{Event, item_due, lands, fights, Owes, effect, home, next_event, units_left}
use Rattle.tick_model.specs.Game.{game}
use Rattle.tick_model.specs.Limits.{IsLoaded, KeepsLimits}
use Rattle.tick_model.specs.Lines.{own_fleets, slots_of}
use Rattle.tick_model.specs.Production.{advance}
use Rattle.tick_model.specs.Rules.{IsIn, KeepsRules}
use Rattle.tick_model.specs.Universe.{of_account, AccountFields, QueueClass, Fleet, Item, Setting, State, same_class}
use Rattle.tick_model.specs.Views.{View, queue_in, view}
use Rattle.tick_model.proofs.Battling.{after_battle, battle-is}
use Rattle.tick_model.proofs.LimitsBattles.{battle-fewer, battle-kept, battle-loaded, battle-steady}
use Rattle.tick_model.proofs.Raids.{raid-in}
use Rattle.tick_model.proofs.Effects.{StandsBy, after, came_queue, effect-is, event-ends, other-queue, queue-after, seen_of}
use Rattle.tick_model.proofs.EventLaws.{next_found}
use Rattle.tick_model.proofs.EventKeeps.{event-keeps}
use Rattle.tick_model.proofs.Errands.{event-errands}
use Rattle.tick_model.proofs.Gains.{advance-keeps, gained, view-advanced}
use Rattle.tick_model.proofs.Landings.{after_landing, flies-in, landing-is}
use Rattle.tick_model.proofs.Lists.{and-is, cell-is, class-is}
use Rattle.tick_model.proofs.Seen.{event-units}
use Rattle.tick_model.proofs.Raising.{follows-shorter}
use Rattle.tick_model.proofs.LimitsFleets.{landing-fewer, landing-kept, landing-loaded, landing-steady}
use Rattle.tick_model.proofs.LimitsOwn.{AllKept, all-kept, slots-kept}
use Rattle.tick_model.proofs.LimitsQueues.{advance-kept, advance-steady, done-after-slots, done-kept}
use Rattle.tick_model.proofs.Steady.{steady-slots}

pub same-most : (a b most : ℕ) → a ≡ b → b ≤ most → a ≤ most
same-most a b most same less = omega (arith, same, less)

-- gains change stocks alone
pub gains-limits : (setting : Setting) (k : CellId → ℕ) (state : State) → KeepsLimits setting state → KeepsLimits setting (advance setting k state)
gains-limits setting k state limits = record {
  queued = limits.queued;
  counted = λ player.
      let here = view setting.cells state (Account player) in
      same-most _ here.units UNITS (ap (λ (seen : View). seen.units) (view-advanced setting k state (Account player)) ∙ (gained setting.rules (k (Account player)) here).units) (limits.counted player);
  levelled = λ cell. (advance-kept setting k state (all-kept setting state limits) cell).levelled;
  learned = λ cell. (advance-kept setting k state (all-kept setting state limits) cell).learned;
  loaded = limits.loaded;
  errands = limits.errands;
  slots = slots-kept setting state (advance setting k state).own state.fleets (λ x. steady-slots _ _ (advance-steady setting k state x)) (λ player. omega arith) limits;
}

both-most : (a b c most : ℕ) → a ≤ b → b ≡ c → c ≤ most → a ≤ most
both-most a b c most less same in_room = omega (arith, less, same, in_room)

after-queued : (setting : Setting) (state : State) (class : QueueClass) (item : Item) (later : List Item) → KeepsRules setting state → StandsBy state class item later → KeepsLimits setting state
    → (cell : CellId) (kind : QueueClass) → length (queue_in (after setting class item later state).items cell kind) ≤ MOST_QUEUED
after-queued setting state class item later fine stands limits cell kind =
    let items = (after setting class item later state).items in
    elim (test (same_cell item.cell cell && same_class class kind)) [
      | inr apart ↦ same-most _ _ MOST_QUEUED (ap length (other-queue setting state class item later cell kind fine stands apart)) (limits.queued cell kind)
      | inl here ↦
          (let both = and-is (same_cell item.cell cell) (same_class class kind) here in
          let place = cell-is item.cell cell both.0 in
          let sort = class-is class kind both.1 in
          let queue = came_queue setting.rules class item later (seen_of setting (item_due class item later) state) in
          let less = follows-shorter (item ∷ later) queue (event-ends setting state class item later fine stands).follows in
          let most = both-most (length queue) (length (item ∷ later)) _ MOST_QUEUED less (ap length (sym stands)) (limits.queued item.cell class) in
          let same : queue_in items cell kind ≡ queue = (λ i. queue_in items (sym place i) (sym sort i)) ∙ queue-after setting state class item later fine stands in
          same-most _ (length queue) MOST_QUEUED (ap length same) most)
    ]

event-queued : (setting : Setting) (state : State) (event : Event) → KeepsRules setting state → Owes (view setting.cells state (home event)) event → KeepsLimits setting state
    → (cell : CellId) (class : QueueClass) → length (queue_in (effect setting event state).items cell class) ≤ MOST_QUEUED
event-queued setting state (item_due sort item later) fine stands limits cell class =
    same-most _ _ MOST_QUEUED (ap (λ s. length (queue_in s.items cell class)) (effect-is setting sort item later state)) (after-queued setting state sort item later fine stands limits cell class)
event-queued setting state (lands fleet) fine stands limits cell class =
    same-most _ _ MOST_QUEUED (ap (λ s. length (queue_in s.items cell class)) (landing-is setting fleet state)) (limits.queued cell class)
event-queued setting state (fights raid) fine stands limits cell class =
    let is_in = raid-in setting state raid fine stands in
    same-most _ _ MOST_QUEUED (ap (λ s. length (queue_in s.items cell class)) (battle-is setting raid state is_in.planet is_in.there)) (limits.queued cell class)

left-most : (event : Event) (change : Change) (seen : CellId → View) (cell : CellId) (a b most : ℕ) → a ≡ units_left event change seen cell b → b ≤ most → a ≤ most
left-most (item_due class item later) change seen cell a b most same less = omega (arith, same, less)
left-most (lands fleet) change seen cell a b most same less = omega (arith, same, less)
left-most (fights raid) change seen cell a b most same less = omega (arith, same, less)

-- every cell keeps its levels after it
event-kept : (setting : Setting) (state : State) (event : Event) → KeepsRules setting state → Owes (view setting.cells state (home event)) event → KeepsLimits setting state
    → AllKept (effect setting event state).own (effect setting event state).items
event-kept setting state (item_due class item later) fine stands limits =
    subst (λ (s : State). AllKept s.own s.items) (sym (effect-is setting class item later state)) (done-kept setting state fine (all-kept setting state limits) class item later stands)
event-kept setting state (lands fleet) fine stands limits =
    let flies = flies-in setting.cells state (home (lands fleet)) fleet stands.0 in
    subst (λ (s : State). AllKept s.own s.items) (sym (landing-is setting fleet state)) (landing-kept setting state fleet (fine.flying fleet flies).kinds (all-kept setting state limits))
event-kept setting state (fights raid) fine stands limits =
    let is_in = raid-in setting state raid fine stands in
    subst (λ (s : State). AllKept s.own s.items) (sym (battle-is setting raid state is_in.planet is_in.there)) (battle-kept setting state raid fine is_in (all-kept setting state limits))

event-loaded : (setting : Setting) (state : State) (event : Event) → KeepsRules setting state → Owes (view setting.cells state (home event)) event → KeepsLimits setting state
    → (fleet : Fleet) → IsIn fleet (effect setting event state).fleets → IsLoaded fleet
event-loaded setting state (item_due class item later) fine stands limits fleet is =
    limits.loaded fleet (subst (λ (s : State). IsIn fleet s.fleets) (effect-is setting class item later state) is)
event-loaded setting state (lands fleet) fine stands limits other is =
    landing-loaded setting state fleet fine (flies-in setting.cells state (home (lands fleet)) fleet stands.0) limits.loaded other
    (subst (λ (s : State). IsIn other s.fleets) (landing-is setting fleet state) is)
event-loaded setting state (fights raid) fine stands limits other is =
    let is_in = raid-in setting state raid fine stands in
    battle-loaded setting state raid fine is_in limits.loaded other (subst (λ (s : State). IsIn other s.fleets) (battle-is setting raid state is_in.planet is_in.there) is)

-- no account has more fleets than slots
abbrev HasSlots : State → Type 0
HasSlots state = (player : Player) (account : AccountFields) → state.own (Account player) ≡ of_account account → length (own_fleets player state.fleets) ≤ slots_of account

event-slots : (setting : Setting) (state : State) (event : Event) → KeepsRules setting state → Owes (view setting.cells state (home event)) event → KeepsLimits setting state → HasSlots (effect setting event state)
event-slots setting state (item_due class item later) fine stands limits =
    subst HasSlots (sym (effect-is setting class item later state))
    (slots-kept setting state (after setting class item later state).own state.fleets (done-after-slots setting state class item later) (λ player. omega arith) limits)
event-slots setting state (lands fleet) fine stands limits =
    let kinds = (fine.flying fleet (flies-in setting.cells state (home (lands fleet)) fleet stands.0)).kinds in
    subst HasSlots (sym (landing-is setting fleet state))
    (slots-kept setting state (after_landing setting fleet state).own (after_landing setting fleet state).fleets
    (λ x. steady-slots _ _ (landing-steady setting state fleet kinds x)) (landing-fewer setting state fleet) limits)
event-slots setting state (fights raid) fine stands limits =
    let is_in = raid-in setting state raid fine stands in
    let then = after_battle setting raid state is_in.planet in
    subst HasSlots (sym (battle-is setting raid state is_in.planet is_in.there))
    (slots-kept setting state then.own then.fleets (λ x. steady-slots _ _ (battle-steady setting state raid fine is_in x)) (battle-fewer setting state raid fine is_in) limits)

-- an event makes no queue longer, and accounts have no more units than before
pub event-limits : (setting : Setting) (state : State) (event : Event) → KeepsRules setting state → Owes (view setting.cells state (home event)) event → KeepsLimits setting state
    → KeepsLimits setting (effect setting event state)
event-limits setting state event fine stands limits = record {
  queued = event-queued setting state event fine stands limits;
  counted = λ player. left-most event _ _ (Account player) _ _ UNITS (event-units setting state event (Account player) fine stands) (limits.counted player);
  levelled = λ cell. (event-kept setting state event fine stands limits cell).levelled;
  learned = λ cell. (event-kept setting state event fine stands limits cell).learned;
  loaded = event-loaded setting state event fine stands limits;
  errands = event-errands setting state event fine stands limits.errands;
  slots = event-slots setting state event fine stands limits;
}

-- Seconds.

settled_at-limits : (setting : Setting) (t : ℕ) (rest : State → State) (u : State) (next : Option Event) → KeepsRules setting u → KeepsLimits setting u
    → next_event setting (everything (game setting)) t u ≡ next → ((v : State) → KeepsRules setting v → KeepsLimits setting v → KeepsLimits setting (rest v))
    → KeepsLimits setting (settled_at rest (effect setting) u next)
settled_at-limits setting t rest u None fine limits is keeps = limits
settled_at-limits setting t rest u (Some e) fine limits is keeps =
    let stands = (next_found setting (everything (game setting)) t u e fine is).stands in
    keeps (effect setting e u) (event-keeps setting u e stands fine) (event-limits setting u e fine stands limits)

settled-limits : (setting : Setting) (t most : ℕ) (u : State) → KeepsRules setting u → KeepsLimits setting u
    → KeepsLimits setting (settled (next_event setting (everything (game setting)) t) (effect setting) most u)
settled-limits setting t zero u fine limits = limits
settled-limits setting t (suc most) u fine limits =
    settled_at-limits setting t (settled (next_event setting (everything (game setting)) t) (effect setting) most) u (next_event setting (everything (game setting)) t u) fine limits refl (settled-limits setting t most)

pub second-limits : (setting : Setting) (t : ℕ) (u : State) → KeepsRules setting u → KeepsLimits setting u → KeepsLimits setting (second (game setting) t u)
unfolding second
second-limits setting t u fine limits =
    settled-limits setting t _ (advance setting (λ x. 1) u) (advance-keeps setting (λ x. 1) u fine) (gains-limits setting (λ x. 1) u limits)
