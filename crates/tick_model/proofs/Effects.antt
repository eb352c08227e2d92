-- What an event does to a state.
use Rattle.std.proofs.Common.{◌≡◌, inl, inr, Bool, true, false, cond, ◌&&◌, ◌||◌, List, ◌∷◌, refl, ap, ◌∙◌, sym, subst}
use Rattle.base_ids.specs.Cells.{same_cell}
use Rattle.base_ids.specs.declared.cell_id.CellId.{CellId}
use Rattle.laziness.proofs.Bringing.{test, never}
use Rattle.tick_model.specs.Buildings.{done}
use Rattle.tick_model.specs.Changes.{new_queue, owns, put_own, write}
use Rattle.tick_model.specs.Events.{Event, item_due, effect, event_change, footprint}
use Rattle.tick_model.specs.Researches.{researched}
use Rattle.tick_model.specs.Rules.{IsBatch, IsIn, KeepsRules}
use Rattle.tick_model.specs.Universe.{Own, QueueClass, Buildings, Researches, Yard, Item, Setting, State, same_class}
use Rattle.tick_model.specs.Views.{View, holding, holding_at, queue_in, shown, stands_in, view}
use Rattle.tick_model.specs.Yards.{unit_done}
use Rattle.tick_model.specs.declared.rules.Rules.{Rules}
use Rattle.tick_model.proofs.Counted.{unit-counted, unit-stays}
use Rattle.tick_model.proofs.Ends.{Ends, building-ends, research-ends, unit-ends}
use Rattle.tick_model.proofs.Follows.{follows-in}
use Rattle.tick_model.proofs.Lists.{cell-is, cell-itself}
use Rattle.tick_model.proofs.Owns.{IsAlike, Stays, alike-holding, alike-itself, alike-stays, owner_of, put-alike, stays-itself, stays-owner}
use Rattle.tick_model.proofs.Queues.{queue-new, queue-other, queued, stands-there}
use Rattle.tick_model.proofs.Staying.{AllStay}
use Rattle.tick_model.proofs.Writes.{IsWithin, owns_after, shown-own, with_queue, within-queue, write-queue}

-- what cells have of their own, and the queue that was due
abbrev pub came_own : Rules → QueueClass → Item → List Item → (CellId → View) → CellId → Own
came_own rules Buildings item later seen = put_own item.cell (done rules.speed item later (owns seen item.cell)).own (owns seen)
came_own rules Researches item later seen = (researched rules.speed item later (owns seen) (owns seen item.cell)).own
came_own rules Yard item later seen = put_own item.cell (unit_done rules.speed item later (owns seen item.cell)).own (owns seen)

abbrev pub came_queue : Rules → QueueClass → Item → List Item → (CellId → View) → List Item
came_queue rules Buildings item later seen = (done rules.speed item later (owns seen item.cell)).queue
came_queue rules Researches item later seen = (researched rules.speed item later (owns seen) (owns seen item.cell)).queue
came_queue rules Yard item later seen = (unit_done rules.speed item later (owns seen item.cell)).queue

change-is : (rules : Rules) (class : QueueClass) (item : Item) (later : List Item) (seen : CellId → View)
    → event_change rules (item_due class item later) seen ≡ new_queue (came_own rules class item later seen) item.cell class (came_queue rules class item later seen)
change-is rules Buildings item later seen = refl
change-is rules Researches item later seen = refl
change-is rules Yard item later seen = refl

-- what an event is shown
abbrev pub seen_of : Setting → Event → State → CellId → View
seen_of setting event state = shown (footprint event) (view setting.cells state)

-- the state after an event
abbrev pub after : Setting → QueueClass → Item → List Item → State → State
after setting class item later state =
    let event = item_due class item later in
    let seen = seen_of setting event state in
    with_queue (owns_after (footprint event) (came_own setting.rules class item later seen) state) item.cell class (came_queue setting.rules class item later seen) state

pub effect-is : (setting : Setting) (class : QueueClass) (item : Item) (later : List Item) (state : State)
    → effect setting (item_due class item later) state ≡ after setting class item later state
effect-is setting class item later state =
    let event = item_due class item later in
    let seen = seen_of setting event state in
    let own = came_own setting.rules class item later seen in
    let queue = came_queue setting.rules class item later seen in
    ap (λ change. write (footprint event) change state) (change-is setting.rules class item later seen)
    ∙ write-queue (footprint event) own item.cell class queue state

-- an event stands by its queue alone
abbrev pub StandsBy : State → QueueClass → Item → List Item → Type 0
StandsBy state class item later = queue_in state.items item.cell class ≡ item ∷ later

pub has-home : (class : QueueClass) (item : Item) (later : List Item) → footprint (item_due class item later) item.cell ≡ true
has-home class item later = rw (cell-itself item.cell) refl

pub shown-home : (setting : Setting) (class : QueueClass) (item : Item) (later : List Item) (state : State)
    → owns (seen_of setting (item_due class item later) state) item.cell ≡ state.own item.cell
shown-home setting class item later state = shown-own setting.cells (footprint (item_due class item later)) state item.cell (has-home class item later)

-- its queue
pub event-ends : (setting : Setting) (state : State) (class : QueueClass) (item : Item) (later : List Item) → KeepsRules setting state → StandsBy state class item later
    → Ends class item later (came_queue setting.rules class item later (seen_of setting (item_due class item later) state))
event-ends setting state Buildings item later fine stands = (building-ends setting.rules.speed item later (owns (seen_of setting (item_due Buildings item later) state) item.cell)).0
event-ends setting state Researches item later fine stands =
    let own = owns (seen_of setting (item_due Researches item later) state) in
    (research-ends setting.rules.speed item later own (own item.cell) refl).0
event-ends setting state Yard item later fine stands =
    unit-ends setting.rules.speed item later (owns (seen_of setting (item_due Yard item later) state) item.cell) (fine.paced item.cell item later stands)

-- a level that is done leaves what cells have of their own alike
level-alike : (setting : Setting) (state : State) (class : QueueClass) (item : Item) (later : List Item) → (class ≡ Yard → ⊥)
    → (x : CellId) → IsAlike (owns (seen_of setting (item_due class item later) state) x) (came_own setting.rules class item later (seen_of setting (item_due class item later) state) x)
level-alike setting state Buildings item later level x =
    let own = owns (seen_of setting (item_due Buildings item later) state) in
    put-alike item.cell (done setting.rules.speed item later (own item.cell)).own own own (building-ends setting.rules.speed item later (own item.cell)).1 (λ y. alike-itself (own y)) x
level-alike setting state Researches item later level x =
    let own = owns (seen_of setting (item_due Researches item later) state) in
    (research-ends setting.rules.speed item later own (own item.cell) refl).1 x
level-alike setting state Yard item later level x = absurd (level refl)

pub put-stays : (cell : CellId) (new : Own) (own : CellId → Own) → Stays (own cell) new → (x : CellId) → Stays (own x) (put_own cell new own x)
put-stays cell new own here x =
    elim (same_cell cell x) as (λ b. same_cell cell x ≡ b → Stays (own x) (cond b new (own x))) [
      | true ↦ λ same. subst (λ y. Stays (own y) new) (cell-is cell x same) here
      | false ↦ λ apart. stays-itself (own x)
    ] refl

-- and a unit that is done lets them stay
came-stays : (setting : Setting) (state : State) (class : QueueClass) (item : Item) (later : List Item)
    → (x : CellId) → Stays (owns (seen_of setting (item_due class item later) state) x) (came_own setting.rules class item later (seen_of setting (item_due class item later) state) x)
came-stays setting state Buildings item later x = alike-stays _ _ (level-alike setting state Buildings item later (λ yard. absurd cc) x)
came-stays setting state Researches item later x = alike-stays _ _ (level-alike setting state Researches item later (λ yard. absurd cc) x)
came-stays setting state Yard item later x =
    let own = owns (seen_of setting (item_due Yard item later) state) in
    put-stays item.cell (unit_done setting.rules.speed item later (own item.cell)).own own (unit-stays setting.rules.speed item later (own item.cell)) x

-- every cell stays
pub event-stays : (setting : Setting) (state : State) (class : QueueClass) (item : Item) (later : List Item) → AllStay state.own (after setting class item later state).own
event-stays setting state class item later x =
    let event = item_due class item later in
    let own = came_own setting.rules class item later (seen_of setting event state) in
    elim (test (footprint event x)) [
      | inl has ↦
          subst (λ new. Stays (state.own x) new) (sym (ap (λ b. cond b (own x) (state.own x)) has))
          (subst (λ old. Stays old (own x)) (shown-own setting.cells (footprint event) state x has) (came-stays setting state class item later x))
      | inr out ↦ subst (λ new. Stays (state.own x) new) (sym (ap (λ b. cond b (own x) (state.own x)) out)) (stays-itself (state.own x))
    ]

-- the new queue is a queue of the same cell
pub still-there : (setting : Setting) (state : State) (class : QueueClass) (item : Item) (later : List Item) → KeepsRules setting state → StandsBy state class item later
    → (x : Item) → IsIn x (came_queue setting.rules class item later (seen_of setting (item_due class item later) state)) → stands_in item.cell class x ≡ true
still-there setting state class item later fine stands x has =
    let found = follows-in (item ∷ later) _ (event-ends setting state class item later fine stands).follows x has in
    let old = queued state class item.cell item later stands found.0 found.1 in
    stands-there item.cell class x (found.2.cell ∙ old.place) (found.2.class ∙ old.class_is)

-- and it is what its cell shows
pub queue-after : (setting : Setting) (state : State) (class : QueueClass) (item : Item) (later : List Item) → KeepsRules setting state → StandsBy state class item later
    → queue_in (after setting class item later state).items item.cell class ≡ came_queue setting.rules class item later (seen_of setting (item_due class item later) state)
queue-after setting state class item later fine stands =
    let event = item_due class item later in
    queue-new (owns_after (footprint event) (came_own setting.rules class item later (seen_of setting event state)) state) item.cell class
    (came_queue setting.rules class item later (seen_of setting event state)) state (still-there setting state class item later fine stands)

-- the other queues stay
pub other-queue : (setting : Setting) (state : State) (class : QueueClass) (item : Item) (later : List Item) (cell : CellId) (kind : QueueClass) → KeepsRules setting state → StandsBy state class item later
    → (same_cell item.cell cell && same_class class kind) ≡ false → queue_in (after setting class item later state).items cell kind ≡ queue_in state.items cell kind
other-queue setting state class item later cell kind fine stands apart =
    let event = item_due class item later in
    queue-other (owns_after (footprint event) (came_own setting.rules class item later (seen_of setting event state)) state) item.cell cell class kind
    (came_queue setting.rules class item later (seen_of setting event state)) state apart (still-there setting state class item later fine stands)

pub and-no : (a b : Bool) → b ≡ false → a && b ≡ false
and-no true b is = is
and-no false b is = refl

-- owner's accounts count the same
level-counted : (setting : Setting) (state : State) (class : QueueClass) (item : Item) (later : List Item) → KeepsRules setting state → StandsBy state class item later → (class ≡ Yard → ⊥) → same_class class Yard ≡ false
    → (x : CellId) → footprint (item_due class item later) x ≡ true → holding_at (after setting class item later state) x ≡ holding_at state x
level-counted setting state class item later fine stands level apart x has =
    let event = item_due class item later in
    let own = came_own setting.rules class item later (seen_of setting event state) in
    let alike = subst (λ old. IsAlike old (own x)) (shown-own setting.cells (footprint event) state x has) (level-alike setting state class item later level x) in
    let here : (after setting class item later state).own x ≡ own x = ap (λ b. cond b (own x) (state.own x)) has in
    let queue = other-queue setting state class item later x Yard fine stands (and-no (same_cell item.cell x) (same_class class Yard) apart) in
    (λ i. holding (here i) (queue i)) ∙ alike-holding (state.own x) (own x) (queue_in state.items x Yard) alike

or-no : (a b : Bool) → a || b ≡ true → b ≡ false → a ≡ true
or-no true b is no_b = refl
or-no false b is no_b = absurd (never b is no_b)

pub batch-is : (class : QueueClass) (item : Item) → class ≡ Yard → IsBatch class item → IsBatch Yard item
batch-is class item is batch = subst (λ c. IsBatch c item) is batch

unit-counts : (setting : Setting) (state : State) (item : Item) (later : List Item) → KeepsRules setting state → StandsBy state Yard item later
    → holding_at (after setting Yard item later state) item.cell ≡ holding_at state item.cell
unit-counts setting state item later fine stands =
    let event = item_due Yard item later in
    let seen = seen_of setting event state in
    let home_own = shown-home setting Yard item later state in
    let here = queued state Yard item.cell item later stands item (inl refl) in
    let batch = batch-is item.class item here.class_is (fine.placed item here.within).batch in
    let put : came_own setting.rules Yard item later seen item.cell ≡ (unit_done setting.rules.speed item later (owns seen item.cell)).own =
    ap (λ b. cond b (unit_done setting.rules.speed item later (owns seen item.cell)).own (owns seen item.cell)) (cell-itself item.cell) in
    let own : (after setting Yard item later state).own item.cell ≡ (unit_done setting.rules.speed item later (owns seen item.cell)).own =
    ap (λ b. cond b (came_own setting.rules Yard item later seen item.cell) (state.own item.cell)) (has-home Yard item later) ∙ put in
    let queue = queue-after setting state Yard item later fine stands in
    let counted = unit-counted setting.rules.speed item later (owns seen item.cell) batch.0 batch.1 (λ planet is. fine.kinds item.cell planet (sym home_own ∙ is)) in
    (λ i. holding (own i) (queue i)) ∙ counted ∙ (λ i. holding (home_own i) (sym stands i))

pub event-counted : (setting : Setting) (state : State) (class : QueueClass) (item : Item) (later : List Item) → KeepsRules setting state → StandsBy state class item later
    → (x : CellId) → footprint (item_due class item later) x ≡ true → holding_at (after setting class item later state) x ≡ holding_at state x
event-counted setting state Buildings item later fine stands x has = level-counted setting state Buildings item later fine stands (λ yard. absurd cc) refl x has
event-counted setting state Researches item later fine stands x has = level-counted setting state Researches item later fine stands (λ yard. absurd cc) refl x has
event-counted setting state Yard item later fine stands x has =
    let home = cell-is item.cell x (or-no (same_cell item.cell x) false has refl) in
    subst (λ y. holding_at (after setting Yard item later state) y ≡ holding_at state y) home (unit-counts setting state item later fine stands)

pub event-within : (setting : Setting) (state : State) (class : QueueClass) (item : Item) (later : List Item) → KeepsRules setting state → StandsBy state class item later
    → IsWithin (footprint (item_due class item later)) (footprint (item_due class item later)) (event_change setting.rules (item_due class item later) (seen_of setting (item_due class item later) state)) state
event-within setting state class item later fine stands =
    let event = item_due class item later in
    let seen = seen_of setting event state in
    let own = came_own setting.rules class item later seen in
    subst (λ change. IsWithin (footprint event) (footprint event) change state) (sym (change-is setting.rules class item later seen))
    (within-queue (footprint event) (footprint event) own item.cell class (came_queue setting.rules class item later seen) state (has-home class item later)
    (record {
      among = λ x has. has;
      owners = λ x has. stays-owner (owns seen x) (own x) (came-stays setting state class item later x) ∙ ap owner_of (shown-own setting.cells (footprint event) state x has);
      counted = λ x has. inl (event-counted setting state class item later fine stands x has);
    })
    (still-there setting state class item later fine stands))
