-- The queues of cells among all items: what stands in them, and what does once one of them was written anew.
use Rattle.std.proofs.Common.{◌≡◌, ℕ, inl, Bool, true, false, not, cond, eqb, ◌&&◌, List, ◌∷◌, ◌++◌, filter, arith, refl, ap, ◌∙◌, sym, subst}
use Rattle.std.proofs.lemmas.List.{append-nil}
use Rattle.std.proofs.lemmas.List.Elements.{filter-append}
use Rattle.base_ids.specs.Cells.{same_cell}
use Rattle.base_ids.specs.Order.{key_before}
use Rattle.base_ids.specs.declared.cell_id.CellId.{CellId}
use Rattle.base_ids.proofs.Ordering.{events_ordered}
use Rattle.laziness.proofs.Bringing.{never}
use Rattle.tick_model.specs.Events.{Event, item_due, lands, fights, Owes, home, key_of, step_of}
use Rattle.tick_model.specs.Rules.{IsIn, KeepsRules}
use Rattle.tick_model.specs.Universe.{Own, QueueClass, Buildings, Researches, Yard, same_class, Item, Setting, State}
use Rattle.tick_model.specs.Views.{belongs, queue_in, stands_in, view}
use Rattle.tick_model.proofs.Lists.{and-from, and-is, cell-from, cell-is, class-from, class-is, distinct-one, fails, filter-all, filter-idle, filter-none, fleet-one, from-filter, not-true, same_number}
use Rattle.tick_model.proofs.Raids.{raids-one}
use Rattle.tick_model.proofs.Writes.{with_queue}

-- an item of a queue is one of all, and stands there
pub record IsQueued (cell : CellId) (class : QueueClass) (item : Item) (items : List Item) : Type 0 where
  pub within : IsIn item items
  pub place : item.cell ≡ cell
  pub class_is : item.class ≡ class
  pub there : stands_in cell class item ≡ true

pub queued-in : (items : List Item) (cell : CellId) (class : QueueClass) (item : Item) → IsIn item (queue_in items cell class) → IsQueued cell class item items
queued-in items cell class item is =
    let both = from-filter (stands_in cell class) item items is in
    let parts = and-is (same_cell cell item.cell) (same_class class item.class) both.1 in
    record { within = both.0; place = sym (cell-is cell item.cell parts.0); class_is = sym (class-is class item.class parts.1); there = both.1 }

-- so is each of an event that a cell owes
pub queued : (state : State) (class : QueueClass) (cell : CellId) (item : Item) (later : List Item) → queue_in state.items cell class ≡ item ∷ later
    → (other : Item) → IsIn other (item ∷ later) → IsQueued cell class other state.items
queued state class cell item later stands other is = queued-in state.items cell class other (subst (IsIn other) (sym stands) is)

-- what a cell owes is its own
pub owed-home : (state : State) (class : QueueClass) (cell : CellId) (item : Item) (later : List Item) → queue_in state.items cell class ≡ item ∷ later → item.cell ≡ cell
owed-home state class cell item later stands = (queued state class cell item later stands item (inl refl)).place

-- of what is in a queue each item stands in it
pub stands-there : (cell : CellId) (class : QueueClass) (item : Item) → item.cell ≡ cell → item.class ≡ class → stands_in cell class item ≡ true
stands-there cell class item place is = and-from (same_cell cell item.cell) (same_class class item.class) (cell-from cell item.cell (sym place)) (class-from class item.class (sym is))

-- the queue that was written anew is what was written
pub queue-new : (own : CellId → Own) (cell : CellId) (class : QueueClass) (items : List Item) (state : State) → ((item : Item) → IsIn item items → stands_in cell class item ≡ true)
    → queue_in (with_queue own cell class items state).items cell class ≡ items
queue-new own cell class items state there =
    let others = filter (λ (item : Item). not (stands_in cell class item)) state.items in
    let none = filter-none (stands_in cell class) others (
    λ item is. not-true (stands_in cell class item) (from-filter (λ x. not (stands_in cell class x)) item state.items is).1) in
    filter-append (stands_in cell class) others items ∙ (λ i. none i ++ filter-all (stands_in cell class) items there i)

-- the other queues stay
pub queue-other : (own : CellId → Own) (cell other : CellId) (class kind : QueueClass) (items : List Item) (state : State) → (same_cell cell other && same_class class kind) ≡ false
    → ((item : Item) → IsIn item items → stands_in cell class item ≡ true) → queue_in (with_queue own cell class items state).items other kind ≡ queue_in state.items other kind
queue-other own cell other class kind items state apart there =
    let rest = filter (λ (item : Item). not (stands_in cell class item)) state.items in
    let elsewhere : (item : Item) → stands_in other kind item ≡ true → stands_in cell class item ≡ false =
    λ item at_other. fails (stands_in cell class item) (λ here.
    let one = and-is (same_cell cell item.cell) (same_class class item.class) here in
    let two = and-is (same_cell other item.cell) (same_class kind item.class) at_other in
    let place = cell-from cell other (cell-is cell item.cell one.0 ∙ sym (cell-is other item.cell two.0)) in
    let sort = class-from class kind (class-is class item.class one.1 ∙ sym (class-is kind item.class two.1)) in
    never (same_cell cell other && same_class class kind) (and-from (same_cell cell other) (same_class class kind) place sort) apart) in
    let gone = filter-none (stands_in other kind) items (λ item is. fails (stands_in other kind item) (λ at_other. never (stands_in cell class item) (there item is) (elsewhere item at_other))) in
    let stay = filter-idle (stands_in other kind) (λ item. not (stands_in cell class item)) state.items (λ item is at_other. ap not (elsewhere item at_other)) in
    filter-append (stands_in other kind) rest items ∙ (λ i. stay i ++ gone i) ∙ append-nil (queue_in state.items other kind)

tails : (a b : Item) (as_a as_b : List Item) → a ∷ as_a ≡ b ∷ as_b → as_a ≡ as_b
tails a b as_a as_b same = cc

-- classes of one step are one
class-by_step : (a b : QueueClass) → step_of a ≡ step_of b → a ≡ b
class-by_step Buildings Buildings same = refl
class-by_step Buildings Researches same = absurd (omega arith)
class-by_step Buildings Yard same = absurd (omega arith)
class-by_step Researches Buildings same = absurd (omega arith)
class-by_step Researches Researches same = refl
class-by_step Researches Yard same = absurd (omega arith)
class-by_step Yard Buildings same = absurd (omega arith)
class-by_step Yard Researches same = absurd (omega arith)
class-by_step Yard Yard same = refl

-- items and fleets have different steps
apart_at : (class : QueueClass) (b : Bool) → step_of class ≡ cond b 4 6 → ⊥
apart_at Buildings true same = omega arith
apart_at Buildings false same = omega arith
apart_at Researches true same = omega arith
apart_at Researches false same = omega arith
apart_at Yard true same = omega arith
apart_at Yard false same = omega arith

-- and so has a battle
item-fight : (class : QueueClass) → step_of class ≡ 5 → ⊥
item-fight Buildings same = omega arith
item-fight Researches same = omega arith
item-fight Yard same = omega arith

landing-fight : (b : Bool) → ◌≡◌ {A = ℕ} (cond b 4 6) 5 → ⊥
landing-fight true same = omega arith
landing-fight false same = omega arith

-- of two events that stand one acts first
pub one-event : (setting : Setting) (state : State) (e d : Event) → KeepsRules setting state → Owes (view setting.cells state (home e)) e
    → Owes (view setting.cells state (home d)) d → key_before (key_of e) (key_of d) ≡ false → key_before (key_of d) (key_of e) ≡ false → e ≡ d
one-event setting state (item_due class item later) (item_due kind other more) fine stands stands' first second =
    let key = events_ordered.total (key_of (item_due class item later)) (key_of (item_due kind other more)) first second in
    let here = queued state class item.cell item later stands item (inl refl) in
    let there = queued state kind other.cell other more stands' other (inl refl) in
    let sort = class-by_step class kind (ap (λ k. k.step) key) in
    let classes = class-from item.class other.class (here.class_is ∙ sort ∙ sym there.class_is) in
    let number = ap (λ k. k.number) key in
    let order = and-from (same_class item.class other.class) (eqb item.number other.number) classes (ap (λ n. eqb n other.number) number ∙ same_number other.number) in
    let same = distinct-one state.items item other fine.distinct here.within there.within order in
    let queues : item ∷ later ≡ other ∷ more = sym stands ∙ (λ i. queue_in state.items (same i).cell (sort i)) ∙ stands' in
    λ i. item_due (sort i) (same i) (tails item other later more queues i)
one-event setting state (item_due class item later) (lands fleet) fine stands stands' first second =
    let key = events_ordered.total (key_of (item_due class item later)) (key_of (lands fleet)) first second in
    absurd (apart_at class fleet.outbound (ap (λ k. k.step) key))
one-event setting state (lands fleet) (item_due class item later) fine stands stands' first second =
    let key = events_ordered.total (key_of (lands fleet)) (key_of (item_due class item later)) first second in
    absurd (apart_at class fleet.outbound (sym (ap (λ k. k.step) key)))
one-event setting state (lands fleet) (lands other) fine stands stands' first second =
    let key = events_ordered.total (key_of (lands fleet)) (key_of (lands other)) first second in
    let here = from-filter (belongs (home (lands fleet))) fleet state.fleets stands.0 in
    let there = from-filter (belongs (home (lands other))) other state.fleets stands'.0 in
    ap lands (fleet-one state.fleets fleet other fine.apart here.0 there.0 (ap (λ k. eqb k.number other.number) key ∙ same_number other.number))
one-event setting state (item_due class item later) (fights raid) fine stands stands' first second =
    let key = events_ordered.total (key_of (item_due class item later)) (key_of (fights raid)) first second in
    absurd (item-fight class (ap (λ k. k.step) key))
one-event setting state (fights raid) (item_due class item later) fine stands stands' first second =
    let key = events_ordered.total (key_of (fights raid)) (key_of (item_due class item later)) first second in
    absurd (item-fight class (sym (ap (λ k. k.step) key)))
one-event setting state (lands fleet) (fights raid) fine stands stands' first second =
    let key = events_ordered.total (key_of (lands fleet)) (key_of (fights raid)) first second in
    absurd (landing-fight fleet.outbound (ap (λ k. k.step) key))
one-event setting state (fights raid) (lands fleet) fine stands stands' first second =
    let key = events_ordered.total (key_of (fights raid)) (key_of (lands fleet)) first second in
    absurd (landing-fight fleet.outbound (sym (ap (λ k. k.step) key)))
one-event setting state (fights raid) (fights other) fine stands stands' first second =
    let key = events_ordered.total (key_of (fights raid)) (key_of (fights other)) first second in
    ap fights (raids-one setting state raid other fine stands stands' (ap (λ k. k.number) key))
