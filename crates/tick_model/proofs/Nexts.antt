-- The next event is found, if one is due.
use Rattle.std.proofs.Common.{◌≡◌, ℕ, ◌≤◌, inl, inr, Bool, true, false, nat_le, cond, List, [], ◌∷◌, ◌++◌, None, Some, Contains, filter, map, arith, refl, ap, ◌∙◌, sym, subst}
use Rattle.std.proofs.lemmas.Bool.Decides.{nat_tests}
use Rattle.base_ids.specs.Cells.{same_cell}
use Rattle.base_ids.specs.declared.cell_id.CellId.{CellId}
use Rattle.base_ids.specs.declared.cell_id.CellId.TheVariants.{Planet}
use Rattle.laziness.specs.Laws.{IsNext, NoneDue}
use Rattle.laziness.proofs.Bringing.{never}
use Rattle.tick_model.specs.Events.{Event, item_due, lands, fights, Owes, coming, due_by, due_events, first_due, home, items_owed, landings, next_event, owed, second_of}
use Rattle.tick_model.specs.Flights.{landing}
use Rattle.tick_model.specs.Game.{game}
use Rattle.tick_model.specs.Raids.{Raid, attacks, is_attack, raid_of}
use Rattle.tick_model.specs.Requests.{is_there}
use Rattle.tick_model.specs.Rules.{IsIn, KeepsRules, queue_cell}
use Rattle.tick_model.specs.Universe.{of_planet, PlanetFields, QueueClass, Buildings, Researches, Yard, Fleet, Item, Setting, State}
use Rattle.tick_model.specs.Views.{View, belongs, view}
use Rattle.tick_model.proofs.Keys.{first-none, first-some}
use Rattle.tick_model.proofs.Lists.{and-is, cell-from, cell-is, from-filter, in-append, in-contained, in-filter, in-first, in-second}
use Rattle.tick_model.proofs.Queues.{owed-home, queued}
use Rattle.tick_model.proofs.Raids.{raid-in}

pub le-is : (m n : ℕ) → m ≤ n → nat_le m n ≡ true
le-is m n less = grind (arith, nat_tests)

is-le : (m n : ℕ) → nat_le m n ≡ true → m ≤ n
is-le m n is = grind (arith, nat_tests)

first-owes : (class kind : QueueClass) (items : List Item) (item : Item) (later : List Item) → IsIn (item_due kind item later) (first_due class items)
    → (class ≡ kind) × (items ≡ item ∷ later)
first-owes class kind [] item later is = absurd is
first-owes class kind (x ∷ xs) item later (inl same) = (sym cc, cc)
first-owes class kind (x ∷ xs) item later (inr none) = absurd none

owes-at : (seen : View) (class kind : QueueClass) (item : Item) (later : List Item) → IsIn (item_due kind item later) (first_due class (seen.queue class)) → seen.queue kind ≡ item ∷ later
owes-at seen class kind item later is =
    let both = first-owes class kind (seen.queue class) item later is in
    subst (λ c. seen.queue c ≡ item ∷ later) both.0 both.1

-- what the queues of a cell bring it owes
items-from : (seen : View) (class : QueueClass) (item : Item) (later : List Item) → IsIn (item_due class item later) (items_owed seen) → Owes seen (item_due class item later)
items-from seen kind item later is =
    let e = item_due kind item later in
    let buildings = first_due Buildings (seen.queue Buildings) in
    let researches = first_due Researches (seen.queue Researches) in
    let yard = first_due Yard (seen.queue Yard) in
    elim (in-append e (buildings ++ researches) yard is) [
      | inr third ↦ owes-at seen Yard kind item later third
      | inl others ↦ elim (in-append e buildings researches others) [
        | inl first ↦ owes-at seen Buildings kind item later first
        | inr second ↦ owes-at seen Researches kind item later second
      ]
    ]

no-landing : (class : QueueClass) (fleet : Fleet) (items : List Item) → IsIn (lands fleet) (first_due class items) → ⊥
no-landing class fleet [] is = is
no-landing class fleet (item ∷ later) (inl same) = absurd cc
no-landing class fleet (item ∷ later) (inr none) = none

-- and that is no fleet
no-landings : (seen : View) (fleet : Fleet) → IsIn (lands fleet) (items_owed seen) → ⊥
no-landings seen fleet is =
    let e = lands fleet in
    let buildings = first_due Buildings (seen.queue Buildings) in
    let researches = first_due Researches (seen.queue Researches) in
    elim (in-append e (buildings ++ researches) (first_due Yard (seen.queue Yard)) is) [
      | inr third ↦ no-landing Yard fleet (seen.queue Yard) third
      | inl others ↦ elim (in-append e buildings researches others) [
        | inl first ↦ no-landing Buildings fleet (seen.queue Buildings) first
        | inr second ↦ no-landing Researches fleet (seen.queue Researches) second
      ]
    ]

owed-first : (class : QueueClass) (items : List Item) (item : Item) (later : List Item) → items ≡ item ∷ later → IsIn (item_due class item later) (first_due class items)
owed-first class items item later is = subst (λ items. IsIn (item_due class item later) (first_due class items)) (sym is) (inl refl)

pub items-owes : (seen : View) (class : QueueClass) (item : Item) (later : List Item) → Owes seen (item_due class item later) → IsIn (item_due class item later) (items_owed seen)
items-owes seen Buildings item later owes =
    let e = item_due Buildings item later in
    let buildings = first_due Buildings (seen.queue Buildings) in
    let researches = first_due Researches (seen.queue Researches) in
    in-first e (buildings ++ researches) (first_due Yard (seen.queue Yard)) (in-first e buildings researches (owed-first Buildings (seen.queue Buildings) item later owes))
items-owes seen Researches item later owes =
    let e = item_due Researches item later in
    let buildings = first_due Buildings (seen.queue Buildings) in
    let researches = first_due Researches (seen.queue Researches) in
    in-first e (buildings ++ researches) (first_due Yard (seen.queue Yard)) (in-second e buildings researches (owed-first Researches (seen.queue Researches) item later owes))
items-owes seen Yard item later owes =
    in-second (item_due Yard item later) (first_due Buildings (seen.queue Buildings) ++ first_due Researches (seen.queue Researches)) (first_due Yard (seen.queue Yard))
    (owed-first Yard (seen.queue Yard) item later owes)

-- The fleets that land at a cell.

from-landings : (comes : Fleet → Event) (fleets : List Fleet) (e : Event) → IsIn e (map comes fleets) → (fleet : Fleet) × IsIn fleet fleets × (e ≡ comes fleet)
from-landings comes [] e is = absurd is
from-landings comes (fleet ∷ fleets) e (inl same) = (fleet, inl refl, same)
from-landings comes (fleet ∷ fleets) e (inr later) = let found = from-landings comes fleets e later in (found.0, inr found.1, found.2)

to-landings : (comes : Fleet → Event) (fleets : List Fleet) (fleet : Fleet) → IsIn fleet fleets → IsIn (comes fleet) (map comes fleets)
to-landings comes [] fleet is = absurd is
to-landings comes (first ∷ fleets) fleet (inl same) = inl (ap comes same)
to-landings comes (first ∷ fleets) fleet (inr later) = inr (to-landings comes fleets fleet later)

-- what a fleet comes to is no item
no-item : (class : QueueClass) (item : Item) (later : List Item) (raid : Raid) (fleet : Fleet) (b : Bool) → item_due class item later ≡ cond b (fights raid) (lands fleet) → ⊥
no-item class item later raid fleet true same = cc
no-item class item later raid fleet false same = cc

-- and if it lands it doesn't attack
comes-alone : (raid : Raid) (fleet other : Fleet) (b : Bool) → attacks other ≡ b → lands fleet ≡ cond b (fights raid) (lands other) → (fleet ≡ other) × (attacks other ≡ false)
comes-alone raid fleet other true is same = absurd cc
comes-alone raid fleet other false is same = (cc, is)

comes-fighting : (raid own : Raid) (other : Fleet) (b : Bool) → attacks other ≡ b → fights raid ≡ cond b (fights own) (lands other) → (raid ≡ own) × (attacks other ≡ true)
comes-fighting raid own other true is same = (cc, is)
comes-fighting raid own other false is same = absurd cc

no-fight : (class : QueueClass) (raid : Raid) (items : List Item) → IsIn (fights raid) (first_due class items) → ⊥
no-fight class raid [] is = is
no-fight class raid (item ∷ later) (inl same) = absurd cc
no-fight class raid (item ∷ later) (inr none) = none

no-fights : (seen : View) (raid : Raid) → IsIn (fights raid) (items_owed seen) → ⊥
no-fights seen raid is =
    let e = fights raid in
    let buildings = first_due Buildings (seen.queue Buildings) in
    let researches = first_due Researches (seen.queue Researches) in
    elim (in-append e (buildings ++ researches) (first_due Yard (seen.queue Yard)) is) [
      | inr third ↦ no-fight Yard raid (seen.queue Yard) third
      | inl others ↦ elim (in-append e buildings researches others) [
        | inl first ↦ no-fight Buildings raid (seen.queue Buildings) first
        | inr second ↦ no-fight Researches raid (seen.queue Researches) second
      ]
    ]

-- a fleet that attacks comes to its target
pub landing-out : (fleet : Fleet) → attacks fleet ≡ true → landing fleet ≡ fleet.target
landing-out fleet hostile = ap (λ b. cond b fleet.target fleet.origin) (and-is fleet.outbound (is_attack fleet.mission) hostile).0

-- a cell where an event is at home owes it
pub owed-from : (cell : CellId) (seen : View) (e : Event) → home e ≡ cell → Owes seen e → IsIn e (owed cell seen)
owed-from cell seen (item_due class item later) here owes =
    in-first (item_due class item later) (items_owed seen) (landings cell seen.fleets) (items-owes seen class item later owes)
owed-from cell seen (lands fleet) here owes =
    let lands_here = λ (other : Fleet). same_cell (Planet (landing other)) cell in
    in-second (lands fleet) (items_owed seen) (landings cell seen.fleets)
    (subst (λ e. IsIn e (landings cell seen.fleets)) (ap (λ b. cond b (fights (raid_of seen.fleets fleet)) (lands fleet)) owes.1)
    (to-landings (coming seen.fleets) (filter lands_here seen.fleets) fleet (in-filter lands_here fleet seen.fleets owes.0 (cell-from (Planet (landing fleet)) cell here))))
owed-from cell seen (fights raid) here owes =
    let lands_here = λ (other : Fleet). same_cell (Planet (landing other)) cell in
    let target : raid.target ≡ owes.one.target = ap (λ (r : Raid). r.target) owes.is in
    let place : Planet (landing owes.one) ≡ cell = ap Planet (landing-out owes.one owes.hostile ∙ sym target) ∙ here in
    let comes : coming seen.fleets owes.one ≡ fights raid = ap (λ b. cond b (fights (raid_of seen.fleets owes.one)) (lands owes.one)) owes.hostile ∙ ap fights (sym owes.is) in
    in-second (fights raid) (items_owed seen) (landings cell seen.fleets)
    (subst (λ e. IsIn e (landings cell seen.fleets)) comes
    (to-landings (coming seen.fleets) (filter lands_here seen.fleets) owes.one (in-filter lands_here owes.one seen.fleets owes.flies (cell-from (Planet (landing owes.one)) cell place))))

-- an event that a cell owes is at home there
record OwesAtHome (cell : CellId) (seen : View) (e : Event) : Type 0 where
  here : home e ≡ cell
  owes : Owes seen e

at-home : (setting : Setting) (state : State) (cell : CellId) (e : Event) → IsIn e (owed cell (view setting.cells state cell)) → OwesAtHome cell (view setting.cells state cell) e
at-home setting state cell (item_due class item later) is =
    let seen = view setting.cells state cell in
    elim (in-append (item_due class item later) (items_owed seen) (landings cell seen.fleets) is) [
      | inl queued ↦
          (let owes = items-from seen class item later queued in
          record { here = owed-home state class cell item later owes; owes = owes })
      | inr fleet ↦
          (let found = from-landings (coming seen.fleets) (filter (λ other. same_cell (Planet (landing other)) cell) seen.fleets) (item_due class item later) fleet in
          absurd (no-item class item later (raid_of seen.fleets found.0) found.0 (attacks found.0) found.2))
    ]
at-home setting state cell (lands fleet) is =
    let seen = view setting.cells state cell in
    let lands_here = λ (other : Fleet). same_cell (Planet (landing other)) cell in
    elim (in-append (lands fleet) (items_owed seen) (landings cell seen.fleets) is) [
      | inl queued ↦ absurd (no-landings seen fleet queued)
      | inr landing_here ↦
          (let found = from-landings (coming seen.fleets) (filter lands_here seen.fleets) (lands fleet) landing_here in
          let alone = comes-alone (raid_of seen.fleets found.0) fleet found.0 (attacks found.0) refl found.2 in
          let both = from-filter lands_here found.0 seen.fleets found.1 in
          record {
            here = ap (λ (f : Fleet). Planet (landing f)) alone.0 ∙ cell-is (Planet (landing found.0)) cell both.1;
            owes = (subst (λ f. IsIn f seen.fleets) (sym alone.0) both.0, ap attacks alone.0 ∙ alone.1);
          })
    ]
at-home setting state cell (fights raid) is =
    let seen = view setting.cells state cell in
    let lands_here = λ (other : Fleet). same_cell (Planet (landing other)) cell in
    elim (in-append (fights raid) (items_owed seen) (landings cell seen.fleets) is) [
      | inl queued ↦ absurd (no-fights seen raid queued)
      | inr landing_here ↦
          (let found = from-landings (coming seen.fleets) (filter lands_here seen.fleets) (fights raid) landing_here in
          let group = comes-fighting raid (raid_of seen.fleets found.0) found.0 (attacks found.0) refl found.2 in
          let both = from-filter lands_here found.0 seen.fleets found.1 in
          let target : raid.target ≡ found.0.target = ap (λ (r : Raid). r.target) group.0 in
          record {
            here = ap Planet (target ∙ sym (landing-out found.0 group.1)) ∙ cell-is (Planet (landing found.0)) cell both.1;
            owes = record { one = found.0; flies = both.0; hostile = group.1; is = group.0 };
          })
    ]

-- an event is due by a second, and one of these cells owes it
pub record IsDue (some : CellId → Bool) (second : ℕ) (seen : CellId → View) (e : Event) (cell : CellId) : Type 0 where
  pub inside : some cell ≡ true
  pub owes : IsIn e (owed cell (seen cell))
  pub due : second_of e ≤ second

due-at : (some : CellId → Bool) (second : ℕ) (seen : CellId → View) (e : Event) (cell : CellId) (b : Bool) → some cell ≡ b
    → IsIn e (cond b (due_by second cell (seen cell)) []) → IsDue some second seen e cell
due-at some second seen e cell true has is =
    let both = from-filter (λ event. nat_le (second_of event) second) e (owed cell (seen cell)) is in
    record { inside = has; owes = both.0; due = is-le (second_of e) second both.1 }
due-at some second seen e cell false out is = absurd is

-- what is listed as due is due
pub due-from : (some : CellId → Bool) (second : ℕ) (seen : CellId → View) (cells : List CellId) (e : Event) → IsIn e (due_events some second seen cells)
    → (cell : CellId) × IsDue some second seen e cell
due-from some second seen [] e is = absurd is
due-from some second seen (cell ∷ cells) e is =
    elim (in-append e (cond (some cell) (due_by second cell (seen cell)) []) (due_events some second seen cells) is) [
      | inl here ↦ (cell, due-at some second seen e cell (some cell) refl here)
      | inr later ↦ due-from some second seen cells e later
    ]

-- what is due is listed, if its cell is
pub due-listed : (some : CellId → Bool) (second : ℕ) (seen : CellId → View) (cells : List CellId) (e : Event) (cell : CellId) → IsDue some second seen e cell → IsIn cell cells
    → IsIn e (due_events some second seen cells)
due-listed some second seen [] e cell due listed = absurd listed
due-listed some second seen (first ∷ cells) e cell due (inl same) =
    let here : IsIn e (due_by second cell (seen cell)) =
    in-filter (λ event. nat_le (second_of event) second) e (owed cell (seen cell)) due.owes (le-is (second_of e) second due.due) in
    let listed : IsIn e (cond (some cell) (due_by second cell (seen cell)) []) = rw due.inside here in
    in-first e (cond (some first) (due_by second first (seen first)) []) (due_events some second seen cells)
    (subst (λ x. IsIn e (cond (some x) (due_by second x (seen x)) [])) same listed)
due-listed some second seen (first ∷ cells) e cell due (inr later) =
    in-second e (cond (some first) (due_by second first (seen first)) []) (due_events some second seen cells) (due-listed some second seen cells e cell due later)

-- the cell of an item is listed
cell-listed : (setting : Setting) (state : State) (class : QueueClass) (item : Item) (planet : PlanetFields) → KeepsRules setting state → state.own (Planet item.place) ≡ of_planet planet
    → Contains setting.cells (queue_cell class item.place planet.owner)
cell-listed setting state Buildings item planet fine stands = fine.listed (Planet item.place) (ap is_there stands)
cell-listed setting state Researches item planet fine stands = fine.owned (Planet item.place) planet stands
cell-listed setting state Yard item planet fine stands = fine.listed (Planet item.place) (ap is_there stands)

pub item-listed : (setting : Setting) (state : State) (item : Item) → KeepsRules setting state → IsIn item state.items → Contains setting.cells item.cell
item-listed setting state item fine is =
    let placed = fine.placed item is in
    subst (Contains setting.cells) (sym placed.cell) (cell-listed setting state item.class item placed.planet fine placed.stands)

-- so is the place where a fleet lands
pub landing-listed : (setting : Setting) (state : State) (fleet : Fleet) → KeepsRules setting state → IsIn fleet state.fleets → Contains setting.cells (Planet (landing fleet))
landing-listed setting state fleet fine is =
    let flying = fine.flying fleet is in
    let place_at : (b : Bool) → Contains setting.cells (Planet (cond b fleet.target fleet.origin)) =
    λ b. elim b as (λ c. Contains setting.cells (Planet (cond c fleet.target fleet.origin))) [
      | true ↦ fine.listed (Planet fleet.target) (ap is_there flying.reaches)
      | false ↦ fine.listed (Planet fleet.origin) (ap is_there flying.leaves)
    ] in
    place_at fleet.outbound

-- the home of an event that stands is listed
pub home-listed : (setting : Setting) (state : State) (e : Event) → KeepsRules setting state → Owes (view setting.cells state (home e)) e → Contains setting.cells (home e)
home-listed setting state (item_due class item later) fine stands = item-listed setting state item fine (queued state class item.cell item later stands item (inl refl)).within
home-listed setting state (lands fleet) fine stands = landing-listed setting state fleet fine (from-filter (belongs (home (lands fleet))) fleet state.fleets stands.0).0
home-listed setting state (fights raid) fine stands = let is_in = raid-in setting state raid fine stands in fine.listed (Planet raid.target) (ap is_there is_in.there)

-- so the event is
pub stands-listed : (setting : Setting) (some : CellId → Bool) (second : ℕ) (state : State) (e : Event) → KeepsRules setting state → Owes (view setting.cells state (home e)) e
    → some (home e) ≡ true → second_of e ≤ second → IsIn e (due_events some second (view setting.cells state) setting.cells)
stands-listed setting some second state e fine stands inside due =
    due-listed some second (view setting.cells state) setting.cells e (home e)
    (record { inside = inside; owes = owed-from (home e) (view setting.cells state (home e)) e refl stands; due = due })
    (in-contained setting.cells (home e) (home-listed setting state e fine stands))

-- what a cell owes stands, and is due at home
record IsDueAtHome (some : CellId → Bool) (second : ℕ) (seen : CellId → View) (e : Event) : Type 0 where
  inside : some (home e) ≡ true
  owes : Owes (seen (home e)) e
  due : second_of e ≤ second

due-home : (setting : Setting) (some : CellId → Bool) (second : ℕ) (state : State) (e : Event) (cell : CellId) → IsDue some second (view setting.cells state) e cell
    → IsDueAtHome some second (view setting.cells state) e
due-home setting some second state e cell due =
    let found = at-home setting state cell e due.owes in
    record {
      inside = ap some found.here ∙ due.inside;
      owes = subst (λ x. Owes (view setting.cells state x) e) (sym found.here) found.owes;
      due = due.due;
    }

pub found-next : (setting : Setting) (some : CellId → Bool) (second : ℕ) (state : State) (e : Event) → KeepsRules setting state → next_event setting some second state ≡ Some e
    → IsNext (game setting) some second state e
found-next setting some second state e fine is =
    let seen = view setting.cells state in
    let events = due_events some second seen setting.cells in
    let first = first-some events e is in
    let found = due-from some second seen setting.cells e first.within in
    let due = due-home setting some second state e found.0 found.1 in
    record {
      stands = due.owes;
      inside = due.inside;
      due = due.due;
      first = λ d stands home due before. never _ before (first.first d (stands-listed setting some second state d fine stands home due));
    }

pub found-none : (setting : Setting) (some : CellId → Bool) (second : ℕ) (state : State) → KeepsRules setting state → next_event setting some second state ≡ None
    → NoneDue (game setting) some second state
found-none setting some second state fine is e stands inside due =
    let events = due_events some second (view setting.cells state) setting.cells in
    subst (IsIn e) (first-none events is) (stands-listed setting some second state e fine stands inside due)
