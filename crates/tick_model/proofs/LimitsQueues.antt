-- Gains, and what is done, keep the limits on levels, fields and domes, and leave accounts their slots.
use Rattle.std.proofs.Common.{◌≡◌, ℕ, zero, suc, ◌≤◌, inl, inr, true, false, cond, ◌&&◌, List, ◌∷◌, Bool, arith, refl, ap, ◌∙◌, sym, subst}
use Rattle.base_ids.specs.Cells.{same_cell}
use Rattle.base_ids.specs.declared.cell_id.CellId.{CellId}
use Rattle.laziness.proofs.Bringing.{test}
use Rattle.rates.specs.Times.{times}
use Rattle.tick_model.specs.Buildings.{done}
use Rattle.tick_model.specs.Changes.{owns, put_own}
use Rattle.tick_model.specs.Events.{item_due, footprint}
use Rattle.tick_model.specs.Production.{advance, gains, own_second, planet_second}
use Rattle.tick_model.specs.Researches.{researched}
use Rattle.tick_model.specs.Rules.{KeepsRules}
use Rattle.tick_model.specs.Universe.{Own, of_nothing, of_account, of_planet, QueueClass, Buildings, Researches, Yard, same_class, Item, PlanetFields, Setting, State}
use Rattle.tick_model.specs.Views.{View, queue_in, view}
use Rattle.tick_model.specs.Yards.{unit_done}
use Rattle.tick_model.specs.declared.rules.Rules.{Rules}
use Rattle.tick_model.proofs.Effects.{StandsBy, after, and-no, batch-is, came_own, has-home, other-queue, queue-after, seen_of, shown-home}
use Rattle.tick_model.proofs.LimitsOwn.{AllKept, IsKept, after-slots, after-steady, kept-queues, kept-steady}
use Rattle.tick_model.proofs.Lists.{cell-is, cell-itself}
use Rattle.tick_model.proofs.Queues.{queued}
use Rattle.tick_model.proofs.Rising.{built-kept, done-slots, research-kept, research-slots, research-steady, unit-kept, unit-slots}
use Rattle.tick_model.proofs.Steady.{IsBuiltAlike, IsSteady, same, SlotsStay, steady-itself, steady-planet, steady-slots, steady-then, units-alike}

-- Gains change stocks alone.

second-built : (speed : ℕ) (planet : PlanetFields) → IsBuiltAlike planet (planet_second speed planet)
unfolding planet_second
second-built speed planet = units-alike planet (planet_second speed planet) refl refl refl

second-steady : (rules : Rules) (own : Own) → IsSteady own (own_second rules own)
second-steady rules of_nothing = same refl
second-steady rules (of_account account) = same refl
second-steady rules (of_planet planet) = steady-planet planet (planet_second rules.speed planet) (second-built rules.speed planet)

gained-steady : (rules : Rules) (n : ℕ) (v : View) → IsSteady v.own (gains rules n v).own
unfolding times
gained-steady rules zero v = steady-itself v.own
gained-steady rules (suc n) v =
    let own = (gains rules n v).own in
    steady-then v.own own (own_second rules own) (gained-steady rules n v) (second-steady rules own)

pub advance-steady : (setting : Setting) (k : CellId → ℕ) (u : State) (x : CellId) → IsSteady (u.own x) ((advance setting k u).own x)
advance-steady setting k u x = gained-steady setting.rules (k x) (view setting.cells u x)

pub advance-kept : (setting : Setting) (k : CellId → ℕ) (u : State) → AllKept u.own u.items → AllKept (advance setting k u).own u.items
advance-kept setting k u kept x = kept-steady (u.own x) ((advance setting k u).own x) (queue_in u.items x) (advance-steady setting k u x) (kept x)

-- What is done changes its own cell, and research besides the planets that pay.

put-slots : (cell : CellId) (new : Own) (own : CellId → Own) → SlotsStay (own cell) new → (x : CellId) → SlotsStay (own x) (put_own cell new own x)
put-slots cell new own here x =
    elim (same_cell cell x) as (λ b. same_cell cell x ≡ b → SlotsStay (own x) (cond b new (own x))) [
      | true ↦ λ is. subst (λ y. SlotsStay (own y) new) (cell-is cell x is) here
      | false ↦ λ apart. steady-slots (own x) (own x) (steady-itself (own x))
    ] refl

came-slots : (setting : Setting) (u : State) (class : QueueClass) (item : Item) (later : List Item) (x : CellId)
    → SlotsStay (owns (seen_of setting (item_due class item later) u) x) (came_own setting.rules class item later (seen_of setting (item_due class item later) u) x)
came-slots setting u Buildings item later x =
    let own = owns (seen_of setting (item_due Buildings item later) u) in
    put-slots item.cell (done setting.rules.speed item later (own item.cell)).own own (done-slots setting.rules.speed item later (own item.cell)) x
came-slots setting u Researches item later x =
    let own = owns (seen_of setting (item_due Researches item later) u) in
    research-slots setting.rules.speed item later own (own item.cell) refl x
came-slots setting u Yard item later x =
    let own = owns (seen_of setting (item_due Yard item later) u) in
    put-slots item.cell (unit_done setting.rules.speed item later (own item.cell)).own own (unit-slots setting.rules.speed item later (own item.cell)) x

-- accounts have at least the slots that they had
pub done-after-slots : (setting : Setting) (u : State) (class : QueueClass) (item : Item) (later : List Item) (x : CellId) → SlotsStay (u.own x) ((after setting class item later u).own x)
done-after-slots setting u class item later x =
    let event = item_due class item later in
    after-slots setting.cells (footprint event) u (came_own setting.rules class item later (seen_of setting event u)) x (came-slots setting u class item later x)

came-elsewhere : (setting : Setting) (u : State) (class : QueueClass) (item : Item) (later : List Item) (x : CellId) → same_cell item.cell x ≡ false
    → IsSteady (owns (seen_of setting (item_due class item later) u) x) (came_own setting.rules class item later (seen_of setting (item_due class item later) u) x)
came-elsewhere setting u Buildings item later x apart =
    let own = owns (seen_of setting (item_due Buildings item later) u) in
    same (ap (λ b. cond b (done setting.rules.speed item later (own item.cell)).own (own x)) apart)
came-elsewhere setting u Researches item later x apart =
    let own = owns (seen_of setting (item_due Researches item later) u) in
    research-steady setting.rules.speed item later own (own item.cell) x apart
came-elsewhere setting u Yard item later x apart =
    let own = owns (seen_of setting (item_due Yard item later) u) in
    same (ap (λ b. cond b (unit_done setting.rules.speed item later (own item.cell)).own (own x)) apart)

module _ (setting : Setting) (u : State) (fine : KeepsRules setting u) (kept : AllKept u.own u.items) where
  -- what it makes of its own cell
  came-here : (class : QueueClass) (item : Item) (later : List Item) → StandsBy u class item later
      → IsKept (came_own setting.rules class item later (seen_of setting (item_due class item later) u) item.cell) (queue_in (after setting class item later u).items item.cell)
  came-here Buildings item later stands =
      let event = item_due Buildings item later in
      let own = owns (seen_of setting event u) item.cell in
      let came = done setting.rules.speed item later own in
      let new = queue_in (after setting Buildings item later u).items item.cell in
      let put : came_own setting.rules Buildings item later (seen_of setting event u) item.cell ≡ came.own = ap (λ b. cond b came.own own) (cell-itself item.cell) in
      subst (λ o. IsKept o new) (sym put)
      (built-kept setting.rules.speed item later own (queue_in u.items item.cell) new stands (queue-after setting u Buildings item later fine stands)
      (other-queue setting u Buildings item later item.cell Yard fine stands (and-no (same_cell item.cell item.cell) false refl))
      (other-queue setting u Buildings item later item.cell Researches fine stands (and-no (same_cell item.cell item.cell) false refl))
      (subst (λ o. IsKept o (queue_in u.items item.cell)) (sym (shown-home setting Buildings item later u)) (kept item.cell)))
  came-here Researches item later stands =
      let event = item_due Researches item later in
      let own = owns (seen_of setting event u) in
      let new = queue_in (after setting Researches item later u).items item.cell in
      research-kept setting.rules.speed item later own (own item.cell) (queue_in u.items item.cell) new refl stands (queue-after setting u Researches item later fine stands)
      (other-queue setting u Researches item later item.cell Buildings fine stands (and-no (same_cell item.cell item.cell) false refl))
      (other-queue setting u Researches item later item.cell Yard fine stands (and-no (same_cell item.cell item.cell) false refl))
      (subst (λ o. IsKept o (queue_in u.items item.cell)) (sym (shown-home setting Researches item later u)) (kept item.cell))
  came-here Yard item later stands =
      let event = item_due Yard item later in
      let own = owns (seen_of setting event u) item.cell in
      let came = unit_done setting.rules.speed item later own in
      let new = queue_in (after setting Yard item later u).items item.cell in
      let put : came_own setting.rules Yard item later (seen_of setting event u) item.cell ≡ came.own = ap (λ b. cond b came.own own) (cell-itself item.cell) in
      let here = queued u Yard item.cell item later stands item (inl refl) in
      let batch = batch-is item.class item here.class_is (fine.placed item here.within).batch in
      subst (λ o. IsKept o new) (sym put)
      (unit-kept setting.rules.speed item later own (queue_in u.items item.cell) new batch.0 stands (queue-after setting u Yard item later fine stands)
      (other-queue setting u Yard item later item.cell Buildings fine stands (and-no (same_cell item.cell item.cell) false refl))
      (other-queue setting u Yard item later item.cell Researches fine stands (and-no (same_cell item.cell item.cell) false refl))
      (subst (λ o. IsKept o (queue_in u.items item.cell)) (sym (shown-home setting Yard item later u)) (kept item.cell)))

  first-no : (a b : Bool) → a ≡ false → a && b ≡ false
  first-no a b is = ap (λ c. c && b) is

  -- each cell keeps its limits
  pub done-kept : (class : QueueClass) (item : Item) (later : List Item) → StandsBy u class item later → AllKept (after setting class item later u).own (after setting class item later u).items
  done-kept class item later stands x =
      let event = item_due class item later in
      let new = after setting class item later u in
      let own = came_own setting.rules class item later (seen_of setting event u) in
      elim (test (same_cell item.cell x)) [
        | inl here ↦
            (let written : new.own item.cell ≡ own item.cell = ap (λ b. cond b (own item.cell) (u.own item.cell)) (has-home class item later) in
            subst (λ y. IsKept (new.own y) (queue_in new.items y)) (cell-is item.cell x here)
            (subst (λ o. IsKept o (queue_in new.items item.cell)) (sym written) (came-here class item later stands)))
        | inr apart ↦
            (let steady = after-steady setting.cells (footprint event) u own x (came-elsewhere setting u class item later x apart) in
            let other = λ (kind : QueueClass). other-queue setting u class item later x kind fine stands (first-no (same_cell item.cell x) (same_class class kind) apart) in
            kept-queues (new.own x) (queue_in u.items x) (queue_in new.items x) (other Buildings) (other Yard) (other Researches)
            (kept-steady (u.own x) (new.own x) (queue_in u.items x) steady (kept x)))
      ]
