-- An event keeps the rules, and lowers how many can still come.
use Rattle.std.proofs.Common.{◌≡◌, ℕ, ◌+◌, ◌<◌, ◌≤◌, inl, inr, Bool, true, false, not, cond, eqb, ◌&&◌, List, [], ◌∷◌, ◌++◌, Option, None, Some, length, filter, if◌then◌else◌, arith, refl, ap, ◌∙◌, sym, subst}
use Rattle.std.proofs.lemmas.List.Sums.{sum_by-append, sum_by-cons}
use Rattle.std.specs.List.{list_any}
use Rattle.base_ids.specs.Cells.{same_cell}
use Rattle.base_ids.specs.declared.cell_id.CellId.{CellId}
use Rattle.base_ids.specs.declared.cell_id.CellId.TheVariants.{Planet}
use Rattle.catalog.specs.Kinds.{place_in}
use Rattle.catalog.specs.declared.classes.TheConstants.{UNIT_KINDS}
use Rattle.catalog.specs.declared.kind.Kind.{Kind}
use Rattle.laziness.proofs.Bringing.{test, never}
use Rattle.reply_text.specs.declared.units.Units.{Units}
use Rattle.tick_model.specs.Battles.{comes_back}
use Rattle.tick_model.specs.Changes.{owns, same_flight}
use Rattle.tick_model.specs.Events.{Event, item_due, lands, fights, Owes, effect, home}
use Rattle.tick_model.specs.Flights.{back_at, landing, turned, turns}
use Rattle.tick_model.specs.Game.{events_left, landings_left}
use Rattle.tick_model.specs.Raids.{Raid, is_attack}
use Rattle.tick_model.specs.Rules.{AreDistinct, IsBatch, IsFlying, IsIn, IsPlaced, KeepsRules, queue_cell, same_order}
use Rattle.tick_model.specs.Universe.{QueueClass, Buildings, Researches, Yard, Fleet, Item, Setting, State, same_class}
use Rattle.tick_model.specs.Views.{queue_in, stands_in, view}
use Rattle.tick_model.proofs.Battles.{comes-back, fought-ships}
use Rattle.tick_model.proofs.Battling.{after_battle, battle-is, battle-stays, becomes, becomes-flies, becomes-number, becomes-out, came_fought, sums-fall}
use Rattle.tick_model.proofs.Effects.{StandsBy, after, came_queue, effect-is, event-ends, event-stays, other-queue, queue-after, seen_of}
use Rattle.tick_model.proofs.Follows.{IsOrderOf, follows-distinct, follows-in, order-itself, same-order}
use Rattle.tick_model.proofs.Landings.{after_landing, back-out, came_landed, flies-in, landing-is, landing-stays, still-out, sum-changed, turns-number, weight}
use Rattle.tick_model.proofs.Lists.{and-is, apart-changed, few-changed, cell-is, class-is, distinct-append, distinct-filter, distinct-one, fails, from-changed, from-filter, in-any, in-append, not-true, rise-changed, same_number, together-changed}
use Rattle.tick_model.proofs.Queues.{queued}
use Rattle.tick_model.proofs.Raids.{IsRaidIn, raid-in}
use Rattle.tick_model.proofs.Writes.{became_at, became_in}
use Rattle.tick_model.proofs.Staying.{flying-still, placed-still, stay-kinds, stay-listed, stay-owned}

-- an order in place of another is in the queue of the right cell too
some-batch : (class : QueueClass) (old new : Item) → IsOrderOf old new → IsBatch class old → IsBatch class new
some-batch Buildings old new order batch = tt
some-batch Researches old new order batch = tt
some-batch Yard old new order batch =
    (order.some batch.0, subst (λ (k : Kind). place_in UNIT_KINDS k < length UNIT_KINDS) (sym order.kind) batch.1)

pub placed-order : (state : State) (old new : Item) → IsOrderOf old new → IsPlaced state old → IsPlaced state new
placed-order state old new order placed = record {
  planet = placed.planet;
  stands = ap (λ at. state.own (Planet at)) order.place ∙ placed.stands;
  cell = order.cell ∙ placed.cell ∙ (λ i. queue_cell (sym order.class i) (sym order.place i) placed.planet.owner);
  batch = subst (λ c. IsBatch c new) (sym order.class) (some-batch old.class old new order placed.batch);
}

module _ (setting : Setting) (state : State) (class : QueueClass) (item : Item) (later : List Item) (fine : KeepsRules setting state) (stands : StandsBy state class item later) where
  -- an item of the new state is one of the old one, or was ordered by one of them
  after-in : (x : Item) → IsIn x (after setting class item later state).items → (old : Item) × IsIn old state.items × IsOrderOf old x
  after-in x has =
      let kept = λ (y : Item). not (stands_in item.cell class y) in
      let queue = came_queue setting.rules class item later (seen_of setting (item_due class item later) state) in
      elim (in-append x (filter kept state.items) queue has) [
        | inl other ↦ (x, (from-filter kept x state.items other).0, order-itself x)
        | inr new ↦
            (let found = follows-in (item ∷ later) queue (event-ends setting state class item later fine stands).follows x new in
            (found.0, (queued state class item.cell item later stands found.0 found.1).within, found.2))
      ]

  -- an item of another queue is of another class or has another number than the items of the new queue
  after-apart : (a b : Item) → IsIn a state.items → stands_in item.cell class a ≡ false
      → IsIn b (came_queue setting.rules class item later (seen_of setting (item_due class item later) state)) → same_order a b ≡ false
  after-apart a b has_a other has_b =
      let queue = came_queue setting.rules class item later (seen_of setting (item_due class item later) state) in
      let found = follows-in (item ∷ later) queue (event-ends setting state class item later fine stands).follows b has_b in
      let old = queued state class item.cell item later stands found.0 found.1 in
      fails (same_order a b) (λ same.
      let one = distinct-one state.items a found.0 fine.distinct has_a old.within (sym (same-order found.0 b found.2 a) ∙ same) in
      never (stands_in item.cell class a) (ap (stands_in item.cell class) one ∙ old.there) other)

  after-distinct : AreDistinct (after setting class item later state).items
  after-distinct =
      let queue = came_queue setting.rules class item later (seen_of setting (item_due class item later) state) in
      let kept = λ (y : Item). not (stands_in item.cell class y) in
      let follows = (event-ends setting state class item later fine stands).follows in
      let there = subst AreDistinct stands (distinct-filter (stands_in item.cell class) state.items fine.distinct) in
      let apart : (a b : Item) → IsIn a (filter kept state.items) → IsIn b queue → same_order a b ≡ false = λ a b has_a has_b.
      let first = from-filter kept a state.items has_a in
      after-apart a b first.0 (not-true (stands_in item.cell class a) first.1) has_b in
      distinct-append (filter kept state.items) queue (distinct-filter kept state.items fine.distinct) (follows-distinct (item ∷ later) queue follows there) apart

  after-paced : (cell : CellId) (batch : Item) (rest : List Item) → queue_in (after setting class item later state).items cell Yard ≡ batch ∷ rest → 1 ≤ batch.unit_seconds
  after-paced cell batch rest is =
      let items = (after setting class item later state).items in
      elim (test (same_cell item.cell cell && same_class class Yard)) [
        | inl here ↦
            (let both = and-is (same_cell item.cell cell) (same_class class Yard) here in
            let place = cell-is item.cell cell both.0 in
            let sort = class-is class Yard both.1 in
            let queue = sym (queue-after setting state class item later fine stands) ∙ (λ i. queue_in items (place i) (sort i)) ∙ is in
            (event-ends setting state class item later fine stands).paced batch rest queue sort)
        | inr apart ↦ fine.paced cell batch rest (sym (other-queue setting state class item later cell Yard fine stands apart) ∙ is)
      ]

  after-keeps : KeepsRules setting (after setting class item later state)
  after-keeps =
      let new = after setting class item later state in
      let stay = event-stays setting state class item later in
      record {
        listed = stay-listed setting new.own state stay fine;
        once = fine.once;
        owned = stay-owned setting new.own state stay fine;
        kinds = stay-kinds setting new.own state stay fine;
        placed = λ x has.
            let found = after-in x has in
            placed-order new found.0 x found.2 (placed-still state new found.0 stay (fine.placed found.0 found.1));
        drawn = λ x has.
            let found = after-in x has in
            let same = found.2.number in
            let low = fine.drawn found.0 found.1 in
            omega (arith, same, low);
        distinct = after-distinct;
        paced = after-paced;
        flying = λ fleet is. flying-still state new fleet stay (fine.flying fleet is);
        sent = fine.sent;
        apart = fine.apart;
        rise = fine.rise;
        together = fine.together;
        few = fine.few;
      }

-- a fleet that has turned back flies between the same planets
pub turned-flies : (state : State) (fleet : Fleet) (second : ℕ) (cargo : Units) → IsFlying state fleet → IsFlying state (turned fleet second cargo)
turned-flies state fleet second cargo flying = record {
  from = flying.from;
  leaves = flying.leaves;
  is_own = flying.is_own;
  to = flying.to;
  reaches = flying.reaches;
  is_theirs = flying.is_theirs;
  kinds = flying.kinds;
  later = λ out. absurd cc;
  deployed = flying.deployed;
  grouped = flying.grouped;
}

became-flies : (state : State) (back : Option Units) (old new : Fleet) (b : Bool) → cond b (turns back old) (Some old) ≡ Some new → IsFlying state old → IsFlying state new
became-flies state None old new true is flying = absurd cc
became-flies state (Some cargo) old new true is flying =
    let same : turned old (back_at old) cargo ≡ new = cc in
    subst (IsFlying state) same (turned-flies state old (back_at old) cargo flying)
became-flies state back old new false is flying = let same : old ≡ new = cc in subst (IsFlying state) same flying

became-number : (back : Option Units) (old new : Fleet) (b : Bool) → cond b (turns back old) (Some old) ≡ Some new → new.number ≡ old.number
became-number back old new true is = turns-number back old new is
became-number back old new false is = let same : old ≡ new = cc in ap (λ (f : Fleet). f.number) (sym same)

module _ (setting : Setting) (state : State) (fleet : Fleet) (fine : KeepsRules setting state) where
  landing-keeps : KeepsRules setting (after_landing setting fleet state)
  landing-keeps =
      let new = after_landing setting fleet state in
      let back = (came_landed fleet (seen_of setting (lands fleet) state)).back in
      let stay = landing-stays setting state fleet in
      record {
        listed = stay-listed setting new.own state stay fine;
        once = fine.once;
        owned = stay-owned setting new.own state stay fine;
        kinds = stay-kinds setting new.own state stay fine;
        placed = λ item is. placed-still state new item stay (fine.placed item is);
        drawn = fine.drawn;
        distinct = fine.distinct;
        paced = fine.paced;
        flying = λ flown is.
            let found = from-changed (became_at fleet.number (turns back)) flown state.fleets is in
            flying-still state new flown stay (became-flies state back found.0 flown (eqb found.0.number fleet.number) found.2 (fine.flying found.0 found.1));
        sent = λ flown is.
            let found = from-changed (became_at fleet.number (turns back)) flown state.fleets is in
            let number = became-number back found.0 flown (eqb found.0.number fleet.number) found.2 in
            let low = fine.sent found.0 found.1 in
            omega (arith, number, low);
        apart = apart-changed (became_at fleet.number (turns back)) state.fleets
            (λ old flown is. became-number back old flown (eqb old.number fleet.number) is) fine.apart;
        rise = rise-changed (became_at fleet.number (turns back)) state.fleets
            (λ old flown is. became-number back old flown (eqb old.number fleet.number) is) fine.rise;
        together = together-changed (became_at fleet.number (turns back)) state.fleets
            (λ old flown is out. still-out fleet old flown back (eqb old.number fleet.number) is out) fine.together;
        few = few-changed (became_at fleet.number (turns back)) state.fleets
            (λ old flown is out. still-out fleet old flown back (eqb old.number fleet.number) is out) fine.few;
      }

-- after a battle
battle-keeps : (setting : Setting) (state : State) (raid : Raid) (fine : KeepsRules setting state) (is_in : IsRaidIn state raid) → KeepsRules setting (after_battle setting raid state is_in.planet)
battle-keeps setting state raid fine is_in =
    let new = after_battle setting raid state is_in.planet in
    let left = (came_fought setting raid state is_in.planet).fleets in
    let h = became_in raid.fleets (comes_back left) in
    let stay = battle-stays setting state raid fine is_in in
    let kinds = fought-ships setting.rules.seed (owns (seen_of setting (fights raid) state)) raid is_in.planet in
    record {
      listed = stay-listed setting new.own state stay fine;
      once = fine.once;
      owned = stay-owned setting new.own state stay fine;
      kinds = stay-kinds setting new.own state stay fine;
      placed = λ item is. placed-still state new item stay (fine.placed item is);
      drawn = fine.drawn;
      distinct = fine.distinct;
      paced = fine.paced;
      flying = λ flown is.
          let found = from-changed h flown state.fleets is in
          flying-still state new flown stay (becomes-flies state left raid found.0 flown kinds (becomes left raid found.0 flown found.2) (fine.flying found.0 found.1));
      sent = λ flown is.
          let found = from-changed h flown state.fleets is in
          let number = becomes-number left raid found.0 flown (becomes left raid found.0 flown found.2) in
          let low = fine.sent found.0 found.1 in
          omega (arith, number, low);
      apart = apart-changed h state.fleets (λ old flown is. becomes-number left raid old flown (becomes left raid old flown is)) fine.apart;
      rise = rise-changed h state.fleets (λ old flown is. becomes-number left raid old flown (becomes left raid old flown is)) fine.rise;
      together = together-changed h state.fleets (λ old flown is. becomes-out left raid old flown (becomes left raid old flown is)) fine.together;
      few = few-changed h state.fleets (λ old flown is. becomes-out left raid old flown (becomes left raid old flown is)) fine.few;
    }

-- the rules are kept
pub event-keeps : (setting : Setting) (state : State) (event : Event) → Owes (view setting.cells state (home event)) event → KeepsRules setting state
    → KeepsRules setting (effect setting event state)
event-keeps setting state (item_due class item later) stands fine =
    subst (KeepsRules setting) (sym (effect-is setting class item later state)) (after-keeps setting state class item later fine stands)
event-keeps setting state (lands fleet) stands fine =
    subst (KeepsRules setting) (sym (landing-is setting fleet state)) (landing-keeps setting state fleet fine)
event-keeps setting state (fights raid) stands fine =
    let is_in = raid-in setting state raid fine stands in
    subst (KeepsRules setting) (sym (battle-is setting raid state is_in.planet is_in.there)) (battle-keeps setting state raid fine is_in)

-- Events that can still come, of the items of a queue and of all others.

part-yes : (p : Item → Bool) (x : Item) (a b c : ℕ) → a ≡ b + c → (1 + x.left) + a ≡ ((1 + x.left) + b) + c
part-yes p x a b c same = omega (arith, same)

part-no : (p : Item → Bool) (x : Item) (a b c : ℕ) → a ≡ b + c → (1 + x.left) + a ≡ b + ((1 + x.left) + c)
part-no p x a b c same = omega (arith, same)

pub left-parts : (p : Item → Bool) (items : List Item) → events_left items ≡ events_left (filter p items) + events_left (filter (λ x. not (p x)) items)
left-parts p [] = refl
left-parts p (x ∷ items) =
    let rest = left-parts p items in
    let f = λ (y : Item). 1 + y.left in
    let yes = filter p items in
    let no = filter (λ y. not (p y)) items in
    sum_by-cons f x items ∙ elim (p x) as (λ b. (1 + x.left) + events_left items ≡ events_left (cond b (x ∷ yes) yes) + events_left (cond (not b) (x ∷ no) no)) [
      | true ↦ part-yes p x (events_left items) (events_left yes) (events_left no) rest ∙ ap (λ n. n + events_left no) (sym (sum_by-cons f x yes))
      | false ↦ part-no p x (events_left items) (events_left yes) (events_left no) rest ∙ ap (λ n. events_left yes + n) (sym (sum_by-cons f x no))
    ]

-- how often a fleet can still land
abbrev left_of : Fleet → ℕ
left_of fleet = if fleet.outbound then 2 else 1

fewer-landings : (fleet : Fleet) (b : Bool) → fleet.outbound ≡ b → (back : Option Units) → ((cargo : Units) → back ≡ Some cargo → b ≡ true) → weight left_of (turns back fleet) < left_of fleet
fewer-landings fleet true out None only = rw out (omega arith)
fewer-landings fleet true out (Some cargo) only = rw out (omega arith)
fewer-landings fleet false out None only = rw out (omega arith)
fewer-landings fleet false out (Some cargo) only = absurd (never true refl (sym (only cargo refl)))

less-so : (a b c d : ℕ) → a + b ≡ c + d → d < b → a < c
less-so a b c d sum less = omega (arith, sum, less)

landings-fall : (setting : Setting) (state : State) (fleet : Fleet) → KeepsRules setting state → IsIn fleet state.fleets → landings_left (after_landing setting fleet state).fleets < landings_left state.fleets
landings-fall setting state fleet fine flies =
    let came = came_landed fleet (seen_of setting (lands fleet) state) in
    let changed = sum-changed left_of fleet (turns came.back) state.fleets fine.apart flies in
    let less = fewer-landings fleet fleet.outbound refl came.back (back-out fleet (owns (seen_of setting (lands fleet) state) (Planet (landing fleet)))) in
    less-so _ (left_of fleet) _ (weight left_of (turns came.back fleet)) changed less

-- a fleet that has fought lands once more, or not at all
back-left : (left : List Fleet) (old : Fleet) (o : Option Fleet) → comes_back left old ≡ o → weight left_of o ≤ 1
back-left left old None is = omega arith
back-left left old (Some new) is =
    let back = comes-back left old new is in
    subst (λ f. left_of f ≤ 1) back.is (omega arith)

becomes-left_at : (left : List Fleet) (old : Fleet) (b : Bool) → (b ≡ true → 1 ≤ left_of old) → weight left_of (cond b (comes_back left old) (Some old)) ≤ left_of old
becomes-left_at left old true least =
    let one = back-left left old (comes_back left old) refl in
    let more = least refl in
    omega (arith, one, more)
becomes-left_at left old false least = omega arith

left-least : (fleet : Fleet) (b : Bool) → fleet.outbound ≡ b → 1 ≤ left_of fleet
left-least fleet true out = rw out (omega arith)
left-least fleet false out = rw out (omega arith)

left-out : (fleet : Fleet) → fleet.outbound ≡ true → left_of fleet ≡ 2
left-out fleet out = ap (λ b. cond b 2 1) out

battles-fall : (setting : Setting) (state : State) (raid : Raid) → (fine : KeepsRules setting state) → (is_in : IsRaidIn state raid)
    → landings_left (after_battle setting raid state is_in.planet).fleets < landings_left state.fleets
battles-fall setting state raid fine is_in =
    let left = (came_fought setting raid state is_in.planet).fleets in
    let one = is_in.each is_in.one is_in.has_one in
    let out = left-out is_in.one (and-is is_in.one.outbound (is_attack is_in.one.mission) one.hostile).0 in
    let named : list_any (same_flight is_in.one) raid.fleets ≡ true = in-any (same_flight is_in.one) is_in.one raid.fleets is_in.has_one (same_number is_in.one.number) in
    let falls : weight left_of (became_in raid.fleets (comes_back left) is_in.one) ≤ 1 =
    subst (λ b. weight left_of (cond b (comes_back left is_in.one) (Some is_in.one)) ≤ 1) (sym named) (back-left left is_in.one (comes_back left is_in.one) refl) in
    sums-fall left_of (became_in raid.fleets (comes_back left)) is_in.one state.fleets
    (λ fleet is. becomes-left_at left fleet (list_any (same_flight fleet) raid.fleets) (λ in_raid. left-least fleet fleet.outbound refl)) one.flies
    (omega (arith, out, falls))

-- fewer can come after it
pub event-falls : (setting : Setting) (state : State) (event : Event) → KeepsRules setting state → Owes (view setting.cells state (home event)) event
    → events_left (effect setting event state).items + landings_left (effect setting event state).fleets < events_left state.items + landings_left state.fleets
event-falls setting state (item_due class item later) fine stands =
    let queue = came_queue setting.rules class item later (seen_of setting (item_due class item later) state) in
    let others = filter (λ (x : Item). not (stands_in item.cell class x)) state.items in
    let all = left-parts (stands_in item.cell class) state.items in
    let gone : events_left (filter (stands_in item.cell class) state.items) ≡ events_left (item ∷ later) = ap events_left stands in
    let less = (event-ends setting state class item later fine stands).falls in
    let both = sum_by-append (λ (x : Item). 1 + x.left) others queue in
    let new : events_left (effect setting (item_due class item later) state).items ≡ events_left (others ++ queue) = ap (λ new. events_left new.items) (effect-is setting class item later state) in
    let fleets : landings_left (effect setting (item_due class item later) state).fleets ≡ landings_left state.fleets =
    ap (λ new. landings_left new.fleets) (effect-is setting class item later state) in
    omega (arith, all, gone, less, both, new, fleets)
event-falls setting state (lands fleet) fine stands =
    let items : events_left (effect setting (lands fleet) state).items ≡ events_left state.items = ap (λ new. events_left new.items) (landing-is setting fleet state) in
    let fleets : landings_left (effect setting (lands fleet) state).fleets ≡ landings_left (after_landing setting fleet state).fleets =
    ap (λ new. landings_left new.fleets) (landing-is setting fleet state) in
    let less = landings-fall setting state fleet fine (flies-in setting.cells state (home (lands fleet)) fleet stands.0) in
    omega (arith, items, fleets, less)
event-falls setting state (fights raid) fine stands =
    let is_in = raid-in setting state raid fine stands in
    let new = battle-is setting raid state is_in.planet is_in.there in
    let items : events_left (effect setting (fights raid) state).items ≡ events_left state.items = ap (λ new. events_left new.items) new in
    let fleets : landings_left (effect setting (fights raid) state).fleets ≡ landings_left (after_battle setting raid state is_in.planet).fleets = ap (λ new. landings_left new.fleets) new in
    let less = battles-fall setting state raid fine is_in in
    omega (arith, items, fleets, less)
