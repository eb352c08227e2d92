-- A request keeps the rules.
use Rattle.std.proofs.Common.{◌≡◌, ℕ, ◌+◌, ◌≤◌, ◌⊎◌, inl, inr, Bool, true, false, not, cond, eqb, Some, ◌&&◌, List, [], ◌∷◌, ◌++◌, filter, arith, refl, ap, ◌∙◌, sym, subst}
use Rattle.std.proofs.lemmas.Bool.Decides.{nat_tests}
use Rattle.base_ids.specs.Cells.{same_cell}
use Rattle.base_ids.specs.declared.cell_id.CellId.{CellId}
use Rattle.laziness.proofs.Bringing.{never, test}
use Rattle.tick_model.specs.Rules.{AreDistinct, ArriveTogether, IsFlying, IsIn, IsPlaced, KeepsRules, same_order}
use Rattle.tick_model.specs.Flights.{recalled_at, turned}
use Rattle.tick_model.specs.Universe.{Own, Yard, Fleet, Item, same_class, Setting, State}
use Rattle.tick_model.specs.Views.{queue_in, stands_in}
use Rattle.tick_model.proofs.Lists.{and-is, apart-append, apart-changed, cell-is, class-is, distinct-append, distinct-filter, distinct-one, fails, from-changed, from-filter, in-append, few-append, few-changed, rise-append, rise-changed, together-append, together-changed}
use Rattle.tick_model.proofs.Outcomes.{IsGrouped, alone, along}
use Rattle.tick_model.proofs.Owns.{alike-stays, stays-itself}
use Rattle.tick_model.proofs.EventKeeps.{turned-flies}
use Rattle.tick_model.proofs.Queues.{queue-new, queue-other, queued-in}
use Rattle.tick_model.proofs.Staying.{AllStay, flying-still, keeps-owns, placed-still, stay-kinds, stay-listed, stay-owned}
use Rattle.tick_model.proofs.Writes.{became_at, with_fleet, with_owns, with_queue, with_sent}
use Rattle.tick_model.proofs.Written.{AllAlike, IsNew, IsNewFleet, Makes, stays, changed, ordered, sent, recalled, recalled_by, standing}

all-stay : (u : State) (own : CellId → Own) → AllAlike u own → AllStay u.own own
all-stay u own alike x = alike-stays (u.own x) (own x) (alike x)

-- an item of an earlier number isn't a new one
older : (m n : ℕ) → m ≤ n → eqb m (n + 1) ≡ false
older m n less = grind (arith, nat_tests)

and-false : (b c : Bool) → c ≡ false → b && c ≡ false
and-false true c is = is
and-false false c is = refl

not-new : (u : State) (t : ℕ) (a new : Item) → a.number ≤ u.number → IsNew u t new → same_order a new ≡ false
not-new u t a new before is_new =
    and-false (same_class a.class new.class) (eqb a.number new.number) (ap (eqb a.number) is_new.number ∙ older a.number u.number before)

-- the items of a queue with a new one, and all others
with-new : (setting : Setting) (u : State) (t : ℕ) (new : Item) → KeepsRules setting u → IsNew u t new
    → AreDistinct (filter (λ item. not (stands_in new.cell new.class item)) u.items ++ (queue_in u.items new.cell new.class ++ new ∷ []))
with-new setting u t new fine is_new =
    let other : Item → Bool = λ item. not (stands_in new.cell new.class item) in
    let own = queue_in u.items new.cell new.class in
    let one : (a b : Item) → IsIn a u.items → IsIn b (new ∷ []) → same_order a b ≡ false =
    λ a b has is. elim is [ inl same ↦ ap (same_order a) same ∙ not-new u t a new (fine.drawn a has) is_new | inr none ↦ absurd none ] in
    let queue = distinct-append own (new ∷ []) (distinct-filter _ u.items fine.distinct) (refl, tt) (λ a b has is. one a b (queued-in u.items new.cell new.class a has).within is) in
    distinct-append (filter other u.items) (own ++ new ∷ []) (distinct-filter other u.items fine.distinct) queue (λ a b has is.
    let old = from-filter other a u.items has in
    elim (in-append b own (new ∷ []) is) [
      | inl before ↦
          (let mine = queued-in u.items new.cell new.class b before in
          fails (same_order a b) (λ same. never (other a) old.1 (ap other (distinct-one u.items a b fine.distinct old.0 mine.within same) ∙ ap not mine.there)))
      | inr last ↦ one a b old.0 last
    ])

-- each item after an order stood before, or is the new one
pub of-old : (u : State) (new item : Item)
    → IsIn item (filter (λ item. not (stands_in new.cell new.class item)) u.items ++ (queue_in u.items new.cell new.class ++ new ∷ [])) → IsIn item u.items ⊎ (item ≡ new)
of-old u new item is =
    elim (in-append item (filter (λ item. not (stands_in new.cell new.class item)) u.items) (queue_in u.items new.cell new.class ++ new ∷ []) is) [
      | inl other ↦ inl (from-filter (λ item. not (stands_in new.cell new.class item)) item u.items other).0
      | inr rest ↦ elim (in-append item (queue_in u.items new.cell new.class) (new ∷ []) rest) [
        | inl before ↦ inl (queued-in u.items new.cell new.class item before).within
        | inr last ↦ elim last [ inl same ↦ inr same | inr none ↦ absurd none ]
      ]
    ]

earlier : (setting : Setting) (u : State) (item : Item) → KeepsRules setting u → IsIn item u.items → item.number ≤ u.number + 1
earlier setting u item fine has = let before : item.number ≤ u.number = fine.drawn item has in omega (arith, before)

-- the first batch of the queue that a new item joins takes a second or more for each unit
own-paced : (setting : Setting) (u : State) (t : ℕ) (new batch : Item) (before rest : List Item) → KeepsRules setting u → IsNew u t new → new.class ≡ Yard
    → queue_in u.items new.cell new.class ≡ before → before ++ new ∷ [] ≡ batch ∷ rest → 1 ≤ batch.unit_seconds
own-paced setting u t new batch [] rest fine is_new yard is all =
    let first : new ≡ batch = cc all in
    subst (λ x. 1 ≤ x.unit_seconds) first (is_new.paced is yard)
own-paced setting u t new batch (first ∷ more) rest fine is_new yard is all =
    let whole : first ∷ (more ++ new ∷ []) ≡ batch ∷ rest = all in
    let same : first ≡ batch = cc whole in
    subst (λ x. 1 ≤ x.unit_seconds) same (fine.paced new.cell first more (ap (queue_in u.items new.cell) (sym yard) ∙ is))

made-paced : (setting : Setting) (u : State) (t : ℕ) (own : CellId → Own) (new : Item) → KeepsRules setting u → IsNew u t new → (cell : CellId) (batch : Item) (rest : List Item)
    → queue_in (with_queue own new.cell new.class (queue_in u.items new.cell new.class ++ new ∷ []) u).items cell Yard ≡ batch ∷ rest → 1 ≤ batch.unit_seconds
made-paced setting u t own new fine is_new cell batch rest is =
    let items = queue_in u.items new.cell new.class ++ new ∷ [] in
    let state = with_queue own new.cell new.class items u in
    elim (test (same_cell new.cell cell && same_class new.class Yard)) [
      | inl here ↦
          (let both = and-is (same_cell new.cell cell) (same_class new.class Yard) here in
          let place = cell-is new.cell cell both.0 in
          let yard = class-is new.class Yard both.1 in
          let all : items ≡ batch ∷ rest = sym (queue-new own new.cell new.class items u (standing u new)) ∙ (λ i. queue_in state.items (place i) (yard i)) ∙ is in
          own-paced setting u t new batch (queue_in u.items new.cell new.class) rest fine is_new yard refl all)
      | inr apart ↦ fine.paced cell batch rest (sym (queue-other own new.cell cell new.class Yard items u apart (standing u new)) ∙ is)
    ]

earlier-fleet : (setting : Setting) (u : State) (fleet : Fleet) → KeepsRules setting u → IsIn fleet u.fleets → fleet.number ≤ u.number + 1
earlier-fleet setting u fleet fine has = let before : fleet.number ≤ u.number = fine.sent fleet has in omega (arith, before)

numbered : (setting : Setting) (u : State) → KeepsRules setting u → KeepsRules setting (record u { number = u.number + 1 })
numbered setting u fine = record {
  listed = fine.listed;
  once = fine.once;
  owned = fine.owned;
  kinds = fine.kinds;
  placed = λ item has. let placed = fine.placed item has in record { planet = placed.planet; stands = placed.stands; cell = placed.cell; batch = placed.batch };
  drawn = λ item has. earlier setting u item fine has;
  distinct = fine.distinct;
  paced = fine.paced;
  flying = λ fleet is. flying-still u (record u { number = u.number + 1 }) fleet (λ x. stays-itself (u.own x)) (fine.flying fleet is);
  sent = λ fleet is. earlier-fleet setting u fleet fine is;
  apart = fine.apart;
  rise = fine.rise;
  together = fine.together;
  few = fine.few;
}

-- a fleet flew before, or is the new one
pub new-or-old : {A : Type 0} (u : State) (new fleet : Fleet) → IsIn fleet (u.fleets ++ new ∷ []) → (IsIn fleet u.fleets → A) → (fleet ≡ new → A) → A
new-or-old u new fleet has old one =
    elim (in-append fleet u.fleets (new ∷ []) has) [
      | inl before ↦ old before
      | inr last ↦ elim last [ inl same ↦ one same | inr nothing ↦ absurd nothing ]
    ]

recalled-flies : (u : State) (t : ℕ) (old new : Fleet) (b : Bool) → cond b (recalled_by t old) (Some old) ≡ Some new → IsFlying u old → IsFlying u new
recalled-flies u t old new true becomes flying =
    let same : turned old (recalled_at old t) old.cargo ≡ new = cc in
    subst (IsFlying u) same (turned-flies u old (recalled_at old t) old.cargo flying)
recalled-flies u t old new false becomes flying = let same : old ≡ new = cc in subst (IsFlying u) same flying

recalled-number : (t : ℕ) (old new : Fleet) (b : Bool) → cond b (recalled_by t old) (Some old) ≡ Some new → new.number ≡ old.number
recalled-number t old new true becomes = let same : turned old (recalled_at old t) old.cargo ≡ new = cc in ap (λ (f : Fleet). f.number) (sym same)
recalled-number t old new false becomes = let same : old ≡ new = cc in ap (λ (f : Fleet). f.number) (sym same)

-- one that flies out afterwards did before
pub recalled-out : (t : ℕ) (old new : Fleet) (b : Bool) → cond b (recalled_by t old) (Some old) ≡ Some new → new.outbound ≡ true → old ≡ new
recalled-out t old new true becomes out =
    let same : turned old (recalled_at old t) old.cargo ≡ new = cc in
    absurd (never new.outbound out (ap (λ (f : Fleet). f.outbound) (sym same)))
recalled-out t old new false becomes out = cc

-- a new fleet arrives with those of its group
joins-group : (setting : Setting) (u : State) (t : ℕ) (new a : Fleet) → KeepsRules setting u → IsNewFleet u t new → IsIn a u.fleets → IsGrouped u.fleets new → ArriveTogether a new
joins-group setting u t new a fine is_new has (alone is most) out_a out_new group =
    let low = (fine.flying a has).grouped in
    let earlier = fine.sent a has in
    let number = is_new.number in
    absurd (omega (arith, low, earlier, number, group, is))
joins-group setting u t new a fine is_new has (along leader within out same target second) out_a out_new group =
    let both = fine.together a leader has within out_a out (group ∙ sym same) in
    (both.0 ∙ target, both.1 ∙ second)

-- what a request makes of a state keeps the rules, with the next number
pub fine-made : (setting : Setting) (t : ℕ) (u v : State) → KeepsRules setting u → Makes t u v → KeepsRules setting (record v { number = u.number + 1 })
fine-made setting t u v fine (stays is) = subst (λ s. KeepsRules setting (record s { number = u.number + 1 })) (sym is) (numbered setting u fine)
fine-made setting t u v fine (changed own alike is) =
    subst (λ s. KeepsRules setting (record s { number = u.number + 1 })) (sym is) (numbered setting (with_owns own u) (keeps-owns setting own u (all-stay u own alike) fine))
fine-made setting t u v fine (ordered own new alike is_new is) =
    let stay = all-stay u own alike in
    let state = record (with_queue own new.cell new.class (queue_in u.items new.cell new.class ++ new ∷ []) u) { number = u.number + 1 } in
    subst (λ s. KeepsRules setting (record s { number = u.number + 1 })) (sym is) (record {
      listed = stay-listed setting own u stay fine;
      once = fine.once;
      owned = stay-owned setting own u stay fine;
      kinds = stay-kinds setting own u stay fine;
      placed = λ item has. elim (of-old u new item has) [
        | inl old ↦ placed-still u state item stay (fine.placed item old)
        | inr same ↦ placed-still u state item stay (subst (IsPlaced u) (sym same) is_new.placed)
      ];
      drawn = λ item has. elim (of-old u new item has) [
        | inl old ↦ earlier setting u item fine old
        | inr same ↦ (let number : item.number ≡ u.number + 1 = ap (λ (x : Item). x.number) same ∙ is_new.number in omega (arith, number))
      ];
      distinct = with-new setting u t new fine is_new;
      paced = made-paced setting u t own new fine is_new;
      flying = λ fleet is. flying-still u state fleet stay (fine.flying fleet is);
      sent = λ fleet is. earlier-fleet setting u fleet fine is;
      apart = fine.apart;
      rise = fine.rise;
      together = fine.together;
      few = fine.few;
    })
fine-made setting t u v fine (sent own new stay is_new is) =
    let state = record (with_sent own new u) { number = u.number + 1 } in
    subst (λ s. KeepsRules setting (record s { number = u.number + 1 })) (sym is) (record {
      listed = stay-listed setting own u stay fine;
      once = fine.once;
      owned = stay-owned setting own u stay fine;
      kinds = stay-kinds setting own u stay fine;
      placed = λ item has. placed-still u state item stay (fine.placed item has);
      drawn = λ item has. earlier setting u item fine has;
      distinct = fine.distinct;
      paced = fine.paced;
      flying = λ fleet has. flying-still u state fleet stay (new-or-old u new fleet has (fine.flying fleet) (λ same. subst (IsFlying u) (sym same) is_new.flying));
      sent = λ fleet has. new-or-old u new fleet has (earlier-fleet setting u fleet fine) (λ same.
          let number : fleet.number ≡ u.number + 1 = ap (λ (f : Fleet). f.number) same ∙ is_new.number in omega (arith, number));
      apart = apart-append u.fleets new fine.apart (λ a has.
          ap (eqb a.number) is_new.number ∙ older a.number u.number (fine.sent a has));
      rise = rise-append u.fleets new fine.rise (λ a has.
          let low = fine.sent a has in
          let number = is_new.number in
          omega (arith, low, number));
      together = together-append u.fleets new fine.together (λ a has. joins-group setting u t new a fine is_new has is_new.grouped);
      few = few-append u.fleets new fine.few is_new.room;
    })
fine-made setting t u v fine (recalled own number alike is) =
    let stay = all-stay u own alike in
    let state = record (with_fleet own number (recalled_by t) u) { number = u.number + 1 } in
    subst (λ s. KeepsRules setting (record s { number = u.number + 1 })) (sym is) (record {
      listed = stay-listed setting own u stay fine;
      once = fine.once;
      owned = stay-owned setting own u stay fine;
      kinds = stay-kinds setting own u stay fine;
      placed = λ item has. placed-still u state item stay (fine.placed item has);
      drawn = λ item has. earlier setting u item fine has;
      distinct = fine.distinct;
      paced = fine.paced;
      flying = λ fleet has.
          let found = from-changed (became_at number (recalled_by t)) fleet u.fleets has in
          flying-still u state fleet stay (recalled-flies u t found.0 fleet (eqb found.0.number number) found.2 (fine.flying found.0 found.1));
      sent = λ fleet has.
          let found = from-changed (became_at number (recalled_by t)) fleet u.fleets has in
          let same = recalled-number t found.0 fleet (eqb found.0.number number) found.2 in
          let low = earlier-fleet setting u found.0 fine found.1 in
          omega (arith, same, low);
      apart = apart-changed (became_at number (recalled_by t)) u.fleets (λ old new becomes. recalled-number t old new (eqb old.number number) becomes) fine.apart;
      rise = rise-changed (became_at number (recalled_by t)) u.fleets (λ old new becomes. recalled-number t old new (eqb old.number number) becomes) fine.rise;
      together = together-changed (became_at number (recalled_by t)) u.fleets (λ old new becomes out. recalled-out t old new (eqb old.number number) becomes out) fine.together;
      few = few-changed (became_at number (recalled_by t)) u.fleets (λ old new becomes out. recalled-out t old new (eqb old.number number) becomes out) fine.few;
    })
