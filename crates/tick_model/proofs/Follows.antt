-- The queue that an event leaves: of what was there some first items may be gone, and the first one that is left may have started.
use Rattle.std.proofs.Common.{◌≡◌, ◌+◌, ◌<◌, ◌≤◌, ◌⊎◌, inl, inr, eqb, ◌&&◌, List, [], ◌∷◌, arith, refl, ap, ◌∙◌, sym, subst}
use Rattle.std.proofs.lemmas.List.Sums.{sum_by-cons}
use Rattle.std.specs.List.{list_any}
use Rattle.tick_model.specs.Game.{events_left}
use Rattle.tick_model.specs.Rules.{AreDistinct, IsIn, same_order}
use Rattle.tick_model.specs.Universe.{Item, same_class}

-- an item in place of an order: it runs, or units of it are done
pub record IsOrderOf (old new : Item) : Type 0 where
  pub number : new.number ≡ old.number
  pub cell : new.cell ≡ old.cell
  pub class : new.class ≡ old.class
  pub kind : new.kind ≡ old.kind
  pub place : new.place ≡ old.place
  pub left : new.left ≤ old.left
  pub some : 1 ≤ old.left → 1 ≤ new.left

pub order-itself : (item : Item) → IsOrderOf item item
order-itself item = record { number = refl; cell = refl; class = refl; kind = refl; place = refl; left = omega arith; some = λ is. is }

-- A queue follows items: these are its items, in their order, but that some first ones may be gone, and that the first one that
-- is left may have changed.
abbrev pub Follows : List Item → List Item → Type 0
Follows [] [] = Unit {0}
Follows [] (item ∷ more) = ⊥
Follows (old ∷ later) [] = Unit {0}
Follows (old ∷ later) (item ∷ more) = (IsOrderOf old item × (more ≡ later)) ⊎ Follows later (item ∷ more)

pub follows-nothing : (later : List Item) → Follows later []
follows-nothing [] = tt
follows-nothing (old ∷ later) = tt

pub follows-drop : (old : Item) (later queue : List Item) → Follows later queue → Follows (old ∷ later) queue
follows-drop old later [] follows = tt
follows-drop old later (item ∷ more) follows = inr follows

-- each item of it was ordered by one of them
pub follows-in : (later queue : List Item) → Follows later queue → (item : Item) → IsIn item queue → (old : Item) × IsIn old later × IsOrderOf old item
follows-in [] [] follows item is = absurd is
follows-in [] (first ∷ more) follows item is = absurd follows
follows-in (old ∷ later) [] follows item is = absurd is
follows-in (old ∷ later) (first ∷ more) (inl both) item (inl same) = (old, inl refl, subst (IsOrderOf old) (sym same) both.0)
follows-in (old ∷ later) (first ∷ more) (inl both) item (inr rest) = (item, inr (subst (IsIn item) both.1 rest), order-itself item)
follows-in (old ∷ later) (first ∷ more) (inr skipped) item is =
    let found = follows-in later (first ∷ more) skipped item is in
    (found.0, inr found.1, found.2)

-- and those behind its first item stood behind the first one
pub follows-rest : (old : Item) (later : List Item) (first : Item) (more : List Item) → Follows (old ∷ later) (first ∷ more) → (item : Item) → IsIn item more → IsIn item later
follows-rest old later first more (inl both) item is = subst (IsIn item) both.1 is
follows-rest old [] first more (inr skipped) item is = absurd skipped
follows-rest old (next ∷ later) first more (inr skipped) item is = inr (follows-rest next later first more skipped item is)

left-more : (item : Item) (items : List Item) → events_left (item ∷ items) ≡ 1 + item.left + events_left items
left-more item items = sum_by-cons (λ (x : Item). 1 + x.left) item items

-- no more events can come of it
pub follows-left : (later queue : List Item) → Follows later queue → events_left queue ≤ events_left later
follows-left [] [] follows = omega arith
follows-left [] (first ∷ more) follows = absurd follows
follows-left (old ∷ later) [] follows = omega arith
follows-left (old ∷ later) (first ∷ more) (inl both) =
    let new = left-more first more in
    let before = left-more old later in
    let rest : events_left more ≡ events_left later = ap events_left both.1 in
    let less : first.left ≤ old.left = both.0.left in
    omega arith
follows-left (old ∷ later) (first ∷ more) (inr skipped) =
    let before = left-more old later in
    let less : events_left (first ∷ more) ≤ events_left later = follows-left later (first ∷ more) skipped in
    omega arith

-- and fewer, if the first one is gone
pub follows-fewer : (old : Item) (later queue : List Item) → Follows later queue → events_left queue < events_left (old ∷ later)
follows-fewer old later queue follows =
    let before = left-more old later in
    let less = follows-left later queue follows in
    omega arith

-- or has fewer units left
pub fewer-left : (old new : Item) (later : List Item) → new.left < old.left → events_left (new ∷ later) < events_left (old ∷ later)
fewer-left old new later less =
    let before = left-more old later in
    let after = left-more new later in
    omega arith

-- an order stays apart from what it was apart from
pub same-order : (old new : Item) → IsOrderOf old new → (other : Item) → same_order other new ≡ same_order other old
same-order old new order other = λ i. same_class other.class (order.class i) && eqb other.number (order.number i)

-- distinct items stay distinct
pub follows-distinct : (later queue : List Item) → Follows later queue → AreDistinct later → AreDistinct queue
follows-distinct [] [] follows distinct = tt
follows-distinct [] (first ∷ more) follows distinct = absurd follows
follows-distinct (old ∷ later) [] follows distinct = tt
follows-distinct (old ∷ later) (first ∷ more) (inl both) distinct =
    let class = both.0.class in
    let number = both.0.number in
    let apart : list_any (same_order first) more ≡ list_any (same_order old) later =
    λ i. list_any (λ other. same_class (class i) other.class && eqb (number i) other.number) (both.1 i) in
    (apart ∙ distinct.0, subst AreDistinct (sym both.1) distinct.1)
follows-distinct (old ∷ later) (first ∷ more) (inr skipped) distinct = follows-distinct later (first ∷ more) skipped distinct.1
