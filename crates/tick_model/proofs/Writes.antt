-- What a change leaves of the views: a cell that it needn't touch stays, and the others depend on the change and on what was
-- seen of them alone.
use Rattle.std.proofs.Common.{◌≡◌, ℕ, ◌+◌, ◌⊎◌, inl, inr, Bool, true, false, not, cond, eqb, ◌==◌, List, [], ◌∷◌, ◌++◌, Option, Some, filter, sum, sum_by, if◌then◌else◌, arith, refl, ap, ◌∙◌, sym, subst}
use Rattle.std.proofs.Math.Path.{fun_ext}
use Rattle.std.proofs.lemmas.List.{append-nil}
use Rattle.std.proofs.lemmas.List.Elements.{filter-append}
use Rattle.std.proofs.lemmas.List.Sums.{sum_by-cons}
use Rattle.std.specs.List.{filter_map, list_any}
use Rattle.base_ids.specs.Cells.{same_cell, same_player}
use Rattle.base_ids.specs.declared.coord.Coord.{Coord}
use Rattle.base_ids.specs.declared.player.Player.{Player}
use Rattle.base_ids.specs.declared.cell_id.CellId.{CellId}
use Rattle.base_ids.specs.declared.cell_id.CellId.TheVariants.{Account, Planet}
use Rattle.laziness.proofs.Bringing.{test, never}
use Rattle.tick_model.specs.Changes.{Change, new_fleet, new_fleets, new_owns, new_queue, no_change, owns, queue_after, same_flight, sends_fleet, stays_queued, write}
use Rattle.tick_model.specs.Rules.{IsIn}
use Rattle.tick_model.specs.Universe.{Own, QueueClass, Yard, same_class, Item, Fleet, State}
use Rattle.tick_model.specs.Views.{View, belongs, holding, holding_at, nothing_seen, place_held, planets_of, queue_in, ships_of, shown, stands_in, units_held, units_of, view}
use Rattle.tick_model.proofs.Lists.{and-is, cell-is, fails, filter-all, filter-changed, filter-idle, filter-none, filter-stays, filter-turned, filter_map-all, player-from}
use Rattle.tick_model.proofs.Owns.{owner_of, place-same, units-none}

-- All that a change of these cells owes. The fleets that it changes or sends may reach further.
pub record IsWithin (cells reach : CellId → Bool) (change : Change) (state : State) : Type 0 where
  pub among : (cell : CellId) → cells cell ≡ true → reach cell ≡ true
  -- the queues that are written anew are of these cells
  pub queues : (cell : CellId) (class : QueueClass) → change.requeued cell class ≡ true → cells cell ≡ true
  -- and have all items that it writes
  pub items : (item : Item) → IsIn item change.items → change.requeued item.cell item.class ≡ true
  -- no planet changes its owner
  pub owners : (cell : CellId) → cells cell ≡ true → owner_of (change.own cell) ≡ owner_of (state.own cell)
  -- or how many units it has, unless its owner's account is reached
  pub counted : (cell : CellId) → cells cell ≡ true → (holding_at (write cells change state) cell ≡ holding_at state cell)
      ⊎ ((owner : Player) → owner_of (state.own cell) ≡ Some owner → reach (Account owner) ≡ true)
  -- a fleet that changes comes to belong to no cell
  pub shrinks : (cell : CellId) (old new : Fleet) → change.fleet old ≡ Some new → belongs cell new ≡ true → belongs cell old ≡ true
  -- and only one changes that belongs to cells that are reached alone
  pub fleets : (cell : CellId) (fleet : Fleet) → IsIn fleet state.fleets → belongs cell fleet ≡ true → reach cell ≡ false → change.fleet fleet ≡ Some fleet
  -- so does each that is sent
  pub sent : (cell : CellId) (fleet : Fleet) → IsIn fleet change.sent → belongs cell fleet ≡ true → reach cell ≡ true

-- what isn't reached is none of the cells
not-cell : (cells reach : CellId → Bool) (cell : CellId) → ((x : CellId) → cells x ≡ true → reach x ≡ true) → reach cell ≡ false → cells cell ≡ false
not-cell cells reach cell among out = fails (cells cell) (λ has. never (reach cell) (among cell has) out)

pub queue-written : (cells : CellId → Bool) (change : Change) (state : State) (cell : CellId) (class : QueueClass)
    → queue_in (write cells change state).items cell class ≡ queue_after change cell class (queue_in state.items cell class)
queue-written cells change state cell class =
    filter-append (stands_in cell class) (filter (stays_queued change) state.items) change.items
    ∙ ap (λ left. left ++ filter (stands_in cell class) change.items) (filter-turned (stands_in cell class) (stays_queued change) state.items)

-- an item of a queue that is written anew doesn't stand in a cell outside
elsewhere : (cells reach : CellId → Bool) (change : Change) (state : State) (cell : CellId) (class : QueueClass) (item : Item) → IsWithin cells reach change state → cells cell ≡ false
    → change.requeued item.cell item.class ≡ true → stands_in cell class item ≡ false
elsewhere cells reach change state cell class item within out again =
    let inside : cells item.cell ≡ true = within.queues item.cell item.class again in
    fails (stands_in cell class item) (λ here.
    let place = cell-is cell item.cell (and-is (same_cell cell item.cell) (same_class class item.class) here).0 in
    never (cells cell) (subst (λ x. cells x ≡ true) (sym place) inside) out)

pub queue-outside : (cells reach : CellId → Bool) (change : Change) (state : State) (cell : CellId) (class : QueueClass) → IsWithin cells reach change state → cells cell ≡ false
    → queue_in (write cells change state).items cell class ≡ queue_in state.items cell class
queue-outside cells reach change state cell class within out =
    let left = filter-idle (stands_in cell class) (stays_queued change) state.items (λ item is here. ap not (fails (change.requeued item.cell item.class) (
    λ again. never (stands_in cell class item) here (elsewhere cells reach change state cell class item within out again)))) in
    let none = filter-none (stands_in cell class) change.items (λ item is. elsewhere cells reach change state cell class item within out (within.items item is)) in
    filter-append (stands_in cell class) (filter (stays_queued change) state.items) change.items ∙ (λ i. left i ++ none i) ∙ append-nil (queue_in state.items cell class)

fleets-outside : (cells reach : CellId → Bool) (change : Change) (state : State) (cell : CellId) → IsWithin cells reach change state → reach cell ≡ false
    → filter (belongs cell) (write cells change state).fleets ≡ filter (belongs cell) state.fleets
fleets-outside cells reach change state cell within out =
    let left = filter-stays (belongs cell) change.fleet state.fleets (λ fleet is here. within.fleets cell fleet is here out) (within.shrinks cell) in
    let none = filter-none (belongs cell) change.sent (λ fleet is. fails (belongs cell fleet) (λ here. never (reach cell) (within.sent cell fleet is here) out)) in
    filter-append (belongs cell) (filter_map change.fleet state.fleets) change.sent ∙ (λ i. left i ++ none i) ∙ append-nil (filter (belongs cell) state.fleets)

pub own-outside : (cells : CellId → Bool) (change : Change) (state : State) (cell : CellId) → cells cell ≡ false → (write cells change state).own cell ≡ state.own cell
own-outside cells change state cell out = ap (λ b. cond b (change.own cell) (state.own cell)) out

pub own-inside : (cells : CellId → Bool) (change : Change) (state : State) (cell : CellId) → cells cell ≡ true → (write cells change state).own cell ≡ change.own cell
own-inside cells change state cell has = ap (λ b. cond b (change.own cell) (state.own cell)) has

-- nobody's planets change hands
pub owners-kept : (cells reach : CellId → Bool) (change : Change) (state : State) → IsWithin cells reach change state → (cell : CellId)
    → owner_of ((write cells change state).own cell) ≡ owner_of (state.own cell)
owners-kept cells reach change state within cell =
    elim (test (cells cell)) [
      | inl has ↦ ap owner_of (own-inside cells change state cell has) ∙ within.owners cell has
      | inr out ↦ ap owner_of (own-outside cells change state cell out)
    ]

-- so accounts have the same planets
pub planets-kept : (list : List CellId) (cells reach : CellId → Bool) (change : Change) (state : State) → IsWithin cells reach change state → (cell : CellId)
    → planets_of list (holding_at (write cells change state)) cell ≡ planets_of list (holding_at state) cell
planets-kept list cells reach change state within (Planet at) = refl
planets-kept list cells reach change state within (Account player) =
    let same : (x : CellId) → place_held player x (holding_at (write cells change state) x) ≡ place_held player x (holding_at state x) = λ x.
    place-same player x ((write cells change state).own x) (state.own x) _ _ (owners-kept cells reach change state within x) in
    ap (λ (place : CellId → Option Coord). filter_map place list) (fun_ext same)

-- what its owner's account counts of a cell outside stays
pub holding-outside : (cells reach : CellId → Bool) (change : Change) (state : State) (cell : CellId) → IsWithin cells reach change state → cells cell ≡ false
    → holding_at (write cells change state) cell ≡ holding_at state cell
holding-outside cells reach change state cell within out =
    let queue = queue-outside cells reach change state cell Yard within out in
    let own = own-outside cells change state cell out in
    λ i. holding (own i) (queue i)

-- an account outside counts the same of each cell
counts-outside : (cells reach : CellId → Bool) (change : Change) (state : State) (player : Player) (cell : CellId) → IsWithin cells reach change state → reach (Account player) ≡ false
    → units_held player (holding_at (write cells change state) cell) ≡ units_held player (holding_at state cell)
counts-outside cells reach change state player cell within out =
    elim (test (cells cell)) [
      | inr apart ↦ ap (units_held player) (holding-outside cells reach change state cell within apart)
      | inl has ↦ elim (within.counted cell has) [
        | inl same ↦ ap (units_held player) same
        | inr owned ↦
            (let other : (owner : Player) → owner_of (state.own cell) ≡ Some owner → same_player owner player ≡ false = λ owner is.
            fails (same_player owner player) (λ same. never (reach (Account player)) (subst (λ k. reach (Account k) ≡ true) (player-from owner player same) (owned owner is)) out) in
            let now : (owner : Player) → owner_of ((write cells change state).own cell) ≡ Some owner → same_player owner player ≡ false = λ owner is.
            other owner (sym (owners-kept cells reach change state within cell) ∙ is) in
            units-none player ((write cells change state).own cell) (queue_in (write cells change state).items cell Yard) now
            ∙ sym (units-none player (state.own cell) (queue_in state.items cell Yard) other))
      ]
    ]

nothing-more : (n : ℕ) → 0 + n ≡ n
nothing-more n = omega arith

-- of the fleets that belong to its account a player's own are all
pub flown-own : (player : Player) (fleets : List Fleet) → sum_by (ships_of player) fleets ≡ sum_by (ships_of player) (filter (belongs (Account player)) fleets)
flown-own player [] = refl
flown-own player (fleet ∷ fleets) =
    let rest = flown-own player fleets in
    let mine = filter (belongs (Account player)) fleets in
    elim (test (belongs (Account player) fleet)) [
      | inl has ↦
          sum_by-cons (ships_of player) fleet fleets ∙ ap (λ n. ships_of player fleet + n) rest ∙ sym (sum_by-cons (ships_of player) fleet mine)
          ∙ sym (ap (λ b. sum_by (ships_of player) (cond b (fleet ∷ mine) mine)) has)
      | inr out ↦
          (let other : same_player fleet.owner player ≡ false = fails (same_player fleet.owner player) (λ same. never (belongs (Account player) fleet) (rw same refl) out) in
          let none : ships_of player fleet ≡ 0 = ap (λ b. cond b (sum fleet.ships) 0) other in
          sum_by-cons (ships_of player) fleet fleets ∙ (λ i. none i + rest i) ∙ nothing-more (sum_by (ships_of player) mine)
          ∙ sym (ap (λ b. sum_by (ships_of player) (cond b (fleet ∷ mine) mine)) out))
    ]

-- so if the same fleets belong to it, they have as many ships
flown-same : (player : Player) (fleets others : List Fleet) → filter (belongs (Account player)) fleets ≡ filter (belongs (Account player)) others
    → sum_by (ships_of player) fleets ≡ sum_by (ships_of player) others
flown-same player fleets others same = flown-own player fleets ∙ ap (sum_by (ships_of player)) same ∙ sym (flown-own player others)

units-outside : (list : List CellId) (cells reach : CellId → Bool) (change : Change) (state : State) (cell : CellId) → IsWithin cells reach change state → reach cell ≡ false
    → units_of list (holding_at (write cells change state)) (write cells change state).fleets cell ≡ units_of list (holding_at state) state.fleets cell
units-outside list cells reach change state (Planet at) within out = refl
units-outside list cells reach change state (Account player) within out =
    let held = ap (λ (count : CellId → ℕ). sum_by count list) (fun_ext (λ x. counts-outside cells reach change state player x within out)) in
    let flown = flown-same player (write cells change state).fleets state.fleets (fleets-outside cells reach change state (Account player) within out) in
    λ i. held i + flown i

-- a cell outside is seen as before
pub outside : (list : List CellId) (cells reach : CellId → Bool) (change : Change) (state : State) (cell : CellId) → IsWithin cells reach change state → reach cell ≡ false
    → view list (write cells change state) cell ≡ view list state cell
outside list cells reach change state cell within out =
    let none = not-cell cells reach cell within.among out in
    let own = own-outside cells change state cell none in
    let queue = fun_ext (λ class. queue-outside cells reach change state cell class within none) in
    let fleets = fleets-outside cells reach change state cell within out in
    let planets = planets-kept list cells reach change state within cell in
    let units = units-outside list cells reach change state cell within out in
    λ i. record { own = own i; queue = queue i; fleets = fleets i; planets = planets i; units = units i }

-- Sums of which each part changes alike.

exchanged-at : (f f' g g' F F' G G' : ℕ) → f' + g ≡ f + g' → F' + G ≡ F + G' → (f' + F') + (g + G) ≡ (f + F) + (g' + G')
exchanged-at f f' g g' F F' G G' first rest = omega (arith, first, rest)

exchanged : {A : Type 0} (f f' g g' : A → ℕ) (xs : List A) → ((x : A) → f' x + g x ≡ f x + g' x) → sum_by f' xs + sum_by g xs ≡ sum_by f xs + sum_by g' xs
exchanged f f' g g' [] each = refl
exchanged f f' g g' (x ∷ xs) each =
    (λ i. sum_by-cons f' x xs i + sum_by-cons g x xs i)
    ∙ exchanged-at (f x) (f' x) (g x) (g' x) (sum_by f xs) (sum_by f' xs) (sum_by g xs) (sum_by g' xs) (each x) (exchanged f f' g g' xs each)
    ∙ sym (λ i. sum_by-cons f x xs i + sum_by-cons g' x xs i)

balanced : (a b c d : ℕ) → a + b ≡ c + d → c ≡ b → a ≡ d
balanced a b c d sum same = omega (arith, sum, same)

-- two sums that were the same are the same if each of their parts changed alike
pub sums-follow : {A : Type 0} (f f' g g' : A → ℕ) (xs : List A) → ((x : A) → f' x + g x ≡ f x + g' x) → sum_by f xs ≡ sum_by g xs → sum_by f' xs ≡ sum_by g' xs
sums-follow f f' g g' xs each same = balanced (sum_by f' xs) (sum_by g xs) (sum_by f xs) (sum_by g' xs) (exchanged f f' g g' xs each) same

-- the parts change alike: they were the same and are the same, or they have not changed
either-way : (a b a' b' : ℕ) → (a ≡ b) × (a' ≡ b') → a' + b ≡ a + b'
either-way a b a' b' same = omega (arith, same.0, same.1)

neither-way : (a b a' b' : ℕ) → (a' ≡ a) × (b' ≡ b) → a' + b ≡ a + b'
neither-way a b a' b' same = omega (arith, same.0, same.1)

-- two states that look the same wherever a change reaches, after this change of each
pub record Twins (list : List CellId) (cells reach : CellId → Bool) (change : Change) (one other : State) : Type 0 where
  pub first : IsWithin cells reach change one
  pub second : IsWithin cells reach change other
  pub agree : (x : CellId) → reach x ≡ true → view list one x ≡ view list other x

queue-twins : (list : List CellId) (cells reach : CellId → Bool) (change : Change) (one other : State) → Twins list cells reach change one other → (x : CellId) → reach x ≡ true → (class : QueueClass)
    → queue_in (write cells change one).items x class ≡ queue_in (write cells change other).items x class
queue-twins list cells reach change one other twins x has class =
    queue-written cells change one x class
    ∙ ap (λ (seen : View). queue_after change x class (seen.queue class)) (twins.agree x has)
    ∙ sym (queue-written cells change other x class)

own-twins : (list : List CellId) (cells reach : CellId → Bool) (change : Change) (one other : State) → Twins list cells reach change one other → (x : CellId) → reach x ≡ true
    → (write cells change one).own x ≡ (write cells change other).own x
own-twins list cells reach change one other twins x has =
    elim (test (cells x)) [
      | inl cell ↦ own-inside cells change one x cell ∙ sym (own-inside cells change other x cell)
      | inr out ↦ own-outside cells change one x out ∙ ap (λ (seen : View). seen.own) (twins.agree x has) ∙ sym (own-outside cells change other x out)
    ]

counts-twins : (list : List CellId) (cells reach : CellId → Bool) (change : Change) (one other : State) → Twins list cells reach change one other → (player : Player) (x : CellId)
    → units_held player (holding_at (write cells change one) x) + units_held player (holding_at other x)
    ≡ units_held player (holding_at one x) + units_held player (holding_at (write cells change other) x)
counts-twins list cells reach change one other twins player x =
    let count = units_held player in
    elim (test (cells x)) [
      | inl cell ↦
          (let has = twins.first.among x cell in
          let own = own-twins list cells reach change one other twins x has in
          let queue = queue-twins list cells reach change one other twins x has Yard in
          either-way _ _ _ _ (
            ap (λ (seen : View). count (holding seen.own (seen.queue Yard))) (twins.agree x has),
            (λ i. count (holding (own i) (queue i))),
          ))
      | inr out ↦
          neither-way _ _ _ _ (
            ap count (holding-outside cells reach change one x twins.first out),
            ap count (holding-outside cells reach change other x twins.second out),
          )
    ]

pub fleets-written : (cells reach : CellId → Bool) (change : Change) (state : State) (cell : CellId) → IsWithin cells reach change state
    → filter (belongs cell) (write cells change state).fleets
    ≡ filter (belongs cell) (filter_map change.fleet (filter (belongs cell) state.fleets)) ++ filter (belongs cell) change.sent
fleets-written cells reach change state cell within =
    filter-append (belongs cell) (filter_map change.fleet state.fleets) change.sent
    ∙ ap (λ left. left ++ filter (belongs cell) change.sent) (filter-changed (belongs cell) change.fleet state.fleets (within.shrinks cell))

fleets-twins : (list : List CellId) (cells reach : CellId → Bool) (change : Change) (one other : State) → Twins list cells reach change one other → (x : CellId) → reach x ≡ true
    → filter (belongs x) (write cells change one).fleets ≡ filter (belongs x) (write cells change other).fleets
fleets-twins list cells reach change one other twins x has =
    fleets-written cells reach change one x twins.first
    ∙ ap (λ (seen : View). filter (belongs x) (filter_map change.fleet seen.fleets) ++ filter (belongs x) change.sent) (twins.agree x has)
    ∙ sym (fleets-written cells reach change other x twins.second)

same-rest : (a b c d : ℕ) → a + b ≡ c + d → b ≡ d → a ≡ c
same-rest a b c d sum rest = omega (arith, sum, rest)

units-twins : (list : List CellId) (cells reach : CellId → Bool) (change : Change) (one other : State) → Twins list cells reach change one other → (x : CellId) → reach x ≡ true
    → units_of list (holding_at (write cells change one)) (write cells change one).fleets x ≡ units_of list (holding_at (write cells change other)) (write cells change other).fleets x
units-twins list cells reach change one other twins (Planet at) has = refl
units-twins list cells reach change one other twins (Account player) has =
    let was = flown-same player one.fleets other.fleets (ap (λ (seen : View). seen.fleets) (twins.agree (Account player) has)) in
    let all = ap (λ (seen : View). seen.units) (twins.agree (Account player) has) in
    let before = same-rest (sum_by (λ x. units_held player (holding_at one x)) list) (sum_by (ships_of player) one.fleets)
    (sum_by (λ x. units_held player (holding_at other x)) list) (sum_by (ships_of player) other.fleets) all was in
    let held = sums-follow
    (λ x. units_held player (holding_at one x)) (λ x. units_held player (holding_at (write cells change one) x))
    (λ x. units_held player (holding_at other x)) (λ x. units_held player (holding_at (write cells change other) x))
    list (counts-twins list cells reach change one other twins player) before in
    let flown = flown-same player (write cells change one).fleets (write cells change other).fleets (fleets-twins list cells reach change one other twins (Account player) has) in
    λ i. held i + flown i

-- a cell that is reached looks the same afterwards
pub inside : (list : List CellId) (cells reach : CellId → Bool) (change : Change) (one other : State) → Twins list cells reach change one other → (x : CellId) → reach x ≡ true
    → view list (write cells change one) x ≡ view list (write cells change other) x
inside list cells reach change one other twins x has =
    let own = own-twins list cells reach change one other twins x has in
    let queue = fun_ext (queue-twins list cells reach change one other twins x has) in
    let fleets = fleets-twins list cells reach change one other twins x has in
    let planets = planets-kept list cells reach change one twins.first x ∙ ap (λ (seen : View). seen.planets) (twins.agree x has)
    ∙ sym (planets-kept list cells reach change other twins.second x) in
    let units = units-twins list cells reach change one other twins x has in
    λ i. record { own = own i; queue = queue i; fleets = fleets i; planets = planets i; units = units i }

shown_at : (b : Bool) (one other : View) → (b ≡ true → one ≡ other) → cond b one nothing_seen ≡ cond b other nothing_seen
shown_at true one other same = same refl
shown_at false one other same = refl

-- if some cells look the same, the same of them is shown
pub shown-alike : (cells : CellId → Bool) (one other : CellId → View) → ((x : CellId) → cells x ≡ true → one x ≡ other x) → shown cells one ≡ shown cells other
shown-alike cells one other same = fun_ext (λ x. shown_at (cells x) (one x) (other x) (same x))

-- What the kinds of change leave of a state.

-- cells have this of their own
abbrev pub with_owns : (CellId → Own) → State → State
with_owns own state = record state { own = own }

-- besides, a queue is written anew
abbrev pub with_queue : (CellId → Own) → CellId → QueueClass → List Item → State → State
with_queue own cell class items state = record state { own = own; items = filter (λ item. not (stands_in cell class item)) state.items ++ items }

-- what cells have of their own once some of them have something new
abbrev pub owns_after : (CellId → Bool) → (CellId → Own) → State → CellId → Own
owns_after cells own state cell = if cells cell then own cell else state.own cell

all-items : (items : List Item) → filter (λ item. true) items ++ [] ≡ items
all-items items = append-nil (filter (λ item. true) items) ∙ filter-all (λ item. true) items (λ item is. refl)

all-fleets : (fleets : List Fleet) → filter_map Some fleets ++ [] ≡ fleets
all-fleets fleets = append-nil (filter_map Some fleets) ∙ filter_map-all fleets

pub write-owns : (cells : CellId → Bool) (own : CellId → Own) (state : State) → write cells (new_owns own) state ≡ with_owns (owns_after cells own state) state
write-owns cells own state =
    λ i. record { number = state.number; own = owns_after cells own state; items = all-items state.items i; fleets = all-fleets state.fleets i }

pub write-queue : (cells : CellId → Bool) (own : CellId → Own) (cell : CellId) (class : QueueClass) (items : List Item) (state : State)
    → write cells (new_queue own cell class items) state ≡ with_queue (owns_after cells own state) cell class items state
write-queue cells own cell class items state =
    λ i. record {
      number = state.number;
      own = owns_after cells own state;
      items = filter (λ (item : Item). not (stands_in cell class item)) state.items ++ items;
      fleets = all-fleets state.fleets i;
    }

own-back : (b : Bool) (seen : View) → cond b (cond b seen nothing_seen).own seen.own ≡ seen.own
own-back true seen = refl
own-back false seen = refl

-- a change of nothing leaves the state
pub write-nothing : (list : List CellId) (cells : CellId → Bool) (state : State) → write cells (no_change (shown cells (view list state))) state ≡ state
write-nothing list cells state =
    let own = fun_ext (λ cell. own-back (cells cell) (view list state cell)) in
    write-owns cells (owns (shown cells (view list state))) state ∙ (λ i. with_owns (own i) state)

pub shown-own : (list : List CellId) (cells : CellId → Bool) (state : State) (cell : CellId) → cells cell ≡ true
    → owns (shown cells (view list state)) cell ≡ state.own cell
shown-own list cells state cell has = ap (λ b. (cond b (view list state cell) nothing_seen).own) has

stays-belonging : (cell : CellId) (old new : Fleet) → Some old ≡ Some new → belongs cell new ≡ true → belongs cell old ≡ true
stays-belonging cell old new stays is = let same : old ≡ new = cc in ap (belongs cell) same ∙ is

-- what a change of cells' own owes: no owner changes, and no planet's units, unless its owner's account is reached
pub record OwnsWithin (cells reach : CellId → Bool) (own : CellId → Own) (new state : State) : Type 0 where
  pub among : (cell : CellId) → cells cell ≡ true → reach cell ≡ true
  pub owners : (cell : CellId) → cells cell ≡ true → owner_of (own cell) ≡ owner_of (state.own cell)
  pub counted : (cell : CellId) → cells cell ≡ true → (holding_at new cell ≡ holding_at state cell)
      ⊎ ((owner : Player) → owner_of (state.own cell) ≡ Some owner → reach (Account owner) ≡ true)

-- what accounts count of a cell, or else it is reached
abbrev AreCountedIn : (CellId → Bool) → State → CellId → State → Type 0
AreCountedIn reach state cell new =
    (holding_at new cell ≡ holding_at state cell) ⊎ ((owner : Player) → owner_of (state.own cell) ≡ Some owner → reach (Account owner) ≡ true)

pub within-owns : (cells reach : CellId → Bool) (own : CellId → Own) (state : State) → OwnsWithin cells reach own (with_owns (owns_after cells own state) state) state
    → IsWithin cells reach (new_owns own) state
within-owns cells reach own state owes = record {
  among = owes.among;
  queues = λ cell class again. absurd cc;
  items = λ item is. absurd is;
  owners = owes.owners;
  counted = λ cell has. subst (AreCountedIn reach state cell) (sym (write-owns cells own state)) (owes.counted cell has);
  shrinks = stays-belonging;
  fleets = λ cell fleet is here out. refl;
  sent = λ cell fleet is here. absurd is;
}

same-has : (cells : CellId → Bool) (cell x : CellId) → cells cell ≡ true → same_cell cell x ≡ true → cells x ≡ true
same-has cells cell x has same = subst (λ y. cells y ≡ true) (cell-is cell x same) has

pub within-queue : (cells reach : CellId → Bool) (own : CellId → Own) (cell : CellId) (class : QueueClass) (items : List Item) (state : State) → cells cell ≡ true
    → OwnsWithin cells reach own (with_queue (owns_after cells own state) cell class items state) state
    → ((item : Item) → IsIn item items → stands_in cell class item ≡ true) → IsWithin cells reach (new_queue own cell class items) state
within-queue cells reach own cell class items state has owes standing = record {
  among = owes.among;
  queues = λ x c again. same-has cells cell x has (and-is (same_cell cell x) (same_class class c) again).0;
  items = standing;
  owners = owes.owners;
  counted = λ x in_cells. subst (AreCountedIn reach state x) (sym (write-queue cells own cell class items state)) (owes.counted x in_cells);
  shrinks = stays-belonging;
  fleets = λ x fleet is here out. refl;
  sent = λ x fleet is here. absurd is;
}

-- what becomes of each fleet, if the one of a number changes or goes
abbrev pub became_at : ℕ → (Fleet → Option Fleet) → Fleet → Option Fleet
became_at number became fleet = if fleet.number == number then became fleet else Some fleet

-- cells have this of their own, and the fleet of a number changes or goes
abbrev pub with_fleet : (CellId → Own) → ℕ → (Fleet → Option Fleet) → State → State
with_fleet own number became state = record state { own = own; fleets = filter_map (became_at number became) state.fleets }

-- what becomes of each fleet, if those of some change or go
abbrev pub became_in : List Fleet → (Fleet → Option Fleet) → Fleet → Option Fleet
became_in fleets became fleet = if list_any (same_flight fleet) fleets then became fleet else Some fleet

-- or each of some fleets changes or goes
abbrev pub with_fleets : (CellId → Own) → List Fleet → (Fleet → Option Fleet) → State → State
with_fleets own fleets became state = record state { own = own; fleets = filter_map (became_in fleets became) state.fleets }

-- or one more fleet flies
abbrev pub with_sent : (CellId → Own) → Fleet → State → State
with_sent own fleet state = record state { own = own; fleets = state.fleets ++ fleet ∷ [] }

pub write-fleet : (cells : CellId → Bool) (own : CellId → Own) (number : ℕ) (became : Fleet → Option Fleet) (state : State)
    → write cells (new_fleet own number became) state ≡ with_fleet (owns_after cells own state) number became state
write-fleet cells own number became state =
    λ i. record {
      number = state.number;
      own = owns_after cells own state;
      items = all-items state.items i;
      fleets = append-nil (filter_map (became_at number became) state.fleets) i;
    }

pub write-fleets : (cells : CellId → Bool) (own : CellId → Own) (fleets : List Fleet) (became : Fleet → Option Fleet) (state : State)
    → write cells (new_fleets own fleets became) state ≡ with_fleets (owns_after cells own state) fleets became state
write-fleets cells own fleets became state =
    λ i. record {
      number = state.number;
      own = owns_after cells own state;
      items = all-items state.items i;
      fleets = append-nil (filter_map (became_in fleets became) state.fleets) i;
    }

pub write-sent : (cells : CellId → Bool) (own : CellId → Own) (fleet : Fleet) (state : State)
    → write cells (sends_fleet own fleet) state ≡ with_sent (owns_after cells own state) fleet state
write-sent cells own fleet state =
    λ i. record { number = state.number; own = owns_after cells own state; items = all-items state.items i; fleets = filter_map-all state.fleets i ++ fleet ∷ [] }

shrinks_at : (cell : CellId) (became : Fleet → Option Fleet) (old new : Fleet) (b : Bool) → (became old ≡ Some new → belongs cell new ≡ true → belongs cell old ≡ true)
    → cond b (became old) (Some old) ≡ Some new → belongs cell new ≡ true → belongs cell old ≡ true
shrinks_at cell became old new true shrinks is here = shrinks is here
shrinks_at cell became old new false shrinks is here = stays-belonging cell old new is here

-- a fleet changes that belongs to cells that are reached alone
pub within-fleet : (cells reach : CellId → Bool) (own : CellId → Own) (number : ℕ) (became : Fleet → Option Fleet) (state : State)
    → OwnsWithin cells reach own (with_fleet (owns_after cells own state) number became state) state
    → ((cell : CellId) (old new : Fleet) → became old ≡ Some new → belongs cell new ≡ true → belongs cell old ≡ true)
    → ((cell : CellId) (fleet : Fleet) → IsIn fleet state.fleets → eqb fleet.number number ≡ true → belongs cell fleet ≡ true → reach cell ≡ true)
    → IsWithin cells reach (new_fleet own number became) state
within-fleet cells reach own number became state owes shrinks all = record {
  among = owes.among;
  queues = λ cell class again. absurd cc;
  items = λ item is. absurd is;
  owners = owes.owners;
  counted = λ x has. subst (AreCountedIn reach state x) (sym (write-fleet cells own number became state)) (owes.counted x has);
  shrinks = λ cell old new is here. shrinks_at cell became old new (eqb old.number number) (shrinks cell old new) is here;
  fleets = λ cell fleet is here out.
      let other : eqb fleet.number number ≡ false = fails (eqb fleet.number number) (λ same. never (reach cell) (all cell fleet is same here) out) in
      ap (λ b. cond b (became fleet) (Some fleet)) other;
  sent = λ cell fleet is here. absurd is;
}

-- or some do
pub within-fleets : (cells reach : CellId → Bool) (own : CellId → Own) (fleets : List Fleet) (became : Fleet → Option Fleet) (state : State)
    → OwnsWithin cells reach own (with_fleets (owns_after cells own state) fleets became state) state
    → ((cell : CellId) (old new : Fleet) → became old ≡ Some new → belongs cell new ≡ true → belongs cell old ≡ true)
    → ((cell : CellId) (fleet : Fleet) → IsIn fleet state.fleets → list_any (same_flight fleet) fleets ≡ true → belongs cell fleet ≡ true → reach cell ≡ true)
    → IsWithin cells reach (new_fleets own fleets became) state
within-fleets cells reach own fleets became state owes shrinks all = record {
  among = owes.among;
  queues = λ cell class again. absurd cc;
  items = λ item is. absurd is;
  owners = owes.owners;
  counted = λ x has. subst (AreCountedIn reach state x) (sym (write-fleets cells own fleets became state)) (owes.counted x has);
  shrinks = λ cell old new is here. shrinks_at cell became old new (list_any (same_flight old) fleets) (shrinks cell old new) is here;
  fleets = λ cell fleet is here out.
      let other : list_any (same_flight fleet) fleets ≡ false = fails (list_any (same_flight fleet) fleets) (λ same. never (reach cell) (all cell fleet is same here) out) in
      ap (λ b. cond b (became fleet) (Some fleet)) other;
  sent = λ cell fleet is here. absurd is;
}

-- or one is sent that does
pub within-sent : (cells reach : CellId → Bool) (own : CellId → Own) (fleet : Fleet) (state : State)
    → OwnsWithin cells reach own (with_sent (owns_after cells own state) fleet state) state
    → ((cell : CellId) → belongs cell fleet ≡ true → reach cell ≡ true)
    → IsWithin cells reach (sends_fleet own fleet) state
within-sent cells reach own fleet state owes all = record {
  among = owes.among;
  queues = λ cell class again. absurd cc;
  items = λ item is. absurd is;
  owners = owes.owners;
  counted = λ x has. subst (AreCountedIn reach state x) (sym (write-sent cells own fleet state)) (owes.counted x has);
  shrinks = stays-belonging;
  fleets = λ cell other is here out. refl;
  sent = λ cell other is here. elim is [
    | inl same ↦ all cell (subst (λ f. belongs cell f ≡ true) same here)
    | inr none ↦ absurd none
  ];
}
