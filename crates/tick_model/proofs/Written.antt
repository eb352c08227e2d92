-- What a request makes of a state.
use Rattle.std.proofs.Common.{◌≡◌, ℕ, ◌+◌, ◌<◌, ◌≤◌, ◌⊎◌, [], ◌∷◌, ◌++◌, inl, inr, Bool, true, false, cond, eqb, ◌&&◌, ◌||◌, Option, Some, filter, length, arith, ap, ◌∙◌, sym, subst}
use Rattle.base_ids.specs.Cells.{same_cell, same_coord}
use Rattle.base_ids.specs.declared.coord.Coord.{Coord}
use Rattle.base_ids.specs.declared.player.Player.{Player}
use Rattle.base_ids.specs.declared.cell_id.CellId.{CellId}
use Rattle.base_ids.specs.declared.cell_id.CellId.TheVariants.{Account, Planet}
use Rattle.laziness.proofs.Bringing.{never, test}
use Rattle.laziness.specs.Laws.{Covers, IsClosed}
use Rattle.base_ids.specs.declared.fleet_number.FleetNumber.{FleetNumber}
use Rattle.request_text.specs.declared.request.Request.TheVariants.{Recall}
use Rattle.request_text.specs.declared.entry.Entry.{Entry}
use Rattle.tick_model.specs.Changes.{Change, new_fleet, new_queue, owns, sends_fleet, write}
use Rattle.tick_model.specs.Flights.{recalled_at, turned}
use Rattle.tick_model.specs.Game.{game, own_brings}
use Rattle.tick_model.specs.declared.codes.TheConstants.{MOST_IN_GROUP}
use Rattle.tick_model.specs.Raids.{companions, outbound_in}
use Rattle.tick_model.specs.Requests.{Sight, asked, is_listed, names, outcome, queue_seen}
use Rattle.tick_model.specs.Rules.{IsFlying, IsIn, IsPlaced, KeepsRules, queue_cell}
use Rattle.tick_model.specs.Step.{sight_of}
use Rattle.tick_model.specs.Universe.{Own, of_planet, QueueClass, Buildings, Researches, Yard, same_class, PlanetFields, Fleet, Item, Setting, State}
use Rattle.tick_model.specs.Views.{View, belongs, holding, holding_at, queue_in, shown, stands_in, view}
use Rattle.tick_model.proofs.Asked.{in-listed, shown-account, shown-planet, shown-some, shown-there}
use Rattle.tick_model.proofs.Brought.{brings-own, fleet-listed}
use Rattle.tick_model.proofs.Effects.{put-stays}
use Rattle.tick_model.proofs.Fleets.{IsFleetOf, apart-filter, out-flies}
use Rattle.tick_model.proofs.Landings.{flies-in, turned-belongs}
use Rattle.tick_model.proofs.Lists.{and-from, and-is, cell-from, cell-is, class-is, fails, filter-alike, filter-both, filter-none, fleet-one, in-append, number-is, or-is, or-second, same_number}
use Rattle.tick_model.proofs.Outcomes.{Changes, nothing, fields, joined, dispatched, called_back, AllSeenAlike, IsGrouped, alone, along, IsOrdered, IsSent, outcome-changes}
use Rattle.tick_model.proofs.Owns.{IsAlike, Stays, alike-holding, alike-itself, alike-stays, owner_of, stays-itself, stays-owner}
use Rattle.tick_model.proofs.Raids.{coord-from, target-belongs}
use Rattle.tick_model.proofs.Queues.{queue-other, queued-in, stands-there}
use Rattle.tick_model.proofs.Staying.{AllStay}
use Rattle.tick_model.proofs.Timing.{IsFresh}
use Rattle.tick_model.proofs.Writes.{IsWithin, OwnsWithin, owns_after, shown-own, with_fleet, with_owns, with_queue, with_sent, within-fleet, within-owns, within-queue, within-sent, write-fleet, write-nothing, write-owns, write-queue, write-sent}

-- a new item: it bears the next number and is in the queue of the right cell; and if none is before it, it comes due after this
-- moment
pub record IsNew (state : State) (moment : ℕ) (item : Item) : Type 0 where
  pub number : item.number ≡ state.number + 1
  pub placed : IsPlaced state item
  pub runs : queue_in state.items item.cell item.class ≡ [] → moment < item.second
  pub paced : queue_in state.items item.cell item.class ≡ [] → item.class ≡ Yard → 1 ≤ item.unit_seconds
  pub fresh : IsFresh moment item

-- what cells have of their own stays alike
abbrev pub AllAlike : State → (CellId → Own) → Type 0
AllAlike state own = (x : CellId) → IsAlike (state.own x) (own x)

-- a new fleet: it bears the next number, flies between planets, and comes due after this moment
pub record IsNewFleet (state : State) (moment : ℕ) (fleet : Fleet) : Type 0 where
  pub number : fleet.number ≡ state.number + 1
  pub flying : IsFlying state fleet
  pub launched : fleet.launch ≡ moment
  pub runs : moment < fleet.second
  pub grouped : IsGrouped state.fleets fleet
  pub room : length (outbound_in fleet.group state.fleets) < MOST_IN_GROUP

-- what becomes of a fleet that is recalled at a moment
abbrev pub recalled_by : ℕ → Fleet → Option Fleet
recalled_by moment fleet = Some (turned fleet (recalled_at fleet moment) fleet.cargo)

-- but for the last number, a state is as before, or cells have other things of their own, or besides one more item, or one more
-- fleet, or a fleet that flew out has turned back
pub data Makes (moment : ℕ) (state new : State) : Type 0 where
  stays : new ≡ state → Makes moment state new
  changed : (own : CellId → Own) → AllAlike state own → new ≡ with_owns own state → Makes moment state new
  ordered : (own : CellId → Own) (item : Item) → AllAlike state own → IsNew state moment item
      → new ≡ with_queue own item.cell item.class (queue_in state.items item.cell item.class ++ item ∷ []) state → Makes moment state new
  sent : (own : CellId → Own) (fleet : Fleet) → AllStay state.own own → IsNewFleet state moment fleet → new ≡ with_sent own fleet state → Makes moment state new
  recalled : (own : CellId → Own) (number : ℕ) → AllAlike state own → new ≡ with_fleet own number (recalled_by moment) state → Makes moment state new

-- the cells that an entry asks for, what it can go by, and what it changes
abbrev pub cells_of : Setting → Entry → State → CellId → Bool
cells_of setting a state = asked setting.cells (view setting.cells state) a.player a.req

abbrev pub sight : Setting → Entry → ℕ → State → Sight
sight setting a moment state = sight_of setting a.player a.req moment state

abbrev pub change_of : Setting → Entry → ℕ → State → Change
change_of setting a moment state = (outcome (sight setting a moment state) a.player a.req).change

-- what stays alike of what is seen stays alike
pub alike-after : (setting : Setting) (a : Entry) (t : ℕ) (u : State) (own : CellId → Own) → AllSeenAlike (sight setting a t u) own → AllAlike u (owns_after (cells_of setting a u) own u)
alike-after setting a t u own alike x =
    let cells = cells_of setting a u in
    elim (test (cells x)) [
      | inl has ↦
          subst (λ new. IsAlike (u.own x) new) (sym (ap (λ b. cond b (own x) (u.own x)) has))
          (subst (λ old. IsAlike old (own x)) (shown-own setting.cells cells u x has) (alike x))
      | inr out ↦ subst (λ new. IsAlike (u.own x) new) (sym (ap (λ b. cond b (own x) (u.own x)) out)) (alike-itself (u.own x))
    ]

owner-after : (setting : Setting) (a : Entry) (t : ℕ) (u : State) (own : CellId → Own) → AllSeenAlike (sight setting a t u) own → (x : CellId) → cells_of setting a u x ≡ true
    → owner_of (own x) ≡ owner_of (u.own x)
owner-after setting a t u own alike x has =
    let seen = owns (shown (cells_of setting a u) (view setting.cells u)) in
    stays-owner (seen x) (own x) (alike-stays (seen x) (own x) (alike x)) ∙ ap owner_of (shown-own setting.cells (cells_of setting a u) u x has)

-- a queue that is shown is the one that is there
pub queue-shown : (setting : Setting) (a : Entry) (t : ℕ) (u : State) (cell : CellId) (class : QueueClass) → cells_of setting a u cell ≡ true
    → queue_seen (sight setting a t u) cell class ≡ queue_in u.items cell class
queue-shown setting a t u cell class asks = ap (λ (seen : View). seen.queue class) (shown-there (cells_of setting a u) (view setting.cells u) cell asks)

-- what an order is of, is asked for
pub record OrderedThere (setting : Setting) (a : Entry) (u : State) (item : Item) : Type 0 where
  pub planet : PlanetFields
  pub stands : u.own (Planet item.place) ≡ of_planet planet
  pub owner : planet.owner ≡ a.player
  pub caller : cells_of setting a u (Account a.player) ≡ true
  pub payer : cells_of setting a u (Planet item.place) ≡ true
  pub queue : cells_of setting a u item.cell ≡ true

queue-asked : (cells : CellId → Bool) (class : QueueClass) (at : Coord) (player : Player) → cells (Account player) ≡ true → cells (Planet at) ≡ true → cells (queue_cell class at player) ≡ true
queue-asked cells Buildings at player caller payer = payer
queue-asked cells Researches at player caller payer = caller
queue-asked cells Yard at player caller payer = payer

pub ordered-there : (setting : Setting) (a : Entry) (t : ℕ) (u : State) (item : Item) → IsOrdered (sight setting a t u) a.player item → OrderedThere setting a u item
ordered-there setting a t u item new =
    let cells = cells_of setting a u in
    let planet = shown-planet cells (view setting.cells u) (Planet item.place) new.planet new.is_own.there in
    let caller = shown-account cells (view setting.cells u) (Account a.player) new.account new.is_own.caller in
    record {
      planet = new.planet;
      stands = planet.1;
      owner = new.is_own.owner;
      caller = caller;
      payer = planet.0;
      queue = subst (λ x. cells x ≡ true) (sym new.cell) (queue-asked cells item.class item.place a.player caller planet.0);
    }

new-there : (setting : Setting) (a : Entry) (t : ℕ) (u : State) (item : Item) → IsOrdered (sight setting a t u) a.player item → IsNew u t item
new-there setting a t u item new =
    let there = ordered-there setting a t u item new in
    let queue = queue-shown setting a t u item.cell item.class there.queue in
    record {
      number = new.number;
      placed = record { planet = there.planet; stands = there.stands; cell = new.cell ∙ ap (queue_cell item.class item.place) (sym there.owner); batch = new.batch };
      runs = λ none. new.runs (queue ∙ none);
      paced = λ none yard. new.paced (queue ∙ none) yard;
      fresh = new.fresh;
    }

-- the queue with a new item is of that queue
pub standing : (u : State) (new item : Item) → IsIn item (queue_in u.items new.cell new.class ++ new ∷ []) → stands_in new.cell new.class item ≡ true
standing u new item is =
    elim (in-append item (queue_in u.items new.cell new.class) (new ∷ []) is) [
      | inl before ↦ (queued-in u.items new.cell new.class item before).there
      | inr one ↦ elim one [ inl same ↦ stands-there new.cell new.class item (ap (λ (x : Item). x.cell) same) (ap (λ (x : Item). x.class) same) | inr none ↦ absurd none ]
    ]

-- the planets of other accounts keep their units
counted-after : (setting : Setting) (a : Entry) (t : ℕ) (u : State) (own : CellId → Own) (item : Item) → AllSeenAlike (sight setting a t u) own → IsOrdered (sight setting a t u) a.player item
    → (x : CellId) → cells_of setting a u x ≡ true
    → (holding_at (with_queue (owns_after (cells_of setting a u) own u) item.cell item.class (queue_in u.items item.cell item.class ++ item ∷ []) u) x ≡ holding_at u x)
    ⊎ ((owner : Player) → owner_of (u.own x) ≡ Some owner → cells_of setting a u (Account owner) ≡ true)
counted-after setting a t u own item alike new x has =
    let cells = cells_of setting a u in
    let there = ordered-there setting a t u item new in
    let after = owns_after cells own u in
    elim (test (same_cell item.cell x && same_class item.class Yard)) [
      | inr apart ↦
          (let queue = queue-other after item.cell x item.class Yard (queue_in u.items item.cell item.class ++ item ∷ []) u apart (standing u item) in
          inl (ap (holding (after x)) queue ∙ alike-holding (u.own x) (after x) (queue_in u.items x Yard) (alike-after setting a t u own alike x)))
      | inl here ↦
          (let both = and-is (same_cell item.cell x) (same_class item.class Yard) here in
          let class = class-is item.class Yard both.1 in
          let home : x ≡ Planet item.place = sym (cell-is item.cell x both.0) ∙ new.cell ∙ ap (λ c. queue_cell c item.place a.player) class in
          let planet : u.own x ≡ of_planet there.planet = ap u.own home ∙ there.stands in
          inr (λ owner is.
          let same : Some there.planet.owner ≡ Some owner = sym (ap owner_of planet) ∙ is in
          let owner_is : there.planet.owner ≡ owner = cc in
          subst (λ k. cells (Account k) ≡ true) (sym there.owner ∙ owner_is) there.caller))
    ]

-- a fleet of a group flies with those of its target, if all of the group that fly out do
goes-flies : (f : Fleet) (at : Coord) (group : ℕ) → (f.outbound ≡ true → f.group ≡ group → f.target ≡ at)
    → (belongs (Planet at) f && (f.outbound && same_coord f.target at && eqb f.group group)) ≡ (f.outbound && eqb f.group group)
goes-flies f at group there =
    elim (test (f.outbound && eqb f.group group)) [
      | inl flies ↦
          (let both = and-is f.outbound (eqb f.group group) flies in
          let target = there both.0 (number-is f.group group both.1) in
          let here = coord-from f.target at target in
          and-from (belongs (Planet at) f) (f.outbound && same_coord f.target at && eqb f.group group) (target-belongs at f both.0 target)
          (and-from (f.outbound && same_coord f.target at) (eqb f.group group) (and-from f.outbound (same_coord f.target at) both.0 here) both.1)
          ∙ sym flies)
      | inr not_so ↦
          fails (belongs (Planet at) f && (f.outbound && same_coord f.target at && eqb f.group group)) (λ passes.
          let goes = (and-is (belongs (Planet at) f) (f.outbound && same_coord f.target at && eqb f.group group) passes).1 in
          let numbered = and-is (f.outbound && same_coord f.target at) (eqb f.group group) goes in
          let out = (and-is f.outbound (same_coord f.target at) numbered.0).0 in
          never (f.outbound && eqb f.group group) (and-from f.outbound (eqb f.group group) out numbered.1) not_so)
          ∙ sym not_so
    ]

-- Of a set that is ready a request's change stays within the cells that it asks for, and reaches no further than the set.

-- a request's change is within the cells that it asks for, and makes no more of a state
pub record IsMade (cells reach : CellId → Bool) (change : Change) (moment : ℕ) (state : State) : Type 0 where
  pub within : IsWithin cells reach change state
  pub makes : Makes moment state (write cells change state)

either-reached : (cells reach : CellId → Bool) (old new : State) (x : CellId) → ((y : CellId) → cells y ≡ true → reach y ≡ true)
    → (holding_at new x ≡ holding_at old x) ⊎ ((owner : Player) → owner_of (old.own x) ≡ Some owner → cells (Account owner) ≡ true)
    → (holding_at new x ≡ holding_at old x) ⊎ ((owner : Player) → owner_of (old.own x) ≡ Some owner → reach (Account owner) ≡ true)
either-reached cells reach old new x among (inl same) = inl same
either-reached cells reach old new x among (inr owned) = inr (λ owner is. among (Account owner) (owned owner is))

-- where a fleet that is sent doesn't leave, a cell is as before
pub departs-elsewhere : (setting : Setting) (a : Entry) (t : ℕ) (u : State) (own : CellId → Own) (fleet : Fleet) → (new : IsSent (sight setting a t u) a.player own fleet)
    → (x : CellId) → same_cell (Planet fleet.origin) x ≡ false → owns_after (cells_of setting a u) own u x ≡ u.own x
departs-elsewhere setting a t u own fleet new x apart =
    let cells = cells_of setting a u in
    let seen = owns (shown cells (view setting.cells u)) in
    let put : own x ≡ seen x = ap (λ (o : CellId → Own). o x) new.own_is ∙ ap (λ b. cond b (of_planet new.departed) (seen x)) apart in
    elim (test (cells x)) [
      | inl has ↦ ap (λ b. cond b (own x) (u.own x)) has ∙ put ∙ shown-own setting.cells cells u x has
      | inr out ↦ ap (λ b. cond b (own x) (u.own x)) out
    ]

owns-within : (setting : Setting) (a : Entry) (t : ℕ) (u : State) (reach : CellId → Bool) (own : CellId → Own) → ((y : CellId) → cells_of setting a u y ≡ true → reach y ≡ true)
    → AllSeenAlike (sight setting a t u) own
    → OwnsWithin (cells_of setting a u) reach own (with_owns (owns_after (cells_of setting a u) own u) u) u
owns-within setting a t u reach own among alike = record {
  among = among;
  owners = owner-after setting a t u own alike;
  counted = λ x has. inl (alike-holding (u.own x) (owns_after (cells_of setting a u) own u x) (queue_in u.items x Yard) (alike-after setting a t u own alike x));
}

module _ (setting : Setting) (a : Entry) (t : ℕ) (S : CellId → Bool) (u : State) (fine : KeepsRules setting u) (covers : Covers (game setting) (view setting.cells u) a S)
    (closed : IsClosed (game setting) (view setting.cells u) t S) where
  abbrev cells : CellId → Bool
  cells = cells_of setting a u

  -- A fleet that is sent.

  module _ (own : CellId → Own) (fleet : Fleet) (new : IsSent (sight setting a t u) a.player own fleet) where
    origin-there : (cells (Planet fleet.origin) ≡ true) × (u.own (Planet fleet.origin) ≡ of_planet new.planet)
    origin-there = shown-planet cells (view setting.cells u) (Planet fleet.origin) new.planet new.is_own.there

    target-there : (cells (Planet fleet.target) ≡ true) × (u.own (Planet fleet.target) ≡ of_planet new.to)
    target-there = shown-planet cells (view setting.cells u) (Planet fleet.target) new.to new.reaches

    caller-there : cells (Account a.player) ≡ true
    caller-there = shown-account cells (view setting.cells u) (Account a.player) new.account new.is_own.caller

    -- the planet that it leaves stays, and so do all others
    departs-stays : (x : CellId) → Stays (owns (shown cells (view setting.cells u)) x) (own x)
    departs-stays x =
        let seen = owns (shown cells (view setting.cells u)) in
        subst (λ (o : CellId → Own). Stays (seen x) (o x)) (sym new.own_is)
        (put-stays (Planet fleet.origin) (of_planet new.departed) seen (subst (λ o. Stays o (of_planet new.departed)) (sym new.is_own.there) new.stays) x)

    departs-after : AllStay u.own (owns_after cells own u)
    departs-after x =
        elim (test (cells x)) [
          | inl has ↦
              subst (λ o. Stays (u.own x) o) (sym (ap (λ b. cond b (own x) (u.own x)) has))
              (subst (λ o. Stays o (own x)) (shown-own setting.cells cells u x has) (departs-stays x))
          | inr out ↦ subst (λ o. Stays (u.own x) o) (sym (ap (λ b. cond b (own x) (u.own x)) out)) (stays-itself (u.own x))
        ]

    -- its group flies
    among-flying : IsGrouped (shown cells (view setting.cells u) (Planet fleet.target)).fleets fleet → IsGrouped u.fleets fleet
    among-flying (alone is most) = alone is most
    among-flying (along leader within out group target second) =
        let seen = subst (λ (v : View). IsIn leader v.fleets) (shown-there cells (view setting.cells u) (Planet fleet.target) target-there.0) within in
        along leader (flies-in setting.cells u (Planet fleet.target) leader seen) out group target second

    group-at : IsGrouped u.fleets fleet → fleet.group ≤ fleet.number
    group-at (alone is most) = omega (arith, is)
    group-at (along leader within out group target second) =
        let low = (fine.flying leader within).grouped in
        let earlier = fine.sent leader within in
        let number : fleet.number ≡ u.number + 1 = new.number in
        omega (arith, low, earlier, group, number)

    group-least : fleet.group ≤ fleet.number
    group-least = group-at (among-flying new.grouped)

    -- all of its group that fly out are those that its target shows
    companions-all : (leader : Fleet) → IsIn leader u.fleets → leader.outbound ≡ true → leader.group ≡ fleet.group → leader.target ≡ fleet.target
        → companions fleet.target fleet.group (filter (belongs (Planet fleet.target)) u.fleets) ≡ outbound_in fleet.group u.fleets
    companions-all leader within out group target =
        let goes = λ (f : Fleet). f.outbound && same_coord f.target fleet.target && eqb f.group fleet.group in
        let flies = λ (f : Fleet). f.outbound && eqb f.group fleet.group in
        filter-both goes (belongs (Planet fleet.target)) u.fleets
        ∙ filter-alike (λ (f : Fleet). belongs (Planet fleet.target) f && goes f) flies u.fleets (λ f is.
        goes-flies f fleet.target fleet.group (λ flown same.
        (fine.together f leader is within flown out (same ∙ sym group)).0 ∙ target))

    none-grouped : fleet.group ≡ fleet.number → outbound_in fleet.group u.fleets ≡ []
    none-grouped same =
        filter-none (λ (f : Fleet). f.outbound && eqb f.group fleet.group) u.fleets (λ f is. fails (f.outbound && eqb f.group fleet.group) (λ passes.
        let named = number-is f.group fleet.group (and-is f.outbound (eqb f.group fleet.group) passes).1 in
        let low = (fine.flying f is).grouped in
        let earlier = fine.sent f is in
        let number : fleet.number ≡ u.number + 1 = new.number in
        omega (arith, named, low, earlier, number, same)))

    group-room : IsGrouped u.fleets fleet → (fleet.group ≡ fleet.number) ⊎ (length (companions fleet.target fleet.group (shown cells (view setting.cells u) (Planet fleet.target)).fleets) < MOST_IN_GROUP)
        → length (outbound_in fleet.group u.fleets) < MOST_IN_GROUP
    group-room grouped (inl same) = let none : length (outbound_in fleet.group u.fleets) ≡ 0 = ap length (none-grouped same) in omega (arith, none)
    group-room (alone is most) (inr room) = let none : length (outbound_in fleet.group u.fleets) ≡ 0 = ap length (none-grouped is) in omega (arith, none)
    group-room (along leader within out group target second) (inr room) =
        let seen = shown-there cells (view setting.cells u) (Planet fleet.target) target-there.0 in
        subst (λ fleets. length fleets < MOST_IN_GROUP) (ap (λ (v : View). companions fleet.target fleet.group v.fleets) seen ∙ companions-all leader within out group target) room

    new-flies : IsFlying u fleet
    new-flies = record {
      from = new.planet;
      leaves = origin-there.1;
      is_own = new.is_own.owner ∙ sym new.owner;
      to = new.to;
      reaches = target-there.1;
      is_theirs = new.is_theirs;
      kinds = new.kinds;
      later = λ out. new.later;
      deployed = new.is_deployed;
      grouped = group-least;
    }

    -- all its cells are in the set
    flies-inside : (x : CellId) → belongs x fleet ≡ true → S x ≡ true
    flies-inside x has =
        let near = same_cell (Planet fleet.origin) x || same_cell (Account fleet.owner) x in
        let far = same_cell (Planet fleet.target) x || same_cell (Account fleet.target_owner) x in
        elim (or-is near (fleet.outbound && far) has) [
          | inl here ↦ elim (or-is (same_cell (Planet fleet.origin) x) (same_cell (Account fleet.owner) x) here) [
            | inl at ↦ subst (λ y. S y ≡ true) (cell-is (Planet fleet.origin) x at) (covers (Planet fleet.origin) origin-there.0)
            | inr at ↦ subst (λ y. S y ≡ true) (ap Account (sym new.owner) ∙ cell-is (Account fleet.owner) x at) (covers (Account a.player) caller-there)
          ]
          | inr there ↦ elim (or-is (same_cell (Planet fleet.target) x) (same_cell (Account fleet.target_owner) x) (and-is fleet.outbound far there).1) [
            | inl at ↦ subst (λ y. S y ≡ true) (cell-is (Planet fleet.target) x at) (covers (Planet fleet.target) target-there.0)
            | inr at ↦
                (let account = cell-is (Account fleet.target_owner) x at in
                let brought : own_brings (u.own (Planet fleet.target)) (Account fleet.target_owner) ≡ true =
                ap (λ o. own_brings o (Account fleet.target_owner)) target-there.1 ∙ cell-from (Account new.to.owner) (Account fleet.target_owner) (ap Account new.is_theirs) in
                subst (λ y. S y ≡ true) account
                (closed (Planet fleet.target) (covers (Planet fleet.target) target-there.0) (Account fleet.target_owner)
                (brings-own (view setting.cells u (Planet fleet.target)) t (Account fleet.target_owner) brought)))
          ]
        ]

    departs-counted : (x : CellId) → (holding_at (with_sent (owns_after cells own u) fleet u) x ≡ holding_at u x)
        ⊎ ((owner : Player) → owner_of (u.own x) ≡ Some owner → cells (Account owner) ≡ true)
    departs-counted x =
        elim (test (same_cell (Planet fleet.origin) x)) [
          | inl here ↦ inr (λ owner is.
              let planet : u.own x ≡ of_planet new.planet = ap u.own (sym (cell-is (Planet fleet.origin) x here)) ∙ origin-there.1 in
              let same : Some new.planet.owner ≡ Some owner = sym (ap owner_of planet) ∙ is in
              let owner_is : new.planet.owner ≡ owner = cc in
              subst (λ k. cells (Account k) ≡ true) (sym new.is_own.owner ∙ owner_is) caller-there)
          | inr apart ↦
              inl (ap (λ o. holding o (queue_in u.items x Yard)) (departs-elsewhere setting a t u own fleet new x apart))
        ]

    sent-made : IsMade cells S (sends_fleet own fleet) t u
    sent-made = record {
      within = within-sent cells S own fleet u (record {
        among = covers;
        owners = λ x has. stays-owner (owns (shown cells (view setting.cells u)) x) (own x) (departs-stays x) ∙ ap owner_of (shown-own setting.cells cells u x has);
        counted = λ x has. either-reached cells S u (with_sent (owns_after cells own u) fleet u) x covers (departs-counted x);
      }) flies-inside;
      makes = sent (owns_after cells own u) fleet departs-after (record { number = new.number; flying = new-flies; launched = new.launched; runs = new.runs; grouped = among-flying new.grouped; room = group-room (among-flying new.grouped) new.room }) (write-sent cells own fleet u);
    }

  -- A fleet that is recalled.

  recalled-belongs : (x : CellId) (old new : Fleet) → recalled_by t old ≡ Some new → belongs x new ≡ true → belongs x old ≡ true
  recalled-belongs x old new is has =
      let same : turned old (recalled_at old t) old.cargo ≡ new = cc in
      turned-belongs x old (recalled_at old t) old.cargo (ap (belongs x) same ∙ has)

  module _ (number : FleetNumber) (fleet : Fleet) (is : a.req ≡ Recall number)
      (theirs : IsFleetOf a.player number.f ((sight setting a t u).seen (Account a.player)).fleets fleet) (out : fleet.outbound ≡ true) where
    -- the caller's account is asked for, since it shows the fleet
    caller-asked : cells (Account a.player) ≡ true
    caller-asked = shown-some cells (view setting.cells u) (Account a.player) fleet theirs.within

    seen-there : (shown cells (view setting.cells u) (Account a.player)) ≡ view setting.cells u (Account a.player)
    seen-there = shown-there cells (view setting.cells u) (Account a.player) caller-asked

    flies-there : IsFleetOf a.player number.f (view setting.cells u (Account a.player)).fleets fleet
    flies-there = subst (λ (seen : View). IsFleetOf a.player number.f seen.fleets fleet) seen-there theirs

    flies-among : IsIn fleet u.fleets
    flies-among = flies-in setting.cells u (Account a.player) fleet flies-there.within

    -- so are all its cells
    recalled-asked : (x : CellId) → belongs x fleet ≡ true → cells x ≡ true
    recalled-asked x has =
        let caller = and-is (is_listed setting.cells (Account a.player) && is_listed setting.cells (Account a.player))
        (same_cell (Account a.player) (Account a.player) || names (view setting.cells u) a.player a.req (Account a.player)) caller-asked in
        let listed = and-from (is_listed setting.cells (Account a.player)) (is_listed setting.cells x)
        (and-is (is_listed setting.cells (Account a.player)) (is_listed setting.cells (Account a.player)) caller.0).0
        (in-listed setting.cells x (fleet-listed setting u fleet x fine flies-among has)) in
        let named : names (view setting.cells u) a.player (Recall number) x ≡ true =
        out-flies a.player number.f x (view setting.cells u (Account a.player)).fleets (apart-filter (belongs (Account a.player)) u.fleets fine.apart)
        (record { fleet = fleet; is_theirs = flies-there; out = out; has = has }) in
        and-from (is_listed setting.cells (Account a.player) && is_listed setting.cells x) (same_cell (Account a.player) x || names (view setting.cells u) a.player a.req x) listed
        (or-second (same_cell (Account a.player) x) (names (view setting.cells u) a.player a.req x) (ap (λ r. names (view setting.cells u) a.player r x) is ∙ named))

    recalled-made : IsMade cells S (new_fleet (owns (shown cells (view setting.cells u))) number.f (recalled_by t)) t u
    recalled-made =
        let own = owns (shown cells (view setting.cells u)) in
        let alike : AllSeenAlike (sight setting a t u) own = λ x. alike-itself (own x) in
        let counted = (owns-within setting a t u S own covers alike).counted in
        record {
          within = within-fleet cells S own number.f (recalled_by t) u
              (record { among = covers; owners = owner-after setting a t u own alike; counted = counted })
              recalled-belongs
              (λ x other is_in same has. covers x (recalled-asked x (subst (λ f. belongs x f ≡ true)
              (fleet-one u.fleets other fleet fine.apart is_in flies-among
              (ap (λ n. eqb n fleet.number) (number-is other.number number.f same ∙ sym (number-is fleet.number number.f theirs.number_is)) ∙ same_number fleet.number)) has)));
          makes = recalled (owns_after cells own u) number.f (alike-after setting a t u own alike) (write-fleet cells own number.f (recalled_by t) u);
        }

  made : (change : Change) → Changes (sight setting a t u) a.player a.req change → IsMade cells S change t u
  made change (nothing is) =
      let own = owns (shown cells (view setting.cells u)) in
      subst (λ c. IsMade cells S c t u) (sym is) (record {
        within = within-owns cells S own u (owns-within setting a t u S own covers (λ x. alike-itself (own x)));
        makes = stays (write-nothing setting.cells cells u);
      })
  made change (fields own alike steady is) =
      subst (λ c. IsMade cells S c t u) (sym is) (record {
        within = within-owns cells S own u (owns-within setting a t u S own covers alike);
        makes = changed (owns_after cells own u) (alike-after setting a t u own alike) (write-owns cells own u);
      })
  made change (joined own item alike steady new is) =
      let there = ordered-there setting a t u item new in
      let items = queue_in u.items item.cell item.class ++ item ∷ [] in
      let all : change ≡ new_queue own item.cell item.class items =
      is ∙ ap (λ before. new_queue own item.cell item.class (before ++ item ∷ [])) (queue-shown setting a t u item.cell item.class there.queue) in
      subst (λ c. IsMade cells S c t u) (sym all) (record {
        within = within-queue cells S own item.cell item.class items u there.queue
            (record {
              among = covers;
              owners = owner-after setting a t u own alike;
              counted = λ x has. either-reached cells S u (with_queue (owns_after cells own u) item.cell item.class items u) x covers (counted-after setting a t u own item alike new x has);
            }) (standing u item);
        makes = ordered (owns_after cells own u) item (alike-after setting a t u own alike) (new-there setting a t u item new) (write-queue cells own item.cell item.class items u);
      })
  made change (dispatched own fleet new is) = subst (λ c. IsMade cells S c t u) (sym is) (sent-made own fleet new)
  made change (called_back number fleet req theirs out is) = subst (λ c. IsMade cells S c t u) (sym is) (recalled-made number fleet req theirs out)

  pub request-made : IsMade cells S (change_of setting a t u) t u
  request-made = made (change_of setting a t u) (outcome-changes (sight setting a t u) a.player a.req)
