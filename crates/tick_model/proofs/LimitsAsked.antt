-- A request keeps the limits.
use Rattle.std.proofs.Common.{◌≡◌, ℕ, ◌+◌, ◌<◌, ◌≤◌, inl, inr, Bool, true, false, cond, eqb, ◌&&◌, List, [], ◌∷◌, ◌++◌, Some, filter, length, sum, sum_by, arith, refl, ap, ◌∙◌, sym, subst}
use Rattle.std.proofs.Math.Path.{fun_ext}
use Rattle.std.proofs.lemmas.List.{length-append}
use Rattle.std.proofs.lemmas.List.Sums.{sum_by-cons, sum_by_push}
use Rattle.std.specs.List.{filter_map}
use Rattle.base_ids.specs.Cells.{same_cell, same_player}
use Rattle.base_ids.specs.declared.player.Player.{Player}
use Rattle.base_ids.specs.declared.cell_id.CellId.{CellId}
use Rattle.base_ids.specs.declared.cell_id.CellId.TheVariants.{Account, Planet}
use Rattle.catalog.specs.declared.ships.TheConstants.{UNITS}
use Rattle.laziness.proofs.Bringing.{test}
use Rattle.request_text.specs.declared.entry.Entry.{Entry}
use Rattle.tick_model.specs.declared.codes.TheConstants.{MOST_QUEUED}
use Rattle.tick_model.specs.Changes.{Change, new_queue, owns, write}
use Rattle.tick_model.specs.Limits.{IsLoaded, KeepsLimits}
use Rattle.tick_model.specs.Lines.{own_fleets, slots_of}
use Rattle.tick_model.specs.Requests.{is_there}
use Rattle.tick_model.specs.Rules.{IsIn, KeepsRules, queue_cell}
use Rattle.tick_model.specs.Step.{step}
use Rattle.tick_model.specs.Universe.{Own, of_account, of_planet, AccountFields, QueueClass, Buildings, Researches, Yard, same_class, Fleet, Item, Setting, State}
use Rattle.tick_model.specs.Views.{View, belongs, holding, holding_at, queue_in, ships_of, shown, units_held, units_left, units_of, view}
use Rattle.tick_model.proofs.Asked.{shown-account, shown-planet, shown-there}
use Rattle.tick_model.proofs.Landings.{cons-weight, weight}
use Rattle.tick_model.proofs.Errands.{recalled-errands, sent-errands}
use Rattle.tick_model.proofs.LimitsFleets.{own-last, recalled-fewer, recalled-loaded}
use Rattle.tick_model.proofs.LimitsKept.{same-most}
use Rattle.tick_model.proofs.LimitsOrders.{allowed-still, joined-kept}
use Rattle.tick_model.proofs.LimitsOwn.{AllKept, IsKept, after-steady, all-kept, kept-queues, kept-steady, slots-kept}
use Rattle.tick_model.proofs.Lists.{and-is, cell-is, cell-itself, class-is, filter-idle, in-append, or-first, player-from}
use Rattle.tick_model.proofs.Outcomes.{Changes, nothing, fields, joined, dispatched, called_back, IsAllowed, IsOrdered, IsSent, outcome-changes}
use Rattle.tick_model.proofs.Owns.{alike-holding, alike-itself}
use Rattle.tick_model.proofs.Queues.{queue-new, queue-other}
use Rattle.tick_model.proofs.Seen.{sum-more}
use Rattle.tick_model.proofs.Steady.{IsSteady, one-account, put-steady, steady-itself, steady-planet, steady-slots}
use Rattle.tick_model.proofs.Writes.{became_at, owns_after, shown-own, with_fleet, with_owns, with_queue, with_sent, write-fleet, write-nothing, write-owns, write-queue, write-sent}
use Rattle.tick_model.proofs.Written.{AllAlike, OrderedThere, alike-after, cells_of, change_of, departs-elsewhere, ordered-there, queue-shown, recalled_by, sight, standing}

-- What cells have of their own stays alike.

owns-units : (setting : Setting) (u : State) (own : CellId → Own) (player : Player) → AllAlike u own
    → units_of setting.cells (holding_at (with_owns own u)) u.fleets (Account player) ≡ units_of setting.cells (holding_at u) u.fleets (Account player)
owns-units setting u own player alike =
    ap (λ held. units_of setting.cells held u.fleets (Account player)) (fun_ext (λ x. alike-holding (u.own x) (own x) (queue_in u.items x Yard) (alike x)))

-- what cells have of their own is steady
abbrev AllSteady : State → (CellId → Own) → Type 0
AllSteady u own = (x : CellId) → IsSteady (u.own x) (own x)

steady-kept : (setting : Setting) (u : State) (own : CellId → Own) → AllSteady u own → KeepsLimits setting u → AllKept own u.items
steady-kept setting u own steady limits x = kept-steady (u.own x) (own x) (queue_in u.items x) (steady x) (all-kept setting u limits x)

owns-limits : (setting : Setting) (u : State) (own : CellId → Own) → AllAlike u own → AllSteady u own → KeepsLimits setting u → KeepsLimits setting (with_owns own u)
owns-limits setting u own alike steady limits = record {
  queued = limits.queued;
  counted = λ player. same-most _ _ UNITS (owns-units setting u own player alike) (limits.counted player);
  levelled = λ cell. (steady-kept setting u own steady limits cell).levelled;
  learned = λ cell. (steady-kept setting u own steady limits cell).learned;
  loaded = limits.loaded;
  errands = limits.errands;
  slots = slots-kept setting u own u.fleets (λ x. steady-slots _ _ (steady x)) (λ player. omega arith) limits;
}

-- A fleet turns back: it keeps its ships.

recalled-weight : (player : Player) (t : ℕ) (fleet : Fleet) (b : Bool) → weight (ships_of player) (cond b (recalled_by t fleet) (Some fleet)) ≡ ships_of player fleet
recalled-weight player t fleet true = refl
recalled-weight player t fleet false = refl

recalled-ships : (player : Player) (t number : ℕ) (fleets : List Fleet)
    → sum_by (ships_of player) (filter_map (became_at number (recalled_by t)) fleets) ≡ sum_by (ships_of player) fleets
recalled-ships player t number [] = refl
recalled-ships player t number (fleet ∷ fleets) =
    cons-weight (ships_of player) (became_at number (recalled_by t) fleet) (filter_map (became_at number (recalled_by t)) fleets)
    ∙ (λ i. recalled-weight player t fleet (eqb fleet.number number) i + recalled-ships player t number fleets i)
    ∙ sym (sum_by-cons (ships_of player) fleet fleets)

recalled-limits : (setting : Setting) (u : State) (own : CellId → Own) (number t : ℕ) → AllAlike u own → AllSteady u own → KeepsLimits setting u → KeepsLimits setting (with_fleet own number (recalled_by t) u)
recalled-limits setting u own number t alike steady limits = record {
  queued = limits.queued;
  counted = λ player.
      let held = λ (x : CellId). units_held player (holding_at (with_owns own u) x) in
      same-most _ _ UNITS (ap (λ ships. sum_by held setting.cells + ships) (recalled-ships player t number u.fleets) ∙ owns-units setting u own player alike) (limits.counted player);
  levelled = λ cell. (steady-kept setting u own steady limits cell).levelled;
  learned = λ cell. (steady-kept setting u own steady limits cell).learned;
  loaded = recalled-loaded t number u.fleets limits.loaded;
  errands = recalled-errands t number u.fleets limits.errands;
  slots = slots-kept setting u own (filter_map (became_at number (recalled_by t)) u.fleets) (λ x. steady-slots _ _ (steady x)) (recalled-fewer t number u.fleets) limits;
}

-- A fleet leaves: its ships fly and no longer stand on the planet.

-- a fleet belongs to its owner's account
owner-belongs : (fleet : Fleet) (player : Player) → same_player fleet.owner player ≡ true → belongs (Account player) fleet ≡ true
owner-belongs fleet player is = or-first (same_player fleet.owner player) (fleet.outbound && same_player fleet.target_owner player) is

left-held : (b c : Bool) (units ships before left : ℕ) → b ≡ c → units + ships ≡ before → cond b (before + left) 0 ≡ cond b (units + left) 0 + cond c ships 0
left-held true true units ships before left same split = omega (arith, split)
left-held false false units ships before left same split = refl
left-held true false units ships before left same split = absurd cc
left-held false true units ships before left same split = absurd cc

leaves-sum : (p' p q' q d : ℕ) → p ≡ p' + d → q' ≡ q + d → p' + q' ≡ p + q
leaves-sum p' p q' q d planets fleets = omega (arith, planets, fleets)

-- A queue is one item longer, and a batch is counted.

one-longer : (n : ℕ) → n < MOST_QUEUED → n + 1 ≤ MOST_QUEUED
one-longer n less = omega (arith, less)

none-more : (n : ℕ) → n + 0 ≡ n
none-more n = omega arith

with-fleets : (planets new more ships : ℕ) → new ≡ planets + more → new + ships ≡ (planets + ships) + more
with-fleets planets new more ships same = omega (arith, same)

and-no : (a b : Bool) → b ≡ false → a && b ≡ false
and-no true b is = is
and-no false b is = refl

first-no : (a b : Bool) → a ≡ false → a && b ≡ false
first-no a b is = ap (λ c. c && b) is

more-held : (b c : Bool) (standing before after more : ℕ) → b ≡ c → after ≡ before + more → cond b (standing + after) 0 ≡ cond b (standing + before) 0 + cond c more 0
more-held true true standing before after more same sum = omega (arith, sum)
more-held false false standing before after more same sum = refl
more-held true false standing before after more same sum = absurd cc
more-held false true standing before after more same sum = absurd cc

module _ (setting : Setting) (a : Entry) (t : ℕ) (u : State) (fine : KeepsRules setting u) (limits : KeepsLimits setting u) where
  abbrev cells : CellId → Bool
  cells = cells_of setting a u

  module _ (own : CellId → Own) (fleet : Fleet) (new : IsSent (sight setting a t u) a.player own fleet) where
    abbrev origin : CellId
    origin = Planet fleet.origin

    abbrev sent_state : State
    sent_state = with_sent (owns_after cells own u) fleet u

    origin-there : (cells origin ≡ true) × (u.own origin ≡ of_planet new.planet)
    origin-there = shown-planet cells (view setting.cells u) origin new.planet new.is_own.there

    origin-left : owns_after cells own u origin ≡ of_planet new.departed
    origin-left =
        ap (λ b. cond b (own origin) (u.own origin)) origin-there.0
        ∙ ap (λ (o : CellId → Own). o origin) new.own_is
        ∙ ap (λ b. cond b (of_planet new.departed) (owns (shown cells (view setting.cells u)) origin)) (cell-itself origin)

    sent-units : (player : Player) → units_of setting.cells (holding_at sent_state) sent_state.fleets (Account player) ≡ units_of setting.cells (holding_at u) u.fleets (Account player)
    sent-units player =
        let batches = queue_in u.items origin Yard in
        let left = units_left batches in
        let before = λ (x : CellId). units_held player (holding_at u x) in
        let after = λ (x : CellId). units_held player (holding_at sent_state x) in
        let owner : new.departed.owner ≡ fleet.owner = new.stays.0 ∙ new.is_own.owner ∙ sym new.owner in
        let first : new.planet.owner ≡ new.departed.owner = sym new.stays.0 in
        let here : before origin ≡ after origin + ships_of player fleet =
        ap (λ o. units_held player (holding o batches)) origin-there.1
        ∙ ap (λ (k : Player). cond (same_player k player) (sum new.planet.units + left) 0) first
        ∙ left-held (same_player new.departed.owner player) (same_player fleet.owner player) (sum new.departed.units) (sum fleet.ships) (sum new.planet.units) left
        (ap (λ (k : Player). same_player k player) owner) new.gone
        ∙ ap (λ o. units_held player (holding o batches) + ships_of player fleet) (sym origin-left) in
        let elsewhere : (x : CellId) → same_cell origin x ≡ false → before x ≡ after x = λ x apart.
        ap (λ o. units_held player (holding o (queue_in u.items x Yard))) (sym (departs-elsewhere setting a t u own fleet new x apart)) in
        let once = fine.once origin (fine.listed origin (ap is_there origin-there.1)) in
        let planets = sum-more origin after before (ships_of player fleet) setting.cells once elsewhere here in
        leaves-sum _ _ _ _ (ships_of player fleet) planets (sum_by_push (ships_of player) u.fleets fleet)

    sent-steady : AllSteady u sent_state.own
    sent-steady x =
        let seen = owns (shown cells (view setting.cells u)) in
        after-steady setting.cells cells u own x (subst (λ (o : CellId → Own). IsSteady (seen x) (o x)) (sym new.own_is)
        (put-steady origin (of_planet new.departed) seen (subst (λ o. IsSteady o (of_planet new.departed)) (sym new.is_own.there) (steady-planet new.planet new.departed new.built)) x))

    sent-loaded : (f : Fleet) → IsIn f sent_state.fleets → IsLoaded f
    sent-loaded f is =
        elim (in-append f u.fleets (fleet ∷ []) is) [
          | inl before ↦ limits.loaded f before
          | inr last ↦ elim last [ inl same ↦ subst IsLoaded (sym same) new.loaded | inr none ↦ absurd none ]
        ]

    -- the caller's account has a slot for it
    caller-slot : (account : AccountFields) → u.own (Account a.player) ≡ of_account account → length (own_fleets a.player u.fleets) < slots_of account
    caller-slot account is =
        let asks = shown-account cells (view setting.cells u) (Account a.player) new.account new.is_own.caller in
        let seen = shown-there cells (view setting.cells u) (Account a.player) asks in
        let mine : own_fleets a.player (filter (belongs (Account a.player)) u.fleets) ≡ own_fleets a.player u.fleets =
        filter-idle (λ (f : Fleet). same_player f.owner a.player) (belongs (Account a.player)) u.fleets (λ f within theirs. owner-belongs f a.player theirs) in
        let same = one-account new.account account (sym new.is_own.caller ∙ ap (λ (v : View). v.own) seen ∙ is) in
        subst (λ (k : AccountFields). length (own_fleets a.player u.fleets) < slots_of k) same
        (subst (λ fleets. length fleets < slots_of new.account) mine
        (subst (λ (v : View). length (own_fleets a.player v.fleets) < slots_of new.account) seen new.slot))

    sent-slots : (player : Player) (account : AccountFields) → sent_state.own (Account player) ≡ of_account account → length (own_fleets player sent_state.fleets) ≤ slots_of account
    sent-slots player account is =
        let was = steady-slots _ _ (sent-steady (Account player)) account is in
        let more = own-last player u.fleets fleet in
        let stay = was.2 in
        elim (test (same_player fleet.owner player)) [
          | inl same ↦
              (let theirs : a.player ≡ player = sym new.owner ∙ player-from fleet.owner player same in
              let slot = subst (λ (k : Player). u.own (Account k) ≡ of_account was.0 → length (own_fleets k u.fleets) < slots_of was.0) theirs (caller-slot was.0) was.1 in
              let one : cond {A = ℕ} (same_player fleet.owner player) 1 0 ≡ 1 = ap (λ b. cond b 1 0) same in
              omega (arith, more, stay, slot, one))
          | inr other ↦
              (let before = limits.slots player was.0 was.1 in
              let none : cond {A = ℕ} (same_player fleet.owner player) 1 0 ≡ 0 = ap (λ b. cond b 1 0) other in
              omega (arith, more, stay, before, none))
        ]

    sent-limits : KeepsLimits setting sent_state
    sent-limits = record {
      queued = limits.queued;
      counted = λ player. same-most _ _ UNITS (sent-units player) (limits.counted player);
      levelled = λ cell. (steady-kept setting u sent_state.own sent-steady limits cell).levelled;
      learned = λ cell. (steady-kept setting u sent_state.own sent-steady limits cell).learned;
      loaded = sent-loaded;
      errands = sent-errands u.fleets fleet (new.errand (omega arith)) limits.errands;
      slots = sent-slots;
    }

  -- An item joins a queue: there is room for it, and its owner may have its units.

  module _ (own : CellId → Own) (item : Item) (alike : AllAlike u own) (steady : AllSteady u own) (new : IsOrdered (sight setting a t u) a.player item) where
    abbrev joined_items : List Item
    joined_items = queue_in u.items item.cell item.class ++ item ∷ []

    abbrev joined_state : State
    joined_state = with_queue own item.cell item.class joined_items u

    there : OrderedThere setting a u item
    there = ordered-there setting a t u item new

    room : length (queue_in u.items item.cell item.class) < MOST_QUEUED
    room = subst (λ queue. length queue < MOST_QUEUED) (queue-shown setting a t u item.cell item.class there.queue) new.room

    few : item.class ≡ Yard → units_of setting.cells (holding_at u) u.fleets (Account a.player) + item.left ≤ UNITS
    few yard = subst (λ (seen : View). seen.units + item.left ≤ UNITS) (shown-there cells (view setting.cells u) (Account a.player) there.caller) (new.few yard)

    joined-queued : (cell : CellId) (class : QueueClass) → length (queue_in joined_state.items cell class) ≤ MOST_QUEUED
    joined-queued cell class =
        elim (test (same_cell item.cell cell && same_class item.class class)) [
          | inr apart ↦ same-most _ _ MOST_QUEUED (ap length (queue-other own item.cell cell item.class class joined_items u apart (standing u item))) (limits.queued cell class)
          | inl here ↦
              (let both = and-is (same_cell item.cell cell) (same_class item.class class) here in
              let place = cell-is item.cell cell both.0 in
              let sort = class-is item.class class both.1 in
              let same : queue_in joined_state.items cell class ≡ joined_items =
              (λ i. queue_in joined_state.items (sym place i) (sym sort i)) ∙ queue-new own item.cell item.class joined_items u (standing u item) in
              same-most _ _ MOST_QUEUED (ap length same ∙ length-append (queue_in u.items item.cell item.class) (item ∷ [])) (one-longer _ room))
        ]

    -- what is counted of a cell stays, unless it is the yard's
    stays-held : (x : CellId) → (same_cell item.cell x && same_class item.class Yard) ≡ false → holding_at joined_state x ≡ holding_at u x
    stays-held x apart =
        ap (holding (own x)) (queue-other own item.cell x item.class Yard joined_items u apart (standing u item))
        ∙ alike-holding (u.own x) (own x) (queue_in u.items x Yard) (alike x)

    level-units : (player : Player) → same_class item.class Yard ≡ false
        → units_of setting.cells (holding_at joined_state) u.fleets (Account player) ≡ units_of setting.cells (holding_at u) u.fleets (Account player)
    level-units player level =
        ap (λ held. units_of setting.cells held u.fleets (Account player)) (fun_ext (λ x. stays-held x (and-no (same_cell item.cell x) (same_class item.class Yard) level)))

    module _ (yard : item.class ≡ Yard) where
      yard-there : u.own item.cell ≡ of_planet there.planet
      yard-there = ap u.own (new.cell ∙ ap (λ c. queue_cell c item.place a.player) yard) ∙ there.stands

      -- of the planet its owner counts the new batch, and others nothing
      yard-holding : holding_at joined_state item.cell ≡ holding (of_planet there.planet) (queue_in u.items item.cell Yard ++ item ∷ [])
      yard-holding =
          let queue : queue_in joined_state.items item.cell Yard ≡ queue_in u.items item.cell Yard ++ item ∷ [] =
          subst (λ c. queue_in joined_state.items item.cell c ≡ queue_in u.items item.cell c ++ item ∷ []) yard (queue-new own item.cell item.class joined_items u (standing u item)) in
          ap (holding (own item.cell)) queue
          ∙ alike-holding (u.own item.cell) (own item.cell) (queue_in u.items item.cell Yard ++ item ∷ []) (alike item.cell)
          ∙ ap (λ o. holding o (queue_in u.items item.cell Yard ++ item ∷ [])) yard-there

      yard-held : (player : Player) → units_held player (holding_at joined_state item.cell) ≡ units_held player (holding_at u item.cell) + cond (same_player a.player player) item.left 0
      yard-held player =
          let batches = queue_in u.items item.cell Yard in
          ap (units_held player) yard-holding
          ∙ more-held (same_player there.planet.owner player) (same_player a.player player) (sum there.planet.units) (units_left batches) (units_left (batches ++ item ∷ [])) item.left
          (ap (λ (k : Player). same_player k player) there.owner) (sum_by_push (λ (batch : Item). batch.left) batches item)
          ∙ ap (λ o. units_held player (holding o batches) + cond (same_player a.player player) item.left 0) (sym yard-there)

      yard-units : (player : Player) → units_of setting.cells (holding_at joined_state) u.fleets (Account player)
          ≡ units_of setting.cells (holding_at u) u.fleets (Account player) + cond (same_player a.player player) item.left 0
      yard-units player =
          let more = cond (same_player a.player player) item.left 0 in
          let once = fine.once item.cell (fine.listed item.cell (ap is_there yard-there)) in
          let planets = sum-more item.cell (λ x. units_held player (holding_at u x)) (λ x. units_held player (holding_at joined_state x)) more setting.cells once
          (λ x apart. ap (units_held player) (stays-held x (first-no (same_cell item.cell x) (same_class item.class Yard) apart))) (yard-held player) in
          with-fleets _ _ more (sum_by (ships_of player) u.fleets) planets

      yard-counted : (player : Player) → units_of setting.cells (holding_at joined_state) u.fleets (Account player) ≤ UNITS
      yard-counted player =
          elim (test (same_player a.player player)) [
            | inl same ↦
                (let one = player-from a.player player same in
                let all : units_of setting.cells (holding_at u) u.fleets (Account player) + item.left ≤ UNITS =
                subst (λ (k : Player). units_of setting.cells (holding_at u) u.fleets (Account k) + item.left ≤ UNITS) one (few yard) in
                same-most _ _ UNITS (yard-units player ∙ ap (λ b. units_of setting.cells (holding_at u) u.fleets (Account player) + cond b item.left 0) same) all)
            | inr other ↦
                same-most _ _ UNITS (yard-units player ∙ ap (λ b. units_of setting.cells (holding_at u) u.fleets (Account player) + cond b item.left 0) other ∙ none-more _) (limits.counted player)
          ]

    -- it is allowed
    allowed-there : IsAllowed item.class item (own item.cell) (queue_in u.items item.cell item.class)
    allowed-there =
        let seen : IsAllowed item.class item (u.own item.cell) (queue_in u.items item.cell item.class) =
        subst (λ o. IsAllowed item.class item o (queue_in u.items item.cell item.class)) (shown-own setting.cells cells u item.cell there.queue)
        (subst (IsAllowed item.class item (owns (shown cells (view setting.cells u)) item.cell)) (queue-shown setting a t u item.cell item.class there.queue) new.allowed) in
        allowed-still item.class item (u.own item.cell) (own item.cell) (queue_in u.items item.cell item.class) (steady item.cell) seen

    joined-all : AllKept joined_state.own joined_state.items
    joined-all x =
        elim (test (same_cell item.cell x)) [
          | inl here ↦
              subst (λ y. IsKept (own y) (queue_in joined_state.items y)) (cell-is item.cell x here)
              (joined-kept item.class item (own item.cell) (queue_in u.items item.cell) (queue_in joined_state.items item.cell) (queue-new own item.cell item.class joined_items u (standing u item))
              (λ other apart. queue-other own item.cell item.cell item.class other joined_items u (and-no (same_cell item.cell item.cell) (same_class item.class other) apart) (standing u item))
              new.batch allowed-there (steady-kept setting u own steady limits item.cell))
          | inr apart ↦
              (let other = λ (class : QueueClass). queue-other own item.cell x item.class class joined_items u (first-no (same_cell item.cell x) (same_class item.class class) apart) (standing u item) in
              kept-queues (own x) (queue_in u.items x) (queue_in joined_state.items x) (other Buildings) (other Yard) (other Researches) (steady-kept setting u own steady limits x))
        ]

    joined-limits : KeepsLimits setting joined_state
    joined-limits = record {
      queued = joined-queued;
      counted = λ player. elim (test (same_class item.class Yard)) [
        | inl yard ↦ yard-counted (class-is item.class Yard yard) player
        | inr level ↦ same-most _ _ UNITS (level-units player level) (limits.counted player)
      ];
      levelled = λ cell. (joined-all cell).levelled;
      learned = λ cell. (joined-all cell).learned;
      loaded = limits.loaded;
      errands = limits.errands;
      slots = slots-kept setting u own u.fleets (λ x. steady-slots _ _ (steady x)) (λ player. omega arith) limits;
    }

  -- Whatever a request changes.

  changed-limits : (change : Change) → Changes (sight setting a t u) a.player a.req change → KeepsLimits setting (write cells change u)
  changed-limits change (nothing is) =
      subst (KeepsLimits setting) (sym (ap (λ c. write cells c u) is ∙ write-nothing setting.cells cells u)) limits
  changed-limits change (fields own alike steady is) =
      subst (KeepsLimits setting) (sym (ap (λ c. write cells c u) is ∙ write-owns cells own u)) (owns-limits setting u (owns_after cells own u) (alike-after setting a t u own alike) (λ x. after-steady setting.cells cells u own x (steady x)) limits)
  changed-limits change (joined own item alike steady new is) =
      let items = queue_in u.items item.cell item.class ++ item ∷ [] in
      let all : change ≡ new_queue own item.cell item.class items =
      is ∙ ap (λ before. new_queue own item.cell item.class (before ++ item ∷ [])) (queue-shown setting a t u item.cell item.class (ordered-there setting a t u item new).queue) in
      subst (KeepsLimits setting) (sym (ap (λ c. write cells c u) all ∙ write-queue cells own item.cell item.class items u))
      (joined-limits (owns_after cells own u) item (alike-after setting a t u own alike) (λ x. after-steady setting.cells cells u own x (steady x)) new)
  changed-limits change (dispatched own fleet new is) =
      subst (KeepsLimits setting) (sym (ap (λ c. write cells c u) is ∙ write-sent cells own fleet u)) (sent-limits own fleet new)
  changed-limits change (called_back number fleet req theirs out is) =
      let own = owns (shown cells (view setting.cells u)) in
      subst (KeepsLimits setting) (sym (ap (λ c. write cells c u) is ∙ write-fleet cells own number.f (recalled_by t) u))
      (recalled-limits setting u (owns_after cells own u) number.f t (alike-after setting a t u own (λ x. alike-itself (own x)))
      (λ x. after-steady setting.cells cells u own x (steady-itself (own x))) limits)

-- the next number changes nothing of it
numbered-limits : (setting : Setting) (u : State) (number : ℕ) → KeepsLimits setting u → KeepsLimits setting (record u { number = number })
numbered-limits setting u number limits = record { queued = limits.queued; counted = limits.counted; levelled = limits.levelled; learned = limits.learned; loaded = limits.loaded; errands = limits.errands; slots = limits.slots }

pub step-limits : (setting : Setting) (a : Entry) (t : ℕ) (u : State) → KeepsRules setting u → KeepsLimits setting u → KeepsLimits setting (step setting a.player a.req t u).state
unfolding step
step-limits setting a t u fine limits =
    numbered-limits setting (write (cells_of setting a u) (change_of setting a t u) u) (u.number + 1)
    (changed-limits setting a t u fine limits (change_of setting a t u) (outcome-changes (sight setting a t u) a.player a.req))
