-- How many units an account has after a request: the caller's has what is ordered besides, for a fleet that leaves has the ships that its
-- planet had; any other account has as many as before.
use Rattle.std.proofs.Common.{◌≡◌, ℕ, ◌+◌, Bool, true, false, cond, eqb, ◌&&◌, List, [], ◌∷◌, ◌++◌, sum, sum_by, refl, ap, ◌∙◌, sym, subst, arith, inl, inr, Some}
use Rattle.std.proofs.Math.Path.{fun_ext}
use Rattle.std.proofs.lemmas.List.Sums.{sum_by-cons, sum_by_push}
use Rattle.std.specs.List.{filter_map, cons_option}
use Rattle.base_ids.specs.Cells.{same_cell, same_player}
use Rattle.base_ids.specs.declared.cell_id.CellId.{CellId}
use Rattle.base_ids.specs.declared.cell_id.CellId.TheVariants.{Account, Planet}
use Rattle.base_ids.specs.declared.coord.Coord.{Coord}
use Rattle.base_ids.specs.declared.player.Player.{Player}
use Rattle.fleet_rec.specs.Fleet.{numbered as fleet_with}
use Rattle.happenings.specs.declared.queue.Queue.{Queue}
use Rattle.laziness.proofs.Bringing.{never, test}
use Rattle.orders.specs.Acting.{units_after, units_ordered}
use Rattle.request_text.specs.declared.request.Request.{Request}
use Rattle.tick_model.proofs.Asked.{asked-in, shown-account, shown-planet, shown-there}
use Rattle.tick_model.proofs.Lists.{and-is, cell-is, cell-itself, class-is, number-turned, same_number}
use Rattle.tick_model.proofs.Outcomes.{AllSeenAlike}
use Rattle.tick_model.proofs.Owns.{IsAlike, alike-holding, alike-itself}
use Rattle.tick_model.proofs.Queues.{queue-new, queue-other}
use Rattle.tick_model.proofs.Seen.{sum-more}
use Rattle.tick_model.proofs.Writes.{became_at, owns_after, shown-own, with_owns, with_queue, with_sent, write-fleet, write-nothing, write-owns, write-queue, write-sent}
use Rattle.tick_model.proofs.Written.{AllAlike, standing}
use Rattle.tick_model.specs.Changes.{Change, new_fleet, new_owns, new_queue, owns, sends_fleet, write}
use Rattle.tick_model.specs.Flights.{recalled_at, turned}
use Rattle.tick_model.specs.Requests.{Outcome, Sight, asked, granted, own_seen, queue_seen, refused, with_planet}
use Rattle.tick_model.specs.Rules.{KeepsRules, is_once, queue_cell}
use Rattle.tick_model.specs.Step.{sight_of}
use Rattle.tick_model.specs.Universe.{Own, of_planet, Buildings, Researches, Yard, QueueClass, same_class, Fleet, Item, PlanetFields, Setting, State}
use Rattle.tick_model.specs.Views.{View, holding, holding_at, queue_in, ships_of, units_held, units_left, units_of, view}
use Rattle.lazy.proofs.Outcoming.{ComesTo, IsJoining, IsLeaving, called_at, keeps, orders, refuses, sends_out, calls_back}

-- what an account counts: on the cells, and in all
abbrev held_by : List CellId → Player → State → ℕ
held_by cells who state = sum_by (λ cell. units_held who (holding_at state cell)) cells

abbrev counted : List CellId → Player → State → ℕ
counted cells who state = units_of cells (holding_at state) state.fleets (Account who)

-- What each cell is counted as.

-- if each cell counts the same, all do
held-same : (cells : List CellId) (who : Player) (one other : State) → ((x : CellId) → units_held who (holding_at other x) ≡ units_held who (holding_at one x)) → held_by cells who other ≡ held_by cells who one
held-same cells who one other same = ap (λ (count : CellId → ℕ). sum_by count cells) (fun_ext same)

-- a planet of another account counts nothing
other-none : (player other : Player) (own : Own) (planet : PlanetFields) (batches : List Item) → same_player other player ≡ false → own ≡ of_planet planet → planet.owner ≡ player
    → units_held other (holding own batches) ≡ 0
other-none player other own planet batches apart is owner =
    ap (λ o. units_held other (holding o batches)) is
    ∙ ap (λ (k : Player). cond (same_player k other) (sum planet.units + units_left batches) 0) owner
    ∙ ap (λ b. cond b (sum planet.units + units_left batches) 0) (number-turned player.k other.k ∙ apart)

-- and one of this account all that it has
own-all : (player : Player) (own : Own) (planet : PlanetFields) (batches : List Item) → own ≡ of_planet planet → planet.owner ≡ player → units_held player (holding own batches) ≡ sum planet.units + units_left batches
own-all player own planet batches is owner =
    ap (λ o. units_held player (holding o batches)) is
    ∙ ap (λ (k : Player). cond (same_player k player) (sum planet.units + units_left batches) 0) owner
    ∙ ap (λ b. cond b (sum planet.units + units_left batches) 0) (same_number player.k)

-- A sum that has so many more.

none-more : (n m : ℕ) → m ≡ 0 → n ≡ n + m
none-more n m none = omega (arith, none)

left-more : (units : ℕ) (batches : List Item) (item : Item) → units + units_left (batches ++ item ∷ []) ≡ (units + units_left batches) + item.left
left-more units batches item =
    let more = sum_by_push (λ (batch : Item). batch.left) batches item in
    more-behind units (units_left (batches ++ item ∷ [])) (units_left batches) item.left more
  where
    more-behind : (a b c d : ℕ) → b ≡ c + d → a + b ≡ (a + c) + d
    more-behind a b c d more = omega (arith, more)

more-before : (a b d f : ℕ) → a ≡ b + d → a + f ≡ (b + f) + d
more-before a b d f more = omega (arith, more)

-- ships that leave the cells fly
leaves-flying : (before after ships flown more : ℕ) → before ≡ after + ships → more ≡ flown + ships → after + more ≡ before + flown
leaves-flying before after ships flown more left flies = omega (arith, left, flies)

units-split : (before after ships queued : ℕ) → after + ships ≡ before → before + queued ≡ (after + queued) + ships
units-split before after ships queued split = omega (arith, split)

-- An item that joins a queue.

-- an item joins a queue; and if it is a yard, that of a planet of this player
record JoinsOwn (cells : List CellId) (state : State) (player : Player) (item : Item) : Type 0 where
  pub planet : PlanetFields
  pub stands : item.class ≡ Yard → state.own item.cell ≡ of_planet planet
  pub owner : planet.owner ≡ player
  pub once : item.class ≡ Yard → is_once item.cell cells ≡ true
  pub none : same_class item.class Yard ≡ false → item.left ≡ 0

and-false : (a b : Bool) → b ≡ false → (a && b) ≡ false
and-false true b is = is
and-false false b is = refl

first-false : (a b : Bool) → a ≡ false → (a && b) ≡ false
first-false true b is = never true refl is
first-false false b is = refl

module _ (cells : List CellId) (state : State) (player : Player) (own : CellId → Own) (item : Item) (alike : AllAlike state own) (joins : JoinsOwn cells state player item) where
  abbrev joined : State
  joined = with_queue own item.cell item.class (queue_in state.items item.cell item.class ++ item ∷ []) state

  joined-stays : (x : CellId) → (same_cell item.cell x && same_class item.class Yard) ≡ false → holding_at joined x ≡ holding_at state x
  joined-stays x apart =
      ap (holding (own x)) (queue-other own item.cell x item.class Yard (queue_in state.items item.cell item.class ++ item ∷ []) state apart (standing state item))
      ∙ alike-holding (state.own x) (own x) (queue_in state.items x Yard) (alike x)

  joined-yard : item.class ≡ Yard → holding_at joined item.cell ≡ holding (state.own item.cell) (queue_in state.items item.cell Yard ++ item ∷ [])
  joined-yard class =
      let queue : queue_in joined.items item.cell Yard ≡ queue_in state.items item.cell Yard ++ item ∷ [] =
      subst (λ c. queue_in joined.items item.cell c ≡ queue_in state.items item.cell c ++ item ∷ []) class
      (queue-new own item.cell item.class (queue_in state.items item.cell item.class ++ item ∷ []) state (standing state item)) in
      ap (holding (own item.cell)) queue ∙ alike-holding (state.own item.cell) (own item.cell) (queue_in state.items item.cell Yard ++ item ∷ []) (alike item.cell)

  held-joined : held_by cells player joined ≡ held_by cells player state + item.left
  held-joined =
      elim (test (same_class item.class Yard)) [
        | inr other ↦
            held-same cells player state joined (λ x. ap (units_held player) (joined-stays x (and-false (same_cell item.cell x) (same_class item.class Yard) other)))
            ∙ none-more (held_by cells player state) item.left (joins.none other)
        | inl yard ↦
            (let class = class-is item.class Yard yard in
            let batches = queue_in state.items item.cell Yard in
            let more : units_held player (holding_at joined item.cell) ≡ units_held player (holding_at state item.cell) + item.left =
            ap (units_held player) (joined-yard class)
            ∙ own-all player (state.own item.cell) joins.planet (batches ++ item ∷ []) (joins.stands class) joins.owner
            ∙ left-more (sum joins.planet.units) batches item
            ∙ ap (λ n. n + item.left) (sym (own-all player (state.own item.cell) joins.planet batches (joins.stands class) joins.owner)) in
            sum-more item.cell (λ x. units_held player (holding_at state x)) (λ x. units_held player (holding_at joined x)) item.left cells (joins.once class)
            (λ x apart. ap (units_held player) (joined-stays x (first-false (same_cell item.cell x) (same_class item.class Yard) apart))) more)
      ]

  counts-joined : counted cells player joined ≡ counted cells player state + item.left
  counts-joined = more-before (held_by cells player joined) (held_by cells player state) item.left (sum_by (ships_of player) state.fleets) held-joined

  -- another account counts the same
  others-joined : (other : Player) → same_player other player ≡ false → counted cells other joined ≡ counted cells other state
  others-joined other apart =
      ap (λ n. n + sum_by (ships_of other) state.fleets) (held-same cells other state joined (λ x.
      elim (test (same_cell item.cell x && same_class item.class Yard)) [
        | inr away ↦ ap (units_held other) (joined-stays x away)
        | inl here ↦
            (let both = and-is (same_cell item.cell x) (same_class item.class Yard) here in
            let class = class-is item.class Yard both.1 in
            let none : units_held other (holding_at joined item.cell) ≡ units_held other (holding_at state item.cell) =
            ap (units_held other) (joined-yard class)
            ∙ other-none player other (state.own item.cell) joins.planet (queue_in state.items item.cell Yard ++ item ∷ []) apart (joins.stands class) joins.owner
            ∙ sym (other-none player other (state.own item.cell) joins.planet (queue_in state.items item.cell Yard) apart (joins.stands class) joins.owner) in
            subst (λ y. units_held other (holding_at joined y) ≡ units_held other (holding_at state y)) (cell-is item.cell x both.0) none)
      ]))

-- A fleet that is called back keeps its ships.

called-first : (b : Bool) (who : Player) (moment : ℕ) (fleet : Fleet) (rest fleets : List Fleet) → sum_by (ships_of who) rest ≡ sum_by (ships_of who) fleets
    → sum_by (ships_of who) (cons_option (cond b (called_at moment fleet) (Some fleet)) rest) ≡ sum_by (ships_of who) (fleet ∷ fleets)
called-first true who moment fleet rest fleets same =
    sum_by-cons (ships_of who) (turned fleet (recalled_at fleet moment) fleet.cargo) rest ∙ ap (λ n. ships_of who fleet + n) same ∙ sym (sum_by-cons (ships_of who) fleet fleets)
called-first false who moment fleet rest fleets same =
    sum_by-cons (ships_of who) fleet rest ∙ ap (λ n. ships_of who fleet + n) same ∙ sym (sum_by-cons (ships_of who) fleet fleets)

flown-called : (who : Player) (number moment : ℕ) (fleets : List Fleet) → sum_by (ships_of who) (filter_map (became_at number (called_at moment)) fleets) ≡ sum_by (ships_of who) fleets
flown-called who number moment [] = refl
flown-called who number moment (fleet ∷ fleets) =
    called-first (eqb fleet.number number) who moment fleet (filter_map (became_at number (called_at moment)) fleets) fleets (flown-called who number moment fleets)

-- A fleet that leaves a planet of this player, with ships that stood there.
record LeavesOwn (cells : List CellId) (state : State) (player : Player) (own : CellId → Own) (fleet : Fleet) : Type 0 where
  pub from : PlanetFields
  pub stands : state.own (Planet fleet.origin) ≡ of_planet from
  pub is_own : from.owner ≡ player
  pub left : PlanetFields
  pub becomes : own (Planet fleet.origin) ≡ of_planet left
  pub left_owner : left.owner ≡ player
  pub units : sum left.units + sum fleet.ships ≡ sum from.units
  pub elsewhere : (x : CellId) → same_cell (Planet fleet.origin) x ≡ false → own x ≡ state.own x
  pub once : is_once (Planet fleet.origin) cells ≡ true
  pub owner : fleet.owner ≡ player

module _ (cells : List CellId) (state : State) (player : Player) (own : CellId → Own) (fleet : Fleet) (leaves : LeavesOwn cells state player own fleet) where
  abbrev sent : State
  sent = with_sent own fleet state

  sent-stays : (x : CellId) → same_cell (Planet fleet.origin) x ≡ false → holding_at sent x ≡ holding_at state x
  sent-stays x apart = ap (λ o. holding o (queue_in state.items x Yard)) (leaves.elsewhere x apart)

  -- its owner's account counts its ships in it
  counts-sent : counted cells player sent ≡ counted cells player state
  counts-sent =
      let batches = queue_in state.items (Planet fleet.origin) Yard in
      let less : units_held player (holding_at state (Planet fleet.origin)) ≡ units_held player (holding_at sent (Planet fleet.origin)) + sum fleet.ships =
      own-all player (state.own (Planet fleet.origin)) leaves.from batches leaves.stands leaves.is_own
      ∙ units-split (sum leaves.from.units) (sum leaves.left.units) (sum fleet.ships) (units_left batches) leaves.units
      ∙ ap (λ n. n + sum fleet.ships) (sym (own-all player (own (Planet fleet.origin)) leaves.left batches leaves.becomes leaves.left_owner)) in
      let held = sum-more (Planet fleet.origin) (λ x. units_held player (holding_at sent x)) (λ x. units_held player (holding_at state x)) (sum fleet.ships) cells leaves.once
      (λ x apart. sym (ap (units_held player) (sent-stays x apart))) less in
      let ships : ships_of player fleet ≡ sum fleet.ships =
      ap (λ (k : Player). cond (same_player k player) (sum fleet.ships) 0) leaves.owner ∙ ap (λ b. cond b (sum fleet.ships) 0) (same_number player.k) in
      let flown : sum_by (ships_of player) (state.fleets ++ fleet ∷ []) ≡ sum_by (ships_of player) state.fleets + sum fleet.ships =
      sum_by_push (ships_of player) state.fleets fleet ∙ ap (λ n. sum_by (ships_of player) state.fleets + n) ships in
      leaves-flying (held_by cells player state) (held_by cells player sent) (sum fleet.ships) (sum_by (ships_of player) state.fleets) (sum_by (ships_of player) (state.fleets ++ fleet ∷ [])) held flown

  -- and another one neither the planet nor the fleet
  others-sent : (other : Player) → same_player other player ≡ false → counted cells other sent ≡ counted cells other state
  others-sent other apart =
      let batches = queue_in state.items (Planet fleet.origin) Yard in
      let held = held-same cells other state sent (λ x.
      elim (test (same_cell (Planet fleet.origin) x)) [
        | inr away ↦ ap (units_held other) (sent-stays x away)
        | inl here ↦
            (let none : units_held other (holding_at sent (Planet fleet.origin)) ≡ units_held other (holding_at state (Planet fleet.origin)) =
            other-none player other (own (Planet fleet.origin)) leaves.left batches apart leaves.becomes leaves.left_owner
            ∙ sym (other-none player other (state.own (Planet fleet.origin)) leaves.from batches apart leaves.stands leaves.is_own) in
            subst (λ y. units_held other (holding_at sent y) ≡ units_held other (holding_at state y)) (cell-is (Planet fleet.origin) x here) none)
      ]) in
      let ships : ships_of other fleet ≡ 0 =
      ap (λ (k : Player). cond (same_player k other) (sum fleet.ships) 0) leaves.owner ∙ ap (λ b. cond b (sum fleet.ships) 0) (number-turned player.k other.k ∙ apart) in
      let flown : sum_by (ships_of other) (state.fleets ++ fleet ∷ []) ≡ sum_by (ships_of other) state.fleets =
      sum_by_push (ships_of other) state.fleets fleet ∙ sym (none-more (sum_by (ships_of other) state.fleets) (ships_of other fleet) ships) in
      λ i. held i + flown i

-- The units of accounts after a request.

module _ (setting : Setting) (player : Player) (req : Request) (moment : ℕ) (state : State) (came : ℕ → Outcome) where
  abbrev some : CellId → Bool
  some = asked setting.cells (view setting.cells state) player req

  abbrev sight : Sight
  sight = sight_of setting player req moment state

  -- what stays alike of what is seen stays alike
  alike-after : (own : CellId → Own) → AllSeenAlike sight own → AllAlike state (owns_after some own state)
  alike-after own alike x =
      elim (test (some x)) [
        | inl has ↦
            subst (λ new. IsAlike (state.own x) new) (sym (ap (λ b. cond b (own x) (state.own x)) has))
            (subst (λ old. IsAlike old (own x)) (shown-own setting.cells some state x has) (alike x))
        | inr out ↦ subst (λ new. IsAlike (state.own x) new) (sym (ap (λ b. cond b (own x) (state.own x)) out)) (alike-itself (state.own x))
      ]

  -- so each account counts the same of the cells
  held-owns : (who : Player) (own : CellId → Own) → AllSeenAlike sight own → held_by setting.cells who (with_owns (owns_after some own state) state) ≡ held_by setting.cells who state
  held-owns who own alike =
      held-same setting.cells who state (with_owns (owns_after some own state) state)
      (λ x. ap (units_held who) (alike-holding (state.own x) (owns_after some own state x) (queue_in state.items x Yard) (alike-after own alike x)))

  counts-refused : (who : Player) (number code : ℕ) → came number ≡ refused sight code → counted setting.cells who (write some (came number).change state) ≡ counted setting.cells who state
  counts-refused who number code is =
      ap (λ (x : Outcome). counted setting.cells who (write some x.change state)) is ∙ ap (counted setting.cells who) (write-nothing setting.cells some state)

  counts-kept : (who : Player) (number : ℕ) (body : List ℕ) (own : CellId → Own) → AllSeenAlike sight own → came number ≡ granted body (new_owns own)
      → counted setting.cells who (write some (came number).change state) ≡ counted setting.cells who state
  counts-kept who number body own alike is =
      ap (λ (x : Outcome). counted setting.cells who (write some x.change state)) is
      ∙ ap (counted setting.cells who) (write-owns some own state)
      ∙ ap (λ n. n + sum_by (ships_of who) state.fleets) (held-owns who own alike)

  counts-called : (who : Player) (number fleet : ℕ) (body : List ℕ) → came number ≡ granted body (new_fleet (owns sight.seen) fleet (called_at moment))
      → counted setting.cells who (write some (came number).change state) ≡ counted setting.cells who state
  counts-called who number fleet body is =
      ap (λ (x : Outcome). counted setting.cells who (write some x.change state)) is
      ∙ ap (counted setting.cells who) (write-fleet some (owns sight.seen) fleet (called_at moment) state)
      ∙ (λ i. held-owns who (owns sight.seen) (λ x. alike-itself (owns sight.seen x)) i + flown-called who fleet moment state.fleets i)

  -- a queue that is shown is the one that is there
  queue-there : (cell : CellId) (class : QueueClass) → some cell ≡ true → queue_seen sight cell class ≡ queue_in state.items cell class
  queue-there cell class has = ap (λ (seen : View). seen.queue class) (shown-there some (view setting.cells state) cell has)

  home-asked : (class : QueueClass) (at : Coord) → some (Account player) ≡ true → some (Planet at) ≡ true → some (queue_cell class at player) ≡ true
  home-asked Buildings at caller payer = payer
  home-asked Researches at caller payer = caller
  home-asked Yard at caller payer = payer

  once-asked : KeepsRules setting state → (cell : CellId) → some cell ≡ true → is_once cell setting.cells ≡ true
  once-asked fine cell has = fine.once cell (asked-in setting.cells (view setting.cells state) player req cell has)

  -- an item that is ordered joins the queue that is there
  abbrev with_order : (CellId → Own) → Item → State
  with_order own item = with_queue (owns_after some own state) item.cell item.class (queue_in state.items item.cell item.class ++ item ∷ []) state

  order-home : (queue : Queue) (item : Item) → IsJoining sight player req queue item → some item.cell ≡ true
  order-home queue item joining =
      let caller = shown-account some (view setting.cells state) (Account player) joining.account joining.own.caller in
      let payer = shown-planet some (view setting.cells state) (Planet item.place) joining.planet joining.own.there in
      subst (λ cell. some cell ≡ true) (sym joining.home) (home-asked item.class item.place caller payer.0)

  order-joins : (number : ℕ) (queue : Queue) (item : Item) → KeepsRules setting state → IsJoining sight player req queue item → JoinsOwn setting.cells state player (record item { number = number })
  order-joins number queue item fine joining =
      let payer = shown-planet some (view setting.cells state) (Planet item.place) joining.planet joining.own.there in
      let yard : item.class ≡ Yard → item.cell ≡ Planet item.place = λ class. joining.home ∙ ap (λ c. queue_cell c item.place player) class in
      record {
        planet = joining.planet;
        stands = λ class. ap state.own (yard class) ∙ payer.1;
        owner = joining.own.owner;
        once = λ class. once-asked fine item.cell (order-home queue item joining);
        none = joining.none;
      }

  order-written : (who : Player) (number : ℕ) (body : List ℕ) (own : CellId → Own) (queue : Queue) (item : Item) → IsJoining sight player req queue item
      → came number ≡ granted body (new_queue own item.cell item.class (queue_seen sight item.cell item.class ++ record item { number = number } ∷ []))
      → counted setting.cells who (write some (came number).change state) ≡ counted setting.cells who (with_order own (record item { number = number }))
  order-written who number body own queue item joining is =
      let new = record item { number = number } in
      ap (λ (x : Outcome). counted setting.cells who (write some x.change state)) is
      ∙ ap (λ before. counted setting.cells who (write some (new_queue own item.cell item.class (before ++ new ∷ [])) state))
      (queue-there item.cell item.class (order-home queue item joining))
      ∙ ap (counted setting.cells who) (write-queue some own item.cell item.class (queue_in state.items item.cell item.class ++ new ∷ []) state)

  -- where a fleet doesn't leave, cells have what they had of their own
  left-elsewhere : (at : Coord) (left : PlanetFields) (x : CellId) → same_cell (Planet at) x ≡ false → owns_after some (with_planet sight at left) state x ≡ state.own x
  left-elsewhere at left x apart =
      elim (test (some x)) [
        | inl has ↦
            ap (λ b. cond b (with_planet sight at left x) (state.own x)) has
            ∙ ap (λ b. cond b (of_planet left) (own_seen sight x)) apart
            ∙ shown-own setting.cells some state x has
        | inr out ↦ ap (λ b. cond b (with_planet sight at left x) (state.own x)) out
      ]

  fleet-leaves : (number : ℕ) (own : CellId → Own) (fleet : Fleet) → KeepsRules setting state → IsLeaving sight player req own fleet
      → LeavesOwn setting.cells state player (owns_after some own state) (fleet_with number fleet)
  fleet-leaves number own fleet fine leaving =
      let place = Planet fleet.origin in
      let there = shown-planet some (view setting.cells state) place leaving.from leaving.leaves in
      record {
        from = leaving.from;
        stands = there.1;
        is_own = leaving.is_own;
        left = leaving.left;
        becomes = ap (λ b. cond b (own place) (state.own place)) there.0 ∙ ap (λ (o : CellId → Own). o place) leaving.own_is
            ∙ ap (λ b. cond b (of_planet leaving.left) (own_seen sight place)) (cell-itself place);
        left_owner = leaving.left_owner ∙ leaving.is_own;
        units = leaving.left_units;
        elsewhere = λ x apart. ap (λ (o : CellId → Own). owns_after some o state x) leaving.own_is ∙ left-elsewhere fleet.origin leaving.left x apart;
        once = once-asked fine place there.0;
        owner = leaving.owner;
      }

  sent-written : (who : Player) (number : ℕ) (body : List ℕ) (own : CellId → Own) (fleet : Fleet) → came number ≡ granted body (sends_fleet own (fleet_with number fleet))
      → counted setting.cells who (write some (came number).change state)
      ≡ counted setting.cells who (with_sent (owns_after some own state) (fleet_with number fleet) state)
  sent-written who number body own fleet is =
      ap (λ (x : Outcome). counted setting.cells who (write some x.change state)) is
      ∙ ap (counted setting.cells who) (write-sent some own (fleet_with number fleet) state)

  units-same : (code units few : ℕ) → (code ≡ 0 → ⊥) → units ≡ units + cond (eqb code 0) few 0
  units-same code units few reason =
      none-more units (cond (eqb code 0) few 0) (elim (test (eqb code 0)) [
        | inl zero ↦ absurd (reason (grind arith))
        | inr other ↦ ap (λ b. cond b few 0) other
      ])

  -- what is granted has as many units as are ordered
  granted-units : (number units : ℕ) (body : List ℕ) (change : Change) → came number ≡ granted body change → units + units_ordered req ≡ units_after units req (came number)
  granted-units number units body change is = ap (units_after units req) (sym is)

  -- the units of the caller after a request
  pub units-made : (number : ℕ) → KeepsRules setting state → ComesTo sight player req came
      → units_of setting.cells (holding_at (write some (came number).change state)) (write some (came number).change state).fleets (Account player)
      ≡ units_after (units_of setting.cells (holding_at state) state.fleets (Account player)) req (came number)
  units-made number fine (refuses code reason is) =
      let units = counted setting.cells player state in
      counts-refused player number code (is number) ∙ units-same code units (units_ordered req) reason ∙ ap (units_after units req) (sym (is number))
  units-made number fine (keeps body own given none alike leaves is) =
      let units = counted setting.cells player state in
      counts-kept player number body own alike (is number) ∙ none-more units (units_ordered req) none.units ∙ granted-units number units body (new_owns own) (is number)
  units-made number fine (orders body own queue item given place joining alike leaves is) =
      let units = counted setting.cells player state in
      let new = record item { number = number } in
      order-written player number body own queue item joining (is number)
      ∙ counts-joined setting.cells state player (owns_after some own state) new (alike-after own alike) (order-joins number queue item fine joining)
      ∙ ap (λ n. units + n) joining.units
      ∙ granted-units number units body (new_queue own item.cell item.class (queue_seen sight item.cell item.class ++ new ∷ [])) (is number)
  units-made number fine (sends_out body own fleet given leaving is) =
      let units = counted setting.cells player state in
      let new = fleet_with number fleet in
      sent-written player number body own fleet (is number)
      ∙ counts-sent setting.cells state player (owns_after some own state) new (fleet-leaves number own fleet fine leaving)
      ∙ none-more units (units_ordered req) leaving.units
      ∙ granted-units number units body (sends_fleet own new) (is number)
  units-made number fine (calls_back body fleet_number fleet account caller none recall found out is) =
      let units = counted setting.cells player state in
      counts-called player number fleet_number.f body (is number)
      ∙ none-more units (units_ordered req) none.units
      ∙ granted-units number units body (new_fleet (owns sight.seen) fleet_number.f (called_at moment)) (is number)

  -- the units of any other account
  pub units-other : (number : ℕ) (other : Player) → same_player other player ≡ false → KeepsRules setting state → ComesTo sight player req came
      → units_of setting.cells (holding_at (write some (came number).change state)) (write some (came number).change state).fleets (Account other)
      ≡ units_of setting.cells (holding_at state) state.fleets (Account other)
  units-other number other apart fine (refuses code reason is) = counts-refused other number code (is number)
  units-other number other apart fine (keeps body own given none alike leaves is) = counts-kept other number body own alike (is number)
  units-other number other apart fine (orders body own queue item given place joining alike leaves is) =
      order-written other number body own queue item joining (is number)
      ∙ others-joined setting.cells state player (owns_after some own state) (record item { number = number }) (alike-after own alike) (order-joins number queue item fine joining) other apart
  units-other number other apart fine (sends_out body own fleet given leaving is) =
      sent-written other number body own fleet (is number)
      ∙ others-sent setting.cells state player (owns_after some own state) (fleet_with number fleet) (fleet-leaves number own fleet fine leaving) other apart
  units-other number other apart fine (calls_back body fleet_number fleet account caller none recall found out is) = counts-called other number fleet_number.f body (is number)
