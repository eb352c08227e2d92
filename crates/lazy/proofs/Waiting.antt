-- The events that cells which are held still bring, of which each event takes one away.
use Rattle.std.proofs.Common.{◌≡◌, ℕ, ◌+◌, ◌-◌, ◌<◌, ◌≤◌, Bool, true, false, cond, List, [], ◌∷◌, ◌||◌, ◌&&◌, filter, sum_by, refl, ap, ◌∙◌, sym, subst, arith, inl, inr, Option, Some, None}
use Rattle.std.proofs.lemmas.List.Sums.{sum_by-cons}
use Rattle.std.specs.List.{filter_map, list_any}
use Rattle.std.specs.Prelude.{is_some, option_map}
use Rattle.base_ids.specs.Cells.{same_cell}
use Rattle.base_ids.specs.declared.cell_id.CellId.{CellId}
use Rattle.base_ids.specs.declared.cell_id.CellId.TheVariants.{Planet}
use Rattle.closure.specs.Lists.{has}
use Rattle.laziness.proofs.Bringing.{never, test}
use Rattle.laziness.specs.Stamps.{Stamps, bring_to, event_acts}
use Rattle.happenings.specs.Applying.{Happens, stand_after}
use Rattle.happenings.specs.Coming.{CanHappen}
use Rattle.happenings.specs.Held.{Shows, Stand, held_at, holds}
use Rattle.happenings.specs.Naming.{held_named}
use Rattle.happenings.specs.Queues.{seen_held, seen_of}
use Rattle.happenings.specs.Sights.{names_held}
use Rattle.happenings.specs.declared.happening.Happening.{Happening}
use Rattle.happenings.specs.declared.held.Held.{Held}
use Rattle.happenings.proofs.Acting.{held-seen}
use Rattle.reply_text.specs.declared.units.Units.{Units}
use Rattle.tick_model.specs.Battles.{comes_back}
use Rattle.tick_model.specs.Changes.{same_flight}
use Rattle.tick_model.specs.Events.{Event, IsRaid, Owes, effect, fights, footprint, home, item_due, lands, second_of}
use Rattle.tick_model.specs.Flights.{back_at, landing, turned, turns}
use Rattle.tick_model.specs.Game.{events_left, game, landings_left}
use Rattle.tick_model.specs.Raids.{Raid, is_attack}
use Rattle.tick_model.specs.Rules.{IsIn, KeepsRules}
use Rattle.tick_model.specs.Universe.{Buildings, Researches, Yard, Fleet, Item, Own, QueueClass, Setting, State, of_account, of_nothing, of_planet, same_class}
use Rattle.tick_model.specs.Views.{View, belongs, nothing_seen, queue_in, view}
use Rattle.tick_model.specs.declared.rules.Rules.{Rules}
use Rattle.tick_model.proofs.Battles.{back-belongs, comes-back}
use Rattle.tick_model.proofs.Battling.{after_battle, battle-is, came_fought, sums-fall, sums-less}
use Rattle.tick_model.proofs.Effects.{StandsBy, effect-is, event-ends, other-queue, queue-after, seen_of as seen_by}
use Rattle.tick_model.proofs.Gains.{advance-keeps, gains-owe, view-advanced}
use Rattle.tick_model.proofs.Landings.{back-out, came_landed, flies-in, landing-belongs, landing-is, sum-changed, turned-belongs, weight}
use Rattle.tick_model.proofs.Lists.{and-is, cell-is, class-is, fails, in-any, same_number}
use Rattle.tick_model.proofs.Raids.{IsRaidIn, raid-in, target-belongs}
use Rattle.tick_model.proofs.Writes.{became_at, became_in}
use Rattle.lazy.specs.Planning.{HoldsSame}
use Rattle.lazy.specs.Running.{YardsRun, first_turn, is_running, ran, run_before, run_until}
use Rattle.lazy.proofs.Units.{ticks-no-more}

-- how often the fleets of a cell can still land, and the events that its queues still bring
abbrev pub waiting : View → ℕ
waiting seen = landings_left seen.fleets + (events_left (seen.queue Buildings) + (events_left (seen.queue Researches) + events_left (seen.queue Yard)))

-- those of some cells
abbrev pub waiting_in : Held → List CellId → ℕ
waiting_in held [] = 0
waiting_in held (cell ∷ cells) = waiting (seen_held held cell) + waiting_in held cells

-- no cell brings more events, and one brings fewer
record AreFewer (old new : Held) (name : CellId) : Type 0 where
  other : (cell : CellId) → waiting (seen_held new cell) ≤ waiting (seen_held old cell)
  one : waiting (seen_held new name) < waiting (seen_held old name)

module _ (old new : Held) (name : CellId) (fewer : AreFewer old new name) where
  no-more : (cells : List CellId) → waiting_in new cells ≤ waiting_in old cells
  no-more [] = omega arith
  no-more (cell ∷ cells) =
      let here = fewer.other cell in
      let rest = no-more cells in
      omega (arith, here, rest)

  falls : (cells : List CellId) → has cells name ≡ true → waiting_in new cells < waiting_in old cells
  falls [] there = never false there refl
  falls (cell ∷ cells) there =
      let here = fewer.other cell in
      let more = no-more cells in
      elim (test (same_cell name cell)) [
        | inl same ↦
            (let one : waiting (seen_held new cell) < waiting (seen_held old cell) = subst (λ c. waiting (seen_held new c) < waiting (seen_held old c)) (cell-is name cell same) fewer.one in
            omega (arith, one, more))
        | inr other ↦
            (let among : has cells name ≡ true = ap (λ b. b || has cells name) (sym other) ∙ there in
            let less = falls cells among in
            omega (arith, here, less))
      ]

-- Yards that run bring no more events.

ran-no-more : (rules : Rules) (from until : ℕ) (own : Own) (batches : List Item) → events_left (ran rules from until own batches).queue ≤ events_left batches
ran-no-more rules from until (of_planet planet) batches = ticks-no-more rules.speed from (until - from) (record { planet = planet; queue = batches })
ran-no-more rules from until of_nothing batches = omega arith
ran-no-more rules from until (of_account account) batches = omega arith

run-no-more : (rules : Rules) (limit : ℕ) (o : Option Stand) → waiting (seen_of (option_map (run_before rules limit) o)) ≤ waiting (seen_of o)
run-no-more rules limit None = omega arith
run-no-more rules limit (Some stand) =
    let batches = stand.seen.queue Yard in
    let less = ran-no-more rules stand.second (limit - 1) stand.seen.own batches in
    elim (is_running limit stand.second batches) as (λ b. waiting (cond b (run_until rules (limit - 1) stand) stand).seen ≤ waiting stand.seen) [
      | true ↦ omega (arith, less)
      | false ↦ omega arith
    ]

pub runs_no_more : (rules : Rules) (moment : ℕ) (old new : Held) → YardsRun rules moment old new → (cells : List CellId) → waiting_in new cells ≤ waiting_in old cells
runs_no_more rules moment old new runs [] = omega arith
runs_no_more rules moment old new runs (cell ∷ cells) =
    let limit = first_turn old (moment + 1) (names_held old) in
    let here : waiting (seen_held new cell) ≤ waiting (seen_held old cell) =
    subst (λ (o : Option Stand). waiting (seen_of o) ≤ waiting (seen_held old cell)) (sym (runs cell)) (run-no-more rules limit (held_at old cell)) in
    let rest = runs_no_more rules moment old new runs cells in
    omega (arith, here, rest)

-- What an event leaves of what a cell brings.
abbrev waiting_at : Setting → State → CellId → ℕ
waiting_at setting u cell = waiting (view setting.cells u cell)

-- The event of an item leaves its queue with fewer, and the others and the fleets as they are.
module _ (setting : Setting) (u : State) (class : QueueClass) (item : Item) (later : List Item) (fine : KeepsRules setting u) (stands : StandsBy u class item later) where
  abbrev then : State
  then = effect setting (item_due class item later) u

  queue-falls : events_left (queue_in then.items item.cell class) < events_left (queue_in u.items item.cell class)
  queue-falls =
      let less = (event-ends setting u class item later fine stands).falls in
      let new = ap (λ (s : State). events_left (queue_in s.items item.cell class)) (effect-is setting class item later u) ∙ ap events_left (queue-after setting u class item later fine stands) in
      let old = ap events_left stands in
      omega (arith, less, new, old)

  queue-less : (cell : CellId) (kind : QueueClass) → events_left (queue_in then.items cell kind) ≤ events_left (queue_in u.items cell kind)
  queue-less cell kind =
      elim (test (same_cell item.cell cell && same_class class kind)) [
        | inl same ↦
            (let both = and-is (same_cell item.cell cell) (same_class class kind) same in
            let less : events_left (queue_in then.items cell kind) < events_left (queue_in u.items cell kind) =
            subst (λ k. events_left (queue_in then.items cell k) < events_left (queue_in u.items cell k)) (class-is class kind both.1)
            (subst (λ c. events_left (queue_in then.items c class) < events_left (queue_in u.items c class)) (cell-is item.cell cell both.0) queue-falls) in
            omega (arith, less))
        | inr apart ↦
            (let stays = ap (λ (s : State). events_left (queue_in s.items cell kind)) (effect-is setting class item later u) ∙ ap events_left (other-queue setting u class item later cell kind fine stands apart) in
            omega (arith, stays))
      ]

  fleets-stay : then.fleets ≡ u.fleets
  fleets-stay = ap (λ (s : State). s.fleets) (effect-is setting class item later u)

  item-less : (cell : CellId) → waiting_at setting then cell ≤ waiting_at setting u cell
  item-less cell =
      let fleets = ap (λ (fs : List Fleet). landings_left (filter (belongs cell) fs)) fleets-stay in
      let buildings = queue-less cell Buildings in
      let researches = queue-less cell Researches in
      let yard = queue-less cell Yard in
      omega (arith, fleets, buildings, researches, yard)

  item-falls : (kind : QueueClass) → class ≡ kind → waiting_at setting then item.cell < waiting_at setting u item.cell
  item-falls kind is =
      let cell = item.cell in
      let fleets = ap (λ (fs : List Fleet). landings_left (filter (belongs cell) fs)) fleets-stay in
      let one : events_left (queue_in then.items cell kind) < events_left (queue_in u.items cell kind) =
      subst (λ c. events_left (queue_in then.items cell c) < events_left (queue_in u.items cell c)) is queue-falls in
      let buildings = queue-less cell Buildings in
      let researches = queue-less cell Researches in
      let yard = queue-less cell Yard in
      sum-falls kind (landings_left (filter (belongs cell) then.fleets)) (landings_left (filter (belongs cell) u.fleets)) (λ k. events_left (queue_in then.items cell k))
      (λ k. events_left (queue_in u.items cell k)) fleets (queue-less cell) one
    where
      sum-falls : (kind : QueueClass) (flown flies : ℕ) (new old : QueueClass → ℕ) → flown ≡ flies → ((k : QueueClass) → new k ≤ old k) → new kind < old kind
          → flown + (new Buildings + (new Researches + new Yard)) < flies + (old Buildings + (old Researches + old Yard))
      sum-falls Buildings flown flies new old same less one = let two = less Researches in let three = less Yard in omega (arith, same, one, two, three)
      sum-falls Researches flown flies new old same less one = let two = less Buildings in let three = less Yard in omega (arith, same, one, two, three)
      sum-falls Yard flown flies new old same less one = let two = less Buildings in let three = less Researches in omega (arith, same, one, two, three)

-- How often a fleet can still land, counted by a cell to which it belongs.
abbrev landings_of : Fleet → ℕ
landings_of fleet = cond fleet.outbound 2 1

abbrev counted_by : CellId → Fleet → ℕ
counted_by cell fleet = cond (belongs cell fleet) (landings_of fleet) 0

sum-filtered : (p : Fleet → Bool) (w : Fleet → ℕ) (fleets : List Fleet) → sum_by w (filter p fleets) ≡ sum_by (λ fleet. cond (p fleet) (w fleet) 0) fleets
sum-filtered p w [] = refl
sum-filtered p w (fleet ∷ fleets) =
    let part = λ (f : Fleet). cond (p f) (w f) 0 in
    first-filtered (p fleet) (sum-filtered p w fleets) ∙ sym (sum_by-cons part fleet fleets)
  where
    first-filtered : (b : Bool) → sum_by w (filter p fleets) ≡ sum_by (λ f. cond (p f) (w f) 0) fleets
        → sum_by w (cond b (fleet ∷ filter p fleets) (filter p fleets)) ≡ cond b (w fleet) 0 + sum_by (λ f. cond (p f) (w f) 0) fleets
    first-filtered true rest = sum_by-cons w fleet (filter p fleets) ∙ ap (λ n. w fleet + n) rest
    first-filtered false rest = omega (arith, rest)

at-most-one : (b : Bool) → cond b 1 0 < 2
at-most-one true = omega arith
at-most-one false = omega arith

lands-again : (b : Bool) → 1 ≤ cond b 2 1
lands-again true = omega arith
lands-again false = omega arith

-- once it has landed, it can do so less often
counted-falls : (cell : CellId) (fleet : Fleet) (back : Option Units) → ((cargo : Units) → back ≡ Some cargo → fleet.outbound ≡ true) → belongs cell fleet ≡ true
    → weight (counted_by cell) (turns back fleet) < counted_by cell fleet
counted-falls cell fleet None out has =
    let is : counted_by cell fleet ≡ landings_of fleet = ap (λ b. cond b (landings_of fleet) 0) has in
    let some = lands-again fleet.outbound in
    omega (arith, is, some)
counted-falls cell fleet (Some cargo) out has =
    let is : counted_by cell fleet ≡ 2 = ap (λ b. cond b (landings_of fleet) 0) has ∙ ap (λ b. cond b 2 1) (out cargo refl) in
    let one = at-most-one (belongs cell (turned fleet (back_at fleet) cargo)) in
    omega (arith, is, one)

counted-none : (cell : CellId) (fleet : Fleet) (back : Option Units) → belongs cell fleet ≡ false → weight (counted_by cell) (turns back fleet) ≡ 0
counted-none cell fleet None apart = refl
counted-none cell fleet (Some cargo) apart =
    ap (λ b. cond b 1 0) (fails (belongs cell (turned fleet (back_at fleet) cargo)) (λ is. never (belongs cell fleet) (turned-belongs cell fleet (back_at fleet) cargo is) apart))

-- A landing leaves the cells of its fleet with fewer.
module _ (setting : Setting) (u : State) (fleet : Fleet) (fine : KeepsRules setting u) (flies : IsIn fleet u.fleets) where
  abbrev landed_then : State
  landed_then = effect setting (lands fleet) u

  abbrev back : Option Units
  back = (came_landed fleet (seen_by setting (lands fleet) u)).back

  abbrev left_at : State → CellId → ℕ
  left_at s cell = landings_left (filter (belongs cell) s.fleets)

  landings-changed : (cell : CellId) → left_at landed_then cell + counted_by cell fleet ≡ left_at u cell + weight (counted_by cell) (turns back fleet)
  landings-changed cell =
      ap (λ s. left_at s cell + counted_by cell fleet) (landing-is setting fleet u)
      ∙ ap (λ n. n + counted_by cell fleet) (sum-filtered (belongs cell) landings_of (filter_map (became_at fleet.number (turns back)) u.fleets))
      ∙ sum-changed (counted_by cell) fleet (turns back) u.fleets fine.apart flies
      ∙ ap (λ n. n + weight (counted_by cell) (turns back fleet)) (sym (sum-filtered (belongs cell) landings_of u.fleets))

  queues-stay : (cell : CellId) (class : QueueClass) → events_left (queue_in landed_then.items cell class) ≡ events_left (queue_in u.items cell class)
  queues-stay cell class = ap (λ (s : State). events_left (queue_in s.items cell class)) (landing-is setting fleet u)

  landing-falls : (cell : CellId) → belongs cell fleet ≡ true → waiting_at setting landed_then cell < waiting_at setting u cell
  landing-falls cell has =
      let changed = landings-changed cell in
      let less = counted-falls cell fleet back (back-out fleet _) has in
      let buildings = queues-stay cell Buildings in
      let researches = queues-stay cell Researches in
      let yard = queues-stay cell Yard in
      omega (arith, changed, less, buildings, researches, yard)

  landing-less : (cell : CellId) → waiting_at setting landed_then cell ≤ waiting_at setting u cell
  landing-less cell =
      elim (test (belongs cell fleet)) [
        | inl has ↦ (let less = landing-falls cell has in omega (arith, less))
        | inr apart ↦
            (let changed = landings-changed cell in
            let none = counted-none cell fleet back apart in
            let buildings = queues-stay cell Buildings in
            let researches = queues-stay cell Researches in
            let yard = queues-stay cell Yard in
            omega (arith, changed, none, buildings, researches, yard))
      ]

abbrev one_if : Bool → ℕ
one_if true = 1
one_if false = 0

-- what comes back of a fleet lands once more
back-counted : (cell : CellId) (left : List Fleet) (old : Fleet) (o : Option Fleet) → comes_back left old ≡ o → weight (counted_by cell) o ≤ one_if (belongs cell old)
back-counted cell left old None is = omega arith
back-counted cell left old (Some new) is =
    let back = comes-back left old new is in
    let once : landings_of new ≡ 1 = ap landings_of (sym back.is) in
    elim (test (belongs cell new)) [
      | inl has ↦
          (let counts : counted_by cell new ≡ 1 = ap (λ b. cond b (landings_of new) 0) has ∙ once in
          let was : one_if (belongs cell old) ≡ 1 = ap one_if (back-belongs left cell old new is has) in
          omega (arith, counts, was))
      | inr apart ↦ (let counts : counted_by cell new ≡ 0 = ap (λ b. cond b (landings_of new) 0) apart in omega (arith, counts))
    ]

counted-least : (cell : CellId) (fleet : Fleet) → one_if (belongs cell fleet) ≤ counted_by cell fleet
counted-least cell fleet =
    elim (belongs cell fleet) as (λ b. one_if b ≤ cond b (landings_of fleet) 0) [
      | true ↦ lands-again fleet.outbound
      | false ↦ omega arith
    ]

became-less : (cell : CellId) (left : List Fleet) (old : Fleet) (b : Bool) → weight (counted_by cell) (cond b (comes_back left old) (Some old)) ≤ counted_by cell old
became-less cell left old true =
    let back = back-counted cell left old (comes_back left old) refl in
    let least = counted-least cell old in
    omega (arith, back, least)
became-less cell left old false = omega arith

-- A battle leaves no cell with more, and its place with fewer.
module _ (setting : Setting) (u : State) (raid : Raid) (fine : KeepsRules setting u) (stands : IsRaid (view setting.cells u (Planet raid.target)).fleets raid) where
  is_in : IsRaidIn u raid
  is_in = raid-in setting u raid fine stands

  abbrev fought_then : State
  fought_then = effect setting (fights raid) u

  abbrev left : List Fleet
  left = (came_fought setting raid u is_in.planet).fleets

  fought-is : fought_then ≡ after_battle setting raid u is_in.planet
  fought-is = battle-is setting raid u is_in.planet is_in.there

  landings-then : (cell : CellId) → landings_left (filter (belongs cell) fought_then.fleets) ≡ sum_by (counted_by cell) (filter_map (became_in raid.fleets (comes_back left)) u.fleets)
  landings-then cell =
      ap (λ (s : State). landings_left (filter (belongs cell) s.fleets)) fought-is
      ∙ sum-filtered (belongs cell) landings_of (filter_map (became_in raid.fleets (comes_back left)) u.fleets)

  landings-now : (cell : CellId) → landings_left (filter (belongs cell) u.fleets) ≡ sum_by (counted_by cell) u.fleets
  landings-now cell = sum-filtered (belongs cell) landings_of u.fleets

  items-stay : (cell : CellId) (class : QueueClass) → events_left (queue_in fought_then.items cell class) ≡ events_left (queue_in u.items cell class)
  items-stay cell class = ap (λ (s : State). events_left (queue_in s.items cell class)) fought-is

  battle-less : (cell : CellId) → waiting_at setting fought_then cell ≤ waiting_at setting u cell
  battle-less cell =
      let less = sums-less (counted_by cell) (became_in raid.fleets (comes_back left)) u.fleets (λ fleet is. became-less cell left fleet (list_any (same_flight fleet) raid.fleets)) in
      let after = landings-then cell in
      let before = landings-now cell in
      let buildings = items-stay cell Buildings in
      let researches = items-stay cell Researches in
      let yard = items-stay cell Yard in
      omega (arith, less, after, before, buildings, researches, yard)

  battle-falls : waiting_at setting fought_then (Planet raid.target) < waiting_at setting u (Planet raid.target)
  battle-falls =
      let place = Planet raid.target in
      let one = is_in.each is_in.one is_in.has_one in
      let out = (and-is is_in.one.outbound (is_attack is_in.one.mission) one.hostile).0 in
      let has = target-belongs raid.target is_in.one out one.target in
      let twice : counted_by place is_in.one ≡ 2 = ap (λ b. cond b (landings_of is_in.one) 0) has ∙ ap (λ b. cond b 2 1) out in
      let named : list_any (same_flight is_in.one) raid.fleets ≡ true = in-any (same_flight is_in.one) is_in.one raid.fleets is_in.has_one (same_number is_in.one.number) in
      let once : weight (counted_by place) (became_in raid.fleets (comes_back left) is_in.one) ≤ one_if (belongs place is_in.one) =
      subst (λ b. weight (counted_by place) (cond b (comes_back left is_in.one) (Some is_in.one)) ≤ one_if (belongs place is_in.one)) (sym named)
      (back-counted place left is_in.one (comes_back left is_in.one) refl) in
      let most : one_if (belongs place is_in.one) ≡ 1 = ap one_if has in
      let less = sums-fall (counted_by place) (became_in raid.fleets (comes_back left)) is_in.one u.fleets
      (λ fleet is. became-less place left fleet (list_any (same_flight fleet) raid.fleets)) one.flies (omega (arith, twice, once, most)) in
      let after = landings-then place in
      let before = landings-now place in
      let buildings = items-stay place Buildings in
      let researches = items-stay place Researches in
      let yard = items-stay place Yard in
      omega (arith, less, after, before, buildings, researches, yard)

-- So does each event, at its home.
event-less : (setting : Setting) (u : State) (event : Event) → KeepsRules setting u → Owes (view setting.cells u (home event)) event → (cell : CellId)
    → waiting_at setting (effect setting event u) cell ≤ waiting_at setting u cell
event-less setting u (item_due class item later) fine stands cell = item-less setting u class item later fine stands cell
event-less setting u (lands fleet) fine stands cell = landing-less setting u fleet fine (flies-in setting.cells u (home (lands fleet)) fleet stands.0) cell
event-less setting u (fights raid) fine stands cell = battle-less setting u raid fine stands cell

event-falls : (setting : Setting) (u : State) (event : Event) → KeepsRules setting u → Owes (view setting.cells u (home event)) event
    → waiting_at setting (effect setting event u) (home event) < waiting_at setting u (home event)
event-falls setting u (item_due class item later) fine stands = item-falls setting u class item later fine stands class refl
event-falls setting u (lands fleet) fine stands =
    landing-falls setting u fleet fine (flies-in setting.cells u (home (lands fleet)) fleet stands.0) (home (lands fleet)) (landing-belongs fleet)
event-falls setting u (fights raid) fine stands = battle-falls setting u raid fine stands

unheld : (o : Option Stand) → is_some o ≡ false → seen_of o ≡ nothing_seen
unheld None none = refl
unheld (Some stand) none = never true refl none

-- And so do the cells that are held, if they show a universe before and after it.
module _ (setting : Setting) (f : Stamps (game setting)) (old new : Held) (event : Event) (shows : Shows setting old f) (fine : KeepsRules setting f.universe)
    (stands : Owes (view setting.cells f.universe (home event)) event) (inside : holds old (home event) ≡ true)
    (after : Shows setting new (event_acts (game setting) event f)) (same : HoldsSame old new) where
  abbrev there : State
  there = (bring_to (game setting) (footprint event) (second_of event) f).universe

  fine-there : KeepsRules setting there
  fine-there = advance-keeps setting _ f.universe fine

  stands-there : Owes (view setting.cells there (home event)) event
  stands-there =
      let seconds : CellId → ℕ = λ x. cond (footprint event x) (second_of event - f.at x) 0 in
      subst (λ v. Owes v event) (sym (view-advanced setting seconds f.universe (home event)))
      (gains-owe setting.rules (seconds (home event)) (view setting.cells f.universe (home event)) event stands)

  was : (cell : CellId) → holds old cell ≡ true → waiting (seen_held old cell) ≡ waiting_at setting there cell
  was cell held = ap waiting (held-seen setting old f cell shows held)

  is : (cell : CellId) → holds old cell ≡ true → waiting (seen_held new cell) ≡ waiting_at setting (effect setting event there) cell
  is cell held = ap waiting (held-seen setting new (event_acts (game setting) event f) cell after (same cell ∙ held))

  seen-less : (cell : CellId) → waiting (seen_held new cell) ≤ waiting (seen_held old cell)
  seen-less cell =
      elim (test (holds old cell)) [
        | inl held ↦
            (let before = was cell held in
            let now = is cell held in
            let less = event-less setting there event fine-there stands-there cell in
            omega (arith, before, now, less))
        | inr out ↦
            (let none : waiting (seen_held new cell) ≡ 0 = ap waiting (unheld (held_at new cell) (same cell ∙ out)) in
            omega (arith, none))
      ]

  seen-fewer : AreFewer old new (home event)
  seen-fewer = record {
    other = seen-less;
    one =
        (let before = was (home event) inside in
        let now = is (home event) inside in
        let less = event-falls setting there event fine-there stands-there in
        omega (arith, before, now, less));
  }

  -- so the measure of the course falls
  pub waiting_falls : (held : Held) → HoldsSame held old → waiting_in new (names_held held) < waiting_in old (names_held held)
  waiting_falls held all =
      falls old new (home event) seen-fewer (names_held held) (held_named held (home event) (sym (all (home event)) ∙ inside))

still-held : (b : Bool) (f : Stand → Stand) (o : Option Stand) → is_some (cond b (option_map f o) o) ≡ is_some o
still-held true f None = refl
still-held true f (Some stand) = refl
still-held false f o = refl

-- the same cells are held after an event
pub happens_same : (rules : Rules) (what : Happening) (old new : Held) → CanHappen old what → Happens rules what old new → HoldsSame old new
happens_same rules what old new can happens cell =
    ap is_some (happens can.event can.owed cell)
    ∙ still-held (footprint can.event cell) (stand_after rules can.event old cell) (held_at old cell)
