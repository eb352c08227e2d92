-- The first second at which an event has to wait for its turn, and what is held once the yards ran up to it.
use Rattle.std.proofs.Common.{◌≡◌, ℕ, Bool, ◌+◌, ◌-◌, ◌<◌, ◌≤◌, min, true, false, cond, List, [], ◌∷◌, ◌||◌, arith, refl, ap, ◌∙◌, sym, subst, inl, inr, Option, Some, None}
use Rattle.std.proofs.lemmas.Bool.Decides.{nat_tests}
use Rattle.std.specs.Prelude.{is_some, nat_le, nat_lt, option_map, IsSome}
use Rattle.base_ids.specs.Cells.{same_cell}
use Rattle.base_ids.specs.declared.cell_id.CellId.{CellId}
use Rattle.base_ids.specs.declared.cell_id.CellId.TheVariants.{Planet}
use Rattle.closure.specs.Lists.{has}
use Rattle.happenings.specs.Held.{PicksFrom, Stand, held_at, holds}
use Rattle.happenings.specs.Merging.{Merges}
use Rattle.happenings.specs.Sights.{names_held}
use Rattle.happenings.specs.declared.held.Held.{Held}
use Rattle.happenings.proofs.Copying.{picks_all}
use Rattle.laziness.proofs.Bringing.{never, test}
use Rattle.tick_model.proofs.Lists.{and-from, and-is, cell-from, cell-is, fails}
use Rattle.tick_model.specs.Flights.{landing}
use Rattle.tick_model.specs.Rules.{IsIn}
use Rattle.tick_model.specs.Universe.{Buildings, Researches, Yard, Fleet, Item}
use Rattle.tick_model.specs.declared.rules.Rules.{Rules}
use Rattle.lazy.specs.Running.{YardsRun, first_second, first_turn, is_running, landing_second, ran_at, ran_stand, reached_second, run_before, run_until, turn_at, turn_of}

first-least : (limit : ℕ) (items : List Item) → first_second limit items ≤ limit
first-least limit [] = omega arith
first-least limit (item ∷ later) = omega arith

reached-least : (limit second : ℕ) (items : List Item) → reached_second limit second items ≤ limit
reached-least limit second [] = omega arith
reached-least limit second (batch ∷ later) =
    elim (nat_le batch.second second) as (λ b. cond b (min batch.second limit) limit ≤ limit) [
      | true ↦ omega arith
      | false ↦ omega arith
    ]

-- one fleet more
abbrev lands_by : ℕ → CellId → Fleet → ℕ
lands_by limit cell fleet = cond (same_cell (Planet (landing fleet)) cell) (min fleet.second limit) limit

lands-least : (limit second : ℕ) (here : Bool) → cond here (min second limit) limit ≤ limit
lands-least limit second true = omega arith
lands-least limit second false = omega arith

pub landing-least : (limit : ℕ) (cell : CellId) (fleets : List Fleet) → landing_second limit cell fleets ≤ limit
landing-least limit cell [] = omega arith
landing-least limit cell (fleet ∷ later) =
    let here = lands-least limit fleet.second (same_cell (Planet (landing fleet)) cell) in
    let rest = landing-least (lands_by limit cell fleet) cell later in
    omega (arith, here, rest)

-- the limit once the queues are judged
abbrev queues_by : ℕ → Stand → ℕ
queues_by limit stand = reached_second (first_second (first_second limit (stand.seen.queue Buildings)) (stand.seen.queue Researches)) stand.second (stand.seen.queue Yard)

turn-least : (limit : ℕ) (cell : CellId) (o : Option Stand) → turn_at limit cell o ≤ limit
turn-least limit cell None = omega arith
turn-least limit cell (Some stand) =
    let buildings = first-least limit (stand.seen.queue Buildings) in
    let researches = first-least (first_second limit (stand.seen.queue Buildings)) (stand.seen.queue Researches) in
    let yard = reached-least (first_second (first_second limit (stand.seen.queue Buildings)) (stand.seen.queue Researches)) stand.second (stand.seen.queue Yard) in
    let fleets = landing-least (queues_by limit stand) cell stand.seen.fleets in
    omega (arith, buildings, researches, yard, fleets)

pub first-turn-least : (held : Held) (limit : ℕ) (names : List CellId) → first_turn held limit names ≤ limit
first-turn-least held limit [] = omega arith
first-turn-least held limit (name ∷ names) =
    let here = turn-least limit name (held_at held name) in
    let rest = first-turn-least held (turn_at limit name (held_at held name)) names in
    omega (arith, here, rest)

first-by : (limit : ℕ) (items : List Item) (item : Item) (later : List Item) → items ≡ item ∷ later → first_second limit items ≤ item.second
first-by limit items item later is =
    let here : first_second limit (item ∷ later) ≤ item.second = omega arith in
    subst (λ (xs : List Item). first_second limit xs ≤ item.second) (sym is) here

reached-by : (limit second : ℕ) (items : List Item) (item : Item) (later : List Item) → items ≡ item ∷ later → item.second ≤ second → reached_second limit second items ≤ item.second
reached-by limit second items item later is by =
    let tested : nat_le item.second second ≡ true = grind (arith, nat_tests) in
    let least : min item.second limit ≤ item.second = omega arith in
    let here : reached_second limit second (item ∷ later) ≤ item.second = subst (λ b. cond b (min item.second limit) limit ≤ item.second) (sym tested) least in
    subst (λ (xs : List Item). reached_second limit second xs ≤ item.second) (sym is) here

landing-by : (limit : ℕ) (cell : CellId) (fleets : List Fleet) (fleet : Fleet) → IsIn fleet fleets → Planet (landing fleet) ≡ cell → landing_second limit cell fleets ≤ fleet.second
landing-by limit cell [] fleet is here = absurd is
landing-by limit cell (first ∷ later) fleet (inl same) here =
    let place : same_cell (Planet (landing first)) cell ≡ true = cell-from (Planet (landing first)) cell (ap (λ (f : Fleet). Planet (landing f)) (sym same) ∙ here) in
    let now : lands_by limit cell first ≡ min first.second limit = ap (λ b. cond b (min first.second limit) limit) place in
    let second : fleet.second ≡ first.second = ap (λ (f : Fleet). f.second) same in
    let rest = landing-least (lands_by limit cell first) cell later in
    omega (arith, now, second, rest)
landing-by limit cell (first ∷ later) fleet (inr is) here = landing-by (lands_by limit cell first) cell later fleet is here

-- The events of a cell that come before a limit are units of its yard, and its planet has yet to come to their seconds.
pub record IsQuiet (limit : ℕ) (cell : CellId) (stand : Stand) : Type 0 where
  pub buildings : (item : Item) (later : List Item) → stand.seen.queue Buildings ≡ item ∷ later → limit ≤ item.second
  pub researches : (item : Item) (later : List Item) → stand.seen.queue Researches ≡ item ∷ later → limit ≤ item.second
  pub yard : (batch : Item) (later : List Item) → stand.seen.queue Yard ≡ batch ∷ later → batch.second ≤ stand.second → limit ≤ batch.second
  pub landings : (fleet : Fleet) → IsIn fleet stand.seen.fleets → Planet (landing fleet) ≡ cell → limit ≤ fleet.second

turn-quiet : (limit first : ℕ) (cell : CellId) (stand : Stand) → first ≤ turn_of limit cell stand → IsQuiet first cell stand
turn-quiet limit first cell stand within =
    let one = first_second limit (stand.seen.queue Buildings) in
    let two = first_second one (stand.seen.queue Researches) in
    let researches = first-least one (stand.seen.queue Researches) in
    let yard = reached-least two stand.second (stand.seen.queue Yard) in
    let fleets = landing-least (queues_by limit stand) cell stand.seen.fleets in
    record {
      buildings = λ item later is. let by = first-by limit (stand.seen.queue Buildings) item later is in omega (arith, within, researches, yard, fleets, by);
      researches = λ item later is. let by = first-by one (stand.seen.queue Researches) item later is in omega (arith, within, yard, fleets, by);
      yard = λ batch later is come. let by = reached-by two stand.second (stand.seen.queue Yard) batch later is come in omega (arith, within, fleets, by);
      landings = λ fleet is here. let by = landing-by (queues_by limit stand) cell stand.seen.fleets fleet is here in omega (arith, within, by);
    }

pub all-quiet : (held : Held) (limit : ℕ) (names : List CellId) (cell : CellId) (stand : Stand) → has names cell ≡ true → held_at held cell ≡ Some stand → IsQuiet (first_turn held limit names) cell stand
all-quiet held limit [] cell stand there is = never false there refl
all-quiet held limit (name ∷ names) cell stand there is =
    let next = turn_at limit name (held_at held name) in
    elim (test (same_cell cell name)) [
      | inl same ↦
          (let place = sym (cell-is cell name same) in
          let here : held_at held name ≡ Some stand = ap (held_at held) place ∙ is in
          turn-quiet limit (first_turn held next names) cell stand
          (subst (λ x. first_turn held next names ≤ turn_of limit x stand) place (subst (λ o. first_turn held next names ≤ turn_at limit name o) here (first-turn-least held next names))))
      | inr other ↦ all-quiet held next names cell stand (ap (λ b. b || has names cell) (sym other) ∙ there) is
    ]

-- What it is for a yard to run.

pub record IsRunning (limit second : ℕ) (batches : List Item) : Type 0 where
  pub batch : Item
  pub later : List Item
  pub are : batches ≡ batch ∷ later
  pub ahead : second < batch.second
  pub before : batch.second < limit

pub running-is : (limit second : ℕ) (batches : List Item) → is_running limit second batches ≡ true → IsRunning limit second batches
running-is limit second [] is = never false is refl
running-is limit second (batch ∷ later) is =
    let both = and-is (nat_lt second batch.second) (nat_lt batch.second limit) is in
    let ahead : nat_lt second batch.second ≡ true = both.0 in
    let before : nat_lt batch.second limit ≡ true = both.1 in
    record { batch = batch; later = later; are = refl; ahead = grind (arith, nat_tests); before = grind (arith, nat_tests) }

pub running-from : (limit second : ℕ) (batches : List Item) → IsRunning limit second batches → is_running limit second batches ≡ true
running-from limit second batches runs =
    let batch = runs.batch in
    let ahead : second < batch.second = runs.ahead in
    let before : batch.second < limit = runs.before in
    let one : nat_lt second batch.second ≡ true = grind (arith, nat_tests) in
    let two : nat_lt batch.second limit ≡ true = grind (arith, nat_tests) in
    subst (λ (xs : List Item). is_running limit second xs ≡ true) (sym runs.are) (and-from (nat_lt second batch.second) (nat_lt batch.second limit) one two)

-- none runs before second 0
pub none-runs : (rules : Rules) (limit : ℕ) (stand : Stand) → limit < 1 → run_before rules limit stand ≡ stand
none-runs rules limit stand none =
    let batches = stand.seen.queue Yard in
    let stays = fails (is_running limit stand.second batches) (λ is.
    let before : (running-is limit stand.second batches is).batch.second < limit = (running-is limit stand.second batches is).before in
    omega (arith, before, none)) in
    ap (λ b. cond b (run_until rules (limit - 1) stand) stand) stays

-- Planets whose yards ran are held in place of those before them.

ran-some : (rules : Rules) (limit : ℕ) (o : Option Stand) → IsSome (ran_stand rules limit o) → IsSome o
ran-some rules limit None some = some
ran-some rules limit (Some stand) some = refl

merged : (rules : Rules) (limit : ℕ) (o : Option Stand) → cond (is_some (ran_stand rules limit o)) (ran_stand rules limit o) o ≡ option_map (run_before rules limit) o
merged rules limit None = refl
merged rules limit (Some stand) =
    let came = run_until rules (limit - 1) stand in
    elim (is_running limit stand.second (stand.seen.queue Yard)) as (λ b. cond (is_some (cond b (Some came) None)) (cond b (Some came) None) (Some stand) ≡ Some (cond b came stand)) [
      | true ↦ refl
      | false ↦ refl
    ]

module _ (rules : Rules) (limit : ℕ) (old ran : Held) (picks : PicksFrom (ran_at rules limit old) (names_held old) ran) where
  picked : (cell : CellId) → held_at ran cell ≡ ran_at rules limit old cell
  picked = picks_all old (ran_at rules limit old) ran (λ cell. ran-some rules limit (held_at old cell)) picks

  -- each of them was held
  pub ran-within : (cell : CellId) → holds ran cell ≡ true → holds old cell ≡ true
  ran-within cell there = ran-some rules limit (held_at old cell) (ap is_some (sym (picked cell)) ∙ there)

  pub ran-merged : (new : Held) → Merges old ran new → (cell : CellId) → held_at new cell ≡ option_map (run_before rules limit) (held_at old cell)
  ran-merged new merges cell =
      merges cell
      ∙ ap (λ o. cond (is_some o) o (held_at old cell)) (picked cell)
      ∙ merged rules limit (held_at old cell)

-- the yards have run
pub yards-run : (rules : Rules) (moment limit : ℕ) (old ran new : Held) (names : List CellId) → names ≡ names_held old → limit ≡ first_turn old (moment + 1) names
    → PicksFrom (ran_at rules limit old) names ran → Merges old ran new → YardsRun rules moment old new
yards-run rules moment limit old ran new names all is picks merges cell =
    let here = subst (λ xs. PicksFrom (ran_at rules limit old) xs ran) all picks in
    ran-merged rules limit old ran here new merges cell
    ∙ ap (λ n. option_map (run_before rules n) (held_at old cell)) (is ∙ ap (first_turn old (moment + 1)) all)
