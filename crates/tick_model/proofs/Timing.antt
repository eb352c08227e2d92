-- What happens, and what is asked for, leaves each item and each fleet its time.
use Rattle.std.proofs.Common.{◌≡◌, ℕ, zero, suc, ◌+◌, ◌-◌, ◌^◌, ◌<◌, ◌≤◌, max, inl, inr, Bool, true, false, cond, eqb, nat_le, List, [], ◌∷◌, ◌++◌, Option, None, Some, arith, refl, ap, ◌∙◌, sym, subst}
use Rattle.std.specs.Prelude.{IsTrue}
use Rattle.std.specs.List.{filter_map}
use Rattle.base_ids.specs.declared.cell_id.CellId.{CellId}
use Rattle.base_ids.specs.declared.cell_id.CellId.TheVariants.{Planet}
use Rattle.catalog.specs.Classes.{is_building, is_technology, is_unit}
use Rattle.catalog.specs.Levels.{level_cap_of}
use Rattle.catalog.specs.Technologies.{level_in}
use Rattle.catalog.specs.declared.kind.Kind.{Kind}
use Rattle.laziness.proofs.Bringing.{never}
use Rattle.reply_text.specs.declared.units.Units.{Units}
use Rattle.tick_model.specs.Buildings.{Works, can_pay, done, next_duration, next_price, pays, raised, started, starts_first}
use Rattle.tick_model.specs.Flights.{back_at, recalled_at as recalled_second, turned, turns}
use Rattle.tick_model.specs.Limits.{Waits}
use Rattle.tick_model.specs.Moments.{IsFlight, IsOfClass, IsOrder, IsTimed, KeepsTime}
use Rattle.tick_model.specs.Production.{level_of}
use Rattle.tick_model.specs.Refusals.{queued}
use Rattle.tick_model.specs.Researches.{can_start, pays_research, research_duration, started_research, starts_first_research, starts_research}
use Rattle.tick_model.specs.Rules.{IsIn}
use Rattle.tick_model.specs.Universe.{Own, of_nothing, of_account, of_planet, AccountFields, PlanetFields, QueueClass, Buildings, Researches, Yard, Fleet, Item, State}
use Rattle.tick_model.specs.Yards.{begins_first, begun, unit_duration, yard_left}
use Rattle.tick_model.proofs.Raising.{one_if, ones, queued-first}
use Rattle.tick_model.proofs.Spans.{duration-most, research-most, unit-most}

-- all items of a queue of a class have their time
abbrev pub AreOrders : ℕ → QueueClass → List Item → Type 0
AreOrders t class items = (x : Item) → IsIn x items → (x.class ≡ class) × IsOrder t x

first-order : (t : ℕ) (class : QueueClass) (new : Item) (later : List Item) → (new.class ≡ class) × IsOrder t new → AreOrders t class later → AreOrders t class (new ∷ later)
first-order t class new later order orders x (inl same) = subst (λ (y : Item). (y.class ≡ class) × IsOrder t y) (sym same) order
first-order t class new later order orders x (inr rest) = orders x rest

-- a kind that is queued has a level to rise to
has-level : (level : Kind → ℕ) (item : Item) (later : List Item) → level item.kind + queued item.kind (item ∷ later) ≤ level_cap_of item.kind → level item.kind < level_cap_of item.kind
has-level level item later most =
    let first = queued-first item.kind item later in
    let one = ones item.kind item.kind refl in
    omega (arith, most, first, one)

fewer-queued : (level : Kind → ℕ) (kind : Kind) (item : Item) (later : List Item) → level kind + queued kind (item ∷ later) ≤ level_cap_of kind → level kind + queued kind later ≤ level_cap_of kind
fewer-queued level kind item later most = let first = queued-first kind item later in omega (arith, most, first)

-- a class that is another than the yard's
not-yard : {A : Type 0} (class : QueueClass) → class ≡ Buildings → class ≡ Yard → A
not-yard class is yard = absurd (let both : Buildings ≡ Yard = sym is ∙ yard in cc)

not-research : {A : Type 0} (class : QueueClass) → class ≡ Researches → class ≡ Yard → A
not-research class is yard = absurd (let both : Researches ≡ Yard = sym is ∙ yard in cc)

-- A building starts.

building-order : (speed second t : ℕ) (planet : PlanetFields) (item : Item) → 1 ≤ speed → second ≤ t → t < 2 ^ 40 → level_of planet item.kind < level_cap_of item.kind
    → (item.class ≡ Buildings) × IsOrder t item → (item.class ≡ Buildings) × IsOrder t (started speed second planet item)
building-order speed second t planet item some due late below both =
    let order = both.1 in
    let class : IsTrue (is_building item.kind) = subst (λ c. IsOfClass c item.kind) both.0 order.classed in
    let most = duration-most speed planet item.kind class below some in (
      both.0,
      record {
        classed = order.classed;
        drawn = order.drawn;
        timed = record { ends = omega (arith, most, due, late); paced = order.timed.paced; next = λ yard. not-yard item.class both.0 yard };
      },
    )

pub buildings-time : (speed second t : ℕ) (planet : PlanetFields) (items : List Item) → 1 ≤ speed → second ≤ t → t < 2 ^ 40
    → ((kind : Kind) → IsTrue (is_building kind) → level_of planet kind + queued kind items ≤ level_cap_of kind) → AreOrders t Buildings items
    → AreOrders t Buildings (starts_first speed second planet items).queue
buildings-time speed second t planet [] some due late capped orders = λ x is. absurd is
buildings-time speed second t planet (item ∷ later) some due late capped orders =
    let skipped = starts_first speed second planet later in
    let paid : Works = record { planet = pays planet item.kind; queue = started speed second planet item ∷ later } in
    let rest : AreOrders t Buildings later = λ x is. orders x (inr is) in
    let first = orders item (inl refl) in
    let class : IsTrue (is_building item.kind) = subst (λ c. IsOfClass c item.kind) first.0 first.1.classed in
    elim (can_pay planet.stock (next_price planet item.kind)) as (λ b. AreOrders t Buildings (cond b paid skipped).queue) [
      | true ↦
          first-order t Buildings (started speed second planet item) later
          (building-order speed second t planet item some due late (has-level (level_of planet) item later (capped item.kind class)) first) rest
      | false ↦ buildings-time speed second t planet later some due late (λ kind is. fewer-queued (level_of planet) kind item later (capped kind is)) rest
    ]

-- A research starts.

research-order : (speed second t : ℕ) (account : AccountFields) (planet : PlanetFields) (item : Item) → 1 ≤ speed → second ≤ t → t < 2 ^ 40 → level_in account.techs.n item.kind < level_cap_of item.kind
    → (item.class ≡ Researches) × IsOrder t item → (item.class ≡ Researches) × IsOrder t (started_research speed second account planet item)
research-order speed second t account planet item some due late below both =
    let order = both.1 in
    let class : IsTrue (is_technology item.kind) = subst (λ c. IsOfClass c item.kind) both.0 order.classed in
    let most = research-most speed account planet item.kind class below some in (
      both.0,
      record {
        classed = order.classed;
        drawn = order.drawn;
        timed = record { ends = omega (arith, most, due, late); paced = order.timed.paced; next = λ yard. not-research item.class both.0 yard };
      },
    )

one-research : (speed second t : ℕ) (account : AccountFields) (own : CellId → Own) (payer : Own) (item : Item) (later : List Item) → 1 ≤ speed → second ≤ t → t < 2 ^ 40
    → level_in account.techs.n item.kind < level_cap_of item.kind → AreOrders t Researches (item ∷ later) → AreOrders t Researches (starts_research speed second account own payer item later).queue
one-research speed second t account own of_nothing item later some due late below orders = λ x is. absurd is
one-research speed second t account own (of_account other) item later some due late below orders = λ x is. absurd is
one-research speed second t account own (of_planet planet) item later some due late below orders =
    first-order t Researches (started_research speed second account planet item) later
    (research-order speed second t account planet item some due late below (orders item (inl refl))) (λ x is. orders x (inr is))

pub researches-time : (speed second t : ℕ) (account : AccountFields) (own : CellId → Own) (items : List Item) → 1 ≤ speed → second ≤ t → t < 2 ^ 40
    → ((kind : Kind) → IsTrue (is_technology kind) → level_in account.techs.n kind + queued kind items ≤ level_cap_of kind) → AreOrders t Researches items
    → AreOrders t Researches (starts_first_research speed second account own items).queue
researches-time speed second t account own [] some due late capped orders = λ x is. absurd is
researches-time speed second t account own (item ∷ later) some due late capped orders =
    let skipped = starts_first_research speed second account own later in
    let paid = starts_research speed second account own (own (Planet item.place)) item later in
    let first = orders item (inl refl) in
    let class : IsTrue (is_technology item.kind) = subst (λ c. IsOfClass c item.kind) first.0 first.1.classed in
    elim (can_start speed account (own (Planet item.place)) item) as (λ b. AreOrders t Researches (cond b paid skipped).queue) [
      | true ↦
          one-research speed second t account own (own (Planet item.place)) item later some due late (has-level (level_in account.techs.n) item later (capped item.kind class)) orders
      | false ↦
          researches-time speed second t account own later some due late (λ kind is. fewer-queued (level_in account.techs.n) kind item later (capped kind is)) (λ x is. orders x (inr is))
    ]

-- A batch begins, or goes on.

pub begun-time : (speed second t : ℕ) (planet : PlanetFields) (batch : Item) → 1 ≤ speed → second ≤ t → t < 2 ^ 40 → IsTrue (is_unit batch.kind)
    → IsTimed t (begun speed second planet batch)
begun-time speed second t planet batch some due late class =
    let most = unit-most speed planet batch.kind class some in
    record { ends = omega (arith, most, due, late); paced = omega (arith, most); next = λ yard. omega (arith, due) }

begins-time : (speed second t : ℕ) (planet : PlanetFields) (items : List Item) → 1 ≤ speed → second ≤ t → t < 2 ^ 40 → AreOrders t Yard items → AreOrders t Yard (begins_first speed second planet items)
begins-time speed second t planet [] some due late orders = λ x is. absurd is
begins-time speed second t planet (batch ∷ later) some due late orders =
    let first = orders batch (inl refl) in
    let class : IsTrue (is_unit batch.kind) = subst (λ c. IsOfClass c batch.kind) first.0 first.1.classed in
    first-order t Yard (begun speed second planet batch) later
    (first.0, record { classed = first.1.classed; drawn = first.1.drawn; timed = begun-time speed second t planet batch some due late class }) (λ x is. orders x (inr is))

goes-on : (t : ℕ) (batch : Item) → batch.second ≤ t → t < 2 ^ 40 → (batch.class ≡ Yard) × IsOrder t batch
    → (batch.class ≡ Yard) × IsOrder t (record batch { left = batch.left - 1; second = batch.second + batch.unit_seconds })
goes-on t batch due late both =
    let order = both.1 in
    let paced = order.timed.paced in
    (both.0, record { classed = order.classed; drawn = order.drawn; timed = record { ends = omega (arith, paced, due, late); paced = paced; next = λ yard. omega (arith, due) } })

pub yard-time : (speed t : ℕ) (planet : PlanetFields) (batch : Item) (later : List Item) → 1 ≤ speed → batch.second ≤ t → t < 2 ^ 40 → AreOrders t Yard (batch ∷ later)
    → AreOrders t Yard (yard_left speed planet batch later)
yard-time speed t planet batch later some due late orders =
    let next = begins_first speed batch.second planet later in
    let rest = record batch { left = batch.left - 1; second = batch.second + batch.unit_seconds } in
    let behind : AreOrders t Yard later = λ x is. orders x (inr is) in
    elim (nat_le batch.left 1) as (λ b. AreOrders t Yard (cond b next (rest ∷ later))) [
      | true ↦ begins-time speed batch.second t planet later some due late behind
      | false ↦ first-order t Yard rest later (goes-on t batch due late (orders batch (inl refl))) behind
    ]

-- What is ordered anew.

-- an item that joins a queue at a moment has a kind of its class, and a time
pub record IsFresh (moment : ℕ) (item : Item) : Type 0 where
  pub classed : IsOfClass item.class item.kind
  pub ends : item.second ≤ moment + 2 ^ 36
  pub paced : item.unit_seconds ≤ 2 ^ 24
  pub next : item.class ≡ Yard → item.second ≤ moment + item.unit_seconds

pub fresh-building : (speed moment : ℕ) (planet : PlanetFields) (item : Item) → 1 ≤ speed → item.class ≡ Buildings → IsTrue (is_building item.kind) → level_of planet item.kind < level_cap_of item.kind → Waits item
    → IsFresh moment (started speed moment planet item)
fresh-building speed moment planet item some here class below waits =
    let most = duration-most speed planet item.kind class below some in
    let pace = waits.1 in
    record { classed = subst (λ c. IsOfClass c item.kind) (sym here) class; ends = omega (arith, most); paced = omega (arith, pace); next = λ yard. not-yard item.class here yard }

pub fresh-research : (speed moment : ℕ) (account : AccountFields) (planet : PlanetFields) (item : Item) → 1 ≤ speed → item.class ≡ Researches → IsTrue (is_technology item.kind)
    → level_in account.techs.n item.kind < level_cap_of item.kind → Waits item → IsFresh moment (started_research speed moment account planet item)
fresh-research speed moment account planet item some here class below waits =
    let most = research-most speed account planet item.kind class below some in
    let pace = waits.1 in
    record { classed = subst (λ c. IsOfClass c item.kind) (sym here) class; ends = omega (arith, most); paced = omega (arith, pace); next = λ yard. not-research item.class here yard }

pub fresh-batch : (speed moment : ℕ) (planet : PlanetFields) (item : Item) → 1 ≤ speed → item.class ≡ Yard → IsTrue (is_unit item.kind) → IsFresh moment (begun speed moment planet item)
fresh-batch speed moment planet item some here class =
    let most = unit-most speed planet item.kind class some in
    record { classed = subst (λ c. IsOfClass c item.kind) (sym here) class; ends = omega (arith, most); paced = most; next = λ yard. omega arith }

pub fresh-waits : (moment : ℕ) (item : Item) → IsOfClass item.class item.kind → Waits item → IsFresh moment item
fresh-waits moment item class waits =
    let pace = waits.1 in
    let end = waits.2 in
    record { classed = class; ends = omega (arith, end); paced = omega (arith, pace); next = λ yard. omega (arith, end) }

pub fresh-time : (t : ℕ) (item : Item) → t < 2 ^ 40 → IsFresh t item → IsTimed t item
fresh-time t item late fresh =
    let end = fresh.ends in
    let pace = fresh.paced in
    record { ends = omega (arith, end, late); paced = omega (arith, pace); next = fresh.next }

-- A fleet turns back.

pub turned-time : (t second : ℕ) (fleet : Fleet) (cargo : Units) → second < 2 ^ 42 → IsFlight t fleet → IsFlight t (turned fleet second cargo)
turned-time t second fleet cargo lands flight = record { sent = flight.sent; lands = lands }

-- whoever lands by second 2^40 is back before 2^42
pub back-time : (t : ℕ) (fleet : Fleet) → fleet.second ≤ t → t < 2 ^ 40 → back_at fleet < 2 ^ 42
back-time t fleet due late = omega (arith, due, late)

pub recalled-most : (t : ℕ) (fleet : Fleet) → t < 2 ^ 40 → recalled_second fleet t < 2 ^ 42
recalled-most t fleet late = omega (arith, late)

-- Later moments.

timed-later : (m n : ℕ) (item : Item) → m ≤ n → IsTimed m item → IsTimed n item
timed-later m n item later timed = record { ends = timed.ends; paced = timed.paced; next = λ yard. let next = timed.next yard in omega (arith, next, later) }

pub time-later : (m n : ℕ) (state : State) → m ≤ n → KeepsTime m state → KeepsTime n state
time-later m n state later keeps = record {
  ordered = λ item is.
      let order = keeps.ordered item is in
      record { classed = order.classed; drawn = order.drawn; timed = timed-later m n item later order.timed };
  flying = λ fleet is.
      let flight = keeps.flying fleet is in
      let sent = flight.sent in
      record { sent = omega (arith, sent, later); lands = flight.lands };
}
