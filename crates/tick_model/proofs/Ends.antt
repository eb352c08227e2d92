-- What comes of an event: of the cells that it changes, and of its queue.
use Rattle.std.proofs.Common.{◌≡◌, ℕ, ◌+◌, ◌-◌, ◌<◌, ◌≤◌, inl, true, false, nat_le, cond, List, [], ◌∷◌, arith, refl, ap, sym, subst}
use Rattle.std.proofs.lemmas.Bool.Decides.{nat_tests}
use Rattle.base_ids.specs.declared.cell_id.CellId.{CellId}
use Rattle.base_ids.specs.declared.cell_id.CellId.TheVariants.{Planet}
use Rattle.catalog.specs.declared.kind.Kind.{Kind}
use Rattle.tick_model.specs.Buildings.{Works, can_pay, done, next_duration, next_price, pays, raised, started, starts_first}
use Rattle.tick_model.specs.Changes.{put_own}
use Rattle.tick_model.specs.Game.{events_left}
use Rattle.tick_model.specs.Researches.{can_start, learned, pays_research, research_duration, researched, started_research, starts_first_research, starts_research}
use Rattle.tick_model.specs.Universe.{Own, of_nothing, of_account, of_planet, AccountFields, QueueClass, Buildings, Researches, Yard, Item, PlanetFields}
use Rattle.tick_model.specs.Yards.{begins_first, begun, unit_done, unit_duration, yard_left}
use Rattle.tick_model.proofs.Follows.{Follows, IsOrderOf, fewer-left, follows-drop, follows-fewer, follows-nothing}
use Rattle.tick_model.proofs.Owns.{IsAlike, alike-itself, alike-then, put-alike}

-- The queue that the event of a first item leaves.
pub record Ends (class : QueueClass) (item : Item) (later queue : List Item) : Type 0 where
  pub follows : Follows (item ∷ later) queue
  -- what comes next of it is later
  pub next : (first : Item) (rest : List Item) → queue ≡ first ∷ rest → item.second < first.second
  pub paced : (first : Item) (rest : List Item) → queue ≡ first ∷ rest → class ≡ Yard → 1 ≤ first.unit_seconds
  pub falls : events_left queue < events_left (item ∷ later)

heads : (a b : Item) (as_a as_b : List Item) → a ∷ as_a ≡ b ∷ as_b → a ≡ b
heads a b as_a as_b same = cc

-- everything takes at least a second
pub duration-least : (speed : ℕ) (planet : PlanetFields) (kind : Kind) → 1 ≤ next_duration speed planet kind
unfolding next_duration
duration-least speed planet kind = omega arith

pub research-least : (speed : ℕ) (account : AccountFields) (planet : PlanetFields) (kind : Kind) → 1 ≤ research_duration speed account planet kind
unfolding research_duration
research-least speed account planet kind = omega arith

pub unit-least : (speed : ℕ) (planet : PlanetFields) (kind : Kind) → 1 ≤ unit_duration speed planet kind
unfolding unit_duration
unit-least speed planet kind = omega arith

-- What starts of items that wait.
pub record Starts (second : ℕ) (items queue : List Item) : Type 0 where
  pub follows : Follows items queue
  pub next : (first : Item) (rest : List Item) → queue ≡ first ∷ rest → second < first.second

starts-none : (second : ℕ) (items : List Item) → Starts second items []
starts-none second items = record { follows = follows-nothing items; next = λ first rest is. absurd cc }

starts-head : (second : ℕ) (old new : Item) (later : List Item) → IsOrderOf old new → second < new.second → Starts second (old ∷ later) (new ∷ later)
starts-head second old new later order runs = record {
  follows = inl (order, refl);
  next = λ first rest is. let same : new.second ≡ first.second = ap (λ (x : Item). x.second) (heads new first later rest is) in omega arith;
}

starts-skipped : (second : ℕ) (item : Item) (later queue : List Item) → Starts second later queue → Starts second (item ∷ later) queue
starts-skipped second item later queue starts = record { follows = follows-drop item later queue starts.follows; next = starts.next }

-- a level that is done leaves its queue so
ends-level : (class : QueueClass) (item : Item) (later queue : List Item) → (class ≡ Yard → ⊥) → Starts item.second later queue → Ends class item later queue
ends-level class item later queue level starts = record {
  follows = follows-drop item later queue starts.follows;
  next = starts.next;
  paced = λ first rest is yard. absurd (level yard);
  falls = follows-fewer item later queue starts.follows;
}

building-order : (speed second : ℕ) (planet : PlanetFields) (item : Item) → IsOrderOf item (started speed second planet item)
building-order speed second planet item = record { number = refl; cell = refl; class = refl; kind = refl; place = refl; left = omega arith; some = λ is. is }

pub buildings-start : (speed second : ℕ) (planet : PlanetFields) (items : List Item)
    → Starts second items (starts_first speed second planet items).queue × IsAlike (of_planet planet) (of_planet (starts_first speed second planet items).planet)
buildings-start speed second planet [] = (starts-none second [], (refl, refl))
buildings-start speed second planet (item ∷ later) =
    let skipped = starts_first speed second planet later in
    let paid : Works = record { planet = pays planet item.kind; queue = started speed second planet item ∷ later } in
    elim (can_pay planet.stock (next_price planet item.kind)) as (λ b. Starts second (item ∷ later) (cond b paid skipped).queue × IsAlike (of_planet planet) (of_planet (cond b paid skipped).planet)) [
      | true ↦
          (let least = duration-least speed planet item.kind in
          (starts-head second item (started speed second planet item) later (building-order speed second planet item) (omega (arith, least)), (refl, refl)))
      | false ↦
          (let rest = buildings-start speed second planet later in
          (starts-skipped second item later skipped.queue rest.0, rest.1))
    ]

raised-alike : (planet : PlanetFields) (kind : Kind) → IsAlike (of_planet planet) (of_planet (raised planet kind))
unfolding raised
raised-alike planet kind = (refl, refl)

-- a building is done
pub building-ends : (speed : ℕ) (item : Item) (later : List Item) (own : Own) → Ends Buildings item later (done speed item later own).queue × IsAlike own (done speed item later own).own
building-ends speed item later of_nothing = (ends-level Buildings item later [] (λ yard. absurd cc) (starts-none item.second later), tt)
building-ends speed item later (of_account account) = (ends-level Buildings item later [] (λ yard. absurd cc) (starts-none item.second later), tt)
building-ends speed item later (of_planet planet) =
    let starts = buildings-start speed item.second (raised planet item.kind) later in
    let works = starts_first speed item.second (raised planet item.kind) later in
    (ends-level Buildings item later works.queue (λ yard. absurd cc) starts.0, alike-then (of_planet planet) (of_planet (raised planet item.kind)) (of_planet works.planet) (raised-alike planet item.kind) starts.1)

research-order : (speed second : ℕ) (account : AccountFields) (planet : PlanetFields) (item : Item) → IsOrderOf item (started_research speed second account planet item)
research-order speed second account planet item = record { number = refl; cell = refl; class = refl; kind = refl; place = refl; left = omega arith; some = λ is. is }

-- what cells have of their own stays alike
abbrev AllAlike : (CellId → Own) → (CellId → Own) → Type 0
AllAlike old new = (x : CellId) → IsAlike (old x) (new x)

one-research : (speed second : ℕ) (account : AccountFields) (own : CellId → Own) (payer : Own) (item : Item) (later : List Item) → own (Planet item.place) ≡ payer
    → Starts second (item ∷ later) (starts_research speed second account own payer item later).queue × AllAlike own (starts_research speed second account own payer item later).own
one-research speed second account own of_nothing item later is = (starts-none second (item ∷ later), λ x. alike-itself (own x))
one-research speed second account own (of_account other) item later is = (starts-none second (item ∷ later), λ x. alike-itself (own x))
one-research speed second account own (of_planet planet) item later is =
    let least = research-least speed account planet item.kind in
    let new = of_planet (pays_research account planet item.kind) in
    let here : IsAlike (own (Planet item.place)) new = subst (λ old. IsAlike old new) (sym is) (refl, refl) in (
      starts-head second item (started_research speed second account planet item) later (research-order speed second account planet item) (omega (arith, least)),
      put-alike (Planet item.place) new own own here (λ x. alike-itself (own x)),
    )

pub research-starts : (speed second : ℕ) (account : AccountFields) (own : CellId → Own) (items : List Item)
    → Starts second items (starts_first_research speed second account own items).queue × AllAlike own (starts_first_research speed second account own items).own
research-starts speed second account own [] = (starts-none second [], λ x. alike-itself (own x))
research-starts speed second account own (item ∷ later) =
    let skipped = starts_first_research speed second account own later in
    let paid = starts_research speed second account own (own (Planet item.place)) item later in
    elim (can_start speed account (own (Planet item.place)) item) as (λ b. Starts second (item ∷ later) (cond b paid skipped).queue × AllAlike own (cond b paid skipped).own) [
      | true ↦ one-research speed second account own (own (Planet item.place)) item later refl
      | false ↦
          (let rest = research-starts speed second account own later in
          (starts-skipped second item later skipped.queue rest.0, rest.1))
    ]

-- a research is done
pub research-ends : (speed : ℕ) (item : Item) (later : List Item) (own : CellId → Own) (caller : Own) → own item.cell ≡ caller
    → Ends Researches item later (researched speed item later own caller).queue × AllAlike own (researched speed item later own caller).own
research-ends speed item later own of_nothing is = (ends-level Researches item later [] (λ yard. absurd cc) (starts-none item.second later), λ x. alike-itself (own x))
research-ends speed item later own (of_planet planet) is = (ends-level Researches item later [] (λ yard. absurd cc) (starts-none item.second later), λ x. alike-itself (own x))
research-ends speed item later own (of_account account) is =
    let new = learned account item.kind in
    let put = put_own item.cell (of_account new) own in
    let came = starts_first_research speed item.second new put later in
    let starts = research-starts speed item.second new put later in
    let here : IsAlike (own item.cell) (of_account new) = subst (λ old. IsAlike old (of_account new)) (sym is) tt in (
      ends-level Researches item later came.queue (λ yard. absurd cc) starts.0,
      λ x. alike-then (own x) (put x) (came.own x) (put-alike item.cell (of_account new) own own here (λ y. alike-itself (own y)) x) (starts.1 x),
    )

-- A yard.

begun-order : (speed second : ℕ) (planet : PlanetFields) (item : Item) → IsOrderOf item (begun speed second planet item)
begun-order speed second planet item = record { number = refl; cell = refl; class = refl; kind = refl; place = refl; left = omega arith; some = λ is. is }

-- the first batch of a yard takes a second or more for each unit
abbrev IsPaced : List Item → Type 0
IsPaced queue = (first : Item) (rest : List Item) → queue ≡ first ∷ rest → 1 ≤ first.unit_seconds

begins : (speed second : ℕ) (planet : PlanetFields) (items : List Item) → Starts second items (begins_first speed second planet items) × IsPaced (begins_first speed second planet items)
begins speed second planet [] = (starts-none second [], λ first rest is. absurd cc)
begins speed second planet (item ∷ later) =
    let least = unit-least speed planet item.kind in
    let new = begun speed second planet item in (
      starts-head second item new later (begun-order speed second planet item) (omega (arith, least)),
      λ first rest is. let same : new.unit_seconds ≡ first.unit_seconds = ap (λ (x : Item). x.unit_seconds) (heads new first later rest is) in omega (arith, least, same),
    )

more-left : (m : ℕ) → nat_le m 1 ≡ false → 2 ≤ m
more-left m is = grind (arith, nat_tests)

-- a unit is done, and others of the batch are left
goes-on : (batch : Item) (later : List Item) → 2 ≤ batch.left → 1 ≤ batch.unit_seconds → Ends Yard batch later (record batch { left = batch.left - 1; second = batch.second + batch.unit_seconds } ∷ later)
goes-on batch later more least =
    let new = record batch { left = batch.left - 1; second = batch.second + batch.unit_seconds } in
    let order : IsOrderOf batch new =
    record { number = refl; cell = refl; class = refl; kind = refl; place = refl; left = omega (arith, more); some = λ is. omega (arith, more) } in
    record {
      follows = inl (order, refl);
      next = λ first rest is. let same : new.second ≡ first.second = ap (λ (x : Item). x.second) (heads new first later rest is) in omega (arith, least, same);
      paced = λ first rest is yard. let same : new.unit_seconds ≡ first.unit_seconds = ap (λ (x : Item). x.unit_seconds) (heads new first later rest is) in omega (arith, least, same);
      falls = fewer-left batch new later (omega (arith, more));
    }

pub yard-ends : (speed : ℕ) (planet : PlanetFields) (batch : Item) (later : List Item) → 1 ≤ batch.unit_seconds → Ends Yard batch later (yard_left speed planet batch later)
yard-ends speed planet batch later least =
    let next = begins_first speed batch.second planet later in
    let same = record batch { left = batch.left - 1; second = batch.second + batch.unit_seconds } ∷ later in
    elim (nat_le batch.left 1) as (λ b. nat_le batch.left 1 ≡ b → Ends Yard batch later (cond b next same)) [
      | true ↦ λ last.
          (let begins = begins speed batch.second planet later in
          record {
            follows = follows-drop batch later next begins.0.follows;
            next = begins.0.next;
            paced = λ first rest is yard. begins.1 first rest is;
            falls = follows-fewer batch later next begins.0.follows;
          })
      | false ↦ λ more. goes-on batch later (more-left batch.left more) least
    ] refl

gone : (batch : Item) (later : List Item) → Ends Yard batch later []
gone batch later = record {
  follows = tt;
  next = λ first rest is. absurd cc;
  paced = λ first rest is yard. absurd cc;
  falls = follows-fewer batch later [] (follows-nothing later);
}

-- a unit is done
pub unit-ends : (speed : ℕ) (batch : Item) (later : List Item) (own : Own) → 1 ≤ batch.unit_seconds → Ends Yard batch later (unit_done speed batch later own).queue
unit-ends speed batch later (of_planet planet) least = yard-ends speed planet batch later least
unit-ends speed batch later of_nothing least = gone batch later
unit-ends speed batch later (of_account account) least = gone batch later
