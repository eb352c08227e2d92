-- The first item of a queue is the next level of its kind, and the others wait.
use Rattle.std.proofs.Common.{◌≡◌, ℕ, ◌+◌, ◌-◌, true, false, cond, List, [], ◌∷◌, ◌++◌, Bool, nat_le, arith, refl, ap, ◌∙◌, sym, subst}
use Rattle.std.specs.List.{All}
use Rattle.std.proofs.lemmas.List.Elements.{All-append, All-cons, All-head, All-nil, All-tail}
use Rattle.base_ids.specs.declared.cell_id.CellId.{CellId}
use Rattle.base_ids.specs.declared.cell_id.CellId.TheVariants.{Planet}
use Rattle.catalog.specs.Technologies.{level_in}
use Rattle.catalog.specs.declared.kind.Kind.{Kind}
use Rattle.tick_model.specs.Buildings.{Works, can_pay, next_price, pays, started, starts_first}
use Rattle.tick_model.specs.Limits.{OthersWait, Rises, Waits}
use Rattle.tick_model.specs.Production.{level_of}
use Rattle.tick_model.specs.Researches.{can_start, starts_first_research, starts_research}
use Rattle.tick_model.specs.Universe.{Own, of_nothing, of_account, of_planet, AccountFields, PlanetFields, Item}
use Rattle.tick_model.specs.Yards.{begins_first, begun, yard_left}

-- an item that joins a queue is the next level of its kind if it is the first one, and else it waits
abbrev pub IsNext : (Kind → ℕ) → List Item → Item → Type 0
IsNext level [] item = item.level ≡ level item.kind + 1
IsNext level (first ∷ later) item = Waits item

-- a batch that isn't the first one waits
abbrev pub IsBehind : List Item → Item → Type 0
IsBehind [] batch = Unit {0}
IsBehind (first ∷ later) batch = Waits batch

pub next-same : (one other : Kind → ℕ) (items : List Item) (item : Item) → ((kind : Kind) → one kind ≡ other kind) → IsNext one items item → IsNext other items item
next-same one other [] item same next = let level = same item.kind in omega (arith, level, next)
next-same one other (first ∷ later) item same next = next

pub rises-same : (one other : Kind → ℕ) (items : List Item) → ((kind : Kind) → one kind ≡ other kind) → Rises one items → Rises other items
rises-same one other [] same rises = tt
rises-same one other (first ∷ later) same rises = (let level = same first.kind in let next = rises.0 in omega (arith, level, next), rises.1)

one-waits : (item : Item) → Waits item → All Waits (item ∷ [])
one-waits item waits = All-cons Waits item [] waits (All-nil Waits)

pub rises-joined : (level : Kind → ℕ) (items : List Item) (item : Item) → IsNext level items item → Rises level items → Rises level (items ++ item ∷ [])
rises-joined level [] item next rises = (next, All-nil Waits)
rises-joined level (first ∷ later) item next rises = (rises.0, All-append Waits later (item ∷ []) rises.1 (one-waits item next))

pub others-joined : (items : List Item) (item : Item) → IsBehind items item → OthersWait items → OthersWait (items ++ item ∷ [])
others-joined [] item behind wait = All-nil Waits
others-joined (first ∷ later) item behind wait = All-append Waits later (item ∷ []) wait (one-waits item behind)

pub behind-waits : (level : Kind → ℕ) (item : Item) (later : List Item) → Rises level (item ∷ later) → All Waits later
behind-waits level item later rises = rises.1

-- What starts of items that wait.

paid-level : (planet : PlanetFields) (k kind : Kind) → level_of planet kind ≡ level_of (pays planet k) kind
unfolding level_of
paid-level planet k kind = refl

pub building-rises : (speed second : ℕ) (planet : PlanetFields) (items : List Item) → All Waits items
    → Rises (level_of (starts_first speed second planet items).planet) (starts_first speed second planet items).queue
building-rises speed second planet [] wait = tt
building-rises speed second planet (item ∷ later) wait =
    let skipped = starts_first speed second planet later in
    let paid : Works = record { planet = pays planet item.kind; queue = started speed second planet item ∷ later } in
    elim (can_pay planet.stock (next_price planet item.kind)) as (λ b. Rises (level_of (cond b paid skipped).planet) (cond b paid skipped).queue) [
      | true ↦ (ap (λ (n : ℕ). n + 1) (paid-level planet item.kind item.kind), All-tail Waits item later wait)
      | false ↦ building-rises speed second planet later (All-tail Waits item later wait)
    ]

one-rises : (speed second : ℕ) (account : AccountFields) (own : CellId → Own) (payer : Own) (item : Item) (later : List Item) → All Waits later
    → Rises (level_in account.techs.n) (starts_research speed second account own payer item later).queue
one-rises speed second account own of_nothing item later wait = tt
one-rises speed second account own (of_account other) item later wait = tt
one-rises speed second account own (of_planet planet) item later wait = (refl, wait)

pub research-rises : (speed second : ℕ) (account : AccountFields) (own : CellId → Own) (items : List Item) → All Waits items
    → Rises (level_in account.techs.n) (starts_first_research speed second account own items).queue
research-rises speed second account own [] wait = tt
research-rises speed second account own (item ∷ later) wait =
    let skipped = starts_first_research speed second account own later in
    let paid = starts_research speed second account own (own (Planet item.place)) item later in
    elim (can_start speed account (own (Planet item.place)) item) as (λ b. Rises (level_in account.techs.n) (cond b paid skipped).queue) [
      | true ↦ one-rises speed second account own (own (Planet item.place)) item later (All-tail Waits item later wait)
      | false ↦ research-rises speed second account own later (All-tail Waits item later wait)
    ]

begins-wait : (speed second : ℕ) (planet : PlanetFields) (later : List Item) → All Waits later → OthersWait (begins_first speed second planet later)
begins-wait speed second planet [] wait = tt
begins-wait speed second planet (batch ∷ later) wait = All-tail Waits batch later wait

pub yard-waits : (speed : ℕ) (planet : PlanetFields) (batch : Item) (later : List Item) → All Waits later → OthersWait (yard_left speed planet batch later)
yard-waits speed planet batch later wait =
    let next = begins_first speed batch.second planet later in
    let rest = record batch { left = batch.left - 1; second = batch.second + batch.unit_seconds } in
    elim (nat_le batch.left 1) as (λ b. OthersWait (cond b next (rest ∷ later))) [
      | true ↦ begins-wait speed batch.second planet later wait
      | false ↦ wait
    ]
