-- How the first of the items that wait is found.
use Rattle.std.proofs.Common.{◌≤◌, ◌≡◌, ℕ, zero, suc, get_or, true, false, List, [], ◌∷◌, map, drop, refl, ap, subst, ◌∙◌, ◌+◌, ◌<◌, length, arith, slice_index}
use Rattle.std.specs.Prelude.{None, Some, slice_get, slice_index_or, slice_set}
use Rattle.base_ids.specs.declared.coord.Coord.{Coord}
use Rattle.catalog.specs.Costs.{Cost}
use Rattle.catalog.specs.Kinds.{place_in}
use Rattle.catalog.specs.declared.classes.TheConstants.{BUILDINGS}
use Rattle.planet_cell.specs.Planet.{item_of}
use Rattle.planet_cell.specs.Queue.{Runs, finished, numbered}
use Rattle.ports.specs.declared.clock.TheConstants.{LATEST}
use Rattle.planet_cell.specs.declared.building_item.BuildingItem.{BuildingItem}
use Rattle.rates.specs.declared.resources.Resources.{Resources}
use Rattle.tick_model.specs.Buildings.{Works, can_pay, next_price, paid, raised, started, starts_first}
use Rattle.tick_model.specs.Production.{level_of}
use Rattle.tick_model.specs.Universe.{Item, PlanetFields, of_planet}

-- no item waits
pub starts_none : (speed second : ℕ) (planet : PlanetFields) (at : Coord) (items : List BuildingItem) → None ≡ slice_get items 0
    → record { planet = planet; queue = map (item_of at) items } ≡ starts_first speed second planet (map (item_of at) items)
starts_none speed second planet at [] none = refl
starts_none speed second planet at (first ∷ later) none = cc none

-- the first item can be paid
pub starts_now : (speed second : ℕ) (planet : PlanetFields) (at : Coord) (items : List BuildingItem) (first next : BuildingItem) (price : Cost) (stock : Resources)
    → Some first ≡ slice_get items 0 → price ≡ next_price planet first.kind.kind → can_pay planet.stock price ≡ true → stock ≡ paid planet.stock price
    → item_of at next ≡ started speed second planet (item_of at first)
    → record { planet = record planet { stock = stock }; queue = map (item_of at) (slice_set items 0 next) } ≡ starts_first speed second planet (map (item_of at) items)
starts_now speed second planet at [] first next price stock here cost enough left runs = cc here
starts_now speed second planet at (head ∷ later) first next price stock here cost enough left runs =
    let equal : first ≡ head = cc here in
    let costs : price ≡ next_price planet head.kind.kind = cost ∙ ap (λ (x : BuildingItem). next_price planet x.kind.kind) equal in
    let pays : can_pay planet.stock (next_price planet head.kind.kind) ≡ true = subst (λ (x : Cost). can_pay planet.stock x ≡ true) costs enough in
    let less : stock ≡ paid planet.stock (next_price planet head.kind.kind) = subst (λ (x : Cost). stock ≡ paid planet.stock x) costs left in
    let item : item_of at next ≡ started speed second planet (item_of at head) = runs ∙ ap (λ (x : BuildingItem). started speed second planet (item_of at x)) equal in
    let works : record { planet = record planet { stock = stock }; queue = item_of at next ∷ map (item_of at) later }
    ≡ record { planet = record planet { stock = paid planet.stock (next_price planet head.kind.kind) }; queue = started speed second planet (item_of at head) ∷ map (item_of at) later } =
    λ i. record { planet = record planet { stock = less i }; queue = item i ∷ map (item_of at) later } in
    rw pays works

-- the first item can't be paid, and is dropped
pub starts_later : (speed second : ℕ) (planet : PlanetFields) (at : Coord) (items : List BuildingItem) (first : BuildingItem) (price : Cost)
    → Some first ≡ slice_get items 0 → price ≡ next_price planet first.kind.kind → can_pay planet.stock price ≡ false
    → starts_first speed second planet (map (item_of at) (drop 1 items)) ≡ starts_first speed second planet (map (item_of at) items)
starts_later speed second planet at [] first price here cost poor = cc here
starts_later speed second planet at (head ∷ later) first price here cost poor =
    let equal : first ≡ head = cc here in
    let costs : price ≡ next_price planet head.kind.kind = cost ∙ ap (λ (x : BuildingItem). next_price planet x.kind.kind) equal in
    let fails : can_pay planet.stock (next_price planet head.kind.kind) ≡ false = subst (λ (x : Cost). can_pay planet.stock x ≡ false) costs poor in
    rw fails refl

-- the building that runs is done: its level rises, and then one of those that wait can start
pub finishes : (speed : ℕ) (planet next : PlanetFields) (at : Coord) (items later : List BuildingItem) (queue : List Item) (first : BuildingItem) (place : ℕ)
    → first ≡ slice_index_or items 0 first → 0 < length items → later ≡ drop 1 items → place ≡ place_in BUILDINGS first.kind.kind
    → record { planet = next; queue = queue } ≡ starts_first speed first.second (record planet { levels = slice_set planet.levels place (slice_index planet.levels place + 1) }) (map (item_of at) later)
    → record { own = of_planet next; queue = queue } ≡ finished speed planet (map (item_of at) items)
unfolding raised level_of
finishes speed planet next at [] later queue first place here some tail spot works = absurd (omega arith)
finishes speed planet next at (head ∷ rest) later queue first place here some tail spot works =
    let lists : later ≡ rest = tail in
    let equal : first ≡ head = here in
    let spots : place ≡ place_in BUILDINGS head.kind.kind = spot ∙ ap (λ (x : BuildingItem). place_in BUILDINGS x.kind.kind) equal in
    let result = λ (x : BuildingItem) (p : ℕ) (l : List BuildingItem). starts_first speed x.second (record planet { levels = slice_set planet.levels p (slice_index planet.levels p + 1) }) (map (item_of at) l) in
    let all : record { planet = next; queue = queue } ≡ starts_first speed head.second (raised planet head.kind.kind) (map (item_of at) rest) =
    works ∙ (λ i. result (equal i) (spots i) (lists i)) in
    ap (λ (x : Works). record { own = of_planet x.planet; queue = x.queue }) all

-- the last item of a queue gets its number
pub numbers : {X : Type 0} (item_for : X → Item) (number : ℕ) (items : List X) (place : ℕ) (last next : X) → place + 1 ≡ length items → last ≡ get_or items place last
    → item_for next ≡ record (item_for last) { number = number } → map item_for (slice_set items place next) ≡ numbered number (map item_for items)
numbers item_for number [] place last next here is same = absurd (omega arith)
numbers item_for number (item ∷ []) zero last next here is same = ap (λ (x : Item). x ∷ []) (same ∙ ap (λ x. record (item_for x) { number = number }) is)
numbers item_for number (item ∷ []) (suc place) last next here is same = absurd (omega arith)
numbers item_for number (item ∷ second ∷ later) zero last next here is same = absurd (omega arith)
numbers item_for number (item ∷ second ∷ later) (suc place) last next here is same =
    let rest = numbers item_for number (second ∷ later) place last next (omega arith) is same in
    ap (λ (x : List Item). item_for item ∷ x) rest

-- if the first item is done at a second that a clock can tell, a building runs
pub runs : (items : List BuildingItem) (first : BuildingItem) → Some first ≡ slice_get items 0 → first.second ≤ LATEST → Runs items
runs [] first here in_time = cc here
runs (head ∷ later) first here in_time =
    let equal : first ≡ head = cc here in
    subst (λ (x : BuildingItem). x.second ≤ LATEST) equal in_time
