-- The items of a cell among those of all queues.
use Rattle.std.proofs.Common.{◌≡◌, ◌≢◌, true, false, List, [], ◌∷◌, ◌++◌, inl, inr, refl, ap, ◌∙◌, sym, subst}
use Rattle.std.specs.Prelude.{AllPairs}
use Rattle.std.specs.List.{flat_map}
use Rattle.std.proofs.lemmas.List.{append-nil}
use Rattle.std.proofs.lemmas.List.Elements.{filter-append}
use Rattle.account_cell.specs.Account.{account_queue, research_item, research_of}
use Rattle.account_cell.specs.declared.account.Account.{Account}
use Rattle.base_bytes.specs.Base.{all_items, planet_items}
use Rattle.base_bytes.proofs.Among.{from-flat, from-map, pairs-first, pairs-later}
use Rattle.base_ids.proofs.Ordering.{coords_ordered, players_ordered}
use Rattle.base_ids.specs.Cells.{same_cell}
use Rattle.base_ids.specs.Order.{coord_before, player_before}
use Rattle.base_ids.specs.declared.cell_id.CellId.{CellId}
use Rattle.base_ids.specs.declared.cell_id.CellId.TheVariants.{Account as AccountId, Planet as PlanetId}
use Rattle.base_ids.specs.declared.coord.Coord.{Coord}
use Rattle.base_ids.specs.declared.player.Player.{Player}
use Rattle.laziness.proofs.Bringing.{never}
use Rattle.planet_cell.specs.Planet.{batch_item_of, batches_of, buildings_of, item_of, queue_of}
use Rattle.planet_cell.specs.declared.planet.Planet.{Planet}
use Rattle.tick_model.proofs.Lists.{and-is, cell-is, fails, filter-all, filter-none, in-append}
use Rattle.tick_model.proofs.Queues.{stands-there}
use Rattle.tick_model.specs.Rules.{IsIn}
use Rattle.tick_model.specs.Universe.{Item, QueueClass, Buildings, Researches, Yard, same_class}
use Rattle.tick_model.specs.Views.{queue_in, stands_in}

module _ {A : Type 0} (items : A → List Item) (name : A → CellId) (owned : (x : A) (item : Item) → IsIn item (items x) → item.cell ≡ name x) where
  -- no item stands in a cell that is none of these
  pub none-flat : (xs : List A) (cell : CellId) (class : QueueClass) → ((x : A) → IsIn x xs → name x ≡ cell → ⊥) → queue_in (flat_map items xs) cell class ≡ []
  none-flat xs cell class none =
      filter-none (stands_in cell class) (flat_map items xs) (λ item is.
      let found = from-flat items item xs is in
      fails (stands_in cell class item) (λ there.
      none found.0 found.1 (sym (owned found.0 item found.2) ∙ sym (cell-is cell item.cell (and-is (same_cell cell item.cell) (same_class class item.class) there).0))))

  -- the items of a cell that is one of these are its own
  pub one-flat : (xs : List A) (x : A) (class : QueueClass) → AllPairs (λ a b. name a ≢ name b) xs → IsIn x xs → queue_in (flat_map items xs) (name x) class ≡ queue_in (items x) (name x) class
  one-flat [] x class apart is = absurd is
  one-flat (first ∷ xs) x class apart (inl same) =
      let rest = none-flat xs (name x) class (λ other has one. pairs-first (λ a b. name a ≢ name b) first other xs apart has (ap name (sym same) ∙ sym one)) in
      filter-append (stands_in (name x) class) (items first) (flat_map items xs)
      ∙ (λ i. queue_in (items (sym same i)) (name x) class ++ rest i) ∙ append-nil (queue_in (items x) (name x) class)
  one-flat (first ∷ xs) x class apart (inr later) =
      let none = filter-none (stands_in (name x) class) (items first) (λ item is.
      fails (stands_in (name x) class item) (λ there.
      pairs-first (λ a b. name a ≢ name b) first x xs apart later (
      sym (owned first item is) ∙ sym (cell-is (name x) item.cell (and-is (same_cell (name x) item.cell) (same_class class item.class) there).0)))) in
      filter-append (stands_in (name x) class) (items first) (flat_map items xs)
      ∙ (λ i. none i ++ one-flat xs x class (pairs-later (λ a b. name a ≢ name b) first xs apart) later i)

-- Of items of one queue all stand in it, and none in another one.
all-there : (items : List Item) (cell : CellId) (class : QueueClass) → ((item : Item) → IsIn item items → (item.cell ≡ cell) × (item.class ≡ class)) → queue_in items cell class ≡ items
all-there items cell class are = filter-all (stands_in cell class) items (λ item is. stands-there cell class item (are item is).0 (are item is).1)

none-there : (items : List Item) (cell : CellId) (class other : QueueClass) → same_class other class ≡ false → ((item : Item) → IsIn item items → item.class ≡ class) → queue_in items cell other ≡ []
none-there items cell class other apart are =
    filter-none (stands_in cell other) items (λ item is.
    fails (stands_in cell other item) (λ there.
    never (same_class other class) (ap (same_class other) (sym (are item is)) ∙ (and-is (same_cell cell item.cell) (same_class other item.class) there).1) apart))

-- Accounts.

pub research-is : (account : Account) (item : Item) → IsIn item (research_of account) → (item.cell ≡ AccountId account.player) × (item.class ≡ Researches)
research-is account item is =
    let comes = from-map (research_item account.player) item account.research.items is in
    (ap (λ (i : Item). i.cell) comes.2, ap (λ (i : Item). i.class) comes.2)

own-research : (account : Account) (class : QueueClass) → queue_in (research_of account) (AccountId account.player) class ≡ account_queue account class
own-research account Buildings = none-there (research_of account) (AccountId account.player) Researches Buildings refl (λ item is. (research-is account item is).1)
own-research account Researches = all-there (research_of account) (AccountId account.player) Researches (research-is account)
own-research account Yard = none-there (research_of account) (AccountId account.player) Researches Yard refl (λ item is. (research-is account item is).1)

apart-players : (accounts : List Account) → AllPairs (λ first second. player_before first.player second.player ≡ true) accounts → AllPairs (λ a b. AccountId a.player ≢ AccountId b.player) accounts
apart-players accounts rise = λ i j a first below same.
    let before = rise i j a first below in
    player-apart before same
  where
    name-of : Player → CellId → Player
    name-of other (AccountId k) = k
    name-of other (PlanetId at) = other

    player-apart : {a b : Player} → player_before a b ≡ true → AccountId a ≡ AccountId b → ⊥
    player-apart {a} {b} before same =
        let one : a ≡ b = ap (name-of a) same in
        never (player_before b b) (subst (λ k. player_before k b ≡ true) one before) (players_ordered.never_itself b)

-- Planets.

building-is : (planet : Planet) (item : Item) → IsIn item (buildings_of planet) → (item.cell ≡ PlanetId planet.at) × (item.class ≡ Buildings)
building-is planet item is =
    let comes = from-map (item_of planet.at) item planet.buildings.items is in
    (ap (λ (i : Item). i.cell) comes.2, ap (λ (i : Item). i.class) comes.2)

batch-is : (planet : Planet) (item : Item) → IsIn item (batches_of planet) → (item.cell ≡ PlanetId planet.at) × (item.class ≡ Yard)
batch-is planet item is =
    let comes = from-map (batch_item_of planet.at) item planet.yard.items is in
    (ap (λ (i : Item). i.cell) comes.2, ap (λ (i : Item). i.class) comes.2)

pub item-cell : (planet : Planet) (item : Item) → IsIn item (planet_items planet) → item.cell ≡ PlanetId planet.at
item-cell planet item is =
    elim (in-append item (buildings_of planet) (batches_of planet) is) [
      | inl building ↦ (building-is planet item building).0
      | inr batch ↦ (batch-is planet item batch).0
    ]

own-items : (planet : Planet) (class : QueueClass) → queue_in (planet_items planet) (PlanetId planet.at) class ≡ queue_of planet class
own-items planet Buildings =
    let all = all-there (buildings_of planet) (PlanetId planet.at) Buildings (building-is planet) in
    let none = none-there (batches_of planet) (PlanetId planet.at) Yard Buildings refl (λ item is. (batch-is planet item is).1) in
    filter-append (stands_in (PlanetId planet.at) Buildings) (buildings_of planet) (batches_of planet) ∙ (λ i. all i ++ none i) ∙ append-nil (buildings_of planet)
own-items planet Researches =
    let first = none-there (buildings_of planet) (PlanetId planet.at) Buildings Researches refl (λ item is. (building-is planet item is).1) in
    let second = none-there (batches_of planet) (PlanetId planet.at) Yard Researches refl (λ item is. (batch-is planet item is).1) in
    filter-append (stands_in (PlanetId planet.at) Researches) (buildings_of planet) (batches_of planet) ∙ (λ i. first i ++ second i)
own-items planet Yard =
    let none = none-there (buildings_of planet) (PlanetId planet.at) Buildings Yard refl (λ item is. (building-is planet item is).1) in
    let all = all-there (batches_of planet) (PlanetId planet.at) Yard (batch-is planet) in
    filter-append (stands_in (PlanetId planet.at) Yard) (buildings_of planet) (batches_of planet) ∙ (λ i. none i ++ all i)

apart-places : (planets : List Planet) → AllPairs (λ first second. coord_before first.at second.at ≡ true) planets → AllPairs (λ a b. PlanetId a.at ≢ PlanetId b.at) planets
apart-places planets rise = λ i j a first below same.
    let before = rise i j a first below in
    place-apart before same
  where
    place-of : Coord → CellId → Coord
    place-of other (AccountId k) = other
    place-of other (PlanetId at) = at

    place-apart : {a b : Coord} → coord_before a b ≡ true → PlanetId a ≡ PlanetId b → ⊥
    place-apart {a} {b} before same =
        let one : a ≡ b = ap (place-of a) same in
        never (coord_before b b) (subst (λ k. coord_before k b ≡ true) one before) (coords_ordered.never_itself b)

-- All of them.

all-in : (accounts : List Account) (planets : List Planet) (cell : CellId) (class : QueueClass)
    → queue_in (all_items accounts planets) cell class ≡ queue_in (flat_map research_of accounts) cell class ++ queue_in (flat_map planet_items planets) cell class
all-in accounts planets cell class = filter-append (stands_in cell class) (flat_map research_of accounts) (flat_map planet_items planets)

no-planet : (player : Player) (planet : Planet) → PlanetId planet.at ≡ AccountId player → ⊥
no-planet player planet same = cc

no-account : (at : Coord) (account : Account) → AccountId account.player ≡ PlanetId at → ⊥
no-account at account same = cc

no-research : (accounts : List Account) (at : Coord) (class : QueueClass) → queue_in (flat_map research_of accounts) (PlanetId at) class ≡ []
no-research accounts at class =
    none-flat research_of (λ account. AccountId account.player) (λ account item is. (research-is account item is).0) accounts (PlanetId at) class (λ account is same. no-account at account same)

no-building : (planets : List Planet) (player : Player) (class : QueueClass) → queue_in (flat_map planet_items planets) (AccountId player) class ≡ []
no-building planets player class = none-flat planet_items (λ planet. PlanetId planet.at) item-cell planets (AccountId player) class (λ planet is same. no-planet player planet same)

-- the queues of an account
pub account-queue : (accounts : List Account) (planets : List Planet) (account : Account) (class : QueueClass) → AllPairs (λ first second. player_before first.player second.player ≡ true) accounts
    → IsIn account accounts → queue_in (all_items accounts planets) (AccountId account.player) class ≡ account_queue account class
account-queue accounts planets account class rise is =
    let own = one-flat research_of (λ account. AccountId account.player) (λ account item is. (research-is account item is).0) accounts account class (apart-players accounts rise) is ∙ own-research account class in
    all-in accounts planets (AccountId account.player) class ∙ (λ i. own i ++ no-building planets account.player class i) ∙ append-nil (account_queue account class)

-- the queues of a planet
pub planet-queue : (accounts : List Account) (planets : List Planet) (planet : Planet) (class : QueueClass) → AllPairs (λ first second. coord_before first.at second.at ≡ true) planets
    → IsIn planet planets → queue_in (all_items accounts planets) (PlanetId planet.at) class ≡ queue_of planet class
planet-queue accounts planets planet class rise is =
    let own = one-flat planet_items (λ planet. PlanetId planet.at) item-cell planets planet class (apart-places planets rise) is ∙ own-items planet class in
    all-in accounts planets (PlanetId planet.at) class ∙ (λ i. no-research accounts planet.at class i ++ own i)

-- the queues of a cell that is none of them
pub no-account-queue : (accounts : List Account) (planets : List Planet) (player : Player) (class : QueueClass) → ((account : Account) → IsIn account accounts → AccountId account.player ≡ AccountId player → ⊥)
    → queue_in (all_items accounts planets) (AccountId player) class ≡ []
no-account-queue accounts planets player class none =
    let own = none-flat research_of (λ account. AccountId account.player) (λ account item is. (research-is account item is).0) accounts (AccountId player) class none in
    all-in accounts planets (AccountId player) class ∙ (λ i. own i ++ no-building planets player class i)

pub no-planet-queue : (accounts : List Account) (planets : List Planet) (at : Coord) (class : QueueClass) → ((planet : Planet) → IsIn planet planets → PlanetId planet.at ≡ PlanetId at → ⊥)
    → queue_in (all_items accounts planets) (PlanetId at) class ≡ []
no-planet-queue accounts planets at class none =
    let own = none-flat planet_items (λ planet. PlanetId planet.at) item-cell planets (PlanetId at) class none in
    all-in accounts planets (PlanetId at) class ∙ (λ i. no-research accounts at class i ++ own i)
