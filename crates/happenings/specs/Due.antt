-- Which event of the cells that are held is due first. Rule: docs/RULES.md, "Events".
use Rattle.std.specs.Prelude.{◌≡◌, ℕ, ◌<◌, ◌≤◌, Bool, true, false, List, [], ◌∷◌, Option, None, Some, nat_le, if◌then◌else◌}
use Rattle.std.specs.List.{AllByRecursion}
use Rattle.base_ids.specs.Order.{EventKey, key_before}
use Rattle.base_ids.specs.declared.coord.Coord.{Coord}
use Rattle.base_ids.specs.declared.player.Player.{Player}
use Rattle.account_cell.specs.Account.{research_of}
use Rattle.planet_cell.specs.Planet.{batches_of, buildings_of}
use Rattle.tick_model.specs.Events.{key_of, step_of}
use Rattle.tick_model.specs.Universe.{Item}
use Rattle.happenings.specs.Queues.{class_of, event_of, items_held}
use Rattle.happenings.specs.declared.due.Due.{Due}
use Rattle.happenings.specs.declared.held.AccountCell.{AccountCell}
use Rattle.happenings.specs.declared.held.Held.{Held}
use Rattle.happenings.specs.declared.held.PlanetCell.{PlanetCell}
use Rattle.happenings.specs.declared.queue.Queue.{Queue}
use Rattle.happenings.specs.declared.queue.Queue.TheVariants.{Buildings, Research, Yard}

-- the key of what is due
abbrev pub key_at : Due → EventKey
key_at due = record { second = due.second; number = due.number; step = step_of (class_of due.queue) }

-- the first of two, each of which may be missing, by what orders them
abbrev pub sooner_of : {D : Type 0} → (D → EventKey) → Option D → Option D → Option D
sooner_of key None other = other
sooner_of key (Some one) None = Some one
sooner_of key (Some one) (Some other) = if key_before (key other) (key one) then Some other else Some one

-- the first item of a queue, if it is due by a moment
abbrev pub first_of : ℕ → Queue → List Item → Option Due
first_of moment queue [] = None
first_of moment queue (item ∷ later) =
    if nat_le item.second moment then Some (record { second = item.second; number = item.number; queue = queue }) else None

-- what the planet at a place owes by a moment
abbrev pub owed_by_planet : ℕ → Coord → PlanetCell → Option Due
owed_by_planet moment at cell = sooner_of key_at (first_of moment (Buildings at) (buildings_of cell.planet)) (first_of moment (Yard at) (batches_of cell.planet))

-- what the account of a player owes by a moment
abbrev pub owed_by_account : ℕ → Player → AccountCell → Option Due
owed_by_account moment player cell = first_of moment (Research player) (research_of cell.account)

-- The first item of a queue that is held is due by a moment, and of these queues none that is due by then has one that comes before it.
pub record IsFirstOfThese (these : Queue → Bool) (held : Held) (moment : ℕ) (due : Due) : Type 0 where
  pub item : Item
  pub later : List Item
  pub owed : items_held held due.queue ≡ item ∷ later
  pub second : item.second ≡ due.second
  pub number : item.number ≡ due.number
  pub due_by : due.second ≤ moment
  pub first : (queue : Queue) (other : Item) (more : List Item) → these queue ≡ true → items_held held queue ≡ other ∷ more → other.second ≤ moment
      → key_before (key_of (event_of queue other more)) (key_at due) ≡ false

-- no item of these queues that is held is due by a moment
abbrev pub IsNoneOfThese : (Queue → Bool) → Held → ℕ → Type 0
IsNoneOfThese these held moment = (queue : Queue) (item : Item) (later : List Item) → these queue ≡ true → items_held held queue ≡ item ∷ later → moment < item.second

-- what is due first of all queues that are held
abbrev pub IsFirstOfQueues : Held → ℕ → Due → Type 0
IsFirstOfQueues held moment due = IsFirstOfThese (λ queue. true) held moment due

abbrev pub IsNoneOfQueues : Held → ℕ → Type 0
IsNoneOfQueues held moment = IsNoneOfThese (λ queue. true) held moment

-- the research queues, and those of planets
abbrev pub is_research : Queue → Bool
is_research (Buildings at) = false
is_research (Research player) = true
is_research (Yard at) = false

abbrev pub is_of_planet : Queue → Bool
is_of_planet (Buildings at) = true
is_of_planet (Research player) = false
is_of_planet (Yard at) = true

-- it is the first that some cells owe, of which this holds, and none if none owes anything
abbrev pub IsFirstOwed : {A D : Type 0} → (D → EventKey) → (A → Option D) → (A → Type 0) → List A → Option D → Type 0
IsFirstOwed key owed there cells None = AllByRecursion (λ cell. owed cell ≡ None) cells
IsFirstOwed {A} {D} key owed there cells (Some first) =
    ((cell : A) × there cell × (owed cell ≡ Some first)) × AllByRecursion (λ cell. (other : D) → owed cell ≡ Some other → key_before (key other) (key first) ≡ false) cells
