-- The seconds that stand in every state of a universe. Rules: docs/RULES.md, "Events" and "Fleets".
use Rattle.std.specs.Prelude.{◌≡◌, ℕ, ◌+◌, ◌<◌, ◌≤◌, ◌^◌, IsTrue}
use Rattle.catalog.specs.Classes.{is_building, is_technology, is_unit}
use Rattle.catalog.specs.declared.kind.Kind.{Kind}
use Rattle.tick_model.specs.Rules.{IsIn}
use Rattle.tick_model.specs.Universe.{QueueClass, Buildings, Researches, Yard, Fleet, Item, State}

-- a kind is one that a queue of a class has
abbrev pub IsOfClass : QueueClass → Kind → Type 0
IsOfClass Buildings kind = IsTrue (is_building kind)
IsOfClass Researches kind = IsTrue (is_technology kind)
IsOfClass Yard kind = IsTrue (is_unit kind)

-- What runs ends before second 2^42. A unit takes at most 2^41 seconds, and the next one of a batch is done at most so long after the
-- moment.
pub record IsTimed (moment : ℕ) (item : Item) : Type 0 where
  pub ends : item.second < 2 ^ 42
  pub paced : item.unit_seconds ≤ 2 ^ 41
  pub next : item.class ≡ Yard → item.second ≤ moment + item.unit_seconds

-- An item has a kind of its queue's class, the number of a request, and its time.
pub record IsOrder (moment : ℕ) (item : Item) : Type 0 where
  pub classed : IsOfClass item.class item.kind
  pub drawn : 1 ≤ item.number
  pub timed : IsTimed moment item

-- a fleet was sent by the moment, and lands before second 2^42
pub record IsFlight (moment : ℕ) (fleet : Fleet) : Type 0 where
  pub sent : fleet.launch ≤ moment
  pub lands : fleet.second < 2 ^ 42

-- Each item of a queue and each fleet has its time, at a moment.
pub record KeepsTime (moment : ℕ) (state : State) : Type 0 where
  pub ordered : (item : Item) → IsIn item state.items → IsOrder moment item
  pub flying : (fleet : Fleet) → IsIn fleet state.fleets → IsFlight moment fleet
