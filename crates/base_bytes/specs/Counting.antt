-- What is gathered from a base that was read, for each player and for each number.
use Rattle.std.specs.Prelude.{◌≡◌, ℕ, ◌==◌, ◌&&◌, ◌++◌, ◌^◌, ◌-◌, List, [], Option, None, Some, AllPairs, Bool, MatchBool, false, min}
use Rattle.std.specs.Global.{Vec}
use Rattle.std.specs.BTreeMap.{BTreeMap, get}
use Rattle.std.specs.BTreeSet.{BTreeSet, contains}
use Rattle.std.specs.List.{list_any}
use Rattle.std.specs.Ordering.{nat_cmp}
use Rattle.std.specs.declared.cmp.Ordering.{Ordering}
use Rattle.base_bytes.specs.Sound.{places_owned, units_owned}
use Rattle.base_bytes.specs.declared.distinct.Met.{Met}
use Rattle.base_ids.specs.declared.coord.Coord.{Coord}
use Rattle.base_ids.specs.declared.player.Player.{Player}
use Rattle.planet_cell.specs.declared.planet.Planet.{Planet}
use Rattle.tick_model.specs.Rules.{same_order}
use Rattle.tick_model.specs.Universe.{Buildings, Fleet, Item, QueueClass, Researches, Yard, same_class}

-- the order of players
abbrev pub player_order : Player → Player → Ordering
player_order a b = nat_cmp a.k b.k

-- the places that stand in a map, if any do
abbrev pub places_in : Option (Vec Coord) → List Coord
places_in None = []
places_in (Some places) = places.items

-- the map has the places of the planets of each player
abbrev pub HasPlaces : BTreeMap Player (Vec Coord) → List Planet → Type 0
HasPlaces owners planets = (player : Player) → places_in (get player_order owners player) ≡ places_owned player planets

-- the count that stands in a map, if one does
abbrev pub count_in : Option ℕ → ℕ
count_in None = 0
count_in (Some count) = count

-- the map has how many units each player has, or 2^64 − 1 if there are more
abbrev pub HasUnits : BTreeMap Player ℕ → List Planet → List Fleet → Type 0
HasUnits counts planets fleets = (player : Player) → count_in (get player_order counts player) ≡ min (units_owned player planets fleets) (2 ^ 64 - 1)

-- the numbers that were met of a class
abbrev pub met_in : Met → QueueClass → BTreeSet ℕ
met_in met Researches = met.research
met_in met Buildings = met.buildings
met_in met Yard = met.batches

-- whether an item of a class bears a number
abbrev pub bears : QueueClass → ℕ → Item → Bool
bears class number item = same_class class item.class && number == item.number

-- no two items of one class bear the same number
abbrev pub AreOnce : List Item → Type 0
AreOnce items = AllPairs (λ first second. same_order first second ≡ false) items

-- Just these items were met, and no two of one class bear the same number.
pub record HaveMet (items : List Item) (met : Met) : Type 0 where
  pub numbers : (class : QueueClass) (number : ℕ) → contains nat_cmp (met_in met class) number ≡ list_any (bears class number) items
  pub once : AreOnce items

-- besides, these items are met; if not all of them can be, two bear the same number
abbrev pub Meets : List Item → Met → Met → Bool → Type 0
Meets items old new all = (before : List Item) → HaveMet before old → MatchBool all (HaveMet (before ++ items) new) (AreOnce (before ++ items) → ⊥)
