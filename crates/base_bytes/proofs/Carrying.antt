-- What holds of a sound base holds of one that is told the same.
use Rattle.std.proofs.Common.{◌≡◌, ◌+◌, Bool, true, false, cond, List, [], ◌∷◌, ◌++◌, All, map, sum, sum_by, arith, refl, ap, ◌∙◌, sym}
use Rattle.std.specs.List.{AllZip}
use Rattle.std.proofs.lemmas.List.Elements.{All-head, All-tail}
use Rattle.std.proofs.lemmas.List.Sums.{sum_by-cons}
use Rattle.account_cell.specs.Account.{research_item, research_of}
use Rattle.account_cell.specs.declared.account.Account.{Account}
use Rattle.base_bytes.specs.Base.{all_items, planet_items}
use Rattle.base_bytes.specs.Sound.{IsSound, places_owned, planets_owned, units_counted, units_owned}
use Rattle.base_bytes.specs.Told.{AreAlike, AreSame, IsRead, IsTold}
use Rattle.base_bytes.specs.declared.base.Base.{Base}
use Rattle.base_bytes.proofs.Pairwise.{flat-same}
use Rattle.base_bytes.proofs.Telling.{places-same}
use Rattle.base_ids.specs.Cells.{same_player}
use Rattle.base_ids.specs.declared.coord.Coord.{Coord}
use Rattle.base_ids.specs.declared.player.Player.{Player}
use Rattle.planet_cell.specs.Planet.{batch_item_of, batches_of, buildings_of, fields_of, item_of, queue_of}
use Rattle.planet_cell.specs.declared.planet.Planet.{Planet}
use Rattle.tick_model.specs.Universe.{Buildings, QueueClass, Researches, Yard}
use Rattle.tick_model.specs.Views.{ships_of, units_left}

-- two accounts have the same, and the same planets
pub record AreEqual (x y : Account) : Type 0 where
  pub player : y.player ≡ x.player
  pub techs : y.techs ≡ x.techs
  pub places : y.planets.items ≡ x.planets.items
  pub units : y.units ≡ x.units
  pub research : y.research.items ≡ x.research.items

equal-all : (places others : Player → List Coord) → ((player : Player) → others player ≡ places player) → (xs ys : List Account) → AllZip AreAlike xs ys
    → All (λ (a : Account). a.planets.items ≡ places a.player) xs → All (λ (a : Account). a.planets.items ≡ others a.player) ys → AllZip AreEqual xs ys
equal-all places others known [] [] same one other = tt
equal-all places others known [] (y ∷ ys) same one other = absurd same
equal-all places others known (x ∷ xs) [] same one other = absurd same
equal-all places others known (x ∷ xs) (y ∷ ys) same one other =
    let here = All-head (λ (a : Account). a.planets.items ≡ places a.player) x xs one in
    let there = All-head (λ (a : Account). a.planets.items ≡ others a.player) y ys other in (
      record {
        player = same.0.player;
        techs = same.0.techs;
        places = there ∙ known y.player ∙ ap places same.0.player ∙ sym here;
        units = same.0.units;
        research = same.0.research;
      },
      equal-all places others known xs ys same.1 (All-tail (λ (a : Account). a.planets.items ≡ places a.player) x xs one) (All-tail (λ (a : Account). a.planets.items ≡ others a.player) y ys other),
    )

-- the accounts of a base and of the one that is told of it
pub accounts-equal : (base told : Base) → IsSound base → IsTold base told → IsRead told → AllZip AreEqual base.accounts.items told.accounts.items
accounts-equal base told sound same read =
    equal-all (λ player. places_owned player base.planets.items) (λ player. places_owned player told.planets.items)
    (λ player. places-same player base.planets.items told.planets.items same.planets)
    base.accounts.items told.accounts.items same.accounts sound.listed read.listed

-- The parts of planets and accounts that are the same.

pub fields-same : (x y : Planet) → AreSame x y → fields_of y ≡ fields_of x
fields-same x y same = λ i. record {
  owner = same.owner i;
  temperature = same.temperature i;
  fields = same.fields i;
  levels = same.levels i;
  tenths = same.tenths i;
  stock = same.stock i;
  debris = same.debris i;
  units = same.units i;
}

pub buildings-same : (x y : Planet) → AreSame x y → buildings_of y ≡ buildings_of x
buildings-same x y same = λ i. map (item_of (same.at i)) (same.buildings i)

pub batches-same : (x y : Planet) → AreSame x y → batches_of y ≡ batches_of x
batches-same x y same = λ i. map (batch_item_of (same.at i)) (same.yard i)

pub queue-at : (x y : Planet) → AreSame x y → (class : QueueClass) → queue_of y class ≡ queue_of x class
queue-at x y same Buildings = buildings-same x y same
queue-at x y same Researches = refl
queue-at x y same Yard = batches-same x y same

items-same : (x y : Planet) → AreSame x y → planet_items y ≡ planet_items x
items-same x y same = let first = buildings-same x y same in let second = batches-same x y same in λ i. first i ++ second i

pub research-same : (x y : Account) → AreEqual x y → research_of y ≡ research_of x
research-same x y same = λ i. map (research_item (same.player i)) (same.research i)

counted-same : (x y : Planet) → AreSame x y → units_counted y ≡ units_counted x
counted-same x y same = let left = batches-same x y same in λ i. sum (same.units i) + units_left (left i)

-- the items of all queues
pub all-items-same : (base told : Base) → AllZip AreEqual base.accounts.items told.accounts.items → IsTold base told
    → all_items told.accounts.items told.planets.items ≡ all_items base.accounts.items base.planets.items
all-items-same base told equal same =
    let first = flat-same research_of AreEqual research-same base.accounts.items told.accounts.items equal in
    let second = flat-same planet_items AreSame items-same base.planets.items told.planets.items same.planets in
    λ i. first i ++ second i

units-at : (b : Bool) (x y : Planet) (xs ys : List Planet) → units_counted y ≡ units_counted x → sum_by units_counted ys ≡ sum_by units_counted xs
    → sum_by units_counted (cond b (y ∷ ys) ys) ≡ sum_by units_counted (cond b (x ∷ xs) xs)
units-at true x y xs ys same rest = omega (arith, same, rest, sum_by-cons units_counted x xs, sum_by-cons units_counted y ys)
units-at false x y xs ys same rest = rest

-- the units of a player's planets
units-same : (player : Player) (first second : List Planet) → AllZip AreSame first second → sum_by units_counted (planets_owned player second) ≡ sum_by units_counted (planets_owned player first)
units-same player [] [] same = refl
units-same player [] (y ∷ second) same = absurd same
units-same player (x ∷ first) [] same = absurd same
units-same player (x ∷ first) (y ∷ second) same =
    ap (λ (owner : Player). sum_by units_counted (cond (same_player owner player) (y ∷ planets_owned player second) (planets_owned player second))) same.0.owner
    ∙ units-at (same_player x.owner player) x y (planets_owned player first) (planets_owned player second) (counted-same x y same.0) (units-same player first second same.1)

pub owned-same : (player : Player) (base told : Base) → IsTold base told → units_owned player told.planets.items told.fleets ≡ units_owned player base.planets.items base.fleets
owned-same player base told same =
    let first = units-same player base.planets.items told.planets.items same.planets in
    λ i. first i + sum_by (ships_of player) (same.fleets i)
