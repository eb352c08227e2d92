-- The universe of a sound base has its items and its fleets in their times.
use Rattle.std.proofs.Common.{◌≤◌, List, inl, inr, sym, subst}
use Rattle.std.proofs.lemmas.List.Elements.{All-contains}
use Rattle.account_cell.specs.Account.{research_item, research_of}
use Rattle.account_cell.specs.declared.account.Account.{Account}
use Rattle.base_bytes.specs.Base.{all_items, planet_items, universe_of}
use Rattle.base_bytes.specs.Sound.{IsSound}
use Rattle.base_bytes.specs.declared.base.Base.{Base}
use Rattle.base_bytes.proofs.Among.{from-flat, from-map, has-place}
use Rattle.base_bytes.proofs.Flying.{each-fleet}
use Rattle.planet_cell.specs.Planet.{batch_item_of, batches_of, buildings_of, item_of}
use Rattle.planet_cell.specs.declared.planet.Planet.{Planet}
use Rattle.std.specs.List.{flat_map}
use Rattle.tick_model.proofs.Lists.{in-append}
use Rattle.tick_model.specs.Moments.{IsOfClass, IsTimed, KeepsTime}
use Rattle.tick_model.specs.Rules.{IsIn}
use Rattle.tick_model.specs.Universe.{Item}

abbrev IsClassed : Item → Type 0
IsClassed item = IsOfClass item.class item.kind

research-classed : (account : Account) (item : Item) → IsIn item (research_of account) → IsClassed item
research-classed account item is =
    let found = from-map (research_item account.player) item account.research.items is in
    subst IsClassed (sym found.2) found.0.kind.class

planet-classed : (planet : Planet) (item : Item) → IsIn item (planet_items planet) → IsClassed item
planet-classed planet item is =
    elim (in-append item (buildings_of planet) (batches_of planet) is) [
      | inl built ↦ (let found = from-map (item_of planet.at) item planet.buildings.items built in subst IsClassed (sym found.2) found.0.kind.class)
      | inr made ↦ (let found = from-map (batch_item_of planet.at) item planet.yard.items made in subst IsClassed (sym found.2) found.0.kind.class)
    ]

-- each item has a kind of its queue's class
classed : (accounts : List Account) (planets : List Planet) (item : Item) → IsIn item (all_items accounts planets) → IsClassed item
classed accounts planets item is =
    elim (in-append item (flat_map research_of accounts) (flat_map planet_items planets) is) [
      | inl researched ↦ (let found = from-flat research_of item accounts researched in research-classed found.0 item found.2)
      | inr ordered ↦ (let found = from-flat planet_items item planets ordered in planet-classed found.0 item found.2)
    ]

pub keeps-time : (base : Base) → IsSound base → KeepsTime base.moment (universe_of base).state
keeps-time base sound =
    let items = all_items base.accounts.items base.planets.items in
    record {
      ordered = λ item is.
          let place = has-place item items is in
          record {
            classed = classed base.accounts.items base.planets.items item is;
            drawn = (All-contains (λ (x : Item). (1 ≤ x.number) × (x.number ≤ base.number)) items item sound.drawn place).0;
            timed = All-contains (IsTimed base.moment) items item sound.timed place;
          };
      flying = λ fleet is. let one = each-fleet base fleet sound is in record { sent = one.sent; lands = one.in_time };
    }
