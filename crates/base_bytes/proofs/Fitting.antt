-- A base that rules can make fits in bytes.
use Rattle.std.proofs.Common.{◌≡◌, ◌≤◌, ◌<◌, ◌^◌, List, [], ◌∷◌, ◌++◌, length, get_or, All, inl, inr, arith, subst, sym}
use Rattle.std.specs.Prelude.{map}
use Rattle.std.specs.List.{flat_map}
use Rattle.std.proofs.lemmas.List.Elements.{All-contains}
use Rattle.std.proofs.lemmas.List.Sums.{get_or-le-sum_by}
use Rattle.account_cell.specs.Account.{research_item, research_of}
use Rattle.account_cell.specs.declared.account.Account.{Account}
use Rattle.account_cell.specs.declared.research_item.ResearchItem.{ResearchItem}
use Rattle.base_bytes.specs.Base.{all_items, planet_items}
use Rattle.base_bytes.specs.Rules.{IsBase, IsInRange}
use Rattle.base_bytes.specs.Sound.{IsSound}
use Rattle.base_bytes.specs.Told.{AccountFits, BatchFits, FitsBytes, FleetFits, PlanetFits}
use Rattle.base_bytes.specs.declared.base.Base.{Base}
use Rattle.base_bytes.proofs.Among.{has-place, in-map}
use Rattle.base_bytes.proofs.Flying.{each-fleet}
use Rattle.base_bytes.proofs.Manning.{few-fleets}
use Rattle.base_bytes.proofs.Placed.{at-place}
use Rattle.catalog.specs.declared.classes.TheConstants.{TECHNOLOGIES, UNIT_KINDS}
use Rattle.fleet_rec.specs.Fleet.{fleet_seen}
use Rattle.fleet_rec.specs.declared.fleet.Fleet.{Fleet as FleetRecord}
use Rattle.planet_cell.specs.Planet.{batch_item_of, batches_of, buildings_of, item_of}
use Rattle.planet_cell.specs.declared.batch.Batch.{Batch}
use Rattle.planet_cell.specs.declared.building_item.BuildingItem.{BuildingItem}
use Rattle.planet_cell.specs.declared.planet.Planet.{Planet}
use Rattle.records.specs.Ranges.{CountsFit}
use Rattle.tick_model.specs.Rules.{IsIn}
use Rattle.tick_model.specs.Universe.{Fleet, Item}

-- what holds of all that is among a list holds of each element
pub each-of : {A : Type 0} (P : A → Type 0) (xs : List A) → ((x : A) → IsIn x xs → P x) → All P xs
each-of P xs holds = λ i d below. holds (get_or xs i d) (at-place xs i d below)

pub in-left : {A : Type 0} (x : A) (xs ys : List A) → IsIn x xs → IsIn x (xs ++ ys)
in-left x [] ys is = absurd is
in-left x (first ∷ xs) ys (inl same) = inl same
in-left x (first ∷ xs) ys (inr later) = inr (in-left x xs ys later)

pub in-right : {A : Type 0} (x : A) (xs ys : List A) → IsIn x ys → IsIn x (xs ++ ys)
in-right x [] ys is = is
in-right x (first ∷ xs) ys is = inr (in-right x xs ys is)

pub in-flat : {A B : Type 0} (f : A → List B) (y : B) (x : A) (xs : List A) → IsIn x xs → IsIn y (f x) → IsIn y (flat_map f xs)
in-flat f y x [] is has = absurd is
in-flat f y x (first ∷ xs) (inl same) has = in-left y (f first) (flat_map f xs) (subst (λ z. IsIn y (f z)) same has)
in-flat f y x (first ∷ xs) (inr later) has = in-right y (f first) (flat_map f xs) (in-flat f y x xs later has)

-- the number of an item is a request's
drawn-low : (base : Base) (item : Item) → IsSound base → IsIn item (all_items base.accounts.items base.planets.items) → item.number < 2 ^ 64
drawn-low base item sound is =
    let all = all_items base.accounts.items base.planets.items in
    let drawn = All-contains (λ (i : Item). (1 ≤ i.number) × (i.number ≤ base.number)) all item sound.drawn (has-place item all is) in
    omega (arith, drawn.1, base.number_to)

research-low : (base : Base) (account : Account) (item : ResearchItem) → IsSound base → IsIn account base.accounts.items → IsIn item account.research.items → item.number < 2 ^ 64
research-low base account item sound is has =
    let seen = research_item account.player item in
    drawn-low base seen sound
    (in-left seen (flat_map research_of base.accounts.items) (flat_map planet_items base.planets.items)
    (in-flat research_of seen account base.accounts.items is (in-map (research_item account.player) item account.research.items has)))

account-fits : (base : Base) (account : Account) → IsBase base → IsIn account base.accounts.items → AccountFits account
account-fits base account fine is = record {
  levels = All-contains (λ (a : Account). length a.techs.n ≡ length TECHNOLOGIES) base.accounts.items account fine.levels (has-place account base.accounts.items is);
  numbers = each-of (λ (item : ResearchItem). item.number < 2 ^ 64) account.research.items (λ item has. research-low base account item fine.sound is has);
}

planet-item : (base : Base) (planet : Planet) (item : Item) → IsSound base → IsIn planet base.planets.items → IsIn item (planet_items planet) → item.number < 2 ^ 64
planet-item base planet item sound is has =
    drawn-low base item sound (in-right item (flat_map research_of base.accounts.items) (flat_map planet_items base.planets.items) (in-flat planet_items item planet base.planets.items is has))

units-fit : (base : Base) (planet : Planet) → IsSound base → IsIn planet base.planets.items → CountsFit planet.units (length UNIT_KINDS)
units-fit base planet sound is =
    let kinds = All-contains (λ (p : Planet). length p.units ≡ length UNIT_KINDS) base.planets.items planet sound.kinds (has-place planet base.planets.items is) in
    record {
      size = kinds;
      each = λ k below. omega (arith, planet.within_units, get_or-le-sum_by (λ n. n) planet.units k 0 (omega (arith, below, kinds)));
    }

batches-fit : (base : Base) (planet : Planet) → IsSound base → IsIn planet base.planets.items → All BatchFits planet.yard.items
batches-fit base planet sound is = λ i d below.
    let batch = get_or planet.yard.items i d in
    let item = batch_item_of planet.at batch in
    let has = in-right item (buildings_of planet) (batches_of planet) (in-map (batch_item_of planet.at) batch planet.yard.items (at-place planet.yard.items i d below)) in
    (planet-item base planet item sound is has, omega (arith, planet.within_units, get_or-le-sum_by (λ (b : Batch). b.left) planet.yard.items i d below))

planet-fits : (base : Base) (planet : Planet) → IsBase base → IsIn planet base.planets.items → PlanetFits planet
planet-fits base planet fine is =
    let range = All-contains IsInRange base.planets.items planet fine.ranges (has-place planet base.planets.items is) in
    record {
      ground = record { fields = omega (arith, range.fields); levels = range.levels; tenths = range.tenths };
      goods = record { metal = omega (arith, range.metal); crystal = omega (arith, range.crystal); units = units-fit base planet fine.sound is };
      works = record {
        buildings = each-of (λ (item : BuildingItem). item.number < 2 ^ 64) planet.buildings.items (λ item has.
            planet-item base planet (item_of planet.at item) fine.sound is
            (in-left (item_of planet.at item) (buildings_of planet) (batches_of planet) (in-map (item_of planet.at) item planet.buildings.items has)));
        yard = batches-fit base planet fine.sound is;
      };
    }

fleet-fits : (base : Base) (held : List FleetRecord) (fleet : FleetRecord) → IsSound base → base.fleets ≡ map fleet_seen held → IsIn fleet held → FleetFits base.planets.items fleet
fleet-fits base held fleet sound same is =
    let flies : IsIn (fleet_seen fleet) base.fleets = subst (λ (l : List Fleet). IsIn (fleet_seen fleet) l) (sym same) (in-map fleet_seen fleet held is) in
    record {
      in_time = (each-fleet base (fleet_seen fleet) sound flies).in_time;
      target = (each-fleet base (fleet_seen fleet) sound flies).reaches;
    }

-- a base of the rules, with a seed of 64 bits
pub fits-bytes : (base : Base) → IsBase base → base.seed < 2 ^ 64 → FitsBytes base
fits-bytes base fine seed = record {
  seed = seed;
  sizes = record { accounts = fine.players; planets = fine.planets; fleets = few-fleets base fine.sound fine.players };
  accounts = each-of AccountFits base.accounts.items (λ account is. account-fits base account fine is);
  planets = each-of PlanetFits base.planets.items (λ planet is. planet-fits base planet fine is);
  rise = fine.sound.planets_rise;
  held = fine.fleets.0;
  fleets = fine.fleets.1;
  flying = each-of (FleetFits base.planets.items) fine.fleets.0 (λ fleet is. fleet-fits base fine.fleets.0 fleet fine.sound fine.fleets.1 is);
}
