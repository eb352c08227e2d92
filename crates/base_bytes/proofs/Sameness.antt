-- What is told of a sound base is sound.
use Rattle.std.proofs.Math.Path.{fun_ext}
use Rattle.std.proofs.Common.{◌≡◌, ℕ, ◌≤◌, ◌<◌, true, false, List, All, length, ap, ◌∙◌, subst, sym}
use Rattle.std.specs.Prelude.{AllPairs, map}
use Rattle.std.specs.List.{Contains}
use Rattle.account_cell.specs.Account.{account_fields, research_of}
use Rattle.account_cell.specs.declared.account.Account.{Account}
use Rattle.account_cell.specs.declared.research_item.ResearchItem.{ResearchItem}
use Rattle.base_bytes.specs.Sound.{HasSlots, IsSound, IsSoundFleet, RunsAfter, units_owned}
use Rattle.base_bytes.specs.Told.{AreSame, IsRead, IsTold}
use Rattle.base_bytes.specs.declared.base.Base.{Base}
use Rattle.base_bytes.proofs.Carrying.{AreEqual, accounts-equal, all-items-same, batches-same, buildings-same, fields-same, owned-same, queue-at, research-same}
use Rattle.base_bytes.proofs.Pairwise.{all-carried, carry-2, map-same, pairs-carried}
use Rattle.base_bytes.proofs.Telling.{places-same, rise-same}
use Rattle.base_ids.specs.Order.{player_before}
use Rattle.base_ids.specs.declared.coord.Coord.{Coord}
use Rattle.base_ids.specs.declared.player.Player.{Player}
use Rattle.catalog.specs.declared.classes.TheConstants.{UNIT_KINDS}
use Rattle.planet_cell.specs.Planet.{batches_of, buildings_of, fields_of, queue_of}
use Rattle.planet_cell.specs.declared.planet.Planet.{Planet}
use Rattle.tick_model.specs.Limits.{KeepsLevels, KeepsTechs}
use Rattle.tick_model.specs.Lines.{own_fleets, slots_of}
use Rattle.tick_model.specs.Moments.{IsTimed}
use Rattle.tick_model.specs.Raids.{outbound_in}
use Rattle.tick_model.specs.Rules.{ArriveTogether, same_order}
use Rattle.tick_model.specs.Universe.{AccountFields, Fleet, Item, PlanetFields, QueueClass}
use Rattle.tick_model.specs.declared.codes.TheConstants.{MOST_IN_GROUP}

-- a fleet that is sound in a base
fleet-carried : (base told : Base) → IsTold base told → (fleet : Fleet) → IsSoundFleet base fleet → IsSoundFleet told fleet
fleet-carried base told same fleet sound = record {
  drawn = subst (λ (n : ℕ). (1 ≤ fleet.number) × (fleet.number ≤ n)) (sym same.number) sound.drawn;
  grouped = sound.grouped;
  leaves = subst (λ (places : List Coord). Contains places fleet.origin) (sym (places-same fleet.owner base.planets.items told.planets.items same.planets)) sound.leaves;
  reaches = subst (λ (places : List Coord). Contains places fleet.target) (sym (places-same fleet.target_owner base.planets.items told.planets.items same.planets)) sound.reaches;
  elsewhere = sound.elsewhere;
  suited = sound.suited;
  kinds = sound.kinds;
  manned = sound.manned;
  laden = sound.laden;
  sent = subst (λ (n : ℕ). fleet.launch ≤ n) (sym same.moment) sound.sent;
  lands = subst (λ (n : ℕ). n < fleet.second) (sym same.moment) sound.lands;
  in_time = sound.in_time;
}

pub planets-carried : (base told : Base) → IsTold base told → (P Q : Planet → Type 0) → ((x y : Planet) → AreSame x y → P x → Q y) → All P base.planets.items → All Q told.planets.items
planets-carried base told same P Q one all = all-carried AreSame P Q one base.planets.items told.planets.items same.planets all

pub sound-carried : (base told : Base) → IsSound base → IsTold base told → IsRead told → IsSound told
sound-carried base told sound same read =
    let equal = accounts-equal base told sound same read in
    let accounts = base.accounts.items in
    let others = told.accounts.items in
    let items = all-items-same base told equal same in
    let players = map-same (λ (a : Account). a.player) AreEqual (λ x y one. one.player) accounts others equal in
    record {
      accounts_rise = pairs-carried AreEqual (λ x y. player_before x.player y.player ≡ true) (λ x y. player_before x.player y.player ≡ true)
          (λ a b c d one other holds. carry-2 (λ (x y : Player). player_before x y ≡ true) a.player c.player b.player d.player one.player other.player holds) accounts others equal sound.accounts_rise;
      planets_rise = rise-same base.planets.items told.planets.items same.planets sound.planets_rise;
      fleets_rise = subst (AllPairs (λ (x y : Fleet). x.number < y.number)) (sym same.fleets) sound.fleets_rise;
      owned = planets-carried base told same (λ p. Contains (map (λ (a : Account). a.player) accounts) p.owner) (λ p. Contains (map (λ (a : Account). a.player) others) p.owner)
          (λ x y one holds. carry-2 (λ (all : List Player) (owner : Player). Contains all owner) _ _ x.owner y.owner players one.owner holds) sound.owned;
      kinds = planets-carried base told same (λ p. length p.units ≡ length UNIT_KINDS) (λ p. length p.units ≡ length UNIT_KINDS)
          (λ x y one holds. ap length one.units ∙ holds) sound.kinds;
      listed = read.listed;
      counted = all-carried AreEqual (λ a. a.units ≡ units_owned a.player base.planets.items base.fleets) (λ a. a.units ≡ units_owned a.player told.planets.items told.fleets)
          (λ x y one holds. one.units ∙ holds ∙ ap (λ (k : Player). units_owned k base.planets.items base.fleets) (sym one.player) ∙ sym (owned-same y.player base told same)) accounts others equal sound.counted;
      at_home = all-carried AreEqual (λ a. All (λ item. Contains a.planets.items item.at) a.research.items) (λ a. All (λ item. Contains a.planets.items item.at) a.research.items)
          (λ x y one holds. carry-2 (λ (places : List Coord) (research : List ResearchItem). All (λ item. Contains places item.at) research) _ _ _ _ one.places one.research holds) accounts others equal sound.at_home;
      built = planets-carried base told same (λ p. RunsAfter base.moment (buildings_of p)) (λ p. RunsAfter told.moment (buildings_of p))
          (λ x y one holds. carry-2 RunsAfter base.moment told.moment _ _ same.moment (buildings-same x y one) holds) sound.built;
      manned = planets-carried base told same (λ p. RunsAfter base.moment (batches_of p)) (λ p. RunsAfter told.moment (batches_of p))
          (λ x y one holds. carry-2 RunsAfter base.moment told.moment _ _ same.moment (batches-same x y one) holds) sound.manned;
      researched = all-carried AreEqual (λ a. RunsAfter base.moment (research_of a)) (λ a. RunsAfter told.moment (research_of a))
          (λ x y one holds. carry-2 RunsAfter base.moment told.moment _ _ same.moment (research-same x y one) holds) accounts others equal sound.researched;
      drawn = carry-2 (λ (n : ℕ) (all : List Item). All (λ item. (1 ≤ item.number) × (item.number ≤ n)) all) base.number told.number _ _ same.number items sound.drawn;
      timed = carry-2 (λ (n : ℕ) (all : List Item). All (IsTimed n) all) base.moment told.moment _ _ same.moment items sound.timed;
      distinct = subst (AllPairs (λ (x y : Item). same_order x y ≡ false)) (sym items) sound.distinct;
      levelled = planets-carried base told same (λ p. KeepsLevels (fields_of p) (queue_of p)) (λ p. KeepsLevels (fields_of p) (queue_of p))
          (λ x y one holds. carry-2 (λ (planet : PlanetFields) (queue : QueueClass → List Item). KeepsLevels planet queue) _ _ _ _ (fields-same x y one) (fun_ext (queue-at x y one)) holds) sound.levelled;
      learned = all-carried AreEqual (λ a. KeepsTechs (account_fields a) (research_of a)) (λ a. KeepsTechs (account_fields a) (research_of a))
          (λ x y one holds. carry-2 KeepsTechs (account_fields x) (account_fields y) _ _ (λ i. record { techs = one.techs i }) (research-same x y one) holds) accounts others equal sound.learned;
      flying = subst (All (IsSoundFleet told)) (sym same.fleets) (λ i d below. fleet-carried base told same _ (sound.flying i d below));
      together = subst (AllPairs ArriveTogether) (sym same.fleets) sound.together;
      few = λ group. subst (λ (all : List Fleet). length (outbound_in group all) ≤ MOST_IN_GROUP) (sym same.fleets) (sound.few group);
      slots = all-carried AreEqual (HasSlots base.fleets) (HasSlots told.fleets)
          (λ x y one holds. subst (λ (all : List Fleet). HasSlots all y) (sym same.fleets)
          (carry-2 (λ (player : Player) (account : AccountFields). length (own_fleets player base.fleets) ≤ slots_of account) x.player y.player (account_fields x) (account_fields y) one.player (λ i. record { techs = one.techs i }) holds)) accounts others equal sound.slots;
    }
