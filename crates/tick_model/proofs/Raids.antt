-- What a raid is in a state.
use Rattle.std.proofs.Common.{◌≡◌, ℕ, Bool, true, false, cond, eqb, ◌&&◌, ◌||◌, List, Option, Some, filter, ap, ◌∙◌, sym, subst}
use Rattle.std.specs.List.{filter_map}
use Rattle.base_ids.specs.Cells.{same_cell, same_coord}
use Rattle.base_ids.specs.declared.coord.Coord.{Coord}
use Rattle.base_ids.specs.declared.cell_id.CellId.TheVariants.{Account, Planet}
use Rattle.laziness.proofs.Bringing.{never}
use Rattle.tick_model.specs.Events.{IsRaid}
use Rattle.tick_model.specs.Raids.{Raid, attacks, companions, is_attack, raiders}
use Rattle.tick_model.specs.Rules.{AreApart, IsIn, KeepsRules}
use Rattle.tick_model.specs.Universe.{of_planet, PlanetFields, Fleet, Setting, State}
use Rattle.tick_model.specs.Views.{belongs, view}
use Rattle.tick_model.proofs.Lists.{and-from, and-is, cell-from, cell-is, fails, filter-both, filter-stays, fleet-one, from-changed, from-filter, in-filter, number-is, or-first, or-second, same_number}
use Rattle.tick_model.proofs.Writes.{became_at}

-- a fleet of a raid
pub record IsRaider (state : State) (raid : Raid) (fleet : Fleet) : Type 0 where
  pub flies : IsIn fleet state.fleets
  pub hostile : attacks fleet ≡ true
  pub target : fleet.target ≡ raid.target
  pub group : fleet.group ≡ raid.group
  pub second : fleet.second ≡ raid.second

-- A raid that a planet owes: all fleets of a group that fly out to attack.
pub record IsRaidIn (state : State) (raid : Raid) : Type 0 where
  pub one : Fleet
  pub has_one : IsIn one raid.fleets
  pub each : (fleet : Fleet) → IsIn fleet raid.fleets → IsRaider state raid fleet
  pub all : (fleet : Fleet) → IsIn fleet state.fleets → attacks fleet ≡ true → fleet.group ≡ raid.group → IsIn fleet raid.fleets
  pub planet : PlanetFields
  pub there : state.own (Planet raid.target) ≡ of_planet planet

coord-is : (a b : Coord) → same_coord a b ≡ true → a ≡ b
coord-is a b same = let cells = cell-is (Planet a) (Planet b) same in cc

pub coord-from : (a b : Coord) → a ≡ b → same_coord a b ≡ true
coord-from a b same = cell-from (Planet a) (Planet b) (ap Planet same)

-- a fleet that flies out belongs to its target
pub target-belongs : (at : Coord) (fleet : Fleet) → fleet.outbound ≡ true → fleet.target ≡ at → belongs (Planet at) fleet ≡ true
target-belongs at fleet out same =
    or-second (same_cell (Planet fleet.origin) (Planet at) || same_cell (Account fleet.owner) (Planet at)) (fleet.outbound && (same_cell (Planet fleet.target) (Planet at) || same_cell (Account fleet.target_owner) (Planet at)))
    (and-from fleet.outbound (same_cell (Planet fleet.target) (Planet at) || same_cell (Account fleet.target_owner) (Planet at)) out
    (or-first (same_cell (Planet fleet.target) (Planet at)) (same_cell (Account fleet.target_owner) (Planet at)) (coord-from fleet.target at same)))

abbrev goes_with : Coord → ℕ → Fleet → Bool
goes_with at group fleet = fleet.outbound && same_coord fleet.target at && eqb fleet.group group

-- which fleets raid a place
pub record RaidsAt (at : Coord) (group : ℕ) (fleets : List Fleet) (fleet : Fleet) : Type 0 where
  pub within : IsIn fleet fleets
  pub out : fleet.outbound ≡ true
  pub hostile : attacks fleet ≡ true
  pub target : fleet.target ≡ at
  pub group_is : fleet.group ≡ group

pub raiders-are : (at : Coord) (group : ℕ) (fleets : List Fleet) (fleet : Fleet) → IsIn fleet (raiders at group fleets) → RaidsAt at group fleets fleet
raiders-are at group fleets fleet is =
    let hostile = from-filter (λ (f : Fleet). is_attack f.mission) fleet (companions at group fleets) is in
    let goes = from-filter (goes_with at group) fleet fleets hostile.0 in
    let group_and = and-is (fleet.outbound && same_coord fleet.target at) (eqb fleet.group group) goes.1 in
    let place = and-is fleet.outbound (same_coord fleet.target at) group_and.0 in
    record {
      within = goes.0;
      out = place.0;
      hostile = and-from fleet.outbound (is_attack fleet.mission) place.0 hostile.1;
      target = coord-is fleet.target at place.1;
      group_is = number-is fleet.group group group_and.1;
    }

pub are-raiders : (at : Coord) (group : ℕ) (fleets : List Fleet) (fleet : Fleet) → IsIn fleet fleets → attacks fleet ≡ true → fleet.target ≡ at → fleet.group ≡ group → IsIn fleet (raiders at group fleets)
are-raiders at group fleets fleet is hostile target same =
    let both = and-is fleet.outbound (is_attack fleet.mission) hostile in
    let number : eqb fleet.group group ≡ true = ap (λ n. eqb n group) same ∙ same_number group in
    let goes : goes_with at group fleet ≡ true =
    and-from (fleet.outbound && same_coord fleet.target at) (eqb fleet.group group) (and-from fleet.outbound (same_coord fleet.target at) both.0 (coord-from fleet.target at target)) number in
    in-filter (λ (f : Fleet). is_attack f.mission) fleet (companions at group fleets) (in-filter (goes_with at group) fleet fleets is goes) both.1

module _ (setting : Setting) (state : State) (raid : Raid) (fine : KeepsRules setting state) (is_raid : IsRaid (view setting.cells state (Planet raid.target)).fleets raid) where
  abbrev fleets_there : List Fleet
  fleets_there = (view setting.cells state (Planet raid.target)).fleets

  one-flies : IsIn is_raid.one state.fleets
  one-flies = (from-filter (belongs (Planet raid.target)) is_raid.one state.fleets is_raid.flies).0

  fleets-are : raid.fleets ≡ raiders is_raid.one.target is_raid.one.group fleets_there
  fleets-are = ap (λ (r : Raid). r.fleets) is_raid.is

  target-is : raid.target ≡ is_raid.one.target
  target-is = ap (λ (r : Raid). r.target) is_raid.is

  group-is : raid.group ≡ is_raid.one.group
  group-is = ap (λ (r : Raid). r.group) is_raid.is

  second-is : raid.second ≡ is_raid.one.second
  second-is = ap (λ (r : Raid). r.second) is_raid.is

  out-of : (fleet : Fleet) → attacks fleet ≡ true → fleet.outbound ≡ true
  out-of fleet hostile = (and-is fleet.outbound (is_attack fleet.mission) hostile).0

  raider-is : (fleet : Fleet) → IsIn fleet raid.fleets → IsRaider state raid fleet
  raider-is fleet is =
      let at = raiders-are is_raid.one.target is_raid.one.group fleets_there fleet (subst (IsIn fleet) fleets-are is) in
      let flies = (from-filter (belongs (Planet raid.target)) fleet state.fleets at.within).0 in
      let together = fine.together fleet is_raid.one flies one-flies at.out (out-of is_raid.one is_raid.hostile) at.group_is in
      record {
        flies = flies;
        hostile = at.hostile;
        target = at.target ∙ sym target-is;
        group = at.group_is ∙ sym group-is;
        second = together.1 ∙ sym second-is;
      }

  all-are : (fleet : Fleet) → IsIn fleet state.fleets → attacks fleet ≡ true → fleet.group ≡ raid.group → IsIn fleet raid.fleets
  all-are fleet is hostile group =
      let same : fleet.group ≡ is_raid.one.group = group ∙ group-is in
      let together = fine.together fleet is_raid.one is one-flies (out-of fleet hostile) (out-of is_raid.one is_raid.hostile) same in
      let here = in-filter (belongs (Planet raid.target)) fleet state.fleets is (target-belongs raid.target fleet (out-of fleet hostile) (together.0 ∙ sym target-is)) in
      subst (IsIn fleet) (sym fleets-are) (are-raiders is_raid.one.target is_raid.one.group fleets_there fleet here hostile together.0 same)

  pub raid-in : IsRaidIn state raid
  raid-in =
      let flying = fine.flying is_raid.one one-flies in
      record {
        one = is_raid.one;
        has_one = all-are is_raid.one one-flies is_raid.hostile (sym group-is);
        each = raider-is;
        all = all-are;
        planet = flying.to;
        there = ap (λ at. state.own (Planet at)) target-is ∙ flying.reaches;
      }

-- two raids of one group are one
pub raids-one : (setting : Setting) (state : State) (raid other : Raid) → KeepsRules setting state → IsRaid (view setting.cells state (Planet raid.target)).fleets raid
    → IsRaid (view setting.cells state (Planet other.target)).fleets other → raid.group ≡ other.group → raid ≡ other
raids-one setting state raid other fine first second same =
    let group : first.one.group ≡ second.one.group = sym (ap (λ (r : Raid). r.group) first.is) ∙ same ∙ ap (λ (r : Raid). r.group) second.is in
    let out = λ (fleet : Fleet) (hostile : attacks fleet ≡ true). (and-is fleet.outbound (is_attack fleet.mission) hostile).0 in
    let together = fine.together first.one second.one (one-flies setting state raid fine first) (one-flies setting state other fine second) (out first.one first.hostile) (out second.one second.hostile) group in
    let target : raid.target ≡ other.target = ap (λ (r : Raid). r.target) first.is ∙ together.0 ∙ sym (ap (λ (r : Raid). r.target) second.is) in
    first.is
    ∙ (λ i. record {
      group = group i;
      target = together.0 i;
      second = together.1 i;
      fleets = raiders (together.0 i) (group i) (view setting.cells state (Planet (target i))).fleets;
    })
    ∙ sym second.is

-- Raids after fleets have changed.

abbrev raids_there : Coord → ℕ → Fleet → Bool
raids_there at group fleet = belongs (Planet at) fleet && (goes_with at group fleet && is_attack fleet.mission)

raiders-filter : (at : Coord) (group : ℕ) (fleets : List Fleet) → raiders at group (filter (belongs (Planet at)) fleets) ≡ filter (raids_there at group) fleets
raiders-filter at group fleets =
    filter-both (λ (f : Fleet). is_attack f.mission) (goes_with at group) (filter (belongs (Planet at)) fleets)
    ∙ filter-both (λ (f : Fleet). goes_with at group f && is_attack f.mission) (belongs (Planet at)) fleets

pub record RaidsThere (at : Coord) (group : ℕ) (fleet : Fleet) : Type 0 where
  pub out : fleet.outbound ≡ true
  pub hostile : attacks fleet ≡ true
  pub group_is : fleet.group ≡ group

there-raids : (at : Coord) (group : ℕ) (fleet : Fleet) → raids_there at group fleet ≡ true → RaidsThere at group fleet
there-raids at group fleet is =
    let both = (and-is (belongs (Planet at) fleet) (goes_with at group fleet && is_attack fleet.mission) is).1 in
    let goes = and-is (goes_with at group fleet) (is_attack fleet.mission) both in
    let numbered = and-is (fleet.outbound && same_coord fleet.target at) (eqb fleet.group group) goes.0 in
    let out = (and-is fleet.outbound (same_coord fleet.target at) numbered.0).0 in
    record { out = out; hostile = and-from fleet.outbound (is_attack fleet.mission) out goes.1; group_is = number-is fleet.group group numbered.1 }

-- If fleets change so that those that fly out afterwards did before, and those of a raid stay, the raid was there before.
pub raid-before : (h : Fleet → Option Fleet) (fleets : List Fleet) (raid : Raid) → ((old new : Fleet) → h old ≡ Some new → new.outbound ≡ true → old ≡ new)
    → ((one : Fleet) → h one ≡ Some one → IsIn one fleets → attacks one ≡ true → (fleet : Fleet) → IsIn fleet fleets → attacks fleet ≡ true → fleet.group ≡ one.group → h fleet ≡ Some fleet)
    → IsRaid (filter (belongs (Planet raid.target)) (filter_map h fleets)) raid → IsRaid (filter (belongs (Planet raid.target)) fleets) raid
raid-before h fleets raid still stays is_raid =
    let place = Planet raid.target in
    let one = is_raid.one in
    let out = (and-is one.outbound (is_attack one.mission) is_raid.hostile).0 in
    let flown = from-filter (belongs place) one (filter_map h fleets) is_raid.flies in
    let old = from-changed h one fleets flown.0 in
    let same : old.0 ≡ one = still old.0 one old.2 out in
    let flies : IsIn one fleets = subst (λ f. IsIn f fleets) same old.1 in
    let one_stays : h one ≡ Some one = subst (λ f. h f ≡ Some one) same old.2 in
    let target : raid.target ≡ one.target = ap (λ (r : Raid). r.target) is_raid.is in
    let raiders_same : raiders one.target one.group (filter (belongs (Planet one.target)) (filter_map h fleets)) ≡ raiders one.target one.group (filter (belongs (Planet one.target)) fleets) =
    raiders-filter one.target one.group (filter_map h fleets)
    ∙ filter-stays (raids_there one.target one.group) h fleets
    (λ fleet is there. let raids = there-raids one.target one.group fleet there in stays one one_stays flies is_raid.hostile fleet is raids.hostile raids.group_is)
    (λ old new becomes there. let raids = there-raids one.target one.group new there in subst (λ f. raids_there one.target one.group f ≡ true) (sym (still old new becomes raids.out)) there)
    ∙ sym (raiders-filter one.target one.group fleets) in
    record {
      one = one;
      flies = in-filter (belongs place) one fleets flies flown.1;
      hostile = is_raid.hostile;
      is =
          is_raid.is
          ∙ (λ i. record { group = one.group; target = one.target; second = one.second; fleets = raiders one.target one.group (filter (belongs (Planet (target i))) (filter_map h fleets)) })
          ∙ (λ i. record { group = one.group; target = one.target; second = one.second; fleets = raiders_same i })
          ∙ (λ i. record { group = one.group; target = one.target; second = one.second; fleets = raiders one.target one.group (filter (belongs (Planet (sym target i))) fleets) });
    }

-- a fleet that lands alone is none of those that attack
pub attacker-stays : (fleet : Fleet) (became : Fleet → Option Fleet) (fleets : List Fleet) (other : Fleet) → AreApart fleets → IsIn fleet fleets → attacks fleet ≡ false → IsIn other fleets → attacks other ≡ true
    → became_at fleet.number became other ≡ Some other
attacker-stays fleet became fleets other apart flies alone is hostile =
    let differs : eqb other.number fleet.number ≡ false = fails (eqb other.number fleet.number) (λ same.
    never (attacks fleet) (subst (λ f. attacks f ≡ true) (fleet-one fleets other fleet apart is flies same) hostile) alone) in
    ap (λ b. cond b (became other) (Some other)) differs
