-- What the end of a battle leaves of the two sides.
use Rattle.std.proofs.Common.{◌≡◌, ◌∙◌, ℕ, ◌+◌, ◌-◌, ◌≤◌, List, [], ◌∷◌, ◌++◌, Bool, false, true, cond, length, take, replicate, sum, get_or, ap, sym, subst, arith, length-append}
use Rattle.std.specs.Prelude.{IsTrue, nat_le}
use Rattle.std.specs.List.{AllByRecursion, list_all}
use Rattle.std.proofs.lemmas.Bool.Decides.{nat_tests}
use Rattle.std.proofs.lemmas.List.{length-map}
use Rattle.std.proofs.lemmas.List.Elements.{All-cons, All-nil}
use Rattle.std.proofs.lemmas.List.FromFn.{length-enumerate_from}
use Rattle.battle.proofs.CourseEnds.{one_battle_end}
use Rattle.battle.specs.Ending.{battle_end}
use Rattle.battle.specs.Outcomes.{IsFought}
use Rattle.battle.specs.declared.outcome.Outcome.{Outcome}
use Rattle.battle.specs.declared.part.Part.{Part}
use Rattle.catalog.specs.declared.classes.TheConstants.{UNIT_KINDS}
use Rattle.catalog.specs.declared.kind.Kind.{Kind}
use Rattle.catalog.specs.declared.ships.TheConstants.{UNITS}
use Rattle.raids.specs.Leaving.{AreFleets, IsFleet}
use Rattle.raids.specs.Parts.{raider_part, raider_parts}
use Rattle.raids.specs.declared.aftermath.Raider.{Raider}
use Rattle.spoils.specs.Defences.{rebuilt}
use Rattle.tick_model.proofs.Losses.{AreBelow, PartsBelow, attackers-below, planet-below, sum-below}
use Rattle.tick_model.specs.Battles.{is_defence, units_after}

-- As many parts are left as there were.
pub attackers_length : (attacking defending : List Part) (seed number : ℕ) → length (battle_end attacking defending seed number).attackers ≡ length attacking
unfolding battle_end
attackers_length attacking defending seed number = length-map _ _ ∙ length-enumerate_from 0 attacking

pub planet_length : (attacking defending : List Part) (seed number : ℕ) → length (battle_end attacking defending seed number).planet ≡ length defending
unfolding battle_end
planet_length attacking defending seed number = length-map _ _ ∙ length-enumerate_from 0 defending

-- No fleet has gained a ship.

all_counted : (raiders : List Raider) → AllByRecursion (λ (part : Part). length part.n ≡ 22) (raider_parts raiders)
all_counted [] = tt
all_counted (raider ∷ raiders) = (length-append raider.fleet.ships.n (replicate 9 0) ∙ ap (λ (n : ℕ). n + 9) raider.fleet.ships.kinds, all_counted raiders)

ships_within : (lefts ships : List ℕ) (more : List ℕ) → AreBelow lefts (ships ++ more) → IsTrue (list_all (λ count. nat_le count UNITS) ships)
    → IsTrue (list_all (λ count. nat_le count UNITS) (take (length ships) lefts))
ships_within lefts [] more below within = within
ships_within [] (ship ∷ ships) more below within = absurd below
ships_within (left ∷ lefts) (ship ∷ ships) more below within =
    let less : left ≤ ship = below.0 in
    let rest = ships_within lefts ships more below.1 in
    grind (arith, nat_tests)

raiders_within : (lefts : List Part) (raiders : List Raider) → PartsBelow lefts (raider_parts raiders) → AreFleets lefts
raiders_within [] [] below = All-nil IsFleet
raiders_within [] (raider ∷ raiders) below = absurd below
raiders_within (left ∷ lefts) [] below = absurd below
raiders_within (left ∷ lefts) (raider ∷ raiders) below =
    let ships = raider.fleet.ships in
    let within = ships_within left.n ships.n (replicate 9 0) below.0 ships.within in
    All-cons IsFleet left lefts (subst (λ (n : ℕ). IsTrue (list_all (λ count. nat_le count UNITS) (take n left.n))) ships.kinds within) (raiders_within lefts raiders below.1)

pub fleets_left : (raiders : List Raider) (defending : List Part) (seed number : ℕ) → AreFleets (battle_end (raider_parts raiders) defending seed number).attackers
fleets_left raiders defending seed number =
    raiders_within (battle_end (raider_parts raiders) defending seed number).attackers raiders (attackers-below (raider_parts raiders) defending seed number (all_counted raiders))

-- The planet has not gained a unit.

again_below : (left count : ℕ) (b : Bool) → left ≤ count → cond b (left + rebuilt (count - left)) left ≤ count
again_below left count true less = omega (arith, less)
again_below left count false less = less

units_below : (kinds : List Kind) (counts lefts : List ℕ) → length counts ≡ length kinds → AreBelow lefts counts → AreBelow (units_after kinds counts lefts) counts
units_below [] [] [] all below = tt
units_below (kind ∷ kinds) (count ∷ counts) (left ∷ lefts) all below =
    (again_below left count (is_defence kind) below.0, units_below kinds counts lefts (omega (arith, all)) below.1)
units_below [] (count ∷ counts) lefts all below = absurd (omega (arith, all))
units_below (kind ∷ kinds) [] lefts all below = absurd (omega (arith, all))
units_below [] [] (left ∷ lefts) all below = absurd below
units_below (kind ∷ kinds) (count ∷ counts) [] all below = absurd below

pub units_no_more : (attacking : List Part) (home : Part) (seed number : ℕ) → length home.n ≡ 22
    → sum (units_after UNIT_KINDS home.n (get_or (battle_end attacking (home ∷ []) seed number).planet 0 home).n) ≤ sum home.n
units_no_more attacking home seed number all =
    let left = (get_or (battle_end attacking (home ∷ []) seed number).planet 0 home).n in
    sum-below (units_after UNIT_KINDS home.n left) home.n (units_below UNIT_KINDS home.n left all (planet-below attacking home seed number all))

-- So both sides are left as a battle must leave them.
pub record BothLeft (raiders : List Raider) (home : Part) (attackers planet : List Part) : Type 0 where
  pub parts : length attackers ≡ length raiders
  pub fleets : AreFleets attackers
  pub one : length planet ≡ 1
  pub units : sum (units_after UNIT_KINDS home.n (get_or planet 0 home).n) ≤ sum home.n

pub both_left : (raiders : List Raider) (home : Part) (seed number : ℕ) (result : Outcome) (attackers planet : List Part) → length home.n ≡ 22
    → IsFought (raider_parts raiders) (home ∷ []) seed number result attackers planet → BothLeft raiders home attackers planet
both_left raiders home seed number result attackers planet all fought =
    let ends = one_battle_end (raider_parts raiders) (home ∷ []) attackers planet seed number result fought in
    record {
      parts = ap length ends.1 ∙ attackers_length (raider_parts raiders) (home ∷ []) seed number ∙ length-map raiders raider_part;
      fleets = subst AreFleets (sym ends.1) (fleets_left raiders (home ∷ []) seed number);
      one = ap length ends.2 ∙ planet_length (raider_parts raiders) (home ∷ []) seed number;
      units = subst (λ (parts : List Part). sum (units_after UNIT_KINDS home.n (get_or parts 0 home).n) ≤ sum home.n) (sym ends.2) (units_no_more (raider_parts raiders) home seed number all);
    }
