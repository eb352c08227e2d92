-- What a battle leaves is no more than there was.
use Rattle.std.proofs.Common.{◌≡◌, ℕ, ◌+◌, ◌-◌, ◌≤◌, inl, inr, Bool, true, false, cond, nat_le, List, [], ◌∷◌, ◌++◌, length, map, take, replicate, sum, get_or, arith, refl, sym, subst}
use Rattle.std.proofs.lemmas.Bool.Decides.{nat_tests}
use Rattle.std.proofs.lemmas.List.{length-append}
use Rattle.std.proofs.lemmas.List.Sums.{sum_by-cons}
use Rattle.std.specs.List.{AllByRecursion, enumerate_from}
use Rattle.base_ids.specs.declared.cell_id.CellId.{CellId}
use Rattle.battle.proofs.CourseEnds.{left_by_course}
use Rattle.battle.proofs.Kept.{all_kept, none_gained}
use Rattle.battle.proofs.OneTrace.{some_trace}
use Rattle.battle.specs.Course.{combatants, course, fighters_of}
use Rattle.battle.specs.Ending.{battle_end}
use Rattle.battle.specs.Outcomes.{count_of, survivors as parts_left}
use Rattle.battle.specs.Sides.{Party, attackers, planet as defenders, battle_of, fighters, units}
use Rattle.battle.specs.declared.part.Part.{Part}
use Rattle.catalog.specs.declared.classes.TheConstants.{UNIT_KINDS}
use Rattle.catalog.specs.declared.kind.Kind.{Kind}
use Rattle.catalog.specs.declared.ships.TheConstants.{SHIPS}
use Rattle.flight.specs.Freight.{capacity_of}
use Rattle.reply_text.specs.declared.units.Units.{Units}
use Rattle.spoils.specs.Defences.{rebuilt}
use Rattle.tick_model.specs.Battles.{battered, battle_of_raid, fitting, fleet_part, fleet_units, fought, is_defence, laden, loot_if, planet_part, raid_parts, survivors, units_after, without}
use Rattle.tick_model.specs.Flights.{both_cargoes, cargo_units, free_room}
use Rattle.tick_model.specs.Raids.{Raid}
use Rattle.tick_model.specs.Rules.{IsIn}
use Rattle.tick_model.specs.Universe.{Own, Fleet, PlanetFields}

-- Counts that are nowhere above others.

abbrev pub AreBelow : List ℕ → List ℕ → Type 0
AreBelow [] [] = Unit {0}
AreBelow (x ∷ xs) (y ∷ ys) = (x ≤ y) × AreBelow xs ys
AreBelow [] (y ∷ ys) = ⊥
AreBelow (x ∷ xs) [] = ⊥

sum-cons : (x : ℕ) (xs : List ℕ) → sum (x ∷ xs) ≡ x + sum xs
sum-cons x xs = sum_by-cons (λ (n : ℕ). n) x xs

pub sum-below : (xs ys : List ℕ) → AreBelow xs ys → sum xs ≤ sum ys
sum-below [] [] below = omega arith
sum-below (x ∷ xs) (y ∷ ys) below =
    let first = below.0 in
    let rest = sum-below xs ys below.1 in
    let new = sum-cons x xs in
    let old = sum-cons y ys in
    omega (arith, first, rest, new, old)
sum-below [] (y ∷ ys) below = absurd below
sum-below (x ∷ xs) [] below = absurd below

below-take : (xs ys zs : List ℕ) → AreBelow xs (ys ++ zs) → AreBelow (take (length ys) xs) ys
below-take xs [] zs below = tt
below-take [] (y ∷ ys) zs below = absurd below
below-take (x ∷ xs) (y ∷ ys) zs below = (below.0, below-take xs ys zs below.1)

below-map : (f g : Kind → ℕ) (kinds : List Kind) → ((kind : Kind) → f kind ≤ g kind) → AreBelow (map f kinds) (map g kinds)
below-map f g [] less = tt
below-map f g (kind ∷ kinds) less = (less kind, below-map f g kinds less)

-- Parts of which each has no more of any kind.
abbrev pub PartsBelow : List Part → List Part → Type 0
PartsBelow [] [] = Unit {0}
PartsBelow (left ∷ lefts) (part ∷ parts) = AreBelow left.n part.n × PartsBelow lefts parts
PartsBelow [] (part ∷ parts) = ⊥
PartsBelow (left ∷ lefts) [] = ⊥

abbrev counted_by : (ℕ → Kind → ℕ) → ℕ × Part → Part
counted_by count placed = record placed.1 { n = map (count placed.0) UNIT_KINDS }

parts-below : (f g : ℕ → Kind → ℕ) (n : ℕ) (parts : List Part) → ((part : ℕ) (kind : Kind) → f part kind ≤ g part kind)
    → PartsBelow (map (counted_by f) (enumerate_from n parts)) (map (counted_by g) (enumerate_from n parts))
parts-below f g n [] less = tt
parts-below f g n (part ∷ parts) less = (below-map (f n) (g n) UNIT_KINDS (less n), parts-below f g (n + 1) parts less)

abbrev CountAll : List Part → Type 0
CountAll parts = AllByRecursion (λ part. length part.n ≡ 22) parts

-- of no side is more left than there was
ends-below : (attacking defending : List Part) (seed number part : ℕ) (kind : Kind) (party : Party)
    → count_of (fighters_of (combatants (course (battle_of attacking defending seed number)) party)) part kind ≤ count_of (units (battle_of attacking defending seed number) party) part kind
ends-below attacking defending seed number part kind party =
    let b = battle_of attacking defending seed number in
    let trace = some_trace b in
    subst (λ living. count_of living part kind ≤ count_of (units b party) part kind) (left_by_course b trace.0 party trace.1) (none_gained b trace.0 party part kind)

pub attackers-below : (attacking defending : List Part) (seed number : ℕ) → CountAll attacking → PartsBelow (battle_end attacking defending seed number).attackers attacking
unfolding battle_end
attackers-below attacking defending seed number all =
    let living = fighters_of (course (battle_of attacking defending seed number)).attackers in
    subst (PartsBelow (parts_left living attacking)) (all_kept attacking all)
    (parts-below (count_of living) (count_of (fighters attacking)) 0 attacking (λ part kind. ends-below attacking defending seed number part kind attackers))

pub planet-below : (attacking : List Part) (part : Part) (seed number : ℕ) → length part.n ≡ 22 → AreBelow (get_or (battle_end attacking (part ∷ []) seed number).planet 0 part).n part.n
unfolding battle_end
planet-below attacking part seed number all =
    let living = fighters_of (course (battle_of attacking (part ∷ []) seed number)).planet in
    let below : PartsBelow (parts_left living (part ∷ [])) (part ∷ []) =
    subst (PartsBelow (parts_left living (part ∷ []))) (all_kept (part ∷ []) (all, tt))
    (parts-below (count_of living) (count_of (fighters (part ∷ []))) 0 (part ∷ []) (λ place kind. ends-below attacking (part ∷ []) seed number place kind defenders)) in
    below.0

-- The units of the planet.

again-below : (left count : ℕ) → left ≤ count → left + rebuilt (count - left) ≤ count
again-below left count less = omega (arith, less)

units-below_at : (left count : ℕ) (b : Bool) → left ≤ count → cond b (left + rebuilt (count - left)) left ≤ count
units-below_at left count true less = again-below left count less
units-below_at left count false less = less

units-below : (kinds : List Kind) (counts lefts : List ℕ) → length counts ≡ length kinds → AreBelow lefts counts → AreBelow (units_after kinds counts lefts) counts
units-below [] [] [] all below = tt
units-below (kind ∷ kinds) (count ∷ counts) (left ∷ lefts) all below =
    (units-below_at left count (is_defence kind) below.0, units-below kinds counts lefts (omega (arith, all)) below.1)
units-below [] (count ∷ counts) lefts all below = absurd (omega (arith, all))
units-below (kind ∷ kinds) [] lefts all below = absurd (omega (arith, all))
units-below [] [] (left ∷ lefts) all below = absurd below
units-below (kind ∷ kinds) (count ∷ counts) [] all below = absurd below

-- no kind has more units than before
pub fought-below : (seed : ℕ) (own : CellId → Own) (raid : Raid) (planet : PlanetFields) → length planet.units ≡ length UNIT_KINDS
    → AreBelow (fought seed own raid planet).planet.units planet.units
unfolding fought battle_of_raid
fought-below seed own raid planet all =
    let part = planet_part own planet in
    let left = (get_or (battle_of_raid seed own raid planet).planet 0 part).n in
    units-below UNIT_KINDS planet.units left all (planet-below (raid_parts own raid) part seed raid.group all)

pub fought-units : (seed : ℕ) (own : CellId → Own) (raid : Raid) (planet : PlanetFields) → length planet.units ≡ length UNIT_KINDS
    → sum (fought seed own raid planet).planet.units ≤ sum planet.units
fought-units seed own raid planet all = sum-below (fought seed own raid planet).planet.units planet.units (fought-below seed own raid planet all)

-- The fleets.

-- a fleet that is left of one of these: with no more ships, and with some; and it carries what it has on board
pub record IsLeftOf (fleets : List Fleet) (left : Fleet) : Type 0 where
  pub one : Fleet
  pub within : IsIn one fleets
  pub number : left.number ≡ one.number
  pub fewer : sum left.ships ≤ sum one.ships
  pub manned : 1 ≤ sum left.ships
  pub laden_so : cargo_units left.cargo ≤ capacity_of left.ships

abbrev pub AreLeftOf : List Fleet → List Fleet → Type 0
AreLeftOf fleets lefts = (left : Fleet) → IsIn left lefts → IsLeftOf fleets left

fits-room : (room : ℕ) (cargo : Units) → cargo_units (fitting room cargo) ≤ room
unfolding fitting
fits-room room cargo = omega arith

is-some : (n : ℕ) → nat_le 1 n ≡ true → 1 ≤ n
is-some n is = grind (arith, nat_tests)

left-later : (first : Fleet) (fleets : List Fleet) (left : Fleet) → IsLeftOf fleets left → IsLeftOf (first ∷ fleets) left
left-later first fleets left is = record { one = is.one; within = inr is.within; number = is.number; fewer = is.fewer; manned = is.manned; laden_so = is.laden_so }

survivors-left_at : (fleet : Fleet) (fleets : List Fleet) (part : Part) (lefts : List Fleet) (own : CellId → Own) (b : Bool) → nat_le 1 (sum (battered fleet part).ships) ≡ b
    → length fleet.ships ≡ length SHIPS → AreBelow part.n (fleet_units fleet.ships) → AreLeftOf fleets lefts → AreLeftOf (fleet ∷ fleets) (cond b (battered fleet part ∷ lefts) lefts)
survivors-left_at fleet fleets part lefts own false some kinds below rest x is = left-later fleet fleets x (rest x is)
survivors-left_at fleet fleets part lefts own true some kinds below rest x (inr is) = left-later fleet fleets x (rest x is)
survivors-left_at fleet fleets part lefts own true some kinds below rest x (inl same) =
    let taken = below-take part.n fleet.ships (replicate (length UNIT_KINDS - length SHIPS) 0) below in
    let fewer : sum (take (length fleet.ships) part.n) ≤ sum fleet.ships = sum-below (take (length fleet.ships) part.n) fleet.ships taken in
    subst (IsLeftOf (fleet ∷ fleets)) (sym same) (record {
      one = fleet;
      within = inl refl;
      number = refl;
      fewer = subst (λ n. sum (take n part.n) ≤ sum fleet.ships) kinds fewer;
      manned = is-some (sum (battered fleet part).ships) some;
      laden_so = fits-room (capacity_of (take (length SHIPS) part.n)) fleet.cargo;
    })

survivors-left : (own : CellId → Own) (fleets : List Fleet) (parts : List Part) → ((fleet : Fleet) → IsIn fleet fleets → length fleet.ships ≡ length SHIPS)
    → PartsBelow parts (map (fleet_part own) fleets) → AreLeftOf fleets (survivors fleets parts)
survivors-left own [] parts kinds below x is = absurd is
survivors-left own (fleet ∷ fleets) [] kinds below x is = absurd is
survivors-left own (fleet ∷ fleets) (part ∷ parts) kinds below x is =
    survivors-left_at fleet fleets part (survivors fleets parts) own (nat_le 1 (sum (battered fleet part).ships)) refl (kinds fleet (inl refl)) below.0
    (survivors-left own fleets parts (λ f has. kinds f (inr has)) below.1) x is

more-laden : (fleet : Fleet) (taken : Units) → cargo_units fleet.cargo ≤ capacity_of fleet.ships → cargo_units (both_cargoes fleet.cargo (fitting (free_room fleet) taken)) ≤ capacity_of fleet.ships
unfolding free_room
more-laden fleet taken fits =
    let more = fits-room (capacity_of fleet.ships - cargo_units fleet.cargo) taken in
    omega (arith, fits, more)

laden-left : (all : List Fleet) (taken : Units) (lefts : List Fleet) → AreLeftOf all lefts → AreLeftOf all (laden taken lefts)
laden-left all taken [] left x is = absurd is
laden-left all taken (fleet ∷ fleets) left x (inl same) =
    let old = left fleet (inl refl) in
    subst (IsLeftOf all) (sym same) (record {
      one = old.one;
      within = old.within;
      number = old.number;
      fewer = old.fewer;
      manned = old.manned;
      laden_so = more-laden fleet taken old.laden_so;
    })
laden-left all taken (fleet ∷ fleets) left x (inr is) = laden-left all (without taken (fitting (free_room fleet) taken)) fleets (λ f has. left f (inr has)) x is

raid-counts : (own : CellId → Own) (fleets : List Fleet) → ((fleet : Fleet) → IsIn fleet fleets → length fleet.ships ≡ length SHIPS) → CountAll (map (fleet_part own) fleets)
raid-counts own [] kinds = tt
raid-counts own (fleet ∷ fleets) kinds =
    let ships = kinds fleet (inl refl) in
    let all : length (fleet_units fleet.ships) ≡ length fleet.ships + 9 = length-append fleet.ships (replicate 9 0) in
    (omega (arith, ships, all), raid-counts own fleets (λ f has. kinds f (inr has)))

pub fought-left : (seed : ℕ) (own : CellId → Own) (raid : Raid) (planet : PlanetFields) → ((fleet : Fleet) → IsIn fleet raid.fleets → length fleet.ships ≡ length SHIPS)
    → AreLeftOf raid.fleets (fought seed own raid planet).fleets
unfolding fought battle_of_raid
fought-left seed own raid planet kinds =
    let ending = battle_of_raid seed own raid planet in
    let fleets = survivors raid.fleets ending.attackers in
    let below = attackers-below (raid_parts own raid) (planet_part own planet ∷ []) seed raid.group (raid-counts own raid.fleets kinds) in
    laden-left raid.fleets (loot_if ending.outcome.verdict fleets planet.stock) fleets (survivors-left own raid.fleets ending.attackers kinds below)
