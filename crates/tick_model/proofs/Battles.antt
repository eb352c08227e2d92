-- What a battle leaves of the planet and of the fleets.
use Rattle.std.proofs.Common.{◌≡◌, ℕ, ◌+◌, ◌≤◌, inl, inr, Bool, true, false, cond, nat_le, List, [], ◌∷◌, Option, None, Some, length, map, sum, get_or, arith, refl, ap, ◌∙◌, sym}
use Rattle.std.proofs.lemmas.List.{length-map, length-take-le}
use Rattle.std.specs.List.{enumerate_from, find}
use Rattle.std.specs.Prelude.{option_map}
use Rattle.base_ids.specs.declared.cell_id.CellId.{CellId}
use Rattle.battle.specs.Course.{course, fighters_of}
use Rattle.battle.specs.Ending.{battle_end}
use Rattle.battle.specs.Outcomes.{count_of}
use Rattle.battle.specs.Sides.{battle_of}
use Rattle.battle.specs.declared.part.Part.{Part}
use Rattle.catalog.specs.declared.classes.TheConstants.{UNIT_KINDS}
use Rattle.catalog.specs.declared.kind.Kind.{Kind}
use Rattle.catalog.specs.declared.ships.TheConstants.{SHIPS}
use Rattle.reply_text.specs.declared.units.Units.{Units}
use Rattle.tick_model.specs.Battles.{back_with, battered, battle_of_raid, comes_back, fitting, fought, laden, loot_if, planet_part, raid_parts, survivors, units_after, without}
use Rattle.tick_model.specs.Changes.{same_flight}
use Rattle.tick_model.specs.Flights.{back_at, free_room}
use Rattle.tick_model.specs.Raids.{Raid}
use Rattle.tick_model.specs.Rules.{IsIn}
use Rattle.tick_model.specs.Universe.{Own, Fleet, PlanetFields}
use Rattle.tick_model.specs.Views.{belongs}
use Rattle.tick_model.proofs.Landings.{turned-belongs}

-- What is found among some things is one of them.
found_at : {A : Type 0} (p : A → Bool) (first x : A) (later : List A) (b : Bool) → p first ≡ b → (find p later ≡ Some x → IsIn x later × (p x ≡ true))
    → cond b (Some first) (find p later) ≡ Some x → IsIn x (first ∷ later) × (p x ≡ true)
found_at p first x later true has rest is = let same : first ≡ x = cc in (inl (sym same), ap p (sym same) ∙ has)
found_at p first x later false has rest is = let found = rest is in (inr found.0, found.1)

pub find-in : {A : Type 0} (p : A → Bool) (xs : List A) (x : A) → find p xs ≡ Some x → IsIn x xs × (p x ≡ true)
find-in p [] x is = absurd cc
find-in p (first ∷ later) x is = found_at p first x later (p first) refl (find-in p later x) is

-- The planet keeps its owner.
pub fought-owner : (seed : ℕ) (own : CellId → Own) (raid : Raid) (planet : PlanetFields) → (fought seed own raid planet).planet.owner ≡ planet.owner
unfolding fought
fought-owner seed own raid planet = refl

-- It counts units of all kinds.

counts-all : (kinds : List Kind) (counts lefts : List ℕ) → length counts ≡ length kinds → length lefts ≡ length kinds → length (units_after kinds counts lefts) ≡ length kinds
counts-all [] [] [] one other = refl
counts-all [] [] (left ∷ lefts) one other = absurd (omega (arith, other))
counts-all [] (count ∷ counts) lefts one other = absurd (omega (arith, one))
counts-all (kind ∷ kinds) [] lefts one other = absurd (omega (arith, one))
counts-all (kind ∷ kinds) (count ∷ counts) [] one other = absurd (omega (arith, other))
counts-all (kind ∷ kinds) (count ∷ counts) (left ∷ lefts) one other =
    let rest = counts-all kinds counts lefts (omega (arith, one)) (omega (arith, other)) in
    omega (arith, rest)

-- each part that is left counts all kinds
abbrev pub CountsAll : List Part → Type 0
CountsAll parts = (part : Part) → IsIn part parts → length part.n ≡ length UNIT_KINDS

parts-count : (count : ℕ → Kind → ℕ) (n : ℕ) (parts : List Part)
    → CountsAll (map (λ (placed : ℕ × Part). record placed.1 { n = map (count placed.0) UNIT_KINDS }) (enumerate_from n parts))
parts-count count n [] part is = absurd is
parts-count count n (first ∷ later) part (inl same) = ap (λ (p : Part). length p.n) same ∙ length-map UNIT_KINDS (count n)
parts-count count n (first ∷ later) part (inr is) = parts-count count (n + 1) later part is

pub attackers-count : (attacking defending : List Part) (seed number : ℕ) → CountsAll (battle_end attacking defending seed number).attackers
unfolding battle_end
attackers-count attacking defending seed number = parts-count (count_of (fighters_of (course (battle_of attacking defending seed number)).attackers)) 0 attacking

planet-counts : (attacking : List Part) (part : Part) (seed number : ℕ) → length (get_or (battle_end attacking (part ∷ []) seed number).planet 0 part).n ≡ length UNIT_KINDS
unfolding battle_end
planet-counts attacking part seed number =
    length-map UNIT_KINDS (count_of (fighters_of (course (battle_of attacking (part ∷ []) seed number)).planet) 0)

pub fought-kinds : (seed : ℕ) (own : CellId → Own) (raid : Raid) (planet : PlanetFields) → length planet.units ≡ length UNIT_KINDS
    → length (fought seed own raid planet).planet.units ≡ length UNIT_KINDS
unfolding fought battle_of_raid
fought-kinds seed own raid planet kinds =
    counts-all UNIT_KINDS planet.units (get_or (battle_of_raid seed own raid planet).planet 0 (planet_part own planet)).n kinds
    (planet-counts (raid_parts own raid) (planet_part own planet) seed raid.group)

-- Each fleet that is left has a count for each kind of ships.

abbrev HaveKinds : List Fleet → Type 0
HaveKinds fleets = (fleet : Fleet) → IsIn fleet fleets → length fleet.ships ≡ length SHIPS

battered-kinds : (fleet : Fleet) (left : Part) → length left.n ≡ length UNIT_KINDS → length (battered fleet left).ships ≡ length SHIPS
battered-kinds fleet left counts =
    let all : length SHIPS ≤ length left.n = omega (arith, counts) in
    length-take-le (length SHIPS) left.n all

survivors_at : (fleet : Fleet) (left : Part) (rest : List Fleet) (b : Bool) → length left.n ≡ length UNIT_KINDS → HaveKinds rest → HaveKinds (cond b (battered fleet left ∷ rest) rest)
survivors_at fleet left rest true counts kinds x (inl same) = ap (λ (f : Fleet). length f.ships) same ∙ battered-kinds fleet left counts
survivors_at fleet left rest true counts kinds x (inr is) = kinds x is
survivors_at fleet left rest false counts kinds x is = kinds x is

survivors-kinds : (fleets : List Fleet) (lefts : List Part) → CountsAll lefts → HaveKinds (survivors fleets lefts)
survivors-kinds [] lefts counts x is = absurd is
survivors-kinds (fleet ∷ fleets) [] counts x is = absurd is
survivors-kinds (fleet ∷ fleets) (left ∷ lefts) counts x is =
    survivors_at fleet left (survivors fleets lefts) (nat_le 1 (sum (battered fleet left).ships)) (counts left (inl refl)) (survivors-kinds fleets lefts (λ part has. counts part (inr has))) x is

laden-kinds : (taken : Units) (fleets : List Fleet) → HaveKinds fleets → HaveKinds (laden taken fleets)
laden-kinds taken [] kinds x is = absurd is
laden-kinds taken (fleet ∷ fleets) kinds x (inl same) = ap (λ (f : Fleet). length f.ships) same ∙ kinds fleet (inl refl)
laden-kinds taken (fleet ∷ fleets) kinds x (inr is) =
    laden-kinds (without taken (fitting (free_room fleet) taken)) fleets (λ f has. kinds f (inr has)) x is

pub fought-ships : (seed : ℕ) (own : CellId → Own) (raid : Raid) (planet : PlanetFields) → HaveKinds (fought seed own raid planet).fleets
unfolding fought battle_of_raid
fought-ships seed own raid planet =
    let ending = battle_of_raid seed own raid planet in
    let fleets = survivors raid.fleets ending.attackers in
    laden-kinds (loot_if ending.outcome.verdict fleets planet.stock) fleets
    (survivors-kinds raid.fleets ending.attackers (attackers-count (raid_parts own raid) (planet_part own planet ∷ []) seed raid.group))

-- What becomes of a fleet that has fought.
pub record ComesBack (left : List Fleet) (old new : Fleet) : Type 0 where
  pub rest : Fleet
  pub within : IsIn rest left
  pub same : same_flight old rest ≡ true
  pub is : back_with old rest ≡ new

back_at_some : (left : List Fleet) (old new : Fleet) (found : Option Fleet) → find (same_flight old) left ≡ found → option_map (back_with old) found ≡ Some new → ComesBack left old new
back_at_some left old new None is back = absurd cc
back_at_some left old new (Some rest) is back =
    let found = find-in (same_flight old) left rest is in
    record { rest = rest; within = found.0; same = found.1; is = cc }

pub comes-back : (left : List Fleet) (old new : Fleet) → comes_back left old ≡ Some new → ComesBack left old new
comes-back left old new is = back_at_some left old new (find (same_flight old) left) refl is

-- it belongs to no other cell
pub back-belongs : (left : List Fleet) (cell : CellId) (old new : Fleet) → comes_back left old ≡ Some new → belongs cell new ≡ true → belongs cell old ≡ true
back-belongs left cell old new is here =
    let back = comes-back left old new is in
    turned-belongs cell old (back_at old) back.rest.cargo (ap (belongs cell) back.is ∙ here)

-- and has its number
pub back-number : (left : List Fleet) (old new : Fleet) → comes_back left old ≡ Some new → new.number ≡ old.number
back-number left old new is = let back = comes-back left old new is in ap (λ (f : Fleet). f.number) (sym back.is)
