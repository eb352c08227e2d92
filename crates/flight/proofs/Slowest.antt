-- The slowest ship of a fleet, kind by kind.
use Rattle.std.proofs.Common.{◌≡◌, ◌≢◌, ℕ, zero, suc, ◌+◌, ◌*◌, ◌/◌, ◌<◌, ◌≤◌, List, [], ◌∷◌, length, get_or, drop, refl, arith, sym, ◌∙◌, min, cond, eqb, inl, inr, lit≤, ne_eqb, true, false, subst}
use Rattle.std.specs.Prelude.{IsTrue, Option, Some, None, All, Any, fold, map, nat_le, nat_lt, unwrap_or, if◌then◌else◌, ◌⊎◌}
use Rattle.std.specs.List.{list_any}
use Rattle.std.proofs.lemmas.List.{drop_more}
use Rattle.base_num.specs.Division.{IsFloor}
use Rattle.base_num.proofs.Quotients.{floor_bounds, is_floor}
use Rattle.catalog.specs.declared.kind.Kind.{Kind}
use Rattle.catalog.specs.declared.kind.Kind.TheVariants.{SmallCargo, LargeCargo, LightFighter, HeavyFighter, Cruiser, Battleship, Battlecruiser, Bomber, Destroyer, Deathstar, Recycler, ColonyShip, Probe}
use Rattle.catalog.specs.declared.engine.Drive.TheVariants.{Combustion, Impulse}
use Rattle.catalog.specs.declared.ships.TheConstants.{SHIPS}
use Rattle.catalog.specs.Flight.{engine}
use Rattle.flight.specs.Fleets.{present}
use Rattle.flight.specs.Speeds.{IsSlowest, engine_tenths, impulse_in, least, lower, ship_speed, ship_tenths, slowest_of}

-- a kind that is not there is passed over
pub present_absent : (kinds : List Kind) (counts : List ℕ) (i : ℕ) → i < length kinds → i < length counts → get_or counts i 0 ≡ 0 → present (drop i kinds) (drop i counts) ≡ present (drop (i + 1) kinds) (drop (i + 1) counts)
unfolding present
present_absent kinds counts i here there none = rw (drop_more kinds i SmallCargo here, drop_more counts i 0 there, none) refl

-- a kind that is there comes before those that follow it
pub present_there : (kinds : List Kind) (counts : List ℕ) (i : ℕ) (d : Kind) → i < length kinds → i < length counts → get_or counts i 0 ≢ 0 → present (drop i kinds) (drop i counts) ≡ get_or kinds i d ∷ present (drop (i + 1) kinds) (drop (i + 1) counts)
unfolding present
present_there kinds counts i d here there some = rw (drop_more kinds i d here, drop_more counts i 0 there, ne_eqb (get_or counts i 0) 0 some) refl

-- behind the last kind there is none
drop_past : (kinds : List Kind) (i : ℕ) → length kinds ≤ i → drop i kinds ≡ []
drop_past [] zero past = refl
drop_past [] (suc i) past = refl
drop_past (kind ∷ kinds) zero past = absurd (omega arith)
drop_past (kind ∷ kinds) (suc i) past = drop_past kinds i (omega arith)

pub present_end : (kinds : List Kind) (counts : List ℕ) (i : ℕ) → length kinds ≤ i → present (drop i kinds) (drop i counts) ≡ []
unfolding present
present_end kinds counts i past = rw (drop_past kinds i past) refl

-- a kind more is taken into the lowest
pub slowest_step : (levels : List ℕ) (before after whole : Option ℕ) (kind : Kind) (all rest : List Kind) (speed : ℕ) → all ≡ kind ∷ rest → speed ≡ ship_speed levels kind → after ≡ lower before speed → slowest_of before levels all ≡ whole → slowest_of after levels rest ≡ whole
slowest_step levels before after whole kind all rest speed more fast taken so_far = rw (taken, fast) (rw more at so_far)

-- the lowest of a first speed and others
lower_some : (first : ℕ) (speeds : List ℕ) → fold lower (Some first) speeds ≡ Some (fold min first speeds)
lower_some first [] = refl
lower_some first (speed ∷ speeds) = lower_some (min first speed) speeds

-- the lowest of speeds is the least of them
pub lowest_is_least : (speeds : List ℕ) → unwrap_or (fold lower None speeds) 0 ≡ least speeds
unfolding least
lowest_is_least [] = refl
lowest_is_least (speed ∷ speeds) = rw (lower_some speed speeds) refl

-- a fact of the first kind and of each other is one of each
all_more : (P : Kind → Type 0) (kind : Kind) (kinds : List Kind) → P kind → All P kinds → All P (kind ∷ kinds)
all_more P kind kinds here there zero d within = here
all_more P kind kinds here there (suc k) d within = there k d (omega arith)

-- none is below the least
fold_bounds : (of_kind : Kind → ℕ) (first : ℕ) (kinds : List Kind) → (fold min first (map of_kind kinds) ≤ first) × All (λ kind. fold min first (map of_kind kinds) ≤ of_kind kind) kinds
fold_bounds of_kind first [] = (omega arith, λ k d within. absurd (omega arith))
fold_bounds of_kind first (kind ∷ kinds) =
    let rest = fold_bounds of_kind (min first (of_kind kind)) kinds in
    let low = rest.0 in
    (omega (arith, low), all_more (λ other. fold min (min first (of_kind kind)) (map of_kind kinds) ≤ of_kind other) kind kinds (omega (arith, low)) rest.1)

any_here : (P : Kind → Type 0) (kind : Kind) (kinds : List Kind) → P kind → Any P (kind ∷ kinds)
any_here P kind kinds here = (0, kind, omega arith, refl, here)

any_more : (P : Kind → Type 0) (kind : Kind) (kinds : List Kind) → Any P kinds → Any P (kind ∷ kinds)
any_more P kind kinds found = let within = found.2 in (suc found.0, found.1, omega (arith, within), found.3, found.4)

-- the lesser of two numbers is one of them
min_is : (a b : ℕ) → (min a b ≡ a) ⊎ (min a b ≡ b)
min_is zero b = inl (omega arith)
min_is (suc a) zero = inr (omega arith)
min_is (suc a) (suc b) = elim (min_is a b) [ inl same ↦ inl (omega (arith, same)) | inr same ↦ inr (omega (arith, same)) ]

-- the least is one of them
fold_reached : (of_kind : Kind → ℕ) (first : ℕ) (kinds : List Kind) → (fold min first (map of_kind kinds) ≡ first) ⊎ Any (λ kind. fold min first (map of_kind kinds) ≡ of_kind kind) kinds
fold_reached of_kind first [] = inl refl
fold_reached of_kind first (kind ∷ kinds) =
    let least_is = λ (other : Kind). fold min (min first (of_kind kind)) (map of_kind kinds) ≡ of_kind other in
    elim (fold_reached of_kind (min first (of_kind kind)) kinds) [
      | inl same ↦ elim (min_is first (of_kind kind)) [ inl low ↦ inl (same ∙ low) | inr high ↦ inr (any_here least_is kind kinds (same ∙ high)) ]
      | inr found ↦ inr (any_more least_is kind kinds found)
    ]

-- what is found in another word
any_as : (P Q : Kind → Type 0) (kinds : List Kind) → ((kind : Kind) → P kind → Q kind) → Any P kinds → Any Q kinds
any_as P Q kinds as_well found = (found.0, found.1, found.2, found.3, as_well found.1 found.4)

-- the least of the speeds is that of the slowest
pub slowest_is : (levels : List ℕ) (kinds : List Kind) (speed : ℕ) → 0 < length kinds → speed ≡ least (map (ship_speed levels) kinds) → IsSlowest levels kinds speed
unfolding least
slowest_is levels [] speed some same = absurd (omega arith)
slowest_is levels (kind ∷ kinds) speed some same =
    let bounds = fold_bounds (ship_speed levels) (ship_speed levels kind) kinds in
    let first = bounds.0 in
    let is_speed = λ (other : Kind). IsFloor (ship_tenths levels other) 10 speed in
    let floored : (other : Kind) → speed ≡ ship_speed levels other → is_speed other = λ other equal. subst (IsFloor (ship_tenths levels other) 10) (sym equal) (floor_bounds (ship_tenths levels other) 10 (lit≤ tt)) in
    let reached : Any is_speed (kind ∷ kinds) =
    elim (fold_reached (ship_speed levels) (ship_speed levels kind) kinds) [
      | inl equal ↦ any_here is_speed kind kinds (floored kind (same ∙ equal))
      | inr found ↦ any_more is_speed kind kinds (any_as (λ other. fold min (ship_speed levels kind) (map (ship_speed levels) kinds) ≡ ship_speed levels other) is_speed kinds (λ other equal. floored other (same ∙ equal)) found)
    ] in
    record {
      reached = reached;
      none_slower = all_more (λ other. speed * 10 ≤ ship_tenths levels other) kind kinds (omega (arith, same, first)) (λ k d within. let low = bounds.1 k d within in omega (arith, same, low));
    }

-- what holds of each kind holds of those that are there
present_all : (P : Kind → Type 0) (kinds : List Kind) (counts : List ℕ) → All P kinds → All P (present kinds counts)
unfolding present
present_all P [] counts all = all
present_all P (kind ∷ kinds) [] all = λ k d within. absurd (omega arith)
present_all P (kind ∷ kinds) (count ∷ counts) all =
    let rest = present_all P kinds counts (λ k d within. all (suc k) d (omega arith)) in
    elim (eqb count 0) as (λ b. All P (cond b (present kinds counts) (kind ∷ present kinds counts)))
    [ true ↦ rest | false ↦ all_more P kind (present kinds counts) (all 0 kind (omega arith)) rest ]

-- if a count is not 0, a kind is there
pub present_some : (kinds : List Kind) (counts : List ℕ) → length counts ≤ length kinds → IsTrue (list_any (λ count. nat_lt 0 count) counts) → 0 < length (present kinds counts)
unfolding present
present_some kinds [] within some = cc
present_some [] (count ∷ counts) within some = absurd (omega arith)
present_some (kind ∷ kinds) (zero ∷ counts) within some = present_some kinds counts (omega arith) some
present_some (kind ∷ kinds) (suc count ∷ counts) within some = let there : suc count ≢ 0 = omega arith in rw (ne_eqb (suc count) 0 there) (omega arith)

-- a ship that flies is not slower than a death star without its drive's technology
small_cargo : (levels : List ℕ) → 100 ≤ ship_speed levels SmallCargo
small_cargo levels =
    elim (nat_le 5 (impulse_in levels)) as (λ b. 100 ≤ engine_tenths levels (if b then engine 10000 Impulse 20 else engine 5000 Combustion 10) / 10)
    [ true ↦ omega arith | false ↦ omega arith ]

flying : (levels : List ℕ) → All (λ kind. 100 ≤ ship_speed levels kind) SHIPS
flying levels =
    let P : Kind → Type 0 = λ kind. 100 ≤ ship_speed levels kind in
    let none : All P [] = λ k d within. absurd (omega arith) in
    all_more P SmallCargo (drop 1 SHIPS) (small_cargo levels)
    (all_more P LargeCargo (drop 2 SHIPS) (omega arith)
    (all_more P LightFighter (drop 3 SHIPS) (omega arith)
    (all_more P HeavyFighter (drop 4 SHIPS) (omega arith)
    (all_more P Cruiser (drop 5 SHIPS) (omega arith)
    (all_more P Battleship (drop 6 SHIPS) (omega arith)
    (all_more P Battlecruiser (drop 7 SHIPS) (omega arith)
    (all_more P Bomber (drop 8 SHIPS) (omega arith)
    (all_more P Destroyer (drop 9 SHIPS) (omega arith)
    (all_more P Deathstar (drop 10 SHIPS) (omega arith)
    (all_more P Recycler (drop 11 SHIPS) (omega arith)
    (all_more P ColonyShip (drop 12 SHIPS) (omega arith)
    (all_more P Probe (drop 13 SHIPS) (omega arith) none))))))))))))

pub speed_from : (levels : List ℕ) (counts : List ℕ) (speed : ℕ) → IsSlowest levels (present SHIPS counts) speed → 100 ≤ speed
speed_from levels counts speed slowest =
    let found = slowest.reached in
    let kind = found.1 in
    let fast : 100 ≤ ship_speed levels (get_or (present SHIPS counts) found.0 kind) = present_all (λ other. 100 ≤ ship_speed levels other) SHIPS counts (flying levels) found.0 kind found.2 in
    let at_kind : 100 ≤ ship_speed levels kind = subst (λ other. 100 ≤ ship_speed levels other) found.3 fast in
    let same = is_floor (ship_tenths levels kind) 10 speed found.4 in
    omega (arith, at_kind, same)

pub ruleset steps = (present_absent, present_there)

pub ruleset speeds = (lowest_is_least, slowest_is, present_some, speed_from)
