-- The longest that a building, a research and a unit can take. It is without any helper and at speed 1.
use Rattle.std.proofs.Common.{ℕ, ◌+◌, ◌-◌, ◌*◌, ◌/◌, ◌^◌, ◌≤◌, Bool, true, false, refl, arith, lit<, le_refl}
use Rattle.std.specs.Prelude.{IsTrue, nat_le, ◌||◌, not}
use Rattle.std.proofs.lemmas.Bool.{leb-true}
use Rattle.std.proofs.lemmas.Nat.{mul-le}
use Rattle.std.proofs.Math.Nat.{one-le-pow}
use Rattle.base_num.proofs.Quotients.{quotient_below}
use Rattle.catalog.specs.Classes.{is_building, is_technology, is_unit}
use Rattle.catalog.specs.Costs.{cost_of}
use Rattle.catalog.specs.Levels.{growth_of, level_cap_of}
use Rattle.catalog.specs.declared.kind.Kind.{Kind}
use Rattle.catalog.specs.declared.kind.Kind.TheVariants.{MetalMine}
use Rattle.prices.proofs.Levels.{bound_below, denominator_from, growing}
use Rattle.prices.specs.Durations.{hourly_work, seconds_of, work_of}
use Rattle.prices.specs.Prices.{grown, price_of}
use Rattle.prices.specs.declared.duration.Helpers.{Helpers}
use Rattle.prices.specs.declared.duration.Helpers.TheVariants.{Building, Research, Yard}

-- at the cap of a kind a first amount has grown to no more than a bound
is_capped_at : Kind → ℕ → ℕ → Bool
is_capped_at kind first most =
    nat_le (first * (growth_of kind).numerator ^ (level_cap_of kind - 1)) (most * (growth_of kind).denominator ^ (level_cap_of kind - 1))

-- of all levels of buildings, level 8 of nanite has the most metal and the most crystal
building_metal : (kind : Kind) → IsTrue (not (is_building kind) || is_capped_at kind (cost_of kind).metal 128000000)
unfolding is_capped_at
building_metal MetalMine = refl
building_metal _ = refl

building_crystal : (kind : Kind) → IsTrue (not (is_building kind) || is_capped_at kind (cost_of kind).crystal 64000000)
unfolding is_capped_at
building_crystal MetalMine = refl
building_crystal _ = refl

-- of all levels of technologies, level 20 of hyperdrive
technology_metal : (kind : Kind) → IsTrue (not (is_technology kind) || is_capped_at kind (cost_of kind).metal 5242880000)
unfolding is_capped_at
technology_metal MetalMine = refl
technology_metal _ = refl

technology_crystal : (kind : Kind) → IsTrue (not (is_technology kind) || is_capped_at kind (cost_of kind).crystal 10485760000)
unfolding is_capped_at
technology_crystal MetalMine = refl
technology_crystal _ = refl

-- of all units, the deathstar
unit_metal : (kind : Kind) → IsTrue (not (is_unit kind) || is_capped_at kind (cost_of kind).metal 5000000)
unfolding is_capped_at
unit_metal MetalMine = refl
unit_metal _ = refl

unit_crystal : (kind : Kind) → IsTrue (not (is_unit kind) || is_capped_at kind (cost_of kind).crystal 4000000)
unfolding is_capped_at
unit_crystal MetalMine = refl
unit_crystal _ = refl

-- if a test follows from another one that holds, it holds
follows : (a b : Bool) → IsTrue (not a || b) → IsTrue a → IsTrue b
follows true b either holds = either
follows false b either holds = cc

-- what is capped at the cap is capped at each level below
amount_within : (kind : Kind) (level first most : ℕ) → IsTrue (is_capped_at kind first most) → level ≤ level_cap_of kind → grown first (growth_of kind) (level - 1) ≤ most
unfolding is_capped_at
amount_within kind level first most capped below =
    quotient_below _ _ most (bound_below first most _ _ level (level_cap_of kind) (denominator_from kind) (growing kind) below (leb-true _ _ capped))

-- if an hour's work is at least so much, what most hours work takes at most so many seconds
seconds_within : (metal crystal least most : ℕ) (helpers : Helpers) (speed : ℕ) → 1 ≤ most → least ≤ hourly_work helpers speed → work_of metal crystal ≤ most * least → seconds_of metal crystal helpers speed ≤ most
seconds_within metal crystal least most helpers speed some works enough =
    let all : most * least ≤ most * hourly_work helpers speed = mul-le _ _ _ _ (le_refl most) works in
    let quotient : work_of metal crystal / hourly_work helpers speed ≤ most = quotient_below _ _ most (omega (arith, all, enough)) in
    omega (arith, quotient, some)

-- helpers and speed only shorten the work
built_from : (helper nanite speed : ℕ) → 1 ≤ speed → 2500 ≤ 2500 * (1 + helper) * 2 ^ nanite * speed
built_from helper nanite speed some =
    let base : 2500 ≤ 2500 * (1 + helper) = omega arith in
    let doubled : 2500 * 1 ≤ 2500 * (1 + helper) * 2 ^ nanite = mul-le _ _ _ _ base (one-le-pow nanite 2 (lit< tt)) in
    let fast : 2500 * 1 * 1 ≤ 2500 * (1 + helper) * 2 ^ nanite * speed = mul-le _ _ _ _ doubled some in
    fast

researched_from : (lab speed : ℕ) → 1 ≤ speed → 1000 ≤ 1000 * (1 + lab) * speed
researched_from lab speed some =
    let base : 1000 ≤ 1000 * (1 + lab) = omega arith in
    let fast : 1000 * 1 ≤ 1000 * (1 + lab) * speed = mul-le _ _ _ _ base some in
    fast

-- a piece of work takes at least a second
pub seconds_from : (metal crystal : ℕ) (helpers : Helpers) (speed : ℕ) → 1 ≤ seconds_of metal crystal helpers speed
seconds_from metal crystal helpers speed = omega arith

-- no level of a building takes longer than 2^29 seconds
pub building_seconds_within : (kind : Kind) (level robotics nanite speed : ℕ) → IsTrue (is_building kind) → level ≤ level_cap_of kind → 1 ≤ speed
    → seconds_of (price_of kind level).metal (price_of kind level).crystal (Building robotics nanite) speed ≤ 2 ^ 29
building_seconds_within kind level robotics nanite speed class below some =
    let metal = amount_within kind level (cost_of kind).metal 128000000 (follows _ _ (building_metal kind) class) below in
    let crystal = amount_within kind level (cost_of kind).crystal 64000000 (follows _ _ (building_crystal kind) class) below in
    seconds_within (price_of kind level).metal (price_of kind level).crystal 2500 (2 ^ 29) (Building robotics nanite) speed (omega arith) (built_from robotics nanite speed some) (omega (arith, metal, crystal))

-- no level of a technology takes longer than 2^36 seconds
pub technology_seconds_within : (kind : Kind) (level lab speed : ℕ) → IsTrue (is_technology kind) → level ≤ level_cap_of kind → 1 ≤ speed
    → seconds_of (price_of kind level).metal (price_of kind level).crystal (Research lab) speed ≤ 2 ^ 36
technology_seconds_within kind level lab speed class below some =
    let metal = amount_within kind level (cost_of kind).metal 5242880000 (follows _ _ (technology_metal kind) class) below in
    let crystal = amount_within kind level (cost_of kind).crystal 10485760000 (follows _ _ (technology_crystal kind) class) below in
    seconds_within (price_of kind level).metal (price_of kind level).crystal 1000 (2 ^ 36) (Research lab) speed (omega arith) (researched_from lab speed some) (omega (arith, metal, crystal))

-- no unit takes longer than 2^24 seconds
pub unit_seconds_within : (kind : Kind) (level shipyard nanite speed : ℕ) → IsTrue (is_unit kind) → level ≤ level_cap_of kind → 1 ≤ speed
    → seconds_of (price_of kind level).metal (price_of kind level).crystal (Yard shipyard nanite) speed ≤ 2 ^ 24
unit_seconds_within kind level shipyard nanite speed class below some =
    let metal = amount_within kind level (cost_of kind).metal 5000000 (follows _ _ (unit_metal kind) class) below in
    let crystal = amount_within kind level (cost_of kind).crystal 4000000 (follows _ _ (unit_crystal kind) class) below in
    seconds_within (price_of kind level).metal (price_of kind level).crystal 2500 (2 ^ 24) (Yard shipyard nanite) speed (omega arith) (built_from shipyard nanite speed some) (omega (arith, metal, crystal))

pub ruleset longest = (seconds_from, building_seconds_within, technology_seconds_within, unit_seconds_within)
