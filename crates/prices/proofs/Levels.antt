-- No level of a kind costs more than the cap of a stock.
use Rattle.std.proofs.Common.{◌≡◌, ℕ, ◌+◌, ◌-◌, ◌*◌, ◌^◌, ◌<◌, ◌≤◌, arith, lit<, lit≤, subst}
use Rattle.std.proofs.Math.Nat.{le_of_mul-le-mul_right, mul-le-mul_left, one-le-pow, pow-le-pow_left, pow-le-pow_right}
use Rattle.std.proofs.lemmas.Nat.{pow-add}
use Rattle.base_num.proofs.Quotients.{floor_bounds}
use Rattle.catalog.specs.Costs.{cost_of}
use Rattle.catalog.specs.Levels.{growth_of, level_cap_of}
use Rattle.catalog.specs.declared.amounts.TheConstants.{CAP}
use Rattle.catalog.specs.declared.kind.Kind.{Kind}
use Rattle.catalog.specs.declared.kind.Kind.TheVariants.{MetalMine}

-- fewer steps of a growing fraction come to less: a^s/b^s is at most a^(s+r)/b^(s+r)
fewer_steps : (a b s r : ℕ) → b ≤ a → a ^ s * b ^ (s + r) ≤ a ^ (s + r) * b ^ s
fewer_steps a b s r growing =
    let more : b ^ r ≤ a ^ r = pow-le-pow_left growing r in
    rw (pow-add a s r, pow-add b s r) (omega (arith, mul-le-mul_left (a ^ s * b ^ s) more))

-- what is within a bound after s + r steps is within it after s
bound_before : (first most a b s r : ℕ) → 1 ≤ b → b ≤ a → first * a ^ (s + r) ≤ most * b ^ (s + r) → first * a ^ s ≤ most * b ^ s
bound_before first most a b s r some growing within =
    let steps = fewer_steps a b s r growing in
    let low = mul-le-mul_left first steps in
    let high = mul-le-mul_left (b ^ s) within in
    le_of_mul-le-mul_right {k = b ^ (s + r)} (omega (arith, low, high)) (one-le-pow (s + r) b some)

-- what is within a bound at a cap is within it at each level up to there
pub bound_below : (first most a b level cap : ℕ) → 1 ≤ b → b ≤ a → level ≤ cap → first * a ^ (cap - 1) ≤ most * b ^ (cap - 1) → first * a ^ (level - 1) ≤ most * b ^ (level - 1)
bound_below first most a b level cap some growing below within =
    let P : ℕ → Type 0 = λ n. first * a ^ n ≤ most * b ^ n in
    let same : cap - 1 ≡ (level - 1) + ((cap - 1) - (level - 1)) = omega arith in
    bound_before first most a b (level - 1) ((cap - 1) - (level - 1)) some growing (subst P same within)

metal_at_cap : (kind : Kind) → (cost_of kind).metal * (growth_of kind).numerator ^ (level_cap_of kind - 1) ≤ CAP * (growth_of kind).denominator ^ (level_cap_of kind - 1)
metal_at_cap MetalMine = lit≤ tt
metal_at_cap _ = lit≤ tt

crystal_at_cap : (kind : Kind) → (cost_of kind).crystal * (growth_of kind).numerator ^ (level_cap_of kind - 1) ≤ CAP * (growth_of kind).denominator ^ (level_cap_of kind - 1)
crystal_at_cap MetalMine = lit≤ tt
crystal_at_cap _ = lit≤ tt

deuterium_at_cap : (kind : Kind) → (cost_of kind).deuterium * (growth_of kind).numerator ^ (level_cap_of kind - 1) ≤ CAP * (growth_of kind).denominator ^ (level_cap_of kind - 1)
deuterium_at_cap MetalMine = lit≤ tt
deuterium_at_cap _ = lit≤ tt

pub denominator_from : (kind : Kind) → 1 ≤ (growth_of kind).denominator
denominator_from MetalMine = lit≤ tt
denominator_from _ = lit≤ tt

pub denominator_to : (kind : Kind) → (growth_of kind).denominator ≤ 5
denominator_to MetalMine = lit≤ tt
denominator_to _ = lit≤ tt

pub numerator_to : (kind : Kind) → (growth_of kind).numerator ≤ 8
numerator_to MetalMine = lit≤ tt
numerator_to _ = lit≤ tt

pub growing : (kind : Kind) → (growth_of kind).denominator ≤ (growth_of kind).numerator
growing MetalMine = lit≤ tt
growing _ = lit≤ tt

pub cap_to : (kind : Kind) → level_cap_of kind ≤ 30
cap_to MetalMine = lit≤ tt
cap_to _ = lit≤ tt

-- the powers of a growth fit 128 bits
pub power_fits : (a n : ℕ) → a ≤ 8 → n ≤ 29 → a ^ n < 2 ^ 128
power_fits a n base steps =
    let wide : a ^ n ≤ 8 ^ n = pow-le-pow_left base n in
    let long : 8 ^ n ≤ 8 ^ 29 = pow-le-pow_right (lit< tt) steps in
    omega (arith, wide, long)

pub denominator_fits : (a n : ℕ) → a ≤ 5 → n ≤ 29 → a ^ n ≤ 2 ^ 68
denominator_fits a n base steps =
    let wide : a ^ n ≤ 5 ^ n = pow-le-pow_left base n in
    let long : 5 ^ n ≤ 5 ^ 29 = pow-le-pow_right (lit< tt) steps in
    omega (arith, wide, long)

pub power_from : (a n : ℕ) → 1 ≤ a → 1 ≤ a ^ n
power_from a n some = one-le-pow n a some

-- each resource of a level is within the cap
pub metal_within : (kind : Kind) (level : ℕ) → level ≤ level_cap_of kind → (cost_of kind).metal * (growth_of kind).numerator ^ (level - 1) ≤ CAP * (growth_of kind).denominator ^ (level - 1)
metal_within kind level below = bound_below _ CAP _ _ level (level_cap_of kind) (denominator_from kind) (growing kind) below (metal_at_cap kind)

pub crystal_within : (kind : Kind) (level : ℕ) → level ≤ level_cap_of kind → (cost_of kind).crystal * (growth_of kind).numerator ^ (level - 1) ≤ CAP * (growth_of kind).denominator ^ (level - 1)
crystal_within kind level below = bound_below _ CAP _ _ level (level_cap_of kind) (denominator_from kind) (growing kind) below (crystal_at_cap kind)

pub deuterium_within : (kind : Kind) (level : ℕ) → level ≤ level_cap_of kind → (cost_of kind).deuterium * (growth_of kind).numerator ^ (level - 1) ≤ CAP * (growth_of kind).denominator ^ (level - 1)
deuterium_within kind level below = bound_below _ CAP _ _ level (level_cap_of kind) (denominator_from kind) (growing kind) below (deuterium_at_cap kind)

pub ruleset powers = (power_fits, denominator_fits, power_from, denominator_from, denominator_to, numerator_to, cap_to)

pub ruleset prices = (metal_within, crystal_within, deuterium_within, floor_bounds)
