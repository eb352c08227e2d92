-- How large the numbers of a planet's works can become.
use Rattle.std.proofs.Common.{◌≡◌, ℕ, ◌+◌, ◌-◌, ◌*◌, ◌/◌, ◌^◌, ◌<◌, ◌≤◌, lit≤, le_refl, arith, refl}
use Rattle.std.specs.Prelude.{ℤ, ◌≤ℤ◌}
use Rattle.std.proofs.lemmas.Int.{ints}
use Rattle.std.proofs.lemmas.Nat.{pow-add, mul-le}
use Rattle.std.proofs.Math.Nat.{pow-le-pow_left, le_of_mul-le-mul_right}
use Rattle.base_num.proofs.Quotients.{floor_bounds, ceiling_below, quotient_below}
use Rattle.catalog.specs.declared.ships.TheConstants.{UNITS}
use Rattle.rates.specs.declared.works.TheConstants.{COLDEST, HOTTEST}
use Rattle.rates.proofs.Powers.{ten_some}
use Rattle.rates.specs.Formulas.{output, intake, synthesized, collected, warmth, coldness, IsCollected}

-- up to level 30 a tenth more for each level is less than 18 times as much
pub eleven_tens : (level : ℕ) → level ≤ 30 → 11 ^ level ≤ 18 * 10 ^ level
eleven_tens level low =
    let rest : ℕ = 30 - level in
    let all : level + rest ≡ 30 = omega arith in
    let more : 10 ^ rest ≤ 11 ^ rest = pow-le-pow_left {n = 10} {m = 11} (lit≤ tt) rest in
    let product : 11 ^ level * 10 ^ rest ≤ 11 ^ level * 11 ^ rest = mul-le _ _ _ _ (le_refl _) more in
    let elevens : 11 ^ level * 11 ^ rest ≡ 11 ^ 30 = rw (← pow-add 11 level rest) (rw all refl) in
    let tens : 10 ^ level * 10 ^ rest ≡ 10 ^ 30 = rw (← pow-add 10 level rest) (rw all refl) in
    let most : 11 ^ 30 ≤ 18 * 10 ^ 30 = lit≤ tt in
    le_of_mul-le-mul_right {k = 10 ^ rest} (omega arith) (ten_some rest)

product_below : (rate level tenths : ℕ) → level ≤ 30 → tenths ≤ 10 → rate * level * 11 ^ level * tenths ≤ 540 * rate * (10 ^ level * 10)
product_below rate level tenths low few =
    let levels : rate * level ≤ rate * 30 = mul-le _ _ _ _ (le_refl _) low in
    let powers : rate * level * 11 ^ level ≤ rate * 30 * (18 * 10 ^ level) = mul-le _ _ _ _ levels (eleven_tens level low) in
    let all : rate * level * 11 ^ level * tenths ≤ rate * 30 * (18 * 10 ^ level) * 10 = mul-le _ _ _ _ powers few in
    omega (arith, all)

-- at ten tenths and level 30
pub output_below : (rate level tenths : ℕ) → level ≤ 30 → tenths ≤ 10 → output rate level tenths ≤ 540 * rate
unfolding output
output_below rate level tenths low few = quotient_below _ _ (540 * rate) (product_below rate level tenths low few)

pub intake_below : (rate level tenths : ℕ) → level ≤ 30 → tenths ≤ 10 → intake rate level tenths ≤ 540 * rate
unfolding intake
intake_below rate level tenths low few =
    let some = ten_some level in ceiling_below _ _ (540 * rate) (omega (arith, some)) (product_below rate level tenths low few)

-- the temperatures of planets
pub warmth_below : (t : ℤ) → COLDEST ≤ℤ t → t ≤ℤ HOTTEST → warmth t ≤ 400
warmth_below t cold warm = omega (arith, ints)

pub coldness_below : (t : ℤ) → COLDEST ≤ℤ t → t ≤ℤ HOTTEST → coldness t ≤ 1540
coldness_below t cold warm = omega (arith, ints)

synthesis_below : (level coldness tenths : ℕ) → level ≤ 30 → coldness ≤ 1540 → tenths ≤ 10
    → 10 * level * 11 ^ level * coldness * tenths ≤ 8316 * (10 ^ level * 1000 * 10)
synthesis_below level coldness tenths low cold few =
    let levels : 10 * level ≤ 300 = omega arith in
    let powers : 10 * level * 11 ^ level ≤ 300 * (18 * 10 ^ level) = mul-le _ _ _ _ levels (eleven_tens level low) in
    let degrees : 10 * level * 11 ^ level * coldness ≤ 300 * (18 * 10 ^ level) * 1540 = mul-le _ _ _ _ powers cold in
    let all : 10 * level * 11 ^ level * coldness * tenths ≤ 300 * (18 * 10 ^ level) * 1540 * 10 = mul-le _ _ _ _ degrees few in
    omega (arith, all)

pub synthesized_below : (level : ℕ) (t : ℤ) (tenths : ℕ) → level ≤ 30 → COLDEST ≤ℤ t → t ≤ℤ HOTTEST → tenths ≤ 10
    → synthesized level t tenths ≤ 8316
unfolding synthesized
synthesized_below level t tenths low cold warm few =
    quotient_below _ _ 8316 (synthesis_below level (coldness t) tenths low (coldness_below t cold warm) few)

pub collected_below : (count : ℕ) (t : ℤ) (tenths : ℕ) → count ≤ UNITS → COLDEST ≤ℤ t → t ≤ℤ HOTTEST → tenths ≤ 10
    → collected count t tenths ≤ 6600000
unfolding collected
collected_below count t tenths many cold warm few =
    let degrees : warmth t ≤ 400 = warmth_below t cold warm in
    let one : warmth t / 6 ≤ 66 = omega (arith, degrees) in
    let all : count * (warmth t / 6) ≤ UNITS * 66 = mul-le _ _ _ _ many one in
    let tenfold : count * (warmth t / 6) * tenths ≤ UNITS * 66 * 10 = mul-le _ _ _ _ all few in
    quotient_below _ _ 6600000 tenfold

-- the largest products
pub level_fits : (rate level : ℕ) → level ≤ 30 → rate * level ≤ rate * 30
level_fits rate level low = mul-le rate level rate 30 (le_refl rate) low

pub power_fits : (rate a b : ℕ) → a ≤ rate * 30 → b ≤ 11 ^ 30 → a * b ≤ rate * 30 * 11 ^ 30
power_fits rate a b low below = mul-le a b (rate * 30) (11 ^ 30) low below

pub tenths_fit : (a b : ℕ) → a ≤ 900 * 11 ^ 30 → b ≤ 10 → a * b < 2 ^ 128
tenths_fit a b low few = let all : a * b ≤ 900 * 11 ^ 30 * 10 = mul-le a b (900 * 11 ^ 30) 10 low few in omega (arith, all)

pub ruleset products = (level_fits, power_fits)

pub degrees_fit : (a b : ℕ) → a ≤ 300 * 11 ^ 30 → b ≤ 1540 → a * b ≤ 462000 * 11 ^ 30
degrees_fit a b low cold = let all : a * b ≤ 300 * 11 ^ 30 * 1540 = mul-le a b (300 * 11 ^ 30) 1540 low cold in omega (arith, all)

pub synthesis_fits : (a b : ℕ) → a ≤ 462000 * 11 ^ 30 → b ≤ 10 → a * b < 2 ^ 128
synthesis_fits a b low few = let all : a * b ≤ 462000 * 11 ^ 30 * 10 = mul-le a b (462000 * 11 ^ 30) 10 low few in omega (arith, all)

pub satellites_fit : (a b : ℕ) → a ≤ UNITS → b ≤ 66 → a * b ≤ 6600000
satellites_fit a b many one = mul-le a b UNITS 66 many one

pub set_satellites_fit : (a b : ℕ) → a ≤ 6600000 → b ≤ 10 → a * b ≤ 66000000
set_satellites_fit a b many few = mul-le a b 6600000 10 many few

-- what satellites give, reckoned in two steps
pub collected_has : (count : ℕ) (t : ℤ) (tenths a degrees n : ℕ) → a ≡ count → degrees ≡ warmth t → n ≡ tenths
    → IsCollected count t tenths (a * (degrees / 6) * n / 10)
collected_has count t tenths a degrees n is_count is_warmth is_tenths =
    let is : a * (degrees / 6) * n / 10 ≡ count * (warmth t / 6) * tenths / 10 = cc in
    rw is (record { one = warmth t / 6; one_is = floor_bounds (warmth t) 6 (lit≤ tt); all_is = floor_bounds (count * (warmth t / 6) * tenths) 10 (lit≤ tt) })

pub ruleset sizes = (output_below, intake_below, tenths_fit)

pub ruleset degrees = (warmth_below, coldness_below)

pub ruleset synthesis = (synthesized_below, degrees_fit, synthesis_fits)

pub ruleset collection = (collected_below, satellites_fit, set_satellites_fit, collected_has)
