-- The shares of mines, and the yields of a planet, by their bounds.
use Rattle.std.proofs.Common.{◌≡◌, ℕ, ◌+◌, ◌*◌, ◌/◌, ◌^◌, ◌≤◌, min, lit≤, le_refl, arith, refl}
use Rattle.std.specs.Prelude.{ℤ}
use Rattle.std.proofs.lemmas.Nat.{mul-le}
use Rattle.std.proofs.Math.Nat.{zero-div}
use Rattle.std.proofs.lemmas.Bool.Decides.{nat_tests}
use Rattle.base_num.proofs.Quotients.{floor_bounds, ceiling_bounds, is_ceiling, quotient_below}
use Rattle.catalog.specs.declared.settings.TheConstants.{TOP_SPEED}
use Rattle.rates.proofs.Powers.{ten_some}
use Rattle.catalog.specs.declared.kind.Kind.TheVariants.{MetalMine, CrystalMine, DeuteriumSynth, SolarPlant, Satellite}
use Rattle.rates.specs.Energy.{setting, given_of, need_of, IsGiven, IsNeeded}
use Rattle.rates.specs.Formulas.{output, intake, synthesized, collected, warmth}
use Rattle.rates.specs.Yields.{mines_of, scaled, hourly_of, AreMines, IsScaled, AreYields}
use Rattle.rates.specs.declared.works.Works.{Works}

-- a divisor of the formulas
tenfold_some : (level : ℕ) → 1 ≤ 10 ^ level * 10
tenfold_some level = let some = ten_some level in omega (arith, some)

-- a product of a mine's yield at a speed with the energy that it has
pub speed_fits : (mine speed : ℕ) → mine ≤ 16200 → speed ≤ TOP_SPEED → mine * speed ≤ 1620000
speed_fits mine speed low fast = mul-le mine speed 16200 TOP_SPEED low fast

pub energy_fits : (a b : ℕ) → a ≤ 1620000 → b ≤ 21600 → a * b ≤ 34992000000
energy_fits a b low few = mul-le a b 1620000 21600 low few

-- if energy is needed
pub scaled_is : (mine speed given need : ℕ) → 1 ≤ need → scaled mine speed given need ≡ mine * speed * min given need / need
unfolding scaled
scaled_is mine speed given need some = grind (arith, nat_tests)

pub scaled_idle : (mine speed given need : ℕ) → need ≡ 0 → scaled mine speed given need ≡ 0
unfolding scaled
scaled_idle mine speed given need none = grind (arith, nat_tests)

pub share_below : (a given need : ℕ) → a * min given need / need ≤ a
share_below a given need =
    let less : min given need ≤ need = omega arith in
    quotient_below (a * min given need) need a (mul-le a (min given need) a need (le_refl a) less)

-- a share has its bounds
pub scaled_bounds : (mine speed given need : ℕ) → IsScaled mine speed given need (scaled mine speed given need)
scaled_bounds mine speed given need =
    record {
      idle = scaled_idle mine speed given need;
      working = λ some. rw (scaled_is mine speed given need some) (floor_bounds (mine * speed * min given need) need some);
    }

pub ruleset shares = (speed_fits, energy_fits, scaled_is, scaled_idle, share_below)

-- the energy has its bounds
pub is_given : (works : Works) → IsGiven works (given_of works)
unfolding given_of output collected
is_given works =
    record {
      solar = output 20 works.solar (setting works SolarPlant);
      solar_is = floor_bounds _ _ (tenfold_some works.solar);
      satellites = collected works.satellites works.t (setting works Satellite);
      satellites_are = record { one = warmth works.t / 6; one_is = floor_bounds _ 6 (lit≤ tt); all_is = floor_bounds _ 10 (lit≤ tt) };
      sum = refl;
    }

pub is_needed : (works : Works) → IsNeeded works (need_of works)
unfolding need_of intake
is_needed works =
    record {
      metal = intake 10 works.metal (setting works MetalMine);
      metal_is = ceiling_bounds _ _ (tenfold_some works.metal);
      crystal = intake 10 works.crystal (setting works CrystalMine);
      crystal_is = ceiling_bounds _ _ (tenfold_some works.crystal);
      synthesizer = intake 20 works.deuterium (setting works DeuteriumSynth);
      synthesizer_is = ceiling_bounds _ _ (tenfold_some works.deuterium);
      sum = refl;
    }

pub are_mines : (works : Works) → AreMines works (mines_of works).metal (mines_of works).crystal (mines_of works).deuterium
unfolding mines_of output synthesized
are_mines works =
    record {
      metal_is = floor_bounds _ _ (tenfold_some works.metal);
      crystal_is = floor_bounds _ _ (tenfold_some works.crystal);
      deuterium_is = let some = ten_some works.deuterium in floor_bounds _ _ (omega (arith, some));
    }

-- the yields have theirs
pub are_yields : (works : Works) (speed : ℕ) → AreYields works speed (hourly_of works speed)
unfolding hourly_of
are_yields works speed =
    record {
      given = is_given works;
      need = is_needed works;
      metal_mine = (mines_of works).metal;
      crystal_mine = (mines_of works).crystal;
      synthesizer = (mines_of works).deuterium;
      mines = are_mines works;
      metal_share = scaled (mines_of works).metal speed (given_of works) (need_of works);
      metal_share_is = scaled_bounds _ _ _ _;
      metal = refl;
      crystal_share = scaled (mines_of works).crystal speed (given_of works) (need_of works);
      crystal_share_is = scaled_bounds _ _ _ _;
      crystal = refl;
      deuterium_share = scaled (mines_of works).deuterium speed (given_of works) (need_of works);
      deuterium_share_is = scaled_bounds _ _ _ _;
      deuterium = refl;
    }

-- a work of level 0 makes, gives and needs nothing
output_none : (rate level tenths : ℕ) → level ≡ 0 → output rate level tenths ≡ 0
unfolding output
output_none rate level tenths none =
    let nothing : rate * level * 11 ^ level * tenths ≡ 0 = rw none (omega arith) in rw nothing (zero-div (10 ^ level * 10))

intake_none : (rate level tenths : ℕ) → level ≡ 0 → intake rate level tenths ≡ 0
unfolding intake
intake_none rate level tenths none =
    let nothing : rate * level * 11 ^ level * tenths ≡ 0 = rw none (omega arith) in
    let some = ten_some level in
    is_ceiling _ _ 0 (record { reaches = omega (arith, nothing); least = omega (arith, nothing, some) })

collected_none : (count : ℕ) (t : ℤ) (tenths : ℕ) → count ≡ 0 → collected count t tenths ≡ 0
unfolding collected
collected_none count t tenths none =
    let nothing : count * (warmth t / 6) * tenths ≡ 0 = rw none (omega arith) in rw nothing refl

-- a planet without works has the basic income alone
pub without_works : (works : Works) (speed : ℕ)
    → works.metal ≡ 0 → works.crystal ≡ 0 → works.deuterium ≡ 0 → works.solar ≡ 0 → works.satellites ≡ 0
    → hourly_of works speed ≡ record { metal = 20 * speed; crystal = 10 * speed; deuterium = 0; given = 0; need = 0 }
unfolding hourly_of given_of need_of
without_works works speed metal crystal deuterium solar satellites =
    let need : need_of works ≡ 0 = omega (
      arith,
      intake_none 10 works.metal (setting works MetalMine) metal,
      intake_none 10 works.crystal (setting works CrystalMine) crystal,
      intake_none 20 works.deuterium (setting works DeuteriumSynth) deuterium,
    ) in
    let given : given_of works ≡ 0 = omega (arith, output_none 20 works.solar (setting works SolarPlant) solar, collected_none works.satellites works.t (setting works Satellite) satellites) in
    let metal_alone : 20 * speed + scaled (mines_of works).metal speed (given_of works) (need_of works) ≡ 20 * speed = omega (arith, scaled_idle (mines_of works).metal speed (given_of works) (need_of works) need) in
    let crystal_alone : 10 * speed + scaled (mines_of works).crystal speed (given_of works) (need_of works) ≡ 10 * speed = omega (arith, scaled_idle (mines_of works).crystal speed (given_of works) (need_of works) need) in
    let deuterium_alone : 0 + scaled (mines_of works).deuterium speed (given_of works) (need_of works) ≡ 0 = omega (arith, scaled_idle (mines_of works).deuterium speed (given_of works) (need_of works) need) in
    cc
