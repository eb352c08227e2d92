-- A stock after many seconds, in closed form.
use Rattle.std.proofs.Common.{◌≡◌, ℕ, zero, suc, ◌+◌, ◌*◌, ◌<◌, ◌≤◌, min, arith, refl, ap}
use Rattle.std.proofs.lemmas.Bool.Decides.{nat_tests}
use Rattle.catalog.specs.Storage.{storage_limit}
use Rattle.catalog.specs.declared.amounts.TheConstants.{CAP}
use Rattle.rates.specs.Production.{IsStorable, produced_once}
use Rattle.rates.specs.Stock.{IsWithinCap, gain_once, stocks_second}
use Rattle.rates.specs.declared.stock.TheConstants.{GRAINS}
use Rattle.rates.specs.declared.resources.Resources.{Resources}
use Rattle.rates.specs.declared.works.Hourly.{Hourly}
use Rattle.rates.specs.Times.{times}
use Rattle.rates.proofs.Repetition.{times_add, times_keep, times_none}

-- one second more, with the stock cut at its limit
one_more : (limit hourly now next : ℕ) → next ≡ now + hourly → gain_once limit hourly (min now limit) ≡ min next limit
one_more limit hourly now next more = grind (arith, nat_tests)

-- at or above its limit a stock stays
pub gain_full : (limit hourly grains seconds : ℕ) → limit ≤ grains → times seconds (gain_once limit hourly) grains ≡ grains
unfolding times
gain_full limit hourly grains zero full = refl
gain_full limit hourly grains (suc seconds) full = let before = gain_full limit hourly grains seconds full in grind (arith, before)

-- below its limit a stock has what it gained, cut at the limit
pub gain_below : (limit hourly grains seconds : ℕ) → grains < limit → times seconds (gain_once limit hourly) grains ≡ min (grains + hourly * seconds) limit
unfolding times
gain_below limit hourly grains zero below = omega arith
gain_below limit hourly grains (suc seconds) below =
    rw (gain_below limit hourly grains seconds below) (one_more limit hourly (grains + hourly * seconds) (grains + hourly * suc seconds) (omega arith))

pub ruleset gains = (gain_full, gain_below)

-- the stocks of a planet gain each by itself
pub times_stocks : (speed seconds : ℕ) (stock : Resources)
    → times seconds (stocks_second speed) stock
    ≡ record {
      metal = times seconds (gain_once (GRAINS * storage_limit 0) (20 * speed)) stock.metal;
      crystal = times seconds (gain_once (GRAINS * storage_limit 0) (10 * speed)) stock.crystal;
      deuterium = times seconds (gain_once (GRAINS * storage_limit 0) 0) stock.deuterium;
    }
unfolding times
times_stocks speed zero stock = refl
times_stocks speed (suc seconds) stock = ap (stocks_second speed) (times_stocks speed seconds stock)

pub ruleset all_gains = (times_stocks)

-- the same, by limits and yields
pub times_produced : (limits : Resources) (hourly : Hourly) (seconds : ℕ) (stock : Resources)
    → times seconds (produced_once limits hourly) stock
    ≡ record {
      metal = times seconds (gain_once (GRAINS * limits.metal) hourly.metal) stock.metal;
      crystal = times seconds (gain_once (GRAINS * limits.crystal) hourly.crystal) stock.crystal;
      deuterium = times seconds (gain_once (GRAINS * limits.deuterium) hourly.deuterium) stock.deuterium;
    }
unfolding times
times_produced limits hourly zero stock = refl
times_produced limits hourly (suc seconds) stock = ap (produced_once limits hourly) (times_produced limits hourly seconds stock)

pub ruleset production = (times_produced)

-- no time produces nothing
pub produced_none : (limits : Resources) (hourly : Hourly) (stock : Resources) → times 0 (produced_once limits hourly) stock ≡ stock
produced_none limits hourly stock = times_none (produced_once limits hourly) stock

-- some time, and then some more, produce what both together do
pub produced_add : (limits : Resources) (hourly : Hourly) (more seconds : ℕ) (stock : Resources)
    → times more (produced_once limits hourly) (times seconds (produced_once limits hourly) stock) ≡ times (seconds + more) (produced_once limits hourly) stock
produced_add limits hourly more seconds stock = times_add more seconds (produced_once limits hourly) stock

-- one second leaves a stock within the cap
gain_within : (limit hourly grains : ℕ) → limit ≤ CAP → grains ≤ GRAINS * CAP → gain_once (GRAINS * limit) hourly grains ≤ GRAINS * CAP
gain_within limit hourly grains low within = grind (arith, nat_tests)

-- production leaves stocks within the cap
pub produced_within : (limits : Resources) (hourly : Hourly) (seconds : ℕ) (stock : Resources)
    → IsStorable limits → IsWithinCap stock → IsWithinCap (times seconds (produced_once limits hourly) stock)
produced_within limits hourly seconds stock storable within =
    times_keep IsWithinCap seconds (produced_once limits hourly) stock
    (λ y good. record {
      metal = gain_within limits.metal hourly.metal y.metal storable.metal good.metal;
      crystal = gain_within limits.crystal hourly.crystal y.crystal storable.crystal good.crystal;
      deuterium = gain_within limits.deuterium hourly.deuterium y.deuterium storable.deuterium good.deuterium;
    })
    within
