-- What a planet produces, by the limits of its stores and by its hourly yields. Rules: docs/RULES.md, "One second of a
-- stock" and "Storage limits".
use Rattle.std.specs.Prelude.{ℕ, ◌*◌, ◌≤◌}
use Rattle.catalog.specs.Storage.{storage_limit}
use Rattle.catalog.specs.declared.amounts.TheConstants.{CAP}
use Rattle.rates.specs.Stock.{gain_once}
use Rattle.rates.specs.declared.stock.TheConstants.{GRAINS}
use Rattle.rates.specs.declared.resources.Resources.{Resources}
use Rattle.rates.specs.declared.works.Hourly.{Hourly}

-- the limits of a planet's stocks, in units, by the levels of its metal store, crystal store and deuterium tank
abbrev pub stores : ℕ → ℕ → ℕ → Resources
stores metal_store crystal_store tank =
    record { metal = storage_limit metal_store; crystal = storage_limit crystal_store; deuterium = storage_limit tank }

-- One second: each stock gains its own hourly yield, up to its own limit. The limits are in units, the yields in units
-- an hour, the stocks in grains.
abbrev pub produced_once : Resources → Hourly → Resources → Resources
produced_once limits hourly stock =
    record {
      metal = gain_once (GRAINS * limits.metal) hourly.metal stock.metal;
      crystal = gain_once (GRAINS * limits.crystal) hourly.crystal stock.crystal;
      deuterium = gain_once (GRAINS * limits.deuterium) hourly.deuterium stock.deuterium;
    }

-- No limit, in units, is above CAP.
pub record IsStorable (limits : Resources) : Type 0 where
  pub metal : limits.metal ≤ CAP
  pub crystal : limits.crystal ≤ CAP
  pub deuterium : limits.deuterium ≤ CAP
