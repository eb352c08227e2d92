-- What a fleet takes from the planet that it leaves. Rule: docs/RULES.md, "Fleets".
use Rattle.catalog.specs.Costs.{Cost, units}
use Rattle.rates.specs.declared.resources.Resources.{Resources}

-- a load in whole units, as a cost
abbrev pub load_cost : Resources → Cost
load_cost load = units load.metal load.crystal load.deuterium
