-- What each level of a kind costs, or one unit. Rule: docs/RULES.md, "Costs and durations".
use Rattle.std.specs.Prelude.{ℕ, ◌-◌, ◌*◌, ◌/◌, ◌^◌, ◌≤◌}
use Rattle.base_num.specs.Division.{IsFloor}
use Rattle.catalog.specs.Costs.{Cost, cost_of, units}
use Rattle.catalog.specs.Levels.{growth_of}
use Rattle.catalog.specs.declared.amounts.Amounts.{Amounts}
use Rattle.catalog.specs.declared.amounts.TheConstants.{CAP}
use Rattle.catalog.specs.declared.growth.Growth.{Growth}
use Rattle.catalog.specs.declared.kind.Kind.{Kind}

-- an amount after so many steps of growth, floored once
abbrev pub grown : ℕ → Growth → ℕ → ℕ
grown first growth steps = first * growth.numerator ^ steps / growth.denominator ^ steps

-- what a level of a kind costs, or one unit: level 1 costs the first cost, and each resource grows by itself
abbrev pub price_of : Kind → ℕ → Cost
price_of kind level =
    units (grown (cost_of kind).metal (growth_of kind) (level - 1)) (grown (cost_of kind).crystal (growth_of kind) (level - 1)) (grown (cost_of kind).deuterium (growth_of kind) (level - 1))

-- an amount is the first one after so many steps of growth, by the two bounds of its floor
abbrev pub IsGrown : ℕ → Growth → ℕ → ℕ → Type 0
IsGrown first growth steps amount = IsFloor (first * growth.numerator ^ steps) (growth.denominator ^ steps) amount

-- No resource of a cost is above CAP, so that amounts can hold it.
pub record IsCapped (cost : Cost) : Type 0 where
  pub metal : cost.metal ≤ CAP
  pub crystal : cost.crystal ≤ CAP
  pub deuterium : cost.deuterium ≤ CAP

-- the amounts of a cost
abbrev pub amounts_of : (cost : Cost) → IsCapped cost → Amounts
amounts_of cost capped =
    record { m = cost.metal; c = cost.crystal; d = cost.deuterium; metal = capped.metal; crystal = capped.crystal; deuterium = capped.deuterium }

-- the cost that amounts say
abbrev pub cost_in : Amounts → Cost
cost_in amounts = units amounts.m amounts.c amounts.d
