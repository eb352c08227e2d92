-- What a level or a unit costs, as one value.
use Rattle.std.proofs.Common.{◌≡◌, ℕ, ◌≤◌, ap}
use Rattle.base_num.proofs.Quotients.{quotient_below}
use Rattle.catalog.proofs.Values.{amounts_is}
use Rattle.catalog.specs.Costs.{Cost}
use Rattle.catalog.specs.Levels.{level_cap_of}
use Rattle.catalog.specs.declared.amounts.Amounts.{Amounts}
use Rattle.catalog.specs.declared.amounts.TheConstants.{CAP}
use Rattle.catalog.specs.declared.kind.Kind.{Kind}
use Rattle.prices.proofs.Levels.{crystal_within, deuterium_within, metal_within}
use Rattle.prices.specs.Prices.{IsCapped, amounts_of, cost_in, price_of}

-- no price is above the cap
pub price_capped : (kind : Kind) (level : ℕ) → level ≤ level_cap_of kind → IsCapped (price_of kind level)
price_capped kind level below =
    record {
      metal = quotient_below _ _ CAP (metal_within kind level below);
      crystal = quotient_below _ _ CAP (crystal_within kind level below);
      deuterium = quotient_below _ _ CAP (deuterium_within kind level below);
    }

-- amounts are what a cost says, as one value
pub costs : (amounts : Amounts) (cost : Cost) (capped : IsCapped cost) → cost_in amounts ≡ cost → amounts ≡ amounts_of cost capped
costs amounts cost capped same =
    amounts_is amounts (amounts_of cost capped) (ap (λ (x : Cost). x.metal) same) (ap (λ (x : Cost). x.crystal) same) (ap (λ (x : Cost). x.deuterium) same)
