-- How long the next level of a technology takes.
use Rattle.std.proofs.Common.{◌≡◌, ℕ, ◌+◌, ◌^◌, ◌<◌, ◌≤◌, arith, ◌∙◌}
use Rattle.std.specs.Prelude.{IsTrue}
use Rattle.catalog.specs.Classes.{is_technology}
use Rattle.catalog.specs.Costs.{Cost}
use Rattle.catalog.specs.Levels.{level_cap_of}
use Rattle.catalog.specs.Technologies.{level_in}
use Rattle.catalog.specs.declared.kind.Kind.{Kind}
use Rattle.catalog.specs.declared.kind.Kind.TheVariants.{Lab}
use Rattle.prices.proofs.Longest.{technology_seconds_within}
use Rattle.prices.specs.Durations.{seconds_of}
use Rattle.prices.specs.Prices.{price_of}
use Rattle.prices.specs.declared.duration.Helpers.TheVariants.{Research}
use Rattle.tick_model.specs.Production.{level_of}
use Rattle.tick_model.specs.Researches.{research_duration, research_price}
use Rattle.tick_model.specs.Universe.{AccountFields, PlanetFields}

-- the time is that of the lab's level
pub in_lab : (speed lab result : ℕ) (account : AccountFields) (planet : PlanetFields) (kind : Kind) (price : Cost) → price ≡ research_price account kind
    → result ≡ seconds_of price.metal price.crystal (Research lab) speed → lab ≡ level_of planet Lab → result ≡ research_duration speed account planet kind
unfolding research_duration
in_lab speed lab result account planet kind price is takes same =
    takes ∙ (λ i. seconds_of (is i).metal (is i).crystal (Research (same i)) speed)

-- no level of a technology takes longer than 2^36 seconds
pub next_within : (speed lab result : ℕ) (account : AccountFields) (kind : Kind) (price : Cost) → price ≡ research_price account kind
    → result ≡ seconds_of price.metal price.crystal (Research lab) speed → IsTrue (is_technology kind) → level_in account.techs.n kind < level_cap_of kind → 1 ≤ speed → result ≤ 2 ^ 36
unfolding research_price
next_within speed lab result account kind price is takes class below some =
    let all : seconds_of (price_of kind (level_in account.techs.n kind + 1)).metal (price_of kind (level_in account.techs.n kind + 1)).crystal (Research lab) speed ≤ 2 ^ 36 =
    technology_seconds_within kind (level_in account.techs.n kind + 1) lab speed class (omega arith) some in
    let same : result ≡ seconds_of (price_of kind (level_in account.techs.n kind + 1)).metal (price_of kind (level_in account.techs.n kind + 1)).crystal (Research lab) speed =
    takes ∙ (λ i. seconds_of (is i).metal (is i).crystal (Research lab) speed) in
    omega (arith, all, same)

pub ruleset spans = (in_lab, next_within)
