-- Why a request is refused. Rule: docs/RULES.md, "Refusals".
use Rattle.std.specs.Prelude.{ℕ, ◌+◌, List, [], ◌∷◌, Bool, true, false, not, nat_le, ◌==◌, ◌&&◌, length, count_by, sum, if◌then◌else◌}
use Rattle.std.specs.List.{list_all}
use Rattle.catalog.specs.Classes.{is_among, is_building}
use Rattle.catalog.specs.Kinds.{kind_number}
use Rattle.catalog.specs.Levels.{level_cap_of}
use Rattle.catalog.specs.Needs.{needs_of}
use Rattle.catalog.specs.Technologies.{level_in}
use Rattle.catalog.specs.declared.kind.Kind.{Kind}
use Rattle.catalog.specs.declared.kind.Kind.TheVariants.{SmallDome, LargeDome}
use Rattle.catalog.specs.declared.need.Need.{Need}
use Rattle.catalog.specs.declared.ships.TheConstants.{UNITS}
use Rattle.tick_model.specs.declared.codes.TheConstants.{QUEUE_FULL, LEVEL_CAP, REQUIRES, NO_FIELDS, POOR, CEILING, MOST_QUEUED}
use Rattle.tick_model.specs.Buildings.{can_pay, next_price}
use Rattle.tick_model.specs.Production.{level_of}
use Rattle.tick_model.specs.Researches.{gives_energy, research_price}
use Rattle.tick_model.specs.Universe.{AccountFields, Item, PlanetFields}
use Rattle.tick_model.specs.Yards.{batch_price, count_of}

-- the code of a reason to refuse, and whether there is that reason
pub record Refusal : Type 0 where
  pub code : ℕ
  pub holds : Bool

-- the code of the first reason that there is, or 0 if there is none
abbrev pub first_refusal : List Refusal → ℕ
first_refusal [] = 0
first_refusal (refusal ∷ later) = if refusal.holds then refusal.code else first_refusal later

-- how many items of a kind stand in a queue
abbrev pub queued : Kind → List Item → ℕ
queued kind items = count_by (λ item. kind_number item.kind == kind_number kind) items

-- each level of a building uses one field
abbrev pub used_fields : PlanetFields → ℕ
used_fields planet = sum planet.levels

-- a prerequisite is met: a building by the planet's level, a technology by the account's
abbrev pub is_met : AccountFields → PlanetFields → Need → Bool
is_met account planet need =
    nat_le need.level (if is_building need.kind then level_of planet need.kind else level_in account.techs.n need.kind)

-- all prerequisites of a kind are met
unfoldable pub are_met : AccountFields → PlanetFields → Kind → Bool
are_met account planet kind = list_all (is_met account planet) (needs_of kind)

abbrev pub is_empty : List Item → Bool
is_empty [] = true
is_empty (item ∷ later) = false

-- so many items of a queue are as many as it may have
abbrev pub is_full : List Item → Bool
is_full items = nat_le MOST_QUEUED (length items)

-- `build C BUILDING` on the caller's own planet, whose building queue has these items
unfoldable pub build_refusal : AccountFields → PlanetFields → List Item → Kind → ℕ
build_refusal account planet items kind =
    first_refusal (
    record { code = QUEUE_FULL; holds = is_full items }
    ∷ record { code = LEVEL_CAP; holds = nat_le (level_cap_of kind) (level_of planet kind + queued kind items) }
    ∷ record { code = REQUIRES; holds = not (are_met account planet kind) }
    ∷ record { code = NO_FIELDS; holds = nat_le planet.fields (used_fields planet + length items) }
    ∷ record { code = POOR; holds = is_empty items && not (can_pay planet.stock (next_price planet kind)) }
    ∷ []
    )

-- `research C TECH` by the caller, whose research queue has these items, in the lab of the caller's own planet
unfoldable pub research_refusal : ℕ → AccountFields → PlanetFields → List Item → Kind → ℕ
research_refusal speed account planet items kind =
    first_refusal (
    record { code = QUEUE_FULL; holds = is_full items }
    ∷ record { code = LEVEL_CAP; holds = nat_le (level_cap_of kind) (level_in account.techs.n kind + queued kind items) }
    ∷ record { code = REQUIRES; holds = not (are_met account planet kind && gives_energy speed planet kind) }
    ∷ record { code = POOR; holds = is_empty items && not (can_pay planet.stock (research_price account kind)) }
    ∷ []
    )

-- a planet may have one dome of each kind, those that are ordered included
abbrev pub is_dome : Kind → Bool
is_dome kind = is_among SmallDome LargeDome kind

-- `yard C UNIT COUNT` on the caller's own planet, whose yard has these batches, by a caller who has so many units
unfoldable pub yard_refusal : AccountFields → ℕ → PlanetFields → List Item → Kind → ℕ → ℕ
yard_refusal account units planet batches kind count =
    first_refusal (
    record { code = QUEUE_FULL; holds = is_full batches }
    ∷ record { code = LEVEL_CAP; holds = is_dome kind && nat_le 2 (count_of planet kind + queued kind batches + count) }
    ∷ record { code = REQUIRES; holds = not (are_met account planet kind) }
    ∷ record { code = POOR; holds = not (can_pay planet.stock (batch_price kind count)) }
    ∷ record { code = CEILING; holds = nat_le (UNITS + 1) (units + count) }
    ∷ []
    )
