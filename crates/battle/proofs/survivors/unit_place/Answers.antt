use Rattle.std.proofs.Common.{rules, tests, Option, None, Some, ◌≡◌, ◌≢◌, ◌<◌, ℕ, ◌∙◌, arith}
use Rattle.std.specs.List.{HoldsAt, AllWithin}
use Rattle.std.specs.Option.{IfNone, IfSome, MatchOption}
use Rattle.std.proofs.lemmas.Iterator.{IsFirst-from_position, YieldsList-from_slice}
use Rattle.catalog.specs.Kinds.{kind_number}
use Rattle.catalog.specs.declared.classes.TheConstants.{UNIT_KINDS}
use Rattle.catalog.specs.declared.kind.Kind.TheVariants.{SmallCargo}
use Rattle.battle.specs.Places.{unit_number}
use Rattle.battle.proofs.survivors.unit_place.Goals as goal

-- what a search for a number gives: the first place of a kind of this number
abbrev IsPlaced : Option ℕ → ℕ → Type 0
IsPlaced result number =
    MatchOption result (AllWithin (λ unit. kind_number unit ≢ number) UNIT_KINDS 0 22)
    (λ place. (place < 22) × HoldsAt (λ unit. kind_number unit ≡ number) UNIT_KINDS place × AllWithin (λ unit. kind_number unit ≢ number) UNIT_KINDS 0 place)

placed : (c : goal.After-position) → IsPlaced c.position.result c.number-number.result
placed c =
    IsFirst-from_position _ _ c.position.result (λ unit. kind_number unit ≡ c.number-number.result) (λ unit. kind_number unit ≢ c.number-number.result)
    c.position.ensures.ran (YieldsList-from_slice _ c.iter.ensures.rest) (λ x q k. search (rules, tests)) (λ x q k. search (rules, tests))

of_this_kind : (result : Option ℕ) (number kind : ℕ) → number ≡ kind → IsPlaced result number → IfSome result (λ place. unit_number place ≡ kind)
of_this_kind None number kind same is_placed = tt
of_this_kind (Some place) number kind same (within, holds, before) = holds SmallCargo ∙ same

of_no_kind : (result : Option ℕ) (number kind : ℕ) → number ≡ kind → IsPlaced result number → IfNone result ((place : ℕ) → place < 22 → unit_number place ≢ kind)
of_no_kind None number kind same none = λ place within. rw (← same) (none place SmallCargo (omega arith) within)
of_no_kind (Some place) number kind same is_placed = tt

pub returns-clause-found : goal.returns-clause-found
returns-clause-found c = of_this_kind c.position.result c.number-number.result _ c.number-number.ensures (placed c)

pub returns-clause-none : goal.returns-clause-none
returns-clause-none c = of_no_kind c.position.result c.number-number.result _ c.number-number.ensures (placed c)
