-- A unit that is done stays counted: it stands on the planet instead of being left in its batch.
use Rattle.std.proofs.Common.{◌≡◌, ℕ, ◌+◌, ◌-◌, ◌<◌, ◌≤◌, true, false, nat_le, cond, List, [], ◌∷◌, length, sum, Some, arith, refl}
use Rattle.std.specs.Prelude.{slice_index, slice_set}
use Rattle.std.proofs.lemmas.List.{length-set}
use Rattle.std.proofs.lemmas.List.Sums.{sum_by-cons, sum_by-set}
use Rattle.std.proofs.lemmas.Bool.Decides.{nat_tests}
use Rattle.catalog.specs.Kinds.{place_in}
use Rattle.catalog.specs.declared.classes.TheConstants.{UNIT_KINDS}
use Rattle.catalog.specs.declared.kind.Kind.{Kind}
use Rattle.tick_model.specs.Universe.{Own, of_nothing, of_account, of_planet, Item, PlanetFields}
use Rattle.tick_model.specs.Views.{holding, units_left}
use Rattle.tick_model.specs.Yards.{begins_first, count_of, manned, unit_done, yard_left}
use Rattle.tick_model.proofs.Owns.{Stays}

one-more : (xs : List ℕ) (place : ℕ) → place < length xs → sum (slice_set xs place (slice_index xs place + 1)) ≡ sum xs + 1
one-more xs place within =
    let both = sum_by-set (λ x. x) xs place (slice_index xs place + 1) 0 within in
    omega (arith, both)

manned-owner : (planet : PlanetFields) (kind : Kind) (count : ℕ) → (manned planet kind count).owner ≡ planet.owner
unfolding manned
manned-owner planet kind count = refl

manned-kinds : (planet : PlanetFields) (kind : Kind) (count : ℕ) → length (manned planet kind count).units ≡ length planet.units
unfolding manned
manned-kinds planet kind count = length-set planet.units (place_in UNIT_KINDS kind) (count_of planet kind + count)

manned-sum : (planet : PlanetFields) (kind : Kind) → place_in UNIT_KINDS kind < length planet.units → sum (manned planet kind 1).units ≡ sum planet.units + 1
unfolding manned count_of
manned-sum planet kind within = one-more planet.units (place_in UNIT_KINDS kind) within

-- a cell stays when a unit is done
pub unit-stays : (speed : ℕ) (batch : Item) (later : List Item) (own : Own) → Stays own (unit_done speed batch later own).own
unit-stays speed batch later of_nothing = tt
unit-stays speed batch later (of_account account) = tt
unit-stays speed batch later (of_planet planet) = (manned-owner planet batch.kind 1, manned-kinds planet batch.kind 1)

left-cons : (batch : Item) (later : List Item) → units_left (batch ∷ later) ≡ batch.left + units_left later
left-cons batch later = sum_by-cons (λ (b : Item). b.left) batch later

begins-left : (speed second : ℕ) (planet : PlanetFields) (later : List Item) → units_left (begins_first speed second planet later) ≡ units_left later
begins-left speed second planet [] = refl
begins-left speed second planet (batch ∷ later) = refl

last-one : (m : ℕ) → nat_le m 1 ≡ true → m ≤ 1
last-one m is = grind (arith, nat_tests)

-- one unit fewer is left in its yard
pub yard-left : (speed : ℕ) (planet : PlanetFields) (batch : Item) (later : List Item) → 1 ≤ batch.left → units_left (yard_left speed planet batch later) + 1 ≡ units_left (batch ∷ later)
yard-left speed planet batch later some =
    let next = begins_first speed batch.second planet later in
    let same = record batch { left = batch.left - 1; second = batch.second + batch.unit_seconds } in
    let before = left-cons batch later in
    elim (nat_le batch.left 1) as (λ b. nat_le batch.left 1 ≡ b → units_left (cond b next (same ∷ later)) + 1 ≡ units_left (batch ∷ later)) [
      | true ↦ λ last.
          (let most = last-one batch.left last in
          let begins = begins-left speed batch.second planet later in
          omega (arith, before, most, begins, some))
      | false ↦ λ more.
          (let after = left-cons same later in
          omega (arith, before, after, some))
    ] refl

-- so its owner's account counts as many
pub unit-counted : (speed : ℕ) (batch : Item) (later : List Item) (own : Own) → 1 ≤ batch.left → place_in UNIT_KINDS batch.kind < length UNIT_KINDS
    → ((planet : PlanetFields) → own ≡ of_planet planet → length planet.units ≡ length UNIT_KINDS)
    → holding (unit_done speed batch later own).own (unit_done speed batch later own).queue ≡ holding own (batch ∷ later)
unit-counted speed batch later of_nothing some known kinds = refl
unit-counted speed batch later (of_account account) some known kinds = refl
unit-counted speed batch later (of_planet planet) some known kinds =
    let all = kinds planet refl in
    let within : place_in UNIT_KINDS batch.kind < length planet.units = omega (arith, all, known) in
    let units = manned-sum planet batch.kind within in
    let left = yard-left speed planet batch later some in
    let owner = manned-owner planet batch.kind 1 in
    let sum_is : sum (manned planet batch.kind 1).units + units_left (yard_left speed planet batch later) ≡ sum planet.units + units_left (batch ∷ later) = omega (arith, units, left) in
    λ i. Some (record { owner = owner i; units = sum_is i })
