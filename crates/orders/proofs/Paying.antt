-- What an order that isn't refused can rely on.
use Rattle.std.proofs.Common.{◌≡◌, ℕ, ◌+◌, ◌≤◌, Bool, true, false, List, [], ◌∷◌, map, refl, subst, arith}
use Rattle.std.specs.Prelude.{IsTrue, nat_le, not, sum, ◌&&◌}
use Rattle.account_cell.specs.Account.{account_fields}
use Rattle.account_cell.specs.declared.account.Account.{Account}
use Rattle.catalog.specs.Levels.{level_cap_of}
use Rattle.catalog.specs.Technologies.{level_in}
use Rattle.catalog.specs.declared.kind.Kind.{Kind}
use Rattle.catalog.specs.declared.ships.TheConstants.{UNITS}
use Rattle.planet_cell.proofs.Batches.{can_take_batch, can_take_own}
use Rattle.planet_cell.specs.Planet.{AreSame, batch_item_of, batches_of, fields_of}
use Rattle.planet_cell.specs.Yard.{CanTakeBatch, yard_of}
use Rattle.planet_cell.specs.declared.planet.Planet.{Planet}
use Rattle.tick_model.specs.Buildings.{Works, can_pay}
use Rattle.tick_model.specs.Refusals.{Refusal, are_met, first_refusal, is_empty, is_full, queued, research_refusal, yard_refusal}
use Rattle.tick_model.specs.Researches.{gives_energy, research_price}
use Rattle.tick_model.specs.Universe.{AccountFields, Item, PlanetFields}
use Rattle.tick_model.specs.Views.{units_left}
use Rattle.tick_model.specs.declared.codes.TheConstants.{LEVEL_CAP, POOR, QUEUE_FULL, REQUIRES}

-- the four reasons to refuse a technology
reasons : Bool → Bool → Bool → Bool → List Refusal
reasons full capped needs poor =
    record { code = QUEUE_FULL; holds = full }
    ∷ record { code = LEVEL_CAP; holds = capped }
    ∷ record { code = REQUIRES; holds = needs }
    ∷ record { code = POOR; holds = poor }
    ∷ []

-- if there is no reason, the last one doesn't hold
not_poor : (full capped needs poor : Bool) → first_refusal (reasons full capped needs poor) ≡ 0 → poor ≡ false
unfolding reasons
not_poor true capped needs poor clear = absurd (omega arith)
not_poor false true needs poor clear = absurd (omega arith)
not_poor false false true poor clear = absurd (omega arith)
not_poor false false false true clear = absurd (omega arith)
not_poor false false false false clear = refl

pays : (empty can : Bool) → (empty && not can) ≡ false → IsTrue empty → IsTrue can
pays empty true poor here = refl
pays true false poor here = cc
pays false false poor here = cc

-- a technology that isn't refused, and starts at once, can be paid
pub research_payable : (speed : ℕ) (account : AccountFields) (planet : PlanetFields) (items : List Item) (kind : Kind) → research_refusal speed account planet items kind ≡ 0
    → IsTrue (is_empty items) → IsTrue (can_pay planet.stock (research_price account kind))
unfolding research_refusal reasons
research_payable speed account planet items kind granted empty =
    pays (is_empty items) (can_pay planet.stock (research_price account kind))
    (not_poor (is_full items) (nat_le (level_cap_of kind) (level_in account.techs.n kind + queued kind items)) (not (are_met account planet kind && gives_energy speed planet kind)) (is_empty items && not (can_pay planet.stock (research_price account kind))) granted)
    empty

-- a batch that isn't refused can be ordered on a copy of the planet, if the account counts the planet's units
pub can_order_units : (account : Account) (planet copy : Planet) (kind : Kind) (count : ℕ) → AreSame planet copy
    → yard_refusal (account_fields account) account.units (fields_of planet) (batches_of planet) kind count ≡ 0 → sum planet.units + units_left (batches_of planet) ≤ account.units
    → CanTakeBatch (sum (fields_of copy).units + units_left (batches_of copy)) (fields_of copy) (batches_of copy) kind count
can_order_units account planet copy kind count same granted counted =
    let family : Works → Type 0 = λ works. CanTakeBatch (sum works.planet.units + units_left works.queue) works.planet works.queue kind count in
    let equal : yard_of planet ≡ yard_of copy = λ i. record { planet = same.fields i; queue = map (batch_item_of (same.at i)) (same.yard i) } in
    subst family equal
    (can_take_own (sum planet.units + units_left (batches_of planet)) account.units (fields_of planet) (batches_of planet) kind count counted
    (can_take_batch (account_fields account) account.units (fields_of planet) (batches_of planet) kind count granted))

-- and the account may have so many units more
pub within_ceiling : (account : Account) (planet : Planet) (kind : Kind) (count : ℕ) → yard_refusal (account_fields account) account.units (fields_of planet) (batches_of planet) kind count ≡ 0 → account.units + count ≤ UNITS
within_ceiling account planet kind count granted =
    (can_take_batch (account_fields account) account.units (fields_of planet) (batches_of planet) kind count granted).within
