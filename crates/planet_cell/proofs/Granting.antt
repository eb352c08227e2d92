-- What an order that isn't refused can rely on.
use Rattle.std.proofs.Common.{◌≡◌, ◌+◌, ◌<◌, Bool, true, false, List, [], ◌∷◌, length, ℕ, refl, arith}
use Rattle.std.specs.Prelude.{IsTrue, nat_le, ◌&&◌, not}
use Rattle.std.proofs.lemmas.Bool.Decides.{nat_tests}
use Rattle.catalog.specs.Levels.{level_cap_of}
use Rattle.catalog.specs.declared.kind.Kind.{Kind}
use Rattle.planet_cell.specs.Queue.{CanTake}
use Rattle.tick_model.specs.Buildings.{can_pay, next_price}
use Rattle.tick_model.specs.Production.{level_of}
use Rattle.tick_model.specs.Refusals.{Refusal, are_met, build_refusal, first_refusal, is_empty, queued, used_fields}
use Rattle.tick_model.specs.Universe.{AccountFields, Item, PlanetFields}
use Rattle.tick_model.specs.declared.codes.TheConstants.{LEVEL_CAP, MOST_QUEUED, NO_FIELDS, POOR, QUEUE_FULL, REQUIRES}

-- the five reasons to refuse an order
reasons : Bool → Bool → Bool → Bool → Bool → List Refusal
reasons full capped needs fields poor =
    record { code = QUEUE_FULL; holds = full }
    ∷ record { code = LEVEL_CAP; holds = capped }
    ∷ record { code = REQUIRES; holds = needs }
    ∷ record { code = NO_FIELDS; holds = fields }
    ∷ record { code = POOR; holds = poor }
    ∷ []

-- if there is no reason, none of them holds
none : (full capped needs fields poor : Bool) → first_refusal (reasons full capped needs fields poor) ≡ 0 → (full ≡ false) × (capped ≡ false) × (poor ≡ false)
unfolding reasons
none true capped needs fields poor zero = absurd (omega arith)
none false true needs fields poor zero = absurd (omega arith)
none false false true fields poor zero = absurd (omega arith)
none false false false true poor zero = absurd (omega arith)
none false false false false true zero = absurd (omega arith)
none false false false false false zero = (refl, refl, refl)

payable : (empty pays : Bool) → (empty && not pays) ≡ false → IsTrue empty → IsTrue pays
payable empty true poor here = refl
payable true false poor here = cc
payable false false poor here = cc

less : (a b : ℕ) → nat_le a b ≡ false → b < a
less a b fails = grind (arith, nat_tests)

-- what isn't refused can be taken
pub can_take : (account : AccountFields) (planet : PlanetFields) (items : List Item) (kind : Kind) → build_refusal account planet items kind ≡ 0 → CanTake planet items kind
unfolding build_refusal reasons
can_take account planet items kind granted =
    let clear = none (nat_le MOST_QUEUED (length items)) (nat_le (level_cap_of kind) (level_of planet kind + queued kind items)) (not (are_met account planet kind)) (nat_le planet.fields (used_fields planet + length items)) (is_empty items && not (can_pay planet.stock (next_price planet kind))) granted in
    record {
      room = less MOST_QUEUED (length items) clear.0;
      level = less (level_cap_of kind) (level_of planet kind + queued kind items) clear.1;
      payable = payable (is_empty items) (can_pay planet.stock (next_price planet kind)) clear.2;
    }
