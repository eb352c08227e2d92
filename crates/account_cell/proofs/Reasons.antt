-- What a refusal of research is, and what an order that isn't refused can rely on.
use Rattle.std.proofs.Common.{◌≡◌, ◌+◌, ◌<◌, Bool, true, false, List, [], ◌∷◌, length, ℕ, refl, arith, sym, ap, ◌∙◌}
use Rattle.std.specs.Prelude.{IsTrue, nat_le, ◌&&◌, not}
use Rattle.std.proofs.lemmas.Bool.Decides.{nat_tests}
use Rattle.account_cell.specs.Queue.{CanOrder}
use Rattle.catalog.specs.Levels.{level_cap_of}
use Rattle.catalog.specs.Technologies.{level_in}
use Rattle.catalog.specs.declared.kind.Kind.{Kind}
use Rattle.tick_model.specs.Buildings.{can_pay}
use Rattle.tick_model.specs.Refusals.{Refusal, are_met, first_refusal, is_empty, is_full, queued, research_refusal}
use Rattle.tick_model.specs.Researches.{gives_energy, research_price}
use Rattle.tick_model.specs.Universe.{AccountFields, Item, PlanetFields}
use Rattle.tick_model.specs.declared.codes.TheConstants.{LEVEL_CAP, MOST_QUEUED, POOR, QUEUE_FULL, REQUIRES}

-- the four reasons to refuse an order
reasons : Bool → Bool → Bool → Bool → List Refusal
reasons full capped unmet poor =
    record { code = QUEUE_FULL; holds = full }
    ∷ record { code = LEVEL_CAP; holds = capped }
    ∷ record { code = REQUIRES; holds = unmet }
    ∷ record { code = POOR; holds = poor }
    ∷ []

-- if there is no reason, none of them holds
none : (full capped unmet poor : Bool) → first_refusal (reasons full capped unmet poor) ≡ 0 → (full ≡ false) × (capped ≡ false) × (unmet ≡ false) × (poor ≡ false)
unfolding reasons
none true capped unmet poor zero = absurd (omega arith)
none false true unmet poor zero = absurd (omega arith)
none false false true poor zero = absurd (omega arith)
none false false false true zero = absurd (omega arith)
none false false false false zero = (refl, refl, refl, refl)

payable : (empty pays : Bool) → (empty && not pays) ≡ false → IsTrue empty → IsTrue pays
payable empty true poor here = refl
payable true false poor here = cc
payable false false poor here = cc

granted_both : (met gives : Bool) → not (met && gives) ≡ false → IsTrue met × IsTrue gives
granted_both true true unmet = (refl, refl)
granted_both true false unmet = cc
granted_both false gives unmet = cc

less : (a b : ℕ) → nat_le a b ≡ false → b < a
less a b fails = grind (arith, nat_tests)

-- what a planet and an account can rely on if research isn't refused
pub record CanResearch (speed : ℕ) (account : AccountFields) (planet : PlanetFields) (items : List Item) (kind : Kind) : Type 0 where
  pub order : CanOrder account items kind
  pub met : IsTrue (are_met account planet kind)
  pub gives : IsTrue (gives_energy speed planet kind)
  pub payable : IsTrue (is_empty items) → IsTrue (can_pay planet.stock (research_price account kind))

-- what isn't refused can be ordered
pub can_research : (speed : ℕ) (account : AccountFields) (planet : PlanetFields) (items : List Item) (kind : Kind) → research_refusal speed account planet items kind ≡ 0
    → CanResearch speed account planet items kind
unfolding research_refusal reasons
can_research speed account planet items kind granted =
    let clear = none (is_full items) (nat_le (level_cap_of kind) (level_in account.techs.n kind + queued kind items)) (not (are_met account planet kind && gives_energy speed planet kind)) (is_empty items && not (can_pay planet.stock (research_price account kind))) granted in
    let both = granted_both (are_met account planet kind) (gives_energy speed planet kind) clear.2 in
    record {
      order =
          record {
            room = less MOST_QUEUED (length items) clear.0;
            level = less (level_cap_of kind) (level_in account.techs.n kind + queued kind items) clear.1;
          };
      met = both.0;
      gives = both.1;
      payable = payable (is_empty items) (can_pay planet.stock (research_price account kind)) clear.3;
    }

-- what has room and can rise can be ordered
pub can_order : (account : AccountFields) (items : List Item) (kind : Kind) → false ≡ is_full items → false ≡ nat_le (level_cap_of kind) (level_in account.techs.n kind + queued kind items) → CanOrder account items kind
can_order account items kind room below =
    record {
      room = less MOST_QUEUED (length items) (sym room);
      level = less (level_cap_of kind) (level_in account.techs.n kind + queued kind items) (sym below);
    }

-- the refusal by what holds of the account and the planet
module _ (speed : ℕ) (account : AccountFields) (planet : PlanetFields) (items : List Item) (kind : Kind) where
  reason : (full capped unmet poor : Bool) → full ≡ is_full items → capped ≡ nat_le (level_cap_of kind) (level_in account.techs.n kind + queued kind items)
      → unmet ≡ not (are_met account planet kind && gives_energy speed planet kind) → poor ≡ (is_empty items && not (can_pay planet.stock (research_price account kind)))
      → first_refusal (reasons full capped unmet poor) ≡ research_refusal speed account planet items kind
  unfolding research_refusal reasons
  reason full capped unmet poor a b c d = λ i. first_refusal (reasons (a i) (b i) (c i) (d i))

  pub refused_full : true ≡ is_full items → QUEUE_FULL ≡ research_refusal speed account planet items kind
  unfolding reasons
  refused_full full = reason true _ _ _ full refl refl refl

  pub refused_capped : false ≡ is_full items → true ≡ nat_le (level_cap_of kind) (level_in account.techs.n kind + queued kind items) → LEVEL_CAP ≡ research_refusal speed account planet items kind
  unfolding reasons
  refused_capped room capped = reason false true _ _ room capped refl refl

  pub refused_unmet : false ≡ is_full items → false ≡ nat_le (level_cap_of kind) (level_in account.techs.n kind + queued kind items)
      → false ≡ (are_met account planet kind && gives_energy speed planet kind) → REQUIRES ≡ research_refusal speed account planet items kind
  unfolding reasons
  refused_unmet room below unmet = reason false false true _ room below (ap not unmet) refl

  -- below the highest level the planet tells whether it can pay
  poverty : (pays : Bool) → false ≡ nat_le (level_cap_of kind) (level_in account.techs.n kind + queued kind items)
      → (level_in account.techs.n kind < level_cap_of kind → pays ≡ can_pay planet.stock (research_price account kind))
      → (is_empty items && not pays) ≡ (is_empty items && not (can_pay planet.stock (research_price account kind)))
  poverty pays below tells =
      let rises : level_in account.techs.n kind < level_cap_of kind = omega (arith, less (level_cap_of kind) (level_in account.techs.n kind + queued kind items) (sym below)) in
      ap (λ b. is_empty items && not b) (tells rises)

  pub refused_poor : (pays : Bool) → false ≡ is_full items → false ≡ nat_le (level_cap_of kind) (level_in account.techs.n kind + queued kind items)
      → true ≡ (are_met account planet kind && gives_energy speed planet kind)
      → (level_in account.techs.n kind < level_cap_of kind → pays ≡ can_pay planet.stock (research_price account kind))
      → true ≡ (is_empty items && not pays) → POOR ≡ research_refusal speed account planet items kind
  unfolding reasons
  refused_poor pays room below met tells poor = reason false false false true room below (ap not met) (poor ∙ poverty pays below tells)

  pub granted : (pays : Bool) → false ≡ is_full items → false ≡ nat_le (level_cap_of kind) (level_in account.techs.n kind + queued kind items)
      → true ≡ (are_met account planet kind && gives_energy speed planet kind)
      → (level_in account.techs.n kind < level_cap_of kind → pays ≡ can_pay planet.stock (research_price account kind))
      → false ≡ (is_empty items && not pays) → 0 ≡ research_refusal speed account planet items kind
  unfolding reasons
  granted pays room below met tells rich = reason false false false false room below (ap not met) (rich ∙ poverty pays below tells)
