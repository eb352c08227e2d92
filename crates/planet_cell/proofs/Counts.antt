-- What is counted for a refusal.
use Rattle.std.proofs.Common.{◌≡◌, ℕ, ◌+◌, ◌<◌, ◌≤◌, Bool, true, false, cond, List, [], ◌∷◌, map, length, get_or, refl, ap, sym, ◌∙◌, arith}
use Rattle.std.specs.Prelude.{IsTrue, count_by, ◌==◌, ◌||◌, nat_lt, not}
use Rattle.std.proofs.lemmas.Bool.{eq-eqb, ltb-true}
use Rattle.std.proofs.lemmas.Bool.Decides.{nat_tests}
use Rattle.std.proofs.lemmas.List.Sums.{position_or_len_is, sum_by-cons}
use Rattle.base_ids.specs.declared.coord.Coord.{Coord}
use Rattle.catalog.specs.Classes.{is_unit, is_work}
use Rattle.catalog.specs.Kinds.{kind_number, place_in}
use Rattle.catalog.specs.declared.classes.TheConstants.{UNIT_KINDS, WORKS}
use Rattle.catalog.specs.declared.kind.Kind.{Kind}
use Rattle.catalog.specs.declared.kind.Kind.TheVariants.{MetalMine}
use Rattle.planet_cell.specs.Bounds.{count_of}
use Rattle.planet_cell.specs.Planet.{batch_item_of, item_of}
use Rattle.planet_cell.specs.declared.batch.Batch.{Batch}
use Rattle.planet_cell.specs.declared.building_item.BuildingItem.{BuildingItem}
use Rattle.tick_model.specs.Refusals.{queued}
use Rattle.tick_model.specs.Universe.{Item}

-- the items of a kind are as many as the items that stand for them
pub queued_items : (kind : Kind) (at : Coord) (items : List BuildingItem) → queued kind (map (item_of at) items) ≡ count_of kind items
queued_items kind at [] = refl
queued_items kind at (first ∷ later) =
    sum_by-cons (λ (item : Item). cond (kind_number item.kind == kind_number kind) 1 0) (item_of at first) (map (item_of at) later)
    ∙ ap (λ (n : ℕ). cond (kind_number first.kind.kind == kind_number kind) 1 0 + n) (queued_items kind at later)
    ∙ sym (sum_by-cons (λ (item : BuildingItem). cond (kind_number item.kind.kind == kind_number kind) 1 0) first later)

-- the batches of a kind are as many as the items that stand for them
pub queued_batches : (kind : Kind) (at : Coord) (batches : List Batch) → queued kind (map (batch_item_of at) batches) ≡ count_by (λ (batch : Batch). kind_number batch.kind.kind == kind_number kind) batches
queued_batches kind at [] = refl
queued_batches kind at (first ∷ later) =
    sum_by-cons (λ (item : Item). cond (kind_number item.kind == kind_number kind) 1 0) (batch_item_of at first) (map (batch_item_of at) later)
    ∙ ap (λ (n : ℕ). cond (kind_number first.kind.kind == kind_number kind) 1 0 + n) (queued_batches kind at later)
    ∙ sym (sum_by-cons (λ (batch : Batch). cond (kind_number batch.kind.kind == kind_number kind) 1 0) first later)

follows : (a b : Bool) → IsTrue (not a || b) → IsTrue a → IsTrue b
follows true b either holds = either
follows false b either holds = cc

different : (a b : ℕ) → (a ≡ b → ⊥) → (a == b) ≡ false
different a b apart = grind (arith, nat_tests, apart)

-- the place of a kind is the first at which it stands
pub first_place : (kinds : List Kind) (kind : Kind) (place : ℕ) → place ≤ length kinds
    → ((k : ℕ) → k < place → kind_number (get_or kinds k kind) ≡ kind_number kind → ⊥)
    → (place < length kinds → kind_number (get_or kinds place kind) ≡ kind_number kind)
    → place ≡ place_in kinds kind
first_place kinds kind place within before here =
    sym
    (position_or_len_is (λ other. kind_number other == kind_number kind) kinds place kind within (λ k below. different _ _ (before k below)) (λ below. eq-eqb _ _ (here below)))

-- the works are listed
work_listed : (kind : Kind) → IsTrue (not (is_work kind) || nat_lt (place_in WORKS kind) 5)
work_listed MetalMine = refl
work_listed _ = refl

pub work_within : (kind : Kind) → IsTrue (is_work kind) → place_in WORKS kind < 5
work_within kind class = ltb-true _ _ (follows _ _ (work_listed kind) class)

-- the units are listed
unit_listed : (kind : Kind) → IsTrue (not (is_unit kind) || nat_lt (place_in UNIT_KINDS kind) 22)
unit_listed MetalMine = refl
unit_listed _ = refl

pub unit_within : (kind : Kind) → IsTrue (is_unit kind) → place_in UNIT_KINDS kind < 22
unit_within kind class = ltb-true _ _ (follows _ _ (unit_listed kind) class)
