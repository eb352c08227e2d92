-- What a cell brings.
use Rattle.std.proofs.Common.{◌≡◌, ℕ, inl, inr, true, ◌&&◌, ◌||◌, Contains, ap, ◌∙◌, subst}
use Rattle.base_ids.specs.Cells.{same_cell}
use Rattle.base_ids.specs.declared.cell_id.CellId.{CellId}
use Rattle.base_ids.specs.declared.cell_id.CellId.TheVariants.{Account, Planet}
use Rattle.tick_model.specs.Game.{brings, fleets_bring, own_brings, research_brings}
use Rattle.tick_model.specs.Requests.{is_there}
use Rattle.tick_model.specs.Rules.{IsIn, KeepsRules}
use Rattle.tick_model.specs.Universe.{Researches, Fleet, Setting, State}
use Rattle.tick_model.specs.Views.{View, belongs}
use Rattle.tick_model.proofs.Lists.{and-is, cell-is, or-first, or-is, or-second}

pub brings-own : (seen : View) (t : ℕ) (y : CellId) → own_brings seen.own y ≡ true → brings seen t y ≡ true
brings-own seen t y is =
    let research = research_brings t (seen.queue Researches) y in
    or-first (own_brings seen.own y || research) (fleets_bring t seen.fleets y) (or-first (own_brings seen.own y) research is)

pub brings-research : (seen : View) (t : ℕ) (y : CellId) → research_brings t (seen.queue Researches) y ≡ true → brings seen t y ≡ true
brings-research seen t y is =
    let research = research_brings t (seen.queue Researches) y in
    or-first (own_brings seen.own y || research) (fleets_bring t seen.fleets y) (or-second (own_brings seen.own y) research is)

pub brings-fleet : (seen : View) (t : ℕ) (y : CellId) → fleets_bring t seen.fleets y ≡ true → brings seen t y ≡ true
brings-fleet seen t y is = or-second (own_brings seen.own y || research_brings t (seen.queue Researches) y) (fleets_bring t seen.fleets y) is

-- in one of three ways
pub data BringsBy (seen : View) (t : ℕ) (y : CellId) : Type 0 where
  by_owner : own_brings seen.own y ≡ true → BringsBy seen t y
  by_research : research_brings t (seen.queue Researches) y ≡ true → BringsBy seen t y
  by_fleet : fleets_bring t seen.fleets y ≡ true → BringsBy seen t y

pub brings-by : (seen : View) (t : ℕ) (y : CellId) → brings seen t y ≡ true → BringsBy seen t y
brings-by seen t y is =
    let research = research_brings t (seen.queue Researches) y in
    elim (or-is (own_brings seen.own y || research) (fleets_bring t seen.fleets y) is) [
      | inr fleet ↦ by_fleet fleet
      | inl first ↦ elim (or-is (own_brings seen.own y) research first) [ inl owner ↦ by_owner owner | inr payer ↦ by_research payer ]
    ]

-- all cells of a fleet are listed
pub fleet-listed : (setting : Setting) (state : State) (fleet : Fleet) (x : CellId) → KeepsRules setting state → IsIn fleet state.fleets → belongs x fleet ≡ true → Contains setting.cells x
fleet-listed setting state fleet x fine is has =
    let flying = fine.flying fleet is in
    let near = same_cell (Planet fleet.origin) x || same_cell (Account fleet.owner) x in
    let far = same_cell (Planet fleet.target) x || same_cell (Account fleet.target_owner) x in
    elim (or-is near (fleet.outbound && far) has) [
      | inl here ↦ elim (or-is (same_cell (Planet fleet.origin) x) (same_cell (Account fleet.owner) x) here) [
        | inl at ↦ subst (Contains setting.cells) (cell-is (Planet fleet.origin) x at) (fine.listed (Planet fleet.origin) (ap is_there flying.leaves))
        | inr at ↦ subst (Contains setting.cells) (ap Account flying.is_own ∙ cell-is (Account fleet.owner) x at) (fine.owned (Planet fleet.origin) flying.from flying.leaves)
      ]
      | inr there ↦ elim (or-is (same_cell (Planet fleet.target) x) (same_cell (Account fleet.target_owner) x) (and-is fleet.outbound far there).1) [
        | inl at ↦ subst (Contains setting.cells) (cell-is (Planet fleet.target) x at) (fine.listed (Planet fleet.target) (ap is_there flying.reaches))
        | inr at ↦ subst (Contains setting.cells) (ap Account flying.is_theirs ∙ cell-is (Account fleet.target_owner) x at) (fine.owned (Planet fleet.target) flying.to flying.reaches)
      ]
    ]
