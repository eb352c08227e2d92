-- What a walk along a list of cells has found when it stands at a place, and at its end.
use Rattle.std.proofs.Common.{◌≡◌, ℕ, ◌<◌, ◌≤◌, ◌+◌, Bool, true, false, length, get_or, take, Option, None, Some, IsSome, refl, ap, sym, ◌∙◌, subst, arith, ◌⊎◌, inl, inr}
use Rattle.std.specs.Prelude.{List, [], ◌∷◌, ◌++◌}
use Rattle.std.proofs.lemmas.List.{take_more, take-append-le, length-append}
use Rattle.std.proofs.lemmas.List.Folds.{list_any_at}
use Rattle.base_ids.specs.Cells.{same_cell}
use Rattle.base_ids.specs.declared.cell_id.CellId.{CellId}
use Rattle.tick_model.specs.Game.{brings}
use Rattle.tick_model.specs.Views.{View}
use Rattle.closure.specs.Closure.{AreBrought, AreMissing, IsNeeded}
use Rattle.closure.specs.Lists.{AreDistinct, IsUnion, has}
use Rattle.closure.proofs.Sameness.{same_cell_is, same_cell_itself}
use Rattle.closure.proofs.Fewer.{left, left_falls, not_before}
use Rattle.closure.proofs.Unions.{has-append}

-- All cells that are asked for are found. The cells before the place are held, and what they bring is found. Each cell that is
-- found is needed, and is found once.
pub record IsWalked (sees : CellId → Option View) (asked : List CellId) (moment : ℕ) (found : List CellId) (place : ℕ) : Type 0 where
  pub within : place ≤ length found
  pub covers : (cell : CellId) → has asked cell ≡ true → has found cell ≡ true
  pub closed : (cell other : CellId) (seen : View) → has (take place found) cell ≡ true → sees cell ≡ Some seen → brings seen moment other ≡ true → has found other ≡ true
  pub held : (cell : CellId) → has (take place found) cell ≡ true → IsSome (sees cell)
  pub needed : (cell : CellId) → has found cell ≡ true → IsNeeded sees asked moment cell
  pub distinct : AreDistinct found

pub walk_start : (sees : CellId → Option View) (asked : List CellId) (moment : ℕ) (found : List CellId) → IsUnion [] asked found → IsWalked sees asked moment found 0
walk_start sees asked moment found union = record {
  within = omega arith;
  covers = λ cell is. union.same cell ∙ is;
  closed = λ cell other seen is. cc;
  held = λ cell is. cc;
  needed = λ cell is set enough. enough.covers cell (sym (union.same cell) ∙ is);
  distinct = union.distinct (λ i j d before short. absurd (omega arith));
}

-- the only cell of a list of one
alone : (id cell : CellId) → has (id ∷ []) cell ≡ true → id ≡ cell
alone id cell is = sym (same_cell_is cell id (let same : same_cell cell id ≡ true = grind arith in same))

-- the first cells, once there is one more and the list has grown
pub take_grown : (found more : List CellId) (place : ℕ) (id : CellId) → place < length found → id ≡ get_or found place id
    → take (place + 1) (found ++ more) ≡ take place found ++ id ∷ []
take_grown found more place id within at =
    let short : place + 1 ≤ length found = omega arith in
    take-append-le (place + 1) found more short ∙ take_more found place id within ∙ ap (λ x. take place found ++ x ∷ []) (sym at)

-- the cells that are walked, once the next one is
walked_cases : (walked : List CellId) (id cell : CellId) → has (walked ++ id ∷ []) cell ≡ true → (has walked cell ≡ true) ⊎ (id ≡ cell)
walked_cases walked id cell is = by_old (has walked cell) refl
  where
    by_old : (old : Bool) → has walked cell ≡ old → (has walked cell ≡ true) ⊎ (id ≡ cell)
    by_old true old = inl old
    by_old false out = inr (alone id cell (let split = has-append walked (id ∷ []) cell in grind arith))

-- a list that has grown has what it had and what came
union_left : (first second all : List CellId) (cell : CellId) → IsUnion first second all → has first cell ≡ true → has all cell ≡ true
union_left first second all cell union is = let same = union.same cell in grind arith

union_right : (first second all : List CellId) (cell : CellId) → IsUnion first second all → has second cell ≡ true → has all cell ≡ true
union_right first second all cell union is = let same = union.same cell in grind arith

union_cases : (first second all : List CellId) (cell : CellId) → IsUnion first second all → has all cell ≡ true → (has first cell ≡ true) ⊎ (has second cell ≡ true)
union_cases first second all cell union is = by_first (has first cell) refl
  where
    by_first : (old : Bool) → has first cell ≡ old → (has first cell ≡ true) ⊎ (has second cell ≡ true)
    by_first true old = inl old
    by_first false out = let same = union.same cell in inr (grind arith)

module _ (sees : CellId → Option View) (asked : List CellId) (moment : ℕ) (found : List CellId) (place : ℕ) (id : CellId) (walked : IsWalked sees asked moment found place) (within : place < length found) (at : id ≡ get_or found place id) where
  -- the cell at the place is found
  found_here : has found id ≡ true
  found_here = list_any_at (same_cell id) found place id within (ap (same_cell id) (sym at) ∙ same_cell_itself id)

  -- it isn't held
  pub walk_lost : AreBrought (sees id) moment None → AreMissing sees asked moment (id ∷ [])
  walk_lost none = by_seen (sees id) refl
    where
      missing : sees id ≡ None → AreMissing sees asked moment (id ∷ [])
      missing unseen = record {
        some = omega arith;
        lost = λ cell is. subst (λ cell. sees cell ≡ None) (alone id cell is) unseen;
        needed = λ cell is. subst (IsNeeded sees asked moment) (alone id cell is) (walked.needed id found_here);
        distinct = λ i j d before short. absurd (omega arith);
      }

      by_seen : (look : Option View) → sees id ≡ look → AreMissing sees asked moment (id ∷ [])
      by_seen None unseen = missing unseen
      by_seen (Some seen) is = absurd (subst (λ look. AreBrought look moment None) is none)

  -- it is held, and all that it brings is found too
  pub walk_more : (cells new : List CellId) → AreBrought (sees id) moment (Some cells) → IsUnion found cells new → IsWalked sees asked moment new (place + 1)
  walk_more cells new brought union = by_seen (sees id) refl
    where
      first_ones : take (place + 1) new ≡ take place found ++ id ∷ []
      first_ones = ap (take (place + 1)) union.front ∙ take_grown found union.more place id within at

      cases : (cell : CellId) → has (take (place + 1) new) cell ≡ true → (has (take place found) cell ≡ true) ⊎ (id ≡ cell)
      cases cell is = walked_cases (take place found) id cell (sym (ap (λ cells. has cells cell) first_ones) ∙ is)

      grown : place + 1 ≤ length new
      grown = let size = length-append found union.more in let size' = ap length union.front in omega arith

      by_seen : (look : Option View) → sees id ≡ look → IsWalked sees asked moment new (place + 1)
      by_seen None none = absurd (subst (λ look. AreBrought look moment (Some cells)) none brought)
      by_seen (Some seen) is =
          let exactly : (cell : CellId) → has cells cell ≡ brings seen moment cell = subst (λ look. AreBrought look moment (Some cells)) is brought in
          record {
            within = grown;
            covers = λ cell asks. union_left found cells new cell union (walked.covers cell asks);
            closed = λ cell other view inside sees_it brings_it. elim (cases cell inside) [
              | inl old ↦ union_left found cells new other union (walked.closed cell other view old sees_it brings_it)
              | inr here ↦
                  let same : Some seen ≡ Some view = sym is ∙ ap sees here ∙ sees_it in
                  union_right found cells new other union (exactly other ∙ (let brings_too : brings seen moment other ≡ true = cc in brings_too))
            ];
            held = λ cell inside. elim (cases cell inside) [
              | inl old ↦ walked.held cell old
              | inr here ↦ subst (λ cell. IsSome (sees cell)) here (subst IsSome (sym is) refl)
            ];
            needed = λ cell inside. elim (union_cases found cells new cell union inside) [
              | inl old ↦ walked.needed cell old
              | inr came ↦ λ set enough. enough.closed id cell seen (walked.needed id found_here set enough) is (sym (exactly cell) ∙ came)
            ];
            distinct = union.distinct walked.distinct;
          }

  -- and fewer names are left
  pub walk_falls : (names cells new : List CellId) → ((cell : CellId) (seen : View) → sees cell ≡ Some seen → has names cell ≡ true)
      → AreBrought (sees id) moment (Some cells) → IsUnion found cells new → left names (take (place + 1) new) < left names (take place found)
  walk_falls names cells new named brought union = by_seen (sees id) refl
    where
      by_seen : (look : Option View) → sees id ≡ look → left names (take (place + 1) new) < left names (take place found)
      by_seen None none = absurd (subst (λ look. AreBrought look moment (Some cells)) none brought)
      by_seen (Some seen) is =
          let first_ones = ap (take (place + 1)) union.front ∙ take_grown found union.more place id within at in
          rw first_ones (left_falls names (take place found) id (named id seen is) (not_before found id place walked.distinct within at))
