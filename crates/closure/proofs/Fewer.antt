-- How many names are left falls with each new cell.
use Rattle.std.proofs.Common.{◌≡◌, ℕ, ◌<◌, ◌≤◌, ◌+◌, Bool, true, false, length, get_or, take, refl, ap, sym, ◌∙◌, arith}
use Rattle.std.specs.Prelude.{List, [], ◌∷◌, ◌++◌, ◌||◌, if◌then◌else◌}
use Rattle.std.proofs.lemmas.List.{get_or-take, get_or_default, length-take}
use Rattle.std.proofs.lemmas.List.Folds.{list_any_none}
use Rattle.base_ids.specs.Cells.{same_cell}
use Rattle.base_ids.specs.declared.cell_id.CellId.{CellId}
use Rattle.closure.specs.Lists.{AreDistinct, has}
use Rattle.closure.proofs.Sameness.{same_cell_is, same_cell_swap}
use Rattle.closure.proofs.Unions.{has-append}

-- how many of the names aren't among the cells
abbrev pub left : List CellId → List CellId → ℕ
left [] cells = 0
left (name ∷ names) cells = (if has cells name then 0 else 1) + left names cells

-- what is there stays
kept : (cells : List CellId) (id name : CellId) → (if has (cells ++ id ∷ []) name then 0 else 1) ≤ (if has cells name then 0 else 1)
kept cells id name = let split = has-append cells (id ∷ []) name in grind arith

left_kept : (names cells : List CellId) (id : CellId) → left names (cells ++ id ∷ []) ≤ left names cells
left_kept [] cells id = omega arith
left_kept (name ∷ names) cells id = omega (arith, kept cells id name, left_kept names cells id)

-- the name is the new cell
left_here : (cells : List CellId) (id name : CellId) → same_cell id name ≡ true → has cells id ≡ false
    → (if has (cells ++ id ∷ []) name then 0 else 1) < (if has cells name then 0 else 1)
left_here cells id name same out =
    let split = has-append cells (id ∷ []) name in
    let is = ap (has cells) (same_cell_is id name same) in
    let swap = same_cell_swap name id in
    grind arith

pub left_falls : (names cells : List CellId) (id : CellId) → has names id ≡ true → has cells id ≡ false → left names (cells ++ id ∷ []) < left names cells
left_falls [] cells id named out = cc
left_falls (name ∷ names) cells id named out = by_here (same_cell id name) refl (λ there. left_falls names cells id there out)
  where
    by_here : (here : Bool) → same_cell id name ≡ here → (has names id ≡ true → left names (cells ++ id ∷ []) < left names cells) → left (name ∷ names) (cells ++ id ∷ []) < left (name ∷ names) cells
    by_here true here later = omega (arith, left_here cells id name here out, left_kept names cells id)
    by_here false here later =
        let there : has names id ≡ true = sym (ap (λ b. b || has names id) here) ∙ named in
        omega (arith, kept cells id name, later there)

-- a cell of a list without repetitions isn't among those before it
pub not_before : (cells : List CellId) (id : CellId) (place : ℕ) → AreDistinct cells → place < length cells → id ≡ get_or cells place id → has (take place cells) id ≡ false
not_before cells id place distinct within at =
    list_any_none (same_cell id) (take place cells) (λ k d short.
    let size = length-take place cells in
    let before : k < place = omega arith in
    let inside : k < length cells = omega arith in
    let read = get_or-take place cells k d before in
    let apart = distinct k place d before within in
    let same = get_or_default cells place d id within in
    let swap = same_cell_swap (get_or cells k d) id in
    cc)
