-- A list grows by the cells of another one, cell by cell.
use Rattle.std.proofs.Common.{◌≡◌, ℕ, ◌<◌, ◌+◌, Bool, true, false, length, get_or, take, refl, ap, sym, ◌∙◌, subst, arith, append_assoc}
use Rattle.std.specs.Prelude.{List, [], ◌∷◌, ◌++◌, ◌||◌, if◌then◌else◌}
use Rattle.std.proofs.lemmas.List.{take_more, append-nil}
use Rattle.std.proofs.lemmas.List.Folds.{list_any-append, list_any_at}
use Rattle.std.proofs.lemmas.List.Quantifiers.{all_pairs_push}
use Rattle.base_ids.specs.Cells.{same_cell}
use Rattle.base_ids.specs.declared.cell_id.CellId.{CellId}
use Rattle.closure.specs.Lists.{AreDistinct, IsUnion, has, with_cell}
use Rattle.closure.proofs.Sameness.{same_cell_is, same_cell_swap}

pub has-append : (one other : List CellId) (cell : CellId) → has (one ++ other) cell ≡ (has one cell || has other cell)
has-append one other cell = list_any-append (same_cell cell) one other

-- a cell that isn't there is none of the cells there
apart : (cells : List CellId) (id : CellId) → has cells id ≡ false → (k : ℕ) (d : CellId) → k < length cells → same_cell (get_or cells k d) id ≡ false
apart cells id out k d within =
    let swap = same_cell_swap (get_or cells k d) id in
    let at = list_any_at (same_cell id) cells k d within in
    grind arith

pub distinct_push : (cells : List CellId) (id : CellId) → AreDistinct cells → has cells id ≡ false → AreDistinct (cells ++ id ∷ [])
distinct_push cells id distinct out = all_pairs_push (λ one other. same_cell one other ≡ false) cells id distinct (apart cells id out)

pub union_start : (first : List CellId) → IsUnion first [] first
union_start first = record {
  more = [];
  front = sym (append-nil first);
  same = λ cell. grind arith;
  distinct = λ distinct. distinct;
}

-- one cell more, by whether it was there
union_there : (first done all : List CellId) (id : CellId) → IsUnion first done all → has all id ≡ true → IsUnion first (done ++ id ∷ []) all
union_there first done all id union there = record {
  more = union.more;
  front = union.front;
  same = λ cell.
      let same = union.same cell in
      let split = has-append done (id ∷ []) cell in
      let one = λ (is : same_cell cell id ≡ true). ap (has all) (same_cell_is cell id is) in
      grind (arith, one);
  distinct = union.distinct;
}

union_new : (first done all : List CellId) (id : CellId) → IsUnion first done all → has all id ≡ false → IsUnion first (done ++ id ∷ []) (all ++ id ∷ [])
union_new first done all id union out = record {
  more = union.more ++ id ∷ [];
  front = ap (λ (xs : List CellId). xs ++ id ∷ []) union.front ∙ append_assoc first union.more (id ∷ []);
  same = λ cell.
      let same = union.same cell in
      let split = has-append done (id ∷ []) cell in
      let split' = has-append all (id ∷ []) cell in
      grind arith;
  distinct = λ distinct. distinct_push all id (union.distinct distinct) out;
}

union_one : (first done all new : List CellId) (id : CellId) → IsUnion first done all → new ≡ with_cell all id → IsUnion first (done ++ id ∷ []) new
union_one first done all new id union is = by_there (has all id) refl
  where
    by_there : (there : Bool) → has all id ≡ there → IsUnion first (done ++ id ∷ []) new
    by_there true there = let same : all ≡ new = sym (is ∙ ap (λ b. if b then all else all ++ id ∷ []) there) in
        subst (IsUnion first (done ++ id ∷ [])) same (union_there first done all id union there)
    by_there false out = let same : all ++ id ∷ [] ≡ new = sym (is ∙ ap (λ b. if b then all else all ++ id ∷ []) out) in
        subst (IsUnion first (done ++ id ∷ [])) same (union_new first done all id union out)

-- the next cell of the other list has been added
pub union_more : (first second all new : List CellId) (id : CellId) (i : ℕ) → IsUnion first (take i second) all → i < length second → id ≡ get_or second i id
    → new ≡ with_cell all id → IsUnion first (take (i + 1) second) new
union_more first second all new id i union within at is =
    let more = take_more second i id within ∙ ap (λ x. take i second ++ x ∷ []) (sym at) in
    rw more (union_one first (take i second) all new id union is)

-- a list with a cell has it, and what it had
pub with_has : (cells : List CellId) (id cell : CellId) → has (with_cell cells id) cell ≡ (has cells cell || same_cell id cell)
with_has cells id cell = by_there (has cells id) refl
  where
    by_there : (there : Bool) → has cells id ≡ there → has (with_cell cells id) cell ≡ (has cells cell || same_cell id cell)
    by_there true there =
        let same = λ (is : same_cell id cell ≡ true). ap (has cells) (sym (same_cell_is id cell is)) ∙ there in
        let taken : has (with_cell cells id) cell ≡ has cells cell = ap (λ b. has (if b then cells else cells ++ id ∷ []) cell) there in
        grind (arith, same)
    by_there false out =
        let split = has-append cells (id ∷ []) cell in
        let swap = same_cell_swap cell id in
        let taken : has (with_cell cells id) cell ≡ has (cells ++ id ∷ []) cell = ap (λ b. has (if b then cells else cells ++ id ∷ []) cell) out in
        grind arith
