-- The planets that are to pay the items that wait.
use Rattle.std.proofs.Common.{◌≡◌, ℕ, ◌≤◌, nat_le, true, ◌||◌, ◌&&◌, List, [], ◌∷◌, map, take, length, refl, ap, ◌∙◌, sym, arith}
use Rattle.std.proofs.lemmas.Bool.Decides.{nat_tests}
use Rattle.std.proofs.lemmas.List.{take_all}
use Rattle.std.specs.List.{list_any}
use Rattle.account_cell.specs.Account.{research_item}
use Rattle.account_cell.specs.declared.research_item.ResearchItem.{ResearchItem}
use Rattle.base_ids.specs.Cells.{same_cell}
use Rattle.base_ids.specs.declared.cell_id.CellId.{CellId}
use Rattle.base_ids.specs.declared.cell_id.CellId.TheVariants.{Planet}
use Rattle.base_ids.specs.declared.player.Player.{Player}
use Rattle.closure.proofs.Sameness.{same_cell_swap}
use Rattle.closure.specs.Lists.{has}
use Rattle.tick_model.specs.Events.{is_payer}
use Rattle.tick_model.specs.Game.{research_brings}
use Rattle.tick_model.specs.Universe.{Researches}
use Rattle.happenings.specs.Sights.{AreAllPayers, is_payer_by}

-- the places at which items are paid
abbrev pub payers_of : List ResearchItem → List CellId
payers_of items = map (λ item. Planet item.at) items

-- a cell is among them if it is the planet of an item
pub has_payer : (items : List ResearchItem) (cell : CellId) → has (payers_of items) cell ≡ list_any (λ item. same_cell (Planet item.at) cell) items
has_payer [] cell = refl
has_payer (item ∷ later) cell = (λ i. same_cell_swap cell (Planet item.at) i || has_payer later cell i)

waiting-payer : (player : Player) (items : List ResearchItem) (cell : CellId)
    → list_any (λ item. same_cell (Planet item.at) cell) items ≡ is_payer Researches (map (research_item player) items) cell
waiting-payer player [] cell = refl
waiting-payer player (item ∷ later) cell = ap (λ b. same_cell (Planet item.at) cell || b) (waiting-payer player later cell)

-- if the first item is done by the moment, these are the planets of all items behind it
pub payers_all : (moment : ℕ) (items waiting : List ResearchItem) (first : ResearchItem) (cells : List CellId) (n : ℕ) → items ≡ first ∷ waiting → first.second ≤ moment
    → length waiting ≤ n → cells ≡ payers_of (take n waiting) → AreAllPayers moment items cells
payers_all moment items waiting first cells n parts done all are cell =
    let yes : nat_le first.second moment ≡ true = grind (arith, nat_tests) in
    ap (λ xs. has xs cell) are ∙ ap (λ xs. has (payers_of xs) cell) (take_all n waiting all) ∙ has_payer waiting cell
    ∙ sym (ap (λ xs. is_payer_by moment xs cell) parts ∙ ap (λ b. b && list_any (λ item. same_cell (Planet item.at) cell) waiting) yes)

-- they are what the research of an account brings
pub payer_brought : (player : Player) (moment : ℕ) (items : List ResearchItem) (cell : CellId)
    → is_payer_by moment items cell ≡ research_brings moment (map (research_item player) items) cell
payer_brought player moment [] cell = refl
payer_brought player moment (first ∷ waiting) cell = ap (λ b. nat_le first.second moment && b) (waiting-payer player waiting cell)
