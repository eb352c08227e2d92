-- What becomes of the items of a research queue.
use Rattle.std.proofs.Common.{◌≡◌, ℕ, zero, suc, ◌+◌, ◌<◌, List, [], ◌∷◌, length, get_or, map, ap, ◌∙◌, arith}
use Rattle.std.specs.Prelude.{slice_set}
use Rattle.account_cell.specs.Account.{research_item}
use Rattle.account_cell.specs.Queue.{first_started, numbered}
use Rattle.account_cell.specs.declared.research_item.ResearchItem.{ResearchItem}
use Rattle.base_ids.specs.declared.player.Player.{Player}
use Rattle.tick_model.specs.Researches.{started_research}
use Rattle.tick_model.specs.Universe.{AccountFields, Item, PlanetFields}

-- the last item gets its number
pub numbers : (number : ℕ) (player : Player) (items : List ResearchItem) (place : ℕ) (last next : ResearchItem) → place + 1 ≡ length items → last ≡ get_or items place last
    → research_item player next ≡ record (research_item player last) { number = number } → map (research_item player) (slice_set items place next) ≡ numbered number (map (research_item player) items)
numbers number player [] place last next here is same = absurd (omega arith)
numbers number player (item ∷ []) zero last next here is same =
    ap (λ (x : Item). x ∷ []) (same ∙ ap (λ (x : ResearchItem). record (research_item player x) { number = number }) is)
numbers number player (item ∷ []) (suc place) last next here is same = absurd (omega arith)
numbers number player (item ∷ second ∷ later) zero last next here is same = absurd (omega arith)
numbers number player (item ∷ second ∷ later) (suc place) last next here is same =
    let rest = numbers number player (second ∷ later) place last next (omega arith) is same in
    ap (λ (x : List Item). research_item player item ∷ x) rest

-- the first item starts
pub starts : (speed second : ℕ) (account : AccountFields) (planet : PlanetFields) (player : Player) (items : List ResearchItem) (first next : ResearchItem) → 0 < length items → first ≡ get_or items 0 first
    → research_item player next ≡ started_research speed second account planet (research_item player first)
    → map (research_item player) (slice_set items 0 next) ≡ first_started speed second account planet (map (research_item player) items)
starts speed second account planet player [] first next some here runs = absurd (omega arith)
starts speed second account planet player (head ∷ later) first next some here runs =
    ap (λ (x : Item). x ∷ map (research_item player) later)
    (runs ∙ ap (λ (x : ResearchItem). started_research speed second account planet (research_item player x)) here)
