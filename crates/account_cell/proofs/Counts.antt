-- What is counted for a refusal.
use Rattle.std.proofs.Common.{◌≡◌, ℕ, ◌+◌, cond, List, [], ◌∷◌, map, refl, ap, sym, ◌∙◌}
use Rattle.std.specs.Prelude.{◌==◌}
use Rattle.std.proofs.lemmas.List.Sums.{sum_by-cons}
use Rattle.account_cell.specs.Account.{research_item}
use Rattle.account_cell.specs.Bounds.{count_of}
use Rattle.account_cell.specs.declared.research_item.ResearchItem.{ResearchItem}
use Rattle.base_ids.specs.declared.player.Player.{Player}
use Rattle.catalog.specs.Kinds.{kind_number}
use Rattle.catalog.specs.declared.kind.Kind.{Kind}
use Rattle.tick_model.specs.Refusals.{queued}
use Rattle.tick_model.specs.Universe.{Item}

-- the items of a kind are as many as the items that stand for them
pub queued_items : (kind : Kind) (player : Player) (items : List ResearchItem) → queued kind (map (research_item player) items) ≡ count_of kind items
queued_items kind player [] = refl
queued_items kind player (first ∷ later) =
    sum_by-cons (λ (item : Item). cond (kind_number item.kind == kind_number kind) 1 0) (research_item player first) (map (research_item player) later)
    ∙ ap (λ (n : ℕ). cond (kind_number first.kind.kind == kind_number kind) 1 0 + n) (queued_items kind player later)
    ∙ sym (sum_by-cons (λ (item : ResearchItem). cond (kind_number item.kind.kind == kind_number kind) 1 0) first later)
