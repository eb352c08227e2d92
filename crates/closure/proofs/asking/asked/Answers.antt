use Rattle.std.proofs.Common.{sym, ap, ◌∙◌}
use Rattle.std.specs.Prelude.{[], ◌∷◌, ◌++◌, ◌||◌, ◌&&◌}
use Rattle.base_ids.specs.declared.cell_id.CellId.TheVariants.{Account}
use Rattle.tick_model.specs.Requests.{names}
use Rattle.closure.specs.Directory.{cells_of}
use Rattle.closure.specs.Lists.{has}
use Rattle.closure.proofs.Naming.{asks, asks_none}
use Rattle.closure.proofs.asking.asked.Goals as goal

-- the caller is no player
pub returns-then-not-has_player : goal.returns-then-not-has_player
returns-then-not-has_player g c = λ seen shows cell.
    ap (λ ids. has ids cell) c.new-ids.ensures ∙ sym (asks_none c.args.places.now c.args.player c.args.req.now seen cell (sym c.has_player.ensures ∙ c.if-not-has_player.true))

pub returns : goal.returns
returns g c = λ seen shows cell.
    let plays = sym c.has_player.ensures ∙ c.if-not-has_player.false in
    let caller = c.in_ok-push.ensures.ok ∙ ap (λ ids. ids ++ Account c.args.player ∷ []) c.new-ids.ensures in
    c.in_ok-add_named.ensures c.in_default.not-Recall seen c.args.player cell
    ∙ ap (λ ids. has ids cell || (has (cells_of c.args.places.now) cell && names seen c.args.player c.args.req.now cell)) caller
    ∙ sym (asks c.args.places.now c.args.player c.args.req.now seen cell plays)
