use Rattle.std.proofs.Common.{ap, ◌∙◌, sym}
use Rattle.std.specs.Prelude.{option_map}
use Rattle.account_cell.specs.Account.{research_of}
use Rattle.base_ids.specs.declared.cell_id.CellId.TheVariants.{Account}
use Rattle.happenings.specs.Held.{account_stand, held_at}
use Rattle.lazy.specs.Running.{first_second, turn_at}
use Rattle.lazy.proofs.Yards.{account-landing}
use Rattle.lazy.proofs.running.turn_at.Goals as goal

pub returns-in-Some-clause-value : goal.returns-in-Some-clause-value
returns-in-Some-clause-value c =
    let limit = c.args.limit in
    let cell = c.in-Some.cell.now in
    c.research_turn.ensures.value
    ∙ sym (account-landing (first_second limit (research_of cell.account)) c.in-Account.player cell.fleets)
    ∙ ap (λ o. turn_at limit (Account c.in-Account.player) (option_map account_stand o)) (sym c.in-Some.ensures)
    ∙ ap (λ name. turn_at limit name (held_at c.args.cells.now name)) (sym c.in-Account.is)
