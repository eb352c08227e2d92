use Rattle.std.proofs.Common.{◌∙◌}
use Rattle.base_ids.specs.declared.cell_id.CellId.TheVariants.{Account}
use Rattle.lazy.proofs.Texts.{account-missing, account-there, text-more}
use Rattle.lazy.proofs.dumping.push_accounts.Goals as goal
use Rattle.lazy.proofs.dumping.push_accounts.Goals.{in-Some+in_ok-push_account, in_default}

pub players-preserved : goal.players-preserved
players-preserved c = λ setting named.
    let cells = c.args.cells.now in
    let player = c.player-item.result in
    text-more Account setting cells c.args.text.now c.players.text c.match-account.text c.args.players.now c.players.player-index player c.players-test.true c.player-item.is
    (c.players.invariant setting named)
    (elim c.match-account.branch [
      | in-Some+in_ok-push_account w ↦
          account-there setting cells c.players.text c.match-account.text player w.in-Some.cell.now named w.in-Some.ensures (w.text-is ∙ w.in_ok-push_account.ensures setting)
      | in_default w ↦ account-missing setting cells c.players.text c.match-account.text player w.in_default.ensures w.text-is
    ])
