use Rattle.std.proofs.Common.{rules}
use Rattle.std.specs.BTreeMap.{is_at}
use Rattle.happenings.specs.Held.{Stand, account_stand}
use Rattle.happenings.specs.Orders.{player_order}
use Rattle.happenings.specs.declared.held.AccountCell.{AccountCell}
use Rattle.happenings.proofs.Walked.{walked, walked_same}
use Rattle.happenings.proofs.gaining.gain_accounts.Goals as goal

pub returns-clause-gain : goal.returns-clause-gain
returns-clause-gain c player =
    walked _ account_stand (λ (stand : Stand). record stand { second = c.args.moment }) (is_at (player_order player)) _ (λ k v b w f' t. search rules) _ _ c.retain.ensures.filtered

pub returns-clause-named : goal.returns-clause-named
returns-clause-named c player =
    walked_same _ (λ (cell : AccountCell). cell.account.player) (is_at (player_order player)) _ (λ k v b w f' t. search rules) _ _ c.retain.ensures.filtered
