use Rattle.std.proofs.Common.{◌++◌, ap, ◌∙◌}
use Rattle.tick_model.specs.Dump.{link_lines, other_fleets}
use Rattle.lazy.proofs.Links.{account-there, done_map}
use Rattle.lazy.proofs.dumping.push_account.Goals as goal

pub returns : goal.returns
returns c =
    let cell = c.args.cell.now in
    let named = c.push_account_name.new.text in
    let told = c.in_ok-push.ensures.ok ∙ ap (λ lines. named ++ lines) (c.as_slice.ensures ∙ c.in_ok-lines.ensures) in
    let owns = c.in_ok-push-2.ensures.ok ∙ ap (λ lines. c.push.new.self ++ lines) (c.as_slice-2.ensures ∙ c.in_ok-own.ensures) in
    done_map c.push_other_links.result _ _ (λ links setting.
    account-there setting cell c.args.text.now named c.push.new.self c.push-2.new.self c.push_other_links.new.text c.in_ok-push_account_name.ensures told owns
    (links ∙ ap (λ fleets. c.push-2.new.self ++ link_lines (other_fleets cell.account.player fleets)) c.as_slice-3.ensures)) c.push_other_links.ensures
