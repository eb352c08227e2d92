use Rattle.std.proofs.Common.{◌≡◌, ap}
use Rattle.std.specs.Prelude.{Some}
use Rattle.records.specs.declared.fields.Head.{Head}
use Rattle.records.proofs.entries.entry_of.Goals as goal

pub returns-in_err-player : goal.returns-in_err-player
returns-in_err-player c = λ entry head_is order_is load_is. absurd (cc (c.in_err-player.ensures entry.player (ap (λ (h : Head). h.player) head_is)))

pub returns : goal.returns
returns c = λ entry head_is order_is load_is.
    let the_player : c.in_ok-player.player ≡ entry.player = cc (c.in_ok-player.ensures entry.player (ap (λ (h : Head). h.player) head_is)) in
    let the_req : c.in_ok-req.req ≡ entry.req = cc (c.in_ok-req.ensures entry.req (ap (λ (h : Head). h.form) head_is) order_is load_is) in
    λ i. Some (record { number = (head_is i).number; moment = (head_is i).moment; reading = (head_is i).reading; player = the_player i; req = the_req i })
