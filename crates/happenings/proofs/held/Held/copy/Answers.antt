use Rattle.std.proofs.Common.{◌≡◌, ◌∙◌, subst}
use Rattle.happenings.specs.Held.{IsEqual, Picks, held_at}
use Rattle.happenings.specs.Sights.{names_held}
use Rattle.happenings.proofs.Copying.{if_ok, picks_all}
use Rattle.happenings.proofs.held.Held.copy.Goals as goal

pub returns-clause-equal : goal.returns-clause-equal
returns-clause-equal c =
    let held = c.args.self.now in
    let names : c.deref.result.now ≡ names_held held = c.deref.ensures.value ∙ c.in_ok-names.ensures in
    if_ok c.pick.result (Picks held c.deref.result.now) (IsEqual held)
    (λ new picks. picks_all held (held_at held) new (λ cell some. some) (subst (λ all. Picks held all new) names picks)) c.pick.ensures.picks
