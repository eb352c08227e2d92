use Rattle.std.proofs.Common.{◌≡◌, List, ℕ, [], Option, ap, subst}
use Rattle.std.proofs.lemmas.Result.{err_from_is_err_and}
use Rattle.request_text.proofs.LineKnowing.{known-then}
use Rattle.command.specs.FoundingText.{IsFoundedBy, IsReadPart, LacksBase, behind}
use Rattle.command.specs.Statuses.{number_of, stopped_at}
use Rattle.command.proofs.FoundingTexts.{founded-by, lacks-rest}
use Rattle.command.proofs.foundings.read_base.Goals as goal

pub returns-clause-whole : goal.returns-clause-whole
returns-clause-whole g c =
    let left = g.S.Source.left in
    let reader = c.read_founding.new.lines in
    let base = c.in_ok-base.base in
    known-then (left c.args.source.now) (left c.read_founding.new.source) (left c.drop_rest.new.source) _ _ (λ x z. (z ≡ []) × IsFoundedBy x base)
    (λ x y z reads ended. (ended reads.rest reads.sees, founded-by x reader y base reads)) c.in_ok-base.ensures.reads c.in_ok-drop_rest.ensures.ended

pub returns-in_err-drop_rest-clause-lacks :
    goal.returns-in_err-drop_rest-clause-lacks
returns-in_err-drop_rest-clause-lacks g c =
    let left = g.S.Source.left in
    let written = g.K.Sink.written in
    let l0 = left c.args.source.now in
    let l2 = left c.drop_rest.new.source in
    let w1 = written c.read_founding.new.sink in
    let reader = c.read_founding.new.lines in
    let base = c.in_ok-base.base in
    let stop = c.in_err-drop_rest.field-0.0 in
    let part = known-then l0 (left c.read_founding.new.source) l2 _ _ IsReadPart (λ x y z reads counts. behind base (founded-by x reader y base reads)) c.in_ok-base.ensures.reads c.drop_rest.ensures.counts in
    let returned = err_from_is_err_and c.from_residual-in_err-drop_rest.result c.from_residual-in_err-drop_rest.ensures.1 in
    rw (returned.1, returned.2)
    (subst (λ (before : Option (List ℕ)). LacksBase IsReadPart (number_of (stopped_at stop)) l0 l2 before w1) (ap written c.in_ok-base.ensures.silent) (lacks-rest stop l0 l2 w1 part))
