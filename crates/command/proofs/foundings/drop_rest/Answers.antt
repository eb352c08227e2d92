use Rattle.std.proofs.Common.{◌≡◌, ◌+◌, List, ℕ, [], Some, None, length, ap, refl, sym, subst, ◌∙◌}
use Rattle.request_text.proofs.LineKnowing.{known-same, known-then}
use Rattle.request_text.specs.LineReading.{Leaves, Sees, Tells, line_of, taken}
use Rattle.command.proofs.FoundingTexts.{SeesRest}
use Rattle.command.proofs.Progress.{told_line, told_unfailed}
use Rattle.command.proofs.foundings.drop_rest.Goals as goal

pub rest-init : goal.rest-init
rest-init g c =
    let left = g.S.Source.left c.args.source.now in
    record {
      faults = refl;
      counts = known-same left _ (λ x. refl);
      sees = known-same left (λ x z. SeesRest c.args.lines.now x c.args.lines.now z) (λ x text sees. (text, sees));
    }

pub rest-preserved : goal.rest-preserved
rest-preserved g c =
    let left = g.S.Source.left in
    let old = c.rest.lines in
    let new = c.next.new.self in
    let told = c.in-Some._dropped in
    let is : c.next.result ≡ line_of (Some told) = c.in_ok-_dropped.ensures ∙ ap line_of c.in-Some.is in
    let leaves = subst (Leaves new) is c.next.ensures.leaves in
    record {
      faults = c.next.ensures.stands (λ fault. told_unfailed told (sym is ∙ fault)) ∙ c.rest.invariant.faults;
      counts =
          known-then (left c.args.source.now) (left c.rest.source) (left c.next.new.src) _ _ (λ x z. taken new + length z ≡ taken c.args.lines.now + length x)
          (λ x y z first second. second ∙ first) c.rest.invariant.counts c.next.ensures.counts;
      sees =
          known-then (left c.args.source.now) (left c.rest.source) (left c.next.new.src) _ _ (λ x z. SeesRest c.args.lines.now x new z)
          (λ x y z sees tells text first.
          let before = sees text first in
          let (line, follows, line_told) = told_line told old y new z (subst (Tells old y new z) is tells) leaves before.0 before.1 in
          (follows.rest, follows.sees)) c.rest.invariant.sees c.next.ensures.tells;
    }

pub returns-in_default-clause-ended :
    goal.returns-in_default-clause-ended
returns-in_default-clause-ended g c =
    let left = g.S.Source.left in
    let old = c.rest.lines in
    let new = c.next.new.self in
    let ended : c.next.result ≡ line_of None = c.in_ok-_dropped.ensures ∙ ap line_of c.in_default.is in
    known-then (left c.args.source.now) (left c.rest.source) (left c.next.new.src) _ _ (λ x z. (text : List ℕ) → Sees c.args.lines.now x text → z ≡ [])
    (λ x y z sees tells text first.
    let before = sees text first in
    let end = subst (Tells old y new z) ended tells in
    (end before.0 before.1).1) c.rest.invariant.sees c.next.ensures.tells
