use Rattle.std.proofs.Common.{◌≡◌, ◌⊎◌, ℕ, List, inl, inr, refl, ap, subst, Option}
use Rattle.std.proofs.lemmas.Result.{err_from_is_err_and}
use Rattle.std.specs.Prelude.{Err, Result}
use Rattle.request_text.proofs.LineKnowing.{known-map, known-then}
use Rattle.request_text.specs.LineReading.{Known}
use Rattle.command.specs.Beginning.{Leaves}
use Rattle.command.specs.Statuses.{status_of}
use Rattle.command.specs.Trial.{NamedBroken, Trial, Tried, TriedBroken, TriedPart, Unfounded}
use Rattle.command.specs.declared.status.Stopped.{Stopped}
use Rattle.command.specs.declared.status.Stopped.TheVariants.{SourceFault, SinkFault, TooLong, NotFounded}
use Rattle.command.proofs.Numbering.{never_unfounded, not_done, other, status_err}
use Rattle.command.proofs.Trying.{leaves-all, tried-broken, tried-part}
use Rattle.command.proofs.trials.answer_input.Goals as goal

pub returns-clause-leaves : goal.returns-clause-leaves
returns-clause-leaves g c =
    let left = g.S.Source.left in
    let l0 = left c.args.source.now in
    let l2 = left c.answer_lines.new.source in
    let t0 = g.C.Clock.told c.args.clock.now in
    let t1 = g.C.Clock.told c.answer_lines.new.clock in
    let w = g.K.Sink.written c.begin.new.sink in
    let w1 = g.K.Sink.written c.answer_lines.new.sink in
    let first = c.in_ok-universe.universe in
    let last = c.answer_lines.new.universe in
    let silent = c.in_ok-universe.ensures.silent in
    subst (λ (w0 : Option (List ℕ)). Known l0 l2 (λ text more. Leaves text more t0 t1 w0 w1 last)) (ap g.K.Sink.written silent)
    (known-then l0 (left c.begin.new.source) l2 _ _ (λ text more. Leaves text more t0 t1 w w1 last)
    (λ x y z begins done. leaves-all x y z c.begin.new.lines first last t0 t1 w w1 begins (done begins.rest begins.base begins.sees begins.keeps))
    c.in_ok-universe.ensures.begins c.in_ok-answer_lines.ensures.done)

pub returns-clause-trial : goal.returns-clause-trial
returns-clause-trial g c =
    let left = g.S.Source.left in
    let l0 = left c.args.source.now in
    let l2 = left c.answer_lines.new.source in
    let t0 = g.C.Clock.told c.args.clock.now in
    let t1 = g.C.Clock.told c.answer_lines.new.clock in
    let w0 = g.K.Sink.written c.args.sink.now in
    let w1 = g.K.Sink.written c.answer_lines.new.sink in
    record {
      done = λ e. known-map l0 l2 _ (λ text more. Tried text more t0 t1 w0 w1) (λ x z leaves. leaves.tried) (returns-clause-leaves g c);
      partly = λ e. elim e [ inl source ↦ other 0 4 refl source | inr long ↦ other 0 9 refl long ];
      broken = λ e. other 0 5 refl e;
      not_founded = λ e. other 0 11 refl e;
    }

pub returns-in_err-answer_lines-clause-trial :
    goal.returns-in_err-answer_lines-clause-trial
returns-in_err-answer_lines-clause-trial g c =
    let left = g.S.Source.left in
    let l0 = left c.args.source.now in
    let l1 = left c.begin.new.source in
    let l2 = left c.answer_lines.new.source in
    let t0 = g.C.Clock.told c.args.clock.now in
    let t1 = g.C.Clock.told c.answer_lines.new.clock in
    let w = g.K.Sink.written c.begin.new.sink in
    let w1 = g.K.Sink.written c.answer_lines.new.sink in
    let first = c.in_ok-universe.universe in
    let last = c.answer_lines.new.universe in
    let reader = c.begin.new.lines in
    let silent = c.in_ok-universe.ensures.silent in
    let stopped = c.in_err-answer_lines.field-0.0 in
    let ended : Result Unit Stopped = Err stopped in
    let begins = c.in_ok-universe.ensures.begins in
    let answers = c.in_err-answer_lines.ensures in
    let returned = err_from_is_err_and c.from_residual-in_err-answer_lines.result c.from_residual-in_err-answer_lines.ensures.1 in
    let partly : (ended ≡ Err SourceFault) ⊎ (ended ≡ Err TooLong) → Known l0 l2 (λ text more. Unfounded text more t0 t1 w w1 ⊎ TriedPart text more t0 t1 w w1) =
    λ is. known-then l0 l1 l2 _ _ (λ text more. Unfounded text more t0 t1 w w1 ⊎ TriedPart text more t0 t1 w w1)
    (λ x y z begins part. inr (tried-part x y z reader first last t0 t1 w w1 begins (part begins.rest begins.base begins.sees begins.keeps))) begins (answers.partly is) in
    let trial : Trial (status_of ended) l0 l2 t0 t1 w w1 = record {
      done = λ e. not_done stopped e;
      partly = λ e. elim e [ inl source ↦ partly (inl (status_err ended SourceFault source)) | inr long ↦ partly (inr (status_err ended TooLong long)) ];
      broken = λ e. known-then l0 l1 l2 _ _ (λ text more. TriedBroken text t0 t1 w w1 ⊎ NamedBroken text w w1)
          (λ x y z begins broke. inl (tried-broken x y reader first last t0 t1 w w1 begins (broke begins.rest begins.base begins.sees begins.keeps))) begins
          (answers.broke_off (status_err ended SinkFault e));
      not_founded = λ e. never_unfounded ended answers.ends (status_err ended NotFounded e);
    } in
    rw (returned.1, returned.2)
    (subst (λ (w0 : Option (List ℕ)). Trial (status_of ended) l0 l2 t0 t1 w0 w1) (ap g.K.Sink.written silent) trial)
