use Rattle.std.proofs.Common.{◌⊎◌, ℕ, List, inl, inr, refl, subst, take}
use Rattle.std.proofs.lemmas.Result.{err_from_is_err_and}
use Rattle.std.specs.Io.KnownBytes.{Appends}
use Rattle.request_text.proofs.LineKnowing.{known-map}
use Rattle.command.specs.Trial.{NamedBroken, TriedBroken}
use Rattle.command.specs.TrialDump.{DumpBroken, Dumped}
use Rattle.command.proofs.Numbering.{other}
use Rattle.command.proofs.Trying.{dump-broken, dumped}
use Rattle.command.proofs.trials.trial_dump.Goals as goal

pub returns-clause-dump : goal.returns-clause-dump
returns-clause-dump g c =
    let left = g.S.Source.left in
    let t0 = g.C.Clock.told c.args.clock.now in
    let t1 = g.C.Clock.told c.answer_input.new.clock in
    let w0 = g.K.Sink.written c.args.sink.now in
    let w1 = g.K.Sink.written c.answer_input.new.sink in
    let w2 = g.K.Sink.written c.write_all.new.sink in
    let shown = c.in_ok-text.text in
    let wrote : Appends w1 w2 shown = subst (Appends w1 w2) c.as_slice.ensures c.in_ok-write_all.ensures.all in
    record {
      done = λ e. known-map (left c.args.source.now) (left c.answer_input.new.source) _ (λ text more. Dumped text more t0 t1 w0 w2)
          (λ x z leaves. dumped x z t0 t1 w0 w1 w2 c.in_ok-universe.universe shown leaves c.in_ok-text.ensures wrote) c.in_ok-universe.ensures.leaves;
      partly = λ e. elim e [ inl source ↦ other 0 4 refl source | inr long ↦ other 0 9 refl long ];
      broken = λ e. other 0 5 refl e;
      not_founded = λ e. other 0 11 refl e;
    }

pub returns-in_err-write_all-clause-dump :
    goal.returns-in_err-write_all-clause-dump
returns-in_err-write_all-clause-dump g c =
    let left = g.S.Source.left in
    let t0 = g.C.Clock.told c.args.clock.now in
    let t1 = g.C.Clock.told c.answer_input.new.clock in
    let w0 = g.K.Sink.written c.args.sink.now in
    let w1 = g.K.Sink.written c.answer_input.new.sink in
    let w2 = g.K.Sink.written c.write_all.new.sink in
    let shown = c.in_ok-text.text in
    let front = c.in_err-write_all.ensures.front in
    let wrote : Appends w1 w2 (take front.0 shown) = subst (λ (bytes : List ℕ). Appends w1 w2 (take front.0 bytes)) c.as_slice.ensures front.1 in
    let returned = err_from_is_err_and c.from_residual-in_err-write_all.result c.from_residual-in_err-write_all.ensures.1 in
    rw (returned.1, returned.2)
    (record {
      done = λ e. other 5 0 refl e;
      partly = λ e. elim e [ inl source ↦ other 5 4 refl source | inr long ↦ other 5 9 refl long ];
      broken = λ e. known-map (left c.args.source.now) (left c.answer_input.new.source) _ (λ text more. TriedBroken text t0 t1 w0 w2 ⊎ DumpBroken text more t0 t1 w0 w2 ⊎ NamedBroken text w0 w2)
          (λ x z leaves. inr (inl (dump-broken x z t0 t1 w0 w1 w2 c.in_ok-universe.universe shown front.0 leaves c.in_ok-text.ensures wrote))) c.in_ok-universe.ensures.leaves;
      not_founded = λ e. other 5 11 refl e;
    })
