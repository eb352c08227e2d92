use Rattle.std.proofs.Common.{List, ℕ, Option, ap, subst, take, ◌∙◌}
use Rattle.std.proofs.lemmas.Result.{err_from_is_err_and}
use Rattle.std.specs.Io.KnownBytes.{Appends}
use Rattle.std.specs.Prelude.{Err}
use Rattle.command.specs.Found.{MayHold, founded_line}
use Rattle.command.proofs.FirstAreas.{found-broken, found-done, found-unlaid}
use Rattle.command.proofs.finding.lay_first.Goals as goal

pub returns-in_err-rebase-clause-found : goal.returns-in_err-rebase-clause-found
returns-in_err-rebase-clause-found g c =
    let written = g.K.Sink.written in
    let l0 = g.S.Source.left c.args.source.now in
    let l1 = g.S.Source.left c.read_base.new.source in
    let base = c.in_ok-base.base in
    let fault = c.in_err-rebase.field-0.0 in
    let may : MayHold g.D.Disk.story base c.args.left.now c.rebase.new.into l0 l1 = record { read = c.in_ok-base.ensures.whole; since = c.rebase.ensures.since } in
    let returned = err_from_is_err_and c.from_residual-in_err-rebase.result c.from_residual-in_err-rebase.ensures.1 in
    rw (returned.1, returned.2)
    (found-unlaid g.D.Disk.story fault base c.args.left.now c.rebase.new.into l0 l1 (written c.args.sink.now) (written c.read_base.new.sink) g.met.D.Disk.laws may
    (λ is. c.in_err-rebase.ensures.memory (ap Err is)))

pub returns-in_err-rebase-clause-torn : goal.returns-in_err-rebase-clause-torn
returns-in_err-rebase-clause-torn g c = λ is. (c.in_ok-base.base, record { read = c.in_ok-base.ensures.whole; since = c.rebase.ensures.since })

pub returns-in_err-write_all-clause-found : goal.returns-in_err-write_all-clause-found
returns-in_err-write_all-clause-found g c =
    let written = g.K.Sink.written in
    let l0 = g.S.Source.left c.args.source.now in
    let l1 = g.S.Source.left c.read_base.new.source in
    let w1 = written c.write_all.new.sink in
    let base = c.in_ok-base.base in
    let front = c.in_err-write_all.ensures.front in
    let line = c.as_bytes.ensures.value ∙ c.in_ok-text.ensures in
    let wrote : Appends (written c.read_base.new.sink) w1 (take front.0 (founded_line base)) = subst (λ (bytes : List ℕ). Appends (written c.read_base.new.sink) w1 (take front.0 bytes)) line front.1 in
    let returned = err_from_is_err_and c.from_residual-in_err-write_all.result c.from_residual-in_err-write_all.ensures.1 in
    rw (returned.1, returned.2)
    (found-broken g.D.Disk.story base c.args.left.now c.rebase.new.into l0 l1 (written c.args.sink.now) w1 front.0
    (record { may = record { read = c.in_ok-base.ensures.whole; since = c.rebase.ensures.since }; now = c.in_ok-rebase.ensures.rebased })
    (subst (λ (before : Option (List ℕ)). Appends before w1 (take front.0 (founded_line base))) (ap written c.in_ok-base.ensures.silent) wrote))

pub returns-clause-found : goal.returns-clause-found
returns-clause-found g c =
    let written = g.K.Sink.written in
    let l0 = g.S.Source.left c.args.source.now in
    let l1 = g.S.Source.left c.read_base.new.source in
    let w1 = written c.write_all.new.sink in
    let base = c.in_ok-base.base in
    let line = c.as_bytes.ensures.value ∙ c.in_ok-text.ensures in
    let wrote : Appends (written c.read_base.new.sink) w1 (founded_line base) = subst (λ (bytes : List ℕ). Appends (written c.read_base.new.sink) w1 bytes) line c.in_ok-write_all.ensures.all in
    found-done g.D.Disk.story base c.args.left.now c.rebase.new.into l0 l1 (written c.args.sink.now) w1
    (record { may = record { read = c.in_ok-base.ensures.whole; since = c.rebase.ensures.since }; now = c.in_ok-rebase.ensures.rebased })
    (subst (λ (before : Option (List ℕ)). Appends before w1 (founded_line base)) (ap written c.in_ok-base.ensures.silent) wrote)
