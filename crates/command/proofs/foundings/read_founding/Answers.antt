use Rattle.std.proofs.Common.{◌≡◌, ◌⊎◌, inl, inr, refl, subst}
use Rattle.std.proofs.lemmas.Result.{err_from_is_err_and}
use Rattle.std.specs.Prelude.{Err, Result}
use Rattle.base_bytes.specs.declared.base.Base.{Base}
use Rattle.founding.specs.Founding.{IsUnfinished}
use Rattle.founding.specs.Reading.{Reads}
use Rattle.founding.specs.declared.fault.FoundingFault.{FoundingFault}
use Rattle.request_text.proofs.LineKnowing.{known-map}
use Rattle.command.specs.FoundingText.{IsReadTo}
use Rattle.command.specs.Trial.{NamedBad, NamedBroken}
use Rattle.command.specs.declared.status.Stopped.{Stopped}
use Rattle.command.specs.declared.status.Stopped.TheVariants.{SinkFault, NoMemory}
use Rattle.command.proofs.Numbering.{other, status_err, unnamed_status}
use Rattle.command.proofs.foundings.read_founding.Goals as goal

pub returns-in-Ok-clause-reads : goal.returns-in-Ok-clause-reads
returns-in-Ok-clause-reads g c =
    let left = g.S.Source.left in
    known-map (left c.args.source.now) (left c.read.new.source) _ (λ text more. IsReadTo text c.read.new.lines more c.in-Ok.base)
    (λ x y founding.
    let founds = founding x (c.requires.fresh x) in
    record { rest = founds.0; founds = founds.1; sees = founds.2 }) c.in-Ok.ensures.reads

pub returns-in_err-name_bad_line-in-Err-Bad-clause-lacks :
    goal.returns-in_err-name_bad_line-in-Err-Bad-clause-lacks
returns-in_err-name_bad_line-in-Err-Bad-clause-lacks g c =
    let returned = err_from_is_err_and c.from_residual.result c.from_residual.ensures.1 in
    let left = g.S.Source.left in
    let l0 = left c.args.source.now in
    let l1 = left c.read.new.source in
    let w0 = g.K.Sink.written c.args.sink.now in
    let w1 = g.K.Sink.written c.name_bad_line.new.sink in
    let stopped = c.in_err-name_bad_line-in-Err-Bad.field-0.0 in
    let ended : Result Base Stopped = Err stopped in
    let named = c.in_err-name_bad_line-in-Err-Bad.ensures in
    let ends : (ended ≡ Err SinkFault) ⊎ (ended ≡ Err NoMemory) = elim named.ends [ inl sink ↦ inl (cc sink) | inr memory ↦ inr (cc memory) ] in
    rw (returned.1, returned.2)
    (record {
      partly = λ e. elim e [ inl source ↦ unnamed_status ended ends 4 refl refl source | inr long ↦ unnamed_status ended ends 9 refl refl long ];
      broken = λ e.
          let front = named.broken (status_err (Err stopped) SinkFault e) in
          known-map l0 l1 _ (λ x z. NamedBroken x w0 w1)
          (λ x y bad. record { number = c.in-Err-Bad.line; bad = subst (λ (fault : FoundingFault). Reads x c.read.new.lines y (Err fault)) c.in-Err-Bad.field-0-is (bad x (c.requires.fresh x)); count = front.0; wrote = front.1 })
          c.in-Err-Bad.ensures.reads;
      not_founded = λ e. unnamed_status ended ends 11 refl refl e;
    })

pub returns-in_ok-name_bad_line-in-Err-Bad-clause-lacks :
    goal.returns-in_ok-name_bad_line-in-Err-Bad-clause-lacks
returns-in_ok-name_bad_line-in-Err-Bad-clause-lacks g c =
    let left = g.S.Source.left in
    let l0 = left c.args.source.now in
    let l1 = left c.read.new.source in
    let w0 = g.K.Sink.written c.args.sink.now in
    let w1 = g.K.Sink.written c.name_bad_line.new.sink in
    record {
      partly = λ e. elim e [ inl source ↦ other 11 4 refl source | inr long ↦ other 11 9 refl long ];
      broken = λ e. other 11 5 refl e;
      not_founded = λ e. known-map l0 l1 _ (λ x z. NamedBad x w0 w1)
          (λ x y bad. record { number = c.in-Err-Bad.line; bad = subst (λ (fault : FoundingFault). Reads x c.read.new.lines y (Err fault)) c.in-Err-Bad.field-0-is (bad x (c.requires.fresh x)); wrote = c.in_ok-name_bad_line-in-Err-Bad.ensures.named }) c.in-Err-Bad.ensures.reads;
    }

pub returns-in-Err-ReadFault-clause-lacks : goal.returns-in-Err-ReadFault-clause-lacks
returns-in-Err-ReadFault-clause-lacks g c =
    let left = g.S.Source.left in
    record {
      partly = λ e. known-map (left c.args.source.now) (left c.read.new.source) _ IsUnfinished
          (λ x y reads. subst (λ (fault : FoundingFault). Reads x c.read.new.lines y (Err fault)) c.in-Err-ReadFault.field-0-is (reads x (c.requires.fresh x))) c.in-Err-ReadFault.ensures.reads;
      broken = λ e. other 4 5 refl e;
      not_founded = λ e. other 4 11 refl e;
    }

pub returns-in-Err-Spent-clause-lacks : goal.returns-in-Err-Spent-clause-lacks
returns-in-Err-Spent-clause-lacks g c =
    let left = g.S.Source.left in
    record {
      partly = λ e. known-map (left c.args.source.now) (left c.read.new.source) _ IsUnfinished
          (λ x y reads. subst (λ (fault : FoundingFault). Reads x c.read.new.lines y (Err fault)) c.in-Err-Spent.field-0-is (reads x (c.requires.fresh x))) c.in-Err-Spent.ensures.reads;
      broken = λ e. other 9 5 refl e;
      not_founded = λ e. other 9 11 refl e;
    }
