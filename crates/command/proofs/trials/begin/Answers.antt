use Rattle.request_text.proofs.LineKnowing.{known-map}
use Rattle.command.specs.Beginning.{Begins}
use Rattle.command.proofs.FoundingTexts.{begins-read}
use Rattle.command.proofs.trials.begin.Goals as goal

pub returns-clause-begins : goal.returns-clause-begins
returns-clause-begins g c =
    let left = g.S.Source.left in
    let reader = c.read_founding.new.lines in
    let universe = c.in_ok-new.field-0 in
    known-map (left c.args.source.now) (left c.read_founding.new.source) _ (λ text more. Begins text reader more universe)
    (λ x y reads. begins-read x reader y c.in_ok-base.base universe reads c.in_ok-new.ensures) c.in_ok-base.ensures.reads
