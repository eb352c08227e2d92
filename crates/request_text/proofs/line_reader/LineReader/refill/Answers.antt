use Rattle.std.proofs.Common.{ap, arith}
use Rattle.std.specs.Prelude.{length, length}
use Rattle.std.proofs.lemmas.List.{length-append}
use Rattle.request_text.proofs.LineKnowing.{known-consumed}
use Rattle.request_text.proofs.line_reader.LineReader.refill.Goals as goal

pub returns-in-Ok-clause-counts : goal.returns-in-Ok-clause-counts
returns-in-Ok-clause-counts g c =
    let b = c.in-Ok.ensures.bytes in
    known-consumed _ _ b.0 _ (λ x y e. let s = length-append b.0 y in let t = ap length e in omega (arith, s, t, b.1)) b.3
