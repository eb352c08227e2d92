use Rattle.std.proofs.Common.{◌≡◌, ℕ, List, Option, subst, rules}
use Rattle.std.specs.Prelude.{MatchResult}
use Rattle.request_text.specs.LineReading.{answered_line, Follows, Sees, Tells}
use Rattle.request_text.specs.declared.line_reader.Line.TheVariants.{End, Long}
use Rattle.request_text.proofs.LineKnowing.{known-map}
use Rattle.founding.specs.Drafts.{Drafted}
use Rattle.founding.specs.Reading.{fault_of, Stops}
use Rattle.founding.specs.declared.fault.FoundingFault.TheVariants.{Bad}
use Rattle.founding.proofs.Hearing.{end-stops, fault-stops, long-stops, only_fault}
use Rattle.founding.proofs.read_text.next_text.Goals as goal

pub returns-in_err-told-clause-tells : goal.returns-in_err-told-clause-tells
returns-in_err-told-clause-tells g c =
    let left = g.S.Source.left in
    let old = c.args.lines.now in
    let new = c.next.new.self in
    let number = c.args.number in
    let stop = c.in_err-told.field-0.0 in
    known-map (left c.args.source.now) (left c.next.new.src) _
    (λ x y. (text : List ℕ) → Sees old x text → MatchResult c.from_residual.result (λ done. Follows new y text (answered_line new)) (λ fault. (said : Option Drafted) → Stops said number text new y fault))
    (λ x y tells text seen. only_fault c.from_residual.result (fault_of stop) (λ done. Follows new y text (answered_line new)) (λ fault. (said : Option Drafted) → Stops said number text new y fault) c.from_residual.ensures.1
    (λ said. fault-stops said number old new x y text c.next.result stop c.in_err-told.ensures tells c.next.ensures.leaves seen))
    c.next.ensures.tells

pub returns-in-Some-Long-clause-tells : goal.returns-in-Some-Long-clause-tells
returns-in-Some-Long-clause-tells g c =
    let left = g.S.Source.left in
    let old = c.args.lines.now in
    let new = c.next.new.self in
    let number = c.args.number in
    let is : c.next.result ≡ Long = search rules in
    known-map (left c.args.source.now) (left c.next.new.src) _ (λ x y. (text : List ℕ) → Sees old x text → (said : Option Drafted) → Stops said number text new y (Bad number))
    (λ x y tells text seen said. let long : Tells old x new y Long = subst (Tells old x new y) is tells in let found = long text seen in long-stops said number new y text found.0 found.1 found.2) c.next.ensures.tells

pub returns-in-Some-Long-2-clause-tells : goal.returns-in-Some-Long-2-clause-tells
returns-in-Some-Long-2-clause-tells g c =
    let left = g.S.Source.left in
    let old = c.args.lines.now in
    let new = c.next.new.self in
    let number = c.args.number in
    let is : c.next.result ≡ End = search rules in
    known-map (left c.args.source.now) (left c.next.new.src) _ (λ x y. (text : List ℕ) → Sees old x text → (said : Option Drafted) → Stops said number text new y (Bad number))
    (λ x y tells text seen said. let ended : Tells old x new y End = subst (Tells old x new y) is tells in end-stops said number new y text (ended text seen).0) c.next.ensures.tells
