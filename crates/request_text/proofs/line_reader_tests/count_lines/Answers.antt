use Rattle.std.proofs.Common.{◌≡◌, ℕ, ◌+◌, List, ap, ◌∙◌, sym, arith, length}
use Rattle.std.specs.Prelude.{[], ◌++◌}
use Rattle.base_text.specs.Parts.{Lacks}
use Rattle.std.specs.Str.Lines.{lines}
use Rattle.request_text.specs.LineReading.{Sees}
use Rattle.request_text.proofs.LineHearing.{Heard, Pends, Reached, heard-all, pends, reached-line, reached-start}
use Rattle.request_text.proofs.LineKnowing.{known-same, known-then}
use Rattle.request_text.proofs.line_reader_tests.count_lines.Goals as goal

-- the whole lines of a text that was not heard to its end
broken : (text left : List ℕ) (count : ℕ) (rest : List ℕ) (done : List (List ℕ)) → Heard text done rest → Pends rest left → length done ≡ count
    → (said pending : List ℕ) × (text ≡ said ++ (pending ++ left)) × Lacks 10 pending × (count ≡ length (lines said))
broken text left count rest done heard pends counted =
    (heard.said, pends.pending, heard.parts ∙ ap (λ r. heard.said ++ r) pends.parts, pends.unbroken, sym (ap length heard.lines_said ∙ counted))

pub lines-init : goal.lines-init
lines-init g c = record {
  few = omega arith;
  reached = known-same (g.S.Source.left c.args.src.now) _ (λ x text seen. reached-start c.args.reader.now x text seen);
}

pub lines-preserved-in-Text : goal.lines-preserved-in-Text
lines-preserved-in-Text g c =
    let left = g.S.Source.left in
    let old = c.args.reader.now in
    let now = c.lines.reader in
    let new = c.next.new.self in
    let before = c.lines.invariant in
    let next = c.in-Text.ensures in
    record {
      few = omega (arith, before.few, next.nears);
      reached =
          known-then (left c.args.src.now) (left c.lines.src) (left c.next.new.src) _ _ (λ x z. (text : List ℕ) → Sees old x text → Reached new z text (c.lines.count + 1))
          (λ x y z first then text seen. let r = first text seen in reached-line now new y z text _ c.lines.count r (then r.rest r.sees)) before.reached next.tells;
    }

pub lines-preserved : goal.lines-preserved
lines-preserved g c =
    let left = g.S.Source.left in
    let old = c.args.reader.now in
    let now = c.lines.reader in
    let new = c.next.new.self in
    let before = c.lines.invariant in
    let next = c.in-Long.ensures in
    record {
      few = omega (arith, before.few, next.nears);
      reached =
          known-then (left c.args.src.now) (left c.lines.src) (left c.next.new.src) _ _ (λ x z. (text : List ℕ) → Sees old x text → Reached new z text (c.lines.count + 1))
          (λ x y z first then text seen. let r = first text seen in reached-line now new y z text _ c.lines.count r (then r.rest r.sees).2) before.reached next.tells;
    }

pub returns-in-End : goal.returns-in-End
returns-in-End g c =
    let left = g.S.Source.left in
    let old = c.args.reader.now in
    known-then (left c.args.src.now) (left c.lines.src) (left c.next.new.src) _ _ (λ x z. (text : List ℕ) → Sees old x text → (z ≡ []) × (c.lines.count ≡ length (lines text)))
    (λ x y z first then text seen. let r = first text seen in let end = then r.rest r.sees in (end.1, sym (ap length (heard-all text r.rest r.done r.heard end.0) ∙ r.counted))) c.lines.invariant.reached c.in-End.ensures.tells

pub returns-in-Fault : goal.returns-in-Fault
returns-in-Fault g c =
    let left = g.S.Source.left in
    let old = c.args.reader.now in
    let new = c.next.new.self in
    known-then (left c.args.src.now) (left c.lines.src) (left c.next.new.src) _ _
    (λ x z. (text : List ℕ) → Sees old x text → (said pending : List ℕ) × (text ≡ said ++ (pending ++ z)) × Lacks 10 pending × (c.lines.count ≡ length (lines said)))
    (λ x y z first then text seen. let r = first text seen in let p = pends new z r.rest (then r.rest r.sees) c.in-Fault.ensures.leaves.2 in broken text z c.lines.count r.rest r.done r.heard p r.counted) c.lines.invariant.reached c.in-Fault.ensures.tells

pub returns-in-Spent : goal.returns-in-Spent
returns-in-Spent g c =
    let left = g.S.Source.left in
    let old = c.args.reader.now in
    let new = c.next.new.self in
    known-then (left c.args.src.now) (left c.lines.src) (left c.next.new.src) _ _
    (λ x z. (text : List ℕ) → Sees old x text → (said pending : List ℕ) × (text ≡ said ++ (pending ++ z)) × Lacks 10 pending × (c.lines.count ≡ length (lines said)))
    (λ x y z first then text seen. let r = first text seen in let p = pends new z r.rest (then r.rest r.sees) c.in-Spent.ensures.leaves.3 in broken text z c.lines.count r.rest r.done r.heard p r.counted) c.lines.invariant.reached c.in-Spent.ensures.tells
