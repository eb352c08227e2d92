use Rattle.std.proofs.Common.{◌≡◌, ℕ, List, ◌+◌, ◌≤◌, ◌∙◌, length, ◌≢◌, Some, None, Ok, Err, refl, sym, subst, arith}
use Rattle.std.specs.Prelude.{codes}
use Rattle.request_text.specs.declared.line_reader.TheConstants.{LONGEST_LINE}
use Rattle.founding.specs.Steps.{Steps}
use Rattle.request_text.specs.LineReading.{taken, Follows, Sees}
use Rattle.request_text.proofs.LineKnowing.{known-map, known-then}
use Rattle.founding.specs.Drafts.{Adds}
use Rattle.founding.specs.DraftMaps.{draft_of}
use Rattle.founding.specs.Reading.{Reads, Stops}
use Rattle.founding.proofs.Hearing.{drawn-ended, drawn-line, drawn-start, drawn-stops, headless-stops, reads-fault, step-stops, Drawn}
use Rattle.founding.specs.declared.fault.FoundingFault.TheVariants.{Bad}
use Rattle.founding.proofs.read_text.read.Goals as goal

pub returns-in_err-next_text-clause-reads : goal.returns-in_err-next_text-clause-reads
unfolding drawn-start
returns-in_err-next_text-clause-reads g c =
    let left = g.S.Source.left in
    let old = c.args.lines.now in
    let new = c.next_text.new.lines in
    let fault = c.in_err-next_text.field-0.0 in
    known-map (left c.args.source.now) (left c.next_text.new.source) _ (λ x y. (text : List ℕ) → Sees old x text → Reads text new y c.from_residual.result)
    (λ x y stops text seen. reads-fault text new y c.from_residual.result fault c.from_residual.ensures.1 (drawn-stops None 1 old new x y text fault (drawn-start old x text seen) (stops text seen None)))
    c.in_err-next_text.ensures.tells

pub returns-in_err-heading-clause-reads : goal.returns-in_err-heading-clause-reads
unfolding drawn-start
returns-in_err-heading-clause-reads g c =
    let left = g.S.Source.left in
    let old = c.args.lines.now in
    let new = c.next_text.new.lines in
    let line = c.line.result.now in
    let other = rw c.in_err-heading.ensures.ok_part at c.read_heading.ensures in
    let fault = c.in_err-heading.field-0.0 in
    let value = rw c.in_err-heading.ensures.ok_part at c.in_err-heading.ensures.value in
    let is : fault ≡ Bad 1 = cc value in
    known-map (left c.args.source.now) (left c.next_text.new.source) _ (λ x y. (text : List ℕ) → Sees old x text → Reads text new y c.from_residual-in_err-heading.result)
    (λ x y follows text seen.
    reads-fault text new y c.from_residual-in_err-heading.result fault c.from_residual-in_err-heading.ensures.1
    (drawn-stops None 1 old new x y text fault (drawn-start old x text seen) (subst (Stops None 1 text new y) (sym is) (headless-stops new y text line other (subst (Follows new y text) (sym c.line.ensures) (follows text seen))))))
    c.in_ok-next_text.ensures.tells

pub lines-init : goal.lines-init
unfolding drawn-start
lines-init g c =
    let left = g.S.Source.left in
    let old = c.args.lines.now in
    let new = c.next_text.new.lines in
    let line = c.line.result.now in
    let step = c.in_ok-next_text.ensures in
    let spells = rw c.in_ok-heading.ensures.ok_part at c.read_heading.ensures in
    let short : length line ≤ LONGEST_LINE = subst (λ (l : List ℕ). length l ≤ LONGEST_LINE) (sym c.line.ensures) step.short in
    let says : Adds None line (draft_of c.new-draft.result) = record { value = c.in_ok-heading.heading; spelled = record { short = short; spells = spells }; makes = c.new-draft.ensures.begun } in
    record {
      kept = c.new-draft.ensures.kept;
      drawn =
          known-map (left c.args.source.now) (left c.next_text.new.source) _ (λ x y. (text : List ℕ) → Sees old x text → Drawn (Some (draft_of c.new-draft.result)) 2 new y text)
          (λ x y follows text seen.
          drawn-line None (draft_of c.new-draft.result) 1 old new x y text line (drawn-start old x text seen) says (subst (Follows new y text) (sym c.line.ensures) (follows text seen)))
          step.tells;
      counted = omega (arith, step.ahead);
      near = step.ahead;
      consumed = step.counts;
      faults = step.stands (λ is. cc is);
    }

pub returns-in_err-next_text-2-clause-reads : goal.returns-in_err-next_text-2-clause-reads
returns-in_err-next_text-2-clause-reads g c =
    let left = g.S.Source.left in
    let start = c.args.lines.now in
    let old = c.lines.lines in
    let new = c.next_text-in-lines.new.lines in
    let said = Some (draft_of c.lines.draft) in
    let fault = c.in_err-next_text-2.field-0.0 in
    known-then (left c.args.source.now) (left c.lines.source) (left c.next_text-in-lines.new.source) _ _ (λ x z. (text : List ℕ) → Sees start x text → Reads text new z c.from_residual-in_err-next_text-2.result)
    (λ x y z drawn stops text seen. let d = drawn text seen in reads-fault text new z c.from_residual-in_err-next_text-2.result fault c.from_residual-in_err-next_text-2.ensures.1 (drawn-stops said c.lines.number old new y z text fault d (stops d.rest d.sees said)))
    c.lines.invariant.drawn c.in_err-next_text-2.ensures.tells

pub returns-then-is_same-clause-reads : goal.returns-then-is_same-clause-reads
returns-then-is_same-clause-reads g c =
    let left = g.S.Source.left in
    let start = c.args.lines.now in
    let old = c.lines.lines in
    let new = c.next_text-in-lines.new.lines in
    let draft = draft_of c.lines.draft in
    let dot = sym c.line-in-lines.ensures ∙ c.if-is_same.ensures.0 refl in
    known-then (left c.args.source.now) (left c.lines.source) (left c.next_text-in-lines.new.source) _ _ (λ x z. (text : List ℕ) → Sees start x text → Reads text new z (Ok c.found.result))
    (λ x y z drawn follows text seen. let d = drawn text seen in drawn-ended draft c.found.result c.lines.number old new y z text d c.found.ensures.universe c.found.ensures.capacity (subst (Follows new z d.rest) dot (follows d.rest d.sees)))
    c.lines.invariant.drawn c.in_ok-next_text-2.ensures.tells

pub returns-in-Err-clause-reads : goal.returns-in-Err-clause-reads
returns-in-Err-clause-reads g c =
    let left = g.S.Source.left in
    let start = c.args.lines.now in
    let old = c.lines.lines in
    let new = c.next_text-in-lines.new.lines in
    let draft = c.lines.draft in
    let said = Some (draft_of draft) in
    let line = c.line-in-lines-2.result.now in
    let told_line = sym c.line-in-lines-2.ensures in
    let other : line ≢ codes "." = λ dot. absurd (cc (c.if-is_same.ensures.1 (c.line-in-lines.ensures ∙ told_line ∙ dot))) in
    let steps : Steps (λ before after. Adds (Some before) line after) draft c.add_line.new.self (Err c.in-Err.fault) = c.in-Err.ensures.steps in
    known-then (left c.args.source.now) (left c.lines.source) (left c.next_text-in-lines.new.source) _ _ (λ x z. (text : List ℕ) → Sees start x text → Reads text new z (Err c.at.result))
    (λ x y z drawn follows text seen.
    let d = drawn text seen in
    drawn-stops said c.lines.number old new y z text c.at.result d
    (subst (Stops said c.lines.number d.rest new z) (sym c.at.ensures) (step-stops draft c.add_line.new.self c.in-Err.fault c.lines.number new z d.rest line other steps (subst (Follows new z d.rest) told_line (follows d.rest d.sees)))))
    c.lines.invariant.drawn c.in_ok-next_text-2.ensures.tells

pub lines-preserved : goal.lines-preserved
lines-preserved g c =
    let left = g.S.Source.left in
    let start = c.args.lines.now in
    let old = c.lines.lines in
    let new = c.next_text-in-lines.new.lines in
    let before = c.lines.invariant in
    let step = c.in_ok-next_text-2.ensures in
    let line = c.line-in-lines-2.result.now in
    let adds : Adds (Some (draft_of c.lines.draft)) line (draft_of c.add_line.new.self) = c.in_default.ensures.steps in
    record {
      kept = c.add_line.ensures.kept;
      drawn =
          known-then (left c.args.source.now) (left c.lines.source) (left c.next_text-in-lines.new.source) _ _ (λ x z. (text : List ℕ) → Sees start x text → Drawn (Some (draft_of c.add_line.new.self)) (c.lines.number + 1) new z text)
          (λ x y z drawn follows text seen. let d = drawn text seen in drawn-line (Some (draft_of c.lines.draft)) (draft_of c.add_line.new.self) c.lines.number old new y z text line d adds (subst (Follows new z d.rest) (sym c.line-in-lines-2.ensures) (follows d.rest d.sees)))
          before.drawn step.tells;
      counted = omega (arith, before.counted, step.nears);
      near = omega (arith, before.near, step.ahead);
      consumed =
          known-then (left c.args.source.now) (left c.lines.source) (left c.next_text-in-lines.new.source) _ _ (λ x z. taken new + length z ≡ taken start + length x) (λ x y z first second. second ∙ first) before.consumed step.counts;
      faults = step.stands (λ is. cc is) ∙ before.faults;
    }
