use Rattle.std.proofs.Common.{◌≡◌, ℕ, ◌+◌, ◌≤◌, List, [], Some, None, length, take, ap, refl, sym, subst, ◌∙◌, arith}
use Rattle.std.specs.Io.KnownBytes.{Appends}
use Rattle.std.specs.Str.Lines.{lines}
use Rattle.request_text.proofs.LineKnowing.{known-same, known-then}
use Rattle.request_text.specs.LineReading.{Leaves, Sees, Tells, advance, ahead, line_of, stop_of, taken}
use Rattle.request_text.specs.declared.line_reader.Line.{Line}
use Rattle.lazy.specs.Keeping.{Keeps}
use Rattle.tick_model.specs.Universe.{Universe}
use Rattle.command.specs.Answers.{AnsweredAll, AnsweredPart, BrokeOff, KeepsOne, answer_text}
use Rattle.command.proofs.Progress.{Come, Goes, come-broken, come-end, come-more, come-part, come-start, stop_lacks, stop_stays, told_line, told_nearer, told_unfailed}
use Rattle.command.proofs.answering.answer_lines.Goals as goal

pub script-init : goal.script-init
script-init g c =
    let left = g.S.Source.left c.args.source.now in
    let universe = c.args.universe.now in
    let told = g.C.Clock.told c.args.clock.now in
    let wrote = g.K.Sink.written c.args.sink.now in
    record {
      keeps = c.requires.keeps;
      room = c.requires.room;
      source_faults = refl;
      sink_faults = refl;
      counts = known-same left _ (λ x. refl);
      come = known-same left (λ x z. (text : List ℕ) (base : Universe) → Sees c.args.lines.now x text → Keeps base [] universe → Come c.args.lines.now z base universe text told told wrote wrote)
          (λ x text base sees keeps. come-start c.args.lines.now x base universe text told wrote sees keeps);
    }

pub returns-in_err-told-clause-partly :
    goal.returns-in_err-told-clause-partly
returns-in_err-told-clause-partly g c = λ is.
    let left = g.S.Source.left in
    let first = c.args.universe.now in
    let now = c.script.universe in
    let old = c.script.lines in
    let new = c.next.new.self in
    let t0 = g.C.Clock.told c.args.clock.now in
    let t1 = g.C.Clock.told c.script.clock in
    let w0 = g.K.Sink.written c.args.sink.now in
    let w1 = g.K.Sink.written c.script.sink in
    let stop = c.in_err-told.field-0.0 in
    let stopped : c.next.result ≡ stop_of stop = c.in_err-told.ensures in
    let free = stop_lacks stop new (subst (Leaves new) stopped c.next.ensures.leaves) in
    known-then (left c.args.source.now) (left c.script.source) (left c.next.new.src) _ _ (λ x z. (text : List ℕ) (base : Universe) → Sees c.args.lines.now x text → Keeps base [] first → KeepsOne base now (λ history. AnsweredPart base history text z t0 t1 w0 w1))
    (λ x y z come tells text base sees keeps.
    let before = come text base sees keeps in
    let stays = stop_stays stop old y new z (subst (Tells old y new z) stopped tells) in
    come-part old new y z base now text t0 t1 w0 w1 before (stays before.rest before.sees) free) c.script.invariant.come c.next.ensures.tells

pub returns-in_default-clause-done :
    goal.returns-in_default-clause-done
returns-in_default-clause-done g c =
    let left = g.S.Source.left in
    let first = c.args.universe.now in
    let now = c.script.universe in
    let old = c.script.lines in
    let new = c.next.new.self in
    let t0 = g.C.Clock.told c.args.clock.now in
    let t1 = g.C.Clock.told c.script.clock in
    let w0 = g.K.Sink.written c.args.sink.now in
    let w1 = g.K.Sink.written c.script.sink in
    let ended : c.next.result ≡ line_of None = c.in_ok-told.ensures ∙ ap line_of c.in_default.is in
    known-then (left c.args.source.now) (left c.script.source) (left c.next.new.src) _ _ (λ x z. (text : List ℕ) (base : Universe) → Sees c.args.lines.now x text → Keeps base [] first → (z ≡ []) × KeepsOne base now (λ history. AnsweredAll base history (lines text) t0 t1 w0 w1))
    (λ x y z come tells text base sees keeps.
    let before = come text base sees keeps in
    let end = subst (Tells old y new z) ended tells in
    come-end old y z base now text t0 t1 w0 w1 before (end before.rest before.sees)) c.script.invariant.come c.next.ensures.tells

pub script-preserved : goal.script-preserved
script-preserved g c =
    let left = g.S.Source.left in
    let first = c.args.universe.now in
    let now = c.script.universe in
    let next = c.answer_told-answer.new.universe in
    let old = c.script.lines in
    let new = c.next.new.self in
    let t0 = g.C.Clock.told c.args.clock.now in
    let t1 = g.C.Clock.told c.script.clock in
    let t2 = g.C.Clock.told c.answer_told-answer.new.clock in
    let w0 = g.K.Sink.written c.args.sink.now in
    let w1 = g.K.Sink.written c.script.sink in
    let w2 = g.K.Sink.written c.write_all.new.sink in
    let told = c.in-Some.told in
    let is : c.next.result ≡ line_of (Some told) = c.in_ok-told.ensures ∙ ap line_of c.in-Some.is in
    let leaves = subst (Leaves new) is c.next.ensures.leaves in
    let near = told_nearer told new (ahead old) (ahead new) leaves (subst (λ (line : Line). ahead new + advance line ≤ ahead old) is c.next.ensures.nears) in
    let room = c.script.invariant.room in
    let number = c.answer_told-answer.ensures.number in
    let nearer = near.0 in
    let answer = answer_text c.answer_told-answer.result c.answer_told-answer.new.reply in
    let wrote : Appends w1 w2 answer = subst (λ (bytes : List ℕ). Appends w1 w2 bytes) c.bytes_of.ensures c.in_ok-write_all.ensures.all in
    record {
      keeps = c.answer_told-answer.ensures.keeps;
      room = omega (arith, room, number, nearer);
      source_faults = c.next.ensures.stands (λ fault. told_unfailed told (sym is ∙ fault)) ∙ c.script.invariant.source_faults;
      sink_faults = c.in_ok-write_all.ensures.cause.kept ∙ c.script.invariant.sink_faults;
      counts =
          known-then (left c.args.source.now) (left c.script.source) (left c.next.new.src) _ _ (λ x z. taken new + length z ≡ taken c.args.lines.now + length x)
          (λ x y z first second. second ∙ first) c.script.invariant.counts c.next.ensures.counts;
      come =
          known-then (left c.args.source.now) (left c.script.source) (left c.next.new.src) _ _ (λ x z. (text : List ℕ) (base : Universe) → Sees c.args.lines.now x text → Keeps base [] first → Come new z base next text t0 t2 w0 w2)
          (λ x y z come tells text base sees keeps.
          let before = come text base sees keeps in
          let (line, follows, line_told) = told_line told old y new z (subst (Tells old y new z) is tells) leaves before.rest before.sees in
          let goes : Goes new z before.rest now next t1 t2 answer = record { line = line; follows = follows; turn = c.answer_told-answer.ensures.turns line line_told } in
          come-more old new y z base now next text answer t0 t1 t2 w0 w1 w2 before goes wrote) c.script.invariant.come c.next.ensures.tells;
    }

pub returns-in_err-write_all-clause-broke_off :
    goal.returns-in_err-write_all-clause-broke_off
returns-in_err-write_all-clause-broke_off g c = λ is_fault.
    let left = g.S.Source.left in
    let first = c.args.universe.now in
    let now = c.script.universe in
    let next = c.answer_told-answer.new.universe in
    let old = c.script.lines in
    let new = c.next.new.self in
    let t0 = g.C.Clock.told c.args.clock.now in
    let t1 = g.C.Clock.told c.script.clock in
    let t2 = g.C.Clock.told c.answer_told-answer.new.clock in
    let w0 = g.K.Sink.written c.args.sink.now in
    let w1 = g.K.Sink.written c.script.sink in
    let w2 = g.K.Sink.written c.write_all.new.sink in
    let told = c.in-Some.told in
    let is : c.next.result ≡ line_of (Some told) = c.in_ok-told.ensures ∙ ap line_of c.in-Some.is in
    let leaves = subst (Leaves new) is c.next.ensures.leaves in
    let answer = answer_text c.answer_told-answer.result c.answer_told-answer.new.reply in
    let front = c.in_err-write_all.ensures.front in
    let wrote : Appends w1 w2 (take front.0 answer) = subst (λ (bytes : List ℕ). Appends w1 w2 (take front.0 bytes)) c.bytes_of.ensures front.1 in
    known-then (left c.args.source.now) (left c.script.source) (left c.next.new.src) _ _ (λ x z. (text : List ℕ) (base : Universe) → Sees c.args.lines.now x text → Keeps base [] first → KeepsOne base next (λ history. BrokeOff base history (lines text) t0 t2 w0 w2))
    (λ x y z come tells text base sees keeps.
    let before = come text base sees keeps in
    let (line, follows, line_told) = told_line told old y new z (subst (Tells old y new z) is tells) leaves before.rest before.sees in
    let goes : Goes new z before.rest now next t1 t2 answer = record { line = line; follows = follows; turn = c.answer_told-answer.ensures.turns line line_told } in
    come-broken old new y z base now next text answer front.0 t0 t1 t2 w0 w1 w2 before goes wrote) c.script.invariant.come c.next.ensures.tells
