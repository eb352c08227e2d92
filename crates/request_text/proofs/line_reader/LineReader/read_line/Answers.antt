use Rattle.std.proofs.Common.{◌≡◌, ◌+◌, ◌<◌, ◌≤◌, [], length, arith, ap, sym, ◌∙◌, inr}
use Rattle.std.proofs.lemmas.List.{get_or-take}
use Rattle.request_text.specs.LineReading.{Stays, Tells, kept, taken}
use Rattle.request_text.proofs.LineSeeing.{tells-later, unread-none, unread-same}
use Rattle.request_text.proofs.LineKnowing.{known-then, known-map, known-end}
use Rattle.request_text.proofs.line_reader.LineReader.read_line.Goals as goal

pub returns-in-Some-clause-tells : goal.returns-in-Some-clause-tells
returns-in-Some-clause-tells g c =
    let left = g.S.Source.left in
    let old = c.args.self.now in
    let now = c.pieces.self in
    let new = c.cut_line.new.self in
    known-map (left c.args.src.now) (left c.pieces.src) (λ x y. Stays old x now y) (λ x y. Tells old x new y c.cut_line.result) (λ x y stays. tells-later old now new c.cut_line.result x y y stays (c.cut_line.ensures.tells y)) c.pieces.invariant.stays

pub pieces-preserved : goal.pieces-preserved
pieces-preserved g c =
    let left = g.S.Source.left in
    let old = c.args.self.now in
    let now = c.pieces.self in
    let held = c.pass_long.new.self in
    let new = c.refill.new.self in
    let before = c.pieces.invariant in
    let long = c.pass_long.ensures in
    let more = c.in-More.ensures in
    let whole = ap length c.kept-clean.ensures in
    let all : length c.kept-clean.result.now ≤ length (kept new) = omega (arith, whole, more.within) in
    let now_src = c.pieces.src in
    let old_src = c.args.src.now in
    record {
      reads = more.came.2;
      within = all;
      clean = λ k h. let near : k < length (kept held) = omega (arith, whole, h) in rw (sym (get_or-take (length (kept held)) (kept new) k 0 near), more.front) (long.unbroken.apart k near);
      stays =
          known-then (left c.args.src.now) (left c.pieces.src) (left c.refill.new.src) (λ x y. Stays old x now y) (λ y z. Stays held y new z) (λ x z. Stays old x new z)
          (λ x y z first then text seen. then text (long.stays y text (first text seen))) before.stays more.stays;
      counts =
          known-then (left c.args.src.now) (left c.pieces.src) (left c.refill.new.src) (λ x y. taken now + length y ≡ taken old + length x) (λ y z. taken new + length z ≡ taken held + length y)
          (λ x z. taken new + length z ≡ taken old + length x) (λ x y z first then. omega (arith, first, then, long.taken)) before.counts more.counts;
      later = omega (arith, before.later, long.taken, more.grows);
      nearer = omega (arith, before.nearer, long.ahead, more.ahead);
      faults = more.came.1 ∙ before.faults;
      unread = inr (unread-none (now_src ≡ old_src) (kept now) (kept old) (rw c.kept.ensures at c.in_default.ensures) before.unread);
    }

pub returns-in-AtEnd-clause-tells : goal.returns-in-AtEnd-clause-tells
returns-in-AtEnd-clause-tells g c =
    let left = g.S.Source.left in
    let old = c.args.self.now in
    let now = c.pieces.self in
    let held = c.pass_long.new.self in
    let last = c.refill.new.self in
    let new = c.last_line.new.self in
    let long = c.pass_long.ensures in
    let end = c.in-AtEnd.ensures in
    let stays =
    known-then (left c.args.src.now) (left c.pieces.src) (left c.refill.new.src) (λ x y. Stays old x now y) (λ y z. Stays held y last z) (λ x z. Stays old x last z)
    (λ x y z first then text seen. then text (long.stays y text (first text seen))) c.pieces.invariant.stays end.stays in
    known-end (left c.args.src.now) (left c.refill.new.src) (λ x y. Stays old x last y) (λ x y. Tells old x new y c.last_line.result)
    (λ x first. tells-later old last new c.last_line.result x [] [] first c.last_line.ensures.tells) end.came.0 stays

pub returns-in-Some-clause-buffered :
    goal.returns-in-Some-clause-buffered
returns-in-Some-clause-buffered g c = unread-same (c.pieces.src ≡ c.args.src.now) (kept c.pieces.self ≡ kept c.args.self.now) (kept c.args.self.now) c.pieces.invariant.unread

pub returns-in-AtEnd-clause-buffered :
    goal.returns-in-AtEnd-clause-buffered
returns-in-AtEnd-clause-buffered g c = λ fed. absurd (fed (unread-none (c.pieces.src ≡ c.args.src.now) (kept c.pieces.self) (kept c.args.self.now) (rw c.kept.ensures at c.in_default.ensures) c.pieces.invariant.unread))

pub returns-in-Failing-clause-buffered :
    goal.returns-in-Failing-clause-buffered
returns-in-Failing-clause-buffered g c = λ fed. absurd (fed (unread-none (c.pieces.src ≡ c.args.src.now) (kept c.pieces.self) (kept c.args.self.now) (rw c.kept.ensures at c.in_default.ensures) c.pieces.invariant.unread))

pub returns-in-Full-clause-buffered :
    goal.returns-in-Full-clause-buffered
returns-in-Full-clause-buffered g c = λ fed. absurd (fed (unread-none (c.pieces.src ≡ c.args.src.now) (kept c.pieces.self) (kept c.args.self.now) (rw c.kept.ensures at c.in_default.ensures) c.pieces.invariant.unread))
