use Rattle.std.proofs.Common.{refl, sym, ◌∙◌}
use Rattle.std.proofs.lemmas.Bool.{true≢false}
use Rattle.recovery.proofs.Gates.{read-open, read-short}
use Rattle.recovery.proofs.looking.front.Goals as goal
use Rattle.recovery.proofs.looking.front.Goals.{else-count-eq-LEAST-via-then-count-eq-LEAST+else-is_marked, else-count-eq-LEAST-via-else-count-eq-LEAST}

pub returns-clause-open : goal.returns-clause-open
returns-clause-open g c told =
    let count = c.in_ok-count.ensures.count told in
    let bytes = c.in_ok-count.ensures.bytes told in
    let seen = g.D.Disk.story.seen c.args.disk.now in (
      count.0,
      λ opens. elim c.else-count-eq-LEAST.branch [
        | else-count-eq-LEAST-via-then-count-eq-LEAST+else-is_marked w ↦
            let both = read-open seen c.read_at.new.into _ c.in_ok-count.count w.if-count-eq-LEAST.true refl count.1 bytes.1 in
            absurd (true≢false (sym (w.is_marked.ensures.1 (both.1 opens)) ∙ w.if-is_marked.false))
        | else-count-eq-LEAST-via-else-count-eq-LEAST w ↦ read-short seen c.in_ok-count.count w.if-count-eq-LEAST.false count.1 opens
      ],
    )
