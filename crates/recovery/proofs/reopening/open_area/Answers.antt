use Rattle.std.proofs.Common.{List, ◌∙◌, ◌+◌, ℕ, subst}
use Rattle.recovery.specs.Reopening.{IsGateAt}
use Rattle.recovery.proofs.Chains.{looks-then}
use Rattle.recovery.proofs.Openings.{end-at, there-is, unrestored-as}
use Rattle.recovery.proofs.reopening.open_area.Goals as goal

pub returns-in_err-base-clause-opens : goal.returns-in_err-base-clause-opens
returns-in_err-base-clause-opens g c told =
    let read = c.in_ok-bytes.ensures.bytes told in
    let content = g.D.Disk.story.seen c.args.disk.now in (
      read.0,
      λ is.
          let there = c.deref.ensures.value ∙ there-is content c.in_ok-bytes.bytes.items c.args.choice.head.size is.size_is read.1 in
          unrestored-as content c.args.choice.head c.args.choice.right c.in_err-base.field-0.0 c.from_residual-in_err-base.result (c.in_err-base.ensures.restores content is there) c.from_residual-in_err-base.ensures.1,
    )

pub returns-in_err-gate-clause-looks : goal.returns-in_err-gate-clause-looks
returns-in_err-gate-clause-looks g c = looks-then g.D.Disk.story c.args.disk.now c.read_base.new.disk c.read_gate.new.disk g.met.D.Disk.laws c.read_base.ensures.looks c.read_gate.ensures.looks

pub returns-clause-looks : goal.returns-clause-looks
returns-clause-looks g c = looks-then g.D.Disk.story c.args.disk.now c.read_base.new.disk c.read_gate.new.disk g.met.D.Disk.laws c.read_base.ensures.looks c.read_gate.ensures.looks

pub returns-clause-opens : goal.returns-clause-opens
returns-clause-opens g c told =
    let gate = c.in_ok-gate.ensures.gate told in
    let read = c.in_ok-bytes.ensures.bytes gate.0 in
    let looks = c.in_ok-bytes.ensures.looks gate.0 in
    let story = g.D.Disk.story in
    let content = story.seen c.args.disk.now in
    let head = c.args.choice.head in
    let end = 57 + head.size in (
      read.0,
      λ is.
          let there = c.deref.ensures.value ∙ there-is content c.in_ok-bytes.bytes.items head.size is.size_is read.1 in
          c.conclude.ensures.opens content (c.in_ok-base.ensures.restores content is there) (end-at content head is)
          (subst (λ (l : List ℕ). IsGateAt l end c.in_ok-gate.gate) looks.1.seen gate.1),
    )
