use Rattle.base_bytes.specs.Spelling.{base_spelling}
use Rattle.recovery.proofs.Lays.{rebases-of}
use Rattle.recovery.proofs.rebasing.rebase.Goals as goal

pub returns-in_err-lay-clause-since : goal.returns-in_err-lay-clause-since
returns-in_err-lay-clause-since g c told =
    let since = c.lay.ensures.since told in (
      since.0,
      rebases-of g.D.Disk.story c.args.into.now c.lay.new.disk c.args.generation (base_spelling c.args.base.now) c.in_ok-bytes.bytes c.as_slice.result.now c.in_ok-behind.behind c.as_slice-2.result.now c.in_ok-bytes.ensures
          c.as_slice.ensures
          c.as_slice-2.ensures
          c.in_ok-behind.ensures
          since.1,
    )

pub returns-clause-since : goal.returns-clause-since
returns-clause-since g c told =
    let since = c.lay.ensures.since told in (
      since.0,
      rebases-of g.D.Disk.story c.args.into.now c.lay.new.disk c.args.generation (base_spelling c.args.base.now) c.in_ok-bytes.bytes c.as_slice.result.now c.in_ok-behind.behind c.as_slice-2.result.now c.in_ok-bytes.ensures
          c.as_slice.ensures
          c.as_slice-2.ensures
          c.in_ok-behind.ensures
          since.1,
    )
