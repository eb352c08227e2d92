use Rattle.std.proofs.Common.{inr}
use Rattle.command.specs.Statuses.{status_of}
use Rattle.command.proofs.FirstAreas.{looked-found, looked-may}
use Rattle.command.proofs.finding.found.Goals as goal

pub returns-clause-found : goal.returns-clause-found
returns-clause-found g c =
    let left = g.S.Source.left in
    let written = g.K.Sink.written in
    looked-found g.D.Disk.story (status_of c.lay_first.result) c.args.left.now c.is_founded.new.left c.lay_first.new.left (left c.args.source.now) (left c.lay_first.new.source)
    (written c.args.sink.now)
    (written c.lay_first.new.sink)
    g.met.D.Disk.laws
    c.is_founded.ensures.left
    c.lay_first.ensures.found

pub returns-clause-torn : goal.returns-clause-torn
returns-clause-torn g c = λ is.
    let left = g.S.Source.left in
    let torn = c.lay_first.ensures.torn is in
    inr (
      torn.0,
      looked-may g.D.Disk.story torn.0 c.args.left.now c.is_founded.new.left c.lay_first.new.left (left c.args.source.now) (left c.lay_first.new.source) g.met.D.Disk.laws
          c.is_founded.ensures.left
          torn.1,
      λ told_left told_right opened.
          let answer = c.in-Ok.ensures.open (c.lay_first.ensures.told told_left) told_right in
          let is_true = answer.1 opened in
          absurd (cc (is_true, c.if-is_founded.false)),
    )
