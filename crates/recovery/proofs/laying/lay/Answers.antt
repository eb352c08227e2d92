use Rattle.std.proofs.Common.{◌∷◌}
use Rattle.recovery.proofs.Lays.{laid-ok, lays-filled, lays-opened, lays-shut}
use Rattle.recovery.proofs.laying.lay.Goals as goal

pub returns-clause-since : goal.returns-clause-since
returns-clause-since g c told =
    let story = g.D.Disk.story in
    let area = 1 ∷ c.args.behind.now in
    let opens = c.open_gate.ensures.since told in
    let fills = c.fill.ensures.since opens.0 in
    let shuts = c.shut.ensures.since fills.0 in
    let filled = c.in_ok-fill.ensures.filled opens.0 in (
      shuts.0,
      lays-opened story c.args.disk.now c.fill.new.disk c.open_gate.new.disk area
          (lays-filled story c.args.disk.now c.shut.new.disk c.fill.new.disk area (lays-shut story c.args.disk.now c.shut.new.disk area shuts.1) fills.1)
          (opens.1 c.args.behind.now filled.1),
    )

pub returns-clause-laid : goal.returns-clause-laid
returns-clause-laid g c told =
    let opened = c.open_gate.ensures.opened told in
    let filled = c.in_ok-fill.ensures.filled opened.0 in
    let shuts = c.shut.ensures.since filled.0 in
    (shuts.0, laid-ok g.D.Disk.story c.fill.new.disk c.open_gate.new.disk c.open_gate.result c.args.behind.now filled.1 opened.1)
