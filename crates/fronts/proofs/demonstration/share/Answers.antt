use Rattle.std.proofs.Common.{length, ap, arith}
use Rattle.fronts.proofs.Pairs.{two_passes}
use Rattle.fronts.proofs.demonstration.share.Goals as goal

pub returns-clause-entries : goal.returns-clause-entries
returns-clause-entries g c =
    let ended = c.in_ok-ended.ensures in
    let united = c.unite-count.ensures in
    let ran = c.side_by_side-here.ensures in
    let none = c.set_out-second.ensures.none in
    let all = two_passes c.args.players.0 c.args.players.1 g.O.Origin.start c.unite-count.new.first c.requires.start ended.calls united.next in
    omega (arith, ended.entries, united.count, all, ap length united.calls.0, ap length united.calls.1, ran.first.calls, ran.second.calls, ap length none.0, ap length none.1)
