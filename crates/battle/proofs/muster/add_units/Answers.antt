use Rattle.std.proofs.Common.{◌≡◌, length, rules}
use Rattle.battle.proofs.Musters.{mustered_more}
use Rattle.battle.proofs.muster.add_units.Goals as goal

pub returns-clause-shown : goal.returns-clause-shown
returns-clause-shown c =
    let at : c.len.result ≡ length c.args.table.now.items = search rules in
    let many : c.len-2.result ≡ length c.args.units.now.items = search rules in
    let old : c.args.units.now.len ≡ length c.args.units.now.items = search rules in
    mustered_more c.args.table.now.items c.push.new.self.items c.args.units.now.items c.resize.new.self.items c.args.fighter c.new-unit.result c.args.count c.len-2.result c.args.units.now.len
    c.requires.mustered.sound (rw c.new-unit.ensures.strength at) c.new-unit.ensures.shown old many c.in_ok-push.ensures.items c.in_ok-resize.ensures.items
