use Rattle.std.proofs.Common.{sym, ◌∙◌}
use Rattle.happenings.proofs.Acting.{acts_in}
use Rattle.happenings.proofs.Allowed.{can_finish, can_land, item_happens, landing_happens}
use Rattle.happenings.proofs.Attacked.{battle_happens, can_fight}
use Rattle.happenings.proofs.applying.apply.Goals as goal

pub finish-requires-clause-due : goal.finish-requires-clause-due
finish-requires-clause-due c = can_finish c.args.cells.now c.args.what c.in-Item.due c.in-Item.is c.requires.can

pub fight-requires-clause-fight : goal.fight-requires-clause-fight
fight-requires-clause-fight c = can_fight c.args.rules.now c.args.cells.now c.args.what c.in-Coming.fleet c.in-Coming.is (sym c.attacks.ensures ∙ c.if-attacks.true) c.requires.can

pub land-requires-clause-land : goal.land-requires-clause-land
land-requires-clause-land c = can_land c.args.cells.now c.args.what c.in-Coming.fleet c.in-Coming.is (sym c.attacks.ensures ∙ c.if-attacks.false) c.requires.can

pub returns-in-Item-clause-happens : goal.returns-in-Item-clause-happens
returns-in-Item-clause-happens c = item_happens c.args.rules.now c.args.what c.in-Item.due c.args.cells.now c.finish.new.self c.in-Item.is c.finish.ensures.finishes

pub returns-in-Item-clause-acts : goal.returns-in-Item-clause-acts
returns-in-Item-clause-acts c = acts_in c.args.rules.now c.args.what c.args.cells.now c.finish.new.self (returns-in-Item-clause-happens c)

pub returns-in_ok-fight-in-Coming-clause-happens : goal.returns-in_ok-fight-in-Coming-clause-happens
returns-in_ok-fight-in-Coming-clause-happens c =
    battle_happens c.args.rules.now c.args.what c.in-Coming.fleet c.args.cells.now c.fight.new.self c.in-Coming.is (sym c.attacks.ensures ∙ c.if-attacks.true) c.in_ok-fight-in-Coming.ensures.fights

pub returns-in_ok-fight-in-Coming-clause-acts : goal.returns-in_ok-fight-in-Coming-clause-acts
returns-in_ok-fight-in-Coming-clause-acts c = acts_in c.args.rules.now c.args.what c.args.cells.now c.fight.new.self (returns-in_ok-fight-in-Coming-clause-happens c)

pub returns-else-attacks-clause-happens : goal.returns-else-attacks-clause-happens
returns-else-attacks-clause-happens c =
    landing_happens c.args.rules.now c.args.what c.in-Coming.fleet c.args.cells.now c.land.new.self c.in-Coming.is (sym c.attacks.ensures ∙ c.if-attacks.false) c.land.ensures.lands

pub returns-else-attacks-clause-acts : goal.returns-else-attacks-clause-acts
returns-else-attacks-clause-acts c = acts_in c.args.rules.now c.args.what c.args.cells.now c.land.new.self (returns-else-attacks-clause-happens c)
