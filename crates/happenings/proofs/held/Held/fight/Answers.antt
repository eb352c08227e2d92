use Rattle.fleet_rec.specs.Fleet.{fleet_seen}
use Rattle.happenings.proofs.Battled.{fight-after}
use Rattle.happenings.proofs.held.Held.fight.Goals as goal

pub returns-clause-fights : goal.returns-clause-fights
returns-clause-fights c =
    fight-after c.args.rules.now c.args.self.now (fleet_seen c.args.one.now) c.in_ok-battle.battle c.in_ok-battle.ensures c.in_ok-cells.cells c.put_all.new.self c.in_ok-cells.ensures.fought c.put_all.ensures.merges c.requires.fight.within
