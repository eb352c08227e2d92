use Rattle.std.proofs.Common.{◌∙◌, ap, map, subst, sym}
use Rattle.fleet_rec.specs.Fleet.{fleet_seen}
use Rattle.fleet_rec.specs.Fleets.{AreOutbound}
use Rattle.fleet_rec.proofs.fleets.Fleets.land.Goals as goal

pub turn-requires : goal.turn-requires
turn-requires c =
    subst (AreOutbound c.args.number) (sym (ap (map fleet_seen) c.deref_mut.ensures.value ∙ c.self.view_is)) (c.requires c.in-Some.cargo c.in-Some.is)
