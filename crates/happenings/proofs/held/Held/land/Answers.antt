use Rattle.std.specs.Prelude.{option_map}
use Rattle.fleet_rec.specs.Fleet.{cargo_seen, fleet_seen}
use Rattle.happenings.proofs.Landed.{landing_after, place_held, room_kept, seen_out}
use Rattle.happenings.proofs.Left.{can_leave}
use Rattle.happenings.proofs.held.Held.land.Goals as goal

pub leave_all-requires-clause-leave : goal.leave_all-requires-clause-leave
leave_all-requires-clause-leave c =
    can_leave c.args.self.now (fleet_seen c.args.fleet.now) (option_map cargo_seen c.cargo_back-back.result) c.requires.land (seen_out c.cargo_back-back.result _ c.cargo_back-back.ensures.out)

pub unload-requires-clause-room : goal.unload-requires-clause-room
unload-requires-clause-room c =
    room_kept c.args.rules.now (fleet_seen c.args.fleet.now) (option_map cargo_seen c.cargo_back-back.result) c.args.self.now c.leave_all.new.self c.leave_all.ensures.leaves c.requires.land.room

pub returns-clause-lands : goal.returns-clause-lands
returns-clause-lands c =
    let fleet = fleet_seen c.args.fleet.now in
    let place = place_held c.args.self.now fleet c.requires.land.owed in
    landing_after c.args.rules.now c.args.self.now c.leave_all.new.self c.unload.new.self fleet (option_map cargo_seen c.cargo_back-back.result) place.cell place.found (c.cargo_back-back.ensures.back place.cell place.found)
    c.leave_all.ensures.leaves c.unload.ensures.unloads
