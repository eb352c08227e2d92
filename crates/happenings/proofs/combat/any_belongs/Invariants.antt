use Rattle.std.proofs.Common.{◌≡◌, drop, map}
use Rattle.std.specs.List.{list_any}
use Rattle.fleet_rec.specs.Fleet.{fleet_seen}
use Rattle.tick_model.specs.Views.{belongs}
use Rattle.happenings.proofs.combat.any_belongs.Given as goal

abbrev pub invariant-fleets : goal.invariant-fleets
invariant-fleets l = list_any (belongs l.cell) (map fleet_seen l.fleets) ≡ list_any (belongs l.cell) (map fleet_seen (drop l.fleet-index l.fleets))
