-- The links so far, with those of the fleets that are left, are the links of all.
use Rattle.std.proofs.Common.{◌≡◌, ◌++◌, drop, map}
use Rattle.fleet_rec.specs.Fleet.{fleet_seen}
use Rattle.tick_model.specs.Dump.{link_lines, other_fleets}
use Rattle.lazy.proofs.dumping.push_other_links.Given as goal

abbrev pub invariant-fleets : goal.invariant-fleets
invariant-fleets l = l.text ++ link_lines (other_fleets l.player (map fleet_seen (drop l.fleet-index l.fleets))) ≡ l.initial.text ++ link_lines (other_fleets l.player (map fleet_seen l.fleets))
