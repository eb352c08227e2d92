use Rattle.std.proofs.Common.{◌++◌, ◌∙◌}
use Rattle.base_bytes.proofs.Loads.{load-fits}
use Rattle.base_bytes.specs.Spelling.{flight_bytes, load_of, timing_bytes}
use Rattle.fleet_rec.specs.Fleet.{fleet_seen}
use Rattle.records.proofs.Pieces.{open_3}
use Rattle.records.specs.Entries.{load_bytes}
use Rattle.base_bytes.proofs.fleets.next_fleet.Goals as goal

pub returns-clause-fleet : goal.returns-clause-fleet
returns-clause-fleet c = λ fleet more rise fits is.
    let load_is = load_bytes (load_of (fleet_seen fleet)) in
    let text = is ∙ open_3 (flight_bytes (fleet_seen fleet)) (timing_bytes (fleet_seen fleet)) load_is more in
    let after_2 = load_is ++ more in
    let after_1 = timing_bytes (fleet_seen fleet) ++ after_2 in
    let course = c.next_course-course.ensures fleet after_1 text in
    let timing = c.next_timing-timing.ensures fleet after_2 course.1 in
    let load = c.next_load-load.ensures (load_of (fleet_seen fleet)) more (load-fits fleet) timing.1 in
    (c.fleet_of.ensures.fleet fleet rise fits course.0 timing.0 load.0, load.1)
