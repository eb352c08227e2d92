use Rattle.std.proofs.Common.{◌∷◌, ◌++◌, ◌∙◌, arith}
use Rattle.base_bytes.specs.Spelling.{coord_bytes, stage_number}
use Rattle.catalog.specs.Missions.{mission_number}
use Rattle.records.proofs.Pieces.{open_7}
use Rattle.records.specs.Entries.{u8, u32, u64}
use Rattle.base_bytes.proofs.fleets.next_course.Goals as goal

pub returns : goal.returns
returns c = λ fleet more is.
    let text = is ∙ open_7 (u64 fleet.number) (u64 fleet.group) (u32 fleet.owner.k) (u8 (mission_number fleet.mission)) (u8 (stage_number fleet.outbound)) (coord_bytes fleet.origin) (coord_bytes fleet.target) more in
    let after_6 = coord_bytes fleet.target ++ more in
    let after_5 = coord_bytes fleet.origin ++ after_6 in
    let after_4 = stage_number fleet.outbound ∷ after_5 in
    let after_3 = mission_number fleet.mission ∷ after_4 in
    let after_2 = u32 fleet.owner.k ++ after_3 in
    let after_1 = u64 fleet.group ++ after_2 in
    let number = c.next_u64-number.ensures fleet.number after_1 (omega (arith, fleet.drawn)) text in
    let group = c.next_u64-group.ensures fleet.group after_2 (omega (arith, fleet.grouped)) number.1 in
    let owner = c.next_player-owner.ensures fleet.owner after_3 group.1 in
    let mission = c.next_u8.ensures (mission_number fleet.mission) after_4 owner.1 in
    let outbound = c.next_u8-2.ensures (stage_number fleet.outbound) after_5 mission.1 in
    let origin = c.next_coord-origin.ensures fleet.origin after_6 outbound.1 in
    let target = c.next_coord-target.ensures fleet.target more origin.1 in
    let the_mission = c.mission-mission.ensures fleet.mission mission.0 in
    let is_out = c.is_outbound-outbound.ensures fleet.outbound outbound.0 in
    (λ i. record { number = number.0 i; group = group.0 i; owner = owner.0 i; mission = the_mission i; outbound = is_out i; origin = origin.0 i; target = target.0 i }, target.1)
