use Rattle.std.proofs.Common.{◌∷◌, ◌++◌, ◌∙◌}
use Rattle.records.specs.Entries.{u8, u32, u64, place_bytes}
use Rattle.records.proofs.Pieces.{open_7}
use Rattle.records.proofs.readers.next_order.Goals as goal

pub returns : goal.returns
returns c = λ order more fits is.
    let text = is ∙ open_7 (place_bytes order.from) (place_bytes order.to) (u8 order.kind) (u8 order.mission) (u8 order.setting) (u32 order.count) (u64 order.fleet) more in
    let after_6 = u64 order.fleet ++ more in
    let after_5 = u32 order.count ++ after_6 in
    let after_4 = order.setting ∷ after_5 in
    let after_3 = order.mission ∷ after_4 in
    let after_2 = order.kind ∷ after_3 in
    let after_1 = place_bytes order.to ++ after_2 in
    let from = c.next_place-from.ensures order.from after_1 fits.from text in
    let to = c.next_place-to.ensures order.to after_2 fits.to from.1 in
    let kind = c.next_u8-kind.ensures order.kind after_3 to.1 in
    let mission = c.next_u8-mission.ensures order.mission after_4 kind.1 in
    let setting = c.next_u8-setting.ensures order.setting after_5 mission.1 in
    let count = c.next_u32-count.ensures order.count after_6 fits.count setting.1 in
    let fleet = c.next_u64-fleet.ensures order.fleet more fits.fleet count.1 in
    (λ i. record { from = from.0 i; to = to.0 i; kind = kind.0 i; mission = mission.0 i; setting = setting.0 i; count = count.0 i; fleet = fleet.0 i }, fleet.1)
