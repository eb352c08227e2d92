use Rattle.std.proofs.Common.{◌∷◌, ◌++◌, ◌∙◌, ap, arith}
use Rattle.std.specs.Prelude.{Some}
use Rattle.records.proofs.Pieces.{open_4}
use Rattle.base_bytes.proofs.Items.{building_same}
use Rattle.catalog.proofs.Values.{building_is}
use Rattle.catalog.specs.Kinds.{kind_number}
use Rattle.records.specs.Entries.{u8, u64}
use Rattle.base_bytes.proofs.queues.BuildingItemSpelled.next.Goals as goal

pub returns-then-second : goal.returns-then-second
returns-then-second c = λ item more fits is.
    let text = is ∙ open_4 (u64 item.number) (u8 (kind_number item.kind.kind)) (u8 item.level) (u64 item.second) more in
    let after_3 = u64 item.second ++ more in
    let after_2 = item.level ∷ after_3 in
    let after_1 = kind_number item.kind.kind ∷ after_2 in
    let number = c.next_u64-number.ensures item.number after_1 (fits) text in
    let kind = c.in_ok-kind.ensures item.kind after_2 number.1 in
    let level = c.next_u8-level.ensures item.level after_3 kind.1 in
    let second = c.next_u64-second.ensures item.second more (omega (arith, item.in_time)) level.1 in
    absurd (omega (arith, second.0, item.in_time))

pub returns : goal.returns
returns c = λ item more fits is.
    let text = is ∙ open_4 (u64 item.number) (u8 (kind_number item.kind.kind)) (u8 item.level) (u64 item.second) more in
    let after_3 = u64 item.second ++ more in
    let after_2 = item.level ∷ after_3 in
    let after_1 = kind_number item.kind.kind ∷ after_2 in
    let number = c.next_u64-number.ensures item.number after_1 (fits) text in
    let kind = c.in_ok-kind.ensures item.kind after_2 number.1 in
    let level = c.next_u8-level.ensures item.level after_3 kind.1 in
    let second = c.next_u64-second.ensures item.second more (omega (arith, item.in_time)) level.1 in
    (ap Some (building_same _ item number.0 (building_is c.in_ok-kind.kind item.kind kind.0) level.0 second.0), second.1)
