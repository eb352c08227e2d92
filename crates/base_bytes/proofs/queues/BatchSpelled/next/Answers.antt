use Rattle.std.proofs.Common.{◌∷◌, ◌++◌, ◌∙◌, ap, arith}
use Rattle.std.specs.Prelude.{Some}
use Rattle.base_bytes.proofs.Pieces.{open_5}
use Rattle.base_bytes.proofs.Items.{batch_same}
use Rattle.catalog.proofs.Values.{unit_is}
use Rattle.catalog.specs.Kinds.{kind_number}
use Rattle.records.specs.Entries.{u8, u32, u64}
use Rattle.base_bytes.proofs.queues.BatchSpelled.next.Goals as goal

pub returns-then-not-is_batch : goal.returns-then-not-is_batch
returns-then-not-is_batch c = λ item more fits is.
    let text = is ∙ open_5 (u64 item.number) (u8 (kind_number item.kind.kind)) (u32 item.left) (u64 item.unit_seconds) (u64 item.second) more in
    let after_4 = u64 item.second ++ more in
    let after_3 = u64 item.unit_seconds ++ after_4 in
    let after_2 = u32 item.left ++ after_3 in
    let after_1 = kind_number item.kind.kind ∷ after_2 in
    let number = c.next_u64-number.ensures item.number after_1 (fits.0) text in
    let kind = c.in_ok-kind.ensures item.kind after_2 number.1 in
    let left = c.next_u32-left.ensures item.left after_3 (fits.1) kind.1 in
    let unit_seconds = c.next_u64-unit_seconds.ensures item.unit_seconds after_4 (omega (arith, item.short)) left.1 in
    let second = c.next_u64-second.ensures item.second more (omega (arith, item.in_time)) unit_seconds.1 in
    absurd (cc (c.if-not-is_batch.ensures.1 (omega (arith, left.0, item.some), omega (arith, unit_seconds.0, item.short), omega (arith, second.0, item.in_time))))

pub returns : goal.returns
returns c = λ item more fits is.
    let text = is ∙ open_5 (u64 item.number) (u8 (kind_number item.kind.kind)) (u32 item.left) (u64 item.unit_seconds) (u64 item.second) more in
    let after_4 = u64 item.second ++ more in
    let after_3 = u64 item.unit_seconds ++ after_4 in
    let after_2 = u32 item.left ++ after_3 in
    let after_1 = kind_number item.kind.kind ∷ after_2 in
    let number = c.next_u64-number.ensures item.number after_1 (fits.0) text in
    let kind = c.in_ok-kind.ensures item.kind after_2 number.1 in
    let left = c.next_u32-left.ensures item.left after_3 (fits.1) kind.1 in
    let unit_seconds = c.next_u64-unit_seconds.ensures item.unit_seconds after_4 (omega (arith, item.short)) left.1 in
    let second = c.next_u64-second.ensures item.second more (omega (arith, item.in_time)) unit_seconds.1 in
    (ap Some (batch_same _ item number.0 (unit_is c.in_ok-kind.kind item.kind kind.0) left.0 unit_seconds.0 second.0), second.1)
