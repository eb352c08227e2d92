use Rattle.std.proofs.Common.{◌≡◌, ◌∷◌, ◌++◌, ◌∙◌, ap, arith}
use Rattle.std.specs.Prelude.{Some}
use Rattle.base_bytes.proofs.Pieces.{open_5}
use Rattle.base_bytes.proofs.Items.{research_same}
use Rattle.base_bytes.specs.Spelling.{coord_bytes}
use Rattle.catalog.proofs.Values.{technology_is}
use Rattle.catalog.specs.Kinds.{kind_number}
use Rattle.records.specs.Entries.{u8, u64}
use Rattle.base_bytes.proofs.queues.ResearchItemSpelled.next.Goals as goal

pub returns-in_err-at : goal.returns-in_err-at
returns-in_err-at c = λ item more fits is.
    let text = is ∙ open_5 (u64 item.number) (u8 (kind_number item.kind.kind)) (coord_bytes item.at) (u8 item.level) (u64 item.second) more in
    let after_4 = u64 item.second ++ more in
    let after_3 = item.level ∷ after_4 in
    let after_2 = coord_bytes item.at ++ after_3 in
    let after_1 = kind_number item.kind.kind ∷ after_2 in
    let number = c.next_u64-number.ensures item.number after_1 (fits) text in
    let kind = c.in_ok-kind.ensures item.kind after_2 number.1 in
    let at = c.in_err-at.ensures item.at after_3 kind.1 in
    absurd (cc at.0)

pub returns-then-second : goal.returns-then-second
returns-then-second c = λ item more fits is.
    let text = is ∙ open_5 (u64 item.number) (u8 (kind_number item.kind.kind)) (coord_bytes item.at) (u8 item.level) (u64 item.second) more in
    let after_4 = u64 item.second ++ more in
    let after_3 = item.level ∷ after_4 in
    let after_2 = coord_bytes item.at ++ after_3 in
    let after_1 = kind_number item.kind.kind ∷ after_2 in
    let number = c.next_u64-number.ensures item.number after_1 (fits) text in
    let kind = c.in_ok-kind.ensures item.kind after_2 number.1 in
    let at = c.in_ok-at.ensures item.at after_3 kind.1 in
    let level = c.next_u8-level.ensures item.level after_4 at.1 in
    let second = c.next_u64-second.ensures item.second more (omega (arith, item.in_time)) level.1 in
    absurd (omega (arith, second.0, item.in_time))

pub returns : goal.returns
returns c = λ item more fits is.
    let text = is ∙ open_5 (u64 item.number) (u8 (kind_number item.kind.kind)) (coord_bytes item.at) (u8 item.level) (u64 item.second) more in
    let after_4 = u64 item.second ++ more in
    let after_3 = item.level ∷ after_4 in
    let after_2 = coord_bytes item.at ++ after_3 in
    let after_1 = kind_number item.kind.kind ∷ after_2 in
    let number = c.next_u64-number.ensures item.number after_1 (fits) text in
    let kind = c.in_ok-kind.ensures item.kind after_2 number.1 in
    let at = c.in_ok-at.ensures item.at after_3 kind.1 in
    let level = c.next_u8-level.ensures item.level after_4 at.1 in
    let second = c.next_u64-second.ensures item.second more (omega (arith, item.in_time)) level.1 in
    let the_at : c.in_ok-at.at ≡ item.at = cc at.0 in
    (ap Some (research_same _ item number.0 (technology_is c.in_ok-kind.kind item.kind kind.0) the_at level.0 second.0), second.1)
