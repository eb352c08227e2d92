use Rattle.std.proofs.Common.{◌++◌, ◌∙◌, ap, arith, codes, List, ℕ}
use Rattle.base_bytes.proofs.Pieces.{mark_is}
use Rattle.records.proofs.Pieces.{open_6}
use Rattle.records.specs.Entries.{u32, u64}
use Rattle.base_bytes.proofs.head.next_head.Goals as goal

pub returns-then-not-is_head : goal.returns-then-not-is_head
returns-then-not-is_head c = λ base more seed is.
    let text = is ∙ open_6 (codes "OGBASE01") (u64 base.seed) (u32 base.speed) (u32 base.capacity) (u64 base.moment) (u64 base.number) more in
    let after_5 = u64 base.number ++ more in
    let after_4 = u64 base.moment ++ after_5 in
    let after_3 = u32 base.capacity ++ after_4 in
    let after_2 = u32 base.speed ++ after_3 in
    let after_1 = u64 base.seed ++ after_2 in
    let mark = c.next_u64-mark.ensures 5712607500680114225 after_1 (omega arith) (text ∙ ap (λ (l : List ℕ). l ++ after_1) mark_is) in
    let the_seed = c.next_u64-seed.ensures base.seed after_2 seed mark.1 in
    let speed = c.next_u32-speed.ensures base.speed after_3 (omega (arith, base.speed_to)) the_seed.1 in
    let capacity = c.next_u32-capacity.ensures base.capacity after_4 (omega (arith, base.capacity_to)) speed.1 in
    let moment = c.next_u64-moment.ensures base.moment after_5 (omega (arith, base.in_time)) capacity.1 in
    let number = c.next_u64-number.ensures base.number more (omega (arith, base.number_to)) moment.1 in
    absurd (cc (c.if-not-is_head.ensures.1 (mark.0, omega (arith, speed.0, base.speed_from), omega (arith, speed.0, base.speed_to), omega (arith, capacity.0, base.capacity_from), omega (arith, capacity.0, base.capacity_to), omega (arith, moment.0, base.in_time), omega (arith, number.0, base.number_to))))

pub returns : goal.returns
returns c = λ base more seed is.
    let text = is ∙ open_6 (codes "OGBASE01") (u64 base.seed) (u32 base.speed) (u32 base.capacity) (u64 base.moment) (u64 base.number) more in
    let after_5 = u64 base.number ++ more in
    let after_4 = u64 base.moment ++ after_5 in
    let after_3 = u32 base.capacity ++ after_4 in
    let after_2 = u32 base.speed ++ after_3 in
    let after_1 = u64 base.seed ++ after_2 in
    let mark = c.next_u64-mark.ensures 5712607500680114225 after_1 (omega arith) (text ∙ ap (λ (l : List ℕ). l ++ after_1) mark_is) in
    let the_seed = c.next_u64-seed.ensures base.seed after_2 seed mark.1 in
    let speed = c.next_u32-speed.ensures base.speed after_3 (omega (arith, base.speed_to)) the_seed.1 in
    let capacity = c.next_u32-capacity.ensures base.capacity after_4 (omega (arith, base.capacity_to)) speed.1 in
    let moment = c.next_u64-moment.ensures base.moment after_5 (omega (arith, base.in_time)) capacity.1 in
    let number = c.next_u64-number.ensures base.number more (omega (arith, base.number_to)) moment.1 in
    (record { seed = the_seed.0; speed = speed.0; capacity = capacity.0; moment = moment.0; number = number.0 }, number.1)
