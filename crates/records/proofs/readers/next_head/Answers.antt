use Rattle.std.proofs.Common.{List, ℕ, ◌∷◌, ◌++◌, ◌∙◌, ap, codes, arith}
use Rattle.records.specs.Entries.{u8, u32, u64}
use Rattle.records.proofs.Pieces.{open_6, mark_is}
use Rattle.records.proofs.readers.next_head.Goals as goal

pub returns : goal.returns
returns c = λ head more fits is.
    let text = is ∙ open_6 (codes "OGE1") (u64 head.number) (u64 head.moment) (u64 head.reading) (u32 head.player) (u8 head.form) more in
    let after_5 = head.form ∷ more in
    let after_4 = u32 head.player ++ after_5 in
    let after_3 = u64 head.reading ++ after_4 in
    let after_2 = u64 head.moment ++ after_3 in
    let after_1 = u64 head.number ++ after_2 in
    let mark = c.next_u32-mark.ensures 1330070833 after_1 (omega arith) (text ∙ ap (λ (l : List ℕ). l ++ after_1) mark_is) in
    let number = c.next_u64-number.ensures head.number after_2 fits.number mark.1 in
    let moment = c.next_u64-moment.ensures head.moment after_3 fits.moment number.1 in
    let reading = c.next_u64-reading.ensures head.reading after_4 fits.reading moment.1 in
    let player = c.next_u32-player.ensures head.player after_5 fits.player reading.1 in
    let form = c.next_u8-form.ensures head.form more player.1 in
    (λ i. record { number = number.0 i; moment = moment.0 i; reading = reading.0 i; player = player.0 i; form = form.0 i }, form.1)
