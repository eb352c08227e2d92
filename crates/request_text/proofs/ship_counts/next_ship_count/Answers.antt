use Rattle.std.proofs.Common.{◌≡◌, rules}
use Rattle.catalog.specs.Kinds.{kind_word}
use Rattle.request_text.proofs.Counting.{after_part, bad_number, good_number, no_sign, other_word}
use Rattle.request_text.proofs.Tails.{if_none}
use Rattle.request_text.proofs.ship_counts.next_ship_count.Goals as goal

pub returns-in_default-cut : goal.returns-in_default-cut
returns-in_default-cut c = no_sign c.args.kind c.args.parts.now c.in-Some.part.now c.in-Some.ensures.0 c.in-Some.ensures.1 c.in_default-cut.ensures.split

pub returns-then-ne : goal.returns-then-ne
returns-then-ne c =
    let apart : c.in-Some-cut.word.now ≡ kind_word c.args.kind → ⊥ = search rules in
    other_word c.args.kind c.args.parts.now c.in-Some.part.now c.in-Some-cut.word.now c.in-Some-cut.number.now c.in-Some.ensures.0 c.in-Some.ensures.1 c.in-Some-cut.ensures.split apart

pub returns-in_err-count : goal.returns-in_err-count
returns-in_err-count c =
    let named : c.in-Some-cut.word.now ≡ kind_word c.args.kind = search rules in
    if_none c.from_residual.result _ _ c.from_residual.ensures (bad_number c.args.kind c.args.parts.now c.in-Some.part.now c.in-Some-cut.word.now c.in-Some-cut.number.now c.in-Some.ensures.0 c.in-Some.ensures.1 c.in-Some-cut.ensures.split named (search rules))

pub returns : goal.returns
returns c =
    let named : c.in-Some-cut.word.now ≡ kind_word c.args.kind = search rules in
    let taken = after_part c.args.parts.now c.next.new.self c.in-Some.part.now c.in-Some.ensures.0 c.next.result c.in-Some.ensures.1 c.next.ensures in
    let count = c.in_ok-count.ensures in
    good_number c.args.kind c.args.parts.now c.in-Some.part.now c.in-Some-cut.word.now c.in-Some-cut.number.now c.next.new.self c.in_ok-count.count taken c.in-Some-cut.ensures.split named count.0 (search rules) count.2
