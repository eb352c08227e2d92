use Rattle.std.proofs.Common.{◌∷◌, ◌∙◌, ap, sym}
use Rattle.founding.proofs.Wording.{more_than_five}
use Rattle.founding.proofs.read_lines.five_words.Goals as goal

pub returns-in-Some : goal.returns-in-Some
returns-in-Some c = λ a b c' d e spells.
    let p = c.in_ok-first.first.now in
    let q = c.in_ok-second.second.now in
    let r = c.in_ok-third.third.now in
    let s = c.in_ok-fourth.fourth.now in
    let whole = c.in_ok-first.ensures.split ∙ ap (λ rest. p ∷ rest) (c.in_ok-second.ensures.split ∙ ap (λ rest. q ∷ rest) (c.in_ok-third.ensures.split ∙ ap (λ rest. r ∷ rest) (c.in_ok-fourth.ensures.split ∙ ap (λ rest. s ∷ rest) c.in-Some.ensures.split))) in
    more_than_five a b c' d e p q r s c.in-Some.field-0.0.now c.in-Some.field-0.1.now (sym whole ∙ spells)
