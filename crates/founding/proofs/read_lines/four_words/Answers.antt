use Rattle.std.proofs.Common.{◌∷◌, ◌∙◌, ap, sym}
use Rattle.founding.proofs.Wording.{more_than_four}
use Rattle.founding.proofs.read_lines.four_words.Goals as goal

pub returns-in-Some : goal.returns-in-Some
returns-in-Some c = λ a b c' d spells.
    let p = c.in_ok-first.first.now in
    let q = c.in_ok-second.second.now in
    let r = c.in_ok-third.third.now in
    let whole = c.in_ok-first.ensures.split ∙ ap (λ rest. p ∷ rest) (c.in_ok-second.ensures.split ∙ ap (λ rest. q ∷ rest) (c.in_ok-third.ensures.split ∙ ap (λ rest. r ∷ rest) c.in-Some.ensures.split)) in
    more_than_four a b c' d p q r c.in-Some.field-0.0.now c.in-Some.field-0.1.now (sym whole ∙ spells)
