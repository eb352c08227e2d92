use Rattle.std.proofs.Common.{◌≡◌, ◌<◌, ◌^◌, ◌∙◌, ap, sym, arith}
use Rattle.std.specs.Fmt.{decimal}
use Rattle.std.proofs.lemmas.Fmt.{decimal_injective}
use Rattle.base_text.proofs.numbers.positive_number.Goals as goal

pub returns-in-0 : goal.returns-in-0
returns-in-0 c = λ n from to spells.
    let small : n < 2 ^ 64 = omega (arith, c.ranges.most.fits) in
    let zero : 0 < 2 ^ 64 = omega arith in
    let spelled = c.in_ok-n.ensures in
    let same : decimal 0 ≡ decimal n = ap decimal (sym c.in-0.is) ∙ sym spelled.1 ∙ spells in
    let none : 0 ≡ n = decimal_injective 0 n zero small same in
    omega (arith, none, from)
