use Rattle.std.proofs.Common.{[], ◌∷◌, ◌++◌, ◌∙◌, append_assoc}
use Rattle.records.specs.Entries.{u16}
use Rattle.records.proofs.readers.next_place.Goals as goal

pub returns : goal.returns
returns c = λ at more fits is.
    let one = c.next_u8-g.ensures at.g ((u16 at.s ++ (at.p ∷ [])) ++ more) is in
    let two = c.next_u16-s.ensures at.s (at.p ∷ more) fits (one.1 ∙ append_assoc (u16 at.s) (at.p ∷ []) more) in
    let three = c.next_u8-p.ensures at.p more two.1 in
    (λ i. record { g = one.0 i; s = two.0 i; p = three.0 i }, three.1)
