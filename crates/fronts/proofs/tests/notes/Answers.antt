use Rattle.std.proofs.Common.{List, ◌∷◌, sym, subst, map}
use Rattle.std.specs.Prelude.{Contains}
use Rattle.fronts.specs.declared.claim.Claim.{Claim}
use Rattle.fronts.specs.declared.claim.Claim.TheVariants.{Pen, Flush, Number, Cell}
use Rattle.fronts.specs.declared.view.View.{View}
use Rattle.fronts.proofs.Listed.{contains_head, contains_tail}
use Rattle.fronts.proofs.tests.notes.Goals as goal

pub mark-requires : goal.mark-requires
mark-requires g c =
    let more : List Claim = Number 1 ∷ map Cell g.O.Origin.start.cells in
    record { right = subst (λ (v : View). Contains v.claims Flush) (sym c.named-fronts.ensures) (contains_tail Flush Pen (Flush ∷ more) (contains_head Flush more)) }
