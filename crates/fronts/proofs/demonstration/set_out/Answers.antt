use Rattle.std.proofs.Common.{List, ◌∷◌, sym, subst, map}
use Rattle.std.specs.Prelude.{Contains}
use Rattle.fronts.specs.declared.claim.Claim.{Claim}
use Rattle.fronts.specs.declared.claim.Claim.TheVariants.{Pen, Flush, Number, Cell}
use Rattle.fronts.specs.declared.view.View.{View}
use Rattle.fronts.proofs.Listed.{contains_head, contains_tail}
use Rattle.fronts.proofs.demonstration.set_out.Goals as goal

pub give-flush-requires-clause-has : goal.give-flush-requires-clause-has
give-flush-requires-clause-has g c =
    let more : List Claim = Number 1 ∷ map Cell g.O.Origin.start.cells in
    subst (λ (v : View). Contains v.claims Flush) (sym c.split-second.ensures.kept) (subst (λ (v : View). Contains v.claims Flush) (sym c.requires.first) (contains_tail Flush Pen (Flush ∷ more) (contains_head Flush more)))
