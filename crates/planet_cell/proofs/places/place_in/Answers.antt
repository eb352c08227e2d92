use Rattle.std.proofs.Common.{ap, arith, sym, ◌∙◌}
use Rattle.std.proofs.lemmas.List.{get_or_default}
use Rattle.catalog.specs.Kinds.{kind_number}
use Rattle.planet_cell.proofs.Counts.{first_place}
use Rattle.planet_cell.proofs.places.place_in.Goals as goal

pub returns-then-number : goal.returns-then-number
returns-then-number c =
    first_place c.args.kinds.now c.args.kind c.kinds.place (omega arith) c.kinds.invariant
    (λ below. ap kind_number (get_or_default c.args.kinds.now c.kinds.place c.args.kind _ below) ∙ sym c.number.ensures ∙ c.if-number.true ∙ c.number-in-kinds.ensures)
