use Rattle.std.proofs.Common.{[], sym, subst}
use Rattle.base_bytes.specs.Base.{universe_of}
use Rattle.lazy.specs.Keeping.{Keeps}
use Rattle.lazy.proofs.tests.without_memory_the_cells_stay.Goals as goal

pub ask-requires-in-Err-clause-keeps : goal.ask-requires-in-Err-clause-keeps
ask-requires-in-Err-clause-keeps g c =
    let base = universe_of c.in_ok-base.field-0 in
    (base, [], subst (Keeps base []) (sym c.in-Err.ensures.err) c.in_ok-universe.ensures)
