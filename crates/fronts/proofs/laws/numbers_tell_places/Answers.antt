use Rattle.fronts.specs.History.{entries_of}
use Rattle.fronts.proofs.Standing.{numbers_from}
use Rattle.fronts.proofs.laws.numbers_tell_places.Goals as goal

pub returns : goal.returns
returns g c history is k other less =
    numbers_from g.O.Origin.start.number g.O.Origin.start.moment (entries_of history) is.bounded.legal k other less
