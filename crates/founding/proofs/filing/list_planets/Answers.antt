use Rattle.std.proofs.Common.{◌∙◌, ◌++◌, ap, map, sym}
use Rattle.std.proofs.lemmas.List.{append-nil}
use Rattle.founding.specs.Filing.{facts_of, facts_sketched}
use Rattle.founding.proofs.Ending.{listed-planets-rise}
use Rattle.founding.proofs.filing.list_planets.Goals as goal

pub returns-clause-rise : goal.returns-clause-rise
returns-clause-rise c =
    let facts = map facts_of c.planets.list.items in
    let whole = sym (append-nil facts) ∙ ap (λ rest. facts ++ map facts_sketched rest) (sym c.in-None.ensures.steps.0) ∙ c.planets.invariant.listed in
    listed-planets-rise c.planets.list.items c.args.planets.now.entries c.requires.placed c.values-sketch-items.ensures.ordered whole
