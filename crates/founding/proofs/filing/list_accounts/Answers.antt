use Rattle.std.proofs.Common.{◌∙◌, ◌++◌, ap, map, sym}
use Rattle.std.proofs.lemmas.List.{append-nil}
use Rattle.founding.specs.Filing.{account_facts, account_sketched}
use Rattle.founding.proofs.Ending.{listed-accounts-rise, listed-players-rise}
use Rattle.founding.proofs.filing.list_accounts.Goals as goal

pub returns-clause-ordered : goal.returns-clause-ordered
returns-clause-ordered c = listed-players-rise c.args.players.entries c.into_iter-player-iterator.ensures.into_iter_gives.5

pub returns-clause-rise : goal.returns-clause-rise
returns-clause-rise c =
    let facts = map account_facts c.players.list.items in
    let whole = sym (append-nil facts) ∙ ap (λ rest. facts ++ map account_sketched rest) (sym c.in-None.ensures.steps.0) ∙ c.players.invariant.listed in
    listed-accounts-rise c.players.list.items c.args.players.entries c.into_iter-player-iterator.ensures.into_iter_gives.5 whole
