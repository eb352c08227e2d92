use Rattle.base_bytes.proofs.Limited.{keeps-limits}
use Rattle.base_bytes.proofs.Seen.{account-shown, fleets-in-order, nothing-shown, planet-shown}
use Rattle.base_bytes.proofs.Bases.{sound-base}
use Rattle.base_bytes.proofs.Timed.{keeps-time}
use Rattle.base_bytes.proofs.laws.stands_for_a_universe.Goals as goal

pub returns-clause-base : goal.returns-clause-base
returns-clause-base c = sound-base

pub returns-clause-accounts : goal.returns-clause-accounts
returns-clause-accounts c = account-shown

pub returns-clause-planets : goal.returns-clause-planets
returns-clause-planets c = planet-shown

pub returns-clause-others : goal.returns-clause-others
returns-clause-others c = nothing-shown

pub returns-clause-fleets : goal.returns-clause-fleets
returns-clause-fleets c = fleets-in-order

pub returns-clause-limits : goal.returns-clause-limits
returns-clause-limits c = keeps-limits

pub returns-clause-time : goal.returns-clause-time
returns-clause-time c = keeps-time
