use Rattle.base_ids.proofs.Ordering.{cells_ordered, coords_ordered, events_ordered, keys_ordered, players_ordered}
use Rattle.base_ids.proofs.laws.orders.Goals as goal

pub returns-clause-players : goal.returns-clause-players
returns-clause-players c = players_ordered

pub returns-clause-coordinates : goal.returns-clause-coordinates
returns-clause-coordinates c = coords_ordered

pub returns-clause-cells : goal.returns-clause-cells
returns-clause-cells c = cells_ordered

pub returns-clause-events : goal.returns-clause-events
returns-clause-events c = events_ordered

pub returns-clause-keys : goal.returns-clause-keys
returns-clause-keys c = keys_ordered
