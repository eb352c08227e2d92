use Rattle.base_ids.specs.declared.cell_id.CellId.TheVariants.{Account as AccountId, Planet as PlanetId}
use Rattle.happenings.specs.Held.{account_stand, planet_stand}
use Rattle.happenings.proofs.Fresh.{none_fresh, puts_fresh}
use Rattle.happenings.proofs.tests.cells.Goals as goal

pub returns-clause-fresh : goal.returns-clause-fresh
returns-clause-fresh c =
    let none = c.new-cells.result in
    let sender = c.in_ok-account.field-0 in
    let receiver = c.in_ok-account-2.field-0 in
    let origin = c.planet.result in
    let place = c.planet-2.result in
    let one = c.put_account.new.self in
    let two = c.put_account-2.new.self in
    let three = c.put_planet.new.self in
    puts_fresh three c.put_planet-2.new.self (PlanetId place.planet.at) (planet_stand place) c.in_ok-put_planet-2.ensures.puts (c.planet-2.ensures.second, c.planet-2.ensures.fleets)
    (puts_fresh two three (PlanetId origin.planet.at) (planet_stand origin) c.in_ok-put_planet.ensures.puts (c.planet.ensures.second, c.planet.ensures.fleets)
    (puts_fresh one two (AccountId receiver.account.player) (account_stand receiver) c.in_ok-put_account-2.ensures.puts (c.in_ok-account-2.ensures.second, c.in_ok-account-2.ensures.fleets)
    (puts_fresh none one (AccountId sender.account.player) (account_stand sender) c.in_ok-put_account.ensures.puts (c.in_ok-account.ensures.second, c.in_ok-account.ensures.fleets)
    (none_fresh none c.new-cells.ensures.accounts c.new-cells.ensures.planets))))
