use Rattle.happenings.specs.declared.held.Held.{Held}
use Rattle.happenings.proofs.Gains.{gains_all, gains_in, names_kept}
use Rattle.happenings.proofs.held.Held.gain.Goals as goal

pub returns-clause-gains : goal.returns-clause-gains
returns-clause-gains c =
    let new : Held = record { accounts = c.gain_accounts.new.accounts; planets = c.gain_planets.new.planets } in
    gains_all c.args.rules.now c.args.moment c.args.self.now new c.gain_accounts.ensures.gain c.gain_planets.ensures.gain

pub returns-clause-shows : goal.returns-clause-shows
returns-clause-shows c =
    let new : Held = record { accounts = c.gain_accounts.new.accounts; planets = c.gain_planets.new.planets } in
    gains_in c.args.rules.now c.args.moment c.args.self.now new (returns-clause-gains c)

pub returns-clause-named : goal.returns-clause-named
returns-clause-named c =
    let new : Held = record { accounts = c.gain_accounts.new.accounts; planets = c.gain_planets.new.planets } in
    names_kept c.args.self.now new c.gain_accounts.ensures.named c.gain_planets.ensures.named
