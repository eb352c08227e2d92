use Rattle.std.proofs.Common.{refl, ◌∙◌}
use Rattle.happenings.proofs.Together.{account_absent, moving_account, moving_planet, moving_planets, no_entries, planet_absent}
use Rattle.happenings.proofs.held.Held.put_all.Goals as goal

pub accounts-preserved : goal.accounts-preserved
accounts-preserved c =
    moving_account c.args.cells c.args.self.now c.accounts.cells (record { accounts = c.pop_first.new.self; planets = c.accounts.cells.planets }) c.accounts.self c.put_account.new.self
    c.in-Some.field-0-0 c.in-Some.cell c.accounts.invariant c.in-Some.ensures.value c.in-Some.ensures.updates refl c.in-Ok.ensures.puts c.in-Ok.ensures.named

pub unreachable-requires : goal.unreachable-requires
unreachable-requires c =
    account_absent c.accounts.cells c.accounts.self c.in-Some.field-0-0 c.in-Some.cell c.accounts.invariant.within c.accounts.invariant.cells_named c.in-Some.ensures.value c.in_default-put_account.ensures.absent

pub planets-init : goal.planets-init
planets-init c =
    record {
      moving = moving_planets c.args.cells c.args.self.now c.accounts.cells (record { accounts = c.pop_first.new.self; planets = c.accounts.cells.planets }) c.accounts.self c.accounts.invariant c.in_default.ensures.unchanged refl;
      accounts = c.in_default.ensures.unchanged ∙ no_entries c.accounts.cells.accounts.entries (c.in_default.ensures.variant).1;
    }

pub planets-preserved : goal.planets-preserved
planets-preserved c = record {
  moving = moving_planet c.args.cells c.args.self.now c.planets.cells (record { accounts = c.planets.cells.accounts; planets = c.pop_first-in-planets.new.self }) c.planets.self c.put_planet.new.self
      c.in-Some-pop_first.field-0-0 c.in-Some-pop_first.cell c.planets.invariant.moving c.in-Some-pop_first.ensures.value c.in-Some-pop_first.ensures.updates refl c.in-Ok-put_planet.ensures.puts c.in-Ok-put_planet.ensures.named;
  accounts = c.planets.invariant.accounts;
}

pub unreachable-requires-in_default-put_planet : goal.unreachable-requires-in_default-put_planet
unreachable-requires-in_default-put_planet c =
    planet_absent c.planets.cells c.planets.self c.in-Some-pop_first.field-0-0 c.in-Some-pop_first.cell c.planets.invariant.moving.within c.planets.invariant.moving.cells_named c.in-Some-pop_first.ensures.value c.in_default-put_planet.ensures.absent
