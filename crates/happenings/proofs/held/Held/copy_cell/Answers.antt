use Rattle.std.proofs.Common.{◌≡◌, ap, ◌∙◌, sym, subst, Option}
use Rattle.std.specs.Prelude.{IfSome, option_map}
use Rattle.base_ids.specs.declared.cell_id.CellId.TheVariants.{Account, Planet}
use Rattle.happenings.specs.Held.{Copies, Puts, account_stand, held_at, planet_stand}
use Rattle.happenings.specs.declared.held.AccountCell.{AccountCell}
use Rattle.happenings.specs.declared.held.PlanetCell.{PlanetCell}
use Rattle.happenings.proofs.Copying.{copies_none, copies_one, on_ok}
use Rattle.happenings.proofs.Gains.{same_stand}
use Rattle.happenings.proofs.held.Held.copy_cell.Goals as goal

pub returns-in_ok-copy-in-Some-clause-copies : goal.returns-in_ok-copy-in-Some-clause-copies
returns-in_ok-copy-in-Some-clause-copies c =
    let held = c.args.self.now in
    let player = c.in-Account.player in
    let copy = c.in_ok-copy-in-Some.field-0 in
    let found = c.in-Some.ensures in
    let own = subst (λ (o : Option AccountCell). IfSome o (λ cell. cell.account.player ≡ player)) found (c.requires.players player) in
    let name = c.in-Account.is in
    on_ok c.put_account.result (Puts c.args.other.now c.put_account.new.self (Account copy.account.player) (account_stand copy)) (Copies held c.args.name c.args.other.now c.put_account.new.self)
    (λ puts. subst (λ n. Copies held n c.args.other.now c.put_account.new.self) (sym name)
    (copies_one (held_at held) c.args.other.now c.put_account.new.self (Account player) (Account copy.account.player) (account_stand c.in-Some.cell.now) (account_stand copy)
    (ap (option_map account_stand) found) (ap Account (c.in_ok-copy-in-Some.ensures.1 ∙ own)) c.in_ok-copy-in-Some.ensures.0 puts)) c.put_account.ensures.puts

pub returns-in-None-clause-copies : goal.returns-in-None-clause-copies
returns-in-None-clause-copies c =
    subst (λ n. Copies c.args.self.now n c.args.other.now c.args.other.now) (sym c.in-Account.is)
    (copies_none (held_at c.args.self.now) c.args.other.now (Account c.in-Account.player) (ap (option_map account_stand) c.in-None.ensures))

pub returns-in_ok-copy-in-Some-planet-clause-copies : goal.returns-in_ok-copy-in-Some-planet-clause-copies
returns-in_ok-copy-in-Some-planet-clause-copies c =
    let held = c.args.self.now in
    let at = c.in-Planet.at in
    let old = c.in-Some-planet.cell.now in
    let copy = c.in_ok-copy-in-Some-planet.field-0 in
    let found = c.in-Some-planet.ensures in
    let own = subst (λ (o : Option PlanetCell). IfSome o (λ cell. cell.planet.at ≡ at)) found (c.requires.places at) in
    let name = c.in-Planet.is in
    let same = c.in_ok-copy-in-Some-planet.ensures in
    let stand : planet_stand copy ≡ planet_stand old = sym (same_stand old copy (sym same.0) same.1 (sym same.2)) in
    on_ok c.put_planet.result (Puts c.args.other.now c.put_planet.new.self (Planet copy.planet.at) (planet_stand copy)) (Copies held c.args.name c.args.other.now c.put_planet.new.self)
    (λ puts. subst (λ n. Copies held n c.args.other.now c.put_planet.new.self) (sym name)
    (copies_one (held_at held) c.args.other.now c.put_planet.new.self (Planet at) (Planet copy.planet.at) (planet_stand old) (planet_stand copy)
    (ap (option_map planet_stand) found) (ap Planet (sym same.1.at ∙ own)) stand puts)) c.put_planet.ensures.puts

pub returns-in-None-planet-clause-copies : goal.returns-in-None-planet-clause-copies
returns-in-None-planet-clause-copies c =
    subst (λ n. Copies c.args.self.now n c.args.other.now c.args.other.now) (sym c.in-Planet.is)
    (copies_none (held_at c.args.self.now) c.args.other.now (Planet c.in-Planet.at) (ap (option_map planet_stand) c.in-None-planet.ensures))
