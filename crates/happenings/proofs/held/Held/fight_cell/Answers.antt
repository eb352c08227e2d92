use Rattle.std.proofs.Common.{◌≡◌, true, ap, ◌∙◌, sym, subst, Option, Some}
use Rattle.std.specs.BTreeMap.{get}
use Rattle.std.specs.Prelude.{IfSome}
use Rattle.base_ids.specs.declared.cell_id.CellId.TheVariants.{Account, Planet}
use Rattle.base_ids.specs.declared.coord.Coord.{Coord}
use Rattle.happenings.specs.Fighting.{account_fought, fought_at, planet_fought, touches}
use Rattle.happenings.specs.Held.{CopiesFrom, Puts, account_stand, planet_stand}
use Rattle.happenings.specs.Orders.{place_order}
use Rattle.happenings.specs.declared.held.AccountCell.{AccountCell}
use Rattle.tick_model.proofs.Lists.{cell-is}
use Rattle.happenings.proofs.Acting.{named_planet}
use Rattle.happenings.proofs.Copying.{copies_none, copies_one, on_ok}
use Rattle.happenings.proofs.Fought.{account-at, planet-at, untouched-at}
use Rattle.happenings.proofs.held.Held.fight_cell.Goals as goal

same-place : (one other : Coord) → Planet one ≡ Planet other → one ≡ other
same-place one other same = cc

pub fought-requires-in-Some-planet-clause-settle : goal.fought-requires-in-Some-planet-clause-settle
fought-requires-in-Some-planet-clause-settle c here =
    let held = c.args.self.now in
    let battle = c.args.battle.now in
    let cell = c.in-Some-planet.cell.now in
    let own = named_planet held c.in-Planet.at cell c.requires.named c.in-Some-planet.ensures in
    let at : battle.target ≡ c.in-Planet.at = same-place battle.target cell.planet.at (cell-is (Planet battle.target) (Planet cell.planet.at) here) ∙ own in
    c.requires.fight.settles cell (ap (get place_order held.planets) at ∙ c.in-Some-planet.ensures)

pub returns-in_ok-fought-in-Some-clause-copies : goal.returns-in_ok-fought-in-Some-clause-copies
returns-in_ok-fought-in-Some-clause-copies c =
    let held = c.args.self.now in
    let rules = c.args.rules.now in
    let battle = c.args.battle.now in
    let there = fought_at rules battle held in
    let player = c.in-Account.player in
    let old = c.in-Some.cell.now in
    let copy = c.in_ok-fought-in-Some.field-0 in
    let found = c.in-Some.ensures in
    let own = subst (λ (o : Option AccountCell). IfSome o (λ cell. cell.account.player ≡ player)) found (c.requires.named.players player) in
    let has = ap (touches battle) (sym c.in-Account.is) ∙ sym c.if-not-touches.ensures in
    on_ok c.put_account.result (Puts c.args.other.now c.put_account.new.self (Account copy.account.player) (account_stand copy)) (CopiesFrom there c.args.name c.args.other.now c.put_account.new.self)
    (λ puts. subst (λ n. CopiesFrom there n c.args.other.now c.put_account.new.self) (sym c.in-Account.is)
    (copies_one there c.args.other.now c.put_account.new.self (Account player) (Account copy.account.player) (account_fought battle player (account_stand old)) (account_stand copy)
    (account-at rules battle held player old has found) (ap Account (c.in_ok-fought-in-Some.ensures.player ∙ own))
    (c.in_ok-fought-in-Some.ensures.stand ∙ ap (λ p. account_fought battle p (account_stand old)) own) puts)) c.put_account.ensures.puts

pub returns-in_ok-fought-in-Some-planet-clause-copies : goal.returns-in_ok-fought-in-Some-planet-clause-copies
returns-in_ok-fought-in-Some-planet-clause-copies c =
    let held = c.args.self.now in
    let rules = c.args.rules.now in
    let battle = c.args.battle.now in
    let there = fought_at rules battle held in
    let at = c.in-Planet.at in
    let old = c.in-Some-planet.cell.now in
    let copy = c.in_ok-fought-in-Some-planet.field-0 in
    let found = c.in-Some-planet.ensures in
    let own = named_planet held at old c.requires.named found in
    let has = ap (touches battle) (sym c.in-Planet.is) ∙ sym c.if-not-touches.ensures in
    on_ok c.put_planet.result (Puts c.args.other.now c.put_planet.new.self (Planet copy.planet.at) (planet_stand copy)) (CopiesFrom there c.args.name c.args.other.now c.put_planet.new.self)
    (λ puts. subst (λ n. CopiesFrom there n c.args.other.now c.put_planet.new.self) (sym c.in-Planet.is)
    (copies_one there c.args.other.now c.put_planet.new.self (Planet at) (Planet copy.planet.at) (planet_fought rules battle (Planet at) (planet_stand old)) (planet_stand copy)
    (planet-at rules battle held at old has found) (ap Planet (c.in_ok-fought-in-Some-planet.ensures.at ∙ own))
    (c.in_ok-fought-in-Some-planet.ensures.stand ∙ ap (λ p. planet_fought rules battle (Planet p) (planet_stand old)) own) puts)) c.put_planet.ensures.puts
