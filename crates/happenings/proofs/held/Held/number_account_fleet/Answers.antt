use Rattle.std.proofs.Common.{◌≡◌, ap, sym, refl, subst, Some}
use Rattle.std.specs.Prelude.{IsSome, option_map}
use Rattle.std.specs.BTreeMap.{get}
use Rattle.base_ids.specs.declared.cell_id.CellId.TheVariants.{Account as AccountId}
use Rattle.happenings.specs.Held.{account_stand}
use Rattle.happenings.specs.Orders.{player_order}
use Rattle.happenings.specs.declared.held.Held.{Held}
use Rattle.happenings.proofs.Numbered.{account_still_named, puts_numbered}
use Rattle.happenings.proofs.Putting.{player_puts}
use Rattle.happenings.proofs.held.Held.number_account_fleet.Goals as goal

pub returns-in-Some-clause-numbers : goal.returns-in-Some-clause-numbers
returns-in-Some-clause-numbers c =
    let old = c.args.self.now in
    let player = c.args.player in
    let now = c.number_fleet.new.self in
    let found : get player_order old.accounts player ≡ Some c.in-Some.cell.now = sym c.in-Some.ensures.value in
    let new : Held = record { accounts = c.get_mut.follows.lender now; planets = old.planets } in
    let there : IsSome (get player_order old.accounts player) = subst IsSome (sym found) refl in
    puts_numbered c.args.number old new (AccountId player) (account_stand c.in-Some.cell.now) (account_stand now) (player_puts old new player now ((c.get_mut.follows.holds now).3 there) refl)
    (ap (option_map account_stand) found) c.number_fleet.ensures.stand

pub returns-in-Some-clause-named : goal.returns-in-Some-clause-named
returns-in-Some-clause-named c =
    let old = c.args.self.now in
    let player = c.args.player in
    let now = c.number_fleet.new.self in
    let found : get player_order old.accounts player ≡ Some c.in-Some.cell.now = sym c.in-Some.ensures.value in
    let new : Held = record { accounts = c.get_mut.follows.lender now; planets = old.planets } in
    let there : IsSome (get player_order old.accounts player) = subst IsSome (sym found) refl in
    account_still_named old new player c.in-Some.cell.now now found ((c.get_mut.follows.holds now).3 there) refl c.number_fleet.ensures.player
