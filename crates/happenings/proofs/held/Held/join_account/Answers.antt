use Rattle.std.proofs.Common.{◌≡◌, ◌++◌, [], ◌∷◌, ap, sym, refl, subst, Some}
use Rattle.std.specs.Prelude.{IsSome, option_map}
use Rattle.std.specs.BTreeMap.{get}
use Rattle.base_ids.specs.declared.cell_id.CellId.TheVariants.{Account as AccountId}
use Rattle.fleet_rec.specs.Fleet.{fleet_seen}
use Rattle.happenings.specs.Held.{IsNamed, account_stand}
use Rattle.happenings.specs.Joining.{JoinsAt}
use Rattle.happenings.specs.Orders.{player_order}
use Rattle.happenings.specs.declared.held.AccountCell.{AccountCell}
use Rattle.happenings.specs.declared.held.Held.{Held}
use Rattle.happenings.proofs.Copying.{on_ok}
use Rattle.happenings.proofs.Joined.{account_joined, in_any_case, puts_joined}
use Rattle.happenings.proofs.Numbered.{account_still_named}
use Rattle.happenings.proofs.Putting.{player_puts}
use Rattle.happenings.proofs.held.Held.join_account.Goals as goal

pub returns-in-Some-clause-joins : goal.returns-in-Some-clause-joins
returns-in-Some-clause-joins c =
    let old = c.args.self.now in
    let player = c.args.player in
    let fleet = fleet_seen c.args.fleet.now in
    let cell = c.in-Some.cell.now in
    let now : AccountCell = record cell { fleets = c.push.new.self } in
    let found : get player_order old.accounts player ≡ Some cell = sym c.in-Some.ensures.value in
    let new : Held = record { accounts = c.get_mut.follows.lender now; planets = old.planets } in
    let there : IsSome (get player_order old.accounts player) = subst IsSome (sym found) refl in
    on_ok c.push.result (c.push.new.self ≡ cell.fleets ++ fleet ∷ []) (JoinsAt (AccountId player) fleet old new)
    (λ more. puts_joined fleet old new (AccountId player) (account_stand cell) (account_stand now) (player_puts old new player now ((c.get_mut.follows.holds now).3 there) refl)
    (ap (option_map account_stand) found) (account_joined fleet cell now refl refl more)) c.push.ensures.ok

pub returns-in-Some-clause-named : goal.returns-in-Some-clause-named
returns-in-Some-clause-named c =
    let old = c.args.self.now in
    let player = c.args.player in
    let cell = c.in-Some.cell.now in
    let now : AccountCell = record cell { fleets = c.push.new.self } in
    let found : get player_order old.accounts player ≡ Some cell = sym c.in-Some.ensures.value in
    let new : Held = record { accounts = c.get_mut.follows.lender now; planets = old.planets } in
    let there : IsSome (get player_order old.accounts player) = subst IsSome (sym found) refl in
    in_any_case c.push.result (IsNamed old → IsNamed new) (account_still_named old new player cell now found ((c.get_mut.follows.holds now).3 there) refl refl)
