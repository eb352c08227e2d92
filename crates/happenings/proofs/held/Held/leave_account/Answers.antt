use Rattle.std.proofs.Common.{◌≡◌, ap, ◌∙◌, sym, refl, subst, Some}
use Rattle.std.specs.Prelude.{IsSome, option_map}
use Rattle.std.specs.BTreeMap.{get}
use Rattle.base_ids.specs.declared.cell_id.CellId.TheVariants.{Account as AccountId}
use Rattle.fleet_rec.specs.Fleet.{cargo_seen, fleet_seen}
use Rattle.fleet_rec.specs.Fleets.{AreOutbound}
use Rattle.happenings.specs.Held.{account_stand}
use Rattle.happenings.specs.Landings.{left}
use Rattle.happenings.specs.Orders.{player_order}
use Rattle.happenings.specs.Queues.{seen_of}
use Rattle.happenings.specs.declared.held.Held.{Held}
use Rattle.happenings.proofs.Acting.{named_account}
use Rattle.happenings.proofs.Left.{puts_left}
use Rattle.happenings.proofs.Numbered.{account_still_named}
use Rattle.happenings.proofs.Putting.{player_puts}
use Rattle.happenings.proofs.held.Held.leave_account.Goals as goal

pub leave-requires : goal.leave-requires
leave-requires c cargo is =
    let found : get player_order c.args.self.now.accounts c.args.player ≡ Some c.in-Some.cell.now = sym c.in-Some.ensures.value in
    subst (λ o. AreOutbound c.args.fleet.now.number (seen_of (option_map account_stand o)).fleets) found (c.requires.leave.flies (cargo_seen cargo) (ap (option_map cargo_seen) is))

pub returns-in-Some-clause-leaves : goal.returns-in-Some-clause-leaves
returns-in-Some-clause-leaves c rules =
    let old = c.args.self.now in
    let player = c.args.player in
    let fleet = fleet_seen c.args.fleet.now in
    let back = option_map cargo_seen c.args.back in
    let cell = c.in-Some.cell.now in
    let now = c.leave.new.self in
    let found : get player_order old.accounts player ≡ Some cell = sym c.in-Some.ensures.value in
    let new : Held = record { accounts = c.get_mut.follows.lender now; planets = old.planets } in
    let there : IsSome (get player_order old.accounts player) = subst IsSome (sym found) refl in
    let name = named_account old player cell c.requires.named found in
    puts_left rules fleet back old new (AccountId player) (account_stand cell) (account_stand now) (player_puts old new player now ((c.get_mut.follows.holds now).3 there) refl)
    (ap (option_map account_stand) found) (c.leave.ensures.stand rules ∙ ap (λ k. left rules fleet back (AccountId k) (account_stand cell)) name)

pub returns-in-Some-clause-named : goal.returns-in-Some-clause-named
returns-in-Some-clause-named c =
    let old = c.args.self.now in
    let player = c.args.player in
    let now = c.leave.new.self in
    let found : get player_order old.accounts player ≡ Some c.in-Some.cell.now = sym c.in-Some.ensures.value in
    let new : Held = record { accounts = c.get_mut.follows.lender now; planets = old.planets } in
    let there : IsSome (get player_order old.accounts player) = subst IsSome (sym found) refl in
    account_still_named old new player c.in-Some.cell.now now found ((c.get_mut.follows.holds now).3 there) refl c.leave.ensures.player c.requires.named
