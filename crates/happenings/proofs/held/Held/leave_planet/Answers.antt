use Rattle.std.proofs.Common.{◌≡◌, ◌≤◌, ap, ◌∙◌, sym, refl, subst, Some, Option}
use Rattle.std.specs.Prelude.{IfSome, IsSome, option_map}
use Rattle.std.specs.BTreeMap.{get}
use Rattle.base_ids.specs.declared.cell_id.CellId.TheVariants.{Planet as PlanetId}
use Rattle.fleet_rec.specs.Fleet.{cargo_seen, fleet_seen}
use Rattle.fleet_rec.specs.Fleets.{AreOutbound}
use Rattle.happenings.specs.Held.{Stand, planet_stand}
use Rattle.happenings.specs.Landings.{left}
use Rattle.happenings.specs.Orders.{place_order}
use Rattle.happenings.specs.Queues.{seen_of}
use Rattle.happenings.specs.declared.held.Held.{Held}
use Rattle.happenings.proofs.Acting.{named_planet}
use Rattle.happenings.proofs.Left.{puts_left}
use Rattle.happenings.proofs.Numbered.{planet_still_named}
use Rattle.happenings.proofs.Putting.{place_puts}
use Rattle.happenings.proofs.held.Held.leave_planet.Goals as goal

pub leave-requires-clause-behind : goal.leave-requires-clause-behind
leave-requires-clause-behind c =
    let found : get place_order c.args.self.now.planets c.args.at ≡ Some c.in-Some.cell.now = sym c.in-Some.ensures.value in
    subst (λ (o : Option Stand). IfSome o (λ stand. stand.second ≤ c.args.fleet.now.second)) (ap (option_map planet_stand) found) c.requires.leave.behind

pub leave-requires-clause-flies : goal.leave-requires-clause-flies
leave-requires-clause-flies c cargo is =
    let found : get place_order c.args.self.now.planets c.args.at ≡ Some c.in-Some.cell.now = sym c.in-Some.ensures.value in
    subst (λ o. AreOutbound c.args.fleet.now.number (seen_of (option_map planet_stand o)).fleets) found (c.requires.leave.flies (cargo_seen cargo) (ap (option_map cargo_seen) is))

pub returns-in-Some-clause-leaves : goal.returns-in-Some-clause-leaves
returns-in-Some-clause-leaves c =
    let old = c.args.self.now in
    let rules = c.args.rules.now in
    let at = c.args.at in
    let fleet = fleet_seen c.args.fleet.now in
    let back = option_map cargo_seen c.args.back in
    let cell = c.in-Some.cell.now in
    let now = c.leave.new.self in
    let found : get place_order old.planets at ≡ Some cell = sym c.in-Some.ensures.value in
    let new : Held = record { accounts = old.accounts; planets = c.get_mut.follows.lender now } in
    let there : IsSome (get place_order old.planets at) = subst IsSome (sym found) refl in
    let name = named_planet old at cell c.requires.named found in
    puts_left rules fleet back old new (PlanetId at) (planet_stand cell) (planet_stand now) (place_puts old new at now ((c.get_mut.follows.holds now).3 there) refl)
    (ap (option_map planet_stand) found) (c.leave.ensures.stand ∙ ap (λ p. left rules fleet back (PlanetId p) (planet_stand cell)) name)

pub returns-in-Some-clause-named : goal.returns-in-Some-clause-named
returns-in-Some-clause-named c =
    let old = c.args.self.now in
    let at = c.args.at in
    let now = c.leave.new.self in
    let found : get place_order old.planets at ≡ Some c.in-Some.cell.now = sym c.in-Some.ensures.value in
    let new : Held = record { accounts = old.accounts; planets = c.get_mut.follows.lender now } in
    let there : IsSome (get place_order old.planets at) = subst IsSome (sym found) refl in
    planet_still_named old new at c.in-Some.cell.now now found ((c.get_mut.follows.holds now).3 there) refl c.leave.ensures.at c.requires.named
