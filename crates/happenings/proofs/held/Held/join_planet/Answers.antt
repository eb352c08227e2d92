use Rattle.std.proofs.Common.{◌≡◌, ◌++◌, [], ◌∷◌, ap, sym, refl, subst, Some}
use Rattle.std.specs.Prelude.{IsSome, option_map}
use Rattle.std.specs.BTreeMap.{get}
use Rattle.base_ids.specs.declared.cell_id.CellId.TheVariants.{Planet as PlanetId}
use Rattle.fleet_rec.specs.Fleet.{fleet_seen}
use Rattle.happenings.specs.Held.{IsNamed, planet_stand}
use Rattle.happenings.specs.Joining.{JoinsAt}
use Rattle.happenings.specs.Orders.{place_order}
use Rattle.happenings.specs.declared.held.Held.{Held}
use Rattle.happenings.specs.declared.held.PlanetCell.{PlanetCell}
use Rattle.happenings.proofs.Copying.{on_ok}
use Rattle.happenings.proofs.Joined.{in_any_case, planet_joined, puts_joined}
use Rattle.happenings.proofs.Numbered.{planet_still_named}
use Rattle.happenings.proofs.Putting.{place_puts}
use Rattle.happenings.proofs.held.Held.join_planet.Goals as goal

pub returns-in-Some-clause-joins : goal.returns-in-Some-clause-joins
returns-in-Some-clause-joins c =
    let old = c.args.self.now in
    let at = c.args.at in
    let fleet = fleet_seen c.args.fleet.now in
    let cell = c.in-Some.cell.now in
    let now : PlanetCell = record cell { fleets = c.push.new.self } in
    let found : get place_order old.planets at ≡ Some cell = sym c.in-Some.ensures.value in
    let new : Held = record { accounts = old.accounts; planets = c.get_mut.follows.lender now } in
    let there : IsSome (get place_order old.planets at) = subst IsSome (sym found) refl in
    on_ok c.push.result (c.push.new.self ≡ cell.fleets ++ fleet ∷ []) (JoinsAt (PlanetId at) fleet old new)
    (λ more. puts_joined fleet old new (PlanetId at) (planet_stand cell) (planet_stand now) (place_puts old new at now ((c.get_mut.follows.holds now).3 there) refl)
    (ap (option_map planet_stand) found) (planet_joined fleet cell now refl refl more)) c.push.ensures.ok

pub returns-in-Some-clause-named : goal.returns-in-Some-clause-named
returns-in-Some-clause-named c =
    let old = c.args.self.now in
    let at = c.args.at in
    let cell = c.in-Some.cell.now in
    let now : PlanetCell = record cell { fleets = c.push.new.self } in
    let found : get place_order old.planets at ≡ Some cell = sym c.in-Some.ensures.value in
    let new : Held = record { accounts = old.accounts; planets = c.get_mut.follows.lender now } in
    let there : IsSome (get place_order old.planets at) = subst IsSome (sym found) refl in
    in_any_case c.push.result (IsNamed old → IsNamed new) (planet_still_named old new at cell now found ((c.get_mut.follows.holds now).3 there) refl refl)
