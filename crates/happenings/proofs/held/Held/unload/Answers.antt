use Rattle.std.proofs.Common.{◌≡◌, ap, ◌∙◌, sym, refl, subst, Some, Option}
use Rattle.std.specs.Prelude.{IfSome, IsSome, option_map}
use Rattle.std.specs.BTreeMap.{get}
use Rattle.base_ids.specs.declared.cell_id.CellId.TheVariants.{Planet as PlanetId}
use Rattle.fleet_rec.specs.Fleet.{fleet_seen}
use Rattle.tick_model.specs.Flights.{landing}
use Rattle.happenings.specs.Held.{Puts, Stand, held_at, planet_stand}
use Rattle.happenings.specs.Landings.{HasRoom}
use Rattle.happenings.specs.Orders.{place_order}
use Rattle.happenings.specs.declared.held.Held.{Held}
use Rattle.happenings.proofs.Landed.{puts_unloaded}
use Rattle.happenings.proofs.Numbered.{planet_still_named}
use Rattle.happenings.proofs.Putting.{place_puts}
use Rattle.happenings.proofs.held.Held.unload.Goals as goal

pub unload-requires : goal.unload-requires
unload-requires c =
    let fleet = fleet_seen c.args.fleet.now in
    let found : get place_order c.args.self.now.planets (landing fleet) ≡ Some c.in-Some.cell.now = ap (get place_order c.args.self.now.planets) (sym c.landing.ensures) ∙ sym c.in-Some.ensures.value in
    subst (λ (o : Option Stand). IfSome o (HasRoom fleet)) (ap (option_map planet_stand) found) c.requires.room

pub returns-in-Some-clause-unloads : goal.returns-in-Some-clause-unloads
returns-in-Some-clause-unloads c =
    let old = c.args.self.now in
    let at = c.landing.result in
    let fleet = fleet_seen c.args.fleet.now in
    let cell = c.in-Some.cell.now in
    let now = c.unload.new.self in
    let place : at ≡ landing fleet = c.landing.ensures in
    let found : get place_order old.planets at ≡ Some cell = sym c.in-Some.ensures.value in
    let new : Held = record { accounts = old.accounts; planets = c.get_mut.follows.lender now } in
    let there : IsSome (get place_order old.planets at) = subst IsSome (sym found) refl in
    puts_unloaded fleet old new (planet_stand cell) (planet_stand now)
    (subst (λ p. Puts old new (PlanetId p) (planet_stand now)) place (place_puts old new at now ((c.get_mut.follows.holds now).3 there) refl))
    (ap (λ p. held_at old (PlanetId p)) (sym place) ∙ ap (option_map planet_stand) found) c.unload.ensures.stand

pub returns-in-Some-clause-named : goal.returns-in-Some-clause-named
returns-in-Some-clause-named c =
    let old = c.args.self.now in
    let at = c.landing.result in
    let now = c.unload.new.self in
    let found : get place_order old.planets at ≡ Some c.in-Some.cell.now = sym c.in-Some.ensures.value in
    let new : Held = record { accounts = old.accounts; planets = c.get_mut.follows.lender now } in
    let there : IsSome (get place_order old.planets at) = subst IsSome (sym found) refl in
    planet_still_named old new at c.in-Some.cell.now now found ((c.get_mut.follows.holds now).3 there) refl c.unload.ensures.at c.requires.named
