use Rattle.std.proofs.Common.{◌≡◌, ap, sym, refl, subst, Some}
use Rattle.std.specs.Prelude.{IsSome, option_map}
use Rattle.std.specs.BTreeMap.{get}
use Rattle.base_ids.specs.declared.cell_id.CellId.TheVariants.{Planet as PlanetId}
use Rattle.happenings.specs.Held.{planet_stand}
use Rattle.happenings.specs.Orders.{place_order}
use Rattle.happenings.specs.declared.held.Held.{Held}
use Rattle.happenings.proofs.Numbered.{planet_still_named, puts_numbered}
use Rattle.happenings.proofs.Putting.{place_puts}
use Rattle.happenings.proofs.held.Held.number_planet_fleet.Goals as goal

pub returns-in-Some-clause-numbers : goal.returns-in-Some-clause-numbers
returns-in-Some-clause-numbers c =
    let old = c.args.self.now in
    let at = c.args.at in
    let now = c.number_fleet.new.self in
    let found : get place_order old.planets at ≡ Some c.in-Some.cell.now = sym c.in-Some.ensures.value in
    let new : Held = record { accounts = old.accounts; planets = c.get_mut.follows.lender now } in
    let there : IsSome (get place_order old.planets at) = subst IsSome (sym found) refl in
    puts_numbered c.args.number old new (PlanetId at) (planet_stand c.in-Some.cell.now) (planet_stand now) (place_puts old new at now ((c.get_mut.follows.holds now).3 there) refl)
    (ap (option_map planet_stand) found) c.number_fleet.ensures.stand

pub returns-in-Some-clause-named : goal.returns-in-Some-clause-named
returns-in-Some-clause-named c =
    let old = c.args.self.now in
    let at = c.args.at in
    let now = c.number_fleet.new.self in
    let found : get place_order old.planets at ≡ Some c.in-Some.cell.now = sym c.in-Some.ensures.value in
    let new : Held = record { accounts = old.accounts; planets = c.get_mut.follows.lender now } in
    let there : IsSome (get place_order old.planets at) = subst IsSome (sym found) refl in
    planet_still_named old new at c.in-Some.cell.now now found ((c.get_mut.follows.holds now).3 there) refl c.number_fleet.ensures.at
