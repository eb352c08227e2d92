use Rattle.std.proofs.Common.{◌≡◌, ap, ◌∙◌, sym, refl, subst, Some}
use Rattle.std.specs.Prelude.{IsSome}
use Rattle.std.specs.BTreeMap.{get}
use Rattle.happenings.specs.Orders.{place_order}
use Rattle.happenings.specs.Queues.{home_of}
use Rattle.happenings.specs.declared.held.Held.{Held}
use Rattle.happenings.proofs.Acting.{named_planet}
use Rattle.happenings.proofs.Finished.{building_happens, building_runs, home_behind}
use Rattle.happenings.proofs.Putting.{place_named, place_puts}
use Rattle.happenings.proofs.held.Held.finish_building.Goals as goal

pub finish_building-requires-clause-runs : goal.finish_building-requires-clause-runs
finish_building-requires-clause-runs c =
    building_runs c.args.due c.args.self.now c.args.at c.requires.due c.in-Some.cell.now (sym c.in-Some.ensures.value) c.requires.queue

pub finish_building-requires-clause-behind : goal.finish_building-requires-clause-behind
finish_building-requires-clause-behind c =
    home_behind c.args.due c.args.self.now c.args.at c.requires.due c.in-Some.cell.now c.requires.named (sym c.in-Some.ensures.value) (ap home_of c.requires.queue)

pub returns-clause-happens : goal.returns-clause-happens
returns-clause-happens c =
    let old = c.args.self.now in
    let now = c.finish_building.new.self in
    let found : get place_order old.planets c.args.at ≡ Some c.in-Some.cell.now = sym c.in-Some.ensures.value in
    let new : Held = record { accounts = old.accounts; planets = c.get_mut.follows.lender now } in
    let there : IsSome (get place_order old.planets c.args.at) = subst IsSome (sym found) refl in
    building_happens c.args.rules.now c.args.due old new c.args.at c.in-Some.cell.now now c.requires.named c.requires.due found
    (place_puts old new c.args.at now ((c.get_mut.follows.holds now).3 there) refl) c.finish_building.ensures.second c.finish_building.ensures.at c.finish_building.ensures.fleets c.requires.queue
    c.finish_building.ensures.built c.finish_building.ensures.yard

pub returns-clause-named : goal.returns-clause-named
returns-clause-named c =
    let old = c.args.self.now in
    let now = c.finish_building.new.self in
    let found : get place_order old.planets c.args.at ≡ Some c.in-Some.cell.now = sym c.in-Some.ensures.value in
    let new : Held = record { accounts = old.accounts; planets = c.get_mut.follows.lender now } in
    let there : IsSome (get place_order old.planets c.args.at) = subst IsSome (sym found) refl in
    place_named old new c.args.at now ((c.get_mut.follows.holds now).3 there) refl (c.finish_building.ensures.at ∙ named_planet old c.args.at c.in-Some.cell.now c.requires.named found) c.requires.named
