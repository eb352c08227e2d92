use Rattle.std.proofs.Common.{◌≡◌, sym, refl, subst, Some}
use Rattle.std.specs.Prelude.{IsSome}
use Rattle.std.specs.BTreeMap.{get}
use Rattle.happenings.specs.Orders.{place_order}
use Rattle.happenings.specs.declared.held.Held.{Held}
use Rattle.happenings.proofs.Numbered.{batch_held, planet_still_named}
use Rattle.happenings.proofs.held.Held.number_batch.Goals as goal

pub returns-in-Some-clause-numbers : goal.returns-in-Some-clause-numbers
returns-in-Some-clause-numbers c =
    let old = c.args.self.now in
    let at = c.args.at in
    let now = c.number_batch.new.self in
    let found : get place_order old.planets at ≡ Some c.in-Some.cell.now = sym c.in-Some.ensures.value in
    let new : Held = record { accounts = old.accounts; planets = c.get_mut.follows.lender now } in
    let there : IsSome (get place_order old.planets at) = subst IsSome (sym found) refl in
    batch_held old new at c.in-Some.cell.now now found ((c.get_mut.follows.holds now).3 there) refl c.args.number c.number_batch.ensures.stand

pub returns-in-Some-clause-named : goal.returns-in-Some-clause-named
returns-in-Some-clause-named c =
    let old = c.args.self.now in
    let at = c.args.at in
    let now = c.number_batch.new.self in
    let found : get place_order old.planets at ≡ Some c.in-Some.cell.now = sym c.in-Some.ensures.value in
    let new : Held = record { accounts = old.accounts; planets = c.get_mut.follows.lender now } in
    let there : IsSome (get place_order old.planets at) = subst IsSome (sym found) refl in
    planet_still_named old new at c.in-Some.cell.now now found ((c.get_mut.follows.holds now).3 there) refl c.number_batch.ensures.at
