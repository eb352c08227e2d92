use Rattle.std.proofs.Common.{arith, ◌≡◌, ◌∙◌, sym, refl, subst, Some}
use Rattle.std.specs.Prelude.{IsSome}
use Rattle.std.specs.BTreeMap.{get}
use Rattle.happenings.specs.Orders.{player_order}
use Rattle.happenings.specs.declared.held.Held.{Held}
use Rattle.happenings.proofs.Acting.{named_account}
use Rattle.happenings.proofs.Discovered.{payers_behind, research_happens, research_some}
use Rattle.happenings.proofs.Putting.{player_placed}
use Rattle.happenings.proofs.held.Held.finish_research.Goals as goal

pub finish_research-requires-clause-some : goal.finish_research-requires-clause-some
finish_research-requires-clause-some c =
    let some = research_some c.args.due c.args.self.now c.args.player c.in-Some.cell.now c.requires.due c.requires.queue (sym c.in-Some.ensures.value) in
    omega (arith, some)

pub finish_research-requires-clause-behind : goal.finish_research-requires-clause-behind
finish_research-requires-clause-behind c =
    payers_behind c.args.due c.args.self.now c.args.player c.in-Some.cell.now c.requires.due c.requires.queue (sym c.in-Some.ensures.value)

pub returns-clause-happens : goal.returns-clause-happens
returns-clause-happens c =
    let old = c.args.self.now in
    let now = c.finish_research.new.cell in
    let found : get player_order old.accounts c.args.player ≡ Some c.in-Some.cell.now = sym c.in-Some.ensures.value in
    let new : Held = record { accounts = c.get_mut.follows.lender now; planets = c.finish_research.new.planets } in
    let there : IsSome (get player_order old.accounts c.args.player) = subst IsSome (sym found) refl in
    research_happens c.args.rules.now c.args.due old new c.args.player c.in-Some.cell.now now c.requires.named c.requires.due c.requires.queue found
    ((c.get_mut.follows.holds now).3 there) c.finish_research.ensures.second c.finish_research.ensures.keeps c.finish_research.ensures.fleets c.finish_research.ensures.done

pub returns-clause-named : goal.returns-clause-named
returns-clause-named c =
    let old = c.args.self.now in
    let now = c.finish_research.new.cell in
    let found : get player_order old.accounts c.args.player ≡ Some c.in-Some.cell.now = sym c.in-Some.ensures.value in
    let new : Held = record { accounts = c.get_mut.follows.lender now; planets = c.finish_research.new.planets } in
    let there : IsSome (get player_order old.accounts c.args.player) = subst IsSome (sym found) refl in
    player_placed old new c.args.player now ((c.get_mut.follows.holds now).3 there)
    (c.finish_research.ensures.keeps.player ∙ named_account old c.args.player c.in-Some.cell.now c.requires.named found) (c.finish_research.ensures.placed c.requires.named.places) c.requires.named
