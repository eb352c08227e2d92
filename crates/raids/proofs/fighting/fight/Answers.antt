use Rattle.std.proofs.Common.{◌∙◌, [], ◌∷◌, ap, arith, length, subst, sym}
use Rattle.std.proofs.lemmas.Result.{IfOk-weaker}
use Rattle.battle.specs.Sides.{IsSide}
use Rattle.battle.specs.declared.part.Part.{Part}
use Rattle.raids.proofs.Ended.{both_left}
use Rattle.raids.proofs.Mustered.{home_side, raiders_side}
use Rattle.raids.proofs.Settled.{settled, sides_fought}
use Rattle.raids.specs.Aftermath.{IsAftermath}
use Rattle.raids.specs.Leaving.{AreFleets}
use Rattle.raids.specs.Parts.{home_part}
use Rattle.raids.proofs.fighting.fight.Goals as goal

pub fight-requires-clause-attackers : goal.fight-requires-clause-attackers
fight-requires-clause-attackers c =
    subst IsSide (sym c.in_ok-fleets.ensures) (raiders_side c.args.raiders.now c.requires.rising c.requires.few)

pub fight-requires-clause-planet : goal.fight-requires-clause-planet
fight-requires-clause-planet c =
    let part = c.home_part-part.ensures in
    let all = sym (ap (λ (p : Part). length p.n) part.value) ∙ part.kinds in
    let homes = c.in_ok-home.ensures ∙ ap (λ (p : Part). p ∷ []) part.value in
    subst IsSide (sym homes) (home_side c.args.planet.now.units c.args.techs all (omega (arith, c.args.planet.now.within_units)))

pub aftermath-requires-clause-parts : goal.aftermath-requires-clause-parts
aftermath-requires-clause-parts c =
    let home = home_part c.args.planet.now.units c.args.techs in
    let part = c.home_part-part.ensures in
    let all = sym (ap (λ (p : Part). length p.n) part.value) ∙ part.kinds in
    let homes = c.in_ok-home.ensures ∙ ap (λ (p : Part). p ∷ []) part.value in
    let is = sides_fought c.args.raiders.now home c.args.seed c.args.group c.in_ok-outcome.outcome c.in_ok-fleets.fleets c.in_ok-home.home c.fight.new.att c.fight.new.def c.in_ok-fleets.ensures homes c.in_ok-outcome.ensures.ok in
    ap length c.as_slice-2.ensures ∙ (both_left c.args.raiders.now home c.args.seed c.args.group c.in_ok-outcome.outcome c.fight.new.att c.fight.new.def all is).parts

pub aftermath-requires-clause-fleets : goal.aftermath-requires-clause-fleets
aftermath-requires-clause-fleets c =
    let home = home_part c.args.planet.now.units c.args.techs in
    let part = c.home_part-part.ensures in
    let all = sym (ap (λ (p : Part). length p.n) part.value) ∙ part.kinds in
    let homes = c.in_ok-home.ensures ∙ ap (λ (p : Part). p ∷ []) part.value in
    let is = sides_fought c.args.raiders.now home c.args.seed c.args.group c.in_ok-outcome.outcome c.in_ok-fleets.fleets c.in_ok-home.home c.fight.new.att c.fight.new.def c.in_ok-fleets.ensures homes c.in_ok-outcome.ensures.ok in
    subst AreFleets (sym c.as_slice-2.ensures) (both_left c.args.raiders.now home c.args.seed c.args.group c.in_ok-outcome.outcome c.fight.new.att c.fight.new.def all is).fleets

pub returns : goal.returns
returns c =
    let home = home_part c.args.planet.now.units c.args.techs in
    let part = c.home_part-part.ensures in
    let all = sym (ap (λ (p : Part). length p.n) part.value) ∙ part.kinds in
    let homes = c.in_ok-home.ensures ∙ ap (λ (p : Part). p ∷ []) part.value in
    let is = sides_fought c.args.raiders.now home c.args.seed c.args.group c.in_ok-outcome.outcome c.in_ok-fleets.fleets c.in_ok-home.home c.fight.new.att c.fight.new.def c.in_ok-fleets.ensures homes c.in_ok-outcome.ensures.ok in
    IfOk-weaker c.aftermath.result _ (IsAftermath c.args.seed c.args.group c.args.raiders.now c.args.planet.now c.args.techs)
    (λ after left. settled c.args.seed c.args.group c.args.raiders.now c.args.planet.now c.args.techs c.in_ok-outcome.outcome c.fight.new.att c.fight.new.def c.as_slice-2.result.now c.as_slice.result.now _ after all
    c.as_slice-2.ensures c.as_slice.ensures is left)
    c.aftermath.ensures
