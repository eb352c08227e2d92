use Rattle.std.proofs.Common.{All, map, refl, subst, sym, take}
use Rattle.std.proofs.lemmas.List.{take_all}
use Rattle.std.proofs.lemmas.List.Elements.{All-push}
use Rattle.base_bytes.specs.Sound.{IsSoundFleet}
use Rattle.base_bytes.proofs.Grouping.{seen-more, seen-one}
use Rattle.fleet_rec.specs.Fleet.{fleet_seen}
use Rattle.base_bytes.proofs.fleet_rules.are_sound.Goals as goal

pub returns-then-not-is_sound_fleet : goal.returns-then-not-is_sound_fleet
returns-then-not-is_sound_fleet c = (
  (λ not_true. absurd cc),
  (λ all.
      let one = seen-one (IsSoundFleet c.args.base.now) c.args.fleets.now c.fleets.fleet-index c.fleet-item.result c.fleets-test.true c.fleet-item.is all in
      absurd (cc (c.is_sound_fleet.ensures.1 one, c.if-not-is_sound_fleet.true))),
)

pub fleets-preserved : goal.fleets-preserved
fleets-preserved c =
    let held = c.args.fleets.now in
    let i = c.fleets.fleet-index in
    let fleet = c.fleet-item.result in
    let sound = IsSoundFleet c.args.base.now in
    subst (All sound) (sym (seen-more held i fleet c.fleets-test.true c.fleet-item.is))
    (All-push sound (map fleet_seen (take i held)) (fleet_seen fleet) c.fleets.invariant (c.is_sound_fleet.ensures.0 c.if-not-is_sound_fleet.false))

pub returns : goal.returns
returns c =
    let whole = take_all c.fleets.fleet-index c.args.fleets.now c.fleets-test.false in
    ((λ is_true. subst (λ l. All (IsSoundFleet c.args.base.now) (map fleet_seen l)) whole c.fleets.invariant), (λ all. refl))
