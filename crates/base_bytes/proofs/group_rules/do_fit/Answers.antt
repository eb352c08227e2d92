use Rattle.std.proofs.Common.{map, refl, subst, take}
use Rattle.std.proofs.lemmas.List.{take_all}
use Rattle.base_bytes.proofs.Grouping.{fit-upto, noted-fit}
use Rattle.base_bytes.specs.Tallies.{FitInGroups}
use Rattle.fleet_rec.specs.Fleet.{fleet_seen}
use Rattle.base_bytes.proofs.group_rules.do_fit.Goals as goal

pub returns-then-not-fits : goal.returns-then-not-fits
returns-then-not-fits c =
    let held = c.args.fleets.now in
    let i = c.fleets.fleet-index in
    let fleet = c.fleet-item.result in (
      (λ not_true. absurd cc),
      (λ fit.
          let seen = map fleet_seen (take i held) in
          let fits = c.in_ok-fits.ensures.fits seen c.fleets.invariant (fit-upto held i fleet c.fleets-test.true c.fleet-item.is fit) in
          absurd (cc (fits, c.if-not-fits.true))),
    )

pub returns : goal.returns
returns c =
    let held = c.args.fleets.now in
    let whole = take_all c.fleets.fleet-index held c.fleets-test.false in
    ((λ is_true. subst (λ l. FitInGroups (map fleet_seen l)) whole (noted-fit c.fleets.groups (map fleet_seen (take c.fleets.fleet-index held)) c.fleets.invariant)), (λ fit. refl))
