use Rattle.std.proofs.Common.{◌+◌, ◌<◌, ◌++◌, All, length, map, drop, get_or, arith, subst, sym}
use Rattle.std.specs.List.{flat_map}
use Rattle.std.proofs.lemmas.List.Elements.{All-push}
use Rattle.base_bytes.specs.Spelling.{fleet_bytes}
use Rattle.base_bytes.specs.Told.{IsOwnAt}
use Rattle.base_bytes.proofs.FleetBytes.{fleet-read, next-fleet, room-for-all}
use Rattle.base_bytes.proofs.Listing.{some-element}
use Rattle.fleet_rec.specs.Fleet.{fleet_seen}
use Rattle.tick_model.specs.Universe.{Fleet}
use Rattle.base_bytes.proofs.lists.next_fleets.Goals as goal

pub returns-then-count-numbers-clause-fleets : goal.returns-then-count-numbers-clause-fleets
returns-then-count-numbers-clause-fleets c = λ held more rise size fits is. let room = room-for-all held _ more is in absurd (omega arith)

pub returns-in_default-clause-fleets : goal.returns-in_default-clause-fleets
returns-in_default-clause-fleets c = λ held more rise size fits is.
    let i = c.fleets.counter in
    let so_far = c.fleets.invariant.fleets held more rise size fits is in
    let below : i < length held = omega (arith, size) in
    let d = some-element held i below in
    let after = flat_map fleet_bytes (map fleet_seen (drop (i + 1) held)) ++ more in
    let next = c.in_default.ensures.fleet (get_or held i d) after rise (fits i d below) (next-fleet held i d _ more below so_far.1) in
    absurd (next.0)

pub fleets-preserved : goal.fleets-preserved
fleets-preserved c =
    let i = c.fleets.counter in
    let found = c.in-Some.fleet in
    let names_owner = λ (fleet : Fleet). IsOwnAt c.args.planets.now fleet.target_owner fleet.target in
    record {
      fleets = λ held more rise size fits is.
          let so_far = c.fleets.invariant.fleets held more rise size fits is in
          let below : i < length held = omega (arith, size) in
          let after = flat_map fleet_bytes (map fleet_seen (drop (i + 1) held)) ++ more in
          let next = c.in-Some.ensures.fleet (get_or held i found) after rise (fits i found below) (next-fleet held i found _ more below so_far.1) in
          (fleet-read held _ _ i found found below so_far.0 next.0 c.in_ok-push.ensures.ok, next.1);
      owners = subst (All names_owner) (sym c.in_ok-push.ensures.ok) (All-push names_owner c.fleets.fleets (fleet_seen found) c.fleets.invariant.owners c.in-Some.ensures.owner);
    }
