use Rattle.std.proofs.Common.{rules, ◌≡◌, ◌++◌, [], All, List, length, map, ap, arith, subst, sym, ◌∙◌}
use Rattle.std.specs.List.{AllZip, flat_map}
use Rattle.std.proofs.lemmas.List.{length-map}
use Rattle.std.proofs.lemmas.List.Elements.{length_all_zip}
use Rattle.account_cell.specs.declared.account.Account.{Account}
use Rattle.base_bytes.specs.Sound.{places_owned}
use Rattle.base_bytes.specs.Spelling.{account_bytes, counts_bytes, fleet_bytes, planet_bytes}
use Rattle.base_bytes.specs.Told.{AreAlike, AreSame, AreSizes, DoRise, FleetFits, IsHead, IsOwnAt}
use Rattle.base_bytes.proofs.Listing.{holds-if, holds-of, not-none}
use Rattle.base_bytes.proofs.Telling.{alike-through, base-parts, fleets-fit, rise-same}
use Rattle.fleet_rec.specs.Fleet.{fleet_seen}
use Rattle.planet_cell.specs.declared.planet.Planet.{Planet}
use Rattle.tick_model.specs.Universe.{Fleet}
use Rattle.base_bytes.proofs.parsing.parse.Goals as goal
use Rattle.base_bytes.proofs.parsing.parse.Goals.{in_default-via-in-Some+in_default, in_default-via-in_default, in_default-2-via-in-Some+in_default, in_default-2-via-in_default}

pub returns-in_default-clause-base : goal.returns-in_default-clause-base
returns-in_default-clause-base c = λ base fits is.
    let after_4 = flat_map fleet_bytes base.fleets ++ [] in
    let after_3 = flat_map planet_bytes base.planets.items ++ after_4 in
    let after_2 = flat_map account_bytes base.accounts.items ++ after_3 in
    let after_1 = counts_bytes base ++ after_2 in
    let head = c.next_head.ensures base after_1 fits.seed (is ∙ base-parts base) in
    let sizes = c.next_sizes.ensures base after_2 fits.sizes head.1 in
    elim c.in_default.branch [
      | in_default-via-in-Some+in_default w ↦ not-none _ (AreSizes base) w.in_default.is-1 sizes.0
      | in_default-via-in_default w ↦ not-none _ (IsHead base) w.in_default.is-0 head.0
    ]

pub returns-in_default-2-clause-base : goal.returns-in_default-2-clause-base
returns-in_default-2-clause-base c = λ base fits is.
    let after_4 = flat_map fleet_bytes base.fleets ++ [] in
    let after_3 = flat_map planet_bytes base.planets.items ++ after_4 in
    let after_2 = flat_map account_bytes base.accounts.items ++ after_3 in
    let after_1 = counts_bytes base ++ after_2 in
    let head = c.next_head.ensures base after_1 fits.seed (is ∙ base-parts base) in
    let sizes = c.next_sizes.ensures base after_2 fits.sizes head.1 in
    let counted = holds-of _ c.in-Some-Some.sizes (AreSizes base) c.in-Some-Some.is-1 sizes.0 in
    let accounts = c.in_ok-accounts.ensures.list base.accounts.items after_3 (sym counted.accounts) fits.accounts sizes.1 in
    let planets = c.in_ok-planets.ensures.list base.planets.items after_4 (sym counted.planets) fits.planets accounts.1 in
    elim c.in_default-2.branch [
      | in_default-2-via-in-Some+in_default w ↦ not-none _ _ w.in_default-2.is-1 planets.0
      | in_default-2-via-in_default w ↦ not-none _ _ w.in_default-2.is-0 accounts.0
    ]

pub returns-in_default-fleets-clause-base : goal.returns-in_default-fleets-clause-base
returns-in_default-fleets-clause-base c = λ base fits is.
    let after_4 = flat_map fleet_bytes base.fleets ++ [] in
    let after_3 = flat_map planet_bytes base.planets.items ++ after_4 in
    let after_2 = flat_map account_bytes base.accounts.items ++ after_3 in
    let after_1 = counts_bytes base ++ after_2 in
    let head = c.next_head.ensures base after_1 fits.seed (is ∙ base-parts base) in
    let sizes = c.next_sizes.ensures base after_2 fits.sizes head.1 in
    let counted = holds-of _ c.in-Some-Some.sizes (AreSizes base) c.in-Some-Some.is-1 sizes.0 in
    let accounts = c.in_ok-accounts.ensures.list base.accounts.items after_3 (sym counted.accounts) fits.accounts sizes.1 in
    let planets = c.in_ok-planets.ensures.list base.planets.items after_4 (sym counted.planets) fits.planets accounts.1 in
    let found = c.in-Some-Some-2.planets.items in
    let same : AllZip AreSame base.planets.items found = holds-of _ c.in-Some-Some-2.planets _ c.in-Some-Some-2.is-1 planets.0 in
    let size : length fits.held ≡ c.in-Some-Some.sizes.fleets = sym (counted.fleets ∙ ap length fits.fleets ∙ length-map fits.held fleet_seen) in
    let flying = subst (λ (all : List Planet). All (FleetFits all) fits.held) (sym c.deref.ensures.value) (fleets-fit fits.held base.planets.items found same fits.flying) in
    let rise = subst DoRise (sym c.deref.ensures.value) (rise-same base.planets.items found same fits.rise) in
    let fleets = c.in_ok-fleets.ensures.fleets fits.held [] rise size flying (planets.1 ∙ ap (λ (all : List Fleet). flat_map fleet_bytes all ++ []) fits.fleets) in
    not-none _ _ c.in_default-fleets.is fleets.0

pub returns-clause-base : goal.returns-clause-base
returns-clause-base c = λ base fits is.
    let after_4 = flat_map fleet_bytes base.fleets ++ [] in
    let after_3 = flat_map planet_bytes base.planets.items ++ after_4 in
    let after_2 = flat_map account_bytes base.accounts.items ++ after_3 in
    let after_1 = counts_bytes base ++ after_2 in
    let head = c.next_head.ensures base after_1 fits.seed (is ∙ base-parts base) in
    let sizes = c.next_sizes.ensures base after_2 fits.sizes head.1 in
    let counted = holds-of _ c.in-Some-Some.sizes (AreSizes base) c.in-Some-Some.is-1 sizes.0 in
    let accounts = c.in_ok-accounts.ensures.list base.accounts.items after_3 (sym counted.accounts) fits.accounts sizes.1 in
    let planets = c.in_ok-planets.ensures.list base.planets.items after_4 (sym counted.planets) fits.planets accounts.1 in
    let found = c.in-Some-Some-2.planets.items in
    let same : AllZip AreSame base.planets.items found = holds-of _ c.in-Some-Some-2.planets _ c.in-Some-Some-2.is-1 planets.0 in
    let size : length fits.held ≡ c.in-Some-Some.sizes.fleets = sym (counted.fleets ∙ ap length fits.fleets ∙ length-map fits.held fleet_seen) in
    let flying = subst (λ (all : List Planet). All (FleetFits all) fits.held) (sym c.deref.ensures.value) (fleets-fit fits.held base.planets.items found same fits.flying) in
    let rise = subst DoRise (sym c.deref.ensures.value) (rise-same base.planets.items found same fits.rise) in
    let fleets = c.in_ok-fleets.ensures.fleets fits.held [] rise size flying (planets.1 ∙ ap (λ (all : List Fleet). flat_map fleet_bytes all ++ []) fits.fleets) in
    let told = holds-of _ c.in-Some-Some.head (IsHead base) c.in-Some-Some.is-0 head.0 in
    let alike : AllZip AreAlike base.accounts.items c.in-Some-Some-2.accounts.items = holds-of _ c.in-Some-Some-2.accounts _ c.in-Some-Some-2.is-0 accounts.0 in
    record {
      seed = told.seed;
      speed = told.speed;
      capacity = told.capacity;
      moment = told.moment;
      number = told.number;
      accounts = alike-through base.accounts.items c.in-Some-Some-2.accounts.items c.in_ok-accounts-2.accounts.items alike c.in_ok-accounts-2.ensures.alike;
      planets = same;
      fleets = holds-of _ c.in-Some.fleets (λ (all : List Fleet). all ≡ map fleet_seen fits.held) c.in-Some.is fleets.0 ∙ sym fits.fleets;
    }

pub returns-clause-read : goal.returns-clause-read
returns-clause-read c =
    let accounts = holds-if _ c.in-Some-Some-2.accounts _ c.in-Some-Some-2.is-0 c.in_ok-accounts.ensures.size in
    let planets = holds-if _ c.in-Some-Some-2.planets _ c.in-Some-Some-2.is-1 c.in_ok-planets.ensures.size in
    let long = length_all_zip AreAlike c.in-Some-Some-2.accounts.items c.in_ok-accounts-2.accounts.items c.in_ok-accounts-2.ensures.alike in
    let named = λ (found : List Planet) (fleet : Fleet). IsOwnAt found fleet.target_owner fleet.target in
    record {
      seed = search rules;
      players = omega (arith, accounts, long, c.in-Some-Some.sizes.few_accounts);
      planets = omega (arith, planets, c.in-Some-Some.sizes.few_planets);
      listed = subst (λ (found : List Planet). All (λ (account : Account). account.planets.items ≡ places_owned account.player found) c.in_ok-accounts-2.accounts.items) c.deref-2.ensures.value c.in_ok-accounts-2.ensures.places;
      named = subst (λ (found : List Planet). All (named found) c.in-Some.fleets) c.deref.ensures.value
          (holds-if _ c.in-Some.fleets (All (named c.deref.result.now)) c.in-Some.is c.in_ok-fleets.ensures.owners);
    }
