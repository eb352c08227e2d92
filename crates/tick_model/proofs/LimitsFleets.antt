-- Fleets that land or turn back keep the limits: no fleet is more laden, and no account has more fleets.
use Rattle.std.proofs.Common.{◌≡◌, ℕ, ◌+◌, ◌≤◌, Bool, true, false, cond, eqb, List, [], ◌∷◌, ◌++◌, Option, None, Some, length, sum, arith, refl, ap, ◌∙◌, sym, subst}
use Rattle.std.specs.Prelude.{slice_index}
use Rattle.std.specs.List.{filter_map, cons_option}
use Rattle.base_ids.specs.Cells.{same_player}
use Rattle.base_ids.specs.declared.player.Player.{Player}
use Rattle.base_ids.specs.declared.cell_id.CellId.{CellId}
use Rattle.base_ids.specs.declared.cell_id.CellId.TheVariants.{Planet}
use Rattle.catalog.specs.Kinds.{place_in}
use Rattle.catalog.specs.declared.classes.TheConstants.{UNIT_KINDS}
use Rattle.catalog.specs.declared.mission.Mission.{Mission}
use Rattle.catalog.specs.declared.mission.Mission.TheVariants.{Transport, Deploy, Harvest, Attack}
use Rattle.catalog.specs.declared.ships.TheConstants.{SHIPS}
use Rattle.flight.specs.Freight.{capacity_of}
use Rattle.reply_text.specs.declared.units.Units.{Units}
use Rattle.tick_model.specs.Changes.{owns}
use Rattle.tick_model.specs.Events.{lands, footprint}
use Rattle.spoils.specs.Harvest.{scraping}
use Rattle.tick_model.specs.Flights.{Landed, arrived, back_at, both_cargoes, free_room, harvest, harvest_room, harvested, joined_by, landed, landing, moored, recalled_at as recalled_second, supplied, turned, turns, cargo_units}
use Rattle.tick_model.specs.Limits.{IsLoaded}
use Rattle.tick_model.specs.Lines.{own_fleets}
use Rattle.tick_model.specs.Rules.{IsIn, KeepsRules}
use Rattle.tick_model.specs.Universe.{Own, of_nothing, of_account, of_planet, Fleet, PlanetFields, Setting, State}
use Rattle.tick_model.specs.Views.{queue_in}
use Rattle.tick_model.specs.Yards.{count_of}
use Rattle.tick_model.proofs.Effects.{seen_of}
use Rattle.tick_model.proofs.Landings.{after_landing, came_landed, landed_own}
use Rattle.tick_model.proofs.LimitsOwn.{AllKept, after-steady, kept-steady}
use Rattle.tick_model.proofs.Lists.{fleet-one, from-changed}
use Rattle.tick_model.proofs.Raising.{dome-place}
use Rattle.tick_model.proofs.Steady.{IsBuiltAlike, IsSteady, SlotsStay, joined-behind, put-steady, steady-itself, steady-planet, steady-slots, units-alike, built-itself}
use Rattle.tick_model.proofs.Writes.{became_at}
use Rattle.tick_model.proofs.Written.{recalled_by}

-- Where a fleet lands, stocks and ships change alone.

moored-count : (planet : PlanetFields) (fleet : Fleet) (place : ℕ) → length fleet.ships ≤ place → slice_index (moored planet fleet).units place ≡ slice_index planet.units place
unfolding moored
moored-count planet fleet place behind = joined-behind planet.units fleet.ships place behind

moored-else : (planet : PlanetFields) (fleet : Fleet) → ((moored planet fleet).levels ≡ planet.levels) × ((moored planet fleet).fields ≡ planet.fields)
unfolding moored
moored-else planet fleet = (refl, refl)

moored-built : (planet : PlanetFields) (fleet : Fleet) → length fleet.ships ≡ length SHIPS → IsBuiltAlike planet (moored planet fleet)
unfolding count_of
moored-built planet fleet kinds = record {
  levels = (moored-else planet fleet).0;
  fields = (moored-else planet fleet).1;
  domes = λ kind is.
      let behind = (dome-place kind is).1 in
      let counts = moored-count planet fleet (place_in UNIT_KINDS kind) (omega (arith, kinds, behind)) in
      omega (arith, counts);
}

supplied-built : (planet : PlanetFields) (fleet : Fleet) → IsBuiltAlike planet (supplied planet fleet)
unfolding supplied
supplied-built planet fleet = units-alike planet (supplied planet fleet) refl refl refl

harvested-built : (planet : PlanetFields) (fleet : Fleet) → IsBuiltAlike planet (harvested planet fleet)
unfolding harvested
harvested-built planet fleet = units-alike planet (harvested planet fleet) refl refl refl

arrived-steady : (mission : Mission) (fleet : Fleet) (planet : PlanetFields) → length fleet.ships ≡ length SHIPS → IsSteady (of_planet planet) (arrived mission fleet planet).own
arrived-steady Transport fleet planet kinds = steady-planet planet (supplied planet fleet) (supplied-built planet fleet)
arrived-steady Deploy fleet planet kinds = steady-planet planet (moored planet fleet) (moored-built planet fleet kinds)
arrived-steady Harvest fleet planet kinds = steady-planet planet (harvested planet fleet) (harvested-built planet fleet)
arrived-steady Attack fleet planet kinds = steady-itself (of_planet planet)

landed_at : (fleet : Fleet) (planet : PlanetFields) (b : Bool) → length fleet.ships ≡ length SHIPS
    → IsSteady (of_planet planet) (cond b (arrived fleet.mission fleet planet) (record { own = of_planet (moored planet fleet); back = None })).own
landed_at fleet planet true kinds = arrived-steady fleet.mission fleet planet kinds
landed_at fleet planet false kinds = steady-planet planet (moored planet fleet) (moored-built planet fleet kinds)

landed-steady : (fleet : Fleet) (own : Own) → length fleet.ships ≡ length SHIPS → IsSteady own (landed fleet own).own
landed-steady fleet of_nothing kinds = steady-itself of_nothing
landed-steady fleet (of_account account) kinds = steady-itself (of_account account)
landed-steady fleet (of_planet planet) kinds = landed_at fleet planet fleet.outbound kinds

pub landing-steady : (setting : Setting) (u : State) (fleet : Fleet) → length fleet.ships ≡ length SHIPS → (x : CellId) → IsSteady (u.own x) ((after_landing setting fleet u).own x)
landing-steady setting u fleet kinds x =
    let seen = seen_of setting (lands fleet) u in
    after-steady setting.cells (footprint (lands fleet)) u (landed_own fleet seen) x
    (put-steady (Planet (landing fleet)) (came_landed fleet seen).own (owns seen) (landed-steady fleet (owns seen (Planet (landing fleet))) kinds) x)

pub landing-kept : (setting : Setting) (u : State) (fleet : Fleet) → length fleet.ships ≡ length SHIPS → AllKept u.own u.items → AllKept (after_landing setting fleet u).own u.items
landing-kept setting u fleet kinds kept x =
    kept-steady (u.own x) ((after_landing setting fleet u).own x) (queue_in u.items x) (landing-steady setting u fleet kinds x) (kept x)

-- How many fleets a player has.

first-counts : (b : Bool) (fleet : Fleet) (rest : List Fleet) → length (cond b (fleet ∷ rest) rest) ≡ cond b 1 0 + length rest
first-counts true fleet rest = let more : length (fleet ∷ rest) ≡ 1 + length rest = omega arith in more
first-counts false fleet rest = let same : length rest ≡ 0 + length rest = omega arith in same

pub own-first : (player : Player) (fleet : Fleet) (fleets : List Fleet) → length (own_fleets player (fleet ∷ fleets)) ≡ cond (same_player fleet.owner player) 1 0 + length (own_fleets player fleets)
own-first player fleet fleets = first-counts (same_player fleet.owner player) fleet (own_fleets player fleets)

one-changed : (player : Player) (fleet : Fleet) (new : Option Fleet) (rest : List Fleet) → ((f : Fleet) → new ≡ Some f → f.owner ≡ fleet.owner)
    → length (own_fleets player (cons_option new rest)) ≤ cond (same_player fleet.owner player) 1 0 + length (own_fleets player rest)
one-changed player fleet None rest owner = omega arith
one-changed player fleet (Some new) rest owner =
    let first = own-first player new rest in
    let same : cond {A = ℕ} (same_player new.owner player) 1 0 ≡ cond (same_player fleet.owner player) 1 0 = ap (λ (k : Player). cond (same_player k player) 1 0) (owner new refl) in
    omega (arith, first, same)

-- fleets that change and stay their owners', or go, are no more
pub changed-fewer : (player : Player) (h : Fleet → Option Fleet) (fleets : List Fleet) → ((old new : Fleet) → h old ≡ Some new → new.owner ≡ old.owner)
    → length (own_fleets player (filter_map h fleets)) ≤ length (own_fleets player fleets)
changed-fewer player h [] owner = omega arith
changed-fewer player h (fleet ∷ fleets) owner =
    let new = one-changed player fleet (h fleet) (filter_map h fleets) (owner fleet) in
    let old = own-first player fleet fleets in
    let rest = changed-fewer player h fleets owner in
    omega (arith, new, old, rest)

-- one more is its owner's
pub own-last : (player : Player) (fleets : List Fleet) (fleet : Fleet) → length (own_fleets player (fleets ++ fleet ∷ [])) ≡ length (own_fleets player fleets) + cond (same_player fleet.owner player) 1 0
own-last player [] fleet = own-first player fleet [] ∙ (let same : cond (same_player fleet.owner player) 1 0 + 0 ≡ 0 + cond (same_player fleet.owner player) 1 0 = omega arith in same)
own-last player (first ∷ fleets) fleet =
    let new = own-first player first (fleets ++ fleet ∷ []) in
    let old = own-first player first fleets in
    let rest = own-last player fleets fleet in
    omega (arith, new, old, rest)

-- A fleet that turns back keeps its ships and its owner.

turns-owner : (back : Option Units) (old new : Fleet) (b : Bool) → cond b (turns back old) (Some old) ≡ Some new → new.owner ≡ old.owner
turns-owner None old new true is = absurd cc
turns-owner (Some cargo) old new true is = let same : turned old (back_at old) cargo ≡ new = cc in ap (λ (f : Fleet). f.owner) (sym same)
turns-owner back old new false is = let same : old ≡ new = cc in ap (λ (f : Fleet). f.owner) (sym same)

pub landing-fewer : (setting : Setting) (u : State) (fleet : Fleet) (player : Player) → length (own_fleets player (after_landing setting fleet u).fleets) ≤ length (own_fleets player u.fleets)
landing-fewer setting u fleet player =
    let back = (came_landed fleet (seen_of setting (lands fleet) u)).back in
    changed-fewer player (became_at fleet.number (turns back)) u.fleets (λ old new is. turns-owner back old new (eqb old.number fleet.number) is)

-- what it brings back is no more than it carries
harvest-fits : (fleet : Fleet) (planet : PlanetFields) → cargo_units fleet.cargo ≤ capacity_of fleet.ships → cargo_units (both_cargoes fleet.cargo (harvest planet fleet)) ≤ capacity_of fleet.ships
unfolding harvest harvest_room free_room scraping
harvest-fits fleet planet fits = omega (arith, fits)

arrived-cargo : (mission : Mission) (fleet : Fleet) (planet : PlanetFields) (cargo : Units) → (arrived mission fleet planet).back ≡ Some cargo → cargo_units fleet.cargo ≤ capacity_of fleet.ships
    → cargo_units cargo ≤ capacity_of fleet.ships
arrived-cargo Transport fleet planet cargo is fits = let none : cargo_units cargo ≡ 0 = (let same : record { metal = 0; crystal = 0; deuterium = 0 } ≡ cargo = cc in ap cargo_units (sym same)) in omega (arith, none)
arrived-cargo Deploy fleet planet cargo is fits = absurd cc
arrived-cargo Harvest fleet planet cargo is fits =
    let all : cargo_units cargo ≡ cargo_units (both_cargoes fleet.cargo (harvest planet fleet)) = (let same : both_cargoes fleet.cargo (harvest planet fleet) ≡ cargo = cc in ap cargo_units (sym same)) in
    let most = harvest-fits fleet planet fits in
    omega (arith, all, most)
arrived-cargo Attack fleet planet cargo is fits = let all : cargo_units cargo ≡ cargo_units fleet.cargo = (let same : fleet.cargo ≡ cargo = cc in ap cargo_units (sym same)) in omega (arith, all, fits)

back_cargo : (fleet : Fleet) (planet : PlanetFields) (cargo : Units) (b : Bool)
    → (cond b (arrived fleet.mission fleet planet) (record { own = of_planet (moored planet fleet); back = None })).back ≡ Some cargo → cargo_units fleet.cargo ≤ capacity_of fleet.ships
    → cargo_units cargo ≤ capacity_of fleet.ships
back_cargo fleet planet cargo true is = arrived-cargo fleet.mission fleet planet cargo is
back_cargo fleet planet cargo false is = absurd cc

landed-cargo : (fleet : Fleet) (own : Own) (cargo : Units) → (landed fleet own).back ≡ Some cargo → cargo_units fleet.cargo ≤ capacity_of fleet.ships → cargo_units cargo ≤ capacity_of fleet.ships
landed-cargo fleet of_nothing cargo is = absurd cc
landed-cargo fleet (of_account account) cargo is = absurd cc
landed-cargo fleet (of_planet planet) cargo is = back_cargo fleet planet cargo fleet.outbound is

pub loaded-less : (fleet : Fleet) (second : ℕ) (cargo : Units) → cargo_units cargo ≤ cargo_units fleet.cargo → IsLoaded fleet → IsLoaded (turned fleet second cargo)
loaded-less fleet second cargo less loaded = let most = loaded.1 in (loaded.0, omega (arith, less, most))

turns-loaded : (back : Option Units) (fleet new : Fleet) → ((cargo : Units) → back ≡ Some cargo → cargo_units fleet.cargo ≤ capacity_of fleet.ships → cargo_units cargo ≤ capacity_of fleet.ships) → turns back fleet ≡ Some new → IsLoaded fleet → IsLoaded new
turns-loaded None fleet new less is loaded = absurd cc
turns-loaded (Some cargo) fleet new less is loaded =
    let same : turned fleet (back_at fleet) cargo ≡ new = cc in
    subst IsLoaded same (loaded.0, less cargo refl loaded.1)

loaded_at : (u : State) (fleet old new : Fleet) (back : Option Units) (b : Bool) → eqb old.number fleet.number ≡ b → (b ≡ true → old ≡ fleet)
    → ((cargo : Units) → back ≡ Some cargo → cargo_units fleet.cargo ≤ capacity_of fleet.ships → cargo_units cargo ≤ capacity_of fleet.ships) → cond b (turns back old) (Some old) ≡ Some new → IsLoaded old → IsLoaded new
loaded_at u fleet old new back true number one less is loaded =
    let same = one refl in
    turns-loaded back fleet new less (ap (turns back) (sym same) ∙ is) (subst IsLoaded same loaded)
loaded_at u fleet old new back false number one less is loaded = let same : old ≡ new = cc in subst IsLoaded same loaded

pub landing-loaded : (setting : Setting) (u : State) (fleet : Fleet) → KeepsRules setting u → IsIn fleet u.fleets → ((f : Fleet) → IsIn f u.fleets → IsLoaded f)
    → (f : Fleet) → IsIn f (after_landing setting fleet u).fleets → IsLoaded f
landing-loaded setting u fleet fine flies loaded new is =
    let seen = seen_of setting (lands fleet) u in
    let back = (came_landed fleet seen).back in
    let found = from-changed (became_at fleet.number (turns back)) new u.fleets is in
    let number = eqb found.0.number fleet.number in
    loaded_at u fleet found.0 new back number refl (λ same. fleet-one u.fleets found.0 fleet fine.apart found.1 flies same)
    (λ cargo brings. landed-cargo fleet (owns seen (Planet (landing fleet))) cargo brings) found.2 (loaded found.0 found.1)

-- A fleet that is recalled is as laden as it was, and its owner's.

recalled_at : (t : ℕ) (old new : Fleet) (b : Bool) → cond b (recalled_by t old) (Some old) ≡ Some new → (new.owner ≡ old.owner) × (IsLoaded old → IsLoaded new)
recalled_at t old new true is =
    let same : turned old (recalled_second old t) old.cargo ≡ new = cc in
    (ap (λ (f : Fleet). f.owner) (sym same), λ loaded. subst IsLoaded same (loaded-less old (recalled_second old t) old.cargo (omega arith) loaded))
recalled_at t old new false is = let same : old ≡ new = cc in (ap (λ (f : Fleet). f.owner) (sym same), subst IsLoaded same)

pub recalled-fewer : (t number : ℕ) (fleets : List Fleet) (player : Player) → length (own_fleets player (filter_map (became_at number (recalled_by t)) fleets)) ≤ length (own_fleets player fleets)
recalled-fewer t number fleets player = changed-fewer player (became_at number (recalled_by t)) fleets (λ old new is. (recalled_at t old new (eqb old.number number) is).0)

pub recalled-loaded : (t number : ℕ) (fleets : List Fleet) → ((f : Fleet) → IsIn f fleets → IsLoaded f) → (f : Fleet) → IsIn f (filter_map (became_at number (recalled_by t)) fleets) → IsLoaded f
recalled-loaded t number fleets loaded new is =
    let found = from-changed (became_at number (recalled_by t)) new fleets is in
    (recalled_at t found.0 new (eqb found.0.number number) found.2).1 (loaded found.0 found.1)
