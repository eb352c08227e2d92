-- A battle keeps the limits: units fall, levels stay, and what is left of a fleet has ships and carries its cargo.
use Rattle.std.proofs.Common.{◌≡◌, ℕ, zero, suc, ◌≤◌, Bool, true, List, [], ◌∷◌, Option, Some, length, arith, refl, ap, ◌∙◌, sym, subst, get_or}
use Rattle.std.specs.Prelude.{slice_index}
use Rattle.base_ids.specs.declared.player.Player.{Player}
use Rattle.base_ids.specs.declared.cell_id.CellId.{CellId}
use Rattle.base_ids.specs.declared.cell_id.CellId.TheVariants.{Planet}
use Rattle.catalog.specs.Kinds.{place_in}
use Rattle.catalog.specs.declared.classes.TheConstants.{UNIT_KINDS}
use Rattle.catalog.specs.declared.ships.TheConstants.{SHIPS}
use Rattle.tick_model.specs.Battles.{fought}
use Rattle.tick_model.specs.Changes.{owns}
use Rattle.tick_model.specs.Events.{fights, footprint}
use Rattle.tick_model.specs.Limits.{IsLoaded}
use Rattle.tick_model.specs.Lines.{own_fleets}
use Rattle.tick_model.specs.Raids.{Raid}
use Rattle.tick_model.specs.Rules.{IsIn, KeepsRules}
use Rattle.tick_model.specs.Universe.{Own, of_planet, PlanetFields, Fleet, Setting, State}
use Rattle.tick_model.specs.Views.{queue_in}
use Rattle.tick_model.specs.Yards.{count_of}
use Rattle.tick_model.proofs.Battles.{comes-back}
use Rattle.tick_model.proofs.Battling.{Becomes, is_back, stays_so, after_battle, battle-home, became, becomes, came_fought, fought_own}
use Rattle.tick_model.proofs.Effects.{seen_of}
use Rattle.tick_model.proofs.LimitsFleets.{changed-fewer}
use Rattle.tick_model.proofs.LimitsOwn.{AllKept, after-steady, kept-steady}
use Rattle.tick_model.proofs.Lists.{from-changed}
use Rattle.tick_model.proofs.Losses.{AreBelow, fought-below, fought-left}
use Rattle.tick_model.proofs.Raids.{IsRaidIn}
use Rattle.tick_model.proofs.Steady.{IsBuiltAlike, IsSteady, put-steady, steady-planet}
use Rattle.tick_model.proofs.Writes.{shown-own}

below-at : (xs ys : List ℕ) (place : ℕ) → AreBelow xs ys → slice_index xs place ≤ slice_index ys place
below-at [] [] place below = omega arith
below-at [] (y ∷ ys) place below = absurd below
below-at (x ∷ xs) [] place below = absurd below
below-at (x ∷ xs) (y ∷ ys) zero below = below.0
below-at (x ∷ xs) (y ∷ ys) (suc place) below = below-at xs ys place below.1

fought-built : (seed : ℕ) (own : CellId → Own) (raid : Raid) (planet : PlanetFields) → length planet.units ≡ length UNIT_KINDS → IsBuiltAlike planet (fought seed own raid planet).planet
unfolding fought count_of
fought-built seed own raid planet all = record {
  levels = refl;
  fields = refl;
  domes = λ kind dome. below-at (fought seed own raid planet).planet.units planet.units (place_in UNIT_KINDS kind) (fought-below seed own raid planet all);
}

module _ (setting : Setting) (state : State) (raid : Raid) (fine : KeepsRules setting state) (is_in : IsRaidIn state raid) where
  abbrev state_after : State
  state_after = after_battle setting raid state is_in.planet

  abbrev h : Fleet → Option Fleet
  h = became setting state raid fine is_in

  abbrev left : List Fleet
  left = (came_fought setting raid state is_in.planet).fleets

  pub battle-steady : (x : CellId) → IsSteady (state.own x) (state_after.own x)
  battle-steady x =
      let seen = owns (seen_of setting (fights raid) state) in
      let place = Planet raid.target in
      let came = (came_fought setting raid state is_in.planet).planet in
      let here : seen place ≡ of_planet is_in.planet = shown-own setting.cells (footprint (fights raid)) state place (battle-home raid) ∙ is_in.there in
      let built = steady-planet is_in.planet came (fought-built setting.rules.seed seen raid is_in.planet (fine.kinds place is_in.planet is_in.there)) in
      after-steady setting.cells (footprint (fights raid)) state (fought_own setting raid state is_in.planet) x
      (put-steady place (of_planet came) seen (subst (λ old. IsSteady old (of_planet came)) (sym here) built) x)

  -- every cell keeps its levels
  pub battle-kept : AllKept state.own state.items → AllKept state_after.own state_after.items
  battle-kept kept x = kept-steady (state.own x) (state_after.own x) (queue_in state.items x) (battle-steady x) (kept x)

  raid-kinds : (fleet : Fleet) → IsIn fleet raid.fleets → length fleet.ships ≡ length SHIPS
  raid-kinds fleet is = (fine.flying fleet (is_in.each fleet is).flies).kinds

  became-loaded : (old new : Fleet) → Becomes left raid old new → IsLoaded old → IsLoaded new
  became-loaded old new (stays_so other same) loaded = subst IsLoaded same loaded
  became-loaded old new (is_back in_raid back_is) loaded =
      let back = comes-back left old new back_is in
      let rest = fought-left setting.rules.seed (owns (seen_of setting (fights raid) state)) raid is_in.planet raid-kinds back.rest back.within in
      subst IsLoaded back.is (rest.manned, rest.laden_so)

  pub battle-loaded : ((fleet : Fleet) → IsIn fleet state.fleets → IsLoaded fleet) → (fleet : Fleet) → IsIn fleet state_after.fleets → IsLoaded fleet
  battle-loaded loaded new is =
      let found = from-changed h new state.fleets is in
      became-loaded found.0 new (becomes left raid found.0 new found.2) (loaded found.0 found.1)

  became-owner : (old new : Fleet) → Becomes left raid old new → new.owner ≡ old.owner
  became-owner old new (stays_so other same) = ap (λ (f : Fleet). f.owner) (sym same)
  became-owner old new (is_back in_raid back_is) = ap (λ (f : Fleet). f.owner) (sym (comes-back left old new back_is).is)

  -- and no account has more fleets
  pub battle-fewer : (player : Player) → length (own_fleets player state_after.fleets) ≤ length (own_fleets player state.fleets)
  battle-fewer player = changed-fewer player h state.fleets (λ old new is. became-owner old new (becomes left raid old new is))
