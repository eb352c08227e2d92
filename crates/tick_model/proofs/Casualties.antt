-- How many units accounts have after a battle.
use Rattle.std.proofs.Common.{◌≡◌, ℕ, ◌+◌, ◌-◌, ◌≤◌, Bool, true, false, cond, eqb, Option, None, Some, filter, length, sum, sum_by, arith, refl, ap, ◌∙◌, sym, subst}
use Rattle.std.specs.List.{filter_map}
use Rattle.base_ids.specs.Cells.{same_cell, same_player}
use Rattle.base_ids.specs.declared.player.Player.{Player}
use Rattle.base_ids.specs.declared.cell_id.CellId.{CellId}
use Rattle.base_ids.specs.declared.cell_id.CellId.TheVariants.{Account, Planet}
use Rattle.catalog.specs.declared.ships.TheConstants.{SHIPS}
use Rattle.tick_model.specs.Changes.{owns}
use Rattle.tick_model.specs.Events.{battle_change, battle_losses, fights, ships_lost, units_lost}
use Rattle.tick_model.specs.Raids.{Raid}
use Rattle.tick_model.specs.Requests.{is_there}
use Rattle.tick_model.specs.Rules.{IsIn, KeepsRules}
use Rattle.tick_model.specs.Universe.{of_planet, PlanetFields, Yard, Fleet, Setting, State}
use Rattle.tick_model.specs.Views.{belongs, holding, holding_at, queue_in, ships_of, units_held, units_left, units_of, view}
use Rattle.tick_model.proofs.Battles.{back-belongs, comes-back, fought-owner}
use Rattle.tick_model.proofs.Battling.{Becomes, is_back, stays_so, after_battle, battle-elsewhere, battle-place, became, becomes, came_fought, raider-one, sums-less}
use Rattle.tick_model.proofs.Effects.{seen_of}
use Rattle.tick_model.proofs.Landings.{weight}
use Rattle.tick_model.proofs.Lists.{cell-itself, filter-changed, fleet-one}
use Rattle.tick_model.proofs.Losses.{fought-left, fought-units}
use Rattle.tick_model.proofs.Raids.{IsRaidIn}
use Rattle.tick_model.proofs.Sums.{sum-more}
use Rattle.tick_model.proofs.Writes.{flown-own}

held-less : (b : Bool) (before after left : ℕ) → after ≤ before → cond b (before + left) 0 ≡ cond b (after + left) 0 + cond b (before - after) 0
held-less true before after left less = omega (arith, less)
held-less false before after left less = refl

ships-at : (b : Bool) (before after : ℕ) → after ≤ before → cond b after 0 ≤ cond b before 0
ships-at true before after less = less
ships-at false before after less = omega arith

all-fewer : (planets planets' lost ships ships' : ℕ) → planets ≡ planets' + lost → ships' ≤ ships → planets' + ships' ≡ (planets + ships) - ((ships - ships') + lost)
all-fewer planets planets' lost ships ships' planets_is less = omega (arith, planets_is, less)

lost-within : (planets planets' lost ships ships' : ℕ) → planets ≡ planets' + lost → (ships - ships') + lost ≤ planets + ships
lost-within planets planets' lost ships ships' planets_is = omega (arith, planets_is)

module _ (setting : Setting) (state : State) (raid : Raid) (fine : KeepsRules setting state) (is_in : IsRaidIn state raid) where
  abbrev new : State
  new = after_battle setting raid state is_in.planet

  abbrev place : CellId
  place = Planet raid.target

  abbrev came_planet : PlanetFields
  came_planet = (came_fought setting raid state is_in.planet).planet

  abbrev h : Fleet → Option Fleet
  h = became setting state raid fine is_in

  raid-kinds : (fleet : Fleet) → IsIn fleet raid.fleets → length fleet.ships ≡ length SHIPS
  raid-kinds fleet is = (fine.flying fleet (is_in.each fleet is).flies).kinds

  -- no fleet has more ships
  fewer-ships : (player : Player) (old : Fleet) (o : Option Fleet) → IsIn old state.fleets → ((fleet : Fleet) → o ≡ Some fleet → Becomes (came_fought setting raid state is_in.planet).fleets raid old fleet)
      → weight (ships_of player) o ≤ ships_of player old
  fewer-ships player old None flies is = omega arith
  fewer-ships player old (Some fleet) flies is = elim (is fleet refl) [
    | stays_so other same ↦ subst (λ f. ships_of player f ≤ ships_of player old) same (omega arith)
    | is_back in_raid back_is ↦
        (let left = (came_fought setting raid state is_in.planet).fleets in
        let back = comes-back left old fleet back_is in
        let rest = fought-left setting.rules.seed (owns (seen_of setting (fights raid) state)) raid is_in.planet raid-kinds back.rest back.within in
        let mine = raider-one setting state raid fine is_in old flies in_raid in
        let numbers : eqb old.number rest.one.number ≡ true = subst (λ n. eqb old.number n ≡ true) rest.number back.same in
        let one = fleet-one state.fleets old rest.one fine.apart flies (is_in.each rest.one rest.within).flies numbers in
        let fewer : sum back.rest.ships ≤ sum old.ships = subst (λ f. sum back.rest.ships ≤ sum f.ships) (sym one) rest.fewer in
        subst (λ f. ships_of player f ≤ ships_of player old) back.is (ships-at (same_player old.owner player) (sum old.ships) (sum back.rest.ships) fewer))
  ]

  flown-fewer : (player : Player) → sum_by (ships_of player) (filter_map h state.fleets) ≤ sum_by (ships_of player) state.fleets
  flown-fewer player =
      sums-less (ships_of player) h state.fleets
      (λ old is. fewer-ships player old (h old) is (λ fleet becomes_it. becomes (came_fought setting raid state is_in.planet).fleets raid old fleet becomes_it))

  -- the ships that are lost are those of the account's own fleets
  lost-there : (player : Player) → ((x y : Fleet) → h x ≡ Some y → belongs (Account player) y ≡ true → belongs (Account player) x ≡ true)
      → ships_lost player h (view setting.cells state (Account player)).fleets ≡ sum_by (ships_of player) state.fleets - sum_by (ships_of player) (filter_map h state.fleets)
  lost-there player shrinks =
      let mine = belongs (Account player) in
      let before = flown-own player state.fleets in
      let after : sum_by (ships_of player) (filter_map h (filter mine state.fleets)) ≡ sum_by (ships_of player) (filter_map h state.fleets) =
      flown-own player (filter_map h (filter mine state.fleets))
      ∙ ap (sum_by (ships_of player)) (sym (filter-changed mine h state.fleets shrinks))
      ∙ sym (flown-own player (filter_map h state.fleets)) in
      λ i. sym before i - after i

  still-mine : (player : Player) (x y : Fleet) → h x ≡ Some y → belongs (Account player) y ≡ true → belongs (Account player) x ≡ true
  still-mine player x y is mine =
      let left = (came_fought setting raid state is_in.planet).fleets in
      elim (becomes left raid x y is) [
        | is_back in_raid back ↦ back-belongs left (Account player) x y back mine
        | stays_so other same ↦ ap (belongs (Account player)) same ∙ mine
      ]

  place-held : (player : Player) → units_held player (holding_at state place) ≡ units_held player (holding_at new place) + units_lost player (state.own place) (of_planet came_planet)
  place-held player =
      let batches = queue_in state.items place Yard in
      let own = owns (seen_of setting (fights raid) state) in
      let fewer = fought-units setting.rules.seed own raid is_in.planet (fine.kinds place is_in.planet is_in.there) in
      let owner = fought-owner setting.rules.seed own raid is_in.planet in
      ap (λ o. units_held player (holding o batches)) is_in.there
      ∙ held-less (same_player is_in.planet.owner player) (sum is_in.planet.units) (sum came_planet.units) (units_left batches) fewer
      ∙ (λ i. cond (same_player (sym owner i) player) (sum came_planet.units + units_left batches) 0 + cond (same_player is_in.planet.owner player) (sum is_in.planet.units - sum came_planet.units) 0)
      ∙ (λ i. units_held player (holding (sym (battle-place setting state raid fine is_in) i) batches) + units_lost player (sym is_in.there i) (of_planet came_planet))

  pub battle-counted : (x : CellId) → units_of setting.cells (holding_at new) new.fleets x
      ≡ (view setting.cells state x).units
      - battle_losses raid (battle_change setting.rules raid (seen_of setting (fights raid) state) (of_planet is_in.planet)) (view setting.cells state) x
  battle-counted (Planet at) = refl
  battle-counted (Account player) =
      let f = λ (y : CellId). units_held player (holding_at state y) in
      let g = λ (y : CellId). units_held player (holding_at new y) in
      let lost = units_lost player (state.own place) (of_planet came_planet) in
      let elsewhere : (y : CellId) → same_cell place y ≡ false → f y ≡ g y = λ y apart.
      ap (λ own. units_held player (holding own (queue_in state.items y Yard))) (sym (battle-elsewhere setting state raid fine is_in y apart)) in
      let planets = sum-more place g f lost setting.cells (fine.once place (fine.listed place (ap is_there is_in.there))) elsewhere (place-held player) in
      let flown = flown-fewer player in
      let ships = lost-there player (still-mine player) in
      let put : cond (same_cell place place) (of_planet came_planet) (owns (seen_of setting (fights raid) state) place) ≡ of_planet came_planet =
      ap (λ b. cond b (of_planet came_planet) (owns (seen_of setting (fights raid) state) place)) (cell-itself place) in
      all-fewer (sum_by f setting.cells) (sum_by g setting.cells) lost (sum_by (ships_of player) state.fleets) (sum_by (ships_of player) (filter_map h state.fleets)) planets flown
      ∙ (λ i. (sum_by f setting.cells + sum_by (ships_of player) state.fleets) - (sym ships i + units_lost player (state.own place) (sym put i)))

  -- an account loses no more units than it has
  pub losses-within : (x : CellId)
      → battle_losses raid (battle_change setting.rules raid (seen_of setting (fights raid) state) (of_planet is_in.planet)) (view setting.cells state) x ≤ (view setting.cells state x).units
  losses-within (Planet at) = omega arith
  losses-within (Account player) =
      let f = λ (y : CellId). units_held player (holding_at state y) in
      let g = λ (y : CellId). units_held player (holding_at new y) in
      let lost = units_lost player (state.own place) (of_planet came_planet) in
      let elsewhere : (y : CellId) → same_cell place y ≡ false → f y ≡ g y = λ y apart.
      ap (λ own. units_held player (holding own (queue_in state.items y Yard))) (sym (battle-elsewhere setting state raid fine is_in y apart)) in
      let planets = sum-more place g f lost setting.cells (fine.once place (fine.listed place (ap is_there is_in.there))) elsewhere (place-held player) in
      let ships = lost-there player (still-mine player) in
      let put : cond (same_cell place place) (of_planet came_planet) (owns (seen_of setting (fights raid) state) place) ≡ of_planet came_planet =
      ap (λ b. cond b (of_planet came_planet) (owns (seen_of setting (fights raid) state) place)) (cell-itself place) in
      let all = lost-within (sum_by f setting.cells) (sum_by g setting.cells) lost (sum_by (ships_of player) state.fleets) (sum_by (ships_of player) (filter_map h state.fleets)) planets in
      subst (λ n. n ≤ sum_by f setting.cells + sum_by (ships_of player) state.fleets) (λ i. sym ships i + units_lost player (state.own place) (sym put i)) all

  -- and has no more ships in flight than before
  pub ships-fewer : (player : Player) → sum_by (ships_of player) (filter_map h (view setting.cells state (Account player)).fleets) ≤ sum_by (ships_of player) (view setting.cells state (Account player)).fleets
  ships-fewer player =
      let mine = belongs (Account player) in
      let before = flown-own player state.fleets in
      let after : sum_by (ships_of player) (filter_map h (filter mine state.fleets)) ≡ sum_by (ships_of player) (filter_map h state.fleets) =
      flown-own player (filter_map h (filter mine state.fleets))
      ∙ ap (sum_by (ships_of player)) (sym (filter-changed mine h state.fleets (still-mine player)))
      ∙ sym (flown-own player (filter_map h state.fleets)) in
      let fewer = flown-fewer player in
      omega (arith, before, after, fewer)
