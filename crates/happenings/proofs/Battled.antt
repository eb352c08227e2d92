-- What a battle leaves of cells that are held is what the event makes of them.
use Rattle.std.proofs.Common.{◌≡◌, ℕ, ◌+◌, ◌-◌, Bool, true, false, cond, ◌||◌, List, [], ◌++◌, filter, sum, refl, ap, ◌∙◌, sym, subst, inl, inr, Option, Some, None}
use Rattle.std.proofs.lemmas.List.{append-nil}
use Rattle.std.specs.List.{filter_map, list_any}
use Rattle.std.specs.Prelude.{is_some, option_map}
use Rattle.base_ids.specs.Cells.{same_cell, same_player}
use Rattle.base_ids.specs.declared.player.Player.{Player}
use Rattle.base_ids.specs.declared.cell_id.CellId.{CellId}
use Rattle.base_ids.specs.declared.cell_id.CellId.TheVariants.{Account as AccountId, Planet as PlanetId}
use Rattle.fleet_rec.specs.Fleets.{after_battle, became_in}
use Rattle.laziness.proofs.Bringing.{test}
use Rattle.tick_model.specs.Battles.{Fought, comes_back}
use Rattle.tick_model.specs.Changes.{Change, new_fleets, owns, put_own}
use Rattle.tick_model.specs.Events.{Event, battle_change, battle_losses, fights, footprint, seen_after_event, ships_lost, units_lost}
use Rattle.tick_model.specs.Raids.{Raid}
use Rattle.tick_model.specs.Universe.{Fleet, Own, PlanetFields, of_planet}
use Rattle.tick_model.specs.Views.{View, belongs, nothing_seen}
use Rattle.tick_model.specs.declared.rules.Rules.{Rules}
use Rattle.tick_model.proofs.Battling.{battle-home}
use Rattle.tick_model.proofs.Lists.{cell-is, cell-itself}
use Rattle.happenings.specs.Applying.{change_then, fields_then, held_after, seen_then, stand_after}
use Rattle.happenings.specs.Fighting.{IsBattle, account_losses, came_at, fleets_fought, fought_at, losses_at, own_fought, raid_in, settled, settled_own, stand_fought, touches}
use Rattle.happenings.specs.Gaining.{gained, gained_at}
use Rattle.happenings.specs.Held.{Stand, held_at, holds, planet_stand}
use Rattle.happenings.specs.Merging.{Merges}
use Rattle.happenings.specs.Queues.{seen_of}
use Rattle.happenings.specs.declared.combat.Battle.{Battle}
use Rattle.happenings.specs.declared.held.Held.{Held}
use Rattle.happenings.proofs.Landed.{queue-kept}
use Rattle.happenings.proofs.Standing.{seen-gains}
use Rattle.planet_cell.specs.Planet.{fields_of, queue_of}

module _ (rules : Rules) (held : Held) (one : Fleet) (battle : Battle) (is : IsBattle rules held one battle) where
  abbrev raid : Raid
  raid = raid_in held one

  abbrev event : Event
  event = fights raid

  abbrev seen : CellId → View
  seen = seen_then rules event held

  abbrev place : CellId
  place = PlanetId one.target

  abbrev fields : PlanetFields
  fields = fields_then rules one.second is.place

  pub touches-same : (cell : CellId) → touches battle cell ≡ footprint event cell
  touches-same cell = λ i. same_cell (PlanetId (is.target i)) cell || list_any (belongs cell) (is.raid i)

  -- what is seen of a cell then
  pub seen-at : (cell : CellId) (stand : Stand) → footprint event cell ≡ true → held_at held cell ≡ Some stand → seen cell ≡ (gained rules one.second stand).seen
  seen-at cell stand has there =
      ap (λ b. cond b (seen_of (gained_at rules one.second held cell)) nothing_seen) has
      ∙ ap (λ o. seen_of (option_map (gained rules one.second) o)) there

  pub place-seen : owns seen place ≡ of_planet fields
  place-seen =
      ap (λ (v : View). v.own) (seen-at place (planet_stand is.place) (battle-home raid) (ap (option_map planet_stand) is.found))
      ∙ ap (λ (v : View). v.own) (seen-gains rules (one.second - is.place.second) (fields_of is.place.planet) (queue_of is.place.planet) is.place.fleets)

  -- what the battle changes, by what the code knows of it
  abbrev pub change : Change
  change = new_fleets (put_own (PlanetId battle.target) (of_planet (settled battle fields)) (owns seen)) battle.raid (comes_back battle.after.fleets)

  pub change-is : change_then rules event held ≡ change
  change-is =
      ap (battle_change rules raid seen) place-seen
      ∙ (λ i. new_fleets (put_own (PlanetId (sym is.target i)) (of_planet (is.planet i)) (owns seen)) (sym is.raid i) (comes_back (is.fleets i)))

  -- how a cell stands after a change
  abbrev after_with : Change → CellId → Stand → Stand
  after_with made cell stand = record { second = one.second; seen = seen_after_event event made seen cell (gained rules one.second stand).seen }

  own-at : (cell : CellId) (stand : Stand) (b : Bool) → same_cell (PlanetId battle.target) cell ≡ b → footprint event cell ≡ true → held_at held cell ≡ Some stand
      → cond b (settled_own battle (gained rules one.second stand).seen.own) (gained rules one.second stand).seen.own ≡ cond b (of_planet (settled battle fields)) (owns seen cell)
  own-at cell stand true same has there =
      let here : owns seen cell ≡ of_planet fields = ap (owns seen) (sym (cell-is (PlanetId battle.target) cell same) ∙ ap PlanetId is.target) ∙ place-seen in
      ap (settled_own battle) (sym (ap (λ (v : View). v.own) (seen-at cell stand has there)) ∙ here)
  own-at cell stand false same has there = sym (ap (λ (v : View). v.own) (seen-at cell stand has there))

  pub units-at : (cell : CellId) (stand : Stand) → footprint event cell ≡ true → held_at held cell ≡ Some stand
      → losses_at battle cell (gained rules one.second stand).seen.fleets ≡ battle_losses raid change seen cell
  units-at (PlanetId at) stand has there = refl
  units-at (AccountId player) stand has there =
      let flown = ap (λ (v : View). v.fleets) (sym (seen-at (AccountId player) stand has there)) in
      let put : change.own place ≡ of_planet (settled battle fields) =
      ap (λ b. cond b (of_planet (settled battle fields)) (owns seen place)) (ap (λ at. same_cell (PlanetId at) place) is.target ∙ cell-itself place) in
      λ i. ships_lost player (became_in battle.raid battle.after.fleets) (flown i)
      + ((λ j. cond (same_player (is.owner j) player) (is.lost j) 0) ∙ (λ j. units_lost player (sym place-seen j) (sym put j))) i

  pub fought-stands : (cell : CellId) (stand : Stand) → footprint event cell ≡ true → held_at held cell ≡ Some stand → stand_fought rules battle cell stand ≡ stand_after rules event held cell stand
  fought-stands cell stand has there =
      let grown = (gained rules one.second stand).seen in
      let fleets = append-nil (filter (belongs cell) (filter_map change.fleet grown.fleets)) in
      let queue = queue-kept change cell grown.queue refl (λ item. refl) in
      let own = own-at cell stand (same_cell (PlanetId battle.target) cell) refl has there in
      (λ i. record {
        second = is.second i;
        seen = record (fleets_fought battle cell (gained rules (is.second i) stand).seen) {
          own = own_fought battle cell (gained rules (is.second i) stand).seen.own;
          units = (gained rules (is.second i) stand).seen.units - losses_at battle cell (gained rules (is.second i) stand).seen.fleets;
        };
      })
      ∙ (λ i. record {
        second = one.second;
        seen = record grown {
          own = own i;
          queue = sym queue i;
          fleets = sym fleets i;
          units = grown.units - units-at cell stand has there i;
        };
      })
      ∙ ap (λ made. after_with made cell stand) (sym change-is)

  fought-some : (cell : CellId) (o : Option Stand) → held_at held cell ≡ o → footprint event cell ≡ true → option_map (stand_fought rules battle cell) o ≡ option_map (stand_after rules event held cell) o
  fought-some cell None there has = refl
  fought-some cell (Some stand) there has = ap Some (fought-stands cell stand has there)

  -- what is fought of a cell is what the event makes of it
  pub fought-then : (cell : CellId) → footprint event cell ≡ true → fought_at rules battle held cell ≡ held_after rules event held cell
  fought-then cell has =
      ap (λ b. cond b (option_map (stand_fought rules battle cell) (held_at held cell)) None) (touches-same cell ∙ has)
      ∙ fought-some cell (held_at held cell) refl has
      ∙ sym (ap (λ b. cond b (option_map (stand_after rules event held cell) (held_at held cell)) (held_at held cell)) has)

  fought-outside : (cell : CellId) → footprint event cell ≡ false → held_at held cell ≡ held_after rules event held cell
  fought-outside cell out = sym (ap (λ b. cond b (option_map (stand_after rules event held cell) (held_at held cell)) (held_at held cell)) out)

  -- cells that were fought and are put in place of those of their names are held after the event
  pub fight-after : (cells new : Held) → ((cell : CellId) → held_at cells cell ≡ fought_at rules battle held cell) → Merges held cells new
      → ((cell : CellId) → footprint event cell ≡ true → holds held cell ≡ true) → (cell : CellId) → held_at new cell ≡ held_after rules event held cell
  fight-after cells new fought_so merges within cell =
      elim (test (footprint event cell)) [
        | inl has ↦
            (let there : holds cells cell ≡ true =
            ap is_some (fought_so cell ∙ ap (λ b. cond b (option_map (stand_fought rules battle cell) (held_at held cell)) None) (touches-same cell ∙ has)) ∙ mapped-some (stand_fought rules battle cell) (held_at held cell) ∙ within cell has in
            merges cell ∙ ap (λ b. cond b (held_at cells cell) (held_at held cell)) there ∙ fought_so cell ∙ fought-then cell has)
        | inr out ↦
            (let none : holds cells cell ≡ false =
            ap is_some (fought_so cell ∙ ap (λ b. cond b (option_map (stand_fought rules battle cell) (held_at held cell)) None) (touches-same cell ∙ out)) in
            merges cell ∙ ap (λ b. cond b (held_at cells cell) (held_at held cell)) none ∙ fought-outside cell out)
      ]
    where
      mapped-some : (f : Stand → Stand) (o : Option Stand) → is_some (option_map f o) ≡ is_some o
      mapped-some f None = refl
      mapped-some f (Some x) = refl
