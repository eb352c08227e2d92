-- Fleets keep the errands on which they were sent.
use Rattle.std.proofs.Common.{◌≡◌, ℕ, Bool, true, false, cond, eqb, List, [], ◌∷◌, ◌++◌, Option, None, Some, inl, inr, refl, ap, ◌∙◌, sym, subst}
use Rattle.std.specs.List.{filter_map, list_any}
use Rattle.base_ids.specs.Cells.{same_player}
use Rattle.catalog.specs.declared.mission.Mission.{Mission}
use Rattle.catalog.specs.declared.mission.Mission.TheVariants.{Transport, Deploy, Harvest, Attack}
use Rattle.laziness.proofs.Bringing.{never}
use Rattle.reply_text.specs.declared.units.Units.{Units}
use Rattle.tick_model.specs.Changes.{same_flight}
use Rattle.tick_model.specs.Events.{Event, Owes, effect, fights, home, item_due, lands}
use Rattle.tick_model.specs.Flights.{back_at, recalled_at as recalled_second, turned, turns}
use Rattle.tick_model.specs.Limits.{IsErrand}
use Rattle.tick_model.specs.Raids.{Raid, is_attack}
use Rattle.tick_model.specs.Rules.{IsIn, KeepsRules}
use Rattle.tick_model.specs.Sending.{suits}
use Rattle.tick_model.specs.Universe.{Fleet, Setting, State}
use Rattle.tick_model.specs.Views.{view}
use Rattle.tick_model.proofs.Battles.{comes-back}
use Rattle.tick_model.proofs.Battling.{Becomes, is_back, stays_so, after_battle, battle-is, became, becomes, came_fought, raider-one}
use Rattle.tick_model.proofs.Effects.{effect-is, seen_of}
use Rattle.tick_model.proofs.Landings.{after_landing, came_landed, flies-in, landing-is}
use Rattle.tick_model.proofs.Lists.{and-is, from-changed, in-append}
use Rattle.tick_model.proofs.Raids.{IsRaidIn, raid-in}
use Rattle.tick_model.proofs.Writes.{became_at}
use Rattle.tick_model.proofs.Written.{recalled_by}

-- all fleets do so
abbrev pub AreErrands : List Fleet → Type 0
AreErrands fleets = (fleet : Fleet) → IsIn fleet fleets → IsErrand fleet

turned-errand : (fleet : Fleet) (second : ℕ) (cargo : Units) → IsErrand fleet → IsErrand (turned fleet second cargo)
turned-errand fleet second cargo errand = record { elsewhere = errand.elsewhere; suited = errand.suited; alone = errand.alone; grouped = errand.grouped }

changed-errands : (h : Fleet → Option Fleet) (fleets : List Fleet) → ((old new : Fleet) → IsIn old fleets → h old ≡ Some new → IsErrand old → IsErrand new) → AreErrands fleets
    → AreErrands (filter_map h fleets)
changed-errands h fleets keeps all new is =
    let found = from-changed h new fleets is in
    keeps found.0 new found.1 found.2 (all found.0 found.1)

-- A fleet lands, or is recalled.

turns-errand : (back : Option Units) (old new : Fleet) → turns back old ≡ Some new → IsErrand old → IsErrand new
turns-errand None old new is errand = absurd cc
turns-errand (Some cargo) old new is errand = let same : turned old (back_at old) cargo ≡ new = cc in subst IsErrand same (turned-errand old (back_at old) cargo errand)

landed_at : (back : Option Units) (old new : Fleet) (b : Bool) → cond b (turns back old) (Some old) ≡ Some new → IsErrand old → IsErrand new
landed_at back old new true is errand = turns-errand back old new is errand
landed_at back old new false is errand = let same : old ≡ new = cc in subst IsErrand same errand

landing-errands : (setting : Setting) (state : State) (fleet : Fleet) → AreErrands state.fleets → AreErrands (after_landing setting fleet state).fleets
landing-errands setting state fleet all =
    let back = (came_landed fleet (seen_of setting (lands fleet) state)).back in
    changed-errands (became_at fleet.number (turns back)) state.fleets (λ old new within is. landed_at back old new (eqb old.number fleet.number) is) all

recalled_at : (t : ℕ) (old new : Fleet) (b : Bool) → cond b (recalled_by t old) (Some old) ≡ Some new → IsErrand old → IsErrand new
recalled_at t old new true is errand =
    let same : turned old (recalled_second old t) old.cargo ≡ new = cc in subst IsErrand same (turned-errand old (recalled_second old t) old.cargo errand)
recalled_at t old new false is errand = let same : old ≡ new = cc in subst IsErrand same errand

pub recalled-errands : (t number : ℕ) (fleets : List Fleet) → AreErrands fleets → AreErrands (filter_map (became_at number (recalled_by t)) fleets)
recalled-errands t number fleets all =
    changed-errands (became_at number (recalled_by t)) fleets (λ old new within is. recalled_at t old new (eqb old.number number) is) all

-- A fleet fights: an attack suits any ships.

attack-suits : (mission : Mission) (own : Bool) (ships others : List ℕ) → is_attack mission ≡ true → suits mission own ships ≡ true → suits mission own others ≡ true
attack-suits Attack own ships others attacks suited = suited
attack-suits Transport own ships others attacks suited = never false attacks refl
attack-suits Deploy own ships others attacks suited = never false attacks refl
attack-suits Harvest own ships others attacks suited = never false attacks refl

module _ (setting : Setting) (state : State) (raid : Raid) (fine : KeepsRules setting state) (is_in : IsRaidIn state raid) where
  abbrev left : List Fleet
  left = (came_fought setting raid state is_in.planet).fleets

  became-errand : (old new : Fleet) → IsIn old state.fleets → Becomes left raid old new → IsErrand old → IsErrand new
  became-errand old new flies (stays_so other same) errand = subst IsErrand same errand
  became-errand old new flies (is_back in_raid back_is) errand =
      let back = comes-back left old new back_is in
      let raider = is_in.each old (raider-one setting state raid fine is_in old flies in_raid) in
      let attacks = (and-is old.outbound (is_attack old.mission) raider.hostile).1 in
      subst IsErrand back.is (record {
        elsewhere = errand.elsewhere;
        suited = attack-suits old.mission (same_player old.target_owner old.owner) old.ships back.rest.ships attacks errand.suited;
        alone = errand.alone;
        grouped = errand.grouped;
      })

  battle-errands : AreErrands state.fleets → AreErrands (after_battle setting raid state is_in.planet).fleets
  battle-errands all = changed-errands (became setting state raid fine is_in) state.fleets (λ old new within is. became-errand old new within (becomes left raid old new is)) all

pub event-errands : (setting : Setting) (state : State) (event : Event) → KeepsRules setting state → Owes (view setting.cells state (home event)) event → AreErrands state.fleets
    → AreErrands (effect setting event state).fleets
event-errands setting state (item_due class item later) fine stands all = subst (λ (s : State). AreErrands s.fleets) (sym (effect-is setting class item later state)) all
event-errands setting state (lands fleet) fine stands all = subst (λ (s : State). AreErrands s.fleets) (sym (landing-is setting fleet state)) (landing-errands setting state fleet all)
event-errands setting state (fights raid) fine stands all =
    let is_in = raid-in setting state raid fine stands in
    subst (λ (s : State). AreErrands s.fleets) (sym (battle-is setting raid state is_in.planet is_in.there)) (battle-errands setting state raid fine is_in all)

-- One more is sent.

pub sent-errands : (fleets : List Fleet) (new : Fleet) → IsErrand new → AreErrands fleets → AreErrands (fleets ++ new ∷ [])
sent-errands fleets new errand all fleet is =
    elim (in-append fleet fleets (new ∷ []) is) [
      | inl before ↦ all fleet before
      | inr last ↦ elim last [ inl same ↦ subst IsErrand (sym same) errand | inr none ↦ absurd none ]
    ]
