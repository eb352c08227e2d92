-- What is seen of a cell after a change, by the change and by what was seen of that cell before.
use Rattle.std.proofs.Common.{◌≡◌, ℕ, ◌+◌, ◌-◌, ◌≤◌, inl, inr, Bool, true, false, cond, List, [], ◌∷◌, Option, None, Some, length, sum, if◌then◌else◌, arith, refl, ap, ◌∙◌, sym, subst}
use Rattle.std.proofs.Math.Path.{fun_ext}
use Rattle.std.proofs.lemmas.List.Sums.{sum_by-cons}
use Rattle.base_ids.specs.Cells.{same_cell, same_player}
use Rattle.base_ids.specs.declared.player.Player.{Player}
use Rattle.base_ids.specs.declared.cell_id.CellId.{CellId}
use Rattle.base_ids.specs.declared.cell_id.CellId.TheVariants.{Account, Planet}
use Rattle.laziness.proofs.Bringing.{never, test}
use Rattle.tick_model.specs.Changes.{Change, seen_after, write}
use Rattle.catalog.specs.declared.mission.Mission.{Mission}
use Rattle.catalog.specs.declared.mission.Mission.TheVariants.{Transport, Deploy, Harvest, Attack}
use Rattle.reply_text.specs.declared.units.Units.{Units}
use Rattle.tick_model.specs.Events.{Event, item_due, lands, fights, Owes, effect, event_change, battle_losses, footprint, home, seen_after_event, ships_lost, units_left, units_lost}
use Rattle.tick_model.specs.Flights.{arrived, harvested, joined_by, landed, landing, moored, supplied, turns}
use Rattle.tick_model.specs.Rules.{IsFlying, IsIn, KeepsRules}
use Rattle.tick_model.specs.Universe.{of_planet, QueueClass, Yard, PlanetFields, Fleet, Item, Setting, State}
use Rattle.tick_model.specs.Views.{View, holding, holding_at, nothing_seen, queue_in, ships_of, units_held, units_left as batches_left, units_of, view}
use Rattle.tick_model.proofs.Battling.{after_battle, battle-home, battle-is, change-fought}
use Rattle.tick_model.proofs.Casualties.{battle-counted}
use Rattle.tick_model.proofs.Effects.{effect-is, event-counted, event-within, seen_of}
use Rattle.tick_model.proofs.Footprints.{stays-within}
use Rattle.tick_model.proofs.Landings.{after_landing, came_landed, flies-in, landing-belongs, landing-elsewhere, landing-is, landing-place, sum-changed, weight}
use Rattle.tick_model.proofs.Nexts.{landing-listed}
pub use Rattle.tick_model.proofs.Sums.{sum-more}
use Rattle.tick_model.proofs.Raids.{raid-in}
use Rattle.tick_model.proofs.Writes.{IsWithin, fleets-written, holding-outside, own-inside, own-outside, planets-kept, queue-written, shown-own}

pub written-seen : (list : List CellId) (cells reach : CellId → Bool) (change : Change) (state : State) (x : CellId) → IsWithin cells reach change state → cells x ≡ true
    → view list (write cells change state) x ≡ record (seen_after change x (view list state x)) { units = (view list (write cells change state) x).units }
written-seen list cells reach change state x within has =
    let own = own-inside cells change state x has in
    let queue = fun_ext (queue-written cells change state x) in
    let fleets = fleets-written cells reach change state x within in
    let planets = planets-kept list cells reach change state within x in
    λ i. record { own = own i; queue = queue i; fleets = fleets i; planets = planets i; units = (view list (write cells change state) x).units }

-- what is reached but is none of the cells keeps what it has of its own
pub reached-seen : (list : List CellId) (cells reach : CellId → Bool) (change : Change) (state : State) (x : CellId) → IsWithin cells reach change state → cells x ≡ false
    → view list (write cells change state) x
    ≡ record (seen_after change x (view list state x)) { own = state.own x; units = (view list (write cells change state) x).units }
reached-seen list cells reach change state x within out =
    let own = own-outside cells change state x out in
    let queue = fun_ext (queue-written cells change state x) in
    let fleets = fleets-written cells reach change state x within in
    let planets = planets-kept list cells reach change state within x in
    λ i. record { own = own i; queue = queue i; fleets = fleets i; planets = planets i; units = (view list (write cells change state) x).units }

-- Units are counted as before after each event.

-- those of a fleet that has landed are in it or on the planet
sum-cons : (x : ℕ) (xs : List ℕ) → sum (x ∷ xs) ≡ x + sum xs
sum-cons x xs = sum_by-cons (λ (n : ℕ). n) x xs

pub joined-sum : (counts ships : List ℕ) → length ships ≤ length counts → sum (joined_by counts ships) ≡ sum counts + sum ships
joined-sum [] [] fits = refl
joined-sum [] (ship ∷ ships) fits = absurd (omega (arith, fits))
joined-sum (count ∷ counts) [] fits = let same : sum (count ∷ counts) ≡ sum (count ∷ counts) + 0 = omega arith in same
joined-sum (count ∷ counts) (ship ∷ ships) fits =
    let rest = joined-sum counts ships (omega (arith, fits)) in
    let new = sum-cons (count + ship) (joined_by counts ships) in
    let old = sum-cons count counts in
    let more = sum-cons ship ships in
    omega (arith, rest, new, old, more)

abbrev held_by : Player → PlanetFields → ℕ → ℕ
held_by player planet units = if same_player planet.owner player then units else 0

more-held : (b c : Bool) (units more left : ℕ) → b ≡ c → cond b ((units + more) + left) 0 + 0 ≡ cond b (units + left) 0 + cond c more 0
more-held true true units more left same = omega arith
more-held false false units more left same = refl
more-held true false units more left same = absurd cc
more-held false true units more left same = absurd cc

-- a fleet that stays at a planet
moored-counts : (player : Player) (planet : PlanetFields) (fleet : Fleet) (batches : List Item) → planet.owner ≡ fleet.owner → length fleet.ships ≤ length planet.units
    → units_held player (holding (of_planet (moored planet fleet)) batches) + 0 ≡ units_held player (holding (of_planet planet) batches) + ships_of player fleet
unfolding moored
moored-counts player planet fleet batches owner fits =
    let units = joined-sum planet.units fleet.ships fits in
    ap (λ n. cond (same_player planet.owner player) (n + batches_left batches) 0 + 0) units
    ∙ more-held (same_player planet.owner player) (same_player fleet.owner player) (sum planet.units) (sum fleet.ships) (batches_left batches) (ap (λ k. same_player k player) owner)

supplied-counts : (player : Player) (planet : PlanetFields) (fleet : Fleet) (batches : List Item)
    → units_held player (holding (of_planet (supplied planet fleet)) batches) ≡ units_held player (holding (of_planet planet) batches)
unfolding supplied
supplied-counts player planet fleet batches = refl

harvested-counts : (player : Player) (planet : PlanetFields) (fleet : Fleet) (batches : List Item)
    → units_held player (holding (of_planet (harvested planet fleet)) batches) ≡ units_held player (holding (of_planet planet) batches)
unfolding harvested
harvested-counts player planet fleet batches = refl

arrived-counts : (mission : Mission) (player : Player) (planet : PlanetFields) (fleet : Fleet) (batches : List Item) → (mission ≡ Deploy → planet.owner ≡ fleet.owner) → length fleet.ships ≤ length planet.units
    → units_held player (holding (arrived mission fleet planet).own batches) + weight (ships_of player) (turns (arrived mission fleet planet).back fleet)
    ≡ units_held player (holding (of_planet planet) batches) + ships_of player fleet
arrived-counts Transport player planet fleet batches own fits = ap (λ n. n + ships_of player fleet) (supplied-counts player planet fleet batches)
arrived-counts Deploy player planet fleet batches own fits = moored-counts player planet fleet batches (own refl) fits
arrived-counts Harvest player planet fleet batches own fits = ap (λ n. n + ships_of player fleet) (harvested-counts player planet fleet batches)
arrived-counts Attack player planet fleet batches own fits = refl

landed-counts : (b : Bool) (player : Player) (planet : PlanetFields) (fleet : Fleet) (batches : List Item) → (b ≡ true → fleet.mission ≡ Deploy → planet.owner ≡ fleet.owner) → (b ≡ false → planet.owner ≡ fleet.owner)
    → length fleet.ships ≤ length planet.units
    → units_held player (holding (cond b (arrived fleet.mission fleet planet) (record { own = of_planet (moored planet fleet); back = None })).own batches)
    + weight (ships_of player) (turns (cond b (arrived fleet.mission fleet planet) (record { own = of_planet (moored planet fleet); back = None })).back fleet)
    ≡ units_held player (holding (of_planet planet) batches) + ships_of player fleet
landed-counts true player planet fleet batches out back fits = arrived-counts fleet.mission player planet fleet batches (out refl) fits
landed-counts false player planet fleet batches out back fits = moored-counts player planet fleet batches (back refl) fits

-- the planet at which a fleet lands
record LandsAt (state : State) (fleet : Fleet) : Type 0 where
  planet : PlanetFields
  is : state.own (Planet (landing fleet)) ≡ of_planet planet
  out : fleet.outbound ≡ true → fleet.mission ≡ Deploy → planet.owner ≡ fleet.owner
  back : fleet.outbound ≡ false → planet.owner ≡ fleet.owner

lands_at : (state : State) (fleet : Fleet) (b : Bool) → fleet.outbound ≡ b → IsFlying state fleet → LandsAt state fleet
lands_at state fleet true out flying = record {
  planet = flying.to;
  is = ap (λ c. state.own (Planet (cond c fleet.target fleet.origin))) out ∙ flying.reaches;
  out = λ flies deploy. flying.is_theirs ∙ flying.deployed deploy;
  back = λ home. absurd (never fleet.outbound out home);
}
lands_at state fleet false out flying = record {
  planet = flying.from;
  is = ap (λ c. state.own (Planet (cond c fleet.target fleet.origin))) out ∙ flying.leaves;
  out = λ flies deploy. absurd (never fleet.outbound flies out);
  back = λ home. flying.is_own;
}

-- what stays at a planet, and what turns back, are all ships
record Splits (w : Fleet → ℕ) (fleet : Fleet) (back : Option Units) : Type 0 where
  moored_there : ℕ
  all : moored_there + weight w (turns back fleet) ≡ w fleet

splits : (player : Player) (fleet : Fleet) (back : Option Units) → Splits (ships_of player) fleet back
splits player fleet None = record { moored_there = ships_of player fleet; all = let none : ships_of player fleet + 0 ≡ ships_of player fleet = omega arith in none }
splits player fleet (Some cargo) = record { moored_there = 0; all = let none : 0 + ships_of player fleet ≡ ships_of player fleet = omega arith in none }

grows-by : (g f w s d : ℕ) → g + w ≡ f + s → d + w ≡ s → g ≡ f + d
grows-by g f w s d place all = omega (arith, place, all)

both-same : (p' p d q' q w s : ℕ) → p' ≡ p + d → q' + s ≡ q + w → d + w ≡ s → p' + q' ≡ p + q
both-same p' p d q' q w s planets fleets all = omega (arith, planets, fleets, all)

module _ (setting : Setting) (state : State) (fleet : Fleet) (fine : KeepsRules setting state) (flies : IsIn fleet state.fleets) where
  abbrev after_it : State
  after_it = after_landing setting fleet state

  abbrev place : CellId
  place = Planet (landing fleet)

  abbrev back : Option Units
  back = (came_landed fleet (seen_of setting (lands fleet) state)).back

  back-is : back ≡ (landed fleet (state.own place)).back
  back-is = ap (λ own. (landed fleet own).back) (shown-own setting.cells (footprint (lands fleet)) state place (landing-belongs fleet))

  place-counts : (player : Player) → units_held player (holding_at after_it place) + weight (ships_of player) (turns back fleet) ≡ units_held player (holding_at state place) + ships_of player fleet
  place-counts player =
      let at = lands_at state fleet fleet.outbound refl (fine.flying fleet flies) in
      let batches = queue_in state.items place Yard in
      let kinds = (fine.flying fleet flies).kinds in
      let all = fine.kinds place at.planet at.is in
      let fits : length fleet.ships ≤ length at.planet.units = omega (arith, kinds, all) in
      let counts = landed-counts fleet.outbound player at.planet fleet batches at.out at.back fits in
      (λ i. units_held player (holding (landing-place setting state fleet i) batches) + weight (ships_of player) (turns (back-is i) fleet))
      ∙ (λ i. units_held player (holding (landed fleet (at.is i)).own batches) + weight (ships_of player) (turns (landed fleet (at.is i)).back fleet))
      ∙ counts
      ∙ sym (λ i. units_held player (holding (at.is i) batches) + ships_of player fleet)

  landing-counted : (x : CellId) → units_of setting.cells (holding_at after_it) after_it.fleets x ≡ units_of setting.cells (holding_at state) state.fleets x
  landing-counted (Planet at) = refl
  landing-counted (Account player) =
      let f = λ (y : CellId). units_held player (holding_at state y) in
      let g = λ (y : CellId). units_held player (holding_at after_it y) in
      let split = splits player fleet back in
      let grows = grows-by (g place) (f place) (weight (ships_of player) (turns back fleet)) (ships_of player fleet) split.moored_there (place-counts player) split.all in
      let elsewhere : (y : CellId) → same_cell place y ≡ false → g y ≡ f y = λ y apart. ap (λ own. units_held player (holding own (queue_in state.items y Yard))) (landing-elsewhere setting state fleet y apart) in
      let planets = sum-more place f g split.moored_there setting.cells (fine.once place (landing-listed setting state fleet fine flies)) elsewhere grows in
      let flown = sum-changed (ships_of player) fleet (turns back) state.fleets fine.apart flies in
      both-same _ _ split.moored_there _ _ (weight (ships_of player) (turns back fleet)) (ships_of player fleet) planets flown split.all

item-counted : (setting : Setting) (state : State) (class : QueueClass) (item : Item) (later : List Item) → KeepsRules setting state → Owes (view setting.cells state item.cell) (item_due class item later) → (x : CellId)
    → units_of setting.cells (holding_at (effect setting (item_due class item later) state)) (effect setting (item_due class item later) state).fleets x ≡ units_of setting.cells (holding_at state) state.fleets x
item-counted setting state class item later fine stands x =
    let event = item_due class item later in
    let change = event_change setting.rules event (seen_of setting event state) in
    let within = event-within setting state class item later fine stands in
    let same : (y : CellId) → holding_at (write (footprint event) change state) y ≡ holding_at state y = λ y. elim (test (footprint event y)) [
      | inl here ↦ ap (λ s. holding_at s y) (effect-is setting class item later state) ∙ event-counted setting state class item later fine stands y here
      | inr out ↦ holding-outside (footprint event) (footprint event) change state y within out
    ] in
    let fleets = ap (λ (s : State). s.fleets) (effect-is setting class item later state) in
    λ i. units_of setting.cells (fun_ext same i) (fleets i) x

-- after an event accounts have as many units as before, but for those that are lost in a battle
pub event-units : (setting : Setting) (state : State) (event : Event) (x : CellId) → KeepsRules setting state → Owes (view setting.cells state (home event)) event
    → (view setting.cells (effect setting event state) x).units
    ≡ units_left event (event_change setting.rules event (seen_of setting event state)) (view setting.cells state) x (view setting.cells state x).units
event-units setting state (item_due class item later) x fine stands = item-counted setting state class item later fine stands x
event-units setting state (lands fleet) x fine stands =
    let flies = flies-in setting.cells state (home (lands fleet)) fleet stands.0 in
    ap (λ s. units_of setting.cells (holding_at s) s.fleets x) (landing-is setting fleet state) ∙ landing-counted setting state fleet fine flies x
event-units setting state (fights raid) x fine stands =
    let is_in = raid-in setting state raid fine stands in
    ap (λ s. units_of setting.cells (holding_at s) s.fleets x) (battle-is setting raid state is_in.planet is_in.there)
    ∙ subst (λ c. units_of setting.cells (holding_at (after_battle setting raid state is_in.planet)) (after_battle setting raid state is_in.planet).fleets x
    ≡ (view setting.cells state x).units - battle_losses raid c (view setting.cells state) x)
    (sym (change-fought setting raid state is_in.planet is_in.there)) (battle-counted setting state raid fine is_in x)

-- what is seen of a cell after an event: what its change makes of it, and the units that are left
abbrev pub event_seen : Setting → Event → State → CellId → View
event_seen setting event state x =
    let seen = seen_of setting event state in
    seen_after_event event (event_change setting.rules event seen) seen x (view setting.cells state x)

units-shown : (setting : Setting) (state : State) (event : Event) (x : CellId) (change : Change) → footprint event x ≡ true
    → units_left event change (view setting.cells state) x (view setting.cells state x).units ≡ units_left event change (seen_of setting event state) x (view setting.cells state x).units
units-shown setting state (item_due class item later) x change has = refl
units-shown setting state (lands fleet) x change has = refl
units-shown setting state (fights raid) (Planet at) change has = refl
units-shown setting state (fights raid) (Account player) change has =
    let foot = footprint (fights raid) in
    let shown_there = λ (y : CellId) (in_foot : foot y ≡ true). sym (ap (λ b. cond b (view setting.cells state y) nothing_seen) in_foot) in
    (λ i. (view setting.cells state (Account player)).units
    - (ships_lost player change.fleet (shown_there (Account player) has i).fleets
    + units_lost player (shown_there (Planet raid.target) (battle-home raid) i).own (change.own (Planet raid.target))))

-- so what is seen of a cell after an event is what the change makes of it
pub event-seen : (setting : Setting) (state : State) (event : Event) (x : CellId) → KeepsRules setting state → Owes (view setting.cells state (home event)) event → footprint event x ≡ true
    → view setting.cells (effect setting event state) x ≡ event_seen setting event state x
event-seen setting state event x fine stands has =
    let change = event_change setting.rules event (seen_of setting event state) in
    let units = event-units setting state event x fine stands ∙ units-shown setting state event x change has in
    written-seen setting.cells (footprint event) (footprint event) change state x (stays-within setting state event fine stands) has
    ∙ (λ i. record (seen_after change x (view setting.cells state x)) { units = units i })
