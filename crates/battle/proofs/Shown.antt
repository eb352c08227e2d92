-- What the states of units show, one by one.
use Rattle.std.proofs.Common.{◌≡◌, ℕ, ◌+◌, ◌<◌, ◌≤◌, ◌==◌, ◌&&◌, nat_lt, Bool, true, false, cond, not, filter, List, [], ◌∷◌, length, map, get_or, refl, ap, sym, ◌∙◌, arith}
use Rattle.std.specs.List.{All}
use Rattle.std.proofs.Math.ListN.{set}
use Rattle.std.proofs.lemmas.Bool.{ne_eqb}
use Rattle.std.proofs.lemmas.List.{get_or-map, get_or_default, length-map, map-set}
use Rattle.std.proofs.lemmas.List.Elements.{All-filter, All-get_or, All-head, All-set, All-tail, All-weaker}
use Rattle.rand_pcg.specs.Lcg.{Lcg}
use Rattle.rand_pcg.specs.Pcg.{pcg32}
use Rattle.draws.specs.Draws.{after, draw, word_at}
use Rattle.battle.specs.declared.combatant.Combatant.{Combatant}
use Rattle.battle.specs.declared.fighter.Fighter.{Fighter}
use Rattle.battle.specs.declared.unit_state.UnitState.{UnitState}
use Rattle.battle.specs.Arrays.{AreKnown, AreSound, IsSound, all_seen, fighter_of, seen, seen_as, shown}
use Rattle.battle.specs.declared.army.Army.{Army}
use Rattle.battle.specs.Course.{fighters_of, standing, struck, with_full_shield}
use Rattle.battle.specs.Rules.{fires_again, is_rapid, is_weak}
use Rattle.battle.specs.Shots.{nobody}
use Rattle.battle.specs.Trace.{one_if}
use Rattle.battle.proofs.OneShot.{AreSteps}

-- the strengths of the state at a place
abbrev pub strengths_at : List Fighter → List UnitState → ℕ → Fighter → UnitState → Fighter
strengths_at table units place e u = get_or table (get_or units place u).strength e

-- sound states stay sound: where one is written, where some go, in a later round
pub sound_at : (strengths round : ℕ) (units : List UnitState) (i : ℕ) (d : UnitState) → i < length units → AreSound strengths round units → IsSound strengths round (get_or units i d)
sound_at strengths round units i d within sound = All-get_or (IsSound strengths round) units i d within sound.each

pub sound_set : (strengths round : ℕ) (units : List UnitState) (i : ℕ) (u : UnitState) → IsSound strengths round u → AreSound strengths round units → AreSound strengths round (set units i u)
sound_set strengths round units i u one sound = record { each = All-set (IsSound strengths round) units i u one sound.each }

pub sound_filter : (strengths round : ℕ) (p : UnitState → Bool) (units : List UnitState) → AreSound strengths round units → AreSound strengths round (filter p units)
sound_filter strengths round p units sound = record { each = All-filter p (IsSound strengths round) units sound.each }

pub sound_later : (strengths more round later : ℕ) (units : List UnitState) → strengths ≤ more → round ≤ later → AreSound strengths round units → AreSound more later units
sound_later strengths more round later units fewer before sound =
    record {
      each = All-weaker (IsSound strengths round) (IsSound more later) weaker units sound.each;
    }
  where
    weaker : (u : UnitState) → IsSound strengths round u → IsSound more later u
    weaker u one = record { has_strength = omega (arith, one.has_strength, fewer); written = omega (arith, one.written, before) }

pub known : (strengths round : ℕ) (units : List UnitState) → AreSound strengths round units → AreKnown strengths units
known strengths round units sound =
    All-weaker (IsSound strengths round) (λ u. u.strength < strengths) (λ u one. one.has_strength) units sound.each

-- a unit that stands has its full shield in the next round
stands_on : (table : List Fighter) (round : ℕ) (u : UnitState) → u.shield_round ≤ round → seen table (round + 1) u ≡ with_full_shield (seen table round u)
stands_on table round u written =
    let later : (u.shield_round == round + 1) ≡ false = ne_eqb u.shield_round (round + 1) (λ same. omega (arith, same, written)) in
    rw later refl

-- the units that stand, in the next round
pub standing_seen : (table : List Fighter) (strengths round : ℕ) (units : List UnitState) → AreSound strengths round units
    → all_seen table (round + 1) (filter (λ u. not u.is_destroyed) units) ≡ standing (all_seen table round units)
standing_seen table strengths round units sound = each units sound.each
  where
    each : (us : List UnitState) → All (IsSound strengths round) us → all_seen table (round + 1) (filter (λ u. not u.is_destroyed) us) ≡ standing (all_seen table round us)
    each [] all = refl
    each (u ∷ us) all =
        either u.is_destroyed
        (stands_on table round u (All-head (IsSound strengths round) u us all).written)
        (each us (All-tail (IsSound strengths round) u us all))
      where
        either : (destroyed : Bool)
            → seen table (round + 1) u ≡ with_full_shield (seen table round u)
            → all_seen table (round + 1) (filter (λ v. not v.is_destroyed) us) ≡ standing (all_seen table round us)
            → all_seen table (round + 1) (cond (not destroyed) (u ∷ filter (λ v. not v.is_destroyed) us) (filter (λ v. not v.is_destroyed) us))
            ≡ map with_full_shield (cond (not destroyed) (seen table round u ∷ filter (λ c. not c.is_destroyed) (all_seen table round us)) (filter (λ c. not c.is_destroyed) (all_seen table round us)))
        either true one rest = rest
        either false one rest = ap (λ (c : Combatant). c ∷ all_seen table (round + 1) (filter (λ v. not v.is_destroyed) us)) one ∙ ap (λ (cs : List Combatant). with_full_shield (seen table round u) ∷ cs) rest

-- the units of a side, whatever the round
pub fighters_seen : (table : List Fighter) (round : ℕ) (units : List UnitState) → map (fighter_of table) units ≡ fighters_of (all_seen table round units)
fighters_seen table round [] = refl
fighters_seen table round (u ∷ us) = ap (λ (fs : List Fighter). fighter_of table u ∷ fs) (fighters_seen table round us)

-- a unit is hit: its combatant in its place
pub hit_seen : (table : List Fighter) (round : ℕ) (units : List UnitState) (place : ℕ) (f : Fighter) (u hit : UnitState)
    → hit.strength ≡ u.strength → fighter_of table u ≡ f → all_seen table round (set units place hit) ≡ set (all_seen table round units) place (seen_as round f hit)
hit_seen table round units place f u hit same e =
    map-set (seen table round) units place hit
    ∙ ap (λ (g : Fighter). set (all_seen table round units) place (seen_as round g hit)) (ap (λ (s : ℕ). get_or table s nobody) same ∙ e)

-- the combatant at a place
pub seen_at : (table : List Fighter) (round : ℕ) (units : List UnitState) (place : ℕ) (f d : Fighter) (u : UnitState) (c : Combatant) → place < length units
    → (get_or units place u).strength < length table → f ≡ get_or table (get_or units place u).strength d
    → get_or (all_seen table round units) place c ≡ seen_as round f (get_or units place u)
seen_at table round units place f d u c within inside e =
    get_or-map (seen table round) units place u c within
    ∙ ap (λ (g : Fighter). seen_as round g (get_or units place u)) (get_or_default table (get_or units place u).strength nobody d inside ∙ sym e)

-- as many combatants as units
pub length_seen : (table : List Fighter) (round : ℕ) (units : List UnitState) → length (all_seen table round units) ≡ length units
length_seen table round units = length-map units (seen table round)

-- both sides stand if both have units
pub both_shown : (round : ℕ) (attackers planet : Army)
    → (nat_lt 0 (length (shown round attackers)) && nat_lt 0 (length (shown round planet))) ≡ (nat_lt 0 (length attackers.units.items) && nat_lt 0 (length planet.units.items))
both_shown round attackers planet =
    rw (length_seen attackers.table.items round attackers.units.items, length_seen planet.table.items round planet.units.items) refl

-- the steps of a shot at the states of units are steps at the combatants that they show
pub seen_steps : (count : ℕ) (f : Fighter) (table : List Fighter) (round : ℕ) (targets : List UnitState) (stream : Lcg) (place : ℕ) (e : Fighter) (u : UnitState) (drawn fired last : Lcg) (hit : UnitState) (again : Bool)
    → AreSound (length table) round targets → place < length targets
    → place ≡ draw (pcg32 stream).0 (length targets) → drawn ≡ (pcg32 stream).1
    → seen_as round (strengths_at table targets place e u) hit ≡ struck f.attack (word_at drawn 0) (seen_as round (strengths_at table targets place e u) (get_or targets place u))
    → fired ≡ after (one_if (is_weak f.attack (seen_as round (strengths_at table targets place e u) (get_or targets place u)))) drawn
    → again ≡ fires_again f.kind (strengths_at table targets place e u).kind count (word_at fired 0)
    → last ≡ after (one_if (is_rapid f.kind (strengths_at table targets place e u).kind count)) fired
    → AreSteps count f (all_seen table round targets) stream place (seen_as round (strengths_at table targets place e u) (get_or targets place u)) drawn fired last (seen_as round (strengths_at table targets place e u) hit) again
seen_steps count f table round targets stream place e u drawn fired last hit again sound within at d h w a l =
    let many = length_seen table round targets in
    record {
      within = omega (arith, many, within);
      met_is = λ c. seen_at table round targets place (strengths_at table targets place e u) e u c within (sound_at (length table) round targets place u within sound).has_strength refl;
      place_is = rw many at;
      drawn_is = d;
      hit_is = h;
      fired_is = w;
      again_is = a;
      last_is = l;
    }

-- sound states stay sound after a hit
pub sound_hit : (table : List Fighter) (round : ℕ) (targets : List UnitState) (place : ℕ) (u hit : UnitState) → AreSound (length table) round targets → place < length targets
    → hit.strength ≡ (get_or targets place u).strength → ((get_or targets place u).shield_round ≤ round → hit.shield_round ≤ round)
    → AreSound (length table) round (set targets place hit)
sound_hit table round targets place u hit sound within same written =
    let one = sound_at (length table) round targets place u within sound in
    sound_set (length table) round targets place hit (record { has_strength = rw same one.has_strength; written = written one.written }) sound
