-- What a battle does to a state.
use Rattle.std.proofs.Common.{◌≡◌, ℕ, ◌+◌, ◌<◌, ◌≤◌, ◌⊎◌, inl, inr, Bool, true, false, cond, ◌||◌, ◌&&◌, List, [], ◌∷◌, Option, Some, length, sum_by, arith, refl, ap, ◌∙◌, sym, subst}
use Rattle.std.proofs.lemmas.List.Sums.{sum_by-cons}
use Rattle.std.specs.List.{filter_map, list_any}
use Rattle.base_ids.specs.Cells.{same_cell}
use Rattle.base_ids.specs.declared.player.Player.{Player}
use Rattle.base_ids.specs.declared.cell_id.CellId.{CellId}
use Rattle.base_ids.specs.declared.cell_id.CellId.TheVariants.{Account, Planet}
use Rattle.catalog.specs.declared.ships.TheConstants.{SHIPS}
use Rattle.laziness.proofs.Bringing.{test, never}
use Rattle.tick_model.specs.Battles.{Fought, back_with, comes_back, fought}
use Rattle.tick_model.specs.Changes.{owns, put_own, same_flight, write}
use Rattle.tick_model.specs.Events.{battle_change, effect, event_change, fights, footprint}
use Rattle.tick_model.specs.Raids.{Raid, attacks, is_attack}
use Rattle.tick_model.specs.Rules.{IsFlying, IsIn, KeepsRules}
use Rattle.tick_model.specs.Universe.{Own, of_planet, PlanetFields, Yard, Fleet, Setting, State}
use Rattle.tick_model.specs.Views.{belongs, holding, holding_at, queue_in}
use Rattle.tick_model.proofs.Battles.{back-belongs, back-number, comes-back, fought-kinds, fought-owner}
use Rattle.tick_model.proofs.Effects.{put-stays, seen_of}
use Rattle.tick_model.proofs.Landings.{weight, cons-weight}
use Rattle.tick_model.proofs.Lists.{and-from, and-is, any-in, cell-from, cell-is, cell-itself, fails, fleet-one, in-any, or-first, or-second, same_number}
use Rattle.tick_model.proofs.Owns.{Stays, owner_of, stays-itself, stays-owner}
use Rattle.tick_model.proofs.Raids.{IsRaidIn}
use Rattle.tick_model.proofs.Staying.{AllStay}
use Rattle.tick_model.proofs.Writes.{IsWithin, became_in, owns_after, shown-own, with_fleets, within-fleets, write-fleets}

-- what it comes to
abbrev pub came_fought : Setting → Raid → State → PlanetFields → Fought
came_fought setting raid state planet = fought setting.rules.seed (owns (seen_of setting (fights raid) state)) raid planet

abbrev pub fought_own : Setting → Raid → State → PlanetFields → CellId → Own
fought_own setting raid state planet = put_own (Planet raid.target) (of_planet (came_fought setting raid state planet).planet) (owns (seen_of setting (fights raid) state))

-- what becomes of a fleet
abbrev pub fought_fleet : Setting → Raid → State → PlanetFields → Fleet → Option Fleet
fought_fleet setting raid state planet = comes_back (came_fought setting raid state planet).fleets

-- the state after it
abbrev pub after_battle : Setting → Raid → State → PlanetFields → State
after_battle setting raid state planet =
    with_fleets (owns_after (footprint (fights raid)) (fought_own setting raid state planet) state) raid.fleets (fought_fleet setting raid state planet) state

pub battle-home : (raid : Raid) → footprint (fights raid) (Planet raid.target) ≡ true
battle-home raid = or-first (same_cell (Planet raid.target) (Planet raid.target)) (list_any (belongs (Planet raid.target)) raid.fleets) (cell-itself (Planet raid.target))

pub change-fought : (setting : Setting) (raid : Raid) (state : State) (planet : PlanetFields) → state.own (Planet raid.target) ≡ of_planet planet
    → event_change setting.rules (fights raid) (seen_of setting (fights raid) state)
    ≡ battle_change setting.rules raid (seen_of setting (fights raid) state) (of_planet planet)
change-fought setting raid state planet there =
    ap (battle_change setting.rules raid (seen_of setting (fights raid) state)) (shown-own setting.cells (footprint (fights raid)) state (Planet raid.target) (battle-home raid) ∙ there)

pub battle-is : (setting : Setting) (raid : Raid) (state : State) (planet : PlanetFields) → state.own (Planet raid.target) ≡ of_planet planet
    → effect setting (fights raid) state ≡ after_battle setting raid state planet
battle-is setting raid state planet there =
    ap (λ change. write (footprint (fights raid)) change state) (change-fought setting raid state planet there)
    ∙ write-fleets (footprint (fights raid)) (fought_own setting raid state planet) raid.fleets (fought_fleet setting raid state planet) state

module _ (setting : Setting) (state : State) (raid : Raid) (fine : KeepsRules setting state) (is_in : IsRaidIn state raid) where
  abbrev pub foot : CellId → Bool
  foot = footprint (fights raid)

  abbrev pub place : CellId
  place = Planet raid.target

  abbrev pub left_fleets : List Fleet
  left_fleets = (came_fought setting raid state is_in.planet).fleets

  abbrev pub state_after : State
  state_after = after_battle setting raid state is_in.planet

  abbrev pub became : Fleet → Option Fleet
  became = became_in raid.fleets (fought_fleet setting raid state is_in.planet)

  -- each cell stays

  planet-stays : Stays (of_planet is_in.planet) (of_planet (came_fought setting raid state is_in.planet).planet)
  planet-stays =
      let own = owns (seen_of setting (fights raid) state) in
      let all = fine.kinds place is_in.planet is_in.there in
      (fought-owner setting.rules.seed own raid is_in.planet, fought-kinds setting.rules.seed own raid is_in.planet all ∙ sym all)

  shown-stays : (x : CellId) → Stays (owns (seen_of setting (fights raid) state) x) (fought_own setting raid state is_in.planet x)
  shown-stays x =
      let own = owns (seen_of setting (fights raid) state) in
      let here : own place ≡ of_planet is_in.planet = shown-own setting.cells foot state place (battle-home raid) ∙ is_in.there in
      put-stays place (of_planet (came_fought setting raid state is_in.planet).planet) own
      (subst (λ old. Stays old (of_planet (came_fought setting raid state is_in.planet).planet)) (sym here) planet-stays) x

  pub battle-stays : AllStay state.own state_after.own
  battle-stays x =
      let own = fought_own setting raid state is_in.planet in
      elim (test (foot x)) [
        | inl has ↦
            subst (λ new. Stays (state.own x) new) (sym (ap (λ b. cond b (own x) (state.own x)) has))
            (subst (λ old. Stays old (own x)) (shown-own setting.cells foot state x has) (shown-stays x))
        | inr out ↦ subst (λ new. Stays (state.own x) new) (sym (ap (λ b. cond b (own x) (state.own x)) out)) (stays-itself (state.own x))
      ]

  -- where it isn't fought, a cell is as before
  pub battle-elsewhere : (x : CellId) → same_cell place x ≡ false → state_after.own x ≡ state.own x
  battle-elsewhere x apart =
      let seen = seen_of setting (fights raid) state in
      let own = fought_own setting raid state is_in.planet in
      let put : own x ≡ owns seen x = ap (λ b. cond b (of_planet (came_fought setting raid state is_in.planet).planet) (owns seen x)) apart in
      elim (test (foot x)) [
        | inl has ↦ ap (λ b. cond b (own x) (state.own x)) has ∙ put ∙ shown-own setting.cells foot state x has
        | inr out ↦ ap (λ b. cond b (own x) (state.own x)) out
      ]

  -- and where it is, it is what the battle left of it
  pub battle-place : state_after.own place ≡ of_planet (came_fought setting raid state is_in.planet).planet
  battle-place =
      let own = fought_own setting raid state is_in.planet in
      ap (λ b. cond b (own place) (state.own place)) (battle-home raid)
      ∙ ap (λ b. cond b (of_planet (came_fought setting raid state is_in.planet).planet) (owns (seen_of setting (fights raid) state) place)) (cell-itself place)

  -- a fleet with the number of one of the raid is that one
  pub raider-one : (fleet : Fleet) → IsIn fleet state.fleets → list_any (same_flight fleet) raid.fleets ≡ true → IsIn fleet raid.fleets
  raider-one fleet is numbered =
      let found = any-in (same_flight fleet) raid.fleets numbered in
      let one = fleet-one state.fleets fleet found.0 fine.apart is (is_in.each found.0 found.1).flies found.2 in
      subst (λ f. IsIn f raid.fleets) (sym one) found.1

  -- the cells of each are needed
  pub raider-cells : (fleet : Fleet) (x : CellId) → IsIn fleet raid.fleets → belongs x fleet ≡ true → foot x ≡ true
  raider-cells fleet x is has = or-second (same_cell place x) (list_any (belongs x) raid.fleets) (in-any (belongs x) fleet raid.fleets is has)

  -- so is the account of the owner of the planet
  pub defender-needed : (owner : Player) → owner_of (state.own place) ≡ Some owner → foot (Account owner) ≡ true
  defender-needed owner is =
      let raider = is_in.each is_in.one is_in.has_one in
      let flying = fine.flying is_in.one raider.flies in
      let out = (and-is is_in.one.outbound (is_attack is_in.one.mission) raider.hostile).0 in
      let reaches : state.own place ≡ of_planet flying.to = ap (λ at. state.own (Planet at)) (sym raider.target) ∙ flying.reaches in
      let some : Some flying.to.owner ≡ Some owner = sym (ap owner_of reaches) ∙ is in
      let same : is_in.one.target_owner ≡ owner = sym flying.is_theirs ∙ cc in
      let near = same_cell (Planet is_in.one.origin) (Account owner) || same_cell (Account is_in.one.owner) (Account owner) in
      let far = same_cell (Planet is_in.one.target) (Account owner) || same_cell (Account is_in.one.target_owner) (Account owner) in
      raider-cells is_in.one (Account owner) is_in.has_one
      (or-second near (is_in.one.outbound && far) (and-from is_in.one.outbound far out
      (or-second (same_cell (Planet is_in.one.target) (Account owner)) (same_cell (Account is_in.one.target_owner) (Account owner)) (cell-from (Account is_in.one.target_owner) (Account owner) (ap Account same)))))

  battle-counted : (x : CellId) → (holding_at state_after x ≡ holding_at state x) ⊎ ((owner : Player) → owner_of (state.own x) ≡ Some owner → foot (Account owner) ≡ true)
  battle-counted x =
      elim (test (same_cell place x)) [
        | inl here ↦ inr (λ owner is. defender-needed owner (ap (λ y. owner_of (state.own y)) (cell-is place x here) ∙ is))
        | inr apart ↦ inl (ap (λ own. holding own (queue_in state.items x Yard)) (battle-elsewhere x apart))
      ]

  pub battle-within : IsWithin foot foot (event_change setting.rules (fights raid) (seen_of setting (fights raid) state)) state
  battle-within =
      let own = fought_own setting raid state is_in.planet in
      subst (λ change. IsWithin foot foot change state) (sym (change-fought setting raid state is_in.planet is_in.there))
      (within-fleets foot foot own raid.fleets (fought_fleet setting raid state is_in.planet) state
      (record {
        among = λ x has. has;
        owners = λ x has. stays-owner (owns (seen_of setting (fights raid) state) x) (own x) (shown-stays x) ∙ ap owner_of (shown-own setting.cells foot state x has);
        counted = λ x has. battle-counted x;
      })
      (back-belongs left_fleets)
      (λ cell fleet is numbered here. raider-cells fleet cell (raider-one fleet is numbered) here))

-- What becomes of a fleet: it is as before, or comes back.
pub data Becomes (left : List Fleet) (raid : Raid) (old new : Fleet) : Type 0 where
  is_back : list_any (same_flight old) raid.fleets ≡ true → comes_back left old ≡ Some new → Becomes left raid old new
  stays_so : list_any (same_flight old) raid.fleets ≡ false → old ≡ new → Becomes left raid old new

becomes_at : (left : List Fleet) (raid : Raid) (old new : Fleet) (b : Bool) → list_any (same_flight old) raid.fleets ≡ b → cond b (comes_back left old) (Some old) ≡ Some new → Becomes left raid old new
becomes_at left raid old new true in_raid is = is_back in_raid is
becomes_at left raid old new false other is = stays_so other cc

pub becomes : (left : List Fleet) (raid : Raid) (old new : Fleet) → became_in raid.fleets (comes_back left) old ≡ Some new → Becomes left raid old new
becomes left raid old new is = becomes_at left raid old new (list_any (same_flight old) raid.fleets) refl is

pub becomes-number : (left : List Fleet) (raid : Raid) (old new : Fleet) → Becomes left raid old new → new.number ≡ old.number
becomes-number left raid old new (is_back in_raid is) = back-number left old new is
becomes-number left raid old new (stays_so other same) = ap (λ (f : Fleet). f.number) (sym same)

-- one that flies out did so before
pub becomes-out : (left : List Fleet) (raid : Raid) (old new : Fleet) → Becomes left raid old new → new.outbound ≡ true → old ≡ new
becomes-out left raid old new (is_back in_raid is) out =
    let back = comes-back left old new is in
    absurd (never new.outbound out (ap (λ (f : Fleet). f.outbound) (sym back.is)))
becomes-out left raid old new (stays_so other same) out = same

back-flies : (state : State) (old rest : Fleet) → length rest.ships ≡ length SHIPS → IsFlying state old → IsFlying state (back_with old rest)
back-flies state old rest kinds flying = record {
  from = flying.from;
  leaves = flying.leaves;
  is_own = flying.is_own;
  to = flying.to;
  reaches = flying.reaches;
  is_theirs = flying.is_theirs;
  kinds = kinds;
  later = λ out. absurd cc;
  deployed = flying.deployed;
  grouped = flying.grouped;
}

pub becomes-flies : (state : State) (left : List Fleet) (raid : Raid) (old new : Fleet) → ((fleet : Fleet) → IsIn fleet left → length fleet.ships ≡ length SHIPS)
    → Becomes left raid old new → IsFlying state old → IsFlying state new
becomes-flies state left raid old new kinds (is_back in_raid is) flying =
    let back = comes-back left old new is in
    subst (IsFlying state) back.is (back-flies state old back.rest (kinds back.rest back.within) flying)
becomes-flies state left raid old new kinds (stays_so other same) flying = subst (IsFlying state) same flying

-- Sums over fleets of which each changes or goes.

sums-at : (w : Fleet → ℕ) (h : Fleet → Option Fleet) (first : Fleet) (rest : List Fleet) → sum_by w (filter_map h (first ∷ rest)) ≡ weight w (h first) + sum_by w (filter_map h rest)
sums-at w h first rest = cons-weight w (h first) (filter_map h rest)

pub sums-less : (w : Fleet → ℕ) (h : Fleet → Option Fleet) (fleets : List Fleet) → ((f : Fleet) → IsIn f fleets → weight w (h f) ≤ w f)
    → sum_by w (filter_map h fleets) ≤ sum_by w fleets
sums-less w h [] less = omega arith
sums-less w h (first ∷ rest) less =
    let one = less first (inl refl) in
    let others = sums-less w h rest (λ f is. less f (inr is)) in
    let new = sums-at w h first rest in
    let old = sum_by-cons w first rest in
    omega (arith, one, others, new, old)

pub sums-fall : (w : Fleet → ℕ) (h : Fleet → Option Fleet) (one : Fleet) (fleets : List Fleet) → ((f : Fleet) → IsIn f fleets → weight w (h f) ≤ w f) → IsIn one fleets → weight w (h one) < w one
    → sum_by w (filter_map h fleets) < sum_by w fleets
sums-fall w h one [] less is fall = absurd is
sums-fall w h one (first ∷ rest) less (inl same) fall =
    let here = subst (λ f. weight w (h f) < w f) same fall in
    let others = sums-less w h rest (λ f is. less f (inr is)) in
    let new = sums-at w h first rest in
    let old = sum_by-cons w first rest in
    omega (arith, here, others, new, old)
sums-fall w h one (first ∷ rest) less (inr is) fall =
    let here = less first (inl refl) in
    let others = sums-fall w h one rest (λ f has. less f (inr has)) is fall in
    let new = sums-at w h first rest in
    let old = sum_by-cons w first rest in
    omega (arith, here, others, new, old)

still-one : (left : List Fleet) (raid : Raid) (one : Fleet) → Becomes left raid one one → one.outbound ≡ true → list_any (same_flight one) raid.fleets ≡ true → ⊥
still-one left raid one (is_back in_raid is) out named =
    let back = comes-back left one one is in
    never one.outbound out (ap (λ (f : Fleet). f.outbound) (sym back.is))
still-one left raid one (stays_so other same) out named = never (list_any (same_flight one) raid.fleets) named other

-- the fleets of a group that doesn't fight stay
pub raider-apart : (setting : Setting) (state : State) (raid : Raid) (fine : KeepsRules setting state) (is_in : IsRaidIn state raid) (left : List Fleet) (one : Fleet)
    → became_in raid.fleets (comes_back left) one ≡ Some one → IsIn one state.fleets → attacks one ≡ true → (fleet : Fleet) → IsIn fleet state.fleets → fleet.group ≡ one.group
    → became_in raid.fleets (comes_back left) fleet ≡ Some fleet
raider-apart setting state raid fine is_in left one one_stays flies hostile fleet is group =
    let out = (and-is one.outbound (is_attack one.mission) hostile).0 in
    let other : list_any (same_flight fleet) raid.fleets ≡ false = fails (list_any (same_flight fleet) raid.fleets) (λ named.
    let mine = raider-one setting state raid fine is_in fleet is named in
    let one_group : one.group ≡ raid.group = sym group ∙ (is_in.each fleet mine).group in
    let in_raid = is_in.all one flies hostile one_group in
    let one_named : list_any (same_flight one) raid.fleets ≡ true = in-any (same_flight one) one raid.fleets in_raid (same_number one.number) in
    still-one left raid one (becomes left raid one one one_stays) out one_named) in
    ap (λ b. cond b (comes_back left fleet) (Some fleet)) other
