-- What a fleet that lands does to a state.
use Rattle.std.proofs.Common.{◌≡◌, ℕ, ◌+◌, ◌⊎◌, inl, inr, Bool, true, false, cond, eqb, ◌||◌, ◌&&◌, List, [], ◌∷◌, Option, None, Some, length, sum_by, arith, refl, ap, ◌∙◌, sym, subst}
use Rattle.std.proofs.lemmas.List.Sums.{sum_by-cons}
use Rattle.std.specs.List.{filter_map, list_any, cons_option}
use Rattle.base_ids.specs.Cells.{same_cell}
use Rattle.base_ids.specs.declared.player.Player.{Player}
use Rattle.base_ids.specs.declared.cell_id.CellId.{CellId}
use Rattle.base_ids.specs.declared.cell_id.CellId.TheVariants.{Account, Planet}
use Rattle.catalog.specs.declared.mission.Mission.{Mission}
use Rattle.catalog.specs.declared.mission.Mission.TheVariants.{Transport, Deploy, Harvest, Attack}
use Rattle.laziness.proofs.Bringing.{test, never}
use Rattle.reply_text.specs.declared.units.Units.{Units}
use Rattle.tick_model.specs.Changes.{owns, put_own}
use Rattle.tick_model.specs.Events.{lands, effect, event_change, footprint}
use Rattle.tick_model.specs.Flights.{Landed, arrived, back_at, harvested, joined_by, landed, landing, moored, supplied, turned, turns}
use Rattle.tick_model.specs.Rules.{AreApart, IsFlying, IsIn, KeepsRules, same_flight}
use Rattle.tick_model.specs.Universe.{Own, of_nothing, of_account, of_planet, PlanetFields, Yard, Fleet, Setting, State}
use Rattle.tick_model.specs.Views.{View, belongs, holding, holding_at, queue_in, view}
use Rattle.tick_model.proofs.Effects.{put-stays, seen_of}
use Rattle.tick_model.proofs.Lists.{cell-from, cell-is, cell-itself, fleet-one, from-filter, none-any, number-turned, or-first, or-is, or-second, same_number}
use Rattle.tick_model.proofs.Owns.{Stays, owner_of, stays-itself, stays-owner}
use Rattle.tick_model.proofs.Staying.{AllStay}
use Rattle.tick_model.proofs.Writes.{IsWithin, became_at, owns_after, shown-own, with_fleet, within-fleet, write-fleet}

-- what it makes of the place where it lands
abbrev pub came_landed : Fleet → (CellId → View) → Landed
came_landed fleet seen = landed fleet (owns seen (Planet (landing fleet)))

abbrev pub landed_own : Fleet → (CellId → View) → CellId → Own
landed_own fleet seen = put_own (Planet (landing fleet)) (came_landed fleet seen).own (owns seen)

-- the state after it
abbrev pub after_landing : Setting → Fleet → State → State
after_landing setting fleet state =
    let seen = seen_of setting (lands fleet) state in
    with_fleet (owns_after (footprint (lands fleet)) (landed_own fleet seen) state) fleet.number (turns (came_landed fleet seen).back) state

pub landing-is : (setting : Setting) (fleet : Fleet) (state : State) → effect setting (lands fleet) state ≡ after_landing setting fleet state
landing-is setting fleet state =
    let seen = seen_of setting (lands fleet) state in
    write-fleet (footprint (lands fleet)) (landed_own fleet seen) fleet.number (turns (came_landed fleet seen).back) state

-- a fleet that a cell shows flies
pub flies-in : (list : List CellId) (state : State) (cell : CellId) (fleet : Fleet) → IsIn fleet (view list state cell).fleets → IsIn fleet state.fleets
flies-in list state cell fleet is = (from-filter (belongs cell) fleet state.fleets is).0

-- Where a fleet lands is one of its cells.

belongs_at : (fleet : Fleet) (b : Bool) → fleet.outbound ≡ b → belongs (Planet (cond b fleet.target fleet.origin)) fleet ≡ true
belongs_at fleet true out =
    let there = cell-itself (Planet fleet.target) in
    or-second (same_cell (Planet fleet.origin) (Planet fleet.target) || false) (fleet.outbound && (same_cell (Planet fleet.target) (Planet fleet.target) || false)) (rw (out, there) refl)
belongs_at fleet false out =
    or-first (same_cell (Planet fleet.origin) (Planet fleet.origin) || false) (fleet.outbound && (same_cell (Planet fleet.target) (Planet fleet.origin) || false))
    (or-first (same_cell (Planet fleet.origin) (Planet fleet.origin)) false (cell-itself (Planet fleet.origin)))

pub landing-belongs : (fleet : Fleet) → belongs (Planet (landing fleet)) fleet ≡ true
landing-belongs fleet = belongs_at fleet fleet.outbound refl

-- so is the account of the owner of that place
account_at : (state : State) (fleet : Fleet) → IsFlying state fleet → (b : Bool) → fleet.outbound ≡ b → (owner : Player)
    → owner_of (state.own (Planet (cond b fleet.target fleet.origin))) ≡ Some owner → belongs (Account owner) fleet ≡ true
account_at state fleet flying true out owner is =
    let one : Some flying.to.owner ≡ Some owner = sym (ap owner_of flying.reaches) ∙ is in
    let same : fleet.target_owner ≡ owner = sym flying.is_theirs ∙ cc in
    let here = cell-from (Account fleet.target_owner) (Account owner) (ap Account same) in
    or-second (false || same_cell (Account fleet.owner) (Account owner)) (fleet.outbound && (false || same_cell (Account fleet.target_owner) (Account owner))) (rw (out, here) refl)
account_at state fleet flying false out owner is =
    let one : Some flying.from.owner ≡ Some owner = sym (ap owner_of flying.leaves) ∙ is in
    let same : fleet.owner ≡ owner = sym flying.is_own ∙ cc in
    or-first (false || same_cell (Account fleet.owner) (Account owner)) (fleet.outbound && (false || same_cell (Account fleet.target_owner) (Account owner)))
    (cell-from (Account fleet.owner) (Account owner) (ap Account same))

pub landing-account : (state : State) (fleet : Fleet) → IsFlying state fleet → (owner : Player) → owner_of (state.own (Planet (landing fleet))) ≡ Some owner → belongs (Account owner) fleet ≡ true
landing-account state fleet flying owner is = account_at state fleet flying fleet.outbound refl owner is

-- A fleet that has turned back belongs to no other cell.
pub turned-belongs : (cell : CellId) (fleet : Fleet) (second : ℕ) (cargo : Units) → belongs cell (turned fleet second cargo) ≡ true → belongs cell fleet ≡ true
turned-belongs cell fleet second cargo is =
    let near = same_cell (Planet fleet.origin) cell || same_cell (Account fleet.owner) cell in
    let far = fleet.outbound && (same_cell (Planet fleet.target) cell || same_cell (Account fleet.target_owner) cell) in
    elim (or-is near false is) [ inl here ↦ or-first near far here | inr none ↦ absurd (never false none refl) ]

pub turns-belongs : (back : Option Units) (cell : CellId) (old new : Fleet) → turns back old ≡ Some new → belongs cell new ≡ true → belongs cell old ≡ true
turns-belongs None cell old new is here = absurd cc
turns-belongs (Some cargo) cell old new is here =
    let same : turned old (back_at old) cargo ≡ new = cc in
    turned-belongs cell old (back_at old) cargo (ap (belongs cell) same ∙ here)

pub turns-number : (back : Option Units) (old new : Fleet) → turns back old ≡ Some new → new.number ≡ old.number
turns-number None old new is = absurd cc
turns-number (Some cargo) old new is = let same : turned old (back_at old) cargo ≡ new = cc in ap (λ (f : Fleet). f.number) (sym same)

-- a fleet that flies out then flew out before
pub still-out : (fleet old new : Fleet) (back : Option Units) (b : Bool) → cond b (turns back old) (Some old) ≡ Some new → new.outbound ≡ true → old ≡ new
still-out fleet old new None true is out = absurd cc
still-out fleet old new (Some cargo) true is out =
    let same : turned old (back_at old) cargo ≡ new = cc in
    never (turned old (back_at old) cargo).outbound (ap (λ (f : Fleet). f.outbound) same ∙ out) refl
still-out fleet old new back false is out = cc

-- What cells have of their own stays.

pub joined-kinds : (counts ships : List ℕ) → length (joined_by counts ships) ≡ length counts
joined-kinds [] ships = refl
joined-kinds (count ∷ counts) [] = refl
joined-kinds (count ∷ counts) (ship ∷ ships) = let rest = joined-kinds counts ships in omega (arith, rest)

moored-stays : (planet : PlanetFields) (fleet : Fleet) → Stays (of_planet planet) (of_planet (moored planet fleet))
unfolding moored
moored-stays planet fleet = (refl, joined-kinds planet.units fleet.ships)

supplied-stays : (planet : PlanetFields) (fleet : Fleet) → Stays (of_planet planet) (of_planet (supplied planet fleet))
unfolding supplied
supplied-stays planet fleet = (refl, refl)

harvested-stays : (planet : PlanetFields) (fleet : Fleet) → Stays (of_planet planet) (of_planet (harvested planet fleet))
unfolding harvested
harvested-stays planet fleet = (refl, refl)

arrived-stays : (mission : Mission) (fleet : Fleet) (planet : PlanetFields) → Stays (of_planet planet) (arrived mission fleet planet).own
arrived-stays Transport fleet planet = supplied-stays planet fleet
arrived-stays Deploy fleet planet = moored-stays planet fleet
arrived-stays Harvest fleet planet = harvested-stays planet fleet
arrived-stays Attack fleet planet = (refl, refl)

landed_at : (fleet : Fleet) (planet : PlanetFields) (b : Bool)
    → Stays (of_planet planet) (cond b (arrived fleet.mission fleet planet) (record { own = of_planet (moored planet fleet); back = None })).own
landed_at fleet planet true = arrived-stays fleet.mission fleet planet
landed_at fleet planet false = moored-stays planet fleet

pub landed-stays : (fleet : Fleet) (own : Own) → Stays own (landed fleet own).own
landed-stays fleet of_nothing = tt
landed-stays fleet (of_account account) = tt
landed-stays fleet (of_planet planet) = landed_at fleet planet fleet.outbound

came-landed-stays : (setting : Setting) (state : State) (fleet : Fleet) (x : CellId)
    → Stays (owns (seen_of setting (lands fleet) state) x) (landed_own fleet (seen_of setting (lands fleet) state) x)
came-landed-stays setting state fleet x =
    let seen = seen_of setting (lands fleet) state in
    put-stays (Planet (landing fleet)) (came_landed fleet seen).own (owns seen) (landed-stays fleet (owns seen (Planet (landing fleet)))) x

pub landing-stays : (setting : Setting) (state : State) (fleet : Fleet) → AllStay state.own (after_landing setting fleet state).own
landing-stays setting state fleet x =
    let foot = footprint (lands fleet) in
    let own = landed_own fleet (seen_of setting (lands fleet) state) in
    elim (test (foot x)) [
      | inl has ↦
          subst (λ new. Stays (state.own x) new) (sym (ap (λ b. cond b (own x) (state.own x)) has))
          (subst (λ old. Stays old (own x)) (shown-own setting.cells foot state x has) (came-landed-stays setting state fleet x))
      | inr out ↦ subst (λ new. Stays (state.own x) new) (sym (ap (λ b. cond b (own x) (state.own x)) out)) (stays-itself (state.own x))
    ]

-- where it doesn't land, a cell is as before
pub landing-elsewhere : (setting : Setting) (state : State) (fleet : Fleet) (x : CellId) → same_cell (Planet (landing fleet)) x ≡ false → (after_landing setting fleet state).own x ≡ state.own x
landing-elsewhere setting state fleet x apart =
    let foot = footprint (lands fleet) in
    let seen = seen_of setting (lands fleet) state in
    let own = landed_own fleet seen in
    let put : own x ≡ owns seen x = ap (λ b. cond b (came_landed fleet seen).own (owns seen x)) apart in
    elim (test (foot x)) [
      | inl has ↦ ap (λ b. cond b (own x) (state.own x)) has ∙ put ∙ shown-own setting.cells foot state x has
      | inr out ↦ ap (λ b. cond b (own x) (state.own x)) out
    ]

-- and where it does, it is what landing makes of it
pub landing-place : (setting : Setting) (state : State) (fleet : Fleet)
    → (after_landing setting fleet state).own (Planet (landing fleet)) ≡ (landed fleet (state.own (Planet (landing fleet)))).own
landing-place setting state fleet =
    let foot = footprint (lands fleet) in
    let place = Planet (landing fleet) in
    let seen = seen_of setting (lands fleet) state in
    ap (λ b. cond b (landed_own fleet seen place) (state.own place)) (landing-belongs fleet)
    ∙ ap (λ b. cond b (came_landed fleet seen).own (owns seen place)) (cell-itself place)
    ∙ ap (λ own. (landed fleet own).own) (shown-own setting.cells foot state place (landing-belongs fleet))

counted_at : (setting : Setting) (state : State) (fleet : Fleet) → IsFlying state fleet → (x : CellId)
    → (holding_at (after_landing setting fleet state) x ≡ holding_at state x) ⊎ ((owner : Player) → owner_of (state.own x) ≡ Some owner → belongs (Account owner) fleet ≡ true)
counted_at setting state fleet flying x =
    elim (test (same_cell (Planet (landing fleet)) x)) [
      | inl here ↦ inr (λ owner is. landing-account state fleet flying owner (ap (λ y. owner_of (state.own y)) (cell-is (Planet (landing fleet)) x here) ∙ is))
      | inr apart ↦ inl (ap (λ own. holding own (queue_in state.items x Yard)) (landing-elsewhere setting state fleet x apart))
    ]

pub landing-within : (setting : Setting) (state : State) (fleet : Fleet) → KeepsRules setting state → IsIn fleet state.fleets
    → IsWithin (footprint (lands fleet)) (footprint (lands fleet)) (event_change setting.rules (lands fleet) (seen_of setting (lands fleet) state)) state
landing-within setting state fleet fine flies =
    let foot = footprint (lands fleet) in
    let seen = seen_of setting (lands fleet) state in
    let own = landed_own fleet seen in
    within-fleet foot foot own fleet.number (turns (came_landed fleet seen).back) state
    (record {
      among = λ x has. has;
      owners = λ x has. stays-owner (owns seen x) (own x) (came-landed-stays setting state fleet x) ∙ ap owner_of (shown-own setting.cells foot state x has);
      counted = λ x has. counted_at setting state fleet (fine.flying fleet flies) x;
    })
    (turns-belongs (came_landed fleet seen).back)
    (λ cell other is same here. subst (λ f. belongs cell f ≡ true) (fleet-one state.fleets other fleet fine.apart is flies same) here)

-- Only a fleet that flies out turns back.
out_at : (fleet : Fleet) (planet : PlanetFields) (cargo : Units) (b : Bool)
    → (cond b (arrived fleet.mission fleet planet) (record { own = of_planet (moored planet fleet); back = None })).back ≡ Some cargo → b ≡ true
out_at fleet planet cargo true is = refl
out_at fleet planet cargo false is = absurd cc

pub back-out : (fleet : Fleet) (own : Own) (cargo : Units) → (landed fleet own).back ≡ Some cargo → fleet.outbound ≡ true
back-out fleet of_nothing cargo is = absurd cc
back-out fleet (of_account account) cargo is = absurd cc
back-out fleet (of_planet planet) cargo is = out_at fleet planet cargo fleet.outbound is

-- Sums over fleets, of which one changes or goes.

abbrev pub weight : (Fleet → ℕ) → Option Fleet → ℕ
weight w None = 0
weight w (Some fleet) = w fleet

others-stay : (number : ℕ) (became : Fleet → Option Fleet) (fleets : List Fleet) → ((f : Fleet) → IsIn f fleets → eqb f.number number ≡ false) → filter_map (became_at number became) fleets ≡ fleets
others-stay number became [] other = refl
others-stay number became (fleet ∷ fleets) other =
    ap (λ b. cons_option (cond b (became fleet) (Some fleet)) (filter_map (became_at number became) fleets)) (other fleet (inl refl))
    ∙ ap (λ rest. fleet ∷ rest) (others-stay number became fleets (λ f is. other f (inr is)))

pub cons-weight : (w : Fleet → ℕ) (new : Option Fleet) (rest : List Fleet) → sum_by w (cons_option new rest) ≡ weight w new + sum_by w rest
cons-weight w None rest = let zero : sum_by w rest ≡ 0 + sum_by w rest = omega arith in zero
cons-weight w (Some fleet) rest = sum_by-cons w fleet rest

first-weighs : (a b c d e : ℕ) → a ≡ b + c → d ≡ e + c → a + e ≡ d + b
first-weighs a b c d e new old = omega (arith, new, old)

later-weighs : (a b c d e f g : ℕ) → a ≡ b + c → d ≡ b + e → c + f ≡ e + g → a + f ≡ d + g
later-weighs a b c d e f g new old rest = omega (arith, new, old, rest)

sum-first : (w : Fleet → ℕ) (fleet : Fleet) (became : Fleet → Option Fleet) (fleets : List Fleet) → list_any (same_flight fleet) fleets ≡ false
    → sum_by w (filter_map (became_at fleet.number became) (fleet ∷ fleets)) + w fleet ≡ sum_by w (fleet ∷ fleets) + weight w (became fleet)
sum-first w fleet became fleets apart =
    let here = ap (λ b. cons_option (cond b (became fleet) (Some fleet)) (filter_map (became_at fleet.number became) fleets)) (same_number fleet.number) in
    let rest = others-stay fleet.number became fleets (λ f is. number-turned f.number fleet.number ∙ none-any (same_flight fleet) f fleets apart is) in
    let new = ap (sum_by w) (here ∙ ap (cons_option (became fleet)) rest) ∙ cons-weight w (became fleet) fleets in
    first-weighs _ (weight w (became fleet)) (sum_by w fleets) _ (w fleet) new (sum_by-cons w fleet fleets)

-- the change of one fleet changes a sum by as much
pub sum-changed : (w : Fleet → ℕ) (fleet : Fleet) (became : Fleet → Option Fleet) (fleets : List Fleet) → AreApart fleets → IsIn fleet fleets
    → sum_by w (filter_map (became_at fleet.number became) fleets) + w fleet ≡ sum_by w fleets + weight w (became fleet)
sum-changed w fleet became [] apart is = absurd is
sum-changed w fleet became (x ∷ xs) apart (inl same) =
    subst (λ f. sum_by w (filter_map (became_at f.number became) (x ∷ xs)) + w f ≡ sum_by w (x ∷ xs) + weight w (became f)) (sym same) (sum-first w x became xs apart.0)
sum-changed w fleet became (x ∷ xs) apart (inr later) =
    let here = ap (λ b. cons_option (cond b (became x) (Some x)) (filter_map (became_at fleet.number became) xs)) (none-any (same_flight x) fleet xs apart.0 later) in
    let new = ap (sum_by w) here ∙ sum_by-cons w x (filter_map (became_at fleet.number became) xs) in
    later-weighs _ (w x) _ _ _ (w fleet) (weight w (became fleet)) new (sum_by-cons w x xs) (sum-changed w fleet became xs apart.1 later)
