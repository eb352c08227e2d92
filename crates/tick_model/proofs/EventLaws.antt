-- The laws of gains, events and their order, for the game as it ticks: each is named as the field of laziness/specs/Laws,
-- ModelLaws, that it gives for the model `game setting`.
use Rattle.std.proofs.Common.{◌≡◌, ℕ, ◌+◌, ◌<◌, ◌≤◌, ◌⊎◌, inl, inr, Bool, true, false, nat_le, ◌&&◌, ◌||◌, cond, eqb, filter, arith, List, [], ◌∷◌, Option, None, Some, refl, ap, ◌∙◌, sym, subst}
use Rattle.std.specs.List.{filter_map, list_any}
use Rattle.base_ids.specs.Cells.{same_cell}
use Rattle.base_ids.specs.declared.player.Player.{Player}
use Rattle.base_ids.specs.Order.{key_before}
use Rattle.base_ids.specs.declared.cell_id.CellId.{CellId}
use Rattle.base_ids.specs.declared.cell_id.CellId.TheVariants.{Account, Planet}
use Rattle.request_text.specs.declared.request.Request.{Request}
use Rattle.request_text.specs.declared.request.Request.TheVariants.{Recall}
use Rattle.reply_text.specs.declared.units.Units.{Units}
use Rattle.request_text.specs.declared.entry.Entry.{Entry}
use Rattle.laziness.proofs.Bringing.{never, test}
use Rattle.laziness.specs.Laws.{Agree, ComesFrom, IsClosed, IsNext, NoneDue, Stands}
use Rattle.tick_model.specs.Events.{Event, IsRaid, item_due, lands, fights, Owes, effect, footprint, home as home_of, is_payer, key_of, next_event, second_of}
use Rattle.tick_model.specs.Game.{brings, events_left, game, landings_left, own_brings, research_brings}
use Rattle.tick_model.specs.Battles.{comes_back}
use Rattle.tick_model.specs.Changes.{owns}
use Rattle.tick_model.specs.Flights.{back_at, landing, turned, turns}
use Rattle.tick_model.specs.Production.{advance, gains}
use Rattle.tick_model.specs.Raids.{Raid, attacks, is_attack}
use Rattle.tick_model.specs.Requests.{asked, is_listed, names}
use Rattle.tick_model.specs.Sending.{belongs_out, fleet_of}
use Rattle.tick_model.specs.Rules.{AreApart, IsFlying, IsIn, KeepsRules, queue_cell}
use Rattle.tick_model.specs.Universe.{of_planet, QueueClass, Buildings, Researches, Yard, Fleet, Item, Setting, State, same_class}
use Rattle.tick_model.specs.Views.{View, belongs, queue_in, view}
use Rattle.tick_model.proofs.Asked.{asked-same}
use Rattle.tick_model.proofs.Battles.{back-belongs, comes-back}
use Rattle.tick_model.proofs.Battling.{Becomes, is_back, stays_so, after_battle, battle-home, battle-is, battle-stays, becomes, becomes-out, came_fought, raider-apart, raider-cells, raider-one}
use Rattle.tick_model.proofs.Brought.{BringsBy, by_fleet, by_owner, by_research, brings-by, brings-fleet, brings-own, brings-research}
use Rattle.tick_model.proofs.Effects.{after, effect-is, event-ends, event-stays, has-home, other-queue, queue-after, seen_of}
use Rattle.tick_model.proofs.EventKeeps.{event-falls, event-keeps}
use Rattle.tick_model.proofs.Fleets.{apart-filter, flies-out, out-flies}
use Rattle.tick_model.proofs.Footprints.{event-depends, event-outside}
use Rattle.tick_model.proofs.Follows.{Follows, follows-rest}
use Rattle.tick_model.proofs.Gains.{advance-asked, advance-keeps, gains-bring, gains-owe, gains-owed, more-gained, none-gained, view-advanced}
use Rattle.tick_model.proofs.Keys.{key-later, key-sooner}
use Rattle.tick_model.proofs.Landings.{after_landing, back-out, came_landed, flies-in, landing-belongs, landing-is, landing-stays, still-out, turns-belongs}
use Rattle.tick_model.proofs.Lists.{and-from, and-is, any-in, cell-from, cell-is, class-is, fails, fleet-one, from-changed, from-filter, in-any, in-filter, or-first, or-is, or-second}
use Rattle.tick_model.proofs.Nexts.{found-next, found-none, le-is}
use Rattle.tick_model.proofs.Owns.{brings-same, stays-owner}
use Rattle.tick_model.proofs.Raids.{IsRaidIn, attacker-stays, raid-before, raid-in, target-belongs}
use Rattle.tick_model.proofs.Writes.{became_at, became_in}
use Rattle.tick_model.proofs.Queues.{one-event, queued}

pub gains_none : (setting : Setting) (v : View) → gains setting.rules 0 v ≡ v
gains_none setting v = none-gained setting.rules v

pub gains_more : (setting : Setting) (m n : ℕ) (v : View) → gains setting.rules n (gains setting.rules m v) ≡ gains setting.rules (m + n) v
gains_more setting m n v = more-gained setting.rules m n v

pub gains_keep : (setting : Setting) (n : ℕ) (v : View) (e : Event) → Owes v e → Owes (gains setting.rules n v) e
gains_keep setting n v e owes = gains-owe setting.rules n v e owes

pub gains_make_none : (setting : Setting) (n : ℕ) (v : View) (e : Event) → Owes (gains setting.rules n v) e → Owes v e
gains_make_none setting n v e owes = gains-owed setting.rules n v e owes

pub gains_bring : (setting : Setting) (n t : ℕ) (v : View) (y : CellId) → brings (gains setting.rules n v) t y ≡ true → brings v t y ≡ true
gains_bring setting n t v y brought = gains-bring setting.rules n t v y brought

pub advanced : (setting : Setting) (k : CellId → ℕ) (u : State) (x : CellId)
    → view setting.cells (advance setting k u) x ≡ gains setting.rules (k x) (view setting.cells u x)
advanced setting k u x = view-advanced setting k u x

pub advance_fine : (setting : Setting) (k : CellId → ℕ) (u : State) → KeepsRules setting u → KeepsRules setting (advance setting k u)
advance_fine setting k u fine = advance-keeps setting k u fine

pub advance_count : (setting : Setting) (k : CellId → ℕ) (u : State) → (advance setting k u).number ≡ u.number
advance_count setting k u = refl

pub advance_measure : (setting : Setting) (k : CellId → ℕ) (u : State)
    → events_left (advance setting k u).items + landings_left (advance setting k u).fleets ≡ events_left u.items + landings_left u.fleets
advance_measure setting k u = refl

pub advance_asks : (setting : Setting) (k : CellId → ℕ) (u : State) (a : Entry) (y : CellId) → asked setting.cells (view setting.cells (advance setting k u)) a.player a.req y ≡ true
    → asked setting.cells (view setting.cells u) a.player a.req y ≡ true
advance_asks setting k u a y asks = sym (advance-asked setting k u a y) ∙ asks

-- a key has the second of its event
key-second : (e : Event) → (key_of e).second ≡ second_of e
key-second (item_due class item later) = refl
key-second (lands fleet) = refl
key-second (fights raid) = refl

pub sooner_first : (setting : Setting) (e d : Event) → second_of e < second_of d → key_before (key_of e) (key_of d) ≡ true
sooner_first setting e d earlier =
    let first = key-second e in
    let second = key-second d in
    key-sooner (key_of e) (key_of d) (omega (arith, first, second, earlier))

pub first_sooner : (setting : Setting) (e d : Event) → key_before (key_of e) (key_of d) ≡ true → second_of e ≤ second_of d
first_sooner setting e d before =
    let first = key-second e in
    let second = key-second d in
    let later = key-later (key_of e) (key_of d) before in
    omega (arith, first, second, later)

pub one : (setting : Setting) (u : State) (e d : Event) → KeepsRules setting u → Stands (game setting) u e → Stands (game setting) u d
    → (key_before (key_of e) (key_of d) ≡ true → ⊥) → (key_before (key_of d) (key_of e) ≡ true → ⊥) → e ≡ d
one setting u e d fine stands stands' after before =
    one-event setting u e d fine stands stands' (fails (key_before (key_of e) (key_of d)) after) (fails (key_before (key_of d) (key_of e)) before)

pub home : (setting : Setting) (e : Event) → footprint e (home_of e) ≡ true
home setting (item_due class item later) = has-home class item later
home setting (lands fleet) = landing-belongs fleet
home setting (fights raid) = battle-home raid

pub depends : (setting : Setting) (u v : State) (e : Event) → KeepsRules setting u → KeepsRules setting v → Stands (game setting) u e → Stands (game setting) v e
    → Agree (game setting) (footprint e) u v → Agree (game setting) (footprint e) (effect setting e u) (effect setting e v)
depends setting u v e fine fine' stands stands' agree x has = event-depends setting u v e fine fine' stands stands' agree x has

pub outside : (setting : Setting) (u : State) (e : Event) (x : CellId) → KeepsRules setting u → Stands (game setting) u e → footprint e x ≡ false
    → view setting.cells (effect setting e u) x ≡ view setting.cells u x
outside setting u e x fine stands out = event-outside setting u e x fine stands out

-- those that are to pay some items are among those that are to pay more
payers-among : (some all : List Item) (cell : CellId) → ((item : Item) → IsIn item some → IsIn item all) → list_any (λ item. same_cell (Planet item.place) cell) some ≡ true
    → list_any (λ item. same_cell (Planet item.place) cell) all ≡ true
payers-among some all cell among is =
    let payer = λ (item : Item). same_cell (Planet item.place) cell in
    let found = any-in payer some is in
    in-any payer found.0 all (among found.0 found.1) found.2

pub payers-of : (class kind : QueueClass) (some all : List Item) (cell : CellId) → class ≡ kind → ((item : Item) → IsIn item some → IsIn item all) → is_payer kind some cell ≡ true
    → is_payer class all cell ≡ true
payers-of Researches Researches some all cell same among is = payers-among some all cell among is
payers-of Researches Buildings some all cell same among is = never false is refl
payers-of Researches Yard some all cell same among is = never false is refl
payers-of Buildings Researches some all cell same among is = absurd cc
payers-of Buildings Buildings some all cell same among is = is
payers-of Buildings Yard some all cell same among is = is
payers-of Yard Researches some all cell same among is = absurd cc
payers-of Yard Buildings some all cell same among is = is
payers-of Yard Yard some all cell same among is = is

-- the queue that an event leaves brings no more than the event needs
narrows : (class kind : QueueClass) (item : Item) (later : List Item) (first : Item) (rest : List Item) (x : CellId) → class ≡ kind → item.cell ≡ first.cell
    → Follows (item ∷ later) (first ∷ rest) → footprint (item_due kind first rest) x ≡ true → footprint (item_due class item later) x ≡ true
narrows class kind item later first rest x sort place follows has =
    elim (or-is (same_cell first.cell x) (is_payer kind rest x) has) [
      | inl at_home ↦ or-first (same_cell item.cell x) (is_payer class later x) ((λ i. same_cell (place i) x) ∙ at_home)
      | inr payer ↦ or-second (same_cell item.cell x) (is_payer class later x) (payers-of class kind rest later x sort (follows-rest item later first rest follows) payer)
    ]

-- a fleet that flies stands, if it doesn't attack
stands-landing : (setting : Setting) (u : State) (fleet : Fleet) → IsIn fleet u.fleets → attacks fleet ≡ false → Stands (game setting) u (lands fleet)
stands-landing setting u fleet is alone = (in-filter (belongs (home_of (lands fleet))) fleet u.fleets is (landing-belongs fleet), alone)

-- a fleet that turns back is back later
back-later : (state : State) (fleet : Fleet) → IsFlying state fleet → fleet.outbound ≡ true → fleet.second < back_at fleet
back-later state fleet flying out = let later = flying.later out in omega (arith, later)

-- what flies after a fleet has landed flew before, or is this fleet on its way back
landed-new : (setting : Setting) (u : State) (fleet new : Fleet) (back : Option Units) → KeepsRules setting u → IsIn fleet u.fleets → ((cargo : Units) → back ≡ Some cargo → fleet.outbound ≡ true)
    → turns back fleet ≡ Some new → Stands (game setting) u (lands new) ⊎ ((fleet.second < new.second) × ComesFrom (game setting) u (lands fleet) (lands new))
landed-new setting u fleet new None fine flies only is = absurd cc
landed-new setting u fleet new (Some cargo) fine flies only is =
    let same : turned fleet (back_at fleet) cargo ≡ new = cc in
    let later = back-later u fleet (fine.flying fleet flies) (only cargo refl) in
    inr (subst (λ (f : Fleet). fleet.second < f.second) same later, inl (λ x has. turns-belongs (Some cargo) x fleet new is has))

arises_at : (setting : Setting) (u : State) (fleet old new : Fleet) (back : Option Units) (b : Bool) → eqb old.number fleet.number ≡ b → attacks new ≡ false → KeepsRules setting u → IsIn fleet u.fleets → IsIn old u.fleets
    → ((cargo : Units) → back ≡ Some cargo → fleet.outbound ≡ true) → cond b (turns back old) (Some old) ≡ Some new
    → Stands (game setting) u (lands new) ⊎ ((fleet.second < new.second) × ComesFrom (game setting) u (lands fleet) (lands new))
arises_at setting u fleet old new back true number alone fine flies is only becomes =
    let one = fleet-one u.fleets old fleet fine.apart is flies number in
    landed-new setting u fleet new back fine flies only (subst (λ f. turns back f ≡ Some new) one becomes)
arises_at setting u fleet old new back false number alone fine flies is only becomes =
    let same : old ≡ new = cc in
    inl (stands-landing setting u new (subst (λ f. IsIn f u.fleets) same is) alone)

arises-landing : (setting : Setting) (u : State) (fleet new : Fleet) → KeepsRules setting u → IsIn fleet u.fleets → attacks new ≡ false → IsIn new (after_landing setting fleet u).fleets
    → Stands (game setting) u (lands new) ⊎ ((fleet.second < new.second) × ComesFrom (game setting) u (lands fleet) (lands new))
arises-landing setting u fleet new fine flies alone is =
    let seen = seen_of setting (lands fleet) u in
    let back = (came_landed fleet seen).back in
    let found = from-changed (became_at fleet.number (turns back)) new u.fleets is in
    arises_at setting u fleet found.0 new back (eqb found.0.number fleet.number) refl alone fine flies found.1 (back-out fleet (owns seen (Planet (landing fleet)))) found.2

-- what flies after a battle flew before, or comes back from it
arises-battle : (setting : Setting) (u : State) (raid : Raid) (old new : Fleet) → (fine : KeepsRules setting u) → (is_in : IsRaidIn u raid) → IsIn old u.fleets → attacks new ≡ false
    → Becomes (came_fought setting raid u is_in.planet).fleets raid old new
    → Stands (game setting) u (lands new) ⊎ ((raid.second < new.second) × ComesFrom (game setting) u (fights raid) (lands new))
arises-battle setting u raid old new fine is_in flies alone (stays_so other same) = inl (stands-landing setting u new (subst (λ f. IsIn f u.fleets) same flies) alone)
arises-battle setting u raid old new fine is_in flies alone (is_back in_raid is) =
    let left = (came_fought setting raid u is_in.planet).fleets in
    let back = comes-back left old new is in
    let mine = raider-one setting u raid fine is_in old flies in_raid in
    let raider = is_in.each old mine in
    let later = back-later u old (fine.flying old flies) (and-is old.outbound (is_attack old.mission) raider.hostile).0 in
    let second = raider.second in
    let now : back_at old ≡ new.second = ap (λ (f : Fleet). f.second) back.is in
    inr (omega (arith, later, second, now), inl (λ x has. raider-cells setting u raid fine is_in old x mine (back-belongs left x old new is has)))

pub arises : (setting : Setting) (u : State) (e d : Event) → KeepsRules setting u → Stands (game setting) u e → footprint e (home_of d) ≡ true
    → Stands (game setting) (effect setting e u) d
    → Stands (game setting) u d ⊎ ((second_of e < second_of d) × ComesFrom (game setting) u e d)
arises setting u (item_due class item later) (item_due kind first rest) fine stands has owes =
    let now : queue_in (after setting class item later u).items first.cell kind ≡ first ∷ rest = ap (λ s. queue_in s.items first.cell kind) (sym (effect-is setting class item later u)) ∙ owes in
    elim (test (same_cell item.cell first.cell && same_class class kind)) [
      | inr apart ↦ inl (sym (other-queue setting u class item later first.cell kind fine stands apart) ∙ now)
      | inl here ↦
          (let both = and-is (same_cell item.cell first.cell) (same_class class kind) here in
          let place = cell-is item.cell first.cell both.0 in
          let sort = class-is class kind both.1 in
          let ends = event-ends setting u class item later fine stands in
          let queue = sym (queue-after setting u class item later fine stands) ∙ (λ i. queue_in (after setting class item later u).items (place i) (sort i)) ∙ now in
          inr (ends.next first rest queue, inl (λ x. narrows class kind item later first rest x sort place (subst (Follows (item ∷ later)) queue ends.follows))))
    ]
arises setting u (item_due class item later) (lands fleet) fine stands has owes =
    inl (subst (λ s. IsIn fleet (view setting.cells s (Planet (landing fleet))).fleets) (effect-is setting class item later u) owes.0, owes.1)
arises setting u (item_due class item later) (fights raid) fine stands has owes =
    inl (subst (λ s. IsRaid (view setting.cells s (Planet raid.target)).fleets raid) (effect-is setting class item later u) owes)
arises setting u (lands fleet) (item_due class item later) fine stands has owes = inl (sym (ap (λ s. queue_in s.items item.cell class) (landing-is setting fleet u)) ∙ owes)
arises setting u (lands fleet) (lands new) fine stands has owes = arises-landing setting u fleet new fine (flies-in setting.cells u (home_of (lands fleet)) fleet stands.0) owes.1
    (flies-in setting.cells (after_landing setting fleet u) (home_of (lands new)) new (subst (λ s. IsIn new (view setting.cells s (home_of (lands new))).fleets) (landing-is setting fleet u) owes.0))
arises setting u (lands fleet) (fights raid) fine stands has owes =
    let flies = flies-in setting.cells u (home_of (lands fleet)) fleet stands.0 in
    let back = (came_landed fleet (seen_of setting (lands fleet) u)).back in
    inl (raid-before (became_at fleet.number (turns back)) u.fleets raid
    (λ old new is out. still-out fleet old new back (eqb old.number fleet.number) is out)
    (λ one flown one_in one_hostile other is hostile group. attacker-stays fleet (turns back) u.fleets other fine.apart flies stands.1 is hostile)
    (subst (λ s. IsRaid (view setting.cells s (Planet raid.target)).fleets raid) (landing-is setting fleet u) owes))
arises setting u (fights raid) (item_due class item later) fine stands has owes =
    let is_in = raid-in setting u raid fine stands in
    inl (sym (ap (λ s. queue_in s.items item.cell class) (battle-is setting raid u is_in.planet is_in.there)) ∙ owes)
arises setting u (fights raid) (lands new) fine stands has owes =
    let is_in = raid-in setting u raid fine stands in
    let after = after_battle setting raid u is_in.planet in
    let left = (came_fought setting raid u is_in.planet).fleets in
    let flown = flies-in setting.cells after (home_of (lands new)) new (subst (λ s. IsIn new (view setting.cells s (home_of (lands new))).fleets) (battle-is setting raid u is_in.planet is_in.there) owes.0) in
    let found = from-changed (became_in raid.fleets (comes_back left)) new u.fleets flown in
    arises-battle setting u raid found.0 new fine is_in found.1 owes.1 (becomes left raid found.0 new found.2)
arises setting u (fights raid) (fights other) fine stands has owes =
    let is_in = raid-in setting u raid fine stands in
    let left = (came_fought setting raid u is_in.planet).fleets in
    inl (raid-before (became_in raid.fleets (comes_back left)) u.fleets other
    (λ old new is out. becomes-out left raid old new (becomes left raid old new is) out)
    (λ one flown one_in one_hostile x is hostile group. raider-apart setting u raid fine is_in left one flown one_in one_hostile x is group)
    (subst (λ s. IsRaid (view setting.cells s (Planet other.target)).fleets other) (battle-is setting raid u is_in.planet is_in.there) owes))

-- a planet that is to pay research brings the account
payer-brings : (setting : Setting) (u : State) (t : ℕ) (item paid : Item) (later : List Item) (x : CellId) → KeepsRules setting u → queue_in u.items item.cell Researches ≡ item ∷ later
    → IsIn paid later → same_cell (Planet paid.place) x ≡ true → brings (view setting.cells u x) t item.cell ≡ true
payer-brings setting u t item paid later x fine stands is at_x =
    let old = queued u Researches item.cell item later stands paid (inr is) in
    let placed = fine.placed paid old.within in
    let account : item.cell ≡ Account placed.planet.owner = sym old.place ∙ placed.cell ∙ ap (λ class. queue_cell class paid.place placed.planet.owner) old.class_is in
    let own : u.own x ≡ of_planet placed.planet = ap u.own (sym (cell-is (Planet paid.place) x at_x)) ∙ placed.stands in
    brings-own (view setting.cells u x) t item.cell (
    (λ i. own_brings (own i) item.cell) ∙ cell-from (Account placed.planet.owner) item.cell (sym account))

-- an account brings those that are to pay the research behind one that is done
account-brings : (t : ℕ) (seen : View) (item : Item) (later : List Item) (y : CellId) → seen.queue Researches ≡ item ∷ later → item.second ≤ t → is_payer Researches later y ≡ true → brings seen t y ≡ true
account-brings t seen item later y stands due payer =
    brings-research seen t y (
    ap (λ items. research_brings t items y) stands ∙ and-from (nat_le item.second t) (is_payer Researches later y) (le-is item.second t due) payer)

home-inside : (setting : Setting) (S : CellId → Bool) (t : ℕ) (u : State) (class : QueueClass) (item : Item) (later : List Item) → KeepsRules setting u → IsClosed (game setting) (view setting.cells u) t S
    → queue_in u.items item.cell class ≡ item ∷ later → (x : CellId) → is_payer class later x ≡ true → S x ≡ true → S item.cell ≡ true
home-inside setting S t u Researches item later fine closed stands x payer inside =
    let found = any-in (λ paid. same_cell (Planet paid.place) x) later payer in
    closed x inside item.cell (payer-brings setting u t item found.0 later x fine stands found.1 found.2)
home-inside setting S t u Buildings item later fine closed stands x payer inside = never false payer refl
home-inside setting S t u Yard item later fine closed stands x payer inside = never false payer refl

payer-inside : (setting : Setting) (S : CellId → Bool) (t : ℕ) (u : State) (class : QueueClass) (item : Item) (later : List Item) → IsClosed (game setting) (view setting.cells u) t S
    → queue_in u.items item.cell class ≡ item ∷ later → item.second ≤ t → (y : CellId) → is_payer class later y ≡ true → S item.cell ≡ true → S y ≡ true
payer-inside setting S t u Researches item later closed stands due y payer inside =
    closed item.cell inside y (account-brings t (view setting.cells u item.cell) item later y stands due payer)
payer-inside setting S t u Buildings item later closed stands due y payer inside = never false payer refl
payer-inside setting S t u Yard item later closed stands due y payer inside = never false payer refl

-- a closed set that has a cell of a fleet that is due has all of them
cells-inside : (setting : Setting) (S : CellId → Bool) (t : ℕ) (u : State) (fleet : Fleet) → IsClosed (game setting) (view setting.cells u) t S → IsIn fleet u.fleets → fleet.second ≤ t
    → (x y : CellId) → belongs x fleet ≡ true → belongs y fleet ≡ true → S x ≡ true → S y ≡ true
cells-inside setting S t u fleet closed flies due x y has_x has_y inside =
    let there = in-filter (belongs x) fleet u.fleets flies has_x in
    let brought = in-any (λ (f : Fleet). nat_le f.second t && belongs y f) fleet (filter (belongs x) u.fleets) there (and-from (nat_le fleet.second t) (belongs y fleet) (le-is fleet.second t due) has_y) in
    closed x inside y (brings-fleet (view setting.cells u x) t y brought)

pub closure : (setting : Setting) (S : CellId → Bool) (t : ℕ) (u : State) → KeepsRules setting u → IsClosed (game setting) (view setting.cells u) t S
    → (e : Event) → Stands (game setting) u e → second_of e ≤ t → (x y : CellId) → footprint e x ≡ true → footprint e y ≡ true → S x ≡ true → S y ≡ true
closure setting S t u fine closed (item_due class item later) stands due x y has_x has_y inside =
    let home : S item.cell ≡ true = elim (or-is (same_cell item.cell x) (is_payer class later x) has_x) [
      | inl at_home ↦ subst (λ z. S z ≡ true) (sym (cell-is item.cell x at_home)) inside
      | inr payer ↦ home-inside setting S t u class item later fine closed stands x payer inside
    ] in
    elim (or-is (same_cell item.cell y) (is_payer class later y) has_y) [
      | inl at_home ↦ subst (λ z. S z ≡ true) (cell-is item.cell y at_home) home
      | inr payer ↦ payer-inside setting S t u class item later closed stands due y payer home
    ]
closure setting S t u fine closed (lands fleet) stands due x y has_x has_y inside =
    let flies = flies-in setting.cells u (home_of (lands fleet)) fleet stands.0 in
    cells-inside setting S t u fleet closed flies due x y has_x has_y inside
closure setting S t u fine closed (fights raid) stands due x y has_x has_y inside =
    let is_in = raid-in setting u raid fine stands in
    let place = Planet raid.target in
    let by : (fleet : Fleet) → IsIn fleet raid.fleets → fleet.second ≤ t = λ fleet is. let same = (is_in.each fleet is).second in omega (arith, same, due) in
    let at_place : (fleet : Fleet) → IsIn fleet raid.fleets → belongs place fleet ≡ true =
    λ fleet is. let raider = is_in.each fleet is in target-belongs raid.target fleet (and-is fleet.outbound (is_attack fleet.mission) raider.hostile).0 raider.target in
    let home : S place ≡ true = elim (or-is (same_cell place x) (list_any (belongs x) raid.fleets) has_x) [
      | inl here ↦ subst (λ z. S z ≡ true) (sym (cell-is place x here)) inside
      | inr some ↦
          (let found = any-in (belongs x) raid.fleets some in
          cells-inside setting S t u found.0 closed (is_in.each found.0 found.1).flies (by found.0 found.1) x place found.2 (at_place found.0 found.1) inside)
    ] in
    elim (or-is (same_cell place y) (list_any (belongs y) raid.fleets) has_y) [
      | inl here ↦ subst (λ z. S z ≡ true) (cell-is place y here) home
      | inr some ↦
          (let found = any-in (belongs y) raid.fleets some in
          cells-inside setting S t u found.0 closed (is_in.each found.0 found.1).flies (by found.0 found.1) place y (at_place found.0 found.1) found.2 home)
    ]

-- of what the research queue brings that an event leaves it needs all
still-brings : (t : ℕ) (class : QueueClass) (item : Item) (later queue : List Item) (y : CellId) → class ≡ Researches → Follows (item ∷ later) queue → research_brings t queue y ≡ true
    → footprint (item_due class item later) y ≡ true
still-brings t class item later [] y sort follows brought = never false brought refl
still-brings t class item later (first ∷ rest) y sort follows brought =
    let payer = (and-is (nat_le first.second t) (is_payer Researches rest y) brought).1 in
    or-second (same_cell item.cell y) (is_payer class later y) (payers-of class Researches rest later y sort (follows-rest item later first rest follows) payer)

widens-item : (setting : Setting) (u : State) (class : QueueClass) (item : Item) (later : List Item) (t : ℕ) (x y : CellId) → KeepsRules setting u → Stands (game setting) u (item_due class item later)
    → BringsBy (view setting.cells (after setting class item later u) x) t y → (brings (view setting.cells u x) t y ≡ true) ⊎ (footprint (item_due class item later) y ≡ true)
widens-item setting u class item later t x y fine stands (by_owner own) =
    let new = after setting class item later u in
    let owner = brings-same (new.own x) (u.own x) (stays-owner (u.own x) (new.own x) (event-stays setting u class item later x)) y in
    inl (brings-own (view setting.cells u x) t y (sym owner ∙ own))
widens-item setting u class item later t x y fine stands (by_fleet fleet) = inl (brings-fleet (view setting.cells u x) t y fleet)
widens-item setting u class item later t x y fine stands (by_research research) =
    let new = after setting class item later u in
    elim (test (same_cell item.cell x && same_class class Researches)) [
      | inr apart ↦
          (let queue = other-queue setting u class item later x Researches fine stands apart in
          inl (brings-research (view setting.cells u x) t y (sym (ap (λ items. research_brings t items y) queue) ∙ research)))
      | inl here ↦
          (let both = and-is (same_cell item.cell x) (same_class class Researches) here in
          let place = cell-is item.cell x both.0 in
          let sort = class-is class Researches both.1 in
          let queue = (λ i. queue_in new.items (sym place i) (sym sort i)) ∙ queue-after setting u class item later fine stands in
          inr (still-brings t class item later _ y sort (event-ends setting u class item later fine stands).follows (sym (ap (λ items. research_brings t items y) queue) ∙ research)))
    ]

-- what a fleet brings after another one has landed, one brought before, or it is that one
widens_at : (u : State) (fleet old new : Fleet) (back : Option Units) (b : Bool) → eqb old.number fleet.number ≡ b → IsIn old u.fleets → IsIn fleet u.fleets → AreApart u.fleets
    → cond b (turns back old) (Some old) ≡ Some new → (y : CellId) → belongs y new ≡ true → (old ≡ new) ⊎ (belongs y fleet ≡ true)
widens_at u fleet old new back true number is flies apart becomes y has =
    let one = fleet-one u.fleets old fleet apart is flies number in
    inr (subst (λ f. belongs y f ≡ true) one (turns-belongs back y old new becomes has))
widens_at u fleet old new back false number is flies apart becomes y has = let same : old ≡ new = cc in inl same

widens-landing : (setting : Setting) (u : State) (fleet : Fleet) (t : ℕ) (x y : CellId) → KeepsRules setting u → IsIn fleet u.fleets
    → BringsBy (view setting.cells (after_landing setting fleet u) x) t y → (brings (view setting.cells u x) t y ≡ true) ⊎ (belongs y fleet ≡ true)
widens-landing setting u fleet t x y fine flies (by_owner own) =
    let new = after_landing setting fleet u in
    let owner = brings-same (new.own x) (u.own x) (stays-owner (u.own x) (new.own x) (landing-stays setting u fleet x)) y in
    inl (brings-own (view setting.cells u x) t y (sym owner ∙ own))
widens-landing setting u fleet t x y fine flies (by_research research) = inl (brings-research (view setting.cells u x) t y research)
widens-landing setting u fleet t x y fine flies (by_fleet brought) =
    let after_fleets = (after_landing setting fleet u).fleets in
    let back = (came_landed fleet (seen_of setting (lands fleet) u)).back in
    let found = any-in (λ (f : Fleet). nat_le f.second t && belongs y f) (filter (belongs x) after_fleets) brought in
    let new = found.0 in
    let both = and-is (nat_le new.second t) (belongs y new) found.2 in
    let there = from-filter (belongs x) new after_fleets found.1 in
    let old = from-changed (became_at fleet.number (turns back)) new u.fleets there.0 in
    elim (widens_at u fleet old.0 new back (eqb old.0.number fleet.number) refl old.1 flies fine.apart old.2 y both.1) [
      | inr needed ↦ inr needed
      | inl same ↦
          (let is : IsIn new u.fleets = subst (λ f. IsIn f u.fleets) same old.1 in
          let seen = in-filter (belongs x) new u.fleets is there.1 in
          inl (brings-fleet (view setting.cells u x) t y (in-any (λ (f : Fleet). nat_le f.second t && belongs y f) new (filter (belongs x) u.fleets) seen found.2)))
    ]

widens-battle : (setting : Setting) (u : State) (raid : Raid) (t : ℕ) (x y : CellId) → (fine : KeepsRules setting u) → (is_in : IsRaidIn u raid)
    → BringsBy (view setting.cells (after_battle setting raid u is_in.planet) x) t y → (brings (view setting.cells u x) t y ≡ true) ⊎ (footprint (fights raid) y ≡ true)
widens-battle setting u raid t x y fine is_in (by_owner own) =
    let new = after_battle setting raid u is_in.planet in
    let owner = brings-same (new.own x) (u.own x) (stays-owner (u.own x) (new.own x) (battle-stays setting u raid fine is_in x)) y in
    inl (brings-own (view setting.cells u x) t y (sym owner ∙ own))
widens-battle setting u raid t x y fine is_in (by_research research) = inl (brings-research (view setting.cells u x) t y research)
widens-battle setting u raid t x y fine is_in (by_fleet brought) =
    let left = (came_fought setting raid u is_in.planet).fleets in
    let h = became_in raid.fleets (comes_back left) in
    let found = any-in (λ (f : Fleet). nat_le f.second t && belongs y f) (filter (belongs x) (filter_map h u.fleets)) brought in
    let both = and-is (nat_le found.0.second t) (belongs y found.0) found.2 in
    let there = from-filter (belongs x) found.0 (filter_map h u.fleets) found.1 in
    let old = from-changed h found.0 u.fleets there.0 in
    elim (becomes left raid old.0 found.0 old.2) [
      | is_back in_raid is ↦ inr (raider-cells setting u raid fine is_in old.0 y (raider-one setting u raid fine is_in old.0 old.1 in_raid) (back-belongs left y old.0 found.0 is both.1))
      | stays_so other same ↦
          (let is : IsIn found.0 u.fleets = subst (λ f. IsIn f u.fleets) same old.1 in
          let seen = in-filter (belongs x) found.0 u.fleets is there.1 in
          inl (brings-fleet (view setting.cells u x) t y (in-any (λ (f : Fleet). nat_le f.second t && belongs y f) found.0 (filter (belongs x) u.fleets) seen found.2)))
    ]

pub widens : (setting : Setting) (u : State) (e : Event) (t : ℕ) (x y : CellId) → KeepsRules setting u → Stands (game setting) u e → footprint e x ≡ true
    → brings (view setting.cells (effect setting e u) x) t y ≡ true → (brings (view setting.cells u x) t y ≡ true) ⊎ (footprint e y ≡ true)
widens setting u (item_due class item later) t x y fine stands has brought =
    let now = sym (ap (λ s. brings (view setting.cells s x) t y) (effect-is setting class item later u)) ∙ brought in
    widens-item setting u class item later t x y fine stands (brings-by (view setting.cells (after setting class item later u) x) t y now)
widens setting u (lands fleet) t x y fine stands has brought =
    let now = sym (ap (λ s. brings (view setting.cells s x) t y) (landing-is setting fleet u)) ∙ brought in
    widens-landing setting u fleet t x y fine (flies-in setting.cells u (home_of (lands fleet)) fleet stands.0) (brings-by (view setting.cells (after_landing setting fleet u) x) t y now)
widens setting u (fights raid) t x y fine stands has brought =
    let is_in = raid-in setting u raid fine stands in
    let now = sym (ap (λ s. brings (view setting.cells s x) t y) (battle-is setting raid u is_in.planet is_in.there)) ∙ brought in
    widens-battle setting u raid t x y fine is_in (brings-by (view setting.cells (after_battle setting raid u is_in.planet) x) t y now)

-- Which cells a request asks for after a fleet has landed.

outs-after : (cells : List CellId) (u v : State) (h : Fleet → Option Fleet) (player : Player) (number : ℕ) (y : CellId) → AreApart u.fleets → v.fleets ≡ filter_map h u.fleets
    → ((old new : Fleet) → h old ≡ Some new → new.outbound ≡ true → old ≡ new)
    → belongs_out y (fleet_of player number (view cells v (Account player)).fleets) ≡ true
    → belongs_out y (fleet_of player number (view cells u (Account player)).fleets) ≡ true
outs-after cells u v h player number y apart changed still out =
    let mine = belongs (Account player) in
    let flies = flies-out player number y (filter mine v.fleets) out in
    let there = from-filter mine flies.fleet v.fleets flies.is_theirs.within in
    let old = from-changed h flies.fleet u.fleets (subst (IsIn flies.fleet) changed there.0) in
    let same = still old.0 flies.fleet old.2 flies.out in
    out-flies player number y (filter mine u.fleets) (apart-filter mine u.fleets apart) (record {
      fleet = flies.fleet;
      is_theirs = record {
        within = in-filter mine flies.fleet u.fleets (subst (λ f. IsIn f u.fleets) same old.1) there.1;
        number_is = flies.is_theirs.number_is;
        owner_is = flies.is_theirs.owner_is;
      };
      out = flies.out;
      has = flies.has;
    })

-- a request names no more if it recalls no more
names-less : (v w : CellId → View) (player : Player) (req : Request) (y : CellId)
    → ((number : ℕ) → belongs_out y (fleet_of player number (v (Account player)).fleets) ≡ true → belongs_out y (fleet_of player number (w (Account player)).fleets) ≡ true)
    → names v player req y ≡ true → names w player req y ≡ true
names-less v w player (Recall fleet) y less is = less fleet.f is
names-less v w player _ y less is = is

asks-less : (cells : List CellId) (v w : CellId → View) (player : Player) (req : Request) (y : CellId)
    → ((number : ℕ) → belongs_out y (fleet_of player number (v (Account player)).fleets) ≡ true → belongs_out y (fleet_of player number (w (Account player)).fleets) ≡ true)
    → asked cells v player req y ≡ true → asked cells w player req y ≡ true
asks-less cells v w player req y less asks =
    let listed = is_listed cells (Account player) && is_listed cells y in
    let both = and-is listed (same_cell (Account player) y || names v player req y) asks in
    and-from listed (same_cell (Account player) y || names w player req y) both.0 (elim (or-is (same_cell (Account player) y) (names v player req y) both.1) [
      | inl caller ↦ or-first (same_cell (Account player) y) (names w player req y) caller
      | inr named ↦ or-second (same_cell (Account player) y) (names w player req y) (names-less v w player req y less named)
    ])

pub asks_after : (setting : Setting) (u : State) (e : Event) (a : Entry) (y : CellId) → KeepsRules setting u → Stands (game setting) u e
    → asked setting.cells (view setting.cells (effect setting e u)) a.player a.req y ≡ true
    → (asked setting.cells (view setting.cells u) a.player a.req y ≡ true) ⊎ (footprint e y ≡ true)
asks_after setting u (item_due class item later) a y fine stands asks =
    let fleets = ap (λ s. (view setting.cells s (Account a.player)).fleets) (effect-is setting class item later u) in
    inl (asked-same setting.cells (view setting.cells u) (view setting.cells (effect setting (item_due class item later) u)) a.player a.req y (sym fleets) ∙ asks)
asks_after setting u (lands fleet) a y fine stands asks =
    let new = after_landing setting fleet u in
    let back = (came_landed fleet (seen_of setting (lands fleet) u)).back in
    let now = ap (λ s. asked setting.cells (view setting.cells s) a.player a.req y) (sym (landing-is setting fleet u)) ∙ asks in
    inl (asks-less setting.cells (view setting.cells new) (view setting.cells u) a.player a.req y
    (λ number out. outs-after setting.cells u new (became_at fleet.number (turns back)) a.player number y fine.apart refl
    (λ old flown is flies. still-out fleet old flown back (eqb old.number fleet.number) is flies) out) now)
asks_after setting u (fights raid) a y fine stands asks =
    let is_in = raid-in setting u raid fine stands in
    let new = after_battle setting raid u is_in.planet in
    let left = (came_fought setting raid u is_in.planet).fleets in
    let now = ap (λ s. asked setting.cells (view setting.cells s) a.player a.req y) (sym (battle-is setting raid u is_in.planet is_in.there)) ∙ asks in
    inl (asks-less setting.cells (view setting.cells new) (view setting.cells u) a.player a.req y
    (λ number out. outs-after setting.cells u new (became_in raid.fleets (comes_back left)) a.player number y fine.apart refl
    (λ old flown is flies. becomes-out left raid old flown (becomes left raid old flown is) flies) out) now)

pub effect_count : (setting : Setting) (u : State) (e : Event) → (effect setting e u).number ≡ u.number
effect_count setting u e = refl

pub effect_fine : (setting : Setting) (u : State) (e : Event) → KeepsRules setting u → Stands (game setting) u e → KeepsRules setting (effect setting e u)
effect_fine setting u e fine stands = event-keeps setting u e stands fine

pub falls : (setting : Setting) (u : State) (e : Event) → KeepsRules setting u → Stands (game setting) u e
    → events_left (effect setting e u).items + landings_left (effect setting e u).fleets < events_left u.items + landings_left u.fleets
falls setting u e fine stands = event-falls setting u e fine stands

pub next_found : (setting : Setting) (S : CellId → Bool) (t : ℕ) (u : State) (e : Event) → KeepsRules setting u → next_event setting S t u ≡ Some e
    → IsNext (game setting) S t u e
next_found setting S t u e fine is = found-next setting S t u e fine is

pub none_found : (setting : Setting) (S : CellId → Bool) (t : ℕ) (u : State) → KeepsRules setting u → next_event setting S t u ≡ None → NoneDue (game setting) S t u
none_found setting S t u fine is = found-none setting S t u fine is
