-- Events, seconds and requests leave each item and each fleet its time.
use Rattle.std.proofs.Common.{◌≡◌, ℕ, zero, suc, ◌+◌, ◌^◌, ◌<◌, ◌≤◌, inl, inr, Bool, true, false, not, cond, eqb, List, [], ◌∷◌, ◌++◌, Option, None, Some, filter, arith, refl, ap, ◌∙◌, sym, subst}
use Rattle.std.specs.Prelude.{IsTrue}
use Rattle.std.specs.List.{list_any}
use Rattle.base_ids.specs.declared.cell_id.CellId.{CellId}
use Rattle.catalog.specs.Classes.{is_building, is_technology}
use Rattle.catalog.specs.Levels.{level_cap_of}
use Rattle.catalog.specs.Technologies.{level_in}
use Rattle.catalog.specs.declared.kind.Kind.{Kind}
use Rattle.laziness.specs.Second.{everything, second, settled, settled_at}
use Rattle.reply_text.specs.declared.units.Units.{Units}
use Rattle.request_text.specs.declared.entry.Entry.{Entry}
use Rattle.tick_model.specs.Buildings.{done, raised}
use Rattle.tick_model.specs.Changes.{owns, put_own, same_flight, write}
use Rattle.tick_model.specs.Events.{Event, item_due, lands, fights, Owes, effect, home, next_event, second_of}
use Rattle.tick_model.specs.Flights.{back_at, recalled_at as recalled_second, turned, turns}
use Rattle.tick_model.specs.Game.{game}
use Rattle.tick_model.specs.Limits.{KeepsLevels, KeepsLimits, KeepsTechs}
use Rattle.tick_model.specs.Moments.{IsFlight, IsOrder, IsTimed, KeepsTime}
use Rattle.tick_model.specs.Production.{advance, level_of}
use Rattle.tick_model.specs.Raids.{Raid}
use Rattle.tick_model.specs.Refusals.{queued}
use Rattle.tick_model.specs.Researches.{learned, researched}
use Rattle.tick_model.specs.Rules.{IsIn, KeepsRules}
use Rattle.tick_model.specs.Step.{step}
use Rattle.tick_model.specs.Universe.{Own, of_nothing, of_account, of_planet, AccountFields, PlanetFields, QueueClass, Buildings, Researches, Yard, Fleet, Item, Setting, State}
use Rattle.tick_model.specs.Views.{queue_in, stands_in, view}
use Rattle.tick_model.specs.Yards.{manned, unit_done}
use Rattle.tick_model.proofs.Battles.{comes-back}
use Rattle.tick_model.proofs.Battling.{Becomes, is_back, stays_so, after_battle, battle-is, became, becomes, came_fought, raider-one}
use Rattle.tick_model.proofs.Effects.{StandsBy, after, came_queue, effect-is, seen_of, shown-home}
use Rattle.tick_model.proofs.EventKeeps.{event-keeps}
use Rattle.tick_model.proofs.EventLaws.{next_found}
use Rattle.tick_model.proofs.Gains.{advance-keeps}
use Rattle.tick_model.proofs.Landings.{after_landing, came_landed, flies-in, landing-is}
use Rattle.tick_model.proofs.LimitsKept.{event-limits, gains-limits}
use Rattle.tick_model.proofs.Lists.{fleet-one, from-changed, from-filter, in-append}
use Rattle.tick_model.proofs.Outcomes.{alone, along}
use Rattle.tick_model.proofs.Queues.{queued as queued-there}
use Rattle.tick_model.proofs.Raids.{IsRaidIn, raid-in}
use Rattle.tick_model.proofs.Raising.{queued-first}
use Rattle.tick_model.proofs.Rising.{learned-level, raised-level}
use Rattle.tick_model.proofs.RulesKept.{new-or-old, of-old}
use Rattle.tick_model.proofs.Timing.{AreOrders, back-time, buildings-time, fresh-time, recalled-most, researches-time, time-later, turned-time, yard-time}
use Rattle.tick_model.proofs.Writes.{became_at}
use Rattle.tick_model.proofs.Written.{Makes, IsNewFleet, stays, changed, ordered, sent, recalled, cells_of, change_of, recalled_by, request-made}

is-true : (b : Bool) → IsTrue b → b ≡ true
is-true true holds = refl
is-true false holds = absurd cc

-- The queue of an item that is due.

-- a kind that was within its bound with the item stays so with those behind it, when its level has risen
risen-most : (old new one first rest most : ℕ) → new ≤ old + one → old + first ≤ most → first ≡ one + rest → new + rest ≤ most
risen-most old new one first rest most rises before counted = omega (arith, rises, before, counted)

built-time : (speed t : ℕ) (item : Item) (later : List Item) (own : Own) → 1 ≤ speed → item.second ≤ t → t < 2 ^ 40
    → ((planet : PlanetFields) → own ≡ of_planet planet → (kind : Kind) → IsTrue (is_building kind) → level_of planet kind + queued kind (item ∷ later) ≤ level_cap_of kind)
    → AreOrders t Buildings later → AreOrders t Buildings (done speed item later own).queue
built-time speed t item later of_nothing some due late capped orders = λ x is. absurd is
built-time speed t item later (of_account account) some due late capped orders = λ x is. absurd is
built-time speed t item later (of_planet planet) some due late capped orders =
    buildings-time speed item.second t (raised planet item.kind) later some due late
    (λ kind is. risen-most (level_of planet kind) (level_of (raised planet item.kind) kind) _ (queued kind (item ∷ later)) (queued kind later) (level_cap_of kind)
    (raised-level planet item.kind kind (is-true (is_building kind) is)) (capped planet refl kind is) (queued-first kind item later)) orders

studied-time : (speed t : ℕ) (item : Item) (later : List Item) (own : CellId → Own) (caller : Own) → 1 ≤ speed → item.second ≤ t → t < 2 ^ 40
    → ((account : AccountFields) → caller ≡ of_account account → (kind : Kind) → IsTrue (is_technology kind) → level_in account.techs.n kind + queued kind (item ∷ later) ≤ level_cap_of kind)
    → AreOrders t Researches later → AreOrders t Researches (researched speed item later own caller).queue
studied-time speed t item later own of_nothing some due late capped orders = λ x is. absurd is
studied-time speed t item later own (of_planet planet) some due late capped orders = λ x is. absurd is
studied-time speed t item later own (of_account account) some due late capped orders =
    let up = learned account item.kind in
    researches-time speed item.second t up (put_own item.cell (of_account up) own) later some due late
    (λ kind is. risen-most (level_in account.techs.n kind) (level_in up.techs.n kind) _ (queued kind (item ∷ later)) (queued kind later) (level_cap_of kind)
    (learned-level account item.kind kind (is-true (is_technology kind) is)) (capped account refl kind is) (queued-first kind item later)) orders

made-time : (speed t : ℕ) (batch : Item) (later : List Item) (own : Own) → 1 ≤ speed → batch.second ≤ t → t < 2 ^ 40 → AreOrders t Yard (batch ∷ later)
    → AreOrders t Yard (unit_done speed batch later own).queue
made-time speed t batch later of_nothing some due late orders = λ x is. absurd is
made-time speed t batch later (of_account account) some due late orders = λ x is. absurd is
made-time speed t batch later (of_planet planet) some due late orders = yard-time speed t planet batch later some due late orders

module _ (setting : Setting) (t : ℕ) (late : t < 2 ^ 40) (state : State) (fine : KeepsRules setting state) (limits : KeepsLimits setting state) (keeps : KeepsTime t state) where
  -- An item is done.

  module _ (class : QueueClass) (item : Item) (later : List Item) (stands : StandsBy state class item later) (due : item.second ≤ t) where
    queue-orders : AreOrders t class (item ∷ later)
    queue-orders x is = let there = queued-there state class item.cell item later stands x is in (there.class_is, keeps.ordered x there.within)

  came-orders : (class : QueueClass) (item : Item) (later : List Item) → StandsBy state class item later → item.second ≤ t
      → AreOrders t class (came_queue setting.rules class item later (seen_of setting (item_due class item later) state))
  came-orders Buildings item later stands due =
      let own = owns (seen_of setting (item_due Buildings item later) state) item.cell in
      built-time setting.rules.speed t item later own setting.rules.speed_from due late
      (λ planet is kind class.
      subst (λ (items : List Item). level_of planet kind + queued kind items ≤ level_cap_of kind) stands
      ((limits.levelled item.cell planet (sym (shown-home setting Buildings item later state) ∙ is)).capped kind (is-true (is_building kind) class)))
      (λ x is. queue-orders Buildings item later stands due x (inr is))
  came-orders Researches item later stands due =
      let own = owns (seen_of setting (item_due Researches item later) state) in
      studied-time setting.rules.speed t item later own (own item.cell) setting.rules.speed_from due late
      (λ account is kind class.
      subst (λ (items : List Item). level_in account.techs.n kind + queued kind items ≤ level_cap_of kind) stands
      ((limits.learned item.cell account (sym (shown-home setting Researches item later state) ∙ is)).capped kind (is-true (is_technology kind) class)))
      (λ x is. queue-orders Researches item later stands due x (inr is))
  came-orders Yard item later stands due =
      made-time setting.rules.speed t item later (owns (seen_of setting (item_due Yard item later) state) item.cell) setting.rules.speed_from due late
      (queue-orders Yard item later stands due)

  done-time : (class : QueueClass) (item : Item) (later : List Item) → StandsBy state class item later → item.second ≤ t → KeepsTime t (after setting class item later state)
  done-time class item later stands due = record {
    ordered = λ x is.
        let kept = λ (y : Item). not (stands_in item.cell class y) in
        let queue = came_queue setting.rules class item later (seen_of setting (item_due class item later) state) in
        elim (in-append x (filter kept state.items) queue is) [
          | inl other ↦ keeps.ordered x (from-filter kept x state.items other).0
          | inr new ↦ (came-orders class item later stands due x new).1
        ];
    flying = keeps.flying;
  }

  -- A fleet lands.

  turns-time : (back : Option Units) (old new : Fleet) → turns back old ≡ Some new → old.second ≤ t → IsFlight t old → IsFlight t new
  turns-time None old new is due flight = absurd cc
  turns-time (Some cargo) old new is due flight =
      let same : turned old (back_at old) cargo ≡ new = cc in
      subst (IsFlight t) same (turned-time t (back_at old) old cargo (back-time t old due late) flight)

  landed_at : (fleet : Fleet) → IsIn fleet state.fleets → fleet.second ≤ t → (back : Option Units) (old new : Fleet) → IsIn old state.fleets → (b : Bool) → same_flight old fleet ≡ b
      → cond b (turns back old) (Some old) ≡ Some new → IsFlight t new
  landed_at fleet flies due back old new within true same is =
      let one = fleet-one state.fleets old fleet fine.apart within flies same in
      turns-time back old new is (subst (λ (f : Fleet). f.second ≤ t) (sym one) due) (keeps.flying old within)
  landed_at fleet flies due back old new within false other is = let same : old ≡ new = cc in subst (IsFlight t) same (keeps.flying old within)

  landing-time : (fleet : Fleet) → IsIn fleet state.fleets → fleet.second ≤ t → KeepsTime t (after_landing setting fleet state)
  landing-time fleet flies due =
      let back = (came_landed fleet (seen_of setting (lands fleet) state)).back in
      record {
        ordered = keeps.ordered;
        flying = λ new is.
            let found = from-changed (became_at fleet.number (turns back)) new state.fleets is in
            landed_at fleet flies due back found.0 new found.1 (same_flight found.0 fleet) refl found.2;
      }

  -- A raid fights.

  module _ (raid : Raid) (is_in : IsRaidIn state raid) (due : raid.second ≤ t) where
    abbrev left : List Fleet
    left = (came_fought setting raid state is_in.planet).fleets

    fought-flight : (old new : Fleet) → IsIn old state.fleets → Becomes left raid old new → IsFlight t new
    fought-flight old new flies (stays_so other same) = subst (IsFlight t) same (keeps.flying old flies)
    fought-flight old new flies (is_back in_raid back_is) =
        let back = comes-back left old new back_is in
        let raider = is_in.each old (raider-one setting state raid fine is_in old flies in_raid) in
        let second = raider.second in
        let flight = keeps.flying old flies in
        let home = back-time t old (omega (arith, second, due)) late in
        subst (IsFlight t) back.is (record { sent = flight.sent; lands = home })

    battle-time : KeepsTime t (after_battle setting raid state is_in.planet)
    battle-time = record {
      ordered = keeps.ordered;
      flying = λ new is.
          let found = from-changed (became setting state raid fine is_in) new state.fleets is in
          fought-flight found.0 new found.1 (becomes left raid found.0 new found.2);
    }

  event-time : (event : Event) → Owes (view setting.cells state (home event)) event → second_of event ≤ t → KeepsTime t (effect setting event state)
  event-time (item_due class item later) stands due = subst (KeepsTime t) (sym (effect-is setting class item later state)) (done-time class item later stands due)
  event-time (lands fleet) stands due =
      subst (KeepsTime t) (sym (landing-is setting fleet state)) (landing-time fleet (flies-in setting.cells state (home (lands fleet)) fleet stands.0) due)
  event-time (fights raid) stands due =
      let is_in = raid-in setting state raid fine stands in
      subst (KeepsTime t) (sym (battle-is setting raid state is_in.planet is_in.there)) (battle-time raid is_in due)

-- Seconds.

settled_at-time : (setting : Setting) (t : ℕ) (rest : State → State) (u : State) (next : Option Event) → t < 2 ^ 40 → KeepsRules setting u → KeepsLimits setting u → KeepsTime t u
    → next_event setting (everything (game setting)) t u ≡ next → ((v : State) → KeepsRules setting v → KeepsLimits setting v → KeepsTime t v → KeepsTime t (rest v))
    → KeepsTime t (settled_at rest (effect setting) u next)
settled_at-time setting t rest u None late fine limits time is keeps = time
settled_at-time setting t rest u (Some e) late fine limits time is keeps =
    let next = next_found setting (everything (game setting)) t u e fine is in
    keeps (effect setting e u) (event-keeps setting u e next.stands fine) (event-limits setting u e fine next.stands limits) (event-time setting t late u fine limits time e next.stands next.due)

settled-time : (setting : Setting) (t most : ℕ) (u : State) → t < 2 ^ 40 → KeepsRules setting u → KeepsLimits setting u → KeepsTime t u
    → KeepsTime t (settled (next_event setting (everything (game setting)) t) (effect setting) most u)
settled-time setting t zero u late fine limits time = time
settled-time setting t (suc most) u late fine limits time =
    settled_at-time setting t (settled (next_event setting (everything (game setting)) t) (effect setting) most) u (next_event setting (everything (game setting)) t u) late fine limits time refl
    (λ v good kept keeps. settled-time setting t most v late good kept keeps)

pub second-time : (setting : Setting) (m t : ℕ) (u : State) → m ≤ t → t < 2 ^ 40 → KeepsRules setting u → KeepsLimits setting u → KeepsTime m u → KeepsTime t (second (game setting) t u)
unfolding second
second-time setting m t u later late fine limits time =
    let now = time-later m t u later time in
    settled-time setting t _ (advance setting (λ x. 1) u) late (advance-keeps setting (λ x. 1) u fine) (gains-limits setting (λ x. 1) u limits) (record { ordered = now.ordered; flying = now.flying })

-- Requests.

recalled_at-time : (t : ℕ) (old new : Fleet) (b : Bool) → t < 2 ^ 40 → cond b (recalled_by t old) (Some old) ≡ Some new → IsFlight t old → IsFlight t new
recalled_at-time t old new true late is flight =
    let same : turned old (recalled_second old t) old.cargo ≡ new = cc in
    subst (IsFlight t) same (turned-time t (recalled_second old t) old old.cargo (recalled-most t old late) flight)
recalled_at-time t old new false late is flight = let same : old ≡ new = cc in subst (IsFlight t) same flight

new-flight : (t : ℕ) (u : State) (fleet : Fleet) → t < 2 ^ 40 → KeepsTime t u → IsNewFleet u t fleet → IsFlight t fleet
new-flight t u fleet late time new =
    let launch = new.launched in
    record {
      sent = omega (arith, launch);
      lands = elim new.grouped [
        | alone is most ↦ omega (arith, most, launch, late)
        | along leader within out group target second ↦ (let before = (time.flying leader within).lands in omega (arith, second, before))
      ];
    }

makes-time : (setting : Setting) (t : ℕ) (u v : State) → t < 2 ^ 40 → KeepsTime t u → Makes t u v → KeepsTime t v
makes-time setting t u v late time (stays is) = subst (KeepsTime t) (sym is) time
makes-time setting t u v late time (changed own alike is) = subst (KeepsTime t) (sym is) (record { ordered = time.ordered; flying = time.flying })
makes-time setting t u v late time (ordered own new alike is_new is) = subst (KeepsTime t) (sym is) (record {
  ordered = λ item has. elim (of-old u new item has) [
    | inl old ↦ time.ordered item old
    | inr same ↦ subst (IsOrder t) (sym same) (record { classed = is_new.fresh.classed; drawn = (let number = is_new.number in omega (arith, number)); timed = fresh-time t new late is_new.fresh })
  ];
  flying = time.flying;
})
makes-time setting t u v late time (sent own new stay is_new is) = subst (KeepsTime t) (sym is) (record {
  ordered = time.ordered;
  flying = λ fleet has. new-or-old u new fleet has (time.flying fleet) (λ same. subst (IsFlight t) (sym same) (new-flight t u new late time is_new));
})
makes-time setting t u v late time (recalled own number alike is) = subst (KeepsTime t) (sym is) (record {
  ordered = time.ordered;
  flying = λ fleet has.
      let found = from-changed (became_at number (recalled_by t)) fleet u.fleets has in
      recalled_at-time t found.0 fleet (eqb found.0.number number) late found.2 (time.flying found.0 found.1);
})

pub step-time : (setting : Setting) (a : Entry) (t : ℕ) (u : State) → t < 2 ^ 40 → KeepsRules setting u → KeepsTime t u → KeepsTime t (step setting a.player a.req t u).state
unfolding step
step-time setting a t u late fine time =
    let made = request-made setting a t (λ x. true) u fine (λ x asks. refl) (λ x inside y brings. refl) in
    let kept = makes-time setting t u (write (cells_of setting a u) (change_of setting a t u) u) late time made.makes in
    record { ordered = kept.ordered; flying = kept.flying }
