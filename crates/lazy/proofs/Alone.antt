-- Cells whose yards alone have events by a second, and what they come to there.
use Rattle.std.proofs.Common.{◌≡◌, ℕ, ◌+◌, ◌-◌, ◌<◌, ◌≤◌, Bool, true, false, cond, List, [], ◌∷◌, ◌||◌, ◌&&◌, arith, refl, ap, ◌∙◌, sym, subst, inl, inr}
use Rattle.std.proofs.Math.Path.{fun_ext}
use Rattle.base_ids.specs.Cells.{same_cell}
use Rattle.base_ids.specs.declared.cell_id.CellId.{CellId}
use Rattle.base_ids.specs.declared.cell_id.CellId.TheVariants.{Planet}
use Rattle.happenings.specs.Held.{Stand}
use Rattle.happenings.proofs.Standing.{IsWell, seen-anew}
use Rattle.laziness.specs.Laws.{IsNext, NoneDue}
use Rattle.laziness.specs.Stamps.{AgreeStamped, Stamps, bring_to, brought, event_acts, happened}
use Rattle.laziness.specs.Theorems.{CanBring, PartsComeFirst}
use Rattle.laziness.proofs.Bringing.{Acts, acts-outside, at-inside, at-outside, early, never, test, view-inside, view-outside}
use Rattle.laziness.proofs.Parts.{each-keeps, parts-come-first}
use Rattle.planet_cell.specs.Yard.{IsAhead}
use Rattle.rates.specs.Times.{times}
use Rattle.tick_model.specs.Buildings.{Built}
use Rattle.tick_model.specs.Changes.{new_queue, owns, put_own, seen_after}
use Rattle.tick_model.specs.Events.{Event, Owes, fights, footprint, home, item_due, lands}
use Rattle.tick_model.specs.Flights.{landing}
use Rattle.tick_model.specs.Game.{game}
use Rattle.tick_model.specs.Production.{planet_second}
use Rattle.tick_model.specs.Raids.{Raid}
use Rattle.tick_model.specs.Rules.{IsBatch, IsIn, KeepsRules, queue_cell}
use Rattle.tick_model.specs.Universe.{Buildings, Researches, Yard, Item, PlanetFields, QueueClass, Setting, of_planet, same_class}
use Rattle.tick_model.specs.Views.{View, belongs, nothing_seen, view}
use Rattle.tick_model.specs.Yards.{manned, unit_done, yard_left}
use Rattle.tick_model.specs.declared.rules.Rules.{Rules}
use Rattle.tick_model.proofs.Effects.{has-home, seen_of, still-there}
use Rattle.tick_model.proofs.GameLaws.{game_laws}
use Rattle.tick_model.proofs.Gains.{advance-keeps}
use Rattle.tick_model.proofs.Lists.{and-from, and-is, cell-is, cell-itself, class-is, from-filter}
use Rattle.tick_model.proofs.Nexts.{landing-out}
use Rattle.tick_model.proofs.Queues.{owed-home, queued, queued-in}
use Rattle.tick_model.proofs.Seen.{event-seen}
use Rattle.lazy.specs.Running.{is_running, run_before, run_until, with_yard}
use Rattle.lazy.proofs.Turns.{IsQuiet, running-from, running-is}
use Rattle.lazy.proofs.Units.{gains-planet, left-ahead, runs-on, runs-quiet}

-- the theorem on parts of a closed set, at the game
pub game_parts : (setting : Setting) → PartsComeFirst (game setting)
game_parts setting = parts-come-first (game setting) (game_laws setting)

-- a cell as a universe has it
abbrev pub stand_in : (setting : Setting) → Stamps (game setting) → CellId → Stand
stand_in setting f cell = record { second = f.at cell; seen = view setting.cells f.universe cell }

yard-class : (batches : List Item) (queue : QueueClass → List Item) (class : QueueClass) → cond (same_class Yard class) batches (queue class) ≡ with_yard batches queue class
yard-class batches queue Buildings = refl
yard-class batches queue Researches = refl
yard-class batches queue Yard = refl

-- What a unit makes of its planet.
module _ (setting : Setting) (g : Stamps (game setting)) (item : Item) (later : List Item) (planet : PlanetFields) (fine : KeepsRules setting g.universe)
    (owes : Owes (view setting.cells g.universe item.cell) (item_due Yard item later)) (own : (view setting.cells g.universe item.cell).own ≡ of_planet planet) where
  abbrev unit : Event
  unit = item_due Yard item later

  abbrev before : View
  before = view setting.cells g.universe item.cell

  abbrev there : Stamps (game setting)
  there = bring_to (game setting) (footprint unit) item.second g

  abbrev grown : PlanetFields
  grown = times (item.second - g.at item.cell) (planet_second setting.rules.speed) planet

  abbrev came : Built
  came = unit_done setting.rules.speed item later (of_planet grown)

  at-home : footprint unit item.cell ≡ true
  at-home = has-home Yard item later

  there-seen : view setting.cells there.universe item.cell ≡ record before { own = of_planet grown }
  there-seen =
      view-inside (game setting) (game_laws setting) (footprint unit) item.second g item.cell at-home
      ∙ gains-planet setting.rules (item.second - g.at item.cell) planet before own

  there-fine : KeepsRules setting there.universe
  there-fine = advance-keeps setting (λ x. cond (footprint unit x) (item.second - g.at x) 0) g.universe fine

  there-owes : Owes (view setting.cells there.universe item.cell) unit
  there-owes = ap (λ (v : View). v.queue Yard) there-seen ∙ owes

  then-own : owns (seen_of setting unit there.universe) item.cell ≡ of_planet grown
  then-own =
      ap (λ b. (cond b (view setting.cells there.universe item.cell) nothing_seen).own) at-home
      ∙ ap (λ (v : View). v.own) there-seen

  -- the batches that are left are those of the same yard
  left-stands : (i : Item) → IsIn i came.queue → (i.cell ≡ item.cell) × (i.class ≡ Yard)
  left-stands i is =
      let among = subst (λ o. IsIn i (unit_done setting.rules.speed item later o).queue) (sym then-own) is in
      let stands = still-there setting there.universe Yard item later there-fine there-owes i among in
      let both = and-is (same_cell item.cell i.cell) (same_class Yard i.class) stands in
      (sym (cell-is item.cell i.cell both.0), sym (class-is Yard i.class both.1))

  well : IsWell item.cell (view setting.cells there.universe item.cell)
  well = record {
    stands = λ class i is. let found = queued-in there.universe.items item.cell class i is in (found.place, found.class_is);
    fleets = λ fleet is. (from-filter (belongs item.cell) fleet there.universe.fleets is).1;
  }

  pub unit-seen : view setting.cells (event_acts (game setting) unit g).universe item.cell
      ≡ record before { own = of_planet (manned grown item.kind 1); queue = with_yard (yard_left setting.rules.speed grown item later) before.queue }
  unit-seen =
      let shown = seen_of setting unit there.universe in
      let others = owns shown in
      let now = view setting.cells there.universe item.cell in
      event-seen setting there.universe unit item.cell there-fine there-owes at-home
      ∙ (λ i. seen_after (new_queue (put_own item.cell (unit_done setting.rules.speed item later (then-own i)).own others) item.cell Yard (unit_done setting.rules.speed item later (then-own i)).queue) item.cell now)
      ∙ seen-anew (put_own item.cell came.own others) item.cell Yard came.queue item.cell now well left-stands
      ∙ (λ i. record now { own = cond (cell-itself item.cell i) came.own (others item.cell); queue = λ c. cond (cell-itself item.cell i && same_class Yard c) came.queue (now.queue c) })
      ∙ (λ i. record (there-seen i) { own = came.own; queue = λ c. cond (same_class Yard c) came.queue ((there-seen i).queue c) })
      ∙ (λ i. record before { own = came.own; queue = fun_ext (yard-class came.queue before.queue) i })

-- A planet that runs came on its way, from where it stood first, to where it stands: it comes to the same.
pub record ComesTo (rules : Rules) (until : ℕ) (from now : Stand) : Type 0 where
  pub planet : PlanetFields
  pub own : now.seen.own ≡ of_planet planet
  pub same : run_until rules until now ≡ run_until rules until from
  pub ahead : IsAhead now.second (now.seen.queue Yard)
  pub by : now.second ≤ until

-- all other cells stay
abbrev pub Comes : Rules → ℕ → Bool → Stand → Stand → Type 0
Comes rules until runs from now = (runs ≡ true → ComesTo rules until from now) × (runs ≡ false → now ≡ from)

and-fails : (a b : Bool) → b ≡ false → (a && b) ≡ false
and-fails true b is = is
and-fails false b is = refl

-- Until a second by which only the yards of a set have events.
module _ (setting : Setting) (S : CellId → Bool) (limit moment : ℕ) (f : Stamps (game setting)) (can : CanBring (game setting) S moment f) (some : 1 ≤ limit) (within : limit ≤ moment + 1)
    (quiet : (x : CellId) → S x ≡ true → IsQuiet limit x (stand_in setting f x)) where
  abbrev until : ℕ
  until = limit - 1

  abbrev runs : CellId → Bool
  runs x = S x && is_running limit (f.at x) ((view setting.cells f.universe x).queue Yard)

  abbrev Kept : Stamps (game setting) → Type 0
  Kept g = (x : CellId) → S x ≡ true → Comes setting.rules until (runs x) (stand_in setting f x) (stand_in setting g x)

  in-time : until ≤ moment
  in-time = omega arith

  -- At first.

  planet-at : (x : CellId) (batch : Item) (later : List Item) → (view setting.cells f.universe x).queue Yard ≡ batch ∷ later
      → (planet : PlanetFields) × ((view setting.cells f.universe x).own ≡ of_planet planet)
  planet-at x batch later is =
      let found = queued f.universe Yard x batch later is batch (inl refl) in
      let placed = can.fine.placed batch found.within in
      let home : batch.cell ≡ queue_cell Yard batch.place placed.planet.owner = placed.cell ∙ ap (λ c. queue_cell c batch.place placed.planet.owner) found.class_is in
      (placed.planet, ap f.universe.own (sym found.place ∙ home) ∙ placed.stands)

  starts : Kept f
  starts x inside = (
    λ has.
        (let running = running-is limit (f.at x) ((view setting.cells f.universe x).queue Yard) (and-is (S x) _ has).1 in
        let planet = planet-at x running.batch running.later running.are in
        let ahead : f.at x < running.batch.second = running.ahead in
        let before : running.batch.second < limit = running.before in
        record {
          planet = planet.0;
          own = planet.1;
          same = refl;
          ahead = subst (IsAhead (f.at x)) (sym running.are) ahead;
          by = omega (arith, ahead, before);
        }),
    λ out. refl,
  )

  -- What happens is a unit of a yard that runs.

  level-stays : (g : Stamps (game setting)) → Kept g → (x : CellId) → S x ≡ true → (class : QueueClass) → same_class Yard class ≡ false
      → (view setting.cells g.universe x).queue class ≡ (view setting.cells f.universe x).queue class
  level-stays g kept x inside class level =
      elim (test (runs x)) [
        | inl has ↦ other-queue class level (stand_in setting g x) (stand_in setting f x) ((kept x inside).0 has).same
        | inr out ↦ ap (λ (s : Stand). s.seen.queue class) ((kept x inside).1 out)
      ]
    where
      other-queue : (class : QueueClass) → same_class Yard class ≡ false → (one other : Stand) → run_until setting.rules until one ≡ run_until setting.rules until other → one.seen.queue class ≡ other.seen.queue class
      other-queue Buildings level one other same = ap (λ (s : Stand). s.seen.queue Buildings) same
      other-queue Researches level one other same = ap (λ (s : Stand). s.seen.queue Researches) same
      other-queue Yard level one other same = never true refl level

  fleets-stay : (g : Stamps (game setting)) → Kept g → (x : CellId) → S x ≡ true → (view setting.cells g.universe x).fleets ≡ (view setting.cells f.universe x).fleets
  fleets-stay g kept x inside =
      elim (test (runs x)) [
        | inl has ↦ ap (λ (s : Stand). s.seen.fleets) ((kept x inside).0 has).same
        | inr out ↦ ap (λ (s : Stand). s.seen.fleets) ((kept x inside).1 out)
      ]

  only : (g : Stamps (game setting)) → Kept g → (class : QueueClass) (item : Item) (later : List Item) → IsNext (game setting) S until g.universe (item_due class item later)
      → (class ≡ Yard) × (runs item.cell ≡ true)
  only g kept Buildings item later next =
      let late : limit ≤ item.second = (quiet item.cell next.inside).buildings item later (sym (level-stays g kept item.cell next.inside Buildings refl) ∙ next.stands) in
      let due : item.second ≤ until = next.due in
      absurd (omega (arith, late, due))
  only g kept Researches item later next =
      let late : limit ≤ item.second = (quiet item.cell next.inside).researches item later (sym (level-stays g kept item.cell next.inside Researches refl) ∙ next.stands) in
      let due : item.second ≤ until = next.due in
      absurd (omega (arith, late, due))
  only g kept Yard item later next =
      let x = item.cell in
      let due : item.second ≤ until = next.due in
      elim (test (runs x)) [
        | inl has ↦ (refl, has)
        | inr out ↦
            (let same = (kept x next.inside).1 out in
            let is : (view setting.cells f.universe x).queue Yard ≡ item ∷ later = sym (ap (λ (s : Stand). s.seen.queue Yard) same) ∙ next.stands in
            elim (early item.second (f.at x)) [
              | inl come ↦ (let late : limit ≤ item.second = (quiet x next.inside).yard item later is come in absurd (omega (arith, late, due)))
              | inr ahead ↦
                  (let running = running-from limit (f.at x) ((view setting.cells f.universe x).queue Yard)
                  (record { batch = item; later = later; are = is; ahead = ahead; before = omega (arith, due) }) in
                  never (runs x) (and-from (S x) _ next.inside running) out)
            ])
      ]

  -- Each unit.

  unit-comes : (g : Stamps (game setting)) (item : Item) (later : List Item) → CanBring (game setting) S moment g → Kept g
      → IsNext (game setting) S until g.universe (item_due Yard item later) → runs item.cell ≡ true
      → ComesTo setting.rules until (stand_in setting f item.cell) (stand_in setting (event_acts (game setting) (item_due Yard item later) g) item.cell)
  unit-comes g item later can_g kept next has =
      let x = item.cell in
      let e = item_due Yard item later in
      let old = (kept x next.inside).0 has in
      let now = view setting.cells g.universe x in
      let seen = unit-seen setting g item later old.planet can_g.fine next.stands old.own in
      let at : (event_acts (game setting) e g).at x ≡ item.second = at-inside (game setting) (footprint e) item.second g x (has-home Yard item later) in
      let found = queued g.universe Yard x item later next.stands item (inl refl) in
      let batch = subst (λ c. IsBatch c item) found.class_is (can_g.fine.placed item found.within).batch in
      let takes = can_g.fine.paced x item later next.stands in
      let ahead : g.at x < item.second = subst (IsAhead (g.at x)) next.stands old.ahead in
      let grown = times (item.second - g.at x) (planet_second setting.rules.speed) old.planet in
      record {
        planet = manned grown item.kind 1;
        own = ap (λ (v : View). v.own) seen;
        same = (λ i. run_until setting.rules until (record { second = at i; seen = seen i }))
            ∙ runs-on setting.rules (g.at x) until old.planet now item later old.own next.stands ahead next.due batch.0 takes
            ∙ old.same;
        ahead = subst (λ (s : Stand). IsAhead s.second (s.seen.queue Yard)) (λ i. record { second = sym at i; seen = sym seen i }) (left-ahead setting.rules.speed grown item later takes);
        by = subst (λ n. n ≤ until) (sym at) next.due;
      }

  unit-keeps : (g : Stamps (game setting)) (item : Item) (later : List Item) → CanBring (game setting) S moment g → Kept g
      → IsNext (game setting) S until g.universe (item_due Yard item later) → runs item.cell ≡ true → Kept (event_acts (game setting) (item_due Yard item later) g)
  unit-keeps g item later can_g kept next has x inside =
      let M = game setting in
      let e = item_due Yard item later in
      let after = event_acts M e g in
      elim (test (same_cell item.cell x)) [
        | inl same ↦
            (let here : Comes setting.rules until (runs item.cell) (stand_in setting f item.cell) (stand_in setting after item.cell) =
            (λ running. unit-comes g item later can_g kept next has, λ out. never (runs item.cell) has out) in
            subst (λ y. Comes setting.rules until (runs y) (stand_in setting f y) (stand_in setting after y)) (cell-is item.cell x same) here)
        | inr other ↦
            (let out : footprint e x ≡ false = ap (λ b. b || false) other in
            let acts : Acts M g e = record { fine = can_g.fine; stands = next.stands } in
            let stays : stand_in setting after x ≡ stand_in setting g x =
            (λ i. record { second = at-outside M (footprint e) item.second g x out i; seen = acts-outside M (game_laws setting) g e x acts out i }) in
            subst (Comes setting.rules until (runs x) (stand_in setting f x)) (sym stays) (kept x inside))
      ]

  each-stays : (g : Stamps (game setting)) (e : Event) → CanBring (game setting) S moment g → Kept g → IsNext (game setting) S until g.universe e → Kept (event_acts (game setting) e g)
  each-stays g (item_due class item later) can_g kept next =
      let one = only g kept class item later next in
      subst (λ c. IsNext (game setting) S until g.universe (item_due c item later) → Kept (event_acts (game setting) (item_due c item later) g)) (sym one.0)
      (λ unit. unit-keeps g item later can_g kept unit one.1) next
  each-stays g (lands fleet) can_g kept next =
      let place = home (lands fleet) in
      let there : IsIn fleet (view setting.cells f.universe place).fleets = subst (IsIn fleet) (fleets-stay g kept place next.inside) next.stands.0 in
      let late : limit ≤ fleet.second = (quiet place next.inside).landings fleet there refl in
      let due : fleet.second ≤ until = next.due in
      absurd (omega (arith, late, due))
  each-stays g (fights raid) can_g kept next =
      let place = home (fights raid) in
      let one = next.stands.one in
      let there : IsIn one (view setting.cells f.universe place).fleets = subst (IsIn one) (fleets-stay g kept place next.inside) next.stands.flies in
      let target : Planet (landing one) ≡ place = ap Planet (landing-out one next.stands.hostile ∙ sym (ap (λ (r : Raid). r.target) next.stands.is)) in
      let late : limit ≤ one.second = (quiet place next.inside).landings one there target in
      let second : raid.second ≡ one.second = ap (λ (r : Raid). r.second) next.stands.is in
      let due : raid.second ≤ until = next.due in
      absurd (omega (arith, late, second, due))

  -- At the end.

  abbrev end : Stamps (game setting)
  end = happened (game setting) S until f

  ends : Kept end × CanBring (game setting) S moment end × NoneDue (game setting) S until end.universe
  ends = each-keeps (game setting) (game_parts setting) S until moment f Kept in-time can starts each-stays

  none-left : (x : CellId) (batches : List Item) → S x ≡ true → (view setting.cells end.universe x).queue Yard ≡ batches → IsAhead until batches
  none-left x [] inside is = tt
  none-left x (batch ∷ later) inside is =
      let home = owed-home end.universe Yard x batch later is in
      let stands : (view setting.cells end.universe batch.cell).queue Yard ≡ batch ∷ later = ap (λ y. (view setting.cells end.universe y).queue Yard) home ∙ is in
      elim (early batch.second until) [
        | inl due ↦ absurd (ends.2 (item_due Yard batch later) stands (ap S home ∙ inside) due)
        | inr after ↦ after
      ]

  -- the universe in which the yards ran
  abbrev pub alone : Stamps (game setting)
  alone = bring_to (game setting) runs until end

  pub alone-stands : (x : CellId) → S x ≡ true → stand_in setting alone x ≡ run_before setting.rules limit (stand_in setting f x)
  alone-stands x inside =
      let M = game setting in
      let running = is_running limit (f.at x) ((view setting.cells f.universe x).queue Yard) in
      let first = stand_in setting f x in
      elim (test running) [
        | inl is ↦
            (let has : runs x ≡ true = and-from (S x) running inside is in
            let comes = (ends.0 x inside).0 has in
            (λ i. record { second = at-inside M runs until end x has i; seen = view-inside M (game_laws setting) runs until end x has i })
            ∙ sym (runs-quiet setting.rules (end.at x) until comes.planet (view setting.cells end.universe x) comes.own comes.by (none-left x _ inside refl))
            ∙ comes.same
            ∙ sym (ap (λ b. cond b (run_until setting.rules until first) first) is))
        | inr out ↦
            (let stays : runs x ≡ false = and-fails (S x) running out in
            (λ i. record { second = at-outside M runs until end x stays i; seen = view-outside M (game_laws setting) runs until end x stays i })
            ∙ (ends.0 x inside).1 stays
            ∙ sym (ap (λ b. cond b (run_until setting.rules until first) first) out))
      ]

  parts-early : CanBring (game setting) S moment alone × AgreeStamped (game setting) S (brought (game setting) S moment alone) (brought (game setting) S moment end)
  parts-early =
      (game_parts setting).early S runs until moment end in-time ends.1 ends.2 (λ x has. (and-is (S x) _ has).0) (λ x has. ((ends.0 x (and-is (S x) _ has).0).0 has).by)

  -- from it the set can still be brought to the moment
  pub alone-can : CanBring (game setting) S moment alone
  alone-can = parts-early.0

  -- and it comes to the same there
  pub alone-agrees : AgreeStamped (game setting) S (brought (game setting) S moment alone) (brought (game setting) S moment f)
  alone-agrees =
      let M = game setting in
      subst (AgreeStamped M S (brought M S moment alone)) (ap (bring_to M S moment) ((game_parts setting).onward S until moment f in-time can)) parts-early.1
