-- An event that happens to cells that are held, and the universe that they show.
use Rattle.std.proofs.Common.{◌≡◌, ℕ, ◌-◌, Bool, true, false, cond, List, [], ◌∷◌, refl, ap, ◌∙◌, sym, subst, inl, inr, Option, Some, None}
use Rattle.std.specs.Prelude.{IfSome, is_some, option_map}
use Rattle.std.specs.BTreeMap.{get}
use Rattle.base_ids.specs.declared.cell_id.CellId.{CellId}
use Rattle.base_ids.specs.declared.cell_id.CellId.TheVariants.{Planet}
use Rattle.base_ids.specs.declared.coord.Coord.{Coord}
use Rattle.base_ids.specs.declared.player.Player.{Player}
use Rattle.laziness.proofs.Bringing.{never, test}
use Rattle.laziness.specs.Stamps.{Stamps, bring_to, event_acts}
use Rattle.tick_model.specs.Events.{Event, IsRaid, Owes, event_change, fights, footprint, home, lands, second_of, seen_after_event}
use Rattle.tick_model.specs.Flights.{landing}
use Rattle.tick_model.specs.Game.{game}
use Rattle.tick_model.specs.Production.{gains}
use Rattle.tick_model.specs.Raids.{Raid, attacks, raid_of}
use Rattle.tick_model.specs.Rules.{IsIn, KeepsRules}
use Rattle.tick_model.specs.Universe.{Fleet, Item, QueueClass, Setting}
use Rattle.tick_model.specs.Views.{View, shown, view}
use Rattle.tick_model.specs.declared.rules.Rules.{Rules}
use Rattle.tick_model.proofs.Effects.{seen_of as seen_by_event}
use Rattle.tick_model.proofs.Footprints.{event-outside}
use Rattle.tick_model.proofs.Gains.{advance-keeps, gains-owe, none-gained, view-advanced}
use Rattle.tick_model.proofs.Nexts.{landing-out}
use Rattle.tick_model.proofs.Queues.{owed-home}
use Rattle.tick_model.proofs.Seen.{event-seen}
use Rattle.tick_model.proofs.Writes.{shown-alike}
use Rattle.fleet_rec.specs.Fleet.{fleet_seen}
use Rattle.happenings.specs.Applying.{Happens, change_then, held_after, seen_then, stand_after}
use Rattle.happenings.specs.Coming.{ActsIn}
use Rattle.happenings.specs.Gaining.{gained, gained_at}
use Rattle.happenings.specs.Happening.{IsOwed, second_at}
use Rattle.happenings.specs.Landings.{LandsIn}
use Rattle.happenings.specs.Held.{IsNamed, Shows, ShowsCell, Stand, held_at, holds, planet_stand}
use Rattle.happenings.specs.Orders.{place_order, player_order}
use Rattle.happenings.specs.Queues.{class_of, event_of, home_of, items_held, seen_held, seen_of}
use Rattle.happenings.specs.declared.happening.Happening.{Happening}
use Rattle.happenings.specs.declared.happening.Happening.TheVariants.{Item as ItemDue, Coming}
use Rattle.happenings.specs.declared.held.AccountCell.{AccountCell}
use Rattle.happenings.specs.declared.held.Held.{Held}
use Rattle.happenings.specs.declared.held.PlanetCell.{PlanetCell}
use Rattle.happenings.specs.declared.queue.Queue.{Queue}

-- what is shown of a cell that is held
pub shows_planet : (setting : Setting) (held : Held) (f : Stamps (game setting)) (at : Coord) (cell : PlanetCell) → Shows setting held f → get place_order held.planets at ≡ Some cell
    → ShowsCell setting f (Planet at) (planet_stand cell)
shows_planet setting held f at cell shows found = subst (λ (o : Option Stand). IfSome o (ShowsCell setting f (Planet at))) (ap (option_map planet_stand) found) (shows (Planet at))

pub named_planet : (held : Held) (at : Coord) (cell : PlanetCell) → IsNamed held → get place_order held.planets at ≡ Some cell → cell.planet.at ≡ at
named_planet held at cell named found = subst (λ (o : Option PlanetCell). IfSome o (λ c. c.planet.at ≡ at)) found (named.places at)

pub named_account : (held : Held) (player : Player) (cell : AccountCell) → IsNamed held → get player_order held.accounts player ≡ Some cell → cell.account.player ≡ player
named_account held player cell named found = subst (λ (o : Option AccountCell). IfSome o (λ c. c.account.player ≡ player)) found (named.players player)

seen-shown : (setting : Setting) (f : Stamps (game setting)) (cell : CellId) (o : Option Stand) → is_some o ≡ true → IfSome o (ShowsCell setting f cell) → seen_of o ≡ view setting.cells f.universe cell
seen-shown setting f cell None held shown = never false held refl
seen-shown setting f cell (Some stand) held shown = shown.seen

-- what is held of a cell is what its universe has of it
pub held-seen : (setting : Setting) (held : Held) (f : Stamps (game setting)) (cell : CellId) → Shows setting held f → holds held cell ≡ true
    → seen_held held cell ≡ view setting.cells f.universe cell
held-seen setting held f cell shows inside = seen-shown setting f cell (held_at held cell) inside (shows cell)

some-held : (o : Option Stand) (class : QueueClass) (item : Item) (later : List Item) → (seen_of o).queue class ≡ item ∷ later → is_some o ≡ true
some-held None class item later is = let none : [] ≡ item ∷ later = is in absurd cc
some-held (Some stand) class item later is = refl

-- a queue that is not empty is that of a cell that is held
pub queue-inside : (held : Held) (queue : Queue) (item : Item) (later : List Item) → items_held held queue ≡ item ∷ later → holds held (home_of queue) ≡ true
queue-inside held queue item later is = some-held (held_at held (home_of queue)) (class_of queue) item later is

-- so what is owed is owed in the universe, by the cell of the item
pub owed-there : (setting : Setting) (held : Held) (f : Stamps (game setting)) (queue : Queue) (item : Item) (later : List Item) → Shows setting held f → items_held held queue ≡ item ∷ later
    → (item.cell ≡ home_of queue) × Owes (view setting.cells f.universe item.cell) (event_of queue item later)
owed-there setting held f queue item later shows is =
    let seen = held-seen setting held f (home_of queue) shows (queue-inside held queue item later is) in
    let stands = ap (λ (v : View). v.queue (class_of queue)) (sym seen) ∙ is in
    let place = owed-home f.universe (class_of queue) (home_of queue) item later stands in
    (place, ap (λ x. (view setting.cells f.universe x).queue (class_of queue)) place ∙ stands)

-- The event stands in the universe, and its home is held.
pub record StandsThere (setting : Setting) (held : Held) (f : Stamps (game setting)) (event : Event) : Type 0 where
  pub stands : Owes (view setting.cells f.universe (home event)) event
  pub inside : holds held (home event) ≡ true

no-fleets : (o : Option Stand) (fleet : Fleet) → IsIn fleet (seen_of o).fleets → is_some o ≡ true
no-fleets None fleet is = absurd is
no-fleets (Some stand) fleet is = refl

module _ (setting : Setting) (held : Held) (f : Stamps (game setting)) (fleet : Fleet) (shows : Shows setting held f) (is : LandsIn held fleet) where
  abbrev place_there : CellId
  place_there = Planet (landing fleet)

  place-inside : holds held place_there ≡ true
  place-inside = no-fleets (held_at held place_there) fleet is

  raid-stands : attacks fleet ≡ true → StandsThere setting held f (fights (raid_of (seen_held held place_there).fleets fleet))
  raid-stands hostile =
      let there = (seen_held held place_there).fleets in
      let target : place_there ≡ Planet fleet.target = ap Planet (landing-out fleet hostile) in
      let seen : there ≡ (view setting.cells f.universe (Planet fleet.target)).fleets = ap (λ (v : View). v.fleets) (held-seen setting held f place_there shows place-inside) ∙ ap (λ x. (view setting.cells f.universe x).fleets) target in
      record {
        stands = subst (λ fleets. IsRaid fleets (raid_of there fleet)) seen (record { one = fleet; flies = is; hostile = hostile; is = refl });
        inside = subst (λ x. holds held x ≡ true) target place-inside;
      }

  landing-stands : attacks fleet ≡ false → StandsThere setting held f (lands fleet)
  landing-stands alone = record {
    stands = (subst (λ (v : View). IsIn fleet v.fleets) (held-seen setting held f place_there shows place-inside) is, alone);
    inside = place-inside;
  }

  coming-stands : (b : Bool) → attacks fleet ≡ b → StandsThere setting held f (cond b (fights (raid_of (seen_held held place_there).fleets fleet)) (lands fleet))
  coming-stands true hostile = raid-stands hostile
  coming-stands false alone = landing-stands alone

item-stands : (setting : Setting) (held : Held) (f : Stamps (game setting)) (queue : Queue) (item : Item) (later : List Item) → Shows setting held f → items_held held queue ≡ item ∷ later
    → StandsThere setting held f (event_of queue item later)
item-stands setting held f queue item later shows owed =
    let there = owed-there setting held f queue item later shows owed in
    record { stands = there.1; inside = ap (holds held) there.0 ∙ queue-inside held queue item later owed }

-- what the cells owe is owed in the universe
pub event-there : (setting : Setting) (held : Held) (f : Stamps (game setting)) (what : Happening) (event : Event) → Shows setting held f → IsOwed held what event → StandsThere setting held f event
event-there setting held f (ItemDue due) event shows is =
    subst (StandsThere setting held f) (sym is.is) (item-stands setting held f due.queue is.item is.later shows is.owed)
event-there setting held f (Coming fleet) event shows is =
    subst (StandsThere setting held f) (sym is.is) (coming-stands setting held f (fleet_seen fleet) shows is.owed (attacks (fleet_seen fleet)) refl)

-- a fleet comes at its second
second-at : (raid : Raid) (fleet : Fleet) → raid.second ≡ fleet.second → (b : Bool) → second_of (cond b (fights raid) (lands fleet)) ≡ fleet.second
second-at raid fleet second true = second
second-at raid fleet second false = refl

-- it is due at its second
pub owed-second : (held : Held) (what : Happening) (event : Event) → IsOwed held what event → second_of event ≡ second_at what
owed-second held (ItemDue due) event is = ap second_of is.is ∙ is.second
owed-second held (Coming fleet) event is = ap second_of is.is ∙ second-at (raid_of (seen_held held (Planet (landing (fleet_seen fleet)))).fleets (fleet_seen fleet)) (fleet_seen fleet) refl (attacks (fleet_seen fleet))

-- a cell of the footprint, once it gained
pub gained-shown : (setting : Setting) (f : Stamps (game setting)) (S : CellId → Bool) (second : ℕ) (cell : CellId) (o : Option Stand) → S cell ≡ true → is_some o ≡ true → IfSome o (ShowsCell setting f cell)
    → seen_of (option_map (gained setting.rules second) o) ≡ view setting.cells (bring_to (game setting) S second f).universe cell
gained-shown setting f S second cell None has held shown = never false held refl
gained-shown setting f S second cell (Some stand) has held shown =
    let seconds : second - stand.second ≡ cond (S cell) (second - f.at cell) 0 =
    ap (λ s. second - s) shown.second ∙ sym (ap (λ b. cond b (second - f.at cell) 0) has) in
    (λ i. gains setting.rules (seconds i) (shown.seen i)) ∙ sym (view-advanced setting (λ x. cond (S x) (second - f.at x) 0) f.universe cell)

pub if_some : {A : Type 0} (o : Option A) (P Q : A → Type 0) → ((x : A) → P x → Q x) → IfSome o P → IfSome o Q
if_some None P Q f p = tt
if_some (Some x) P Q f p = f x p

mapped-shown : {A : Type 0} (o : Option A) (f : A → A) (P Q : A → Type 0) → ((x : A) → o ≡ Some x → P x → Q (f x)) → IfSome o P → IfSome (option_map f o) Q
mapped-shown None f P Q g p = tt
mapped-shown (Some x) f P Q g p = g x refl p

-- the cells show the universe in which the event acts
pub shows_event : (setting : Setting) (f : Stamps (game setting)) (old new : Held) (e : Event)
    → Shows setting old f → KeepsRules setting f.universe → Owes (view setting.cells f.universe (home e)) e
    → ((cell : CellId) → footprint e cell ≡ true → holds old cell ≡ true)
    → ((cell : CellId) → held_at new cell ≡ held_after setting.rules e old cell) → Shows setting new (event_acts (game setting) e f)
shows_event setting f old new e shows fine owed within happens x =
    let M = game setting in
    let cells = footprint e in
    let second = second_of e in
    let b = bring_to M cells second f in
    let g = event_acts M e f in
    let kept = advance-keeps setting (λ y. cond (cells y) (second - f.at y) 0) f.universe fine in
    let stands : Owes (view setting.cells b.universe (home e)) e =
    subst (λ v. Owes v e) (sym (view-advanced setting (λ y. cond (cells y) (second - f.at y) 0) f.universe (home e)))
    (gains-owe setting.rules (cond (cells (home e)) (second - f.at (home e)) 0) (view setting.cells f.universe (home e)) e owed) in
    let brought : (y : CellId) → cells y ≡ true → seen_of (gained_at setting.rules second old y) ≡ view setting.cells b.universe y =
    λ y has. gained-shown setting f cells second y (held_at old y) has (within y has) (shows y) in
    let seen : seen_then setting.rules e old ≡ seen_by_event setting e b.universe = shown-alike cells (λ y. seen_of (gained_at setting.rules second old y)) (view setting.cells b.universe) brought in
    let change : change_then setting.rules e old ≡ event_change setting.rules e (seen_by_event setting e b.universe) = ap (event_change setting.rules e) seen in
    elim (test (cells x)) [
      | inl has ↦
          (let now : held_at new x ≡ option_map (stand_after setting.rules e old x) (held_at old x) =
          happens x ∙ ap (λ c. cond c (option_map (stand_after setting.rules e old x) (held_at old x)) (held_at old x)) has in
          subst (λ (o : Option Stand). IfSome o (ShowsCell setting g x)) (sym now)
          (mapped-shown (held_at old x) (stand_after setting.rules e old x) (ShowsCell setting f x) (ShowsCell setting g x) (λ stand is shown. record {
            second = sym (ap (λ c. cond c second (f.at x)) has);
            seen =
                (λ i. seen_after_event e (change i) (seen i) x (gained setting.rules second stand).seen)
                ∙ ap (seen_after_event e (event_change setting.rules e (seen_by_event setting e b.universe)) (seen_by_event setting e b.universe) x) (ap (λ o. seen_of (option_map (gained setting.rules second) o)) (sym is) ∙ brought x has)
                ∙ sym (event-seen setting b.universe e x kept stands has);
          }) (shows x)))
      | inr out ↦
          (let now : held_at new x ≡ held_at old x =
          happens x ∙ ap (λ c. cond c (option_map (stand_after setting.rules e old x) (held_at old x)) (held_at old x)) out in
          let still : view setting.cells b.universe x ≡ view setting.cells f.universe x =
          view-advanced setting (λ y. cond (cells y) (second - f.at y) 0) f.universe x
          ∙ ap (λ c. gains setting.rules (cond c (second - f.at x) 0) (view setting.cells f.universe x)) out ∙ none-gained setting.rules (view setting.cells f.universe x) in
          let same = event-outside setting b.universe e x kept stands out ∙ still in
          let at_same : g.at x ≡ f.at x = ap (λ c. cond c second (f.at x)) out in
          subst (λ (o : Option Stand). IfSome o (ShowsCell setting g x)) (sym now)
          (if_some (held_at old x) (ShowsCell setting f x) (ShowsCell setting g x)
          (λ stand shown. record { second = shown.second ∙ sym at_same; seen = shown.seen ∙ sym same }) (shows x)))
    ]

-- what happens to the cells is the event
pub acts_in : (kept : Rules) (what : Happening) (old new : Held) → Happens kept what old new → ActsIn kept what old new
acts_in kept what old new happens setting f event rules shows fine owed within =
    shows_event setting f old new event shows fine (event-there setting old f what event shows owed).stands within
    (λ cell. happens event owed cell ∙ ap (λ (r : Rules). held_after r event old cell) (sym rules))
