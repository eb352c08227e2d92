-- What cells that are held owe, and what they owe in the universe that they show.
use Rattle.std.proofs.Common.{◌≡◌, ◌⊎◌, ℕ, ◌<◌, ◌≤◌, inl, inr, Bool, true, false, cond, List, [], ◌∷◌, refl, ap, ◌∙◌, sym, subst, arith, Option, Some, None}
use Rattle.std.specs.Prelude.{MatchOption, option_map}
use Rattle.std.specs.BTreeMap.{get, is_at}
use Rattle.std.specs.List.{AllByRecursion}
use Rattle.account_cell.specs.Account.{research_of}
use Rattle.planet_cell.specs.Planet.{batches_of, buildings_of}
use Rattle.base_ids.specs.Order.{key_before}
use Rattle.base_ids.specs.declared.cell_id.CellId.TheVariants.{Planet}
use Rattle.base_ids.specs.declared.coord.Coord.{Coord}
use Rattle.base_ids.specs.declared.player.Player.{Player}
use Rattle.laziness.proofs.Bringing.{never}
use Rattle.laziness.specs.Laws.{NoneDue}
use Rattle.laziness.specs.Stamps.{Stamps}
use Rattle.tick_model.specs.Events.{IsRaid, item_due, lands, fights, Owes, home, key_of, landing_step, step_of}
use Rattle.tick_model.specs.Flights.{landing}
use Rattle.tick_model.specs.Raids.{Raid, attacks}
use Rattle.tick_model.specs.Rules.{IsIn}
use Rattle.tick_model.specs.Game.{game}
use Rattle.tick_model.specs.Universe.{Buildings as BuildingsClass, Researches as ResearchClass, Yard as YardClass, Fleet, Item, QueueClass, Setting}
use Rattle.tick_model.specs.Views.{View, view}
use Rattle.fleet_rec.specs.Fleets.{coming_key}
use Rattle.tick_model.proofs.Keys.{key-not_before}
use Rattle.tick_model.proofs.Nexts.{landing-out}
use Rattle.happenings.specs.Coming.{FindsFirst, IsFirstEvent}
use Rattle.happenings.specs.Due.{IsFirstOfQueues, IsFirstOfThese, IsFirstOwed, IsNoneOfQueues, IsNoneOfThese, first_of, is_of_planet, is_research, key_at, owed_by_account, owed_by_planet, sooner_of}
use Rattle.happenings.specs.Happening.{IsFirstDue, IsNothingDue}
use Rattle.happenings.specs.Landings.{LandsIn}
use Rattle.happenings.specs.Held.{Shows, account_stand, holds, planet_stand}
use Rattle.happenings.specs.Orders.{place_order, player_order}
use Rattle.happenings.specs.Queues.{class_of, event_of, items_held, seen_held, seen_of}
use Rattle.happenings.specs.declared.due.Due.{Due}
use Rattle.happenings.specs.declared.happening.Happening.{Happening}
use Rattle.happenings.specs.declared.held.AccountCell.{AccountCell}
use Rattle.happenings.specs.declared.held.Held.{Held}
use Rattle.happenings.specs.declared.held.PlanetCell.{PlanetCell}
use Rattle.happenings.specs.declared.queue.Queue.{Queue}
use Rattle.happenings.specs.declared.queue.Queue.TheVariants.{Buildings, Research, Yard}
use Rattle.happenings.proofs.Acting.{event-there, held-seen, owed-second}
use Rattle.happenings.proofs.Firsts.{IsFirstItem, IsSooner, NotSooner, first-item, is-sooner, neither-sooner, not-first, owes-first}
use Rattle.happenings.proofs.Keys.{found_holds, place_is, player_at_is}
use Rattle.happenings.proofs.Standing.{queue-held}

-- What the universe has to come stands in a queue that is held.
pub record StandsHere (held : Held) (class : QueueClass) (item : Item) (later : List Item) : Type 0 where
  pub queue : Queue
  pub sort : class_of queue ≡ class
  pub items : items_held held queue ≡ item ∷ later

queue-there : (setting : Setting) (held : Held) (f : Stamps (game setting)) (class : QueueClass) (item : Item) (later : List Item) → Shows setting held f → holds held item.cell ≡ true
    → Owes (view setting.cells f.universe item.cell) (item_due class item later) → StandsHere held class item later
queue-there setting held f class item later shows inside owes =
    let here : (seen_held held item.cell).queue class ≡ item ∷ later = ap (λ (v : View). v.queue class) (held-seen setting held f item.cell shows inside) ∙ owes in
    let found = queue-held held item.cell class item later here in
    record {
      queue = found.0;
      sort = found.2;
      items = (λ i. (seen_held held (found.1 i)).queue (found.2 i)) ∙ here;
    }

-- a fleet that lands in the universe lands at a planet that is held
landing-there : (setting : Setting) (held : Held) (f : Stamps (game setting)) (fleet : Fleet) → Shows setting held f → holds held (home (lands fleet)) ≡ true
    → Owes (view setting.cells f.universe (home (lands fleet))) (lands fleet) → LandsIn held fleet
landing-there setting held f fleet shows inside owes =
    subst (λ (v : View). IsIn fleet v.fleets) (sym (held-seen setting held f (home (lands fleet)) shows inside)) owes.0

-- and so does one of a raid
raider-there : (setting : Setting) (held : Held) (f : Stamps (game setting)) (raid : Raid) → Shows setting held f → holds held (Planet raid.target) ≡ true
    → (is_raid : IsRaid (view setting.cells f.universe (Planet raid.target)).fleets raid) → LandsIn held is_raid.one
raider-there setting held f raid shows inside is_raid =
    let target : raid.target ≡ is_raid.one.target = ap (λ (r : Raid). r.target) is_raid.is in
    let place : Planet raid.target ≡ Planet (landing is_raid.one) = ap Planet (target ∙ sym (landing-out is_raid.one is_raid.hostile)) in
    subst (λ x. IsIn is_raid.one (seen_held held x).fleets) place
    (subst (λ (v : View). IsIn is_raid.one v.fleets) (sym (held-seen setting held f (Planet raid.target) shows inside)) is_raid.flies)

raid-key : (fleets : List Fleet) (raid : Raid) → (is_raid : IsRaid fleets raid) → key_of (fights raid) ≡ coming_key is_raid.one
raid-key fleets raid is_raid =
    let one = is_raid.one in
    (λ i. key_of (fights (is_raid.is i)))
    ∙ sym (ap (λ b. cond b (record { second = one.second; number = one.group; step = 5 }) (record { second = one.second; number = one.number; step = landing_step one })) is_raid.hostile)

alone-key : (fleet : Fleet) → attacks fleet ≡ false → key_of (lands fleet) ≡ coming_key fleet
alone-key fleet alone =
    sym (ap (λ b. cond b (record { second = fleet.second; number = fleet.group; step = 5 }) (record { second = fleet.second; number = fleet.number; step = landing_step fleet })) alone)

-- nothing is due in the cells that are held, so no event is due
none-due : (setting : Setting) (held : Held) (f : Stamps (game setting)) (moment : ℕ) → Shows setting held f → IsNothingDue held moment
    → NoneDue (game setting) (holds held) moment f.universe
none-due setting held f moment shows nothing (item_due class item later) stands inside due =
    let there = queue-there setting held f class item later shows inside stands in
    let not_yet : moment < item.second = nothing.items there.queue item later there.items in
    omega (arith, due, not_yet)
none-due setting held f moment shows nothing (lands fleet) stands inside due =
    let not_yet : moment < fleet.second = nothing.fleets fleet (landing-there setting held f fleet shows inside stands) in
    omega (arith, due, not_yet)
none-due setting held f moment shows nothing (fights raid) stands inside due =
    let not_yet : moment < stands.one.second = nothing.fleets stands.one (raider-there setting held f raid shows inside stands) in
    let same : raid.second ≡ stands.one.second = ap (λ (r : Raid). r.second) stands.is in
    omega (arith, due, not_yet, same)

first-event : (setting : Setting) (held : Held) (f : Stamps (game setting)) (moment : ℕ) (what : Happening) → Shows setting held f → IsFirstDue held moment what
    → IsFirstEvent setting held moment f what
first-event setting held f moment what shows is =
    let there = event-there setting held f what is.event shows is.owed in
    let second = owed-second held what is.event is.owed in
    let by = is.due_by in
    let key = key_of is.event in
    record {
      event = is.event;
      owed = is.owed;
      next = record {
        stands = there.stands;
        inside = there.inside;
        due = omega (arith, second, by);
        first = elim [
          | item_due class item later ↦ λ stands inside in_time before.
              let other = queue-there setting held f class item later shows inside stands in
              let after = is.items other.queue item later other.items in_time in
              never (key_before (key_of (item_due class item later)) key) before
              (ap (λ c. key_before (key_of (item_due c item later)) key) (sym other.sort) ∙ after)
          | lands fleet ↦ λ stands inside in_time before.
              never (key_before (key_of (lands fleet)) key) before
              (ap (λ k. key_before k key) (alone-key fleet stands.1) ∙ is.fleets fleet (landing-there setting held f fleet shows inside stands) in_time)
          | fights raid ↦ λ stands inside in_time before.
              let same : raid.second ≡ stands.one.second = ap (λ (r : Raid). r.second) stands.is in
              never (key_before (key_of (fights raid)) key) before
              (ap (λ k. key_before k key) (raid-key (view setting.cells f.universe (Planet raid.target)).fleets raid stands)
              ∙ is.fleets stands.one (raider-there setting held f raid shows inside stands) (omega (arith, same, in_time)))
        ];
      };
    }

-- the first event is found
pub finds_first : (held : Held) (moment : ℕ) (found : Option Happening) → MatchOption found (IsNothingDue held moment) (IsFirstDue held moment) → FindsFirst held moment found
finds_first held moment None nothing setting f shows named = none-due setting held f moment shows nothing
finds_first held moment (Some what) first setting f shows named = first-event setting held f moment what shows first

pub key-is : (queue : Queue) (item : Item) (later : List Item) (due : Due) → due.queue ≡ queue → item.second ≡ due.second → item.number ≡ due.number → key_of (event_of queue item later) ≡ key_at due
key-is queue item later due queues second number = λ i. record { second = second i; number = number i; step = step_of (class_of (sym queues i)) }

-- What isn't before the first of two isn't before either.
abbrev pub NoneSooner : Option Due → Due → Type 0
NoneSooner owed due = NotSooner key_at owed due

none-sooner : (one other found : Option Due) (due : Due) → sooner_of key_at one other ≡ found → NoneSooner found due → NoneSooner one due × NoneSooner other due
none-sooner one other None due is first =
    let neither = neither-sooner key_at one other is in (
      (λ d here. let no : None ≡ Some d = sym neither.0 ∙ here in absurd (cc no)),
      (λ d here. let no : None ≡ Some d = sym neither.1 ∙ here in absurd (cc no)),
    )
none-sooner one other (Some found) due is first =
    let both = is-sooner key_at one other found is in
    let after = first found refl in (
      (λ d here. key-not_before (key_at d) (key_at found) (key_at due) (both.first d here) after),
      (λ d here. key-not_before (key_at d) (key_at found) (key_at due) (both.second d here) after),
    )

-- the first item of a queue that is due isn't before what isn't before the first that its cell owes
item-after : (moment : ℕ) (queue : Queue) (items : List Item) (item : Item) (later : List Item) (due : Due) → NoneSooner (first_of moment queue items) due → items ≡ item ∷ later → item.second ≤ moment
    → key_before (key_of (event_of queue item later)) (key_at due) ≡ false
item-after moment queue items item later due first is by =
    first (record { second = item.second; number = item.number; queue = queue }) (owes-first moment queue items item later is by)

no-queue : {A : Type 0} (item : Item) (later : List Item) → [] ≡ item ∷ later → A
no-queue item later is = absurd (cc is)

-- the research of an account that may be held
abbrev items_held_by : Option AccountCell → List Item
items_held_by o = (seen_of (option_map account_stand o)).queue ResearchClass

-- an item that stands in a queue that is held stands in that of an entry
record InPlanet (held : Held) (P : Coord × PlanetCell → Type 0) (at : Coord) (items : PlanetCell → List Item) (item : Item) (later : List Item) : Type 0 where
  cell : PlanetCell
  holds : P (at, cell)
  queue : items cell ≡ item ∷ later

in-planet : (held : Held) (P : Coord × PlanetCell → Type 0) (at : Coord) (class : QueueClass) (o : Option PlanetCell) (item : Item) (later : List Item) → AllByRecursion P held.planets.entries
    → get place_order held.planets at ≡ o → (seen_of (option_map planet_stand o)).queue class ≡ item ∷ later → InPlanet held P at (λ cell. (planet_stand cell).seen.queue class) item later
in-planet held P at class None item later all found is = no-queue item later is
in-planet held P at class (Some cell) item later all found is =
    let entry = found_holds (is_at (place_order at)) P held.planets.entries cell all found in
    record { cell = cell; holds = subst (λ k. P (k, cell)) (sym (place_is at entry.0 entry.1)) entry.2; queue = is }

record InAccount (held : Held) (P : Player × AccountCell → Type 0) (player : Player) (item : Item) (later : List Item) : Type 0 where
  cell : AccountCell
  holds : P (player, cell)
  queue : research_of cell.account ≡ item ∷ later

in-account : (held : Held) (P : Player × AccountCell → Type 0) (player : Player) (o : Option AccountCell) (item : Item) (later : List Item) → AllByRecursion P held.accounts.entries
    → get player_order held.accounts player ≡ o → items_held_by o ≡ item ∷ later → InAccount held P player item later
in-account held P player None item later all found is = no-queue item later is
in-account held P player (Some cell) item later all found is =
    let entry = found_holds (is_at (player_order player)) P held.accounts.entries cell all found in
    record { cell = cell; holds = subst (λ k. P (k, cell)) (sym (player_at_is player entry.0 entry.1)) entry.2; queue = is }

-- what an entry owes
abbrev pub planet_owes : ℕ → Coord × PlanetCell → Option Due
planet_owes moment entry = owed_by_planet moment entry.0 entry.1

abbrev pub planet_there : Held → Coord × PlanetCell → Type 0
planet_there held entry = get place_order held.planets entry.0 ≡ Some entry.1

abbrev pub account_owes : ℕ → Player × AccountCell → Option Due
account_owes moment entry = owed_by_account moment entry.0 entry.1

abbrev pub account_there : Held → Player × AccountCell → Type 0
account_there held entry = get player_order held.accounts entry.0 ≡ Some entry.1

no-planet-due : (held : Held) (moment : ℕ) → AllByRecursion (λ e. planet_owes moment e ≡ None) held.planets.entries → IsNoneOfThese is_of_planet held moment
no-planet-due held moment all (Buildings at) item later these is =
    let here = in-planet held (λ e. planet_owes moment e ≡ None) at BuildingsClass (get place_order held.planets at) item later all refl is in
    let none = neither-sooner key_at (first_of moment (Buildings at) (buildings_of here.cell.planet)) (first_of moment (Yard at) (batches_of here.cell.planet)) here.holds in
    not-first moment (Buildings at) (buildings_of here.cell.planet) item later here.queue none.0
no-planet-due held moment all (Research player) item later these is = never false these refl
no-planet-due held moment all (Yard at) item later these is =
    let here = in-planet held (λ e. planet_owes moment e ≡ None) at YardClass (get place_order held.planets at) item later all refl is in
    let none = neither-sooner key_at (first_of moment (Buildings at) (buildings_of here.cell.planet)) (first_of moment (Yard at) (batches_of here.cell.planet)) here.holds in
    not-first moment (Yard at) (batches_of here.cell.planet) item later here.queue none.1

-- the first of what planets owe is the first of their queues
pub planets_first : (held : Held) (moment : ℕ) (found : Option Due) → IsFirstOwed key_at (planet_owes moment) (planet_there held) held.planets.entries found
    → MatchOption found (IsNoneOfThese is_of_planet held moment) (IsFirstOfThese is_of_planet held moment)
planets_first held moment None all = no-planet-due held moment all
planets_first held moment (Some due) (found, all) =
    planet-first held moment due found.0 found.1 all (is-sooner key_at (first_of moment (Buildings found.0.0) (buildings_of found.0.1.planet)) (first_of moment (Yard found.0.0) (batches_of found.0.1.planet)) due found.2).either
  where
    planet-after : (held : Held) (moment : ℕ) (due : Due) → AllByRecursion (λ e. NoneSooner (planet_owes moment e) due) held.planets.entries
        → (queue : Queue) (other : Item) (more : List Item) → is_of_planet queue ≡ true → items_held held queue ≡ other ∷ more → other.second ≤ moment
        → key_before (key_of (event_of queue other more)) (key_at due) ≡ false
    planet-after held moment due all (Buildings at) item later these is by =
        let here = in-planet held (λ e. NoneSooner (planet_owes moment e) due) at BuildingsClass (get place_order held.planets at) item later all refl is in
        let first = none-sooner (first_of moment (Buildings at) (buildings_of here.cell.planet)) (first_of moment (Yard at) (batches_of here.cell.planet)) (planet_owes moment (at, here.cell)) due refl here.holds in
        item-after moment (Buildings at) (buildings_of here.cell.planet) item later due first.0 here.queue by
    planet-after held moment due all (Research player) item later these is by = never false these refl
    planet-after held moment due all (Yard at) item later these is by =
        let here = in-planet held (λ e. NoneSooner (planet_owes moment e) due) at YardClass (get place_order held.planets at) item later all refl is in
        let first = none-sooner (first_of moment (Buildings at) (buildings_of here.cell.planet)) (first_of moment (Yard at) (batches_of here.cell.planet)) (planet_owes moment (at, here.cell)) due refl here.holds in
        item-after moment (Yard at) (batches_of here.cell.planet) item later due first.1 here.queue by

    as-first : (held : Held) (moment : ℕ) (due : Due) (queue : Queue) → AllByRecursion (λ e. NoneSooner (planet_owes moment e) due) held.planets.entries
        → (items : List Item) → items_held held queue ≡ items → IsFirstItem moment queue items due → IsFirstOfThese is_of_planet held moment due
    as-first held moment due queue all items here is = record {
      item = is.item;
      later = is.later;
      owed = ap (items_held held) is.queue_is ∙ here ∙ is.items_are;
      second = is.second;
      number = is.number;
      due_by = is.due_by;
      first = planet-after held moment due all;
    }

    planet-first : (held : Held) (moment : ℕ) (due : Due) (entry : Coord × PlanetCell) → planet_there held entry → AllByRecursion (λ e. NoneSooner (planet_owes moment e) due) held.planets.entries
        → (first_of moment (Buildings entry.0) (buildings_of entry.1.planet) ≡ Some due) ⊎ (first_of moment (Yard entry.0) (batches_of entry.1.planet) ≡ Some due)
        → IsFirstOfThese is_of_planet held moment due
    planet-first held moment due entry there all (inl is) =
        as-first held moment due (Buildings entry.0) all (buildings_of entry.1.planet) (ap (λ o. (seen_of (option_map planet_stand o)).queue BuildingsClass) there)
        (first-item moment (Buildings entry.0) (buildings_of entry.1.planet) due is)
    planet-first held moment due entry there all (inr is) =
        as-first held moment due (Yard entry.0) all (batches_of entry.1.planet) (ap (λ o. (seen_of (option_map planet_stand o)).queue YardClass) there)
        (first-item moment (Yard entry.0) (batches_of entry.1.planet) due is)

no-account-due : (held : Held) (moment : ℕ) → AllByRecursion (λ e. account_owes moment e ≡ None) held.accounts.entries → IsNoneOfThese is_research held moment
no-account-due held moment all (Buildings at) item later these is = never false these refl
no-account-due held moment all (Research player) item later these is =
    let here = in-account held (λ e. account_owes moment e ≡ None) player (get player_order held.accounts player) item later all refl is in
    not-first moment (Research player) (research_of here.cell.account) item later here.queue here.holds
no-account-due held moment all (Yard at) item later these is = never false these refl

-- and so is the first of what accounts owe
pub accounts_first : (held : Held) (moment : ℕ) (found : Option Due) → IsFirstOwed key_at (account_owes moment) (account_there held) held.accounts.entries found
    → MatchOption found (IsNoneOfThese is_research held moment) (IsFirstOfThese is_research held moment)
accounts_first held moment None all = no-account-due held moment all
accounts_first held moment (Some due) (found, all) =
    let is = first-item moment (Research found.0.0) (research_of found.0.1.account) due found.2 in
    record {
      item = is.item;
      later = is.later;
      owed = ap (items_held held) is.queue_is ∙ ap items_held_by found.1 ∙ is.items_are;
      second = is.second;
      number = is.number;
      due_by = is.due_by;
      first = account-after held moment due all;
    }
  where
    account-after : (held : Held) (moment : ℕ) (due : Due) → AllByRecursion (λ e. NoneSooner (account_owes moment e) due) held.accounts.entries
        → (queue : Queue) (other : Item) (more : List Item) → is_research queue ≡ true → items_held held queue ≡ other ∷ more → other.second ≤ moment
        → key_before (key_of (event_of queue other more)) (key_at due) ≡ false
    account-after held moment due all (Buildings at) item later these is by = never false these refl
    account-after held moment due all (Research player) item later these is by =
        let here = in-account held (λ e. NoneSooner (account_owes moment e) due) player (get player_order held.accounts player) item later all refl is in
        item-after moment (Research player) (research_of here.cell.account) item later due here.holds here.queue by
    account-after held moment due all (Yard at) item later these is by = never false these refl

-- each queue is one of these
these-two : (queue : Queue) → (is_research queue ≡ true) ⊎ (is_of_planet queue ≡ true)
these-two (Buildings at) = inr refl
these-two (Research player) = inl refl
these-two (Yard at) = inr refl

-- nothing before a moment is due in some queues, or what is due first there isn't before this
after-these : (these : Queue → Bool) (held : Held) (moment : ℕ) (found : Option Due) (due : Due) → MatchOption found (IsNoneOfThese these held moment) (IsFirstOfThese these held moment) → NoneSooner found due
    → (queue : Queue) (other : Item) (more : List Item) → these queue ≡ true → items_held held queue ≡ other ∷ more → other.second ≤ moment
    → key_before (key_of (event_of queue other more)) (key_at due) ≡ false
after-these these held moment None due none after queue other more here is by =
    let not_yet : moment < other.second = none queue other more here is in
    let no : ⊥ = omega (arith, by, not_yet) in
    absurd no
after-these these held moment (Some first) due is after queue other more here items by =
    key-not_before (key_of (event_of queue other more)) (key_at first) (key_at due) (is.first queue other more here items by) (after first refl)

first-anew : (these : Queue → Bool) (held : Held) (moment : ℕ) (found : Option Due) (due : Due) → MatchOption found (IsNoneOfThese these held moment) (IsFirstOfThese these held moment) → found ≡ Some due
    → ((queue : Queue) (other : Item) (more : List Item) → items_held held queue ≡ other ∷ more → other.second ≤ moment → key_before (key_of (event_of queue other more)) (key_at due) ≡ false)
    → IsFirstOfQueues held moment due
first-anew these held moment None due first is after = let no : None ≡ Some due = is in absurd (cc no)
first-anew these held moment (Some found) due first is after =
    let same : found ≡ due = cc in
    let here = subst (λ d. IsFirstOfThese these held moment d) same first in
    record {
      item = here.item;
      later = here.later;
      owed = here.owed;
      second = here.second;
      number = here.number;
      due_by = here.due_by;
      first = λ queue other more every items by. after queue other more items by;
    }

none-of-both : (held : Held) (moment : ℕ) (one other : Option Due) → MatchOption one (IsNoneOfThese is_research held moment) (IsFirstOfThese is_research held moment)
    → MatchOption other (IsNoneOfThese is_of_planet held moment) (IsFirstOfThese is_of_planet held moment) → (one ≡ None) × (other ≡ None)
    → IsNoneOfQueues held moment
none-of-both held moment one other first second (no_research, of_planet) queue item later every items =
    elim (these-two queue) [
      | inl these ↦ subst (λ o. MatchOption o (IsNoneOfThese is_research held moment) (IsFirstOfThese is_research held moment)) no_research first queue item later these items
      | inr these ↦ subst (λ o. MatchOption o (IsNoneOfThese is_of_planet held moment) (IsFirstOfThese is_of_planet held moment)) of_planet second queue item later these items
    ]

-- the first of both is the first of all
pub first_of_both : (held : Held) (moment : ℕ) (one other found : Option Due) → MatchOption one (IsNoneOfThese is_research held moment) (IsFirstOfThese is_research held moment)
    → MatchOption other (IsNoneOfThese is_of_planet held moment) (IsFirstOfThese is_of_planet held moment) → sooner_of key_at one other ≡ found
    → MatchOption found (IsNoneOfQueues held moment) (IsFirstOfQueues held moment)
first_of_both held moment one other None first second is = none-of-both held moment one other first second (neither-sooner key_at one other is)
first_of_both held moment one other (Some due) first second is =
    let both = is-sooner key_at one other due is in
    let after : (queue : Queue) (item : Item) (more : List Item) → items_held held queue ≡ item ∷ more → item.second ≤ moment → key_before (key_of (event_of queue item more)) (key_at due) ≡ false =
    λ queue item more items by. first-of-all held moment one other due first second both queue item more items by (these-two queue) in
    elim both.either [
      | inl here ↦ first-anew is_research held moment one due first here after
      | inr here ↦ first-anew is_of_planet held moment other due second here after
    ]
  where
    first-of-all : (held : Held) (moment : ℕ) (one other : Option Due) (due : Due) → MatchOption one (IsNoneOfThese is_research held moment) (IsFirstOfThese is_research held moment)
        → MatchOption other (IsNoneOfThese is_of_planet held moment) (IsFirstOfThese is_of_planet held moment) → IsSooner key_at one other due
        → (queue : Queue) (item : Item) (more : List Item) → items_held held queue ≡ item ∷ more → item.second ≤ moment → (is_research queue ≡ true) ⊎ (is_of_planet queue ≡ true)
        → key_before (key_of (event_of queue item more)) (key_at due) ≡ false
    first-of-all held moment one other due first second both queue item more items by (inl these) = after-these is_research held moment one due first both.first queue item more these items by
    first-of-all held moment one other due first second both queue item more items by (inr these) = after-these is_of_planet held moment other due second both.second queue item more these items by
