-- The universe of a sound base is a base of histories.
use Rattle.std.proofs.Common.{◌≡◌, ℕ, ◌≤◌, ◌<◌, false, List, [], ◌∷◌, length, inl, inr, arith, refl, ap, ◌∙◌, sym, subst}
use Rattle.std.specs.Prelude.{map, All, AllPairs}
use Rattle.std.specs.List.{Contains, flat_map}
use Rattle.std.proofs.lemmas.List.Elements.{All-contains}
use Rattle.account_cell.specs.Account.{account_queue, research_item, research_of}
use Rattle.account_cell.specs.declared.account.Account.{Account}
use Rattle.account_cell.specs.declared.research_item.ResearchItem.{ResearchItem}
use Rattle.base_bytes.specs.Base.{all_items, own_of, planet_items, setting_of, universe_of}
use Rattle.base_bytes.specs.Sound.{IsSound, RunsAfter, places_owned}
use Rattle.base_bytes.specs.declared.base.Base.{Base}
use Rattle.base_bytes.proofs.Among.{from-flat, from-map, has-place, is-among, pairs-first, pairs-later}
use Rattle.base_bytes.proofs.Flying.{each-fleet, fleet-flies, fleets-apart, fleets-rise, fleets-together, owned-by, stands-here}
use Rattle.base_bytes.proofs.Once.{named-once}
use Rattle.base_bytes.proofs.Owned.{account-listed, planet-come, there-listed}
use Rattle.base_bytes.proofs.Queued.{account-queue, item-cell, planet-queue, research-is}
use Rattle.base_ids.specs.declared.cell_id.CellId.{CellId}
use Rattle.base_ids.specs.declared.cell_id.CellId.TheVariants.{Account as AccountId, Planet as PlanetId}
use Rattle.base_ids.specs.declared.coord.Coord.{Coord}
use Rattle.base_ids.specs.declared.player.Player.{Player}
use Rattle.catalog.specs.declared.classes.TheConstants.{UNIT_KINDS}
use Rattle.laziness.specs.World.{IsBase}
use Rattle.planet_cell.specs.Bounds.{HasBegun}
use Rattle.planet_cell.specs.Planet.{batch_item_of, batches_of, buildings_of, fields_of, item_of, queue_of}
use Rattle.planet_cell.specs.declared.batch.Batch.{Batch}
use Rattle.planet_cell.specs.declared.planet.Planet.{Planet}
use Rattle.tick_model.proofs.Lists.{any-none, from-filter, in-append}
use Rattle.tick_model.proofs.Queues.{IsQueued, queued-in}
use Rattle.tick_model.proofs.Units.{unit-place}
use Rattle.tick_model.specs.Events.{Event, item_due, lands, fights, home, Owes, second_of}
use Rattle.tick_model.specs.Flights.{landing}
use Rattle.tick_model.specs.Game.{game}
use Rattle.tick_model.specs.Raids.{Raid}
use Rattle.tick_model.specs.Rules.{AreDistinct, IsIn, IsPlaced, KeepsRules, same_order}
use Rattle.tick_model.specs.Universe.{of_planet, Item, PlanetFields, QueueClass, Buildings, Researches, Yard}
use Rattle.tick_model.specs.Views.{belongs, queue_in, view}
use Rattle.tick_model.specs.World.{base_of}

owner-listed : (base : Base) (planet : Planet) → IsSound base → IsIn planet base.planets.items → Contains (setting_of base).cells (AccountId planet.owner)
owner-listed base planet sound is =
    let owner = All-contains (λ (p : Planet). Contains (map (λ (a : Account). a.player) base.accounts.items) p.owner) base.planets.items planet sound.owned (has-place planet base.planets.items is) in
    let account = from-map (λ (a : Account). a.player) planet.owner base.accounts.items (is-among planet.owner (map (λ (a : Account). a.player) base.accounts.items) owner) in
    subst (λ (k : Player). Contains (setting_of base).cells (AccountId k)) (sym account.2) (account-listed base.accounts.items base.planets.items account.0 account.1)

owned-listed : (base : Base) (cell : CellId) (fields : PlanetFields) → IsSound base → own_of base.accounts.items base.planets.items cell ≡ of_planet fields → Contains (setting_of base).cells (AccountId fields.owner)
owned-listed base cell fields sound same =
    let comes = planet-come base.accounts.items base.planets.items cell fields same in
    subst (λ (f : PlanetFields). Contains (setting_of base).cells (AccountId f.owner)) comes.2 (owner-listed base comes.0 sound comes.1)

building-placed : (base : Base) (planet : Planet) (item : Item) → IsSound base → IsIn planet base.planets.items → IsIn item (buildings_of planet) → IsPlaced (universe_of base).state item
building-placed base planet item sound is has =
    let comes = from-map (item_of planet.at) item planet.buildings.items has in
    subst (IsPlaced (universe_of base).state) (sym comes.2)
    (record { planet = fields_of planet; stands = stands-here base planet sound is; cell = refl; batch = tt })

batch-placed : (base : Base) (planet : Planet) (item : Item) → IsSound base → IsIn planet base.planets.items → IsIn item (batches_of planet) → IsPlaced (universe_of base).state item
batch-placed base planet item sound is has =
    let comes = from-map (batch_item_of planet.at) item planet.yard.items has in
    let batch = comes.0 in
    subst (IsPlaced (universe_of base).state) (sym comes.2)
    (record { planet = fields_of planet; stands = stands-here base planet sound is; cell = refl; batch = (batch.some, unit-place batch.kind.kind batch.kind.class) })

research-placed : (base : Base) (account : Account) (item : Item) → IsSound base → IsIn account base.accounts.items → IsIn item (research_of account) → IsPlaced (universe_of base).state item
research-placed base account item sound is has =
    let comes = from-map (research_item account.player) item account.research.items has in
    let research = comes.0 in
    let place = has-place account base.accounts.items is in
    let home = All-contains (λ (i : ResearchItem). Contains account.planets.items i.at) account.research.items research
    (All-contains (λ (a : Account). All (λ (i : ResearchItem). Contains a.planets.items i.at) a.research.items) base.accounts.items account sound.at_home place)
    (has-place research account.research.items comes.1) in
    let listed = All-contains (λ (a : Account). a.planets.items ≡ places_owned a.player base.planets.items) base.accounts.items account sound.listed place in
    let planet = owned-by account.player base.planets.items research.at (subst (λ (places : List Coord). Contains places research.at) listed home) in
    subst (IsPlaced (universe_of base).state) (sym comes.2)
    (record {
      planet = fields_of planet.0;
      stands = ap (λ at. (universe_of base).state.own (PlanetId at)) (sym planet.2) ∙ stands-here base planet.0 sound planet.1;
      cell = ap AccountId (sym planet.3);
      batch = tt;
    })

item-placed : (base : Base) (item : Item) → IsSound base → IsIn item (all_items base.accounts.items base.planets.items) → IsPlaced (universe_of base).state item
item-placed base item sound is =
    elim (in-append item (flat_map research_of base.accounts.items) (flat_map planet_items base.planets.items) is) [
      | inl research ↦ (let account = from-flat research_of item base.accounts.items research in research-placed base account.0 item sound account.1 account.2)
      | inr others ↦
          (let planet = from-flat planet_items item base.planets.items others in
          elim (in-append item (buildings_of planet.0) (batches_of planet.0) planet.2) [
            | inl building ↦ building-placed base planet.0 item sound planet.1 building
            | inr batch ↦ batch-placed base planet.0 item sound planet.1 batch
          ])
    ]

-- items that are apart are distinct
orders-distinct : (items : List Item) → AllPairs (λ first second. same_order first second ≡ false) items → AreDistinct items
orders-distinct [] apart = tt
orders-distinct (item ∷ items) apart = (
  any-none (same_order item) items (λ other is. pairs-first (λ a b. same_order a b ≡ false) item other items apart is),
  orders-distinct items (pairs-later (λ a b. same_order a b ≡ false) item items apart),
)

kinds-known : (base : Base) (cell : CellId) (fields : PlanetFields) → IsSound base → own_of base.accounts.items base.planets.items cell ≡ of_planet fields → length fields.units ≡ length UNIT_KINDS
kinds-known base cell fields sound same =
    let comes = planet-come base.accounts.items base.planets.items cell fields same in
    subst (λ (f : PlanetFields). length f.units ≡ length UNIT_KINDS) comes.2
    (All-contains (λ (p : Planet). length p.units ≡ length UNIT_KINDS) base.planets.items comes.0 sound.kinds (has-place comes.0 base.planets.items comes.1))

-- the first batch of a planet has begun
begun-first : (planet : Planet) (batches : List Batch) (batch : Item) (later : List Item) → HasBegun batches → map (batch_item_of planet.at) batches ≡ batch ∷ later → 1 ≤ batch.unit_seconds
begun-first planet [] batch later begun same = absurd cc
begun-first planet (first ∷ waiting) batch later begun same =
    let here : batch_item_of planet.at first ≡ batch = cc in
    subst (λ (i : Item). 1 ≤ i.unit_seconds) here (begun.first first refl)

-- the cell of an item whose queue is shown
owed-cell : (base : Base) (cell : CellId) (class : QueueClass) (item : Item) (later : List Item) → queue_in (all_items base.accounts.items base.planets.items) cell class ≡ item ∷ later
    → IsQueued cell class item (all_items base.accounts.items base.planets.items)
owed-cell base cell class item later is = queued-in (all_items base.accounts.items base.planets.items) cell class item (subst (IsIn item) (sym is) (inl refl))

-- a queue that is not empty is one of an account or of a planet
data QueueOf (base : Base) (cell : CellId) : Type 0 where
  account_of : (account : Account) → IsIn account base.accounts.items → cell ≡ AccountId account.player → QueueOf base cell
  planet_of : (planet : Planet) → IsIn planet base.planets.items → cell ≡ PlanetId planet.at → QueueOf base cell

queue-of : (base : Base) (cell : CellId) (class : QueueClass) (item : Item) (later : List Item) → queue_in (all_items base.accounts.items base.planets.items) cell class ≡ item ∷ later → QueueOf base cell
queue-of base cell class item later is =
    let here = owed-cell base cell class item later is in
    elim (in-append item (flat_map research_of base.accounts.items) (flat_map planet_items base.planets.items) here.within) [
      | inl research ↦
          (let account = from-flat research_of item base.accounts.items research in
          account_of account.0 account.1 (sym here.place ∙ (research-is account.0 item account.2).0))
      | inr others ↦
          (let planet = from-flat planet_items item base.planets.items others in
          planet_of planet.0 planet.1 (sym here.place ∙ item-cell planet.0 item planet.2))
    ]

paced-at : (base : Base) (cell : CellId) (batch : Item) (later : List Item) → IsSound base → queue_in (all_items base.accounts.items base.planets.items) cell Yard ≡ batch ∷ later → QueueOf base cell → 1 ≤ batch.unit_seconds
paced-at base cell batch later sound is (account_of account has at) =
    let none : [] ≡ batch ∷ later =
    sym (account-queue base.accounts.items base.planets.items account Yard sound.accounts_rise has) ∙ ap (λ c. queue_in (all_items base.accounts.items base.planets.items) c Yard) (sym at) ∙ is in
    absurd cc
paced-at base cell batch later sound is (planet_of planet has at) =
    begun-first planet planet.yard.items batch later planet.first_begun
    (sym (planet-queue base.accounts.items base.planets.items planet Yard sound.planets_rise has) ∙ ap (λ c. queue_in (all_items base.accounts.items base.planets.items) c Yard) (sym at) ∙ is)

pub keeps-rules : (base : Base) → IsSound base → KeepsRules (setting_of base) (universe_of base).state
keeps-rules base sound =
    let all = all_items base.accounts.items base.planets.items in
    record {
      listed = there-listed base.accounts.items base.planets.items;
      once = λ cell has. named-once base.accounts.items base.planets.items cell sound.accounts_rise sound.planets_rise has;
      owned = λ cell planet same. owned-listed base cell planet sound same;
      kinds = λ cell planet same. kinds-known base cell planet sound same;
      placed = λ item is. item-placed base item sound is;
      drawn = λ item is. (All-contains (λ (i : Item). (1 ≤ i.number) × (i.number ≤ base.number)) all item sound.drawn (has-place item all is)).1;
      distinct = orders-distinct all sound.distinct;
      paced = λ cell batch later is. paced-at base cell batch later sound is (queue-of base cell Yard batch later is);
      flying = λ fleet is. fleet-flies base fleet sound is;
      sent = λ fleet is. (each-fleet base fleet sound is).drawn.1;
      apart = fleets-apart base.fleets sound.fleets_rise;
      rise = fleets-rise base.fleets sound.fleets_rise;
      together = fleets-together base.fleets sound.together;
      few = sound.few;
    }

-- what runs first in a queue comes due past the moment
first-runs : (queue : List Item) (moment : ℕ) (item : Item) (later : List Item) → queue ≡ item ∷ later → RunsAfter moment queue → moment < item.second
first-runs queue moment item later same runs = subst (RunsAfter moment) same runs

runs-at : (base : Base) (cell : CellId) (class : QueueClass) → IsSound base → QueueOf base cell → RunsAfter base.moment (queue_in (all_items base.accounts.items base.planets.items) cell class)
runs-at base cell class sound (account_of account has at) =
    let is = account-queue base.accounts.items base.planets.items account class sound.accounts_rise has in
    subst (λ c. RunsAfter base.moment (queue_in (all_items base.accounts.items base.planets.items) c class)) (sym at)
    (subst (RunsAfter base.moment) (sym is) (of-account class))
  where
    of-account : (class : QueueClass) → RunsAfter base.moment (account_queue account class)
    of-account Buildings = tt
    of-account Researches = All-contains (λ (a : Account). RunsAfter base.moment (research_of a)) base.accounts.items account sound.researched (has-place account base.accounts.items has)
    of-account Yard = tt
runs-at base cell class sound (planet_of planet has at) =
    let is = planet-queue base.accounts.items base.planets.items planet class sound.planets_rise has in
    subst (λ c. RunsAfter base.moment (queue_in (all_items base.accounts.items base.planets.items) c class)) (sym at)
    (subst (RunsAfter base.moment) (sym is) (of-planet class))
  where
    of-planet : (class : QueueClass) → RunsAfter base.moment (queue_of planet class)
    of-planet Buildings = All-contains (λ (p : Planet). RunsAfter base.moment (buildings_of p)) base.planets.items planet sound.built (has-place planet base.planets.items has)
    of-planet Researches = tt
    of-planet Yard = All-contains (λ (p : Planet). RunsAfter base.moment (batches_of p)) base.planets.items planet sound.manned (has-place planet base.planets.items has)

none-due : (base : Base) → IsSound base → (event : Event) → Owes (view (setting_of base).cells (universe_of base).state (home event)) event → second_of event ≤ base.moment → ⊥
none-due base sound (item_due class item later) owes due =
    let past = first-runs _ base.moment item later owes (runs-at base item.cell class sound (queue-of base item.cell class item later owes)) in
    omega (arith, past, due)
none-due base sound (lands fleet) owes due =
    let among = from-filter (belongs (PlanetId (landing fleet))) fleet base.fleets owes.0 in
    let past = (each-fleet base fleet sound among.0).lands in
    omega (arith, past, due)
none-due base sound (fights raid) owes due =
    let among = from-filter (belongs (PlanetId raid.target)) owes.one base.fleets owes.flies in
    let past = (each-fleet base owes.one sound among.0).lands in
    let same : raid.second ≡ owes.one.second = ap (λ (r : Raid). r.second) owes.is in
    omega (arith, past, due, same)

pub sound-base : (base : Base) → IsSound base → IsBase (game (setting_of base)) (base_of (universe_of base))
sound-base base sound = record { fine = keeps-rules base sound; none = λ event owes inside due. none-due base sound event owes due }
