-- What comes of each request, by what is seen of the cells that it asks for. Rules: docs/RULES.md, "Requests".
use Rattle.std.specs.Prelude.{ℕ, ◌+◌, ◌==◌, List, [], ◌∷◌, ◌++◌, Bool, true, false, ◌&&◌, ◌||◌, Option, None, Some, length, slice_set, if◌then◌else◌}
use Rattle.std.specs.List.{list_any}
use Rattle.base_ids.specs.Cells.{same_cell, same_player}
use Rattle.base_ids.specs.declared.coord.Coord.{Coord}
use Rattle.base_ids.specs.declared.player.Player.{Player}
use Rattle.base_ids.specs.declared.system.System.{System}
use Rattle.base_ids.specs.declared.cell_id.CellId.{CellId}
use Rattle.base_ids.specs.declared.cell_id.CellId.TheVariants.{Account, Planet}
use Rattle.catalog.specs.Kinds.{place_in}
use Rattle.catalog.specs.declared.classes.TheConstants.{WORKS}
use Rattle.catalog.specs.declared.amounts.Amounts.{Amounts}
use Rattle.catalog.specs.declared.kind.Kind.{Kind}
use Rattle.catalog.specs.declared.mission.Mission.{Mission}
use Rattle.catalog.specs.declared.mission.Mission.TheVariants.{Attack}
use Rattle.request_text.specs.declared.request.Request.{Request}
use Rattle.request_text.specs.declared.request.Request.TheVariants.{Planet as PlanetOf, Account as AccountOf, Fleets, System as SystemOf, Build, Research, Yard as YardOf, Set, Send, Join, Recall}
use Rattle.reply_text.specs.FleetLines.{at_line}
use Rattle.reply_text.specs.OrderLines.{arrives_line, back_line, starts_line, waits_line}
use Rattle.tick_model.specs.declared.codes.TheConstants.{NO_PLAYER, NO_PLANET, NO_FLEET, NOT_OUTBOUND, NOT_YOURS}
use Rattle.tick_model.specs.declared.rules.Rules.{Rules}
use Rattle.tick_model.specs.Buildings.{pays, started}
use Rattle.tick_model.specs.Changes.{Change, new_fleet, new_owns, new_queue, no_change, owns, put_own, sends_fleet}
use Rattle.tick_model.specs.Flights.{recalled_at, turned}
use Rattle.tick_model.specs.Lines.{account_text, fleet_lines, own_fleets, planet_text}
use Rattle.tick_model.specs.Raids.{companions, raiders}
use Rattle.tick_model.specs.Refusals.{build_refusal, research_refusal, yard_refusal}
use Rattle.tick_model.specs.Researches.{pays_research, started_research}
use Rattle.tick_model.specs.Sending.{Errand, arrival_of, belongs_out, departed, fleet_of, fuel_of, join_refusal, launched, send_refusal, with_group}
use Rattle.tick_model.specs.Universe.{Own, of_nothing, of_account, of_planet, AccountFields, QueueClass, Buildings, Researches, Yard, Fleet, Item, PlanetFields}
use Rattle.tick_model.specs.Views.{View}
use Rattle.tick_model.specs.Yards.{begun, pays_batch}

-- whether a cell is there at all
abbrev pub is_there : Own → Bool
is_there of_nothing = false
is_there (of_account account) = true
is_there (of_planet planet) = true

-- a planet of a system
abbrev pub in_system : System → CellId → Bool
in_system system (Planet at) = at.g == system.g && at.s == system.s
in_system system (Account player) = false

-- The cells that a request names: the places, the planets of a system, or the cells of the caller's fleet that flies out, by what is
-- seen of the caller's account.
abbrev pub names : (CellId → View) → Player → Request → CellId → Bool
names seen player (PlanetOf at) cell = same_cell (Planet at) cell
names seen player (SystemOf system) cell = in_system system cell
names seen player (Build at building) cell = same_cell (Planet at) cell
names seen player (Research at technology) cell = same_cell (Planet at) cell
names seen player (YardOf at unit count) cell = same_cell (Planet at) cell
names seen player (Set at work tenths) cell = same_cell (Planet at) cell
names seen player (Send from to mission setting ships cargo) cell = same_cell (Planet from) cell || same_cell (Planet to) cell
names seen player (Join fleet from to setting ships cargo) cell = same_cell (Planet from) cell || same_cell (Planet to) cell
names seen player (Recall fleet) cell = belongs_out cell (fleet_of player fleet.f (seen (Account player)).fleets)
names seen player AccountOf cell = false
names seen player Fleets cell = false

-- a cell is in a directory
abbrev pub is_listed : List CellId → CellId → Bool
is_listed cells cell = list_any (same_cell cell) cells

-- The cells that a request asks for, among those of the directory: the caller's account, and those that it names.
-- A caller whose account isn't in it asks for none.
abbrev pub asked : List CellId → (CellId → View) → Player → Request → CellId → Bool
asked cells seen player req cell =
    is_listed cells (Account player) && is_listed cells cell && (same_cell (Account player) cell || names seen player req cell)

-- what a request can go by: the rules, the directory, its own number and moment, and what is seen of the cells
pub record Sight : Type 0 where
  pub rules : Rules
  pub cells : List CellId
  pub number : ℕ
  pub moment : ℕ
  pub seen : CellId → View

-- what is answered: the code, which is 0 if the request is granted, and the lines
pub record Answer : Type 0 where
  pub code : ℕ
  pub body : List ℕ

-- what comes of a request
pub record Outcome : Type 0 where
  pub answer : Answer
  pub change : Change

-- it is refused, and changes nothing
abbrev pub refused : Sight → ℕ → Outcome
refused sight code = record { answer = record { code = code; body = [] }; change = no_change sight.seen }

-- it is granted
abbrev pub granted : List ℕ → Change → Outcome
granted body change = record { answer = record { code = 0; body = body }; change = change }

-- A request about the caller's own planet, by what the caller's account and the place have of their own. It is refused with 1 if
-- the caller is no player, 2 if no planet stands there, and 3 if that planet is somebody else's.
abbrev pub on_own : Sight → Player → Own → Own → (AccountFields → PlanetFields → Outcome) → Outcome
on_own sight player (of_account account) (of_planet planet) grant =
    if same_player planet.owner player then grant account planet else refused sight NOT_YOURS
on_own sight player (of_account account) of_nothing grant = refused sight NO_PLANET
on_own sight player (of_account account) (of_account other) grant = refused sight NO_PLANET
on_own sight player of_nothing there grant = refused sight NO_PLAYER
on_own sight player (of_planet planet) there grant = refused sight NO_PLAYER

-- A request about the caller's account alone, by what it has of its own. It is refused with 1 if the caller is no player.
abbrev pub on_account : Sight → Own → (AccountFields → Outcome) → Outcome
on_account sight (of_account account) grant = grant account
on_account sight of_nothing grant = refused sight NO_PLAYER
on_account sight (of_planet planet) grant = refused sight NO_PLAYER

-- a queue of a cell
abbrev pub queue_seen : Sight → CellId → QueueClass → List Item
queue_seen sight cell class = (sight.seen cell).queue class

-- a planet has this of its own, and all other cells are as they are
abbrev pub with_planet : Sight → Coord → PlanetFields → CellId → Own
with_planet sight at planet = put_own (Planet at) (of_planet planet) (owns sight.seen)

-- `planet C`: it is shown
abbrev pub shows : Sight → Coord → AccountFields → PlanetFields → Outcome
shows sight at account planet = granted (planet_text sight.rules.speed at planet (queue_seen sight (Planet at))) (no_change sight.seen)

-- `account`: it is shown
abbrev pub tells : Sight → Player → AccountFields → Outcome
tells sight player account = granted (account_text player account (sight.seen (Account player))) (no_change sight.seen)

-- an item that is ordered at a place: of a yard so many units, of other queues 0
abbrev pub ordered : Sight → CellId → QueueClass → Coord → Kind → ℕ → Item
ordered sight cell class at kind count =
    record { number = sight.number; cell = cell; class = class; kind = kind; place = at; level = 0; left = count; unit_seconds = 0; second = 0 }

-- what an order comes to: an item joins a queue
abbrev pub joins : (CellId → Own) → List ℕ → List Item → Item → Outcome
joins own body items item = granted body (new_queue own item.cell item.class (items ++ item ∷ []))

-- an item that joins these has this place in the queue, counted from 1
abbrev pub place_behind : List Item → ℕ
place_behind items = length items + 1

-- an order of a building in an empty queue is paid and starts at once; else it waits
abbrev pub queues : Sight → Coord → Kind → PlanetFields → List Item → Outcome
queues sight at kind planet [] =
    let item = started sight.rules.speed sight.moment planet (ordered sight (Planet at) Buildings at kind 0) in
    joins (with_planet sight at (pays planet kind)) (starts_line item.level item.second) [] item
queues sight at kind planet (first ∷ later) =
    joins (owns sight.seen) (waits_line (place_behind (first ∷ later))) (first ∷ later) (ordered sight (Planet at) Buildings at kind 0)

-- so does one of a technology, which the planet pays
abbrev pub queues_research : Sight → Player → Coord → Kind → AccountFields → PlanetFields → List Item → Outcome
queues_research sight player at kind account planet [] =
    let item = started_research sight.rules.speed sight.moment account planet (ordered sight (Account player) Researches at kind 0) in
    joins (with_planet sight at (pays_research account planet kind)) (starts_line item.level item.second) [] item
queues_research sight player at kind account planet (first ∷ later) =
    joins (owns sight.seen) (waits_line (place_behind (first ∷ later))) (first ∷ later) (ordered sight (Account player) Researches at kind 0)

-- A batch is paid when it is ordered. In an empty yard it is the first at once; else it waits.
abbrev pub queues_batch : Sight → Coord → Kind → ℕ → PlanetFields → List Item → Outcome
queues_batch sight at kind count planet [] =
    let batch = begun sight.rules.speed sight.moment planet (ordered sight (Planet at) Yard at kind count) in
    joins (with_planet sight at (pays_batch planet kind count)) (starts_line count batch.second) [] batch
queues_batch sight at kind count planet (first ∷ later) =
    joins (with_planet sight at (pays_batch planet kind count)) (waits_line (place_behind (first ∷ later))) (first ∷ later)
    (ordered sight (Planet at) Yard at kind count)

-- what is ordered is refused with a code above 0, and else granted
abbrev pub unless : Sight → ℕ → Outcome → Outcome
unless sight code grant = if code == 0 then grant else refused sight code

-- `build C BUILDING`
abbrev pub builds : Sight → Coord → Kind → AccountFields → PlanetFields → Outcome
builds sight at kind account planet =
    let items = queue_seen sight (Planet at) Buildings in
    unless sight (build_refusal account planet items kind) (queues sight at kind planet items)

-- `research C TECH`
abbrev pub researches : Sight → Player → Coord → Kind → AccountFields → PlanetFields → Outcome
researches sight player at kind account planet =
    let items = queue_seen sight (Account player) Researches in
    unless sight (research_refusal sight.rules.speed account planet items kind) (queues_research sight player at kind account planet items)

-- `yard C UNIT COUNT`
abbrev pub yards : Sight → Player → Coord → Kind → ℕ → AccountFields → PlanetFields → Outcome
yards sight player at kind count account planet =
    let batches = queue_seen sight (Planet at) Yard in
    unless sight (yard_refusal account (sight.seen (Account player)).units planet batches kind count) (queues_batch sight at kind count planet batches)

-- `set C WORK TENTHS`
abbrev pub sets : Sight → Coord → Kind → ℕ → AccountFields → PlanetFields → Outcome
sets sight at kind tenths account planet =
    granted [] (new_owns (with_planet sight at (record planet { tenths = slice_set planet.tenths (place_in WORKS kind) tenths })))

-- `fleets`: the caller's fleets are shown
abbrev pub tells_fleets : Sight → Player → AccountFields → Outcome
tells_fleets sight player account = granted (fleet_lines (own_fleets player (sight.seen (Account player)).fleets)) (no_change sight.seen)

-- the line of a planet that a system has at a cell
abbrev pub at_line_of : CellId → Own → List ℕ
at_line_of (Planet at) (of_planet planet) = at_line at planet.owner planet.debris.metal planet.debris.crystal
at_line_of _ own = []

-- a line for each planet of a system, in the order of the directory
abbrev pub system_lines : System → (CellId → View) → List CellId → List ℕ
system_lines system seen [] = []
system_lines system seen (cell ∷ later) =
    (if in_system system cell then at_line_of cell (seen cell).own else []) ++ system_lines system seen later

-- `system G:S`: its planets are shown
abbrev pub tells_system : Sight → System → AccountFields → Outcome
tells_system sight system account = granted (system_lines system sight.seen sight.cells) (no_change sight.seen)

-- what the caller's account and a place have of their own
abbrev pub own_seen : Sight → CellId → Own
own_seen sight cell = (sight.seen cell).own

-- whose a target is
abbrev pub owner_there : Player → Own → Player
owner_there player (of_planet planet) = planet.owner
owner_there player _ = player

-- a fleet leaves: the origin has paid and is without its ships
abbrev pub sends : Sight → Player → Errand → AccountFields → PlanetFields → Outcome
sends sight player errand account planet =
    let fleet = launched sight.rules.speed sight.number sight.moment player account (owner_there player (own_seen sight (Planet errand.to))) errand in
    granted (arrives_line fleet.second (fuel_of account errand))
    (sends_fleet (with_planet sight errand.from (departed account planet errand)) fleet)

-- `send A B MISSION SETTING SHIPS CARGO`
abbrev pub sends_on : Sight → Player → Errand → AccountFields → PlanetFields → Outcome
sends_on sight player errand account planet =
    let fleets = length (own_fleets player (sight.seen (Account player)).fleets) in
    unless sight (send_refusal player account fleets planet (own_seen sight (Planet errand.to)) errand) (sends sight player errand account planet)

-- the fleets that fly to a place in a group, as the place shows them
abbrev pub companions_seen : Sight → Coord → ℕ → List Fleet
companions_seen sight at group = companions at group (sight.seen (Planet at)).fleets

abbrev pub raiders_seen : Sight → Coord → ℕ → List Fleet
raiders_seen sight at group = raiders at group (sight.seen (Planet at)).fleets

-- a fleet joins a raid: it leaves as any other, and arrives with the raid
abbrev pub joins_raid : Sight → Player → ℕ → Errand → AccountFields → PlanetFields → Outcome
joins_raid sight player group errand account planet =
    let second = arrival_of (raiders_seen sight errand.to group) in
    let fleet = launched sight.rules.speed sight.number sight.moment player account (owner_there player (own_seen sight (Planet errand.to))) errand in
    granted (arrives_line second (fuel_of account errand))
    (sends_fleet (with_planet sight errand.from (departed account planet errand)) (with_group group second fleet))

-- `join GROUP A B SETTING SHIPS CARGO`
abbrev pub joins_on : Sight → Player → ℕ → Errand → AccountFields → PlanetFields → Outcome
joins_on sight player group errand account planet =
    let fleets = length (own_fleets player (sight.seen (Account player)).fleets) in
    let raid = raiders_seen sight errand.to group in
    let companions = length (companions_seen sight errand.to group) in
    unless sight (join_refusal sight.rules.speed sight.moment player account fleets planet (own_seen sight (Planet errand.to)) errand raid companions)
    (joins_raid sight player group errand account planet)

-- `recall F`: the caller's fleet turns back, with what it has. It is refused with 13 if the caller has no such fleet, and 14 if it
-- is on its way back.
abbrev pub recalls : Sight → ℕ → Option Fleet → Outcome
recalls sight number None = refused sight NO_FLEET
recalls sight number (Some fleet) =
    if fleet.outbound
    then granted (back_line (recalled_at fleet sight.moment))
    (new_fleet (owns sight.seen) number (λ flown. Some (turned flown (recalled_at flown sight.moment) flown.cargo)))
    else refused sight NOT_OUTBOUND

abbrev pub recalls_own : Sight → Player → ℕ → AccountFields → Outcome
recalls_own sight player number account = recalls sight number (fleet_of player number (sight.seen (Account player)).fleets)

-- what comes of a request about the caller's own planet at a place
abbrev pub at_own : Sight → Player → Coord → (AccountFields → PlanetFields → Outcome) → Outcome
at_own sight player at grant = on_own sight player (own_seen sight (Account player)) (own_seen sight (Planet at)) grant

-- the errand that a request sends a fleet on
abbrev pub errand_of : Coord → Coord → Mission → ℕ → List ℕ → Amounts → Errand
errand_of from to mission setting ships cargo =
    record {
      from = from;
      to = to;
      mission = mission;
      setting = setting;
      ships = ships;
      cargo = record { metal = cargo.m; crystal = cargo.c; deuterium = cargo.d };
    }

-- what comes of a request
abbrev pub outcome : Sight → Player → Request → Outcome
outcome sight player (PlanetOf at) = at_own sight player at (shows sight at)
outcome sight player AccountOf = on_account sight (own_seen sight (Account player)) (tells sight player)
outcome sight player (Build at building) = at_own sight player at (builds sight at building.kind)
outcome sight player (Research at technology) = at_own sight player at (researches sight player at technology.kind)
outcome sight player (YardOf at unit count) = at_own sight player at (yards sight player at unit.kind count.n)
outcome sight player (Set at work tenths) = at_own sight player at (sets sight at work.kind tenths.n)
outcome sight player Fleets = on_account sight (own_seen sight (Account player)) (tells_fleets sight player)
outcome sight player (SystemOf system) = on_account sight (own_seen sight (Account player)) (tells_system sight system)
outcome sight player (Send from to mission setting ships cargo) =
    at_own sight player from (sends_on sight player (errand_of from to mission setting.p ships.n cargo))
outcome sight player (Recall fleet) = on_account sight (own_seen sight (Account player)) (recalls_own sight player fleet.f)
outcome sight player (Join group from to setting ships cargo) =
    at_own sight player from (joins_on sight player group.f (errand_of from to Attack setting.p ships.n cargo))
