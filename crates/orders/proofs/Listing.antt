-- Lines that are written one for each element of a list.
use Rattle.std.proofs.Common.{◌≡◌, ℕ, ◌+◌, ◌<◌, Bool, true, false, cond, List, [], ◌∷◌, ◌++◌, map, length, get_or, drop, refl, ap, sym, ◌∙◌, append_assoc}
use Rattle.std.proofs.lemmas.List.{drop_more}
use Rattle.account_cell.specs.Account.{research_item}
use Rattle.account_cell.specs.declared.research_item.ResearchItem.{ResearchItem}
use Rattle.base_ids.specs.Cells.{same_player}
use Rattle.base_ids.specs.declared.coord.Coord.{Coord}
use Rattle.base_ids.specs.declared.player.Player.{Player}
use Rattle.planet_cell.specs.Planet.{batch_item_of, item_of}
use Rattle.planet_cell.specs.declared.batch.Batch.{Batch}
use Rattle.planet_cell.specs.declared.building_item.BuildingItem.{BuildingItem}
use Rattle.fleet_rec.specs.Fleet.{fleet_seen}
use Rattle.fleet_rec.specs.declared.fleet.Fleet.{Fleet as FleetRecord}
use Rattle.orders.specs.Acting.{own_line, system_text}
use Rattle.orders.specs.declared.parts.SystemPlanet.{SystemPlanet}
use Rattle.reply_text.specs.AccountLines.{own_planet_line}
use Rattle.reply_text.specs.FleetLines.{at_line, fleet_line}
use Rattle.reply_text.specs.QueueLines.{waiting_building_line, waiting_research_line, yard_waiting_line}
use Rattle.tick_model.specs.Lines.{fleet_lines, flight_of, own_fleets, own_planet_lines, waiting_lines}
use Rattle.tick_model.specs.Universe.{Buildings, Fleet, Researches, Yard}

-- after one line more, the lines of the rest make the same text
next_line : {X : Type 0} (line : X → List ℕ) (lines : List X → List ℕ) → ((x : X) (xs : List X) → lines (x ∷ xs) ≡ line x ++ lines xs)
    → (xs : List X) (place : ℕ) (body next : List ℕ) (x : X) → place < length xs → x ≡ get_or xs place x → next ≡ body ++ line x
    → next ++ lines (drop (place + 1) xs) ≡ body ++ lines (drop place xs)
next_line line lines more xs place body next x within here written =
    ap (λ (t : List ℕ). t ++ lines (drop (place + 1) xs)) written
    ∙ append_assoc body (line x) (lines (drop (place + 1) xs))
    ∙ ap (λ (t : List ℕ). body ++ t)
    (sym (more x (drop (place + 1) xs)) ∙ ap (λ y. lines (y ∷ drop (place + 1) xs)) here ∙ ap lines (sym (drop_more xs place x within)))

pub next_planet : (xs : List Coord) (place : ℕ) (body next : List ℕ) (x : Coord) → place < length xs → x ≡ get_or xs place x → next ≡ body ++ own_planet_line x
    → next ++ own_planet_lines (drop (place + 1) xs) ≡ body ++ own_planet_lines (drop place xs)
next_planet = next_line own_planet_line own_planet_lines (λ x xs. refl)

pub next_system_planet : (xs : List SystemPlanet) (place : ℕ) (body next : List ℕ) (x : SystemPlanet) → place < length xs → x ≡ get_or xs place x
    → next ≡ body ++ at_line x.at x.owner x.debris.metal x.debris.crystal → next ++ system_text (drop (place + 1) xs) ≡ body ++ system_text (drop place xs)
next_system_planet = next_line (λ (x : SystemPlanet). at_line x.at x.owner x.debris.metal x.debris.crystal) system_text (λ x xs. refl)

pub next_building : (xs : List BuildingItem) (place : ℕ) (body next : List ℕ) (x : BuildingItem) (at : Coord) → place < length xs → x ≡ get_or xs place x → next ≡ body ++ waiting_building_line x.number x.kind.kind
    → next ++ waiting_lines Buildings (map (item_of at) (drop (place + 1) xs)) ≡ body ++ waiting_lines Buildings (map (item_of at) (drop place xs))
next_building xs place body next x at =
    next_line (λ y. waiting_building_line y.number y.kind.kind) (λ ys. waiting_lines Buildings (map (item_of at) ys)) (λ y ys. refl) xs place body next x

pub next_batch : (xs : List Batch) (place : ℕ) (body next : List ℕ) (x : Batch) (at : Coord) → place < length xs → x ≡ get_or xs place x → next ≡ body ++ yard_waiting_line x.number x.kind.kind x.left
    → next ++ waiting_lines Yard (map (batch_item_of at) (drop (place + 1) xs)) ≡ body ++ waiting_lines Yard (map (batch_item_of at) (drop place xs))
next_batch xs place body next x at =
    next_line (λ y. yard_waiting_line y.number y.kind.kind y.left) (λ ys. waiting_lines Yard (map (batch_item_of at) ys)) (λ y ys. refl) xs place body next x

pub next_research : (xs : List ResearchItem) (place : ℕ) (body next : List ℕ) (x : ResearchItem) (player : Player) → place < length xs → x ≡ get_or xs place x → next ≡ body ++ waiting_research_line x.number x.kind.kind x.at
    → next ++ waiting_lines Researches (map (research_item player) (drop (place + 1) xs)) ≡ body ++ waiting_lines Researches (map (research_item player) (drop place xs))
next_research xs place body next x player =
    next_line (λ y. waiting_research_line y.number y.kind.kind y.at) (λ ys. waiting_lines Researches (map (research_item player) ys)) (λ y ys. refl) xs place body next x

-- The lines of those of some fleets that are a player's.

own_first : (own : Bool) (first : Fleet) (later : List Fleet) → fleet_lines (cond own (first ∷ later) later) ≡ cond own (fleet_line (flight_of first)) [] ++ fleet_lines later
own_first true first later = refl
own_first false first later = refl

pub next_own : (player : Player) (xs : List FleetRecord) (place : ℕ) (body next : List ℕ) (x : FleetRecord) → place < length xs → x ≡ get_or xs place x → next ≡ body ++ own_line player (fleet_seen x)
    → next ++ fleet_lines (own_fleets player (map fleet_seen (drop (place + 1) xs))) ≡ body ++ fleet_lines (own_fleets player (map fleet_seen (drop place xs)))
next_own player xs place body next x =
    next_line (λ (y : FleetRecord). own_line player (fleet_seen y)) (λ (ys : List FleetRecord). fleet_lines (own_fleets player (map fleet_seen ys)))
    (λ y ys. own_first (same_player y.owner player) (fleet_seen y) (own_fleets player (map fleet_seen ys))) xs place body next x
