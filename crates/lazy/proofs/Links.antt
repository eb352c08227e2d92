-- The links of fleets, and the text of a cell that has fleets.
use Rattle.std.proofs.Common.{◌≡◌, ℕ, ◌+◌, ◌<◌, Bool, true, false, not, cond, List, [], ◌∷◌, ◌++◌, map, length, get_or, drop, append_assoc, append-nil, Some, refl, ap, ◌∙◌, sym}
use Rattle.std.proofs.lemmas.List.{drop_more}
use Rattle.std.specs.Prelude.{OnOk}
use Rattle.std.specs.declared.result.Result.{Result}
use Rattle.std.specs.declared.result.Result.TheVariants.{Ok, Err}
use Rattle.account_cell.specs.Account.{account_fields}
use Rattle.base_ids.specs.Cells.{same_player}
use Rattle.base_ids.specs.declared.cell_id.CellId.TheVariants.{Account, Planet}
use Rattle.base_ids.specs.declared.player.Player.{Player}
use Rattle.fleet_rec.specs.Fleet.{fleet_seen}
use Rattle.fleet_rec.specs.declared.fleet.Fleet.{Fleet}
use Rattle.happenings.specs.Held.{account_stand, planet_stand}
use Rattle.happenings.specs.declared.held.AccountCell.{AccountCell}
use Rattle.happenings.specs.declared.held.PlanetCell.{PlanetCell}
use Rattle.orders.specs.Acting.{account_seen}
use Rattle.planet_cell.specs.Planet.{fields_of, queue_of}
use Rattle.tick_model.specs.Dump.{cell_line, link_line, link_lines, other_fleets}
use Rattle.tick_model.specs.Lines.{account_text, fleet_lines, own_fleets, planet_text}
use Rattle.tick_model.specs.Universe.{Fleet as FleetSeen, Setting}
use Rattle.tick_model.specs.declared.rules.Rules.{Rules}
use Rattle.lazy.specs.Dumping.{stand_text}

-- after one line more, the lines of the rest make the same text
next_line : {X : Type 0} (line : X → List ℕ) (lines : List X → List ℕ) → ((x : X) (xs : List X) → lines (x ∷ xs) ≡ line x ++ lines xs)
    → (xs : List X) (place : ℕ) (body next : List ℕ) (x : X) → place < length xs → x ≡ get_or xs place x → next ≡ body ++ line x
    → next ++ lines (drop (place + 1) xs) ≡ body ++ lines (drop place xs)
next_line line lines more xs place body next x within here written =
    ap (λ (t : List ℕ). t ++ lines (drop (place + 1) xs)) written
    ∙ append_assoc body (line x) (lines (drop (place + 1) xs))
    ∙ ap (λ (t : List ℕ). body ++ t)
    (sym (more x (drop (place + 1) xs)) ∙ ap (λ y. lines (y ∷ drop (place + 1) xs)) here ∙ ap lines (sym (drop_more xs place x within)))

pub next_link : (xs : List Fleet) (place : ℕ) (body next : List ℕ) (x : Fleet) → place < length xs → x ≡ get_or xs place x → next ≡ body ++ link_line (fleet_seen x)
    → next ++ link_lines (map fleet_seen (drop (place + 1) xs)) ≡ body ++ link_lines (map fleet_seen (drop place xs))
next_link = next_line (λ (x : Fleet). link_line (fleet_seen x)) (λ (xs : List Fleet). link_lines (map fleet_seen xs)) (λ x xs. refl)

other_first : (own : Bool) (first : FleetSeen) (later : List FleetSeen)
    → link_lines (cond (not own) (first ∷ later) later) ≡ link_lines (cond (not own) (first ∷ []) []) ++ link_lines later
other_first true first later = refl
other_first false first later = ap (λ (t : List ℕ). t ++ link_lines later) (sym (append-nil (link_line first)))

pub next_other : (player : Player) (xs : List Fleet) (place : ℕ) (body next : List ℕ) (x : Fleet) → place < length xs → x ≡ get_or xs place x
    → next ≡ body ++ link_lines (other_fleets player (fleet_seen x ∷ []))
    → next ++ link_lines (other_fleets player (map fleet_seen (drop (place + 1) xs))) ≡ body ++ link_lines (other_fleets player (map fleet_seen (drop place xs)))
next_other player =
    next_line (λ (x : Fleet). link_lines (other_fleets player (fleet_seen x ∷ []))) (λ (xs : List Fleet). link_lines (other_fleets player (map fleet_seen xs)))
    (λ x xs. other_first (same_player x.owner player) (fleet_seen x) (other_fleets player (map fleet_seen xs)))

-- a planet that is held has its lines, and a link for each of its fleets
pub planet-there : (setting : Setting) (rules : Rules) (cell : PlanetCell) (old named told new : List ℕ) → setting.rules ≡ rules → named ≡ old ++ cell_line (Planet cell.planet.at) cell.second
    → told ≡ named ++ planet_text rules.speed cell.planet.at (fields_of cell.planet) (queue_of cell.planet) → new ≡ told ++ link_lines cell.fleets
    → new ≡ old ++ stand_text setting (Planet cell.planet.at) (Some (planet_stand cell))
planet-there setting rules cell old named told new same name tells links =
    let head = cell_line (Planet cell.planet.at) cell.second in
    let text = planet_text rules.speed cell.planet.at (fields_of cell.planet) (queue_of cell.planet) in
    links ∙ (λ i. tells i ++ link_lines cell.fleets) ∙ (λ i. (name i ++ text) ++ link_lines cell.fleets) ∙ ap (λ t. t ++ link_lines cell.fleets) (append_assoc old head text)
    ∙ append_assoc old (head ++ text) (link_lines cell.fleets) ∙ ap (λ t. old ++ t) (append_assoc head text (link_lines cell.fleets))
    ∙ (λ i. old ++ (head ++ (planet_text (sym same i).speed cell.planet.at (fields_of cell.planet) (queue_of cell.planet) ++ link_lines cell.fleets)))

-- an account that is held has its lines and those of its own fleets, and a link for each other fleet
pub account-there : (setting : Setting) (cell : AccountCell) (old named told owns new : List ℕ) → named ≡ old ++ cell_line (Account cell.account.player) cell.second
    → told ≡ named ++ account_text cell.account.player (account_fields cell.account) (account_seen (Some cell.account) cell.fleets)
    → owns ≡ told ++ fleet_lines (own_fleets cell.account.player cell.fleets) → new ≡ owns ++ link_lines (other_fleets cell.account.player cell.fleets)
    → new ≡ old ++ stand_text setting (Account cell.account.player) (Some (account_stand cell))
account-there setting cell old named told owns new name tells own links =
    let head = cell_line (Account cell.account.player) cell.second in
    let text = account_text cell.account.player (account_fields cell.account) (account_seen (Some cell.account) cell.fleets) in
    let mine = fleet_lines (own_fleets cell.account.player cell.fleets) in
    let others = link_lines (other_fleets cell.account.player cell.fleets) in
    links ∙ (λ i. own i ++ others) ∙ (λ i. (tells i ++ mine) ++ others) ∙ (λ i. ((name i ++ text) ++ mine) ++ others) ∙ append_assoc ((old ++ head) ++ text) mine others
    ∙ append_assoc (old ++ head) text (mine ++ others) ∙ append_assoc old head (text ++ (mine ++ others))
    ∙ ap (λ t. old ++ (head ++ t)) (sym (append_assoc text mine others))

pub done_map : {T E : Type 0} (r : Result T E) (P Q : Type 0) → (P → Q) → OnOk r P → OnOk r Q
done_map (Ok x) P Q f is = f is
done_map (Err e) P Q f is = tt
