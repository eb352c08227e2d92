-- Lists of fleets and the lists that are seen of them.
use Rattle.std.proofs.Common.{◌≡◌, ℕ, ◌+◌, ◌<◌, Bool, true, false, cond, ◌==◌, ◌&&◌, List, [], ◌∷◌, length, map, drop, get_or, arith, refl, ap, ◌∙◌, sym}
use Rattle.std.specs.Prelude.{count_by, nat_le, Some, sum_by}
use Rattle.std.proofs.lemmas.List.{drop_more}
use Rattle.std.proofs.lemmas.List.Sums.{sum_by-cons}
use Rattle.base_ids.specs.Cells.{same_cell, same_player}
use Rattle.base_ids.specs.declared.cell_id.CellId.TheVariants.{Planet}
use Rattle.base_ids.specs.declared.coord.Coord.{Coord}
use Rattle.base_ids.specs.declared.player.Player.{Player}
use Rattle.fleet_rec.specs.Fleet.{fleet_seen}
use Rattle.fleet_rec.specs.Fleets.{coming_by}
use Rattle.fleet_rec.specs.declared.fleet.Fleet.{Fleet}
use Rattle.tick_model.specs.Flights.{landing}
use Rattle.tick_model.specs.Lines.{own_fleets}
use Rattle.tick_model.specs.Sending.{fleet_of}
use Rattle.tick_model.specs.Views.{ships_of}
use Rattle.tick_model.specs.Universe.{Fleet as FleetInList}

counted : (own : Bool) (fleet : FleetInList) (fleets : List FleetInList) (n : ℕ) → length fleets ≡ n → length (cond own (fleet ∷ fleets) fleets) ≡ cond own 1 0 + n
counted true fleet fleets n is = omega arith
counted false fleet fleets n is = omega arith

-- a player's fleets are as many as those that are seen
pub own_count : (player : Player) (fleets : List Fleet) → length (own_fleets player (map fleet_seen fleets)) ≡ count_by (λ (fleet : Fleet). fleet.owner.k == player.k) fleets
own_count player [] = refl
own_count player (first ∷ later) =
    counted (same_player first.owner player) (fleet_seen first) (own_fleets player (map fleet_seen later)) _ (own_count player later)
    ∙ sym (sum_by-cons (λ (fleet : Fleet). cond (fleet.owner.k == player.k) 1 0) first later)

-- what is looked for from a place on
pub find_more : (player : Player) (number : ℕ) (fleets : List Fleet) (i : ℕ) (fleet : Fleet) → i < length fleets → fleet ≡ get_or fleets i fleet
    → fleet_of player number (map fleet_seen (drop i fleets))
    ≡ cond (fleet.number == number && same_player fleet.owner player) (Some (fleet_seen fleet)) (fleet_of player number (map fleet_seen (drop (i + 1) fleets)))
find_more player number fleets i fleet here is =
    ap (λ (xs : List Fleet). fleet_of player number (map fleet_seen xs)) (drop_more fleets i fleet here ∙ ap (λ (x : Fleet). x ∷ drop (i + 1) fleets) (sym is))

-- the ships of those from a place on
pub ships_more : (player : Player) (fleets : List Fleet) (i : ℕ) (fleet : Fleet) → i < length fleets → fleet ≡ get_or fleets i fleet
    → sum_by (ships_of player) (map fleet_seen (drop i fleets)) ≡ ships_of player (fleet_seen fleet) + sum_by (ships_of player) (map fleet_seen (drop (i + 1) fleets))
ships_more player fleets i fleet here is =
    ap (λ (xs : List Fleet). sum_by (ships_of player) (map fleet_seen xs)) (drop_more fleets i fleet here ∙ ap (λ (x : Fleet). x ∷ drop (i + 1) fleets) (sym is))
    ∙ sum_by-cons (ships_of player) (fleet_seen fleet) (map fleet_seen (drop (i + 1) fleets))

-- the fleets that come from a place of a list on
pub due_more : (at : Coord) (second : ℕ) (fleets : List Fleet) (i : ℕ) (fleet : Fleet) → i < length fleets → fleet ≡ get_or fleets i fleet
    → coming_by at second (map fleet_seen (drop i fleets))
    ≡ cond (same_cell (Planet (landing (fleet_seen fleet))) (Planet at) && nat_le fleet.second second) (fleet_seen fleet ∷ coming_by at second (map fleet_seen (drop (i + 1) fleets)))
    (coming_by at second (map fleet_seen (drop (i + 1) fleets)))
due_more at second fleets i fleet here is =
    ap (λ (xs : List Fleet). coming_by at second (map fleet_seen xs)) (drop_more fleets i fleet here ∙ ap (λ (x : Fleet). x ∷ drop (i + 1) fleets) (sym is))
