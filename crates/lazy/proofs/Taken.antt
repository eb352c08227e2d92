-- Parts that are taken from held cells.
use Rattle.std.proofs.Common.{◌≡◌, ℕ, ◌+◌, ◌<◌, Bool, List, [], ◌∷◌, ◌++◌, map, length, get_or, take, true, false, cond, refl, ap, ◌∙◌, sym, subst, Option, Some, None}
use Rattle.std.specs.Prelude.{IfSome, MatchOption, is_some, option_map}
use Rattle.std.specs.BTreeMap.{get}
use Rattle.std.specs.List.{cons_option, filter_map}
use Rattle.std.proofs.lemmas.List.{map-append, take_more}
use Rattle.std.proofs.lemmas.List.Elements.{filter_map-append}
use Rattle.account_cell.specs.Account.{AreSame as AreSameAccounts}
use Rattle.account_cell.specs.declared.account.Account.{Account as AccountOfProgram}
use Rattle.base_ids.specs.declared.cell_id.CellId.{CellId}
use Rattle.base_ids.specs.declared.cell_id.CellId.TheVariants.{Account, Planet}
use Rattle.base_ids.specs.declared.coord.Coord.{Coord}
use Rattle.base_ids.specs.declared.player.Player.{Player}
use Rattle.base_ids.specs.declared.system.System.{System}
use Rattle.closure.specs.Directory.{cells_of}
use Rattle.closure.specs.declared.places.Places.{Places}
use Rattle.closure.specs.declared.spot.Spot.{Spot}
use Rattle.happenings.proofs.Gains.{same_account, same_stand}
use Rattle.happenings.specs.Held.{IsNamed, account_stand, holds, planet_stand}
use Rattle.happenings.specs.Orders.{place_order, player_order}
use Rattle.happenings.specs.Queues.{seen_held, seen_of}
use Rattle.happenings.specs.declared.held.AccountCell.{AccountCell}
use Rattle.happenings.specs.declared.held.Held.{Held}
use Rattle.happenings.specs.declared.held.PlanetCell.{PlanetCell}
use Rattle.lazy.specs.Taking.{AreTaken, IsTaken, IsTakenOf, other_owner, planets_seen, seen_by}
use Rattle.orders.specs.Acting.{account_seen, from_place, planet_seen, system_named, to_place}
use Rattle.orders.specs.declared.parts.Parts.{Parts}
use Rattle.request_text.specs.declared.request.Request.{Request}
use Rattle.request_text.specs.declared.request.Request.TheVariants.{System as SystemOf}
use Rattle.orders.specs.declared.parts.SystemPlanet.{SystemPlanet}
use Rattle.planet_cell.specs.Planet.{AreSame}
use Rattle.planet_cell.specs.declared.planet.Planet.{Planet as PlanetOfProgram}
use Rattle.tick_model.specs.Universe.{Fleet}
use Rattle.tick_model.specs.Requests.{in_system}
use Rattle.tick_model.specs.Views.{View, nothing_seen}

-- a planet that is held is taken
pub planet_taken : (held : Held) (at : Coord) (cell : PlanetCell) (planet : PlanetOfProgram) (fleets : List Fleet) → IsNamed held → get place_order held.planets at ≡ Some cell
    → AreSame cell.planet planet → fleets ≡ cell.fleets → IsTaken (seen_held held (Planet at)) at (Some planet) fleets
planet_taken held at cell planet fleets named found same flown =
    let own = subst (λ (o : Option PlanetCell). IfSome o (λ c. c.planet.at ≡ at)) found (named.places at) in
    let copy : PlanetCell = record { second = cell.second; planet = planet; fleets = fleets } in
    record {
      place = sym same.at ∙ own;
      seen = ap (λ (o : Option PlanetCell). seen_of (option_map planet_stand o)) found ∙ ap (λ s. s.seen) (same_stand cell copy refl same (sym flown));
    }

pub planet_there : (held : Held) (name : Option Coord) (at : Coord) (cell : PlanetCell) (planet : PlanetOfProgram) (fleets : List Fleet) → IsNamed held → name ≡ Some at → get place_order held.planets at ≡ Some cell
    → AreSame cell.planet planet → fleets ≡ cell.fleets → MatchOption name (◌≡◌ {A = Option PlanetOfProgram} (Some planet) None) (λ x. IsTaken (seen_held held (Planet x)) x (Some planet) fleets)
planet_there held name at cell planet fleets named is found same flown =
    subst (λ (o : Option Coord). MatchOption o (◌≡◌ {A = Option PlanetOfProgram} (Some planet) None) (λ x. IsTaken (seen_held held (Planet x)) x (Some planet) fleets)) (sym is)
    (planet_taken held at cell planet fleets named found same flown)

-- so is an account
pub account_taken : (held : Held) (player : Player) (cell : AccountCell) (account : AccountOfProgram) (fleets : List Fleet) → IsNamed held → get player_order held.accounts player ≡ Some cell
    → AreSameAccounts cell.account account → fleets ≡ cell.fleets → IsTakenOf (seen_held held (Account player)) player (Some account) fleets
account_taken held player cell account fleets named found same flown =
    let own = subst (λ (o : Option AccountCell). IfSome o (λ c. c.account.player ≡ player)) found (named.players player) in
    let copy : AccountCell = record { second = cell.second; account = account; fleets = fleets } in
    record {
      whose = sym same.player ∙ own;
      seen = ap (λ (o : Option AccountCell). seen_of (option_map account_stand o)) found ∙ ap (λ s. s.seen) (same_account cell copy refl same (sym flown));
    }

pub account_there : (held : Held) (name : Option Player) (player : Player) (cell : AccountCell) (account : AccountOfProgram) (fleets : List Fleet) → IsNamed held → name ≡ Some player
    → get player_order held.accounts player ≡ Some cell → AreSameAccounts cell.account account → fleets ≡ cell.fleets
    → MatchOption name (◌≡◌ {A = Option AccountOfProgram} (Some account) None) (λ x. IsTakenOf (seen_held held (Account x)) x (Some account) fleets)
account_there held name player cell account fleets named is found same flown =
    subst (λ (o : Option Player). MatchOption o (◌≡◌ {A = Option AccountOfProgram} (Some account) None) (λ x. IsTakenOf (seen_held held (Account x)) x (Some account) fleets)) (sym is)
    (account_taken held player cell account fleets named found same flown)

-- the names of some planets
abbrev pub spots_named : List Spot → List CellId
spots_named spots = map (λ (spot : Spot). Planet spot.at) spots

-- what is seen of one planet more
pub next_spot : (system : System) (there : CellId → View) (xs : List Spot) (place : ℕ) (old new : List SystemPlanet) (x : Spot) → place < length xs → x ≡ get_or xs place x
    → old ≡ planets_seen system (spots_named (take place xs)) there → new ≡ old ++ planets_seen system (Planet x.at ∷ []) there → new ≡ planets_seen system (spots_named (take (place + 1) xs)) there
next_spot system there xs place old new x within here before more =
    let spots : take (place + 1) xs ≡ take place xs ++ x ∷ [] = take_more xs place x within ∙ ap (λ y. take place xs ++ y ∷ []) (sym here) in
    more ∙ ap (λ seen. seen ++ planets_seen system (Planet x.at ∷ []) there) before
    ∙ sym (filter_map-append _ (spots_named (take place xs)) (Planet x.at ∷ []))
    ∙ ap (λ cells. planets_seen system cells there) (sym (map-append (λ (spot : Spot). Planet spot.at) (take place xs) (x ∷ [])))
    ∙ ap (λ ys. planets_seen system (spots_named ys) there) (sym spots)

-- no account is a planet of a system
none-seen : (system : System) (there : CellId → View) (players : List Player) → planets_seen system (map Account players) there ≡ []
none-seen system there [] = refl
none-seen system there (player ∷ later) = none-seen system there later

pub all_spots : (system : System) (there : CellId → View) (places : Places) → planets_seen system (spots_named places.planets.items) there ≡ planets_seen system (cells_of places) there
all_spots system there places =
    ap (λ seen. seen ++ planets_seen system (spots_named places.planets.items) there) (sym (none-seen system there places.players.items))
    ∙ sym (filter_map-append _ (map Account places.players.items) (spots_named places.planets.items))

-- of a system whose planets are all seen
pub system_taken : (req : Request) (system : System) (there : CellId → View) (places : Places) (seen : List SystemPlanet) → req ≡ SystemOf system
    → seen ≡ planets_seen system (spots_named places.planets.items) there → IfSome (system_named req) (λ named. seen ≡ planets_seen named (cells_of places) there)
system_taken req system there places seen is all =
    subst (λ (r : Request). IfSome (system_named r) (λ named. seen ≡ planets_seen named (cells_of places) there)) (sym is) (all ∙ all_spots system there places)

-- Nothing is taken from nothing.

match_none : {A B : Type 0} (o : Option A) (found : Option B) (P : A → Type 0) → found ≡ None → ((x : A) → P x) → MatchOption o (found ≡ None) P
match_none None found P none all = none
match_none (Some x) found P none all = all x

no-planet : (at : Coord) (planet : Option PlanetOfProgram) (fleets : List Fleet) → planet ≡ None → IsTaken nothing_seen at planet fleets
no-planet at None fleets none = record { place = tt; seen = refl }
no-planet at (Some planet) fleets none = absurd cc

no-account : (player : Player) (account : Option AccountOfProgram) (fleets : List Fleet) → account ≡ None → IsTakenOf nothing_seen player account fleets
no-account player None fleets none = record { whose = tt; seen = refl }
no-account player (Some account) fleets none = absurd cc

skipped : (b : Bool) (rest : List SystemPlanet) → rest ≡ [] → cons_option (cond b None None) rest ≡ []
skipped true rest is = is
skipped false rest is = is

nothing-shown : (system : System) (cells : List CellId) → planets_seen system cells (λ cell. nothing_seen) ≡ []
nothing-shown system [] = refl
nothing-shown system (Account player ∷ later) = nothing-shown system later
nothing-shown system (Planet at ∷ later) = skipped (in_system system (Planet at)) (planets_seen system later (λ cell. nothing_seen)) (nothing-shown system later)

pub none_taken : (cells : List CellId) (player : Player) (req : Request) (parts : Parts) → parts.caller ≡ None → parts.from ≡ None → parts.to ≡ None → parts.to_owner ≡ None → parts.seen.items ≡ []
    → AreTaken cells (λ cell. nothing_seen) player req parts
none_taken cells player req parts caller from to owner seen = record {
  caller = no-account player parts.caller parts.fleets.caller caller;
  from = match_none (from_place player parts.fleets.caller req) parts.from _ from (λ at. no-planet at parts.from parts.fleets.from from);
  to = match_none (to_place player parts.fleets.caller req) parts.to _ to (λ at. no-planet at parts.to parts.fleets.to to);
  to_owner = match_none (other_owner player parts.to) parts.to_owner _ owner (λ k. no-account k parts.to_owner parts.fleets.to_owner owner);
  seen = all-none (system_named req);
}
  where
    all-none : (o : Option System) → IfSome o (λ system. parts.seen.items ≡ planets_seen system cells (λ cell. nothing_seen))
    all-none None = tt
    all-none (Some system) = seen ∙ sym (nothing-shown system cells)

-- what is seen if the caller's account isn't held, and if it is
pub unseen_taken : (held : Held) (cells : List CellId) (player : Player) (req : Request) (parts : Parts) → get player_order held.accounts player ≡ None
    → AreTaken cells (λ cell. nothing_seen) player req parts → AreTaken cells (seen_by held player) player req parts
unseen_taken held cells player req parts none taken =
    let out : holds held (Account player) ≡ false = ap (λ (o : Option AccountCell). is_some (option_map account_stand o)) none in
    subst (λ b. AreTaken cells (λ cell. cond b (seen_held held cell) nothing_seen) player req parts) (sym out) taken

pub seen_taken : (held : Held) (cells : List CellId) (player : Player) (req : Request) (parts : Parts) (cell : AccountCell) → get player_order held.accounts player ≡ Some cell
    → AreTaken cells (seen_held held) player req parts → AreTaken cells (seen_by held player) player req parts
seen_taken held cells player req parts cell found taken =
    let has : holds held (Account player) ≡ true = ap (λ (o : Option AccountCell). is_some (option_map account_stand o)) found in
    subst (λ b. AreTaken cells (λ x. cond b (seen_held held x) nothing_seen) player req parts) (sym has) taken
