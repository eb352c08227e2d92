-- What each cell of a base has of its own.
use Rattle.std.proofs.Common.{◌≡◌, true, false, List, Option, None, Some, refl, ap, subst}
use Rattle.std.specs.Prelude.{find, map}
use Rattle.std.specs.List.{Contains}
use Rattle.std.proofs.lemmas.List.Elements.{Contains-append_left, Contains-append_right}
use Rattle.account_cell.specs.declared.account.Account.{Account}
use Rattle.base_bytes.specs.Base.{cells_of, own_account, own_of, own_planet}
use Rattle.base_bytes.specs.Sound.{IsSound}
use Rattle.base_bytes.specs.declared.base.Base.{Base}
use Rattle.base_bytes.proofs.Among.{finds, has-place, in-map, is-found, name-once}
use Rattle.base_ids.proofs.Ordering.{coords_ordered, players_ordered}
use Rattle.base_ids.specs.Cells.{same_coord, same_player}
use Rattle.base_ids.specs.Order.{coord_before, player_before}
use Rattle.base_ids.specs.declared.cell_id.CellId.{CellId}
use Rattle.base_ids.specs.declared.cell_id.CellId.TheVariants.{Account as AccountId, Planet as PlanetId}
use Rattle.base_ids.specs.declared.coord.Coord.{Coord}
use Rattle.base_ids.specs.declared.player.Player.{Player}
use Rattle.planet_cell.specs.Planet.{fields_of}
use Rattle.planet_cell.specs.declared.planet.Planet.{Planet}
use Rattle.tick_model.proofs.Lists.{cell-from, cell-is, fails}
use Rattle.tick_model.specs.Requests.{is_there}
use Rattle.tick_model.specs.Rules.{IsIn}
use Rattle.tick_model.specs.Universe.{Own, of_nothing, of_account, of_planet, Item, PlanetFields}
use Rattle.tick_model.specs.Views.{holding}

player_of : CellId → Player → Player
player_of (AccountId player) other = player
player_of (PlanetId at) other = other

place_of : CellId → Coord → Coord
place_of (AccountId player) other = other
place_of (PlanetId at) other = at

-- players that are the same are one
pub player-one : (a b : Player) → same_player a b ≡ true → a ≡ b
unfolding player_of
player-one a b same = ap (λ cell. player_of cell a) (cell-is (AccountId a) (AccountId b) same)

-- places that are the same are one
pub place-one : (a b : Coord) → same_coord a b ≡ true → a ≡ b
unfolding place_of
place-one a b same = ap (λ cell. place_of cell a) (cell-is (PlanetId a) (PlanetId b) same)

pub player-same : (a b : Player) → a ≡ b → same_player a b ≡ true
player-same a b same = cell-from (AccountId a) (AccountId b) (ap AccountId same)

pub place-same : (a b : Coord) → a ≡ b → same_coord a b ≡ true
place-same a b same = cell-from (PlanetId a) (PlanetId b) (ap PlanetId same)

-- an account is found by its player
pub account-found : (base : Base) (account : Account) → IsSound base → IsIn account base.accounts.items
    → find (λ (other : Account). same_player other.player account.player) base.accounts.items ≡ Some account
account-found base account sound is =
    finds (λ (other : Account). same_player other.player account.player) account base.accounts.items is (player-same account.player account.player refl)
    (λ other has same.
    name-once (λ (x : Account). x.player) player_before players_ordered.never_itself other account base.accounts.items sound.accounts_rise has is (player-one other.player account.player same))

-- a planet is found by its place
pub planet-found : (base : Base) (planet : Planet) → IsSound base → IsIn planet base.planets.items
    → find (λ (other : Planet). same_coord other.at planet.at) base.planets.items ≡ Some planet
planet-found base planet sound is =
    finds (λ (other : Planet). same_coord other.at planet.at) planet base.planets.items is (place-same planet.at planet.at refl)
    (λ other has same.
    name-once (λ (x : Planet). x.at) coord_before coords_ordered.never_itself other planet base.planets.items sound.planets_rise has is (place-one other.at planet.at same))

-- an account is in the directory
pub account-listed : (accounts : List Account) (planets : List Planet) (account : Account) → IsIn account accounts → Contains (cells_of accounts planets) (AccountId account.player)
account-listed accounts planets account is =
    Contains-append_left (map (λ (a : Account). AccountId a.player) accounts) (map (λ (p : Planet). PlanetId p.at) planets) (AccountId account.player)
    (has-place (AccountId account.player) (map (λ (a : Account). AccountId a.player) accounts) (in-map (λ (a : Account). AccountId a.player) account accounts is))

-- so is a planet
pub planet-listed : (accounts : List Account) (planets : List Planet) (planet : Planet) → IsIn planet planets → Contains (cells_of accounts planets) (PlanetId planet.at)
planet-listed accounts planets planet is =
    Contains-append_right (map (λ (a : Account). AccountId a.player) accounts) (map (λ (p : Planet). PlanetId p.at) planets) (PlanetId planet.at)
    (has-place (PlanetId planet.at) (map (λ (p : Planet). PlanetId p.at) planets) (in-map (λ (p : Planet). PlanetId p.at) planet planets is))

account-comes : (found : Option Account) → is_there (own_account found) ≡ true → (account : Account) × (found ≡ Some account)
account-comes None there = absurd cc
account-comes (Some account) there = (account, refl)

planet-comes : (found : Option Planet) → is_there (own_planet found) ≡ true → (planet : Planet) × (found ≡ Some planet)
planet-comes None there = absurd cc
planet-comes (Some planet) there = (planet, refl)

-- a cell that is there is in the directory
pub there-listed : (accounts : List Account) (planets : List Planet) (cell : CellId) → is_there (own_of accounts planets cell) ≡ true → Contains (cells_of accounts planets) cell
there-listed accounts planets (AccountId player) there =
    let comes = account-comes (find (λ account. same_player account.player player) accounts) there in
    let found = is-found (λ (account : Account). same_player account.player player) comes.0 accounts comes.1 in
    subst (λ (k : Player). Contains (cells_of accounts planets) (AccountId k)) (player-one comes.0.player player found.1) (account-listed accounts planets comes.0 found.0)
there-listed accounts planets (PlanetId at) there =
    let comes = planet-comes (find (λ planet. same_coord planet.at at) planets) there in
    let found = is-found (λ (planet : Planet). same_coord planet.at at) comes.0 planets comes.1 in
    subst (λ (place : Coord). Contains (cells_of accounts planets) (PlanetId place)) (place-one comes.0.at at found.1) (planet-listed accounts planets comes.0 found.0)

-- an account holds no planet's units
pub no-holding : (found : Option Account) (batches : List Item) → holding (own_account found) batches ≡ None
no-holding None batches = refl
no-holding (Some account) batches = refl

fields-come : (found : Option Planet) (fields : PlanetFields) → own_planet found ≡ of_planet fields → (planet : Planet) × (found ≡ Some planet) × (fields_of planet ≡ fields)
fields-come None fields same = absurd cc
fields-come (Some planet) fields same = (planet, refl, (cc))

no-fields : (found : Option Account) (fields : PlanetFields) → own_account found ≡ of_planet fields → ⊥
no-fields None fields same = absurd cc
no-fields (Some account) fields same = absurd cc

-- a cell that has a planet's fields is a planet
pub planet-come : (accounts : List Account) (planets : List Planet) (cell : CellId) (fields : PlanetFields) → own_of accounts planets cell ≡ of_planet fields → (planet : Planet) × IsIn planet planets × (fields_of planet ≡ fields)
planet-come accounts planets (AccountId player) fields same = absurd (no-fields (find (λ account. same_player account.player player) accounts) fields same)
planet-come accounts planets (PlanetId at) fields same =
    let comes = fields-come (find (λ planet. same_coord planet.at at) planets) fields same in
    (comes.0, (is-found (λ (planet : Planet). same_coord planet.at at) comes.0 planets comes.1).0, comes.2)

nothing-there : (own : Own) → is_there own ≡ false → own ≡ of_nothing
nothing-there of_nothing none = refl
nothing-there (of_account account) none = absurd cc
nothing-there (of_planet planet) none = absurd cc

-- a cell that isn't in the directory has nothing
pub nothing-own : (accounts : List Account) (planets : List Planet) (cell : CellId) → (Contains (cells_of accounts planets) cell → ⊥) → own_of accounts planets cell ≡ of_nothing
nothing-own accounts planets cell unlisted =
    nothing-there (own_of accounts planets cell) (fails (is_there (own_of accounts planets cell)) (λ there. unlisted (there-listed accounts planets cell there)))
