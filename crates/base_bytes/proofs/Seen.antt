-- What the universe of a base shows of each cell.
use Rattle.std.proofs.Math.Path.{fun_ext}
use Rattle.std.proofs.Common.{◌≡◌, ℕ, ◌+◌, ◌<◌, Bool, true, false, cond, List, [], ◌∷◌, ◌++◌, Option, None, Some, sum_by, inl, inr, arith, refl, ap, ◌∙◌, sym, subst}
use Rattle.std.specs.Prelude.{find, map, sum, AllPairs}
use Rattle.std.specs.List.{Contains, cons_option, filter_map}
use Rattle.std.proofs.lemmas.List.Elements.{All-contains, filter_map-append}
use Rattle.std.proofs.lemmas.List.Kept.{AllPairs-filter}
use Rattle.std.proofs.lemmas.List.Sums.{sum_by-append, sum_by-cons}
use Rattle.account_cell.specs.declared.account.Account.{Account}
use Rattle.base_bytes.specs.Base.{account_seen, fleets_of, own_account, own_planet, planet_seen, setting_of, universe_of}
use Rattle.base_bytes.specs.Sound.{places_owned, planets_owned, units_counted, units_owned, IsSound}
use Rattle.base_bytes.specs.declared.base.Base.{Base}
use Rattle.base_bytes.proofs.Among.{from-map, has-place, is-among}
use Rattle.base_bytes.proofs.Bases.{keeps-rules}
use Rattle.base_bytes.proofs.Queued.{account-queue, no-account-queue, no-planet-queue, planet-queue}
use Rattle.base_bytes.proofs.Owned.{account-found, account-listed, no-holding, nothing-own, planet-found, planet-listed, player-one}
use Rattle.base_ids.specs.Cells.{same_player}
use Rattle.base_ids.specs.declared.cell_id.CellId.{CellId}
use Rattle.base_ids.specs.declared.cell_id.CellId.TheVariants.{Account as AccountId, Planet as PlanetId}
use Rattle.base_ids.specs.declared.coord.Coord.{Coord}
use Rattle.base_ids.specs.declared.player.Player.{Player}
use Rattle.planet_cell.specs.declared.planet.Planet.{Planet}
use Rattle.tick_model.proofs.Brought.{fleet-listed}
use Rattle.tick_model.proofs.Lists.{fails, filter-none}
use Rattle.tick_model.specs.Rules.{IsIn}
use Rattle.tick_model.specs.Universe.{Fleet, Yard}
use Rattle.tick_model.specs.Views.{Holding, belongs, holding, holding_at, nothing_seen, place_held, planets_of, queue_in, ships_of, units_held, units_of, view}

-- The planets of a player, and their units.

-- what the directory counts of a planet
held-by : Planet → Holding
held-by planet = record { owner = planet.owner; units = units_counted planet }

place-at : (b : Bool) (at : Coord) (planet : Planet) (rest : List Coord) (kept : List Planet) → at ≡ planet.at → rest ≡ map (λ (p : Planet). p.at) kept
    → cons_option (cond b (Some at) None) rest ≡ map (λ (p : Planet). p.at) (cond b (planet ∷ kept) kept)
place-at true at planet rest kept same others = λ i. same i ∷ others i
place-at false at planet rest kept same others = others

places-counted : (player : Player) (held : CellId → Option Holding) (planets : List Planet) → ((planet : Planet) → IsIn planet planets → held (PlanetId planet.at) ≡ Some (held-by planet))
    → filter_map (λ cell. place_held player cell (held cell)) (map (λ planet. PlanetId planet.at) planets) ≡ map (λ planet. planet.at) (planets_owned player planets)
unfolding held-by
places-counted player held [] known = refl
places-counted player held (planet ∷ planets) known =
    let rest = places-counted player held planets (λ other is. known other (inr is)) in
    ap (λ (h : Option Holding). cons_option (place_held player (PlanetId planet.at) h) (filter_map (λ cell. place_held player cell (held cell)) (map (λ (p : Planet). PlanetId p.at) planets))) (known planet (inl refl))
    ∙ place-at (same_player planet.owner player) planet.at planet (filter_map (λ cell. place_held player cell (held cell)) (map (λ (p : Planet). PlanetId p.at) planets)) (planets_owned player planets) refl rest

no-places : (player : Player) (held : CellId → Option Holding) (accounts : List Account) → filter_map (λ cell. place_held player cell (held cell)) (map (λ account. AccountId account.player) accounts) ≡ []
no-places player held [] = refl
no-places player held (account ∷ accounts) = no-places player held accounts

units-at : (b : Bool) (units : ℕ) (planet : Planet) (kept : List Planet) → units ≡ units_counted planet
    → cond b units 0 + sum_by units_counted kept ≡ sum_by units_counted (cond b (planet ∷ kept) kept)
units-at true units planet kept same = ap (λ n. n + sum_by units_counted kept) same ∙ sym (sum_by-cons units_counted planet kept)
units-at false units planet kept same = omega arith

units-in : (player : Player) (held : CellId → Option Holding) (planets : List Planet) → ((planet : Planet) → IsIn planet planets → held (PlanetId planet.at) ≡ Some (held-by planet))
    → sum_by (λ cell. units_held player (held cell)) (map (λ planet. PlanetId planet.at) planets) ≡ sum_by units_counted (planets_owned player planets)
unfolding held-by
units-in player held [] known = refl
units-in player held (planet ∷ planets) known =
    let rest = units-in player held planets (λ other is. known other (inr is)) in
    let units = λ (cell : CellId). units_held player (held cell) in
    sum_by-cons units (PlanetId planet.at) (map (λ (p : Planet). PlanetId p.at) planets)
    ∙ (λ i. units_held player (known planet (inl refl) i) + rest i)
    ∙ units-at (same_player planet.owner player) (units_counted planet) planet (planets_owned player planets) refl

no-units : (player : Player) (held : CellId → Option Holding) (accounts : List Account) → ((account : Account) → IsIn account accounts → held (AccountId account.player) ≡ None)
    → sum_by (λ cell. units_held player (held cell)) (map (λ account. AccountId account.player) accounts) ≡ 0
no-units player held [] none = refl
no-units player held (account ∷ accounts) none =
    let rest = no-units player held accounts (λ other is. none other (inr is)) in
    let units = λ (cell : CellId). units_held player (held cell) in
    sum_by-cons units (AccountId account.player) (map (λ (a : Account). AccountId a.player) accounts)
    ∙ (λ i. units_held player (none account (inl refl) i) + rest i)

none-more : (n : ℕ) → 0 + n ≡ n
none-more n = omega arith

planet-held : (base : Base) → IsSound base → (planet : Planet) → IsIn planet base.planets.items → holding_at (universe_of base).state (PlanetId planet.at) ≡ Some (held-by planet)
unfolding held-by
planet-held base sound planet is =
    let own = ap own_planet (planet-found base planet sound is) in
    let queue = planet-queue base.accounts.items base.planets.items planet Yard sound.planets_rise is in
    λ i. holding (own i) (queue i)

account-held : (base : Base) (player : Player) → holding_at (universe_of base).state (AccountId player) ≡ None
account-held base player = no-holding (find (λ (other : Account). same_player other.player player) base.accounts.items) (queue_in (universe_of base).state.items (AccountId player) Yard)

-- the directory lists the places of a player's planets
pub places-shown : (base : Base) (player : Player) → IsSound base
    → planets_of (setting_of base).cells (holding_at (universe_of base).state) (AccountId player) ≡ map (λ planet. planet.at) (planets_owned player base.planets.items)
places-shown base player sound =
    let held = holding_at (universe_of base).state in
    let first = no-places player held base.accounts.items in
    let second = places-counted player held base.planets.items (planet-held base sound) in
    filter_map-append (λ cell. place_held player cell (held cell)) (map (λ (a : Account). AccountId a.player) base.accounts.items) (map (λ (p : Planet). PlanetId p.at) base.planets.items)
    ∙ (λ i. first i ++ second i)

-- and counts their units
planet-units : (base : Base) (player : Player) → IsSound base
    → sum_by (λ cell. units_held player (holding_at (universe_of base).state cell)) (setting_of base).cells ≡ sum_by units_counted (planets_owned player base.planets.items)
planet-units base player sound =
    let held = holding_at (universe_of base).state in
    let units = λ (cell : CellId). units_held player (held cell) in
    let accounts = map (λ (a : Account). AccountId a.player) base.accounts.items in
    let planets = map (λ (p : Planet). PlanetId p.at) base.planets.items in
    let first = no-units player held base.accounts.items (λ account is. account-held base account.player) in
    let second = units-in player held base.planets.items (planet-held base sound) in
    sum_by-append units accounts planets ∙ (λ i. first i + second i) ∙ none-more (sum_by units_counted (planets_owned player base.planets.items))

-- with the ships of the fleets they are the player's units
pub units-shown : (base : Base) (player : Player) → IsSound base
    → units_of (setting_of base).cells (holding_at (universe_of base).state) base.fleets (AccountId player) ≡ units_owned player base.planets.items base.fleets
units-shown base player sound = ap (λ n. n + sum_by (ships_of player) base.fleets) (planet-units base player sound)

-- What is seen.

pub account-shown : (base : Base) (account : Account) → IsSound base → Contains base.accounts.items account
    → view (setting_of base).cells (universe_of base).state (AccountId account.player) ≡ account_seen base.fleets account
account-shown base account sound has =
    let is = is-among account base.accounts.items has in
    let own = ap own_account (account-found base account sound is) in
    let queue = fun_ext (λ class. account-queue base.accounts.items base.planets.items account class sound.accounts_rise is) in
    let listed = All-contains (λ (a : Account). a.planets.items ≡ places_owned a.player base.planets.items) base.accounts.items account sound.listed has in
    let counted = All-contains (λ (a : Account). a.units ≡ units_owned a.player base.planets.items base.fleets) base.accounts.items account sound.counted has in
    let places = places-shown base account.player sound ∙ sym listed in
    let units = units-shown base account.player sound ∙ sym counted in
    λ i. record { own = own i; queue = queue i; fleets = fleets_of (AccountId account.player) base.fleets; planets = places i; units = units i }

pub planet-shown : (base : Base) (planet : Planet) → IsSound base → Contains base.planets.items planet
    → view (setting_of base).cells (universe_of base).state (PlanetId planet.at) ≡ planet_seen base.fleets planet
planet-shown base planet sound has =
    let is = is-among planet base.planets.items has in
    let own = ap own_planet (planet-found base planet sound is) in
    let queue = fun_ext (λ class. planet-queue base.accounts.items base.planets.items planet class sound.planets_rise is) in
    λ i. record { own = own i; queue = queue i; fleets = fleets_of (PlanetId planet.at) base.fleets; planets = []; units = 0 }

none-kept : (base : Base) (player : Player) → IsSound base → (Contains (setting_of base).cells (AccountId player) → ⊥) → planets_owned player base.planets.items ≡ []
none-kept base player sound unlisted =
    filter-none (λ (planet : Planet). same_player planet.owner player) base.planets.items (λ planet is.
    let owner = All-contains (λ (p : Planet). Contains (map (λ (a : Account). a.player) base.accounts.items) p.owner) base.planets.items planet sound.owned (has-place planet base.planets.items is) in
    let account = from-map (λ (a : Account). a.player) planet.owner base.accounts.items (is-among planet.owner (map (λ (a : Account). a.player) base.accounts.items) owner) in
    fails (same_player planet.owner player) (λ same.
    unlisted (subst (λ (k : Player). Contains (setting_of base).cells (AccountId k)) (sym account.2 ∙ player-one planet.owner player same) (account-listed base.accounts.items base.planets.items account.0 account.1))))

-- no fleet belongs to a cell that isn't in the directory
no-fleets : (base : Base) (cell : CellId) → IsSound base → (Contains (setting_of base).cells cell → ⊥) → fleets_of cell base.fleets ≡ []
no-fleets base cell sound unlisted =
    filter-none (belongs cell) base.fleets (λ fleet is.
    fails (belongs cell fleet) (λ has. unlisted (fleet-listed (setting_of base) (universe_of base).state fleet cell (keeps-rules base sound) is has)))

no-ships : (player : Player) (fleets : List Fleet) → ((fleet : Fleet) → IsIn fleet fleets → same_player fleet.owner player ≡ false) → sum_by (ships_of player) fleets ≡ 0
no-ships player [] none = refl
no-ships player (fleet ∷ fleets) none =
    let here = ap (λ b. cond b (sum fleet.ships) 0) (none fleet (inl refl)) in
    let rest = no-ships player fleets (λ other is. none other (inr is)) in
    sum_by-cons (ships_of player) fleet fleets ∙ (λ i. here i + rest i)

own-belongs : (player : Player) (fleet : Fleet) → same_player fleet.owner player ≡ true → belongs (AccountId player) fleet ≡ true
own-belongs player fleet own = rw own refl

-- so a player who has no account has no ships
none-flown : (base : Base) (player : Player) → IsSound base → (Contains (setting_of base).cells (AccountId player) → ⊥) → sum_by (ships_of player) base.fleets ≡ 0
none-flown base player sound unlisted =
    no-ships player base.fleets (λ fleet is.
    fails (same_player fleet.owner player) (λ own.
    unlisted (fleet-listed (setting_of base) (universe_of base).state fleet (AccountId player) (keeps-rules base sound) is (own-belongs player fleet own))))

pub nothing-shown : (base : Base) (cell : CellId) → IsSound base → (Contains (setting_of base).cells cell → ⊥)
    → view (setting_of base).cells (universe_of base).state cell ≡ nothing_seen
nothing-shown base (AccountId player) sound unlisted =
    let own = nothing-own base.accounts.items base.planets.items (AccountId player) unlisted in
    let queue = fun_ext (λ class. no-account-queue base.accounts.items base.planets.items player class (λ account is same.
    unlisted (subst (λ cell. Contains (setting_of base).cells cell) same (account-listed base.accounts.items base.planets.items account is)))) in
    let none = none-kept base player sound unlisted in
    let places = places-shown base player sound ∙ ap (map (λ (p : Planet). p.at)) none in
    let flown = none-flown base player sound unlisted in
    let units = units-shown base player sound ∙ (λ i. sum_by units_counted (none i) + flown i) in
    let fleets = no-fleets base (AccountId player) sound unlisted in
    λ i. record { own = own i; queue = queue i; fleets = fleets i; planets = places i; units = units i }
nothing-shown base (PlanetId at) sound unlisted =
    let own = nothing-own base.accounts.items base.planets.items (PlanetId at) unlisted in
    let queue = fun_ext (λ class. no-planet-queue base.accounts.items base.planets.items at class (λ planet is same.
    unlisted (subst (λ cell. Contains (setting_of base).cells cell) same (planet-listed base.accounts.items base.planets.items planet is)))) in
    let fleets = no-fleets base (PlanetId at) sound unlisted in
    λ i. record { own = own i; queue = queue i; fleets = fleets i; planets = []; units = 0 }

-- the fleets that are shown of a cell rise by number
pub fleets-in-order : (base : Base) (cell : CellId) → IsSound base → AllPairs (λ first second. first.number < second.number) (view (setting_of base).cells (universe_of base).state cell).fleets
fleets-in-order base cell sound = AllPairs-filter (λ (first second : Fleet). first.number < second.number) (belongs cell) base.fleets sound.fleets_rise
