-- Which cells a request asks for.
use Rattle.std.proofs.Common.{◌≡◌, List, Bool, true, false, cond, ◌&&◌, ◌||◌, Contains, refl, ap, ◌∙◌}
use Rattle.std.proofs.Math.Path.{fun_ext}
use Rattle.std.proofs.lemmas.Map.Views.{Contains-from_any}
use Rattle.base_ids.specs.Cells.{same_cell}
use Rattle.base_ids.specs.declared.player.Player.{Player}
use Rattle.base_ids.specs.declared.cell_id.CellId.{CellId}
use Rattle.base_ids.specs.declared.cell_id.CellId.TheVariants.{Account}
use Rattle.request_text.specs.declared.request.Request.{Request}
use Rattle.request_text.specs.declared.request.Request.TheVariants.{Planet as PlanetOf, Build, Set, Recall}
use Rattle.tick_model.specs.Requests.{asked, is_listed, names}
use Rattle.tick_model.specs.Rules.{IsIn}
use Rattle.tick_model.specs.Sending.{belongs_out, fleet_of}
use Rattle.tick_model.specs.Universe.{of_account, of_planet, AccountFields, Fleet, PlanetFields}
use Rattle.tick_model.specs.Views.{View, nothing_seen, shown}
use Rattle.tick_model.proofs.Lists.{and-from, and-is, cell-is, cell-itself, in-any, in-contained}
use Rattle.tick_model.proofs.Writes.{shown-alike}

-- what the directory is found to have it has
pub listed-in : (cells : List CellId) (cell : CellId) → is_listed cells cell ≡ true → Contains cells cell
listed-in cells cell is = Contains-from_any cell-is cell cells is

-- and what it has is found
pub in-listed : (cells : List CellId) (cell : CellId) → Contains cells cell → is_listed cells cell ≡ true
in-listed cells cell has = in-any (same_cell cell) cell cells (in-contained cells cell has) (cell-itself cell)

pub asked-in : (cells : List CellId) (seen : CellId → View) (player : Player) (req : Request) (cell : CellId) → asked cells seen player req cell ≡ true → Contains cells cell
asked-in cells seen player req cell is =
    let listed = and-is (is_listed cells (Account player) && is_listed cells cell) (same_cell (Account player) cell || names seen player req cell) is in
    listed-in cells cell (and-is (is_listed cells (Account player)) (is_listed cells cell) listed.0).1

-- a request names the same cells if the caller has the same fleets
names-same : (v w : CellId → View) (player : Player) (req : Request) (cell : CellId) → (v (Account player)).fleets ≡ (w (Account player)).fleets → names v player req cell ≡ names w player req cell
names-same v w player (Recall fleet) cell same = ap (λ fleets. belongs_out cell (fleet_of player fleet.f fleets)) same
names-same v w player (PlanetOf at) cell same = refl
names-same v w player (Build at building) cell same = refl
names-same v w player (Set at work tenths) cell same = refl
names-same v w player _ cell same = refl

-- so it asks for the same cells
pub asked-same : (cells : List CellId) (v w : CellId → View) (player : Player) (req : Request) (cell : CellId) → (v (Account player)).fleets ≡ (w (Account player)).fleets
    → asked cells v player req cell ≡ asked cells w player req cell
asked-same cells v w player req cell same =
    ap (λ named. is_listed cells (Account player) && is_listed cells cell && (same_cell (Account player) cell || named)) (names-same v w player req cell same)

asked_at : (cells : List CellId) (v w : CellId → View) (player : Player) (req : Request) (cell : CellId) (b : Bool) → is_listed cells (Account player) ≡ b
    → ((x : CellId) → asked cells v player req x ≡ true → v x ≡ w x) → asked cells v player req cell ≡ asked cells w player req cell
asked_at cells v w player req cell true listed agree =
    let caller : asked cells v player req (Account player) ≡ true =
    and-from (is_listed cells (Account player) && is_listed cells (Account player)) (same_cell (Account player) (Account player) || names v player req (Account player))
    (and-from (is_listed cells (Account player)) (is_listed cells (Account player)) listed listed) (rw (cell-itself (Account player)) refl) in
    asked-same cells v w player req cell (ap (λ (seen : View). seen.fleets) (agree (Account player) caller))
asked_at cells v w player req cell false listed agree = rw listed refl

-- and if all that it asks for looks the same
pub asked-agree : (cells : List CellId) (v w : CellId → View) (player : Player) (req : Request) (cell : CellId) → ((x : CellId) → asked cells v player req x ≡ true → v x ≡ w x)
    → asked cells v player req cell ≡ asked cells w player req cell
asked-agree cells v w player req cell agree = asked_at cells v w player req cell (is_listed cells (Account player)) refl agree

-- equal cells are shown alike
pub shown-same : (cells : List CellId) (v w : CellId → View) (player : Player) (req : Request) → ((cell : CellId) → asked cells v player req cell ≡ true → v cell ≡ w cell)
    → shown (asked cells v player req) v ≡ shown (asked cells w player req) w
shown-same cells v w player req agree =
    let same = fun_ext (λ cell. asked-agree cells v w player req cell agree) in
    shown-alike (asked cells v player req) v w agree ∙ ap (λ some. shown some w) same

shown-planet_at : (b : Bool) (seen : View) (planet : PlanetFields) → (cond b seen nothing_seen).own ≡ of_planet planet → (b ≡ true) × (seen.own ≡ of_planet planet)
shown-planet_at true seen planet is = (refl, is)
shown-planet_at false seen planet is = absurd cc

-- what is shown as a planet is asked for, and is that planet
pub shown-planet : (some : CellId → Bool) (seen : CellId → View) (cell : CellId) (planet : PlanetFields) → (shown some seen cell).own ≡ of_planet planet
    → (some cell ≡ true) × ((seen cell).own ≡ of_planet planet)
shown-planet some seen cell planet is = shown-planet_at (some cell) (seen cell) planet is

shown-account_at : (b : Bool) (seen : View) (account : AccountFields) → (cond b seen nothing_seen).own ≡ of_account account → b ≡ true
shown-account_at true seen account is = refl
shown-account_at false seen account is = absurd cc

-- so is what is shown as an account
pub shown-account : (some : CellId → Bool) (seen : CellId → View) (cell : CellId) (account : AccountFields) → (shown some seen cell).own ≡ of_account account → some cell ≡ true
shown-account some seen cell account is = shown-account_at (some cell) (seen cell) account is

-- what is asked for is shown as it is
pub shown-there : (some : CellId → Bool) (seen : CellId → View) (cell : CellId) → some cell ≡ true → shown some seen cell ≡ seen cell
shown-there some seen cell is = ap (λ b. cond b (seen cell) nothing_seen) is

shown-some_at : (b : Bool) (seen : View) (fleet : Fleet) → IsIn fleet (cond b seen nothing_seen).fleets → b ≡ true
shown-some_at true seen fleet is = refl
shown-some_at false seen fleet is = absurd is

-- what shows a fleet is asked for
pub shown-some : (some : CellId → Bool) (seen : CellId → View) (cell : CellId) (fleet : Fleet) → IsIn fleet (shown some seen cell).fleets → some cell ≡ true
shown-some some seen cell fleet is = shown-some_at (some cell) (seen cell) fleet is
