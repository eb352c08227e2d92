-- What comes of the requests that only show: an account, its fleets, and the planets of a system.
use Rattle.std.proofs.Common.{◌≡◌, ℕ, ◌++◌, Bool, true, false, List, [], ◌∷◌, refl, ap, sym, subst, ◌∙◌, arith}
use Rattle.std.specs.Prelude.{None, Option, Some, filter_map, if◌then◌else◌}
use Rattle.std.specs.List.{cons_option}
use Rattle.account_cell.specs.Account.{account_fields}
use Rattle.account_cell.specs.declared.account.Account.{Account}
use Rattle.base_ids.specs.declared.cell_id.CellId.{CellId}
use Rattle.base_ids.specs.declared.cell_id.CellId.TheVariants.{Account as AccountId, Planet as PlanetId}
use Rattle.base_ids.specs.declared.player.Player.{Player}
use Rattle.base_ids.specs.declared.system.System.{System}
use Rattle.orders.proofs.Answered.{caller_fleets, caller_is, caller_own, nobody, refused_comes, unchanged_comes}
use Rattle.orders.specs.Acting.{AreShown, Comes, account_seen, planet_shown, system_text}
use Rattle.orders.specs.declared.parts.Acted.{Acted}
use Rattle.orders.specs.declared.parts.Parts.{Parts}
use Rattle.orders.specs.declared.parts.SystemPlanet.{SystemPlanet}
use Rattle.request_text.specs.declared.request.Request.{Request}
use Rattle.request_text.specs.declared.request.Request.TheVariants.{Account as AccountOf, Fleets as FleetsOf, System as SystemOf}
use Rattle.tick_model.specs.Lines.{account_text, fleet_lines, own_fleets}
use Rattle.tick_model.specs.Requests.{Outcome, Sight, at_line_of, in_system, on_account, outcome, own_seen, system_lines, tells, tells_fleets, tells_system}
use Rattle.tick_model.specs.Universe.{AccountFields, Own, of_account, of_nothing, of_planet}
use Rattle.tick_model.specs.Views.{View}
use Rattle.tick_model.specs.declared.codes.TheConstants.{NO_PLAYER}
use Rattle.tick_model.specs.declared.rules.Rules.{Rules}

-- the caller is no player
pub untold : (sight : Sight) (player : Player) (rules : Rules) (moment : ℕ) (req : Request) (parts : Parts) (grant : AccountFields → Outcome) (acted : Acted) → AreShown sight player rules moment req parts
    → outcome sight player req ≡ on_account sight (own_seen sight (AccountId player)) grant → parts.caller ≡ None → acted.code ≡ NO_PLAYER → acted.body ≡ [] → Comes sight player req (outcome sight player req) parts parts acted
untold sight player rules moment req parts grant acted shown is none code body =
    refused_comes sight player rules moment req parts acted NO_PLAYER shown
    (is ∙ ap (λ (x : Own). on_account sight x grant) (nobody sight player rules moment req parts shown none)) code (omega arith) body

-- `account`: it is shown
pub account_told : (sight : Sight) (player : Player) (rules : Rules) (moment : ℕ) (parts : Parts) (account : Account) (acted : Acted) → AreShown sight player rules moment AccountOf parts → parts.caller ≡ Some account
    → acted.code ≡ 0 → acted.body ≡ account_text account.player (account_fields account) (account_seen (Some account) parts.fleets.caller)
    → Comes sight player AccountOf (outcome sight player AccountOf) parts parts acted
account_told sight player rules moment parts account acted shown here code body =
    let is : sight.seen (AccountId player) ≡ account_seen (Some account) parts.fleets.caller = shown.caller ∙ ap (λ (x : Option Account). account_seen x parts.fleets.caller) here in
    let whose = caller_is sight player rules moment AccountOf parts account shown here in
    let came : outcome sight player AccountOf ≡ tells sight player (account_fields account) = ap (λ (x : View). on_account sight x.own (tells sight player)) is in
    let text : acted.body ≡ account_text player (account_fields account) (sight.seen (AccountId player)) =
    body ∙ (λ i. account_text (whose i) (account_fields account) (sym is i)) in
    subst (λ (x : Outcome). Comes sight player AccountOf x parts parts acted) (sym came)
    (unchanged_comes sight player rules moment AccountOf parts (record { code = 0; body = account_text player (account_fields account) (sight.seen (AccountId player)) }) acted shown refl code text)

-- `fleets`: they are shown
pub fleets_told : (sight : Sight) (player : Player) (rules : Rules) (moment : ℕ) (parts : Parts) (account : Account) (acted : Acted) → AreShown sight player rules moment FleetsOf parts → parts.caller ≡ Some account
    → acted.code ≡ 0 → acted.body ≡ fleet_lines (own_fleets account.player parts.fleets.caller) → Comes sight player FleetsOf (outcome sight player FleetsOf) parts parts acted
fleets_told sight player rules moment parts account acted shown here code body =
    let is : sight.seen (AccountId player) ≡ account_seen (Some account) parts.fleets.caller = shown.caller ∙ ap (λ (x : Option Account). account_seen x parts.fleets.caller) here in
    let whose = caller_is sight player rules moment FleetsOf parts account shown here in
    let fleets = caller_fleets sight player rules moment FleetsOf parts account shown here in
    let came : outcome sight player FleetsOf ≡ tells_fleets sight player (account_fields account) = ap (λ (x : View). on_account sight x.own (tells_fleets sight player)) is in
    let text : acted.body ≡ fleet_lines (own_fleets player (sight.seen (AccountId player)).fleets) = body ∙ (λ i. fleet_lines (own_fleets (whose i) (sym fleets i))) in
    subst (λ (x : Outcome). Comes sight player FleetsOf x parts parts acted) (sym came)
    (unchanged_comes sight player rules moment FleetsOf parts (record { code = 0; body = fleet_lines (own_fleets player (sight.seen (AccountId player)).fleets) }) acted shown refl code text)

-- The lines of the planets of a system are those of its cells.

first_shown : (b : Bool) (cell : CellId) (own : Own) (later : List SystemPlanet)
    → system_text (cons_option (if b then planet_shown cell own else None) later) ≡ (if b then at_line_of cell own else []) ++ system_text later
first_shown false cell own later = refl
first_shown true (PlanetId at) (of_planet planet) later = refl
first_shown true (PlanetId at) of_nothing later = refl
first_shown true (PlanetId at) (of_account account) later = refl
first_shown true (AccountId player) own later = refl

pub cells_told : (system : System) (sight : Sight) (cells : List CellId)
    → system_text (filter_map (λ cell. if in_system system cell then planet_shown cell (own_seen sight cell) else None) cells) ≡ system_lines system sight.seen cells
cells_told system sight [] = refl
cells_told system sight (cell ∷ later) =
    first_shown (in_system system cell) cell (own_seen sight cell) (filter_map (λ cell. if in_system system cell then planet_shown cell (own_seen sight cell) else None) later)
    ∙ ap (λ (text : List ℕ). (if in_system system cell then at_line_of cell (own_seen sight cell) else []) ++ text) (cells_told system sight later)

-- `system G:S`: they are shown
pub system_told : (sight : Sight) (player : Player) (rules : Rules) (moment : ℕ) (system : System) (parts : Parts) (account : Account) (acted : Acted) → AreShown sight player rules moment (SystemOf system) parts
    → parts.caller ≡ Some account → acted.code ≡ 0 → acted.body ≡ system_text parts.seen.items → Comes sight player (SystemOf system) (outcome sight player (SystemOf system)) parts parts acted
system_told sight player rules moment system parts account acted shown here code body =
    let is = caller_own sight player rules moment (SystemOf system) parts account shown here in
    let came : outcome sight player (SystemOf system) ≡ tells_system sight system (account_fields account) = ap (λ (x : Own). on_account sight x (tells_system sight system)) is in
    let text : acted.body ≡ system_lines system sight.seen sight.cells = body ∙ ap system_text shown.seen ∙ cells_told system sight sight.cells in
    subst (λ (x : Outcome). Comes sight player (SystemOf system) x parts parts acted) (sym came)
    (unchanged_comes sight player rules moment (SystemOf system) parts (record { code = 0; body = system_lines system sight.seen sight.cells }) acted shown refl code text)
