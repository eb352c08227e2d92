-- Which cells of the directory a request asks for.
use Rattle.std.proofs.Common.{◌≡◌, ℕ, zero, suc, ◌+◌, ◌<◌, ◌≤◌, Option, None, Some, Bool, true, false, nat_lt, length, get_or, take, refl, ap, sym, ◌∙◌, arith}
use Rattle.std.proofs.lemmas.Bool.Decides.{nat_tests}
use Rattle.std.proofs.lemmas.List.{take_more}
use Rattle.std.specs.Prelude.{List, [], ◌∷◌, ◌++◌, ◌||◌, ◌&&◌, map}
use Rattle.std.specs.List.{list_any}
use Rattle.std.specs.Prelude.{is_some}
use Rattle.base_ids.specs.Cells.{same_cell, same_coord, same_player}
use Rattle.base_ids.specs.declared.coord.Coord.{Coord}
use Rattle.base_ids.specs.declared.numbers.TheConstants.{LAST_POSITION}
use Rattle.base_ids.specs.declared.player.Player.{Player}
use Rattle.base_ids.specs.declared.system.System.{System}
use Rattle.base_ids.specs.declared.cell_id.CellId.{CellId}
use Rattle.base_ids.specs.declared.cell_id.CellId.TheVariants.{Account, Planet}
use Rattle.request_text.specs.declared.request.Request.{Request}
use Rattle.tick_model.specs.Requests.{asked, in_system, names}
use Rattle.tick_model.specs.Sending.{belongs_out, fleet_of}
use Rattle.tick_model.specs.Views.{View}
use Rattle.closure.specs.Directory.{ShowsHeld, cells_of}
use Rattle.closure.specs.Flown.{is_flown}
use Rattle.closure.specs.Lists.{has, with_cell}
use Rattle.closure.specs.Naming.{AddsListed}
use Rattle.closure.specs.declared.places.Places.{Places}
use Rattle.closure.specs.declared.spot.Spot.{Spot}
use Rattle.closure.proofs.Sameness.{same_cell_is, same_cell_swap}
use Rattle.closure.proofs.Unions.{has-append, with_has}

accounts_have : (player : Player) (players : List Player) → has (map Account players) (Account player) ≡ list_any (same_player player) players
accounts_have player [] = refl
accounts_have player (other ∷ others) = ap (λ b. same_player player other || b) (accounts_have player others)

planets_lack : (player : Player) (spots : List Spot) → has (map (λ spot. Planet spot.at) spots) (Account player) ≡ false
planets_lack player [] = refl
planets_lack player (spot ∷ spots) = planets_lack player spots

accounts_lack : (at : Coord) (players : List Player) → has (map Account players) (Planet at) ≡ false
accounts_lack at [] = refl
accounts_lack at (other ∷ others) = accounts_lack at others

planets_have : (at : Coord) (spots : List Spot) → has (map (λ spot. Planet spot.at) spots) (Planet at) ≡ list_any (λ spot. same_coord at spot.at) spots
planets_have at [] = refl
planets_have at (spot ∷ spots) = ap (λ b. same_coord at spot.at || b) (planets_have at spots)

pub account_listed : (places : Places) (player : Player) → has (cells_of places) (Account player) ≡ list_any (same_player player) places.players.items
account_listed places player =
    let split = has-append (map Account places.players.items) (map (λ spot. Planet spot.at) places.planets.items) (Account player) in
    let some = accounts_have player places.players.items in
    let none = planets_lack player places.planets.items in
    grind arith

pub planet_listed : (places : Places) (at : Coord) → has (cells_of places) (Planet at) ≡ list_any (λ spot. same_coord at spot.at) places.planets.items
planet_listed places at =
    let split = has-append (map Account places.players.items) (map (λ spot. Planet spot.at) places.planets.items) (Planet at) in
    let none = accounts_lack at places.players.items in
    let some = planets_have at places.planets.items in
    grind arith

module _ (places : Places) (player : Player) (req : Request) (seen : CellId → View) (cell : CellId) where
  -- a cell is listed as the one that is the same
  listed_as : (id : CellId) → same_cell id cell ≡ true → has (cells_of places) cell ≡ has (cells_of places) id
  listed_as id same = ap (has (cells_of places)) (sym (same_cell_is id cell same))

  account_here : has (cells_of places) (Account player) ≡ list_any (same_player player) places.players.items
  account_here = account_listed places player

  -- who is no player asks for none
  pub asks_none : list_any (same_player player) places.players.items ≡ false → asked (cells_of places) seen player req cell ≡ has [] cell
  asks_none none = let at = account_here ∙ none in grind arith

  module _ (plays : list_any (same_player player) places.players.items ≡ true) where
    swaps : (id : CellId) → same_cell cell id ≡ same_cell id cell
    swaps id = same_cell_swap cell id

    account_if_same : same_cell (Account player) cell ≡ true → has (cells_of places) cell ≡ true
    account_if_same same = listed_as (Account player) same ∙ account_listed places player ∙ plays

    -- besides the caller's account it asks for what it names, as far as it is listed
    pub asks : asked (cells_of places) seen player req cell ≡ (has (Account player ∷ []) cell || (has (cells_of places) cell && names seen player req cell))
    asks =
        let at = account_here ∙ plays in
        let swap = swaps (Account player) in
        grind (arith, account_if_same)

-- a list gains a cell that is listed, and no other
module _ (places : Places) (old : List CellId) (id : CellId) where
  pub adds-it : has (cells_of places) id ≡ true → AddsListed places (same_cell id) old (with_cell old id)
  adds-it there cell =
      let with_it = with_has old id cell in
      let listed = λ (same : same_cell id cell ≡ true). ap (has (cells_of places)) (sym (same_cell_is id cell same)) ∙ there in
      grind (arith, listed)

  pub adds-none : has (cells_of places) id ≡ false → AddsListed places (same_cell id) old old
  adds-none out cell =
      let lost = λ (same : same_cell id cell ≡ true). ap (has (cells_of places)) (sym (same_cell_is id cell same)) ∙ out in
      grind (arith, lost)

pub ruleset adds = (adds-it, adds-none)

-- it gains nothing if none passes
pub adds-nothing : (places : Places) (test : CellId → Bool) (old : List CellId) → ((cell : CellId) → test cell ≡ false) → AddsListed places test old old
adds-nothing places test old none cell = let out = none cell in grind arith

-- it gains the cells that pass one test, and then those that pass another one
pub adds-both : (places : Places) (one other test : CellId → Bool) (old mid new : List CellId) → ((cell : CellId) → test cell ≡ (one cell || other cell)) → AddsListed places one old mid
    → AddsListed places other mid new → AddsListed places test old new
adds-both places one other test old mid new either first second cell =
    let a = first cell in
    let b = second cell in
    let c = either cell in
    grind arith

-- tests that agree add the same
pub adds-as : (places : Places) (one test : CellId → Bool) (old new : List CellId) → ((cell : CellId) → test cell ≡ one cell) → AddsListed places one old new → AddsListed places test old new
adds-as places one test old new same adds cell =
    let a = adds cell in
    let b = same cell in
    grind arith

-- a list is its first elements, if these are all
pub whole : {A : Type 0} (xs : List A) (i : ℕ) → length xs ≤ i → take i xs ≡ xs
whole [] zero all = refl
whole [] (suc i) all = refl
whole (x ∷ xs) zero all = absurd (omega (arith, all))
whole (x ∷ xs) (suc i) all = ap (λ rest. x ∷ rest) (whole xs i (omega (arith, all)))

-- What a recall asks for.

-- what is seen of an account that is held has the fleets that the account shows
pub flown-is : (sees : CellId → Option View) (seen : CellId → View) (player : Player) (number : ℕ) (cell : CellId) → ShowsHeld sees seen → is_some (sees (Account player)) ≡ true
    → is_flown (sees (Account player)) player number cell ≡ belongs_out cell (fleet_of player number (seen (Account player)).fleets)
flown-is sees seen player number cell shows held = flown_at (sees (Account player)) refl held
  where
    flown_at : (sight : Option View) → sees (Account player) ≡ sight → is_some sight ≡ true → is_flown sight player number cell ≡ belongs_out cell (fleet_of player number (seen (Account player)).fleets)
    flown_at None is held = absurd cc
    flown_at (Some view) is held = ap (λ (v : View). belongs_out cell (fleet_of player number v.fleets)) (sym (shows (Account player) view is))

-- one more of some cells
pub adds-more : (places : Places) (some : List CellId) (id : CellId) (i : ℕ) (old mid new : List CellId) → i < length some → id ≡ get_or some i id
    → AddsListed places (has (take i some)) old mid → AddsListed places (same_cell id) mid new → AddsListed places (has (take (i + 1) some)) old new
adds-more places some id i old mid new within at first second =
    let more = take_more some i id within ∙ ap (λ x. take i some ++ x ∷ []) (sym at) in
    adds-both places (has (take i some)) (same_cell id) (has (take (i + 1) some)) old mid new
    (λ cell. ap (λ xs. has xs cell) more ∙ has-append (take i some) (id ∷ []) cell ∙ (let swap = same_cell_swap cell id in grind arith)) first second

-- The planets of a system, by position.

-- a planet of the system before a position
abbrev pub before : System → ℕ → CellId → Bool
before system p (Planet at) = in_system system (Planet at) && nat_lt at.p p
before system p (Account player) = false

pub before-none : (system : System) (cell : CellId) → before system 1 cell ≡ false
before-none system (Account player) = refl
before-none system (Planet at) = let from = at.position_from in grind (arith, nat_tests)

pub before-all : (system : System) (cell : CellId) → in_system system cell ≡ before system (LAST_POSITION + 1) cell
before-all system (Account player) = refl
before-all system (Planet at) = let to = at.position_to in grind (arith, nat_tests)

pub before-more : (system : System) (place : Coord) (p : ℕ) (cell : CellId) → place.g ≡ system.g → place.s ≡ system.s → place.p ≡ p
    → before system (p + 1) cell ≡ (before system p cell || same_cell (Planet place) cell)
before-more system place p (Account player) g s is = refl
before-more system place p (Planet at) g s is = grind (arith, nat_tests)

pub adds-position : (places : Places) (system : System) (p : ℕ) (old mid new : List CellId) (place : Coord) → AddsListed places (before system p) old mid → AddsListed places (same_cell (Planet place)) mid new
    → place.g ≡ system.g → place.s ≡ system.s → place.p ≡ p → AddsListed places (before system (p + 1)) old new
adds-position places system p old mid new place first second g s is =
    adds-both places (before system p) (same_cell (Planet place)) (before system (p + 1)) old mid new (λ cell. before-more system place p cell g s is) first second
