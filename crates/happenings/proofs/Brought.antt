-- What cells that are held tell of the cells of their fleets.
use Rattle.std.proofs.Common.{◌≡◌, ℕ, ◌+◌, ◌<◌, ◌≤◌, Bool, true, false, cond, ◌&&◌, ◌==◌, List, [], ◌∷◌, ◌++◌, map, take, length, get_or, nat_le, arith, refl, ap, ◌∙◌, sym, subst, take_all, Option, Some, None}
use Rattle.std.proofs.lemmas.Bool.Decides.{nat_tests}
use Rattle.std.proofs.lemmas.List.{map_more}
use Rattle.std.specs.Prelude.{◌||◌, is_some, option_map}
use Rattle.std.specs.BTreeMap.{get}
use Rattle.account_cell.specs.declared.research_item.ResearchItem.{ResearchItem}
use Rattle.base_ids.specs.Cells.{same_cell, same_player}
use Rattle.base_ids.specs.declared.cell_id.CellId.{CellId}
use Rattle.base_ids.specs.declared.cell_id.CellId.TheVariants.{Account as AccountId, Planet as PlanetId}
use Rattle.base_ids.specs.declared.coord.Coord.{Coord}
use Rattle.base_ids.specs.declared.player.Player.{Player}
use Rattle.closure.proofs.Unions.{has-append}
use Rattle.closure.specs.Closure.{AreBrought}
use Rattle.closure.specs.Flown.{AreFlown}
use Rattle.closure.specs.Lists.{has}
use Rattle.fleet_rec.specs.Fleet.{fleet_seen}
use Rattle.fleet_rec.specs.declared.fleet.Fleet.{Fleet as FleetRecord}
use Rattle.tick_model.specs.Game.{brings, fleets_bring}
use Rattle.tick_model.specs.Sending.{belongs_out, fleet_of}
use Rattle.tick_model.specs.Universe.{Fleet}
use Rattle.tick_model.specs.Views.{View, belongs}
use Rattle.tick_model.proofs.Lists.{and-is, cell-itself, cell-turned, or-first, or-second, player-from}
use Rattle.happenings.specs.Held.{Stand, account_stand, planet_stand}
use Rattle.happenings.specs.Orders.{place_order, player_order}
use Rattle.happenings.specs.Sights.{AreAllPayers, AreFlownOf, is_payer_by, sees_held}
use Rattle.happenings.specs.declared.held.AccountCell.{AccountCell}
use Rattle.happenings.specs.declared.held.Held.{Held}
use Rattle.happenings.specs.declared.held.PlanetCell.{PlanetCell}
use Rattle.happenings.proofs.Copying.{any_push}
use Rattle.happenings.proofs.Payers.{payer_brought}

or-nothing : (b : Bool) → (b || false) ≡ b
or-nothing true = refl
or-nothing false = refl

-- a list of cells with one more
has_more : (ids : List CellId) (id cell : CellId) → has (ids ++ id ∷ []) cell ≡ (has ids cell || same_cell id cell)
has_more ids id cell =
    has-append ids (id ∷ []) cell ∙ ap (λ b. has ids cell || b) (or-nothing (same_cell cell id) ∙ cell-turned cell id)

has_next : (ids new : List CellId) (id cell : CellId) → new ≡ ids ++ id ∷ [] → has new cell ≡ (has ids cell || same_cell id cell)
has_next ids new id cell is = ap (λ xs. has xs cell) is ∙ has_more ids id cell

joined-back : (h a b : Bool) → ((h || a) || b) ≡ (h || ((a || b) || false))
joined-back true a b = refl
joined-back false a b = sym (or-nothing (a || b))

regrouped : (a b c d : Bool) → (((a || b) || c) || d) ≡ ((a || b) || (c || d))
regrouped true b c d = refl
regrouped false true c d = refl
regrouped false false c d = refl

joined-out : (h a b c d : Bool) → ((((h || a) || b) || c) || d) ≡ (h || ((a || b) || (true && (c || d))))
joined-out true a b c d = refl
joined-out false a b c d = regrouped a b c d

-- a list of cells with those of a fleet
pub cells_back : (fleet : FleetRecord) (ids one two : List CellId) → one ≡ ids ++ PlanetId fleet.origin ∷ [] → two ≡ one ++ AccountId fleet.owner ∷ [] → fleet.outbound ≡ false
    → (cell : CellId) → has two cell ≡ (has ids cell || belongs cell (fleet_seen fleet))
cells_back fleet ids one two first second home cell =
    let a = same_cell (PlanetId fleet.origin) cell in
    let b = same_cell (AccountId fleet.owner) cell in
    let far = same_cell (PlanetId fleet.target) cell || same_cell (AccountId fleet.target_owner) cell in
    has_next one two (AccountId fleet.owner) cell second
    ∙ ap (λ x. x || b) (has_next ids one (PlanetId fleet.origin) cell first)
    ∙ joined-back (has ids cell) a b
    ∙ ap (λ x. has ids cell || ((a || b) || (x && far))) (sym home)

pub cells_out : (fleet : FleetRecord) (ids one two three four : List CellId) → one ≡ ids ++ PlanetId fleet.origin ∷ [] → two ≡ one ++ AccountId fleet.owner ∷ [] → fleet.outbound ≡ true
    → three ≡ two ++ PlanetId fleet.target ∷ [] → four ≡ three ++ AccountId fleet.target_owner ∷ [] → (cell : CellId) → has four cell ≡ (has ids cell || belongs cell (fleet_seen fleet))
cells_out fleet ids one two three four first second out third last cell =
    let a = same_cell (PlanetId fleet.origin) cell in
    let b = same_cell (AccountId fleet.owner) cell in
    let c = same_cell (PlanetId fleet.target) cell in
    let d = same_cell (AccountId fleet.target_owner) cell in
    has_next three four (AccountId fleet.target_owner) cell last
    ∙ ap (λ x. x || d) (has_next two three (PlanetId fleet.target) cell third)
    ∙ ap (λ x. (x || c) || d) (has_next one two (AccountId fleet.owner) cell second)
    ∙ ap (λ x. ((x || b) || c) || d) (has_next ids one (PlanetId fleet.origin) cell first)
    ∙ joined-out (has ids cell) a b c d
    ∙ ap (λ x. has ids cell || ((a || b) || (x && (c || d)))) (sym out)

-- one fleet more of a list
bring_more : (moment : ℕ) (fleets : List FleetRecord) (i : ℕ) (fleet : FleetRecord) → i < length fleets → fleet ≡ get_or fleets i fleet → (cell : CellId)
    → fleets_bring moment (map fleet_seen (take (i + 1) fleets)) cell ≡ (fleets_bring moment (map fleet_seen (take i fleets)) cell || (nat_le fleet.second moment && belongs cell (fleet_seen fleet)))
bring_more moment fleets i fleet here is cell =
    let front = map fleet_seen (take i fleets) in
    ap (λ xs. fleets_bring moment xs cell) (map_more fleet_seen fleets i fleet here ∙ ap (λ (x : FleetRecord). front ++ fleet_seen x ∷ []) (sym is))
    ∙ any_push (λ (f : Fleet). nat_le f.second moment && belongs cell f) front (fleet_seen fleet)

-- the cells so far are those that were there, and those of the fleets so far that are due
abbrev pub AreAdded : ℕ → List FleetRecord → ℕ → List CellId → List CellId → Type 0
AreAdded moment fleets i old new = (cell : CellId) → has new cell ≡ (has old cell || fleets_bring moment (map fleet_seen (take i fleets)) cell)

grouped : (h f b : Bool) → ((h || f) || b) ≡ (h || (f || (true && b)))
grouped true f b = refl
grouped false f b = refl

nothing-more : (h f b : Bool) → (h || f) ≡ (h || (f || (false && b)))
nothing-more true f b = refl
nothing-more false f b = sym (or-nothing f)

pub added_due : (moment : ℕ) (fleets : List FleetRecord) (i : ℕ) (fleet : FleetRecord) (first old new : List CellId) → i < length fleets → fleet ≡ get_or fleets i fleet → fleet.second ≤ moment
    → AreAdded moment fleets i first old → ((cell : CellId) → has new cell ≡ (has old cell || belongs cell (fleet_seen fleet))) → AreAdded moment fleets (i + 1) first new
added_due moment fleets i fleet first old new here is due before more cell =
    let test : nat_le fleet.second moment ≡ true = grind (arith, nat_tests) in
    let f = fleets_bring moment (map fleet_seen (take i fleets)) cell in
    let b = belongs cell (fleet_seen fleet) in
    more cell ∙ ap (λ x. x || b) (before cell) ∙ grouped (has first cell) f b
    ∙ ap (λ x. has first cell || (f || (x && b))) (sym test)
    ∙ ap (λ x. has first cell || x) (sym (bring_more moment fleets i fleet here is cell))

pub added_none : (moment : ℕ) (fleets : List FleetRecord) (i : ℕ) (fleet : FleetRecord) (first old : List CellId) → i < length fleets → fleet ≡ get_or fleets i fleet → moment < fleet.second
    → AreAdded moment fleets i first old → AreAdded moment fleets (i + 1) first old
added_none moment fleets i fleet first old here is later before cell =
    let test : nat_le fleet.second moment ≡ false = grind (arith, nat_tests) in
    let f = fleets_bring moment (map fleet_seen (take i fleets)) cell in
    let b = belongs cell (fleet_seen fleet) in
    before cell ∙ nothing-more (has first cell) f b
    ∙ ap (λ x. has first cell || (f || (x && b))) (sym test)
    ∙ ap (λ x. has first cell || x) (sym (bring_more moment fleets i fleet here is cell))

pub added_all : (moment : ℕ) (fleets : List FleetRecord) (i : ℕ) (first new : List CellId) → length fleets ≤ i → AreAdded moment fleets i first new
    → (cell : CellId) → has new cell ≡ (has first cell || fleets_bring moment (map fleet_seen fleets) cell)
added_all moment fleets i first new all added cell =
    added cell ∙ ap (λ xs. has first cell || fleets_bring moment (map fleet_seen xs) cell) (take_all i fleets all)

pub added_nothing : (moment : ℕ) (fleets : List FleetRecord) (first : List CellId) → AreAdded moment fleets 0 first first
added_nothing moment fleets first cell = sym (or-nothing (has first cell))

-- All cells that a cell brings.

pub account_needs : (cell : AccountCell) (moment : ℕ) (items : List ResearchItem) (paying ids : List CellId) (fleets : List Fleet) → AreAllPayers moment items paying → items ≡ cell.account.research.items → fleets ≡ cell.fleets
    → ((other : CellId) → has ids other ≡ (has paying other || fleets_bring moment fleets other)) → (other : CellId) → has ids other ≡ brings (account_stand cell).seen moment other
account_needs cell moment items paying ids fleets payers is same added other =
    added other
    ∙ (λ i. (payers other ∙ ap (λ xs. is_payer_by moment xs other) is ∙ payer_brought cell.account.player moment cell.account.research.items other) i || fleets_bring moment (same i) other)

pub planet_needs : (cell : PlanetCell) (moment : ℕ) (owner ids : List CellId) (fleets : List Fleet) → owner ≡ [] ++ AccountId cell.planet.owner ∷ [] → fleets ≡ cell.fleets
    → ((other : CellId) → has ids other ≡ (has owner other || fleets_bring moment fleets other)) → (other : CellId) → has ids other ≡ brings (planet_stand cell).seen moment other
planet_needs cell moment owner ids fleets is same added other =
    added other
    ∙ (λ i. (has_next [] owner (AccountId cell.planet.owner) other is ∙ sym (or-nothing (same_cell (AccountId cell.planet.owner) other))) i || fleets_bring moment (same i) other)

pub account_brings : (held : Held) (id : CellId) (player : Player) (cell : AccountCell) (moment : ℕ) (cells : List CellId) → id ≡ AccountId player
    → get player_order held.accounts player ≡ Some cell → ((other : CellId) → has cells other ≡ brings (account_stand cell).seen moment other) → AreBrought (sees_held held id) moment (Some cells)
account_brings held id player cell moment cells is found all =
    let here : sees_held held id ≡ Some (account_stand cell).seen =
    ap (sees_held held) is ∙ ap (λ o. option_map (λ (s : Stand). s.seen) (option_map account_stand o)) found in
    subst (λ (o : Option View). AreBrought o moment (Some cells)) (sym here) all

pub planet_brings : (held : Held) (id : CellId) (at : Coord) (cell : PlanetCell) (moment : ℕ) (cells : List CellId) → id ≡ PlanetId at
    → get place_order held.planets at ≡ Some cell → ((other : CellId) → has cells other ≡ brings (planet_stand cell).seen moment other) → AreBrought (sees_held held id) moment (Some cells)
planet_brings held id at cell moment cells is found all =
    let here : sees_held held id ≡ Some (planet_stand cell).seen =
    ap (sees_held held) is ∙ ap (λ o. option_map (λ (s : Stand). s.seen) (option_map planet_stand o)) found in
    subst (λ (o : Option View). AreBrought o moment (Some cells)) (sym here) all

-- The cells of a fleet that flies out.

found-at : (b : Bool) (player : Player) (x f : Fleet) (rest : Option Fleet) → (b ≡ true → same_player x.owner player ≡ true) → cond b (Some x) rest ≡ Some f → (rest ≡ Some f → f.owner ≡ player) → f.owner ≡ player
found-at true player x f rest own is later = let same : x ≡ f = cc in ap (λ (g : Fleet). g.owner) (sym same) ∙ player-from x.owner player (own refl)
found-at false player x f rest own is later = later is

found-owner : (player : Player) (number : ℕ) (fleets : List Fleet) (f : Fleet) → fleet_of player number fleets ≡ Some f → f.owner ≡ player
found-owner player number [] f is = absurd (cc is)
found-owner player number (x ∷ fleets) f is =
    found-at (x.number == number && same_player x.owner player) player x f (fleet_of player number fleets) (λ b. (and-is (x.number == number) (same_player x.owner player) b).1) is
    (found-owner player number fleets f)

owner-belongs : (fleet : Fleet) → belongs (AccountId fleet.owner) fleet ≡ true
owner-belongs fleet =
    or-first (same_cell (PlanetId fleet.origin) (AccountId fleet.owner) || same_cell (AccountId fleet.owner) (AccountId fleet.owner))
    (fleet.outbound && (same_cell (PlanetId fleet.target) (AccountId fleet.owner) || same_cell (AccountId fleet.target_owner) (AccountId fleet.owner)))
    (or-second (same_cell (PlanetId fleet.origin) (AccountId fleet.owner)) (same_cell (AccountId fleet.owner) (AccountId fleet.owner)) (cell-itself (AccountId fleet.owner)))

pub none_found : (fleets : List Fleet) (player : Player) (number : ℕ) → None ≡ fleet_of player number fleets → AreFlownOf fleets player number None
none_found fleets player number is cell = ap (belongs_out cell) (sym is)

pub back_found : (fleets : List Fleet) (player : Player) (number : ℕ) (fleet : FleetRecord) → Some (fleet_seen fleet) ≡ fleet_of player number fleets → fleet.outbound ≡ false → AreFlownOf fleets player number None
back_found fleets player number fleet is home cell = ap (belongs_out cell) (sym is) ∙ ap (λ b. b && belongs cell (fleet_seen fleet)) home

pub out_found : (fleets : List Fleet) (player : Player) (number : ℕ) (fleet : FleetRecord) (first ids : List CellId) → Some (fleet_seen fleet) ≡ fleet_of player number fleets → fleet.outbound ≡ true → first ≡ []
    → ((cell : CellId) → has ids cell ≡ (has first cell || belongs cell (fleet_seen fleet))) → AreFlownOf fleets player number (Some ids)
out_found fleets player number fleet first ids is out none all =
    let seen = fleet_seen fleet in
    let all_of : (cell : CellId) → has ids cell ≡ belongs cell seen = λ cell. all cell ∙ ap (λ xs. has xs cell || belongs cell seen) none in
    let own : seen.owner ≡ player = found-owner player number fleets seen (sym is) in (
      all_of (AccountId player) ∙ ap (λ k. belongs (AccountId k) seen) (sym own) ∙ owner-belongs seen,
      λ cell. all_of cell ∙ ap (λ b. b && belongs cell seen) (sym out) ∙ ap (belongs_out cell) is,
    )

flown-of : (seen : View) (player : Player) (number : ℕ) (found : Option (List CellId)) → AreFlownOf seen.fleets player number found → AreFlown (Some seen) player number found
flown-of seen player number None are = are
flown-of seen player number (Some cells) are = are

-- what an account tells of its fleets
pub account_flown : (held : Held) (player : Player) (number : ℕ) (cell : AccountCell) (found : Option (List CellId)) → get player_order held.accounts player ≡ Some cell
    → AreFlownOf cell.fleets player number found → AreFlown (sees_held held (AccountId player)) player number found
account_flown held player number cell found is are =
    subst (λ (o : Option View). AreFlown o player number found) (sym (ap (λ o. option_map (λ (s : Stand). s.seen) (option_map account_stand o)) is))
    (flown-of (account_stand cell).seen player number found are)

pub none_flown : (held : Held) (player : Player) (number : ℕ) → get player_order held.accounts player ≡ None → AreFlown (sees_held held (AccountId player)) player number None
none_flown held player number is =
    subst (λ (o : Option View). AreFlown o player number None) (sym (ap (λ o. option_map (λ (s : Stand). s.seen) (option_map account_stand o)) is)) (λ cell. refl)

-- whether a cell is held
pub account_there : (held : Held) (id : CellId) (player : Player) (o : Option AccountCell) → id ≡ AccountId player → get player_order held.accounts player ≡ o → is_some o ≡ is_some (sees_held held id)
account_there held id player None is found = sym (ap (λ x. is_some (sees_held held x)) is ∙ ap (λ (o : Option AccountCell). is_some (option_map (λ (s : Stand). s.seen) (option_map account_stand o))) found)
account_there held id player (Some cell) is found = sym (ap (λ x. is_some (sees_held held x)) is ∙ ap (λ (o : Option AccountCell). is_some (option_map (λ (s : Stand). s.seen) (option_map account_stand o))) found)

pub planet_there : (held : Held) (id : CellId) (at : Coord) (o : Option PlanetCell) → id ≡ PlanetId at → get place_order held.planets at ≡ o → is_some o ≡ is_some (sees_held held id)
planet_there held id at None is found = sym (ap (λ x. is_some (sees_held held x)) is ∙ ap (λ (o : Option PlanetCell). is_some (option_map (λ (s : Stand). s.seen) (option_map planet_stand o))) found)
planet_there held id at (Some cell) is found = sym (ap (λ x. is_some (sees_held held x)) is ∙ ap (λ (o : Option PlanetCell). is_some (option_map (λ (s : Stand). s.seen) (option_map planet_stand o))) found)

pub ruleset fleet_cells = (cells_back, cells_out)

pub ruleset added = (added_due, added_none, added_all, added_nothing)

pub ruleset flown_cells = (none_found, back_found, out_found)
