-- What two stores hold together, where the cells of one go before those of the other.
use Rattle.std.proofs.Common.{◌≡◌, ◌<◌, Bool, true, false, cond, List, [], ◌∷◌, length, arith, ap, ◌∙◌, sym, refl, subst, Option, Some, None}
use Rattle.std.specs.Prelude.{IfSome, is_some, option_map}
use Rattle.std.specs.BTreeMap.{Updates, get, is_at}
use Rattle.std.specs.Map.{lookup}
use Rattle.base_ids.specs.Cells.{same_cell}
use Rattle.base_ids.specs.declared.cell_id.CellId.{CellId}
use Rattle.base_ids.specs.declared.cell_id.CellId.TheVariants.{Account, Planet}
use Rattle.base_ids.specs.declared.coord.Coord.{Coord}
use Rattle.base_ids.specs.declared.player.Player.{Player}
use Rattle.laziness.proofs.Bringing.{never}
use Rattle.tick_model.proofs.Lists.{cell-is}
use Rattle.happenings.specs.Held.{IsNamed, Puts, Stand, account_stand, held_at, holds, planet_stand}
use Rattle.happenings.specs.Orders.{place_order, player_order}
use Rattle.happenings.specs.declared.held.AccountCell.{AccountCell}
use Rattle.happenings.specs.declared.held.Held.{Held}
use Rattle.happenings.specs.declared.held.PlanetCell.{PlanetCell}
use Rattle.happenings.proofs.Keys.{at_place, at_player}

-- a cell of the first, else of the second
abbrev pub together : Held → Held → CellId → Option Stand
together cells old cell = cond (holds cells cell) (held_at cells cell) (held_at old cell)

-- a cell is held no more, and all others as before
abbrev pub Takes : Held → Held → CellId → Type 0
Takes old new name = (cell : CellId) → held_at new cell ≡ cond (same_cell name cell) None (held_at old cell)

-- all cells of the first are held by the second
abbrev pub Within : Held → Held → Type 0
Within cells old = (cell : CellId) → holds cells cell ≡ true → holds old cell ≡ true

unmapped : {A B : Type 0} (f : A → B) (b : Bool) (rest : Option A) → option_map f (cond b None rest) ≡ cond b None (option_map f rest)
unmapped f true rest = refl
unmapped f false rest = refl

pub account_takes : (old new : Held) (player : Player) → Updates player_order old.accounts new.accounts player None → new.planets ≡ old.planets → Takes old new (Account player)
account_takes old new name updates same (Account player) =
    ap (option_map account_stand) (updates.0 player) ∙ unmapped account_stand (is_at (player_order name) player) (get player_order old.accounts player)
    ∙ ap (λ b. cond b None (held_at old (Account player))) (at_player name player)
account_takes old new name updates same (Planet at) = ap (λ m. option_map planet_stand (get place_order m at)) same

pub planet_takes : (old new : Held) (at : Coord) → Updates place_order old.planets new.planets at None → new.accounts ≡ old.accounts → Takes old new (Planet at)
planet_takes old new name updates same (Account player) = ap (λ m. option_map account_stand (get player_order m player)) same
planet_takes old new name updates same (Planet at) =
    ap (option_map planet_stand) (updates.0 at) ∙ unmapped planet_stand (is_at (place_order name) at) (get place_order old.planets at)
    ∙ ap (λ b. cond b None (held_at old (Planet at))) (at_place name at)

still_named : {A : Type 0} (P : A → Type 0) (b : Bool) (rest : Option A) → IfSome rest P → IfSome (cond b None rest) P
still_named P true rest holds = tt
still_named P false rest holds = holds

pub account_stays : (old new : Held) (player : Player) → Updates player_order old.accounts new.accounts player None → new.planets ≡ old.planets → IsNamed old → IsNamed new
account_stays old new name updates same named = record {
  players = λ player. subst (λ found. IfSome found (λ c. c.account.player ≡ player)) (sym (updates.0 player))
      (still_named (λ c. c.account.player ≡ player) (is_at (player_order name) player) (get player_order old.accounts player) (named.players player));
  places = λ at. subst (λ m. IfSome (get place_order m at) (λ c. c.planet.at ≡ at)) (sym same) (named.places at);
}

pub planet_stays : (old new : Held) (at : Coord) → Updates place_order old.planets new.planets at None → new.accounts ≡ old.accounts → IsNamed old → IsNamed new
planet_stays old new name updates same named = record {
  players = λ player. subst (λ m. IfSome (get player_order m player) (λ c. c.account.player ≡ player)) (sym same) (named.players player);
  places = λ at. subst (λ found. IfSome found (λ c. c.planet.at ≡ at)) (sym (updates.0 at))
      (still_named (λ c. c.planet.at ≡ at) (is_at (place_order name) at) (get place_order old.planets at) (named.places at));
}

moved_at : (b : Bool) (stand : Stand) (there here : Option Stand) → (b ≡ true → there ≡ Some stand)
    → cond (is_some (cond b None there)) (cond b None there) (cond b (Some stand) here) ≡ cond (is_some there) there here
moved_at true stand there here found = rw (found refl) refl
moved_at false stand there here found = refl

-- a cell that goes from the first to the second makes no difference
pub moved : (cells left old new : Held) (name : CellId) (stand : Stand) → held_at cells name ≡ Some stand → Takes cells left name → Puts old new name stand
    → (cell : CellId) → together left new cell ≡ together cells old cell
moved cells left old new name stand found takes puts cell =
    (λ i. cond (is_some (takes cell i)) (takes cell i) (puts cell i))
    ∙ moved_at (same_cell name cell) stand (held_at cells cell) (held_at old cell) (λ same. ap (held_at cells) (sym (cell-is name cell same)) ∙ found)

within_at : (b : Bool) (stand : Stand) (there here : Option Stand) → (is_some there ≡ true → is_some here ≡ true)
    → is_some (cond b None there) ≡ true → is_some (cond b (Some stand) here) ≡ true
within_at true stand there here all is = refl
within_at false stand there here all is = all is

pub moved_within : (cells left old new : Held) (name : CellId) (stand : Stand) → Takes cells left name → Puts old new name stand → Within cells old → Within left new
moved_within cells left old new name stand takes puts all cell is =
    ap is_some (puts cell) ∙ within_at (same_cell name cell) stand (held_at cells cell) (held_at old cell) (all cell) (ap is_some (sym (takes cell)) ∙ is)

-- so far the cells of the first went to the second
pub record IsMoving (first_cells first_old cells old : Held) : Type 0 where
  pub same : (cell : CellId) → together cells old cell ≡ together first_cells first_old cell
  pub within : Within cells old
  pub cells_named : IsNamed cells
  pub named : IsNamed first_old → IsNamed old

-- one account more
pub moving_account : (first_cells first_old cells left old new : Held) (player : Player) (cell : AccountCell) → IsMoving first_cells first_old cells old
    → get player_order cells.accounts player ≡ Some cell → Updates player_order cells.accounts left.accounts player None → left.planets ≡ cells.planets
    → Puts old new (Account cell.account.player) (account_stand cell) → (IsNamed old → IsNamed new) → IsMoving first_cells first_old left new
moving_account first_cells first_old cells left old new player cell moving found updates planets puts stays =
    let own : cell.account.player ≡ player = subst (λ o. IfSome o (λ c. c.account.player ≡ player)) found (moving.cells_named.players player) in
    let here = subst (λ k. Puts old new (Account k) (account_stand cell)) own puts in
    let takes = account_takes cells left player updates planets in
    record {
      same = λ name. moved cells left old new (Account player) (account_stand cell) (ap (option_map account_stand) found) takes here name ∙ moving.same name;
      within = moved_within cells left old new (Account player) (account_stand cell) takes here moving.within;
      cells_named = account_stays cells left player updates planets moving.cells_named;
      named = λ n. stays (moving.named n);
    }

-- one planet more
pub moving_planet : (first_cells first_old cells left old new : Held) (at : Coord) (cell : PlanetCell) → IsMoving first_cells first_old cells old
    → get place_order cells.planets at ≡ Some cell → Updates place_order cells.planets left.planets at None → left.accounts ≡ cells.accounts
    → Puts old new (Planet cell.planet.at) (planet_stand cell) → (IsNamed old → IsNamed new) → IsMoving first_cells first_old left new
moving_planet first_cells first_old cells left old new at cell moving found updates accounts puts stays =
    let own : cell.planet.at ≡ at = subst (λ o. IfSome o (λ c. c.planet.at ≡ at)) found (moving.cells_named.places at) in
    let here = subst (λ k. Puts old new (Planet k) (planet_stand cell)) own puts in
    let takes = planet_takes cells left at updates accounts in
    record {
      same = λ name. moved cells left old new (Planet at) (planet_stand cell) (ap (option_map planet_stand) found) takes here name ∙ moving.same name;
      within = moved_within cells left old new (Planet at) (planet_stand cell) takes here moving.within;
      cells_named = planet_stays cells left at updates accounts moving.cells_named;
      named = λ n. stays (moving.named n);
    }

-- what is held there can't be absent here
pub account_absent : (cells old : Held) (player : Player) (cell : AccountCell) → Within cells old → IsNamed cells → get player_order cells.accounts player ≡ Some cell
    → get player_order old.accounts cell.account.player ≡ None → ⊥
account_absent cells old player cell within named found absent =
    let own : cell.account.player ≡ player = subst (λ o. IfSome o (λ c. c.account.player ≡ player)) found (named.players player) in
    let missing = subst (λ k. get player_order old.accounts k ≡ None) own absent in
    never (holds old (Account player)) (within (Account player) (ap (λ o. is_some (option_map account_stand o)) found)) (ap (λ o. is_some (option_map account_stand o)) missing)

pub planet_absent : (cells old : Held) (at : Coord) (cell : PlanetCell) → Within cells old → IsNamed cells → get place_order cells.planets at ≡ Some cell
    → get place_order old.planets cell.planet.at ≡ None → ⊥
planet_absent cells old at cell within named found absent =
    let own : cell.planet.at ≡ at = subst (λ o. IfSome o (λ c. c.planet.at ≡ at)) found (named.places at) in
    let missing = subst (λ k. get place_order old.planets k ≡ None) own absent in
    never (holds old (Planet at)) (within (Planet at) (ap (λ o. is_some (option_map planet_stand o)) found)) (ap (λ o. is_some (option_map planet_stand o)) missing)

same_held : (cells left : Held) → cells.accounts.entries ≡ left.accounts.entries → cells.planets ≡ left.planets → (cell : CellId) → held_at cells cell ≡ held_at left cell
same_held cells left accounts planets (Account player) = ap (λ es. option_map account_stand (lookup (is_at (player_order player)) es)) accounts
same_held cells left accounts planets (Planet at) = ap (λ m. option_map planet_stand (get place_order m at)) planets

-- when no account is left, the planets go on
pub moving_planets : (first_cells first_old cells left old : Held) → IsMoving first_cells first_old cells old → left.accounts.entries ≡ cells.accounts.entries → left.planets ≡ cells.planets
    → IsMoving first_cells first_old left old
moving_planets first_cells first_old cells left old moving accounts planets =
    let same : (cell : CellId) → held_at cells cell ≡ held_at left cell = λ cell. same_held cells left (sym accounts) (sym planets) cell in
    record {
      same = λ cell. ap (λ found. cond (is_some found) found (held_at old cell)) (sym (same cell)) ∙ moving.same cell;
      within = λ cell is. moving.within cell (ap is_some (same cell) ∙ is);
      cells_named = record {
        players = λ player. subst (λ es. IfSome (lookup (is_at (player_order player)) es) (λ c. c.account.player ≡ player)) (sym accounts) (moving.cells_named.players player);
        places = λ at. subst (λ m. IfSome (get place_order m at) (λ c. c.planet.at ≡ at)) (sym planets) (moving.cells_named.places at);
      };
      named = moving.named;
    }

-- a map with no entry
pub no_entries : {A : Type 0} (entries : List A) → (0 < length entries → false ≡ true) → entries ≡ []
no_entries [] none = refl
no_entries (e ∷ es) none = (let long : 0 < length (e ∷ es) = omega arith in let both = none long in absurd cc)
