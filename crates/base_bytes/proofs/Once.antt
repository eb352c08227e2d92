-- The directory of a base names each cell once.
use Rattle.std.proofs.Common.{◌≡◌, true, not, cond, List, [], ◌∷◌, inl, inr, ap, ◌∙◌, sym, subst}
use Rattle.std.specs.Prelude.{map, AllPairs}
use Rattle.std.specs.List.{Contains, list_any}
use Rattle.account_cell.specs.declared.account.Account.{Account}
use Rattle.base_bytes.specs.Base.{cells_of}
use Rattle.base_bytes.proofs.Among.{from-map, is-among, pairs-first, pairs-later}
use Rattle.base_ids.proofs.Ordering.{coords_ordered, players_ordered}
use Rattle.base_ids.specs.Cells.{same_cell}
use Rattle.base_ids.specs.Order.{coord_before, player_before}
use Rattle.base_ids.specs.declared.cell_id.CellId.{CellId}
use Rattle.base_ids.specs.declared.cell_id.CellId.TheVariants.{Account as AccountId, Planet as PlanetId}
use Rattle.base_ids.specs.declared.coord.Coord.{Coord}
use Rattle.base_ids.specs.declared.player.Player.{Player}
use Rattle.laziness.proofs.Bringing.{never}
use Rattle.planet_cell.specs.declared.planet.Planet.{Planet}
use Rattle.tick_model.proofs.Lists.{any-none, cell-from, cell-is, fails, in-append}
use Rattle.tick_model.specs.Rules.{IsIn, is_once}

-- no cell of a list is named again behind itself
AreUnlike : List CellId → Type 0
AreUnlike [] = Unit {0}
AreUnlike (cell ∷ cells) = ((other : CellId) → IsIn other cells → cell ≡ other → ⊥) × AreUnlike cells

once-first : (cell first : CellId) (cells : List CellId) → cell ≡ first → ((other : CellId) → IsIn other cells → first ≡ other → ⊥) → is_once cell (first ∷ cells) ≡ true
once-first cell first cells same unlike =
    let none = any-none (same_cell cell) cells (λ other is. fails (same_cell cell other) (λ here. unlike other is (sym same ∙ cell-is cell other here))) in
    ap (λ b. cond b (not (list_any (same_cell cell) cells)) (is_once cell cells)) (cell-from cell first same) ∙ ap not none

-- so each of its cells is named once
once-among : (cell : CellId) (cells : List CellId) → AreUnlike cells → IsIn cell cells → is_once cell cells ≡ true
unfolding AreUnlike
once-among cell [] unlike is = absurd is
once-among cell (first ∷ cells) unlike (inl same) = once-first cell first cells same unlike.0
once-among cell (first ∷ cells) unlike (inr later) =
    let other = fails (same_cell cell first) (λ here. unlike.0 cell later (sym (cell-is cell first here))) in
    ap (λ b. cond b (not (list_any (same_cell cell) cells)) (is_once cell cells)) other ∙ once-among cell cells unlike.1 later

player_in : Player → CellId → Player
player_in other (AccountId player) = player
player_in other (PlanetId at) = other

place_in : Coord → CellId → Coord
place_in other (AccountId player) = other
place_in other (PlanetId at) = at

account-unlike : (a b : Player) → player_before a b ≡ true → AccountId a ≡ AccountId b → ⊥
unfolding player_in
account-unlike a b before same =
    let one : a ≡ b = ap (player_in a) same in
    never (player_before b b) (subst (λ k. player_before k b ≡ true) one before) (players_ordered.never_itself b)

planet-unlike : (a b : Coord) → coord_before a b ≡ true → PlanetId a ≡ PlanetId b → ⊥
unfolding place_in
planet-unlike a b before same =
    let one : a ≡ b = ap (place_in a) same in
    never (coord_before b b) (subst (λ k. coord_before k b ≡ true) one before) (coords_ordered.never_itself b)

account-no-planet : (player : Player) (at : Coord) → AccountId player ≡ PlanetId at → ⊥
account-no-planet player at same = cc

planets-unlike : (planets : List Planet) → AllPairs (λ first second. coord_before first.at second.at ≡ true) planets → AreUnlike (map (λ planet. PlanetId planet.at) planets)
unfolding AreUnlike
planets-unlike [] rise = tt
planets-unlike (planet ∷ planets) rise = (
  λ other is same.
      let comes = from-map (λ (p : Planet). PlanetId p.at) other planets is in
      planet-unlike planet.at comes.0.at (pairs-first (λ (a b : Planet). coord_before a.at b.at ≡ true) planet comes.0 planets rise comes.1) (same ∙ comes.2),
  planets-unlike planets (pairs-later (λ (a b : Planet). coord_before a.at b.at ≡ true) planet planets rise),
)

cells-unlike : (accounts : List Account) (planets : List Planet) → AllPairs (λ first second. player_before first.player second.player ≡ true) accounts
    → AllPairs (λ first second. coord_before first.at second.at ≡ true) planets → AreUnlike (cells_of accounts planets)
unfolding AreUnlike
cells-unlike [] planets rise rise_planets = planets-unlike planets rise_planets
cells-unlike (account ∷ accounts) planets rise rise_planets = (
  λ other is same.
      elim (in-append other (map (λ (a : Account). AccountId a.player) accounts) (map (λ (p : Planet). PlanetId p.at) planets) is) [
        | inl here ↦
            (let comes = from-map (λ (a : Account). AccountId a.player) other accounts here in
            account-unlike account.player comes.0.player (pairs-first (λ (a b : Account). player_before a.player b.player ≡ true) account comes.0 accounts rise comes.1) (same ∙ comes.2))
        | inr there ↦
            (let comes = from-map (λ (p : Planet). PlanetId p.at) other planets there in
            account-no-planet account.player comes.0.at (same ∙ comes.2))
      ],
  cells-unlike accounts planets (pairs-later (λ (a b : Account). player_before a.player b.player ≡ true) account accounts rise) rise_planets,
)

pub named-once : (accounts : List Account) (planets : List Planet) (cell : CellId) → AllPairs (λ first second. player_before first.player second.player ≡ true) accounts
    → AllPairs (λ first second. coord_before first.at second.at ≡ true) planets → Contains (cells_of accounts planets) cell → is_once cell (cells_of accounts planets) ≡ true
named-once accounts planets cell rise rise_planets has =
    once-among cell (cells_of accounts planets) (cells-unlike accounts planets rise rise_planets) (is-among cell (cells_of accounts planets) has)
