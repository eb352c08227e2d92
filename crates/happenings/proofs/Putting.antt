-- What is held after a cell is held anew.
use Rattle.std.proofs.Common.{◌≡◌, Bool, true, false, cond, ap, ◌∙◌, sym, refl, subst, Option, Some}
use Rattle.std.specs.Prelude.{IfSome, option_map}
use Rattle.std.specs.BTreeMap.{Updates, get, is_at}
use Rattle.base_ids.specs.declared.cell_id.CellId.TheVariants.{Account, Planet}
use Rattle.base_ids.specs.declared.coord.Coord.{Coord}
use Rattle.base_ids.specs.declared.player.Player.{Player}
use Rattle.happenings.specs.Held.{IsNamed, Puts, account_stand, held_at, planet_stand}
use Rattle.happenings.specs.Orders.{place_order, player_order}
use Rattle.happenings.specs.Researching.{ArePlaced, Planets}
use Rattle.happenings.specs.declared.held.AccountCell.{AccountCell}
use Rattle.happenings.specs.declared.held.Held.{Held}
use Rattle.happenings.specs.declared.held.PlanetCell.{PlanetCell}
use Rattle.happenings.proofs.Keys.{at_place, at_player, place_is, player_at_is}

pub mapped : {A B : Type 0} (f : A → B) (b : Bool) (x : A) (rest : Option A) → option_map f (cond b (Some x) rest) ≡ cond b (Some (f x)) (option_map f rest)
mapped f true x rest = refl
mapped f false x rest = refl

pub player_puts : (old new : Held) (player : Player) (cell : AccountCell) → Updates player_order old.accounts new.accounts player (Some cell) → new.planets ≡ old.planets
    → Puts old new (Account player) (account_stand cell)
player_puts old new key cell updates same (Account player) =
    ap (option_map account_stand) (updates.0 player) ∙ mapped account_stand (is_at (player_order key) player) cell (get player_order old.accounts player)
    ∙ ap (λ b. cond b (Some (account_stand cell)) (held_at old (Account player))) (at_player key player)
player_puts old new key cell updates same (Planet at) = ap (λ m. option_map planet_stand (get place_order m at)) same

pub account_puts : (old new : Held) (cell : AccountCell) → Updates player_order old.accounts new.accounts cell.account.player (Some cell) → new.planets ≡ old.planets
    → Puts old new (Account cell.account.player) (account_stand cell)
account_puts old new cell updates same = player_puts old new cell.account.player cell updates same

pub named_at : {A : Type 0} (P : A → Type 0) (b : Bool) (x : A) (rest : Option A) → (b ≡ true → P x) → IfSome rest P → IfSome (cond b (Some x) rest) P
named_at P true x rest here later = here refl
named_at P false x rest here later = later

pub place_puts : (old new : Held) (place : Coord) (cell : PlanetCell) → Updates place_order old.planets new.planets place (Some cell) → new.accounts ≡ old.accounts
    → Puts old new (Planet place) (planet_stand cell)
place_puts old new place cell updates same (Account player) = ap (λ m. option_map account_stand (get player_order m player)) same
place_puts old new place cell updates same (Planet at) =
    ap (option_map planet_stand) (updates.0 at) ∙ mapped planet_stand (is_at (place_order place) at) cell (get place_order old.planets at)
    ∙ ap (λ b. cond b (Some (planet_stand cell)) (held_at old (Planet at))) (at_place place at)

pub planet_puts : (old new : Held) (cell : PlanetCell) → Updates place_order old.planets new.planets cell.planet.at (Some cell) → new.accounts ≡ old.accounts
    → Puts old new (Planet cell.planet.at) (planet_stand cell)
planet_puts old new cell updates same = place_puts old new cell.planet.at cell updates same

-- a planet that is held anew under its own place
pub placed_anew : (old new : Planets) (place : Coord) (cell : PlanetCell) → Updates place_order old new place (Some cell) → cell.planet.at ≡ place → ArePlaced old → ArePlaced new
placed_anew old new place cell updates is placed at =
    subst (λ found. IfSome found (λ c. c.planet.at ≡ at)) (sym (updates.0 at))
    (named_at (λ c. c.planet.at ≡ at) (is_at (place_order place) at) cell (get place_order old at) (λ here. is ∙ place_is place at here) (placed at))

pub place_named : (old new : Held) (place : Coord) (cell : PlanetCell) → Updates place_order old.planets new.planets place (Some cell) → new.accounts ≡ old.accounts → cell.planet.at ≡ place
    → IsNamed old → IsNamed new
place_named old new place cell updates same is named = record {
  players = λ player. subst (λ m. IfSome (get player_order m player) (λ c. c.account.player ≡ player)) (sym same) (named.players player);
  places = placed_anew old.planets new.planets place cell updates is named.places;
}

pub player_placed : (old new : Held) (player : Player) (cell : AccountCell) → Updates player_order old.accounts new.accounts player (Some cell) → cell.account.player ≡ player → ArePlaced new.planets
    → IsNamed old → IsNamed new
player_placed old new player cell updates is placed named = record {
  players = λ k. subst (λ found. IfSome found (λ c. c.account.player ≡ k)) (sym (updates.0 k))
      (named_at (λ c. c.account.player ≡ k) (is_at (player_order player) k) cell (get player_order old.accounts k) (λ here. is ∙ player_at_is player k here) (named.players k));
  places = placed;
}

pub player_named : (old new : Held) (player : Player) (cell : AccountCell) → Updates player_order old.accounts new.accounts player (Some cell) → new.planets ≡ old.planets
    → cell.account.player ≡ player → IsNamed old → IsNamed new
player_named old new player cell updates same is named = player_placed old new player cell updates is (subst ArePlaced (sym same) named.places) named

pub account_named : (old new : Held) (cell : AccountCell) → Updates player_order old.accounts new.accounts cell.account.player (Some cell) → new.planets ≡ old.planets
    → IsNamed old → IsNamed new
account_named old new cell updates same named = player_named old new cell.account.player cell updates same refl named

pub planet_named : (old new : Held) (cell : PlanetCell) → Updates place_order old.planets new.planets cell.planet.at (Some cell) → new.accounts ≡ old.accounts
    → IsNamed old → IsNamed new
planet_named old new cell updates same named = place_named old new cell.planet.at cell updates same refl named

pub ruleset puts = (account_puts, account_named, planet_puts, planet_named)
