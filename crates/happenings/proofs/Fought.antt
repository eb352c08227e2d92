-- A battle among cells that are held: what the fleets of a raid leave is what the event makes of them.
use Rattle.std.proofs.Common.{◌≡◌, ℕ, zero, suc, ◌+◌, ◌-◌, ◌<◌, Bool, true, false, cond, List, [], ◌∷◌, ◌++◌, Option, None, Some, get_or, length, map, take, filter, arith, refl, ap, ◌∙◌, sym}
use Rattle.std.proofs.Math.Path.{fun_ext}
use Rattle.base_ids.specs.Cells.{same_player}
use Rattle.base_ids.specs.declared.player.Player.{Player}
use Rattle.base_ids.specs.declared.cell_id.CellId.TheVariants.{Account as AccountId, Planet as PlanetId}
use Rattle.base_ids.specs.declared.cell_id.CellId.{CellId}
use Rattle.account_cell.specs.Account.{KeepsResearch, account_queue, research_item}
use Rattle.account_cell.specs.declared.account.Account.{Account}
use Rattle.fleet_rec.specs.Fleets.{after_battle, became_in}
use Rattle.tick_model.specs.Events.{ships_lost}
use Rattle.tick_model.specs.Universe.{Fleet, Item, QueueClass, Buildings, Researches, Yard, PlanetFields, of_account, of_planet}
use Rattle.tick_model.specs.Views.{View, belongs}
use Rattle.happenings.specs.Applying.{fields_then}
use Rattle.happenings.specs.Sights.{names_held}
use Rattle.happenings.specs.Fighting.{AreRaiders, HasTechs, fought_at, own_fought, stand_fought, touches, account_fought, account_losses, fleets_fought, planet_fought, stand_settled}
use Rattle.happenings.specs.Gaining.{gained}
use Rattle.happenings.specs.Held.{PicksFrom, Stand, account_stand, held_at, planet_stand}
use Rattle.happenings.specs.declared.combat.Battle.{Battle}
use Rattle.happenings.specs.declared.held.AccountCell.{AccountCell}
use Rattle.happenings.specs.declared.held.Held.{Held}
use Rattle.happenings.specs.declared.held.PlanetCell.{PlanetCell}
use Rattle.happenings.proofs.Copying.{picks_all}
use Rattle.happenings.proofs.Gains.{account_gained}
use Rattle.happenings.specs.Orders.{place_order, player_order}
use Rattle.std.specs.BTreeMap.{get}
use Rattle.base_ids.specs.declared.coord.Coord.{Coord}
use Rattle.laziness.proofs.Bringing.{never}
use Rattle.raids.specs.declared.aftermath.Raider.{Raider}
use Rattle.fleet_rec.specs.Fleet.{fleet_seen}
use Rattle.fleet_rec.specs.declared.fleet.Fleet.{Fleet as FleetRecord}
use Rattle.std.proofs.Math.Seq.{take-suc}
use Rattle.std.proofs.lemmas.List.{map-append}
use Rattle.std.proofs.lemmas.List.Elements.{All-append}
use Rattle.std.specs.Prelude.{All, IsSome, option_map}
use Rattle.happenings.proofs.Standing.{seen-gains}
use Rattle.planet_cell.specs.Planet.{fields_of, queue_of}
use Rattle.tick_model.specs.declared.rules.Rules.{Rules}

-- Cells of their own.

account-queue : (old new : Account) → KeepsResearch old new → (class : QueueClass) → account_queue new class ≡ account_queue old class
account-queue old new keeps Buildings = refl
account-queue old new keeps Researches = λ i. map (research_item (keeps.player i)) (keeps.research i)
account-queue old new keeps Yard = refl

-- an account that has lost its ships and units
pub account_lost : (battle : Battle) (old new : AccountCell) → new.second ≡ battle.second → KeepsResearch old.account new.account
    → new.fleets ≡ filter (belongs (AccountId old.account.player)) (after_battle battle.raid battle.after.fleets old.fleets)
    → new.account.units ≡ old.account.units - account_losses battle old.account.player old.fleets
    → account_stand new ≡ account_fought battle old.account.player (account_stand old)
account_lost battle old new second keeps fleets units =
    let queue = fun_ext (account-queue old.account new.account keeps) in
    λ i. record {
      second = second i;
      seen = record { own = of_account (record { techs = keeps.techs i }); queue = queue i; fleets = fleets i; planets = keeps.planets i; units = units i };
    }

-- what an account loses, by its ships
pub lost_there : (battle : Battle) (player : Player) (fleets : List Fleet) (ships lost : ℕ) → ships_lost player (became_in battle.raid battle.after.fleets) fleets ≡ ships
    → same_player battle.owner player ≡ true → lost ≡ ships + battle.lost → lost ≡ account_losses battle player fleets
lost_there battle player fleets ships lost are own is = is ∙ (λ i. sym are i + cond (sym own i) battle.lost 0)

pub lost_elsewhere : (battle : Battle) (player : Player) (fleets : List Fleet) (ships lost : ℕ) → ships_lost player (became_in battle.raid battle.after.fleets) fleets ≡ ships
    → same_player battle.owner player ≡ false → lost ≡ ships → lost ≡ account_losses battle player fleets
lost_elsewhere battle player fleets ships lost are other is =
    let none : lost ≡ ships + 0 = omega (arith, is) in
    none ∙ (λ i. sym are i + cond (sym other i) battle.lost 0)

-- what a planet has of its own once it gained, and its fleets
pub fields_grown : (rules : Rules) (second : ℕ) (old cell : PlanetCell) → planet_stand cell ≡ gained rules second (planet_stand old) → fields_of cell.planet ≡ fields_then rules second old
fields_grown rules second old cell grown =
    same-planet (fields_of cell.planet) (fields_then rules second old)
    (ap (λ (s : Stand). s.seen.own) grown
    ∙ ap (λ (v : View). v.own) (seen-gains rules (second - old.second) (fields_of old.planet) (queue_of old.planet) old.fleets))
  where
    same-planet : (one other : PlanetFields) → of_planet one ≡ of_planet other → one ≡ other
    same-planet one other same = cc

pub fleets_grown : (rules : Rules) (second : ℕ) (old cell : PlanetCell) → planet_stand cell ≡ gained rules second (planet_stand old) → cell.fleets ≡ old.fleets
fleets_grown rules second old cell grown =
    ap (λ (s : Stand). s.seen.fleets) grown
    ∙ ap (λ (v : View). v.fleets) (seen-gains rules (second - old.second) (fields_of old.planet) (queue_of old.planet) old.fleets)

-- a planet that gained, whose fleets fought, and that has what the battle has left there
pub planet_left_so : (rules : Rules) (battle : Battle) (old cell mid new : PlanetCell) → planet_stand cell ≡ gained rules battle.second (planet_stand old) → cell.planet.at ≡ old.planet.at
    → planet_stand mid ≡ record (planet_stand cell) { seen = fleets_fought battle (PlanetId cell.planet.at) (planet_stand cell).seen }
    → planet_stand new ≡ stand_settled battle (PlanetId cell.planet.at) (planet_stand mid) → planet_stand new ≡ planet_fought rules battle (PlanetId old.planet.at) (planet_stand old)
planet_left_so rules battle old cell mid new grown at flown left =
    left ∙ ap (stand_settled battle (PlanetId cell.planet.at)) flown
    ∙ (λ i. stand_settled battle (PlanetId (at i)) (record (grown i) { seen = fleets_fought battle (PlanetId (at i)) (grown i).seen }))

-- The fleets that fight, with the technologies of their owners.

all-one : {A : Type 0} (P : A → Type 0) (x : A) → P x → All P (x ∷ [])
all-one P x p zero d below = p
all-one P x p (suc k) d below = absurd (omega (arith, below))

pub raiders-more : (held : Held) (fleets : List FleetRecord) (i : ℕ) (raiders : List Raider) (raider : Raider) → i < length fleets → raider.fleet ≡ get_or fleets i raider.fleet
    → AreRaiders held (map fleet_seen (take i fleets)) raiders → HasTechs held raider.fleet.owner raider.techs → AreRaiders held (map fleet_seen (take (suc i) fleets)) (raiders ++ raider ∷ [])
raiders-more held fleets i raiders raider below is before techs = record {
  fleets_are =
      map-append (λ (r : Raider). fleet_seen r.fleet) raiders (raider ∷ [])
      ∙ (λ j. before.fleets_are j ++ fleet_seen (is j) ∷ [])
      ∙ sym (ap (map fleet_seen) (take-suc fleets i raider.fleet below) ∙ map-append fleet_seen (take i fleets) (get_or fleets i raider.fleet ∷ []));
  techs = All-append (λ (r : Raider). HasTechs held r.fleet.owner r.techs) raiders (raider ∷ []) before.techs (all-one (λ (r : Raider). HasTechs held r.fleet.owner r.techs) raider techs);
}

-- What is held of the cells that fought.

pub fought-all : (rules : Rules) (battle : Battle) (held new : Held) → PicksFrom (fought_at rules battle held) (names_held held) new → (cell : CellId) → held_at new cell ≡ fought_at rules battle held cell
fought-all rules battle held new picks = picks_all held (fought_at rules battle held) new (λ cell some. was-held (touches battle cell) (stand_fought rules battle cell) (held_at held cell) some) picks
  where
    was-held : (b : Bool) (f : Stand → Stand) (o : Option Stand) → IsSome (cond b (option_map f o) None) → IsSome o
    was-held true f None some = never false some refl
    was-held true f (Some stand) some = refl
    was-held false f o some = never false some refl

-- what is fought of one cell that the battle needs
touched-at : (rules : Rules) (battle : Battle) (held : Held) (cell : CellId) (stand : Stand) → touches battle cell ≡ true → held_at held cell ≡ Some stand → fought_at rules battle held cell ≡ Some (stand_fought rules battle cell stand)
touched-at rules battle held cell stand has there =
    ap (λ b. cond b (option_map (stand_fought rules battle cell) (held_at held cell)) None) has ∙ ap (option_map (stand_fought rules battle cell)) there

pub untouched-at : (rules : Rules) (battle : Battle) (held : Held) (cell : CellId) → touches battle cell ≡ false → fought_at rules battle held cell ≡ None
untouched-at rules battle held cell out = ap (λ b. cond b (option_map (stand_fought rules battle cell) (held_at held cell)) None) out

pub account-at : (rules : Rules) (battle : Battle) (held : Held) (player : Player) (cell : AccountCell) → touches battle (AccountId player) ≡ true → get player_order held.accounts player ≡ Some cell
    → fought_at rules battle held (AccountId player) ≡ Some (account_fought battle player (account_stand cell))
account-at rules battle held player cell has found =
    let grown : gained rules battle.second (account_stand cell) ≡ record (account_stand cell) { second = battle.second } =
    sym (account_gained rules battle.second cell (record cell { second = battle.second }) refl) in
    touched-at rules battle held (AccountId player) (account_stand cell) has (ap (option_map account_stand) found)
    ∙ ap Some (λ i. record {
      second = battle.second;
      seen = record (fleets_fought battle (AccountId player) (grown i).seen) { own = own_fought battle (AccountId player) (grown i).seen.own; units = (grown i).seen.units - account_losses battle player (grown i).seen.fleets };
    })

pub planet-at : (rules : Rules) (battle : Battle) (held : Held) (at : Coord) (cell : PlanetCell) → touches battle (PlanetId at) ≡ true → get place_order held.planets at ≡ Some cell
    → fought_at rules battle held (PlanetId at) ≡ Some (planet_fought rules battle (PlanetId at) (planet_stand cell))
planet-at rules battle held at cell has found =
    let grown = seen-gains rules (battle.second - cell.second) (fields_of cell.planet) (queue_of cell.planet) cell.fleets in
    touched-at rules battle held (PlanetId at) (planet_stand cell) has (ap (option_map planet_stand) found)
    ∙ ap Some (λ i. record {
      second = battle.second;
      seen = record (fleets_fought battle (PlanetId at) (gained rules battle.second (planet_stand cell)).seen) {
        own = own_fought battle (PlanetId at) (gained rules battle.second (planet_stand cell)).seen.own;
        units = (ap (λ (v : View). v.units - 0) grown ∙ sym (ap (λ (v : View). v.units) grown)) i;
      };
    })
