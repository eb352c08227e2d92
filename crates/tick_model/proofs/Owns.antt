-- What a planet keeps while it gains, pays and builds: its owner, and how many units it has.
use Rattle.std.proofs.Common.{◌≡◌, Bool, true, false, cond, List, Option, None, Some, length, if◌then◌else◌, refl, ap, ◌∙◌, sym, subst}
use Rattle.base_ids.specs.Cells.{same_cell, same_player}
use Rattle.base_ids.specs.declared.coord.Coord.{Coord}
use Rattle.base_ids.specs.declared.player.Player.{Player}
use Rattle.base_ids.specs.declared.cell_id.CellId.{CellId}
use Rattle.base_ids.specs.declared.cell_id.CellId.TheVariants.{Account, Planet}
use Rattle.tick_model.specs.Changes.{put_own}
use Rattle.tick_model.specs.Game.{own_brings}
use Rattle.tick_model.specs.Requests.{is_there}
use Rattle.tick_model.specs.Universe.{Own, of_nothing, of_account, of_planet, Item, PlanetFields}
use Rattle.tick_model.specs.Views.{holding, place_held, units_held}
use Rattle.tick_model.proofs.Lists.{cell-is}

-- a cell stays: what it has of its own is of the same sort, and a planet its owner's, with counts of as many kinds of units
abbrev pub Stays : Own → Own → Type 0
Stays of_nothing of_nothing = Unit {0}
Stays (of_account old) (of_account new) = Unit {0}
Stays (of_planet old) (of_planet new) = (new.owner ≡ old.owner) × (length new.units ≡ length old.units)
Stays _ _ = ⊥

-- besides, a planet's units stay
abbrev pub IsAlike : Own → Own → Type 0
IsAlike of_nothing of_nothing = Unit {0}
IsAlike (of_account old) (of_account new) = Unit {0}
IsAlike (of_planet old) (of_planet new) = (new.owner ≡ old.owner) × (new.units ≡ old.units)
IsAlike _ _ = ⊥

pub alike-itself : (own : Own) → IsAlike own own
alike-itself of_nothing = tt
alike-itself (of_account account) = tt
alike-itself (of_planet planet) = (refl, refl)

pub alike-then : (one two three : Own) → IsAlike one two → IsAlike two three → IsAlike one three
alike-then of_nothing of_nothing of_nothing first second = tt
alike-then of_nothing of_nothing (of_account c) first second = absurd second
alike-then of_nothing of_nothing (of_planet c) first second = absurd second
alike-then of_nothing (of_account b) three first second = absurd first
alike-then of_nothing (of_planet b) three first second = absurd first
alike-then (of_account a) of_nothing three first second = absurd first
alike-then (of_account a) (of_account b) of_nothing first second = absurd second
alike-then (of_account a) (of_account b) (of_account c) first second = tt
alike-then (of_account a) (of_account b) (of_planet c) first second = absurd second
alike-then (of_account a) (of_planet b) three first second = absurd first
alike-then (of_planet a) of_nothing three first second = absurd first
alike-then (of_planet a) (of_account b) three first second = absurd first
alike-then (of_planet a) (of_planet b) of_nothing first second = absurd second
alike-then (of_planet a) (of_planet b) (of_account c) first second = absurd second
alike-then (of_planet a) (of_planet b) (of_planet c) first second = (second.0 ∙ first.0, second.1 ∙ first.1)

pub alike-stays : (old new : Own) → IsAlike old new → Stays old new
alike-stays of_nothing of_nothing alike = tt
alike-stays of_nothing (of_account b) alike = absurd alike
alike-stays of_nothing (of_planet b) alike = absurd alike
alike-stays (of_account a) of_nothing alike = absurd alike
alike-stays (of_account a) (of_account b) alike = tt
alike-stays (of_account a) (of_planet b) alike = absurd alike
alike-stays (of_planet a) of_nothing alike = absurd alike
alike-stays (of_planet a) (of_account b) alike = absurd alike
alike-stays (of_planet a) (of_planet b) alike = (alike.0, ap length alike.1)

pub stays-itself : (own : Own) → Stays own own
stays-itself own = alike-stays own own (alike-itself own)

-- one cell has something else of its own that is alike, and so have all that others have
pub put-alike : (cell : CellId) (new : Own) (before own : CellId → Own) → IsAlike (before cell) new → ((x : CellId) → IsAlike (before x) (own x)) → (x : CellId)
    → IsAlike (before x) (put_own cell new own x)
put-alike cell new before own here others x =
    elim (same_cell cell x) as (λ b. same_cell cell x ≡ b → IsAlike (before x) (cond b new (own x))) [
      | true ↦ λ same. subst (λ y. IsAlike (before y) new) (cell-is cell x same) here
      | false ↦ λ apart. others x
    ] refl

-- whose a planet is
abbrev pub owner_of : Own → Option Player
owner_of (of_planet planet) = Some planet.owner
owner_of of_nothing = None
owner_of (of_account account) = None

pub stays-owner : (old new : Own) → Stays old new → owner_of new ≡ owner_of old
stays-owner of_nothing of_nothing stays = refl
stays-owner of_nothing (of_account b) stays = absurd stays
stays-owner of_nothing (of_planet b) stays = absurd stays
stays-owner (of_account a) of_nothing stays = absurd stays
stays-owner (of_account a) (of_account b) stays = refl
stays-owner (of_account a) (of_planet b) stays = absurd stays
stays-owner (of_planet a) of_nothing stays = absurd stays
stays-owner (of_planet a) (of_account b) stays = absurd stays
stays-owner (of_planet a) (of_planet b) stays = ap Some stays.0

pub stays-there : (old new : Own) → Stays old new → is_there new ≡ is_there old
stays-there of_nothing of_nothing stays = refl
stays-there of_nothing (of_account b) stays = absurd stays
stays-there of_nothing (of_planet b) stays = absurd stays
stays-there (of_account a) of_nothing stays = absurd stays
stays-there (of_account a) (of_account b) stays = refl
stays-there (of_account a) (of_planet b) stays = absurd stays
stays-there (of_planet a) of_nothing stays = absurd stays
stays-there (of_planet a) (of_account b) stays = absurd stays
stays-there (of_planet a) (of_planet b) stays = refl

-- a planet was a planet of the same owner, and counted as many kinds of units
pub record WasPlanet (old : Own) (planet : PlanetFields) : Type 0 where
  pub planet_was : PlanetFields
  pub is : old ≡ of_planet planet_was
  pub owner : planet.owner ≡ planet_was.owner
  pub kinds : length planet.units ≡ length planet_was.units

pub was-planet : (old new : Own) → Stays old new → (planet : PlanetFields) → new ≡ of_planet planet → WasPlanet old planet
was-planet of_nothing of_nothing stays planet is = absurd cc
was-planet of_nothing (of_account b) stays planet is = absurd stays
was-planet of_nothing (of_planet b) stays planet is = absurd stays
was-planet (of_account a) of_nothing stays planet is = absurd stays
was-planet (of_account a) (of_account b) stays planet is = absurd cc
was-planet (of_account a) (of_planet b) stays planet is = absurd stays
was-planet (of_planet a) of_nothing stays planet is = absurd stays
was-planet (of_planet a) (of_account b) stays planet is = absurd stays
was-planet (of_planet a) (of_planet b) stays planet is =
    let same : b ≡ planet = cc in
    record { planet_was = a; is = refl; owner = ap (λ (p : PlanetFields). p.owner) (sym same) ∙ stays.0; kinds = ap (λ (p : PlanetFields). length p.units) (sym same) ∙ stays.1 }

-- and it is still one
pub record IsPlanetStill (new : Own) (planet : PlanetFields) : Type 0 where
  pub planet_is : PlanetFields
  pub is : new ≡ of_planet planet_is
  pub owner : planet_is.owner ≡ planet.owner

pub still-planet : (old new : Own) → Stays old new → (planet : PlanetFields) → old ≡ of_planet planet → IsPlanetStill new planet
still-planet of_nothing of_nothing stays planet is = absurd cc
still-planet of_nothing (of_account b) stays planet is = absurd stays
still-planet of_nothing (of_planet b) stays planet is = absurd stays
still-planet (of_account a) of_nothing stays planet is = absurd stays
still-planet (of_account a) (of_account b) stays planet is = absurd cc
still-planet (of_account a) (of_planet b) stays planet is = absurd stays
still-planet (of_planet a) of_nothing stays planet is = absurd stays
still-planet (of_planet a) (of_account b) stays planet is = absurd stays
still-planet (of_planet a) (of_planet b) stays planet is =
    let same : a ≡ planet = cc in
    record { planet_is = b; is = refl; owner = stays.0 ∙ ap (λ (p : PlanetFields). p.owner) same }

-- what its owner's account counts of it stays
pub alike-holding : (old new : Own) (batches : List Item) → IsAlike old new → holding new batches ≡ holding old batches
alike-holding of_nothing of_nothing batches alike = refl
alike-holding of_nothing (of_account b) batches alike = absurd alike
alike-holding of_nothing (of_planet b) batches alike = absurd alike
alike-holding (of_account a) of_nothing batches alike = absurd alike
alike-holding (of_account a) (of_account b) batches alike = refl
alike-holding (of_account a) (of_planet b) batches alike = absurd alike
alike-holding (of_planet a) of_nothing batches alike = absurd alike
alike-holding (of_planet a) (of_account b) batches alike = absurd alike
alike-holding (of_planet a) (of_planet b) batches alike =
    λ i. holding (of_planet (record a { owner = alike.0 i; units = alike.1 i })) batches

-- the account of a planet's owner
abbrev pub brings_by : Option Player → CellId → Bool
brings_by (Some owner) cell = same_cell (Account owner) cell
brings_by None cell = false

brings-is : (own : Own) (cell : CellId) → own_brings own cell ≡ brings_by (owner_of own) cell
brings-is of_nothing cell = refl
brings-is (of_account account) cell = refl
brings-is (of_planet planet) cell = refl

-- a cell brings the same account if its owner stays
pub brings-same : (one other : Own) → owner_of one ≡ owner_of other → (cell : CellId) → own_brings one cell ≡ own_brings other cell
brings-same one other same cell = brings-is one cell ∙ ap (λ owner. brings_by owner cell) same ∙ sym (brings-is other cell)

-- whose planet it is decides where an account finds it
abbrev place_by : Player → CellId → Option Player → Option Coord
place_by player (Planet at) (Some owner) = if same_player owner player then Some at else None
place_by player _ _ = None

place-is : (player : Player) (cell : CellId) (own : Own) (batches : List Item) → place_held player cell (holding own batches) ≡ place_by player cell (owner_of own)
place-is player (Account k) of_nothing batches = refl
place-is player (Account k) (of_account account) batches = refl
place-is player (Account k) (of_planet planet) batches = refl
place-is player (Planet at) of_nothing batches = refl
place-is player (Planet at) (of_account account) batches = refl
place-is player (Planet at) (of_planet planet) batches = refl

pub place-same : (player : Player) (cell : CellId) (one other : Own) (batches more : List Item) → owner_of one ≡ owner_of other
    → place_held player cell (holding one batches) ≡ place_held player cell (holding other more)
place-same player cell one other batches more same =
    place-is player cell one batches ∙ ap (place_by player cell) same ∙ sym (place-is player cell other more)

-- of other players' planets an account counts nothing
pub units-none : (player : Player) (own : Own) (batches : List Item) → ((owner : Player) → owner_of own ≡ Some owner → same_player owner player ≡ false)
    → units_held player (holding own batches) ≡ 0
units-none player of_nothing batches other = refl
units-none player (of_account account) batches other = refl
units-none player (of_planet planet) batches other = rw (other planet.owner refl) refl
