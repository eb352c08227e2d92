-- How a fleet is sent from the caller's own planet, and called back. Rules: docs/RULES.md, "Fleets".
use Rattle.std.specs.Prelude.{◌≡◌, ℕ, ◌+◌, ◌++◌, List, [], ◌∷◌, Bool, false, not, nat_le, nat_lt, Option, None, Some, IfSome, filter, length, if◌then◌else◌}
use Rattle.account_cell.specs.Account.{account_fields}
use Rattle.account_cell.specs.declared.account.Account.{Account}
use Rattle.base_ids.specs.Cells.{same_coord}
use Rattle.base_ids.specs.declared.coord.Coord.{Coord}
use Rattle.base_ids.specs.declared.cell_id.CellId.{CellId}
use Rattle.base_ids.specs.declared.cell_id.CellId.TheVariants.{Account as AccountId, Planet as PlanetId}
use Rattle.catalog.specs.declared.mission.Mission.{Mission}
use Rattle.catalog.specs.declared.mission.Mission.TheVariants.{Attack}
use Rattle.fleet_rec.specs.Fleets.{after_recall}
use Rattle.orders.specs.Acting.{planet_seen}
use Rattle.orders.specs.declared.company.Company.{Company as CompanyRecord}
use Rattle.orders.specs.declared.errand.Errand.{Errand as ErrandRecord}
use Rattle.orders.specs.declared.errand.Purpose.{Purpose}
use Rattle.orders.specs.declared.errand.Purpose.TheVariants.{Flies, Joins}
use Rattle.orders.specs.declared.parts.Acted.{Acted}
use Rattle.orders.specs.declared.parts.PartFleets.{PartFleets}
use Rattle.planet_cell.specs.Planet.{batches_of, buildings_of, fields_of}
use Rattle.planet_cell.specs.declared.planet.Planet.{Planet}
use Rattle.reply_text.specs.OrderLines.{arrives_line}
use Rattle.request_text.specs.declared.request.Request.{Request}
use Rattle.request_text.specs.declared.request.Request.TheVariants.{Send, Join}
use Rattle.tick_model.specs.Buildings.{can_pay}
use Rattle.tick_model.specs.Lines.{own_fleets, slots_of}
use Rattle.tick_model.specs.Raids.{companions, raiders}
use Rattle.tick_model.specs.Refusals.{first_refusal}
use Rattle.tick_model.specs.Requests.{errand_of, owner_there}
use Rattle.tick_model.specs.Sending.{Errand, arrival_of, can_go, departed, fuel_of, has_room, has_ships, launched, load_of, seconds_to, with_group}
use Rattle.tick_model.specs.Universe.{Fleet, Own, of_nothing, of_planet}
use Rattle.tick_model.specs.Views.{belongs}
use Rattle.tick_model.specs.declared.codes.TheConstants.{BAD_MISSION, GROUP_FULL, MOST_IN_GROUP, NO_FLEET, NO_ROOM, NO_SHIPS, NO_SLOT, POOR, TOO_LATE}

-- with which mission a fleet flies: one that joins a group attacks with it
abbrev pub mission_of : Purpose → Mission
mission_of (Flies mission) = mission
mission_of (Joins group) = Attack

-- what a fleet is sent for
abbrev pub errand_seen : ErrandRecord → Errand
errand_seen errand = errand_of errand.from errand.to (mission_of errand.purpose) errand.setting.p errand.ships.n errand.cargo

-- the request that sends it
abbrev pub request_for : Purpose → ErrandRecord → Request
request_for (Flies mission) errand = Send errand.from errand.to mission errand.setting errand.ships errand.cargo
request_for (Joins group) errand = Join group errand.from errand.to errand.setting errand.ships errand.cargo

abbrev pub sends_for : ErrandRecord → Request
sends_for errand = request_for errand.purpose errand

-- what a place has of its own, if this planet, or none, stands there
abbrev pub own_of : Option Planet → Own
own_of None = of_nothing
own_of (Some planet) = of_planet (fields_of planet)

-- In what company a fleet flies: its group, how many fleets of that group fly to the same place, whether none of them attacks it,
-- and the second at which the fleet arrives.
pub record Company : Type 0 where
  pub group : ℕ
  pub others : ℕ
  pub is_missing : Bool
  pub second : ℕ

abbrev pub company_seen : CompanyRecord → Company
company_seen company = record { group = company.group; others = company.others; is_missing = company.is_missing; second = company.second }

-- the company of a fleet that joins a group, by the fleets at its target
abbrev pub in_group : ℕ → Coord → List Fleet → Company
in_group group at fleets =
    record {
      group = group;
      others = length (companions at group fleets);
      is_missing = nat_le (length (raiders at group fleets)) 0;
      second = arrival_of (raiders at group fleets);
    }

-- the company of a fleet that is sent: if it joins nobody, it has no group yet, and arrives at the second
abbrev pub company_of : Purpose → Coord → List Fleet → ℕ → Company
company_of (Flies mission) at fleets second = record { group = 0; others = 0; is_missing = false; second = second }
company_of (Joins group) at fleets second = in_group group.f at fleets

-- the fleets at the target, which may be the origin
abbrev pub fleets_there : ErrandRecord → Option Planet → PartFleets → List Fleet
fleets_there errand to fleets = if same_coord errand.from errand.to then fleets.from else (planet_seen to fleets.to).fleets

-- when a fleet that leaves at a moment arrives, if it joins nobody
abbrev pub arrival_alone : ℕ → ℕ → Account → ErrandRecord → ℕ
arrival_alone speed moment account errand = moment + seconds_to speed (account_fields account) (errand_seen errand)

-- the company of a fleet that an account sends at a moment
abbrev pub company_sent : ℕ → ℕ → Account → PartFleets → Option Planet → ErrandRecord → Company
company_sent speed moment account fleets to errand = company_of errand.purpose errand.to (fleets_there errand to fleets) (arrival_alone speed moment account errand)

-- Why a fleet can't leave in this company, by an account with these fleets, from its planet to another, if it would arrive at a second
-- if it joined nobody: the code of the first reason that there is.
unfoldable pub refusal_in : Company → ℕ → Account → List Fleet → Planet → Option Planet → ErrandRecord → ℕ
refusal_in company second account fleets planet to errand =
    first_refusal (
    record { code = NO_FLEET; holds = company.is_missing }
    ∷ record { code = GROUP_FULL; holds = nat_le MOST_IN_GROUP company.others }
    ∷ record { code = NO_SHIPS; holds = not (has_ships planet.units errand.ships.n) }
    ∷ record { code = BAD_MISSION; holds = not (can_go account.player (errand_seen errand) (own_of to)) }
    ∷ record { code = NO_SLOT; holds = nat_le (slots_of (account_fields account)) (length (own_fleets account.player fleets)) }
    ∷ record { code = TOO_LATE; holds = nat_lt company.second second }
    ∷ record { code = NO_ROOM; holds = not (has_room (account_fields account) (errand_seen errand)) }
    ∷ record { code = POOR; holds = not (can_pay (fields_of planet).stock (load_of (account_fields account) (errand_seen errand))) }
    ∷ []
    )

-- why a fleet can't leave at a moment
abbrev pub refusal_of : ℕ → ℕ → Account → PartFleets → Planet → Option Planet → ErrandRecord → ℕ
refusal_of speed moment account fleets planet to errand =
    refusal_in (company_sent speed moment account fleets to errand) (arrival_alone speed moment account errand) account fleets.caller planet to errand

-- the fleet that is sent at a moment: its number isn't drawn yet
abbrev pub fleet_sent : ℕ → ℕ → Account → PartFleets → Option Planet → ErrandRecord → Fleet
fleet_sent speed moment account fleets to errand =
    let company = company_sent speed moment account fleets to errand in
    with_group company.group company.second (launched speed 0 moment account.player (account_fields account) (owner_there account.player (own_of to)) (errand_seen errand))

-- a fleet is sent, and joins those of a cell, if it belongs to it
abbrev pub joined_in : CellId → Fleet → List Fleet → List Fleet
joined_in cell fleet fleets = fleets ++ filter (belongs cell) (fleet ∷ [])

-- a fleet joins those of all parts that it belongs to
pub record AreJoined (account : Account) (other : Option Account) (errand : ErrandRecord) (fleet : Fleet) (old new : PartFleets) : Type 0 where
  pub caller : new.caller ≡ joined_in (AccountId account.player) fleet old.caller
  pub from : new.from ≡ joined_in (PlanetId errand.from) fleet old.from
  pub to : new.to ≡ joined_in (PlanetId errand.to) fleet old.to
  pub to_owner : IfSome other (λ owner. new.to_owner ≡ joined_in (AccountId owner.player) fleet old.to_owner)

-- a planet is the same as before, but for what it has of its own
pub record KeepsQueues (old new : Planet) : Type 0 where
  pub at : new.at ≡ old.at
  pub buildings : buildings_of new ≡ buildings_of old
  pub yard : batches_of new ≡ batches_of old

-- A fleet is sent: the reply tells when it arrives and what it burns, the planet has paid and is without its ships, and the fleet is
-- among those of all parts that it belongs to.
pub record IsSent (speed moment : ℕ) (account : Account) (to : Option Planet) (to_owner : Option Account) (errand : ErrandRecord) (old_planet planet : Planet) (old new : PartFleets) (acted : Acted) : Type 0 where
  pub code : acted.code ≡ 0
  pub body : acted.body ≡ arrives_line (fleet_sent speed moment account old to errand).second (fuel_of (account_fields account) (errand_seen errand))
  pub fields : fields_of planet ≡ departed (account_fields account) (fields_of old_planet) (errand_seen errand)
  pub keeps : KeepsQueues old_planet planet
  pub joined : AreJoined account to_owner errand (fleet_sent speed moment account old to errand) old new

-- a request is refused with this code, if it is above 0
pub record IsRefused (code : ℕ) (acted : Acted) : Type 0 where
  pub code_is : acted.code ≡ code
  pub body : acted.body ≡ []

-- the fleets of a cell after one of them is called back: it turns back, and stays where it still belongs
abbrev pub called_back_in : CellId → ℕ → ℕ → List Fleet → List Fleet
called_back_in cell number moment fleets = filter (belongs cell) (after_recall number moment fleets)

-- a fleet is called back in all parts that it belonged to
pub record AreCalledBack (account : Account) (other : Option Account) (fleet : Fleet) (number moment : ℕ) (old new : PartFleets) : Type 0 where
  pub caller : new.caller ≡ called_back_in (AccountId account.player) number moment old.caller
  pub from : new.from ≡ called_back_in (PlanetId fleet.origin) number moment old.from
  pub to : new.to ≡ called_back_in (PlanetId fleet.target) number moment old.to
  pub to_owner : IfSome other (λ owner. new.to_owner ≡ called_back_in (AccountId owner.player) number moment old.to_owner)
