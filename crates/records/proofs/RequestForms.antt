-- A request has the form of its number.
use Rattle.std.proofs.Common.{◌≡◌, arith}
use Rattle.base_ids.specs.declared.coord.Coord.{Coord}
use Rattle.base_ids.specs.declared.fleet_number.FleetNumber.{FleetNumber}
use Rattle.base_ids.specs.declared.system.System.{System as SystemId}
use Rattle.catalog.specs.declared.amounts.Amounts.{Amounts}
use Rattle.catalog.specs.declared.classes.Building.{Building}
use Rattle.catalog.specs.declared.classes.Technology.{Technology}
use Rattle.catalog.specs.declared.classes.Unit.{Unit as UnitKind}
use Rattle.catalog.specs.declared.classes.Work.{Work}
use Rattle.catalog.specs.declared.mission.Mission.{Mission}
use Rattle.catalog.specs.declared.settings.Count.{Count}
use Rattle.catalog.specs.declared.settings.SpeedSetting.{SpeedSetting}
use Rattle.catalog.specs.declared.settings.Tenths.{Tenths}
use Rattle.catalog.specs.declared.ships.Ships.{Ships}
use Rattle.request_text.specs.Forms.{form_number}
use Rattle.request_text.specs.Words.{form_of}
use Rattle.request_text.specs.declared.request.Request.{Request}
use Rattle.request_text.specs.declared.request.Request.TheVariants.{Planet, Account, Fleets, System, Build, Research, Yard, Set, Send, Join, Recall}

pub only_planet : (P : Request → Type 0) → ((at : Coord) → P (Planet at)) → (req : Request) → form_number (form_of req) ≡ 1 → P req
only_planet P p (Planet at) is = p at
only_planet P p _ is = absurd (omega (arith, is))

pub only_account : (P : Request → Type 0) → (P Account) → (req : Request) → form_number (form_of req) ≡ 2 → P req
only_account P p Account is = p
only_account P p _ is = absurd (omega (arith, is))

pub only_fleets : (P : Request → Type 0) → (P Fleets) → (req : Request) → form_number (form_of req) ≡ 3 → P req
only_fleets P p Fleets is = p
only_fleets P p _ is = absurd (omega (arith, is))

pub only_system : (P : Request → Type 0) → ((at : SystemId) → P (System at)) → (req : Request) → form_number (form_of req) ≡ 4 → P req
only_system P p (System at) is = p at
only_system P p _ is = absurd (omega (arith, is))

pub only_build : (P : Request → Type 0) → ((at : Coord) (building : Building) → P (Build at building)) → (req : Request) → form_number (form_of req) ≡ 5 → P req
only_build P p (Build at building) is = p at building
only_build P p _ is = absurd (omega (arith, is))

pub only_research : (P : Request → Type 0) → ((at : Coord) (technology : Technology) → P (Research at technology)) → (req : Request) → form_number (form_of req) ≡ 6 → P req
only_research P p (Research at technology) is = p at technology
only_research P p _ is = absurd (omega (arith, is))

pub only_yard : (P : Request → Type 0) → ((at : Coord) (unit : UnitKind) (count : Count) → P (Yard at unit count)) → (req : Request) → form_number (form_of req) ≡ 7 → P req
only_yard P p (Yard at unit count) is = p at unit count
only_yard P p _ is = absurd (omega (arith, is))

pub only_set : (P : Request → Type 0) → ((at : Coord) (work : Work) (tenths : Tenths) → P (Set at work tenths)) → (req : Request) → form_number (form_of req) ≡ 8 → P req
only_set P p (Set at work tenths) is = p at work tenths
only_set P p _ is = absurd (omega (arith, is))

pub only_send : (P : Request → Type 0) → ((from to : Coord) (mission : Mission) (setting : SpeedSetting) (ships : Ships) (cargo : Amounts) → P (Send from to mission setting ships cargo)) → (req : Request) → form_number (form_of req) ≡ 9 → P req
only_send P p (Send from to mission setting ships cargo) is = p from to mission setting ships cargo
only_send P p _ is = absurd (omega (arith, is))

pub only_join : (P : Request → Type 0) → ((fleet : FleetNumber) (from to : Coord) (setting : SpeedSetting) (ships : Ships) (cargo : Amounts) → P (Join fleet from to setting ships cargo)) → (req : Request) → form_number (form_of req) ≡ 10 → P req
only_join P p (Join fleet from to setting ships cargo) is = p fleet from to setting ships cargo
only_join P p _ is = absurd (omega (arith, is))

pub only_recall : (P : Request → Type 0) → ((fleet : FleetNumber) → P (Recall fleet)) → (req : Request) → form_number (form_of req) ≡ 11 → P req
only_recall P p (Recall fleet) is = p fleet
only_recall P p _ is = absurd (omega (arith, is))
