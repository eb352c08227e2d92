-- What comes of a fleet that is sent.
use Rattle.std.proofs.Common.{◌≡◌, ℕ, ◌<◌, ◌≤◌, ◌+◌, ◌++◌, Bool, true, false, List, [], ◌∷◌, inl, inr, refl, ap, sym, subst, ◌∙◌, arith}
use Rattle.std.specs.Prelude.{IfSome, None, Option, Some, filter, length, not, nat_le, nat_lt, if◌then◌else◌}
use Rattle.std.proofs.lemmas.Bool.Decides.{nat_tests}
use Rattle.account_cell.specs.Account.{account_fields}
use Rattle.account_cell.specs.declared.account.Account.{Account}
use Rattle.base_ids.specs.Cells.{same_coord}
use Rattle.base_ids.specs.declared.cell_id.CellId.{CellId}
use Rattle.base_ids.specs.declared.cell_id.CellId.TheVariants.{Account as AccountId, Planet as PlanetId}
use Rattle.base_ids.specs.declared.coord.Coord.{Coord}
use Rattle.base_ids.specs.declared.player.Player.{Player}
use Rattle.orders.proofs.Answered.{caller_fleets, caller_is, caller_own, nobody, other_owner, owned, refused_comes, some_into, some_of}
use Rattle.orders.proofs.Granted.{unless_granted, unless_refused}
use Rattle.orders.proofs.Left.{place_itself, test}
use Rattle.orders.specs.Acting.{AllBelong, AreShown, Comes, IsLeftAs, IsSeenAs, account_seen, elsewhere, fleets_after, from_place, planet_seen, queue_after, seen_after, to_place, units_ordered}
use Rattle.orders.specs.Sending.{Company, IsSent, arrival_alone, company_of, company_sent, errand_seen, fleet_sent, fleets_there, joined_in, mission_of, own_of, refusal_in, refusal_of, request_for, sends_for}
use Rattle.orders.specs.declared.errand.Purpose.{Purpose}
use Rattle.orders.specs.declared.errand.Purpose.TheVariants.{Flies, Joins}
use Rattle.orders.specs.declared.errand.Errand.{Errand as ErrandRecord}
use Rattle.orders.specs.declared.parts.Acted.{Acted}
use Rattle.orders.specs.declared.parts.Parts.{Parts}
use Rattle.planet_cell.specs.Planet.{batches_of, buildings_of, fields_of, queue_of}
use Rattle.planet_cell.specs.declared.planet.Planet.{Planet}
use Rattle.reply_text.specs.OrderLines.{arrives_line}
use Rattle.tick_model.proofs.Lists.{cell-is, filter_map-all, not-false}
use Rattle.tick_model.proofs.Outcomes.{goes-to}
use Rattle.tick_model.specs.Changes.{Change, sends_fleet}
use Rattle.tick_model.specs.Lines.{own_fleets, slots_of}
use Rattle.tick_model.specs.Refusals.{first_refusal}
use Rattle.tick_model.specs.Requests.{Outcome, Sight, at_own, companions_seen, errand_of, granted, joins_on, on_own, outcome, own_seen, owner_there, raiders_seen, refused, sends_on, unless, with_planet}
use Rattle.tick_model.specs.Raids.{raiders}
use Rattle.tick_model.specs.Sending.{Errand, arrival_of, can_go, departed, fuel_of, has_room, has_ships, join_refusal, launched, load_of, seconds_to, send_refusal, with_group}
use Rattle.tick_model.specs.Buildings.{can_pay}
use Rattle.tick_model.specs.Universe.{AccountFields, Buildings, Fleet, Own, PlanetFields, QueueClass, Researches, Yard, of_account, of_nothing, of_planet}
use Rattle.tick_model.specs.Views.{View, belongs}
use Rattle.tick_model.specs.declared.codes.TheConstants.{BAD_MISSION, GROUP_FULL, MOST_IN_GROUP, NOT_YOURS, NO_FLEET, NO_PLANET, NO_PLAYER, NO_ROOM, NO_SHIPS, NO_SLOT, POOR, TOO_LATE}
use Rattle.tick_model.specs.declared.rules.Rules.{Rules}

-- The request.

-- what a fleet is sent for, for this purpose
abbrev errand_by : Purpose → ErrandRecord → Errand
errand_by purpose errand = errand_of errand.from errand.to (mission_of purpose) errand.setting.p errand.ships.n errand.cargo

from_is : (purpose : Purpose) (player : Player) (fleets : List Fleet) (errand : ErrandRecord) → from_place player fleets (request_for purpose errand) ≡ Some errand.from
from_is (Flies mission) player fleets errand = refl
from_is (Joins group) player fleets errand = refl

to_is : (purpose : Purpose) (player : Player) (fleets : List Fleet) (errand : ErrandRecord) → to_place player fleets (request_for purpose errand) ≡ elsewhere errand.from errand.to
to_is (Flies mission) player fleets errand = refl
to_is (Joins group) player fleets errand = refl

none_ordered : (purpose : Purpose) (errand : ErrandRecord) → units_ordered (request_for purpose errand) ≡ 0
none_ordered (Flies mission) errand = refl
none_ordered (Joins group) errand = refl

-- what comes of the request of a player who has the origin
grants_on : Purpose → Sight → Player → Errand → AccountFields → PlanetFields → Outcome
grants_on (Flies mission) sight player errand = sends_on sight player errand
grants_on (Joins group) sight player errand = joins_on sight player group.f errand

outcome_for : (purpose : Purpose) (sight : Sight) (player : Player) (errand : ErrandRecord)
    → outcome sight player (request_for purpose errand) ≡ at_own sight player errand.from (grants_on purpose sight player (errand_by purpose errand))
unfolding grants_on
outcome_for (Flies mission) sight player errand = refl
outcome_for (Joins group) sight player errand = refl

-- the same by what its caller and its place have of their own
sends_is : (sight : Sight) (player : Player) (errand : ErrandRecord) (caller there : Own) → own_seen sight (AccountId player) ≡ caller → own_seen sight (PlanetId errand.from) ≡ there
    → outcome sight player (sends_for errand) ≡ on_own sight player caller there (grants_on errand.purpose sight player (errand_seen errand))
sends_is sight player errand caller there who what =
    outcome_for errand.purpose sight player errand ∙ (λ i. on_own sight player (who i) (what i) (grants_on errand.purpose sight player (errand_seen errand)))

-- Reasons to refuse.

pub no_sender : (sight : Sight) (player : Player) (rules : Rules) (moment : ℕ) (errand : ErrandRecord) (parts : Parts) (acted : Acted) → AreShown sight player rules moment (sends_for errand) parts
    → parts.caller ≡ None → acted.code ≡ NO_PLAYER → acted.body ≡ [] → Comes sight player (sends_for errand) (outcome sight player (sends_for errand)) parts parts acted
no_sender sight player rules moment errand parts acted shown none code body =
    refused_comes sight player rules moment (sends_for errand) parts acted NO_PLAYER shown
    (sends_is sight player errand of_nothing (own_seen sight (PlanetId errand.from)) (nobody sight player rules moment (sends_for errand) parts shown none) refl) code (omega arith) body

-- the origin is seen
origin_seen : (sight : Sight) (player : Player) (rules : Rules) (moment : ℕ) (errand : ErrandRecord) (parts : Parts) → AreShown sight player rules moment (sends_for errand) parts → IsSeenAs sight errand.from parts.from parts.fleets.from
origin_seen sight player rules moment errand parts shown =
    some_of (from_place player parts.fleets.caller (sends_for errand)) (λ at. IsSeenAs sight at parts.from parts.fleets.from) errand.from (from_is errand.purpose player parts.fleets.caller errand) shown.from

-- a planet stands there, or none
own_is : (planet : Option Planet) (fleets : List Fleet) → (planet_seen planet fleets).own ≡ own_of planet
own_is None fleets = refl
own_is (Some planet) fleets = refl

-- what the origin has of its own
origin_own : (sight : Sight) (player : Player) (rules : Rules) (moment : ℕ) (errand : ErrandRecord) (parts : Parts) (planet : Option Planet) → AreShown sight player rules moment (sends_for errand) parts → parts.from ≡ planet
    → own_seen sight (PlanetId errand.from) ≡ own_of planet
origin_own sight player rules moment errand parts planet shown is =
    ap (λ (x : View). x.own) ((origin_seen sight player rules moment errand parts shown).seen ∙ ap (λ (x : Option Planet). planet_seen x parts.fleets.from) is) ∙ own_is planet parts.fleets.from

pub no_origin : (sight : Sight) (player : Player) (rules : Rules) (moment : ℕ) (errand : ErrandRecord) (parts : Parts) (account : Account) (acted : Acted) → AreShown sight player rules moment (sends_for errand) parts
    → parts.caller ≡ Some account → parts.from ≡ None → acted.code ≡ NO_PLANET → acted.body ≡ []
    → Comes sight player (sends_for errand) (outcome sight player (sends_for errand)) parts parts acted
no_origin sight player rules moment errand parts account acted shown here none code body =
    refused_comes sight player rules moment (sends_for errand) parts acted NO_PLANET shown
    (sends_is sight player errand (of_account (account_fields account)) of_nothing (caller_own sight player rules moment (sends_for errand) parts account shown here)
    (origin_own sight player rules moment errand parts None shown none)) code (omega arith) body

pub foreign_origin : (sight : Sight) (player : Player) (rules : Rules) (moment : ℕ) (errand : ErrandRecord) (parts : Parts) (account : Account) (planet : Planet) (acted : Acted) → AreShown sight player rules moment (sends_for errand) parts
    → parts.caller ≡ Some account → parts.from ≡ Some planet → (planet.owner.k ≡ account.player.k → ⊥) → acted.code ≡ NOT_YOURS → acted.body ≡ []
    → Comes sight player (sends_for errand) (outcome sight player (sends_for errand)) parts parts acted
foreign_origin sight player rules moment errand parts account planet acted shown here stands other code body =
    let whose = caller_is sight player rules moment (sends_for errand) parts account shown here in
    let apart = other_owner planet account player whose other in
    refused_comes sight player rules moment (sends_for errand) parts acted NOT_YOURS shown
    (sends_is sight player errand (of_account (account_fields account)) (of_planet (fields_of planet)) (caller_own sight player rules moment (sends_for errand) parts account shown here)
    (origin_own sight player rules moment errand parts (Some planet) shown stands)
    ∙ ap (λ (b : Bool). if b then grants_on errand.purpose sight player (errand_seen errand) (account_fields account) (fields_of planet) else refused sight NOT_YOURS) apart) code (omega arith) body

-- The target.

target_own : (sight : Sight) (player : Player) (rules : Rules) (moment : ℕ) (errand : ErrandRecord) (parts : Parts) → AreShown sight player rules moment (sends_for errand) parts → same_coord errand.from errand.to ≡ false
    → IsSeenAs sight errand.to parts.to parts.fleets.to
target_own sight player rules moment errand parts shown apart =
    let there : IfSome (elsewhere errand.from errand.to) (λ at. IsSeenAs sight at parts.to parts.fleets.to) =
    subst (λ (x : Option Coord). IfSome x (λ at. IsSeenAs sight at parts.to parts.fleets.to)) (to_is errand.purpose player parts.fleets.caller errand) shown.to in
    subst (λ (b : Bool). IfSome (if b then None else Some errand.to) (λ at. IsSeenAs sight at parts.to parts.fleets.to)) apart there

-- no fleet goes to the place that it leaves
stays_there : (player : Player) (errand : Errand) (target : Own) → same_coord errand.from errand.to ≡ true → can_go player errand target ≡ false
stays_there player errand (of_planet planet) same = rw same refl
stays_there player errand of_nothing same = refl
stays_there player errand (of_account account) same = refl

-- so whether it can go there is told by the planet that stands there
goes_same : (sight : Sight) (player : Player) (rules : Rules) (moment : ℕ) (errand : ErrandRecord) (parts : Parts) → AreShown sight player rules moment (sends_for errand) parts
    → can_go player (errand_seen errand) (own_seen sight (PlanetId errand.to)) ≡ can_go player (errand_seen errand) (own_of parts.to)
goes_same sight player rules moment errand parts shown =
    elim (test (same_coord errand.from errand.to)) [
      | inl same ↦ stays_there player (errand_seen errand) (own_seen sight (PlanetId errand.to)) same ∙ sym (stays_there player (errand_seen errand) (own_of parts.to) same)
      | inr apart ↦ ap (can_go player (errand_seen errand)) (ap (λ (x : View). x.own) (target_own sight player rules moment errand parts shown apart).seen ∙ own_is parts.to parts.fleets.to)
    ]

place_is : (one other : Coord) → same_coord one other ≡ true → one ≡ other
place_is one other same = let cells = cell-is (PlanetId one) (PlanetId other) same in cc

-- the fleets at the target are those of the parts
fleets_same : (sight : Sight) (player : Player) (rules : Rules) (moment : ℕ) (errand : ErrandRecord) (parts : Parts) (planet : Planet) → AreShown sight player rules moment (sends_for errand) parts → parts.from ≡ Some planet
    → (sight.seen (PlanetId errand.to)).fleets ≡ fleets_there errand parts.to parts.fleets
fleets_same sight player rules moment errand parts planet shown stands =
    let there = λ (b : Bool). if b then parts.fleets.from else (planet_seen parts.to parts.fleets.to).fleets in
    elim (test (same_coord errand.from errand.to)) [
      | inl same ↦
          ap (λ (x : Coord). (sight.seen (PlanetId x)).fleets) (sym (place_is errand.from errand.to same))
          ∙ ap (λ (x : View). x.fleets) ((origin_seen sight player rules moment errand parts shown).seen ∙ ap (λ (x : Option Planet). planet_seen x parts.fleets.from) stands)
          ∙ ap there (sym same)
      | inr apart ↦ ap (λ (x : View). x.fleets) (target_own sight player rules moment errand parts shown apart).seen ∙ ap there (sym apart)
    ]

-- The code.

-- the code of the first reason, if it is told which of those hold that the target decides
unfoldable by_tests : Bool → Bool → Bool → Bool → AccountFields → ℕ → PlanetFields → Errand → ℕ
by_tests missing full goes late account fleets planet errand =
    first_refusal (
    record { code = NO_FLEET; holds = missing }
    ∷ record { code = GROUP_FULL; holds = full }
    ∷ record { code = NO_SHIPS; holds = not (has_ships planet.units errand.ships) }
    ∷ record { code = BAD_MISSION; holds = not goes }
    ∷ record { code = NO_SLOT; holds = nat_le (slots_of account) fleets }
    ∷ record { code = TOO_LATE; holds = late }
    ∷ record { code = NO_ROOM; holds = not (has_room account errand) }
    ∷ record { code = POOR; holds = not (can_pay planet.stock (load_of account errand)) }
    ∷ []
    )

-- and by the company of the fleet
abbrev by_company : Company → ℕ → AccountFields → ℕ → PlanetFields → Errand → Bool → ℕ
by_company company second account fleets planet errand goes =
    by_tests company.is_missing (nat_le MOST_IN_GROUP company.others) goes (nat_lt company.second second) account fleets planet errand

refusal_by : (company : Company) (second : ℕ) (account : Account) (fleets : List Fleet) (planet : Planet) (to : Option Planet) (errand : ErrandRecord) → refusal_in company second account fleets planet to errand
    ≡ by_company company second (account_fields account) (length (own_fleets account.player fleets)) (fields_of planet) (errand_seen errand) (can_go account.player (errand_seen errand) (own_of to))
unfolding refusal_in by_tests
refusal_by company second account fleets planet to errand = refl

-- the code by what the request goes by
code_seen : Purpose → Sight → Player → Errand → AccountFields → PlanetFields → ℕ
code_seen (Flies mission) sight player errand account planet =
    send_refusal player account (length (own_fleets player (sight.seen (AccountId player)).fleets)) planet (own_seen sight (PlanetId errand.to)) errand
code_seen (Joins group) sight player errand account planet =
    join_refusal sight.rules.speed sight.moment player account (length (own_fleets player (sight.seen (AccountId player)).fleets)) planet (own_seen sight (PlanetId errand.to)) errand
    (raiders_seen sight errand.to group.f) (length (companions_seen sight errand.to group.f))

-- when the fleet would arrive if it joined nobody
abbrev second_seen : Sight → AccountFields → Errand → ℕ
second_seen sight account errand = sight.moment + seconds_to sight.rules.speed account errand

never_late : (second : ℕ) → nat_lt second second ≡ false
never_late second = grind (arith, nat_tests)

code_is : (purpose : Purpose) (sight : Sight) (player : Player) (errand : Errand) (account : AccountFields) (planet : PlanetFields) → code_seen purpose sight player errand account planet
    ≡ by_company (company_of purpose errand.to (sight.seen (PlanetId errand.to)).fleets (second_seen sight account errand)) (second_seen sight account errand) account
    (length (own_fleets player (sight.seen (AccountId player)).fleets)) planet errand (can_go player errand (own_seen sight (PlanetId errand.to)))
unfolding send_refusal join_refusal by_tests code_seen
code_is (Flies mission) sight player errand account planet =
    ap (λ (b : Bool). by_tests false false (can_go player errand (own_seen sight (PlanetId errand.to))) b account (length (own_fleets player (sight.seen (AccountId player)).fleets)) planet errand)
    (sym (never_late (second_seen sight account errand)))
code_is (Joins group) sight player errand account planet = refl

-- is the one by the parts
refusal_same : (sight : Sight) (player : Player) (rules : Rules) (moment : ℕ) (errand : ErrandRecord) (parts : Parts) (account : Account) (planet : Planet) → AreShown sight player rules moment (sends_for errand) parts
    → parts.caller ≡ Some account → parts.from ≡ Some planet
    → code_seen errand.purpose sight player (errand_seen errand) (account_fields account) (fields_of planet) ≡ refusal_of rules.speed moment account parts.fleets planet parts.to errand
refusal_same sight player rules moment errand parts account planet shown here stands =
    let whose : player ≡ account.player = sym (caller_is sight player rules moment (sends_for errand) parts account shown here) in
    let fleets = caller_fleets sight player rules moment (sends_for errand) parts account shown here in
    let count : length (own_fleets player (sight.seen (AccountId player)).fleets) ≡ length (own_fleets account.player parts.fleets.caller) =
    ap (λ (x : List Fleet). length (own_fleets player x)) fleets ∙ ap (λ (x : Player). length (own_fleets x parts.fleets.caller)) whose in
    let there = fleets_same sight player rules moment errand parts planet shown stands in
    let second : second_seen sight (account_fields account) (errand_seen errand) ≡ arrival_alone rules.speed moment account errand =
    λ i. shown.moment_is i + seconds_to (shown.rules_are i).speed (account_fields account) (errand_seen errand) in
    let goes : can_go player (errand_seen errand) (own_seen sight (PlanetId errand.to)) ≡ can_go account.player (errand_seen errand) (own_of parts.to) =
    goes_same sight player rules moment errand parts shown ∙ ap (λ (x : Player). can_go x (errand_seen errand) (own_of parts.to)) whose in
    code_is errand.purpose sight player (errand_seen errand) (account_fields account) (fields_of planet)
    ∙ (λ i. by_company (company_of errand.purpose errand.to (there i) (second i)) (second i) (account_fields account) (count i) (fields_of planet) (errand_seen errand) (goes i))
    ∙ sym (refusal_by (company_sent rules.speed moment account parts.fleets parts.to errand) (arrival_alone rules.speed moment account errand) account parts.fleets.caller planet parts.to errand)

-- the fleet that leaves, by what the request goes by
flight : Purpose → Sight → Player → Errand → AccountFields → Fleet
flight (Flies mission) sight player errand account = launched sight.rules.speed sight.number sight.moment player account (owner_there player (own_seen sight (PlanetId errand.to))) errand
flight (Joins group) sight player errand account =
    with_group group.f (arrival_of (raiders_seen sight errand.to group.f))
    (launched sight.rules.speed sight.number sight.moment player account (owner_there player (own_seen sight (PlanetId errand.to))) errand)

-- what comes of it
abbrev leaves : Fleet → Sight → Errand → AccountFields → PlanetFields → Outcome
leaves fleet sight errand account planet = granted (arrives_line fleet.second (fuel_of account errand)) (sends_fleet (with_planet sight errand.from (departed account planet errand)) fleet)

grants_is : (purpose : Purpose) (sight : Sight) (player : Player) (errand : Errand) (account : AccountFields) (planet : PlanetFields) → grants_on purpose sight player errand account planet
    ≡ unless sight (code_seen purpose sight player errand account planet) (leaves (flight purpose sight player errand account) sight errand account planet)
unfolding code_seen grants_on flight seconds_to
grants_is (Flies mission) sight player errand account planet = refl
grants_is (Joins group) sight player errand account planet = refl

-- what comes of a request to send by the caller's account and planet
abbrev leaves_for : Sight → Player → ErrandRecord → Account → Planet → Outcome
leaves_for sight player errand account planet = leaves (flight errand.purpose sight player (errand_seen errand) (account_fields account)) sight (errand_seen errand) (account_fields account) (fields_of planet)

-- the request of a player who has the origin
goes_on : (sight : Sight) (player : Player) (rules : Rules) (moment : ℕ) (errand : ErrandRecord) (parts : Parts) (account : Account) (planet : Planet) → AreShown sight player rules moment (sends_for errand) parts
    → parts.caller ≡ Some account → parts.from ≡ Some planet → planet.owner.k ≡ account.player.k
    → outcome sight player (sends_for errand) ≡ unless sight (refusal_of rules.speed moment account parts.fleets planet parts.to errand) (leaves_for sight player errand account planet)
goes_on sight player rules moment errand parts account planet shown here stands own =
    let whose = caller_is sight player rules moment (sends_for errand) parts account shown here in
    let mine = owned planet account player whose own in
    sends_is sight player errand (of_account (account_fields account)) (of_planet (fields_of planet)) (caller_own sight player rules moment (sends_for errand) parts account shown here)
    (origin_own sight player rules moment errand parts (Some planet) shown stands)
    ∙ ap (λ (b : Bool). if b then grants_on errand.purpose sight player (errand_seen errand) (account_fields account) (fields_of planet) else refused sight NOT_YOURS) mine
    ∙ grants_is errand.purpose sight player (errand_seen errand) (account_fields account) (fields_of planet)
    ∙ ap (λ (n : ℕ). unless sight n (leaves_for sight player errand account planet)) (refusal_same sight player rules moment errand parts account planet shown here stands)

-- a fleet that can't be sent
pub unsent : (sight : Sight) (player : Player) (rules : Rules) (moment : ℕ) (errand : ErrandRecord) (parts : Parts) (account : Account) (planet : Planet) (acted : Acted) → AreShown sight player rules moment (sends_for errand) parts
    → parts.caller ≡ Some account → parts.from ≡ Some planet → planet.owner.k ≡ account.player.k
    → acted.code ≡ refusal_of rules.speed moment account parts.fleets planet parts.to errand → 0 < acted.code → acted.body ≡ [] → Comes sight player (sends_for errand) (outcome sight player (sends_for errand)) parts parts acted
unsent sight player rules moment errand parts account planet acted shown here stands own code some body =
    let positive = subst (λ (n : ℕ). 0 < n) code some in
    refused_comes sight player rules moment (sends_for errand) parts acted (refusal_of rules.speed moment account parts.fleets planet parts.to errand) shown
    (goes_on sight player rules moment errand parts account planet shown here stands own
    ∙ unless_refused sight (refusal_of rules.speed moment account parts.fleets planet parts.to errand) (leaves_for sight player errand account planet) positive) code positive body

-- A fleet that is sent.

-- what is seen of a cell after a change
pub view_left : (sight : Sight) (change : Change) (cell : CellId) (old new : View) → sight.seen cell ≡ old → new.own ≡ change.own cell → ((class : QueueClass) → new.queue class ≡ queue_after sight change cell class)
    → new.fleets ≡ fleets_after change cell old.fleets → new.planets ≡ old.planets → new.units ≡ old.units → new ≡ seen_after sight change cell
view_left sight change cell old new is own queue fleets planets units =
    let flown : new.fleets ≡ fleets_after change cell (sight.seen cell).fleets = fleets ∙ ap (λ (x : View). fleets_after change cell x.fleets) (sym is) in
    let places : new.planets ≡ (sight.seen cell).planets = planets ∙ ap (λ (x : View). x.planets) (sym is) in
    let total : new.units ≡ (sight.seen cell).units = units ∙ ap (λ (x : View). x.units) (sym is) in
    λ i. record { own = own i; queue = λ class. queue class i; fleets = flown i; planets = places i; units = total i }

-- the fleets of a cell after one is sent
joined_is : (own : CellId → Own) (fleet : Fleet) (cell : CellId) (fleets : List Fleet) → AllBelong cell fleets → joined_in cell fleet fleets ≡ fleets_after (sends_fleet own fleet) cell fleets
joined_is own fleet cell fleets belong =
    ap (λ (x : List Fleet). x ++ filter (belongs cell) (fleet ∷ [])) (sym (ap (filter (belongs cell)) (filter_map-all fleets) ∙ belong))

-- a reason that doesn't hold is passed over
passed : (code rest : ℕ) (holds : Bool) → 1 ≤ code → (if holds then code else rest) ≡ 0 → (holds ≡ false) × (rest ≡ 0)
passed code rest true some none = absurd (omega (arith, some, none))
passed code rest false some none = (refl, none)

-- why a fleet isn't refused
pub record MayLeave (account : Account) (planet : Planet) (to : Option Planet) (errand : ErrandRecord) : Type 0 where
  pub has : has_ships planet.units errand.ships.n ≡ true
  pub goes : can_go account.player (errand_seen errand) (own_of to) ≡ true
  pub pays : can_pay (fields_of planet).stock (load_of (account_fields account) (errand_seen errand)) ≡ true

pub may_leave : (company : Company) (second : ℕ) (account : Account) (fleets : List Fleet) (planet : Planet) (to : Option Planet) (errand : ErrandRecord) → refusal_in company second account fleets planet to errand ≡ 0
    → MayLeave account planet to errand
unfolding refusal_in
may_leave company second account fleets planet to errand none =
    let load = load_of (account_fields account) (errand_seen errand) in
    let group = passed NO_FLEET _ company.is_missing (omega arith) none in
    let room = passed GROUP_FULL _ (nat_le MOST_IN_GROUP company.others) (omega arith) group.1 in
    let ships = passed NO_SHIPS _ (not (has_ships planet.units errand.ships.n)) (omega arith) room.1 in
    let goes = passed BAD_MISSION _ (not (can_go account.player (errand_seen errand) (own_of to))) (omega arith) ships.1 in
    let slot = passed NO_SLOT _ (nat_le (slots_of (account_fields account)) (length (own_fleets account.player fleets))) (omega arith) goes.1 in
    let late = passed TOO_LATE _ (nat_lt company.second second) (omega arith) slot.1 in
    let fits = passed NO_ROOM _ (not (has_room (account_fields account) (errand_seen errand))) (omega arith) late.1 in
    let pays = passed POOR _ (not (can_pay (fields_of planet).stock load)) (omega arith) fits.1 in
    record {
      has = not-false (has_ships planet.units errand.ships.n) ships.0;
      goes = not-false (can_go account.player (errand_seen errand) (own_of to)) goes.0;
      pays = not-false (can_pay (fields_of planet).stock load) pays.0;
    }

-- the fleet by what the request goes by, at these places
flight_is : (purpose : Purpose) (sight : Sight) (player who : Player) (errand : Errand) (account : AccountFields) (target : Own) (fleets : List Fleet) (rules : Rules) (moment : ℕ) → sight.rules ≡ rules → sight.number ≡ 0
    → sight.moment ≡ moment → player ≡ who → own_seen sight (PlanetId errand.to) ≡ target → (sight.seen (PlanetId errand.to)).fleets ≡ fleets
    → flight purpose sight player errand account
    ≡ with_group (company_of purpose errand.to fleets (moment + seconds_to rules.speed account errand)).group (company_of purpose errand.to fleets (moment + seconds_to rules.speed account errand)).second
    (launched rules.speed 0 moment who account (owner_there who target) errand)
unfolding flight
flight_is (Flies mission) sight player who errand account target fleets rules moment ruled undrawn at whose there near =
    λ i. launched (ruled i).speed (undrawn i) (at i) (whose i) account (owner_there (whose i) (there i)) errand
flight_is (Joins group) sight player who errand account target fleets rules moment ruled undrawn at whose there near =
    λ i. with_group group.f (arrival_of (raiders errand.to group.f (near i))) (launched (ruled i).speed (undrawn i) (at i) (whose i) account (owner_there (whose i) (there i)) errand)

-- is the one by the parts
fleet_same : (sight : Sight) (player : Player) (rules : Rules) (moment : ℕ) (errand : ErrandRecord) (parts : Parts) (account : Account) (planet : Planet) → AreShown sight player rules moment (sends_for errand) parts
    → parts.caller ≡ Some account → parts.from ≡ Some planet → same_coord errand.from errand.to ≡ false
    → flight errand.purpose sight player (errand_seen errand) (account_fields account) ≡ fleet_sent rules.speed moment account parts.fleets parts.to errand
fleet_same sight player rules moment errand parts account planet shown here stands apart =
    let whose : player ≡ account.player = sym (caller_is sight player rules moment (sends_for errand) parts account shown here) in
    let target : own_seen sight (PlanetId errand.to) ≡ own_of parts.to = ap (λ (x : View). x.own) (target_own sight player rules moment errand parts shown apart).seen ∙ own_is parts.to parts.fleets.to in
    flight_is errand.purpose sight player account.player (errand_seen errand) (account_fields account) (own_of parts.to) (fleets_there errand parts.to parts.fleets) rules moment shown.rules_are shown.number_is shown.moment_is
    whose target (fleets_same sight player rules moment errand parts planet shown stands)

-- the target isn't the origin
elsewhere_goes : (player : Player) (errand : ErrandRecord) (target : Own) → can_go player (errand_seen errand) target ≡ true → same_coord errand.from errand.to ≡ false
elsewhere_goes player errand target goes = (goes-to player (errand_seen errand) target goes).elsewhere

queues_stay : (sight : Sight) (change : Change) (cell : CellId) (old : View) → sight.seen cell ≡ old → ((class : QueueClass) → change.requeued cell class ≡ false) → (class : QueueClass) → old.queue class ≡ queue_after sight change cell class
queues_stay sight change cell old is stays class =
    ap (λ (x : View). x.queue class) (sym is) ∙ sym (ap (λ (b : Bool). if b then change.items else (sight.seen cell).queue class) (stays class))

queue_same : (old new : Planet) → buildings_of new ≡ buildings_of old → batches_of new ≡ batches_of old → (class : QueueClass) → queue_of new class ≡ queue_of old class
queue_same old new buildings yard Buildings = buildings
queue_same old new buildings yard Researches = refl
queue_same old new buildings yard Yard = yard

-- a planet after a change that writes no queue anew
pub planet_left : (sight : Sight) (change : Change) (at : Coord) (old new : Planet) (fleets left : List Fleet) → sight.seen (PlanetId at) ≡ planet_seen (Some old) fleets → of_planet (fields_of new) ≡ change.own (PlanetId at)
    → buildings_of new ≡ buildings_of old → batches_of new ≡ batches_of old → ((class : QueueClass) → change.requeued (PlanetId at) class ≡ false) → left ≡ fleets_after change (PlanetId at) fleets
    → planet_seen (Some new) left ≡ seen_after sight change (PlanetId at)
planet_left sight change at old new fleets left is own buildings yard stays flown =
    view_left sight change (PlanetId at) (planet_seen (Some old) fleets) (planet_seen (Some new) left) is own
    (λ class. queue_same old new buildings yard class ∙ queues_stay sight change (PlanetId at) (planet_seen (Some old) fleets) is stays class) flown refl refl

-- and an account
pub account_left : (sight : Sight) (change : Change) (player : Player) (account : Account) (fleets left : List Fleet) → sight.seen (AccountId player) ≡ account_seen (Some account) fleets
    → of_account (account_fields account) ≡ change.own (AccountId player) → ((class : QueueClass) → change.requeued (AccountId player) class ≡ false) → left ≡ fleets_after change (AccountId player) fleets
    → account_seen (Some account) left ≡ seen_after sight change (AccountId player)
account_left sight change player account fleets left is own stays flown =
    view_left sight change (AccountId player) (account_seen (Some account) fleets) (account_seen (Some account) left) is own
    (queues_stay sight change (AccountId player) (account_seen (Some account) fleets) is stays) flown refl refl

-- a planet stands at the target
stands_there : (planet : Option Planet) (fields : PlanetFields) → own_of planet ≡ of_planet fields → (there : Planet) × (planet ≡ Some there)
stands_there None fields is = absurd cc
stands_there (Some planet) fields is = (planet, refl)

target_there : (account : Account) (to : Option Planet) (errand : ErrandRecord) → can_go account.player (errand_seen errand) (own_of to) ≡ true → (there : Planet) × (to ≡ Some there)
target_there account to errand goes = let reached = goes-to account.player (errand_seen errand) (own_of to) goes in stands_there to reached.to reached.reaches

-- what follows for what is there from two facts
pub linked_both : {A : Type 0} (found : Option A) (P Q R : A → Type 0) → ((x : A) → P x → Q x → R x) → IfSome found P → IfSome found Q → IfSome found R
linked_both None P Q R follows first second = first
linked_both (Some x) P Q R follows first second = follows x first second

pub sent_comes : (sight : Sight) (player : Player) (rules : Rules) (moment : ℕ) (errand : ErrandRecord) (old new : Parts) (account : Account) (old_planet planet : Planet) (acted : Acted) → AreShown sight player rules moment (sends_for errand) old
    → old.caller ≡ Some account → old.from ≡ Some old_planet → old_planet.owner.k ≡ account.player.k → refusal_of rules.speed moment account old.fleets old_planet old.to errand ≡ 0
    → new.caller ≡ old.caller → new.from ≡ Some planet → new.to ≡ old.to → new.to_owner ≡ old.to_owner
    → IsSent rules.speed moment account old.to old.to_owner errand old_planet planet old.fleets new.fleets acted
    → Comes sight player (sends_for errand) (outcome sight player (sends_for errand)) old new acted
sent_comes sight player rules moment errand old new account old_planet planet acted shown here stands own granted left_caller left_planet left_to left_owner sent =
    let company = company_sent rules.speed moment account old.fleets old.to errand in
    let may = may_leave company (arrival_alone rules.speed moment account errand) account old.fleets.caller old_planet old.to errand granted in
    let apart = elsewhere_goes account.player errand (own_of old.to) may.goes in
    let grant = leaves_for sight player errand account old_planet in
    let came : outcome sight player (sends_for errand) ≡ grant =
    goes_on sight player rules moment errand old account old_planet shown here stands own ∙ unless_granted sight (refusal_of rules.speed moment account old.fleets old_planet old.to errand) grant granted in
    let change = grant.change in
    let sent_fleet = fleet_sent rules.speed moment account old.fleets old.to errand in
    let fleet = flight errand.purpose sight player (errand_seen errand) (account_fields account) in
    let same : fleet ≡ sent_fleet = fleet_same sight player rules moment errand old account old_planet shown here stands apart in
    let whose : account.player ≡ player = caller_is sight player rules moment (sends_for errand) old account shown here in
    let joined : (cell : CellId) (fleets : List Fleet) → AllBelong cell fleets → joined_in cell sent_fleet fleets ≡ fleets_after change cell fleets =
    λ cell fleets belong. ap (λ (x : Fleet). joined_in cell x fleets) (sym same) ∙ joined_is (with_planet sight errand.from (departed (account_fields account) (fields_of old_planet) (errand_seen errand))) fleet cell fleets belong in
    let view : sight.seen (AccountId player) ≡ account_seen (Some account) old.fleets.caller = shown.caller ∙ ap (λ (x : Option Account). account_seen x old.fleets.caller) here in
    let seen_from = origin_seen sight player rules moment errand old shown in
    let place_view : sight.seen (PlanetId errand.from) ≡ planet_seen (Some old_planet) old.fleets.from = seen_from.seen ∙ ap (λ (x : Option Planet). planet_seen x old.fleets.from) stands in
    let belong_caller = subst (λ (x : View). AllBelong (AccountId player) x.fleets) view (shown.belong (AccountId player)) in
    let belong_from = subst (λ (x : View). AllBelong (PlanetId errand.from) x.fleets) place_view (shown.belong (PlanetId errand.from)) in
    let seen_to = target_own sight player rules moment errand old shown apart in
    let target = target_there account old.to errand may.goes in
    let target_view : sight.seen (PlanetId errand.to) ≡ planet_seen (Some target.0) old.fleets.to = seen_to.seen ∙ ap (λ (x : Option Planet). planet_seen x old.fleets.to) target.1 in
    let belong_to = subst (λ (x : View). AllBelong (PlanetId errand.to) x.fleets) target_view (shown.belong (PlanetId errand.to)) in
    let units : (sight.seen (AccountId player)).units ≡ (sight.seen (AccountId player)).units + units_ordered (sends_for errand) = omega (arith, none_ordered errand.purpose errand) in
    let caller_left : account_seen new.caller new.fleets.caller ≡ seen_after sight change (AccountId player) =
    (λ i. account_seen ((left_caller ∙ here) i) (sent.joined.caller i))
    ∙ ap (λ (x : Player). account_seen (Some account) (joined_in (AccountId x) sent_fleet old.fleets.caller)) whose
    ∙ account_left sight change player account old.fleets.caller (joined_in (AccountId player) sent_fleet old.fleets.caller) view (ap (λ (x : View). x.own) (sym view)) (λ class. refl)
    (joined (AccountId player) old.fleets.caller belong_caller) in
    let from_left : planet_seen new.from new.fleets.from ≡ seen_after sight change (PlanetId errand.from) =
    (λ i. planet_seen (left_planet i) (sent.joined.from i))
    ∙ planet_left sight change errand.from old_planet planet old.fleets.from (joined_in (PlanetId errand.from) sent_fleet old.fleets.from) place_view
    (rw (place_itself errand.from) (ap of_planet sent.fields)) sent.keeps.buildings sent.keeps.yard (λ class. refl) (joined (PlanetId errand.from) old.fleets.from belong_from) in
    let to_left : planet_seen new.to new.fleets.to ≡ seen_after sight change (PlanetId errand.to) =
    (λ i. planet_seen ((left_to ∙ target.1) i) (sent.joined.to i))
    ∙ planet_left sight change errand.to target.0 target.0 old.fleets.to (joined_in (PlanetId errand.to) sent_fleet old.fleets.to) target_view
    (subst (λ (b : Bool). of_planet (fields_of target.0) ≡ (if b then of_planet (departed (account_fields account) (fields_of old_planet) (errand_seen errand)) else own_seen sight (PlanetId errand.to))) (sym apart)
    (ap (λ (x : View). x.own) (sym target_view))) refl refl (λ class. refl) (joined (PlanetId errand.to) old.fleets.to belong_to) in
    let left_there : IsLeftAs sight change errand.to new.to new.fleets.to =
    record { place = subst (λ (x : Option Planet). IfSome x (λ p. p.at ≡ errand.to)) (sym left_to) seen_to.place; seen = to_left } in
    let comes : Comes sight player (sends_for errand) grant old new acted =
    record {
      code = sent.code;
      body = sent.body ∙ ap (λ (x : Fleet). arrives_line x.second (fuel_of (account_fields account) (errand_seen errand))) (sym same);
      whose = some_into new.caller (λ x. x.player ≡ player) account (left_caller ∙ here) whose;
      caller = caller_left ∙ (λ i. record (seen_after sight change (AccountId player)) { units = units i });
      from =
          some_into (from_place player old.fleets.caller (sends_for errand)) (λ at. IsLeftAs sight change at new.from new.fleets.from) errand.from (from_is errand.purpose player old.fleets.caller errand)
          (record { place = some_into new.from (λ x. x.at ≡ errand.from) planet left_planet (sent.keeps.at ∙ some_of old.from (λ x. x.at ≡ errand.from) old_planet stands seen_from.place); seen = from_left });
      to =
          subst (λ (x : Option Coord). IfSome x (λ at. IsLeftAs sight change at new.to new.fleets.to)) (sym (to_is errand.purpose player old.fleets.caller errand))
          (subst (λ (b : Bool). IfSome (if b then None else Some errand.to) (λ at. IsLeftAs sight change at new.to new.fleets.to)) (sym apart) left_there);
      to_owner = left_owner;
      linked = linked_both old.to_owner (λ x. new.fleets.to_owner ≡ joined_in (AccountId x.player) sent_fleet old.fleets.to_owner) (λ x. AllBelong (AccountId x.player) old.fleets.to_owner)
          (λ x. new.fleets.to_owner ≡ fleets_after change (AccountId x.player) old.fleets.to_owner)
          (λ x is belong. is ∙ joined (AccountId x.player) old.fleets.to_owner belong) sent.joined.to_owner shown.to_owner;
    } in
    subst (λ (x : Outcome). Comes sight player (sends_for errand) x old new acted) (sym came) comes
