-- What a request about the caller's own planet makes of the caller's account and of that planet.
use Rattle.std.specs.Prelude.{◌≡◌, ℕ, ◌+◌, ◌==◌, ◌≤◌, List, [], ◌∷◌, Option, None, Some, IsTrue, sum, if◌then◌else◌}
use Rattle.account_cell.specs.declared.account.Account.{Account}
use Rattle.account_cell.specs.Account.{account_fields}
use Rattle.base_ids.specs.Cells.{same_player}
use Rattle.base_ids.specs.declared.cell_id.CellId.{CellId}
use Rattle.base_ids.specs.declared.cell_id.CellId.TheVariants.{Account as AccountId, Planet as PlanetId}
use Rattle.catalog.specs.declared.kind.Kind.{Kind}
use Rattle.orders.specs.Acting.{AllBelong, account_seen, planet_seen, seen_after}
use Rattle.orders.specs.declared.parts.Acted.{Acted}
use Rattle.planet_cell.specs.Planet.{batches_of, fields_of}
use Rattle.planet_cell.specs.declared.planet.Planet.{Planet}
use Rattle.reply_text.specs.OrderLines.{starts_line, waits_line}
use Rattle.request_text.specs.declared.request.Request.{Request}
use Rattle.request_text.specs.declared.request.Request.TheVariants.{Planet as PlanetOf, Build, Research, Yard as YardOf, Set}
use Rattle.tick_model.specs.Changes.{Change}
use Rattle.tick_model.specs.Requests.{Outcome, Sight, builds, refused, researches, sets, shows, yards}
use Rattle.tick_model.specs.Researches.{pays_research}
use Rattle.tick_model.specs.Universe.{AccountFields, Fleet, Item, PlanetFields}
use Rattle.tick_model.specs.Views.{units_left}
use Rattle.tick_model.specs.declared.codes.TheConstants.{NO_PLANET}
use Rattle.tick_model.specs.declared.placed.Placed.{Placed}
use Rattle.tick_model.specs.declared.placed.Placed.TheVariants.{Starts, Waits}
use Rattle.tick_model.specs.declared.rules.Rules.{Rules}

-- If the planet is the account's, the account counts its units, those that its yard is to build included.
abbrev pub CountsUnits : Account → Planet → Type 0
CountsUnits account planet = IsTrue (same_player planet.owner account.player) → sum planet.units + units_left (batches_of planet) ≤ account.units

-- The caller's account, if it is there, counts the units of the planet at the place, if that is there and is the caller's.
abbrev pub AreCounted : Option Account → Option Planet → Type 0
AreCounted (Some account) (Some planet) = CountsUnits account planet
AreCounted (Some account) None = Unit {0}
AreCounted None planet = Unit {0}

-- the forms of requests about a planet of the caller's
abbrev pub IsAtPlace : Request → Type 0
IsAtPlace (PlanetOf at) = Unit {0}
IsAtPlace (Build at building) = Unit {0}
IsAtPlace (Research at technology) = Unit {0}
IsAtPlace (YardOf at unit count) = Unit {0}
IsAtPlace (Set at work tenths) = Unit {0}
IsAtPlace _ = ⊥

-- An account and a planet are what is seen of their cells, but for the fleets, at a moment, by a request whose number isn't drawn yet.
pub record IsSeen (sight : Sight) (rules : Rules) (moment : ℕ) (account : Account) (planet : Planet) : Type 0 where
  pub rules_are : sight.rules ≡ rules
  pub moment_is : sight.moment ≡ moment
  pub number_is : sight.number ≡ 0
  pub belong : (cell : CellId) → AllBelong cell (sight.seen cell).fleets
  pub account_is : sight.seen (AccountId account.player) ≡ account_seen (Some account) (sight.seen (AccountId account.player)).fleets
  pub planet_is : sight.seen (PlanetId planet.at) ≡ planet_seen (Some planet) (sight.seen (PlanetId planet.at)).fleets

-- a change leaves all fleets as they are
pub record LeavesFleets (change : Change) : Type 0 where
  pub stays : change.fleet ≡ Some
  pub none_sent : change.sent ≡ []

-- The code and the lines are those of an outcome, by which so many units may be ordered, and the account and the planet are left as it
-- says, and all fleets as they are.
pub record IsOutcome (sight : Sight) (units : ℕ) (came : Outcome) (account : Account) (planet : Planet) (acted : Acted) : Type 0 where
  pub code : acted.code ≡ came.answer.code
  pub body : acted.body ≡ came.answer.body
  pub fleets_stay : LeavesFleets came.change
  pub account_left : account_seen (Some account) (sight.seen (AccountId account.player)).fleets
      ≡ record (seen_after sight came.change (AccountId account.player)) { units = (sight.seen (AccountId account.player)).units + (if came.answer.code == 0 then units else 0) }
  pub planet_left : planet_seen (Some planet) (sight.seen (PlanetId planet.at)).fleets ≡ seen_after sight came.change (PlanetId planet.at)

-- whatever is seen, if it is the account and the planet as they were, the answer and both of them are as the outcome says
abbrev pub Follows : Rules → ℕ → ℕ → (Sight → Outcome) → Account → Planet → Account → Planet → Acted → Type 0
Follows rules moment units outcome_of old_account old_planet account planet acted =
    (sight : Sight) → IsSeen sight rules moment old_account old_planet → IsOutcome sight units (outcome_of sight) account planet acted

-- what comes of a request about the caller's own planet
abbrev pub on_planet : Request → Account → Planet → Sight → Outcome
on_planet (PlanetOf at) account planet sight = shows sight planet.at (account_fields account) (fields_of planet)
on_planet (Build at building) account planet sight = builds sight planet.at building.kind (account_fields account) (fields_of planet)
on_planet (Research at technology) account planet sight = researches sight account.player planet.at technology.kind (account_fields account) (fields_of planet)
on_planet (YardOf at unit count) account planet sight = yards sight account.player planet.at unit.kind count.n (account_fields account) (fields_of planet)
on_planet (Set at work tenths) account planet sight = sets sight planet.at work.kind tenths.n (account_fields account) (fields_of planet)
on_planet _ account planet sight = refused sight NO_PLANET

-- An account and a planet show the same as before, whatever fleets belong to them.
pub record AreHeld (old_account : Account) (old_planet : Planet) (account : Account) (planet : Planet) : Type 0 where
  pub account_is : (fleets : List Fleet) → account_seen (Some account) fleets ≡ account_seen (Some old_account) fleets
  pub planet_is : (fleets : List Fleet) → planet_seen (Some planet) fleets ≡ planet_seen (Some old_planet) fleets

-- the planet that pays for a technology: in an empty queue it starts at once
abbrev pub research_paid : AccountFields → PlanetFields → List Item → Kind → PlanetFields
research_paid account planet [] kind = pays_research account planet kind
research_paid account planet (first ∷ later) kind = planet

-- the line that answers an order
abbrev pub order_line : Placed → List ℕ
order_line (Starts amount second) = starts_line amount second
order_line (Waits place) = waits_line place
