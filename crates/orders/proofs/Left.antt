-- How an account and a planet are left.
use Rattle.std.proofs.Common.{◌≡◌, ◌⊎◌, ℕ, ◌+◌, ◌++◌, Bool, true, false, inl, inr, List, [], refl, ap, sym, subst, ◌∙◌, arith}
use Rattle.std.specs.Prelude.{Some, ◌==◌, filter, filter_map, if◌then◌else◌}
use Rattle.std.proofs.lemmas.Bool.Decides.{nat_tests}
use Rattle.std.proofs.lemmas.List.{append-nil}
use Rattle.account_cell.specs.Account.{account_fields, account_queue, research_of}
use Rattle.account_cell.specs.declared.account.Account.{Account}
use Rattle.base_ids.specs.Cells.{same_cell}
use Rattle.base_ids.specs.declared.cell_id.CellId.{CellId}
use Rattle.base_ids.specs.declared.cell_id.CellId.TheVariants.{Account as AccountId, Planet as PlanetId}
use Rattle.base_ids.specs.declared.coord.Coord.{Coord}
use Rattle.base_ids.specs.declared.player.Player.{Player}
use Rattle.orders.specs.Acting.{AllBelong, account_seen, fleets_after, planet_seen, queue_after, seen_after}
use Rattle.orders.specs.Granting.{IsOutcome, IsSeen, LeavesFleets}
use Rattle.orders.specs.declared.parts.Acted.{Acted}
use Rattle.planet_cell.specs.Planet.{batches_of, buildings_of, fields_of, queue_of}
use Rattle.planet_cell.specs.declared.planet.Planet.{Planet}
use Rattle.tick_model.proofs.Lists.{filter_map-all}
use Rattle.tick_model.specs.Changes.{Change, new_queue, no_change}
use Rattle.tick_model.specs.Requests.{Answer, Outcome, Sight, granted}
use Rattle.tick_model.specs.Universe.{Buildings, Fleet, Item, Own, QueueClass, Researches, Yard, of_account, of_planet}
use Rattle.tick_model.specs.Views.{View, belongs}
use Rattle.tick_model.specs.declared.rules.Rules.{Rules}

-- a test passes or fails
pub test : (b : Bool) → (b ≡ true) ⊎ (b ≡ false)
test true = inl refl
test false = inr refl

pub place_itself : (at : Coord) → same_cell (PlanetId at) (PlanetId at) ≡ true
place_itself at = grind (arith, nat_tests)

pub player_itself : (player : Player) → same_cell (AccountId player) (AccountId player) ≡ true
player_itself player = grind (arith, nat_tests)

-- if a change leaves all fleets, those that belong to a cell stay
pub fleets_stay : (change : Change) (cell : CellId) (fleets : List Fleet) → LeavesFleets change → AllBelong cell fleets → fleets_after change cell fleets ≡ fleets
fleets_stay change cell fleets leaves belong =
    (λ i. filter (belongs cell) (filter_map (leaves.stays i) fleets) ++ filter (belongs cell) (leaves.none_sent i))
    ∙ append-nil (filter (belongs cell) (filter_map Some fleets))
    ∙ ap (filter (belongs cell)) (filter_map-all fleets)
    ∙ belong

-- what is seen of an account after a change
account_after : (sight : Sight) (change : Change) (extra : ℕ) (old new : Account) → LeavesFleets change → AllBelong (AccountId old.player) (sight.seen (AccountId old.player)).fleets
    → sight.seen (AccountId old.player) ≡ account_seen (Some old) (sight.seen (AccountId old.player)).fleets
    → change.own (AccountId old.player) ≡ of_account (account_fields new) → ((class : QueueClass) → queue_after sight change (AccountId old.player) class ≡ account_queue new class)
    → new.planets.items ≡ old.planets.items → new.units ≡ old.units + extra
    → account_seen (Some new) (sight.seen (AccountId old.player)).fleets ≡ record (seen_after sight change (AccountId old.player)) { units = (sight.seen (AccountId old.player)).units + extra }
account_after sight change extra old new leaves belong seen own queue planets units =
    let cell = AccountId old.player in
    let back : account_seen (Some old) (sight.seen cell).fleets ≡ sight.seen cell = sym seen in
    let fleets : (sight.seen cell).fleets ≡ fleets_after change cell (sight.seen cell).fleets = sym (fleets_stay change cell (sight.seen cell).fleets leaves belong) in
    let places : new.planets.items ≡ (sight.seen cell).planets = planets ∙ ap (λ (x : View). x.planets) back in
    let total : new.units ≡ (sight.seen cell).units + extra = units ∙ ap (λ (x : View). x.units + extra) back in
    let owns : of_account (account_fields new) ≡ change.own cell = sym own in
    let queues : (class : QueueClass) → account_queue new class ≡ queue_after sight change cell class = λ class. sym (queue class) in
    λ i. record { own = owns i; queue = λ class. queues class i; fleets = fleets i; planets = places i; units = total i }

-- and of a planet
planet_after : (sight : Sight) (change : Change) (old new : Planet) → LeavesFleets change → AllBelong (PlanetId old.at) (sight.seen (PlanetId old.at)).fleets
    → sight.seen (PlanetId old.at) ≡ planet_seen (Some old) (sight.seen (PlanetId old.at)).fleets
    → change.own (PlanetId old.at) ≡ of_planet (fields_of new) → ((class : QueueClass) → queue_after sight change (PlanetId old.at) class ≡ queue_of new class)
    → planet_seen (Some new) (sight.seen (PlanetId old.at)).fleets ≡ seen_after sight change (PlanetId old.at)
planet_after sight change old new leaves belong seen own queue =
    let cell = PlanetId old.at in
    let back : planet_seen (Some old) (sight.seen cell).fleets ≡ sight.seen cell = sym seen in
    let fleets : (sight.seen cell).fleets ≡ fleets_after change cell (sight.seen cell).fleets = sym (fleets_stay change cell (sight.seen cell).fleets leaves belong) in
    let places : [] ≡ (sight.seen cell).planets = ap (λ (x : View). x.planets) back in
    let total : 0 ≡ (sight.seen cell).units = ap (λ (x : View). x.units) back in
    let owns : of_planet (fields_of new) ≡ change.own cell = sym own in
    let queues : (class : QueueClass) → queue_of new class ≡ queue_after sight change cell class = λ class. sym (queue class) in
    λ i. record { own = owns i; queue = λ class. queues class i; fleets = fleets i; planets = places i; units = total i }

-- What an outcome leaves of an account and a planet: what they have of their own, their queues, and how many units the account has.
pub record IsLeft (sight : Sight) (units : ℕ) (came : Outcome) (old_account : Account) (old_planet : Planet) (account : Account) (planet : Planet) : Type 0 where
  pub leaves : LeavesFleets came.change
  pub player : account.player ≡ old_account.player
  pub at : planet.at ≡ old_planet.at
  pub account_own : came.change.own (AccountId old_account.player) ≡ of_account (account_fields account)
  pub account_queues : (class : QueueClass) → queue_after sight came.change (AccountId old_account.player) class ≡ account_queue account class
  pub planets : account.planets.items ≡ old_account.planets.items
  pub total : account.units ≡ old_account.units + (if came.answer.code == 0 then units else 0)
  pub planet_own : came.change.own (PlanetId old_planet.at) ≡ of_planet (fields_of planet)
  pub planet_queues : (class : QueueClass) → queue_after sight came.change (PlanetId old_planet.at) class ≡ queue_of planet class

pub is_outcome : (sight : Sight) (rules : Rules) (moment units : ℕ) (came : Outcome) (old_account : Account) (old_planet : Planet) (account : Account) (planet : Planet) (acted : Acted)
    → IsSeen sight rules moment old_account old_planet → IsLeft sight units came old_account old_planet account planet → acted.code ≡ came.answer.code → acted.body ≡ came.answer.body
    → IsOutcome sight units came account planet acted
is_outcome sight rules moment units came old_account old_planet account planet acted seen left code body =
    let extra = if came.answer.code == 0 then units else 0 in
    let account_family = λ (x : Player). account_seen (Some account) (sight.seen (AccountId x)).fleets ≡ record (seen_after sight came.change (AccountId x)) { units = (sight.seen (AccountId x)).units + extra } in
    let planet_family = λ (x : Coord). planet_seen (Some planet) (sight.seen (PlanetId x)).fleets ≡ seen_after sight came.change (PlanetId x) in
    record {
      code = code;
      body = body;
      fleets_stay = left.leaves;
      account_left =
          subst account_family (sym left.player)
          (account_after sight came.change extra old_account account left.leaves (seen.belong (AccountId old_account.player)) seen.account_is left.account_own left.account_queues left.planets left.total);
      planet_left =
          subst planet_family (sym left.at)
          (planet_after sight came.change old_planet planet left.leaves (seen.belong (PlanetId old_planet.at)) seen.planet_is left.planet_own left.planet_queues);
    }

-- an outcome that changes nothing
pub unchanged : (sight : Sight) (rules : Rules) (moment units : ℕ) (answer : Answer) (account : Account) (planet : Planet) (acted : Acted) → IsSeen sight rules moment account planet
    → acted.code ≡ answer.code → acted.body ≡ answer.body → (if answer.code == 0 then units else 0) ≡ 0
    → IsOutcome sight units (record { answer = answer; change = no_change sight.seen }) account planet acted
unchanged sight rules moment units answer account planet acted seen code body none =
    let total : account.units ≡ account.units + (if answer.code == 0 then units else 0) = omega arith in
    is_outcome sight rules moment units (record { answer = answer; change = no_change sight.seen }) account planet account planet acted seen
    (record {
      leaves = record { stays = refl; none_sent = refl };
      player = refl;
      at = refl;
      account_own = ap (λ (x : View). x.own) seen.account_is;
      account_queues = λ class. ap (λ (x : View). x.queue class) seen.account_is;
      planets = refl;
      total = total;
      planet_own = ap (λ (x : View). x.own) seen.planet_is;
      planet_queues = λ class. ap (λ (x : View). x.queue class) seen.planet_is;
    })
    code
    body

-- the queues of a planet whose building queue is written anew
building_queues : (sight : Sight) (own : CellId → Own) (items : List Item) (old new : Planet) → sight.seen (PlanetId old.at) ≡ planet_seen (Some old) (sight.seen (PlanetId old.at)).fleets → buildings_of new ≡ items → batches_of new ≡ batches_of old
    → (class : QueueClass) → queue_after sight (new_queue own (PlanetId old.at) Buildings items) (PlanetId old.at) class ≡ queue_of new class
building_queues sight own items old new seen buildings yard Buildings = rw (place_itself old.at) (sym buildings)
building_queues sight own items old new seen buildings yard Researches = rw (place_itself old.at) (ap (λ (x : View). x.queue Researches) seen)
building_queues sight own items old new seen buildings yard Yard = rw (place_itself old.at) (ap (λ (x : View). x.queue Yard) seen ∙ sym yard)

-- or its yard
yard_queues : (sight : Sight) (own : CellId → Own) (items : List Item) (old new : Planet) → sight.seen (PlanetId old.at) ≡ planet_seen (Some old) (sight.seen (PlanetId old.at)).fleets → batches_of new ≡ items → buildings_of new ≡ buildings_of old
    → (class : QueueClass) → queue_after sight (new_queue own (PlanetId old.at) Yard items) (PlanetId old.at) class ≡ queue_of new class
yard_queues sight own items old new seen yard buildings Buildings = rw (place_itself old.at) (ap (λ (x : View). x.queue Buildings) seen ∙ sym buildings)
yard_queues sight own items old new seen yard buildings Researches = rw (place_itself old.at) (ap (λ (x : View). x.queue Researches) seen)
yard_queues sight own items old new seen yard buildings Yard = rw (place_itself old.at) (sym yard)

-- or the research queue of an account
research_queues : (sight : Sight) (own : CellId → Own) (items : List Item) (old new : Account) → sight.seen (AccountId old.player) ≡ account_seen (Some old) (sight.seen (AccountId old.player)).fleets → research_of new ≡ items
    → (class : QueueClass) → queue_after sight (new_queue own (AccountId old.player) Researches items) (AccountId old.player) class ≡ account_queue new class
research_queues sight own items old new seen research Buildings = rw (player_itself old.player) (ap (λ (x : View). x.queue Buildings) seen)
research_queues sight own items old new seen research Researches = rw (player_itself old.player) (sym research)
research_queues sight own items old new seen research Yard = rw (player_itself old.player) (ap (λ (x : View). x.queue Yard) seen)

-- the queues of an account that stay
stay_queues : (old new : Account) (seen : View) → seen ≡ account_seen (Some old) seen.fleets → research_of new ≡ research_of old → (class : QueueClass) → seen.queue class ≡ account_queue new class
stay_queues old new seen is research Buildings = ap (λ (x : View). x.queue Buildings) is
stay_queues old new seen is research Researches = ap (λ (x : View). x.queue Researches) is ∙ sym research
stay_queues old new seen is research Yard = ap (λ (x : View). x.queue Yard) is

-- a building joins the queue of a planet
pub building_joins : (sight : Sight) (rules : Rules) (moment : ℕ) (own : CellId → Own) (body : List ℕ) (items : List Item) (account : Account) (old new : Planet) (acted : Acted) → IsSeen sight rules moment account old
    → acted.code ≡ 0 → acted.body ≡ body → new.at ≡ old.at → own (PlanetId old.at) ≡ of_planet (fields_of new) → own (AccountId account.player) ≡ (sight.seen (AccountId account.player)).own
    → buildings_of new ≡ items → batches_of new ≡ batches_of old
    → IsOutcome sight 0 (granted body (new_queue own (PlanetId old.at) Buildings items)) account new acted
building_joins sight rules moment own body items account old new acted seen code text at planet_own account_own buildings yard =
    let total : account.units ≡ account.units + 0 = omega arith in
    is_outcome sight rules moment 0 (granted body (new_queue own (PlanetId old.at) Buildings items)) account old account new acted seen
    (record {
      leaves = record { stays = refl; none_sent = refl };
      player = refl;
      at = at;
      account_own = account_own ∙ ap (λ (x : View). x.own) seen.account_is;
      account_queues = λ class. ap (λ (x : View). x.queue class) seen.account_is;
      planets = refl;
      total = total;
      planet_own = planet_own;
      planet_queues = building_queues sight own items old new seen.planet_is buildings yard;
    })
    code
    text

-- a batch joins its yard, and the account has so many more units
pub batch_joins : (sight : Sight) (rules : Rules) (moment units : ℕ) (own : CellId → Own) (body : List ℕ) (items : List Item) (old_account account : Account) (old new : Planet) (acted : Acted)
    → IsSeen sight rules moment old_account old → acted.code ≡ 0 → acted.body ≡ body → new.at ≡ old.at → own (PlanetId old.at) ≡ of_planet (fields_of new)
    → own (AccountId old_account.player) ≡ (sight.seen (AccountId old_account.player)).own → batches_of new ≡ items → buildings_of new ≡ buildings_of old
    → account.player ≡ old_account.player → account_fields account ≡ account_fields old_account → account.planets.items ≡ old_account.planets.items → research_of account ≡ research_of old_account
    → account.units ≡ old_account.units + units
    → IsOutcome sight units (granted body (new_queue own (PlanetId old.at) Yard items)) account new acted
batch_joins sight rules moment units own body items old_account account old new acted seen code text at planet_own account_own yard buildings player fields planets research total =
    is_outcome sight rules moment units (granted body (new_queue own (PlanetId old.at) Yard items)) old_account old account new acted seen
    (record {
      leaves = record { stays = refl; none_sent = refl };
      player = player;
      at = at;
      account_own = account_own ∙ ap (λ (x : View). x.own) seen.account_is ∙ ap of_account (sym fields);
      account_queues = stay_queues old_account account (sight.seen (AccountId old_account.player)) seen.account_is research;
      planets = planets;
      total = total;
      planet_own = planet_own;
      planet_queues = yard_queues sight own items old new seen.planet_is yard buildings;
    })
    code
    text

pub same_queues : (old new : Planet) (seen : View) → seen ≡ planet_seen (Some old) seen.fleets → buildings_of new ≡ buildings_of old → batches_of new ≡ batches_of old → (class : QueueClass) → seen.queue class ≡ queue_of new class
same_queues old new seen is buildings yard Buildings = ap (λ (x : View). x.queue Buildings) is ∙ sym buildings
same_queues old new seen is buildings yard Researches = ap (λ (x : View). x.queue Researches) is
same_queues old new seen is buildings yard Yard = ap (λ (x : View). x.queue Yard) is ∙ sym yard

-- a technology joins the research queue of the account
pub research_joins : (sight : Sight) (rules : Rules) (moment : ℕ) (own : CellId → Own) (body : List ℕ) (items : List Item) (old_account account : Account) (old new : Planet) (acted : Acted)
    → IsSeen sight rules moment old_account old → acted.code ≡ 0 → acted.body ≡ body → new.at ≡ old.at → own (PlanetId old.at) ≡ of_planet (fields_of new)
    → own (AccountId old_account.player) ≡ (sight.seen (AccountId old_account.player)).own → buildings_of new ≡ buildings_of old → batches_of new ≡ batches_of old
    → account.player ≡ old_account.player → account_fields account ≡ account_fields old_account → account.planets.items ≡ old_account.planets.items → research_of account ≡ items → account.units ≡ old_account.units
    → IsOutcome sight 0 (granted body (new_queue own (AccountId old_account.player) Researches items)) account new acted
research_joins sight rules moment own body items old_account account old new acted seen code text at planet_own account_own buildings yard player fields planets research units =
    let total : account.units ≡ old_account.units + 0 = omega arith in
    is_outcome sight rules moment 0 (granted body (new_queue own (AccountId old_account.player) Researches items)) old_account old account new acted seen
    (record {
      leaves = record { stays = refl; none_sent = refl };
      player = player;
      at = at;
      account_own = account_own ∙ ap (λ (x : View). x.own) seen.account_is ∙ ap of_account (sym fields);
      account_queues = research_queues sight own items old_account account seen.account_is research;
      planets = planets;
      total = total;
      planet_own = planet_own;
      planet_queues = same_queues old new (sight.seen (PlanetId old.at)) seen.planet_is buildings yard;
    })
    code
    text
