-- Cells that gain until a moment, and the universe that they show.
use Rattle.std.proofs.Math.Path.{fun_ext}
use Rattle.account_cell.specs.Account.{AreSame as AreSameAccounts, account_queue, research_item, research_of}
use Rattle.account_cell.specs.declared.account.Account.{Account}
use Rattle.std.proofs.Common.{◌≡◌, ℕ, ◌-◌, zero, suc, cond, true, refl, ap, ◌∙◌, sym, subst, Option, Some, None}
use Rattle.std.specs.Prelude.{IfSome, is_some, option_map}
use Rattle.std.specs.BTreeMap.{get}
use Rattle.base_ids.specs.declared.cell_id.CellId.{CellId}
use Rattle.base_ids.specs.declared.cell_id.CellId.TheVariants.{Account as AccountId, Planet as PlanetId}
use Rattle.laziness.specs.Stamps.{Stamps, bring_to}
use Rattle.planet_cell.specs.Planet.{AreSame, batch_item_of, batches_of, buildings_of, fields_of, item_of, queue_of}
use Rattle.planet_cell.specs.declared.planet.Planet.{Planet}
use Rattle.rates.specs.Times.{times}
use Rattle.std.proofs.Common.{map}
use Rattle.tick_model.specs.Game.{game}
use Rattle.tick_model.specs.Production.{cell_second, gains, planet_second}
use Rattle.tick_model.specs.Universe.{of_account, of_planet, Buildings, Researches, Yard, QueueClass, Setting}
use Rattle.tick_model.specs.declared.rules.Rules.{Rules}
use Rattle.tick_model.proofs.Gains.{view-advanced}
use Rattle.happenings.specs.Gaining.{AccountsGain, Gains, GainsIn, KeepNames, KeepPlaces, PlanetsGain, gained}
use Rattle.happenings.specs.Held.{IsNamed, ShowsCell, Stand, account_stand, held_at, holds, planet_stand}
use Rattle.happenings.specs.Orders.{place_order, player_order}
use Rattle.happenings.specs.declared.held.AccountCell.{AccountCell}
use Rattle.happenings.specs.declared.held.Held.{Held}
use Rattle.happenings.specs.declared.held.PlanetCell.{PlanetCell}
use Rattle.happenings.proofs.Standing.{planet_seen, seen-gains}

-- accounts gain nothing
pub account-gains : (rules : Rules) (n : ℕ) (cell : AccountCell) → gains rules n (account_stand cell).seen ≡ (account_stand cell).seen
unfolding times
account-gains rules zero cell = refl
account-gains rules (suc n) cell = ap (cell_second rules) (account-gains rules n cell)

pub account_gained : (rules : Rules) (moment : ℕ) (cell copy : AccountCell) → account_stand copy ≡ record (account_stand cell) { second = moment }
    → account_stand copy ≡ gained rules moment (account_stand cell)
account_gained rules moment cell copy is = is ∙ (λ i. record { second = moment; seen = sym (account-gains rules (moment - cell.second) cell) i })

-- what is seen of a planet by what it has of its own and its queues
pub queue-same : (one other : Planet) → buildings_of one ≡ buildings_of other → batches_of one ≡ batches_of other → (class : QueueClass) → queue_of one class ≡ queue_of other class
queue-same one other buildings yard Buildings = buildings
queue-same one other buildings yard Researches = refl
queue-same one other buildings yard Yard = yard

-- a planet that gained
pub planet_gained_here : (rules : Rules) (second seconds : ℕ) (old new : PlanetCell) → new.second ≡ second → new.fleets ≡ old.fleets → seconds ≡ second - old.second
    → fields_of new.planet ≡ times seconds (planet_second rules.speed) (fields_of old.planet) → buildings_of new.planet ≡ buildings_of old.planet → batches_of new.planet ≡ batches_of old.planet
    → planet_stand new ≡ gained rules second (planet_stand old)
planet_gained_here rules second seconds old new stamp flown span fields buildings yard =
    let queue = fun_ext (queue-same new.planet old.planet buildings yard) in
    let seen : planet_seen (of_planet (fields_of new.planet)) (queue_of new.planet) new.fleets ≡ gains rules (second - old.second) (planet_stand old).seen =
    (λ i. planet_seen (of_planet (fields i)) (queue i) (flown i))
    ∙ (λ i. planet_seen (of_planet (times (span i) (planet_second rules.speed) (fields_of old.planet))) (queue_of old.planet) old.fleets)
    ∙ sym (seen-gains rules (second - old.second) (fields_of old.planet) (queue_of old.planet) old.fleets) in
    (λ i. record { second = stamp i; seen = seen i })

-- the same planet in other memory stands the same
pub same_stand : (one other : PlanetCell) → one.second ≡ other.second → AreSame one.planet other.planet → one.fleets ≡ other.fleets → planet_stand one ≡ planet_stand other
same_stand one other second same flown =
    let buildings : buildings_of one.planet ≡ buildings_of other.planet = (λ i. map (item_of (same.at i)) (same.buildings i)) in
    let yard : batches_of one.planet ≡ batches_of other.planet = (λ i. map (batch_item_of (same.at i)) (same.yard i)) in
    let queue = fun_ext (queue-same one.planet other.planet buildings yard) in
    (λ i. record { second = second i; seen = planet_seen (of_planet (same.fields i)) (queue i) (flown i) })

-- and so does the same account
pub same_account : (one other : AccountCell) → one.second ≡ other.second → AreSameAccounts one.account other.account → one.fleets ≡ other.fleets → account_stand one ≡ account_stand other
same_account one other second same flown =
    let research : research_of one.account ≡ research_of other.account = (λ i. map (research_item (same.player i)) (same.research i)) in
    let queue = fun_ext (account-queue-same one.account other.account research) in
    (λ i. record {
      second = second i;
      seen = record { own = of_account (record { techs = same.techs i }); queue = queue i; fleets = flown i; planets = same.planets i; units = same.units i };
    })
  where
    account-queue-same : (one other : Account) → research_of one ≡ research_of other → (class : QueueClass) → account_queue one class ≡ account_queue other class
    account-queue-same one other research Buildings = refl
    account-queue-same one other research Researches = research
    account-queue-same one other research Yard = refl

-- an account that comes to a moment has gained all that it gains
stamped : (rules : Rules) (moment : ℕ) (o : Option AccountCell) → option_map (λ (stand : Stand). record stand { second = moment }) (option_map account_stand o) ≡ option_map (gained rules moment) (option_map account_stand o)
stamped rules moment None = refl
stamped rules moment (Some cell) = ap Some (account_gained rules moment cell (record cell { second = moment }) refl)

-- the cells gained where the accounts and the planets did
pub gains_all : (rules : Rules) (moment : ℕ) (old new : Held) → AccountsGain moment old.accounts new.accounts → PlanetsGain rules moment old.planets new.planets → Gains rules moment old new
gains_all rules moment old new accounts planets (AccountId player) = accounts player ∙ stamped rules moment (get player_order old.accounts player)
gains_all rules moment old new accounts planets (PlanetId at) = planets at

named_still : {K X : Type 0} (name : X → K) (old new : Option X) (key : K) → option_map name new ≡ option_map name old → IfSome old (λ x. name x ≡ key) → IfSome new (λ x. name x ≡ key)
named_still name old None key same named = tt
named_still name None (Some y) key same named = absurd (cc same)
named_still name (Some x) (Some y) key same named = let here : name y ≡ name x = cc in here ∙ named

-- and each is still kept under its own name
pub names_kept : (old new : Held) → KeepNames old.accounts new.accounts → KeepPlaces old.planets new.planets → IsNamed old → IsNamed new
names_kept old new names places named = record {
  players = λ player. named_still (λ (cell : AccountCell). cell.account.player) (get player_order old.accounts player) (get player_order new.accounts player) player (names player) (named.players player);
  places = λ at. named_still (λ (cell : PlanetCell). cell.planet.at) (get place_order old.planets at) (get place_order new.planets at) at (places at) (named.places at);
}

shows-gained : (setting : Setting) (f : Stamps (game setting)) (old : Held) (moment : ℕ) (cell : CellId) (o : Option Stand) → held_at old cell ≡ o → IfSome o (ShowsCell setting f cell)
    → IfSome (option_map (gained setting.rules moment) o) (ShowsCell setting (bring_to (game setting) (holds old) moment f) cell)
shows-gained setting f old moment cell None is shown = tt
shows-gained setting f old moment cell (Some stand) is shown =
    let here : holds old cell ≡ true = ap is_some is in
    let seconds : moment - stand.second ≡ cond (holds old cell) (moment - f.at cell) 0 =
    ap (λ s. moment - s) shown.second ∙ sym (ap (λ b. cond b (moment - f.at cell) 0) here) in
    record {
      second = sym (ap (λ b. cond b moment (f.at cell)) here);
      seen = (λ i. gains setting.rules (seconds i) (shown.seen i)) ∙ sym (view-advanced setting (λ x. cond (holds old x) (moment - f.at x) 0) f.universe cell);
    }

-- the cells show the universe in which they gained
pub gains_in : (rules : Rules) (moment : ℕ) (old new : Held) → Gains rules moment old new → GainsIn rules moment old new
gains_in rules moment old new gains setting f same shows cell =
    let now : held_at new cell ≡ option_map (gained setting.rules moment) (held_at old cell) = gains cell ∙ ap (λ r. option_map (gained r moment) (held_at old cell)) (sym same) in
    subst (λ (o : Option Stand). IfSome o (ShowsCell setting (bring_to (game setting) (holds old) moment f) cell)) (sym now)
    (shows-gained setting f old moment cell (held_at old cell) refl (shows cell))
