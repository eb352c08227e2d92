-- The universe of a sound base keeps the limits.
use Rattle.std.proofs.Common.{◌≡◌, ℕ, ◌≤◌, true, false, List, length, inl, inr, arith, rules, refl, ◌∙◌, sym, subst}
use Rattle.std.specs.Prelude.{map}
use Rattle.std.proofs.lemmas.List.{length-map}
use Rattle.std.proofs.lemmas.List.Elements.{All-contains}
use Rattle.account_cell.specs.Account.{account_fields, account_queue, research_item, research_of}
use Rattle.account_cell.specs.declared.account.Account.{Account}
use Rattle.base_bytes.specs.Base.{account_seen, planet_seen, setting_of, universe_of}
use Rattle.base_bytes.specs.Sound.{HasSlots, IsInGroup, IsSound}
use Rattle.base_bytes.specs.declared.base.Base.{Base}
use Rattle.base_bytes.proofs.Among.{from-map, has-place, is-among}
use Rattle.base_bytes.proofs.Flying.{each-fleet}
use Rattle.base_bytes.proofs.Seen.{account-shown, nothing-shown, planet-shown}
use Rattle.base_ids.specs.declared.player.Player.{Player}
use Rattle.base_ids.specs.declared.cell_id.CellId.{CellId}
use Rattle.base_ids.specs.declared.cell_id.CellId.TheVariants.{Account as AccountId, Planet as PlanetId}
use Rattle.catalog.specs.declared.mission.Mission.{Mission}
use Rattle.catalog.specs.declared.mission.Mission.TheVariants.{Transport, Deploy, Harvest, Attack}
use Rattle.catalog.specs.declared.ships.TheConstants.{UNITS}
use Rattle.laziness.proofs.Bringing.{never, test}
use Rattle.planet_cell.specs.Planet.{batch_item_of, fields_of, item_of, queue_of}
use Rattle.planet_cell.specs.declared.planet.Planet.{Planet}
use Rattle.tick_model.proofs.Asked.{in-listed, listed-in}
use Rattle.tick_model.proofs.Lists.{in-append}
use Rattle.tick_model.proofs.Steady.{one-account, one-planet}
use Rattle.tick_model.specs.declared.codes.TheConstants.{MOST_QUEUED}
use Rattle.tick_model.specs.Limits.{KeepsLevels, KeepsLimits, KeepsTechs}
use Rattle.tick_model.specs.Lines.{own_fleets, slots_of}
use Rattle.tick_model.specs.Raids.{is_attack}
use Rattle.tick_model.specs.Requests.{is_listed}
use Rattle.tick_model.specs.Universe.{of_account, of_planet, AccountFields, PlanetFields, Fleet, QueueClass, Buildings, Researches, Yard}
use Rattle.tick_model.specs.Views.{View, nothing_seen, view}

-- what is seen of a cell keeps the limits, while these fleets fly
record IsLimited (fleets : List Fleet) (cell : CellId) (seen : View) : Type 0 where
  queued : (class : QueueClass) → length (seen.queue class) ≤ MOST_QUEUED
  counted : seen.units ≤ UNITS
  levelled : (planet : PlanetFields) → seen.own ≡ of_planet planet → KeepsLevels planet seen.queue
  learned : (account : AccountFields) → seen.own ≡ of_account account → KeepsTechs account (seen.queue Researches)
  slots : (player : Player) (account : AccountFields) → cell ≡ AccountId player → seen.own ≡ of_account account → length (own_fleets player fleets) ≤ slots_of account

same-most : (a b most : ℕ) → a ≡ b → b ≤ most → a ≤ most
same-most a b most same less = omega (arith, same, less)

one-player : (a b : Player) → AccountId a ≡ AccountId b → a ≡ b
one-player a b same = cc

account-queued : (account : Account) (class : QueueClass) → length (account_queue account class) ≤ MOST_QUEUED
account-queued account Buildings = omega arith
account-queued account Researches =
    let all : length account.research.items ≡ account.research.len = search rules in
    same-most _ _ MOST_QUEUED (length-map account.research.items (research_item account.player) ∙ all) account.within_room
account-queued account Yard = omega arith

account-limited : (fleets : List Fleet) (account : Account) → HasSlots fleets account → KeepsTechs (account_fields account) (research_of account)
    → IsLimited fleets (AccountId account.player) (account_seen fleets account)
account-limited fleets account slots learned = record {
  queued = account-queued account;
  counted = account.within_units;
  levelled = λ planet is. absurd cc;
  learned = λ fields is. subst (λ (known : AccountFields). KeepsTechs known (research_of account)) (one-account (account_fields account) fields is) learned;
  slots = λ player fields here is.
      subst (λ (known : AccountFields). length (own_fleets player fleets) ≤ slots_of known) (one-account (account_fields account) fields is)
      (subst (λ (k : Player). length (own_fleets k fleets) ≤ slots_of (account_fields account)) (one-player account.player player here) slots);
}

planet-queued : (planet : Planet) (class : QueueClass) → length (queue_of planet class) ≤ MOST_QUEUED
planet-queued planet Buildings =
    let all : length planet.buildings.items ≡ planet.buildings.len = search rules in
    same-most _ _ MOST_QUEUED (length-map planet.buildings.items (item_of planet.at) ∙ all) planet.within_room
planet-queued planet Researches = omega arith
planet-queued planet Yard =
    let all : length planet.yard.items ≡ planet.yard.len = search rules in
    same-most _ _ MOST_QUEUED (length-map planet.yard.items (batch_item_of planet.at) ∙ all) planet.within_yard

planet-limited : (fleets : List Fleet) (planet : Planet) → KeepsLevels (fields_of planet) (queue_of planet) → IsLimited fleets (PlanetId planet.at) (planet_seen fleets planet)
planet-limited fleets planet levels = record {
  queued = planet-queued planet;
  counted = omega arith;
  levelled = λ fields is. subst (λ (p : PlanetFields). KeepsLevels p (queue_of planet)) (one-planet (fields_of planet) fields is) levels;
  learned = λ account is. absurd cc;
  slots = λ player account here is. absurd cc;
}

nothing-limited : (fleets : List Fleet) (cell : CellId) → IsLimited fleets cell nothing_seen
nothing-limited fleets cell = record {
  queued = λ class. omega arith;
  counted = omega arith;
  levelled = λ planet is. absurd cc;
  learned = λ account is. absurd cc;
  slots = λ player account here is. absurd cc;
}

-- each cell is an account's, a planet's, or none
cell-limited : (base : Base) (cell : CellId) → IsSound base → IsLimited base.fleets cell (view (setting_of base).cells (universe_of base).state cell)
cell-limited base cell sound =
    let cells = (setting_of base).cells in
    let state = (universe_of base).state in
    elim (test (is_listed cells cell)) [
      | inr out ↦ subst (IsLimited base.fleets cell) (sym (nothing-shown base cell sound (λ has. never (is_listed cells cell) (in-listed cells cell has) out))) (nothing-limited base.fleets cell)
      | inl listed ↦
          elim (in-append cell (map (λ (a : Account). AccountId a.player) base.accounts.items) (map (λ (p : Planet). PlanetId p.at) base.planets.items) (is-among cell cells (listed-in cells cell listed))) [
            | inl account ↦
                (let found = from-map (λ (a : Account). AccountId a.player) cell base.accounts.items account in
                let has = has-place found.0 base.accounts.items found.1 in
                subst (λ x. IsLimited base.fleets x (view cells state x)) (sym found.2)
                (subst (IsLimited base.fleets (AccountId found.0.player)) (sym (account-shown base found.0 sound has))
                (account-limited base.fleets found.0 (All-contains (HasSlots base.fleets) base.accounts.items found.0 sound.slots has)
                (All-contains (λ (a : Account). KeepsTechs (account_fields a) (research_of a)) base.accounts.items found.0 sound.learned has))))
            | inr planet ↦
                (let found = from-map (λ (p : Planet). PlanetId p.at) cell base.planets.items planet in
                let has = has-place found.0 base.planets.items found.1 in
                subst (λ x. IsLimited base.fleets x (view cells state x)) (sym found.2)
                (subst (IsLimited base.fleets (PlanetId found.0.at)) (sym (planet-shown base found.0 sound has))
                (planet-limited base.fleets found.0 (All-contains (λ (p : Planet). KeepsLevels (fields_of p) (queue_of p)) base.planets.items found.0 sound.levelled has))))
          ]
    ]

-- a fleet that doesn't attack flies in a group of its own
lone-group : (mission : Mission) (number group : ℕ) → IsInGroup mission number group → is_attack mission ≡ false → group ≡ number
lone-group Attack number group grouped other = never true refl other
lone-group Transport number group grouped other = grouped
lone-group Deploy number group grouped other = grouped
lone-group Harvest number group grouped other = grouped

-- groups bear numbers from 1
group-from : (mission : Mission) (number group : ℕ) → 1 ≤ number → IsInGroup mission number group → 1 ≤ group
group-from Attack number group some grouped = grouped.0
group-from Transport number group some grouped = omega (arith, some, grouped)
group-from Deploy number group some grouped = omega (arith, some, grouped)
group-from Harvest number group some grouped = omega (arith, some, grouped)

pub keeps-limits : (base : Base) → IsSound base → KeepsLimits (setting_of base) (universe_of base).state
keeps-limits base sound = record {
  queued = λ cell class. (cell-limited base cell sound).queued class;
  counted = λ player. (cell-limited base (AccountId player) sound).counted;
  levelled = λ cell planet is. (cell-limited base cell sound).levelled planet is;
  learned = λ cell account is. (cell-limited base cell sound).learned account is;
  loaded = λ fleet is. let one = each-fleet base fleet sound is in (one.manned, one.laden);
  errands = λ fleet is.
      let one = each-fleet base fleet sound is in
      record { elsewhere = one.elsewhere; suited = one.suited; alone = lone-group fleet.mission fleet.number fleet.group one.grouped; grouped = group-from fleet.mission fleet.number fleet.group one.drawn.0 one.grouped };
  slots = λ player account is. (cell-limited base (AccountId player) sound).slots player account refl is;
}
