-- The base that comes of a draft is sound.
use Rattle.std.proofs.Common.{◌≡◌, ℕ, ◌+◌, ◌<◌, ◌≤◌, Bool, true, false, cond, List, [], ◌∷◌, get_or, length, Option, None, Some, inl, inr, filter, arith, refl, ap, ◌∙◌, sym, subst}
use Rattle.std.specs.Prelude.{is_some, map, sum_by, All, AllPairs, ◌||◌}
use Rattle.std.specs.BTreeMap.{is_at}
use Rattle.std.specs.List.{list_any, Contains}
use Rattle.std.specs.Map.{keys_of, lookup}
use Rattle.std.proofs.lemmas.Bool.Decides.{nat_tests}
use Rattle.std.proofs.lemmas.List.Elements.{Contains-get_or}
use Rattle.account_cell.specs.Account.{account_fields, research_item, research_of}
use Rattle.account_cell.specs.declared.account.Account.{Account}
use Rattle.base_bytes.proofs.Among.{has-place, in-map, is-among, pairs-first, pairs-later}
use Rattle.base_bytes.proofs.Fresh.{fresh-levels, fresh-techs}
use Rattle.base_bytes.proofs.Owned.{player-one, player-same}
use Rattle.base_bytes.specs.Base.{all_items}
use Rattle.base_bytes.specs.Sound.{places_owned, planets_owned, units_counted, units_owned, HasSlots, IsSound, IsSoundFleet, RunsAfter}
use Rattle.tick_model.specs.Raids.{outbound_in}
use Rattle.base_bytes.specs.declared.base.Base.{Base}
use Rattle.tick_model.specs.declared.codes.TheConstants.{MOST_IN_GROUP}
use Rattle.base_ids.specs.Cells.{same_player}
use Rattle.base_ids.specs.Order.{coord_before, player_before}
use Rattle.base_ids.specs.declared.player.Player.{Player}
use Rattle.catalog.specs.declared.classes.TheConstants.{UNIT_KINDS}
use Rattle.catalog.specs.declared.kind.Kind.{Kind}
use Rattle.planet_cell.specs.Planet.{batch_item_of, batches_of, buildings_of, fields_of, item_of, queue_of}
use Rattle.planet_cell.specs.declared.planet.Planet.{Planet}
use Rattle.tick_model.proofs.Lists.{in-filter}
use Rattle.tick_model.specs.Limits.{KeepsLevels, KeepsTechs}
use Rattle.tick_model.specs.Moments.{IsTimed}
use Rattle.tick_model.specs.Refusals.{is_dome, used_fields}
use Rattle.tick_model.specs.Rules.{ArriveTogether, IsIn, same_order}
use Rattle.tick_model.specs.Universe.{Fleet, Item}
use Rattle.tick_model.specs.Yards.{count_of}
use Rattle.founding.specs.DraftMaps.{own_of, places_in, places_of, planet_of, player_order, units_in}
use Rattle.founding.specs.Drafts.{units_of, DraftPlanet}
use Rattle.founding.specs.Filing.{account_facts, account_sketched, facts_of, facts_sketched, AccountFacts, Facts}
use Rattle.founding.specs.declared.account_sketch.AccountSketch.{AccountSketch}
use Rattle.founding.specs.declared.sketch.Sketch.{Sketch}
use Rattle.founding.proofs.Finding.{named_found}
use Rattle.founding.proofs.Listed.{account-comes, listed-counts, listed-items, listed-places, planet-comes, told-alike}

-- what holds of all that is among a list holds of all of it
all-in : {A : Type 0} (P : A → Type 0) (xs : List A) → ((x : A) → IsIn x xs → P x) → All P xs
all-in P xs each = λ k d below. each (get_or xs k d) (is-among (get_or xs k d) xs (Contains-get_or xs k d below))

apart_player : (a b : Player) → player_before a b ≡ true → is_at (player_order b) a ≡ false
apart_player a b before = grind (arith, nat_tests)

itself : (a : Player) → is_at (player_order a) a ≡ true
itself a = grind (arith, nat_tests)

-- each entry is found by its player
looked_up : (entries : List (Player × AccountSketch)) (entry : Player × AccountSketch) → AllPairs (λ (a b : Player × AccountSketch). player_before a.0 b.0 ≡ true) entries → IsIn entry entries
    → lookup (is_at (player_order entry.0)) entries ≡ Some entry.1
looked_up [] entry rises is = absurd is
looked_up (e ∷ es) entry rises (inl same) =
    ap (λ (x : Player × AccountSketch). lookup (is_at (player_order x.0)) (e ∷ es)) same ∙ ap (λ b. cond b (Some e.1) (lookup (is_at (player_order e.0)) es)) (itself e.0) ∙ ap (λ (x : Player × AccountSketch). Some x.1) (sym same)
looked_up (e ∷ es) entry rises (inr later) =
    let before = pairs-first (λ (a b : Player × AccountSketch). player_before a.0 b.0 ≡ true) e entry es rises later in
    ap (λ b. cond b (Some e.1) (lookup (is_at (player_order entry.0)) es)) (apart_player e.0 entry.0 before) ∙ looked_up es entry (pairs-later (λ (a b : Player × AccountSketch). player_before a.0 b.0 ≡ true) e es rises) later

no-more : (n : ℕ) → n ≡ n + 0
no-more n = omega arith

-- a planet whose queues are empty, with fields for its levels, and at most one dome of each kind
record IsFresh (facts : Facts) : Type 0 where
  buildings : facts.queue ≡ []
  yard : facts.yard ≡ []
  used : used_fields facts.own ≤ facts.own.fields
  domes : (kind : Kind) → is_dome kind ≡ true → count_of facts.own kind ≤ 1

lone-domes : (sketch : Sketch) (kind : Kind) → is_dome kind ≡ true → count_of (own_of sketch) kind ≤ 1
unfolding count_of
lone-domes sketch kind is = sketch.lone_domes.each kind is

-- What a base is made of: the entries of a map of players, the planets that lines have made, and the lists that come of them.
pub record Comes (entries : List (Player × AccountSketch)) (sketches : List Sketch) (accounts : List Account) (planets : List Planet) : Type 0 where
  pub accounts_are : map account_facts accounts ≡ map account_sketched entries
  pub planets_are : map facts_of planets ≡ map facts_sketched sketches
  pub ordered : AllPairs (λ (a b : Player × AccountSketch). player_before a.0 b.0 ≡ true) entries
  pub rises : AllPairs (λ (a b : Account). player_before a.player b.player ≡ true) accounts
  pub kept : (player : Player) → places_in (lookup (is_at (player_order player)) entries) ≡ places_of player (map planet_of sketches)
  pub counts : (player : Player) → units_in (lookup (is_at (player_order player)) entries) ≡ units_of player (map planet_of sketches)

module _ (entries : List (Player × AccountSketch)) (sketches : List Sketch) (accounts : List Account) (planets : List Planet) (comes : Comes entries sketches accounts planets) where
  -- what holds of each account that comes of an entry holds of each account
  each-account : (P : AccountFacts → Type 0) → ((entry : Player × AccountSketch) → IsIn entry entries → P (account_sketched entry)) → All (λ account. P (account_facts account)) accounts
  each-account P each =
      all-in (λ account. P (account_facts account)) accounts (λ account is.
      let from = account-comes accounts entries account comes.accounts_are is in
      subst P (sym from.2) (each from.0 from.1))

  -- and so for planets
  each-planet : (P : Facts → Type 0) → ((sketch : Sketch) → IsIn sketch sketches → P (facts_sketched sketch)) → All (λ planet. P (facts_of planet)) planets
  each-planet P each =
      all-in (λ planet. P (facts_of planet)) planets (λ planet is.
      let from = planet-comes planets sketches planet comes.planets_are is in
      subst P (sym from.2) (each from.0 from.1))

  listed-each : All (λ account. account.planets.items ≡ places_owned account.player planets) accounts
  listed-each =
      each-account (λ facts. facts.planets ≡ places_owned facts.player planets) (λ entry is.
      ap places_in (sym (looked_up entries entry comes.ordered is)) ∙ comes.kept entry.0 ∙ listed-places entry.0 planets sketches comes.planets_are)

  counted-each : All (λ account. account.units ≡ units_owned account.player planets []) accounts
  counted-each =
      each-account (λ facts. facts.units ≡ units_owned facts.player planets []) (λ entry is.
      ap units_in (sym (looked_up entries entry comes.ordered is)) ∙ comes.counts entry.0 ∙ listed-counts entry.0 planets sketches comes.planets_are
      ∙ no-more (sum_by units_counted (planets_owned entry.0 planets)))

  home-each : All (λ account. All (λ item. Contains account.planets.items item.at) account.research.items) accounts
  home-each = each-account (λ facts. All (λ item. Contains facts.planets item.at) facts.queue) (λ entry is k d below. absurd (omega (arith, below)))

  built-each : (moment : ℕ) → All (λ planet. RunsAfter moment (buildings_of planet)) planets
  built-each moment = each-planet (λ facts. RunsAfter moment (map (item_of facts.at) facts.queue)) (λ sketch is. tt)

  manned-each : (moment : ℕ) → All (λ planet. RunsAfter moment (batches_of planet)) planets
  manned-each moment = each-planet (λ facts. RunsAfter moment (map (batch_item_of facts.at) facts.yard)) (λ sketch is. tt)

  researched-each : (moment : ℕ) → All (λ account. RunsAfter moment (research_of account)) accounts
  researched-each moment = each-account (λ facts. RunsAfter moment (map (research_item facts.player) facts.queue)) (λ entry is. tt)

  levelled-each : All (λ planet. KeepsLevels (fields_of planet) (queue_of planet)) planets
  levelled-each k d below =
      let fresh = each-planet IsFresh (λ sketch is. record { buildings = refl; yard = refl; used = sketch.within_fields; domes = lone-domes sketch }) k d below in
      fresh-levels (get_or planets k d) fresh.buildings fresh.yard fresh.used fresh.domes

  learned-each : All (λ account. KeepsTechs (account_fields account) (research_of account)) accounts
  learned-each k d below =
      let fresh = each-account (λ facts. facts.queue ≡ []) (λ entry is. refl) k d below in
      let account = get_or accounts k d in
      fresh-techs account (ap (map (research_item account.player)) fresh)

  no-items : all_items accounts planets ≡ []
  no-items = listed-items accounts entries planets sketches comes.accounts_are comes.planets_are

  drawn-each : (number : ℕ) → All (λ item. (1 ≤ item.number) × (item.number ≤ number)) (all_items accounts planets)
  drawn-each number = subst (All (λ (item : Item). (1 ≤ item.number) × (item.number ≤ number))) (sym no-items) (λ k d below. absurd (omega (arith, below)))

  timed-each : (moment : ℕ) → All (IsTimed moment) (all_items accounts planets)
  timed-each moment = subst (All (IsTimed moment)) (sym no-items) (λ k d below. absurd (omega (arith, below)))

  distinct-each : AllPairs (λ first second. same_order first second ≡ false) (all_items accounts planets)
  distinct-each = subst (AllPairs (λ (first second : Item). same_order first second ≡ false)) (sym no-items) (λ i j d first below. absurd (omega (arith, below)))

named-in : (player : Player) (players : List Player) → list_any (λ (other : Player). same_player other player) players ≡ true → IsIn player players
named-in player [] named = absurd (cc)
named-in player (other ∷ others) named = either (same_player other player) refl named (named-in player others)
  where
    either : (b : Bool) → same_player other player ≡ b → b || list_any (λ (x : Player). same_player x player) others ≡ true → (list_any (λ (x : Player). same_player x player) others ≡ true → IsIn player others) → IsIn player (other ∷ others)
    either true same is rest = inl (sym (player-one other player same))
    either false same is rest = inr (rest is)

-- a planet's place is among those of its owner
place-held : (sketch : Sketch) (sketches : List Sketch) → IsIn sketch sketches → places_of sketch.owner (map planet_of sketches) ≡ [] → ⊥
place-held sketch sketches is none =
    let planet = in-map planet_of sketch sketches is in
    let owned = in-filter (λ (p : DraftPlanet). same_player p.own.owner sketch.owner) (planet_of sketch) (map planet_of sketches) planet (player-same sketch.owner sketch.owner refl) in
    let place = in-map (λ (p : DraftPlanet). p.at) (planet_of sketch) (filter (λ (p : DraftPlanet). same_player p.own.owner sketch.owner) (map planet_of sketches)) owned in
    subst (IsIn sketch.at) none place

owner-named : (entries : List (Player × AccountSketch)) (sketches : List Sketch) (sketch : Sketch) (found : Option (AccountSketch)) → found ≡ lookup (is_at (player_order sketch.owner)) entries → places_in found ≡ places_of sketch.owner (map planet_of sketches) → IsIn sketch sketches
    → IsIn sketch.owner (keys_of entries)
owner-named entries sketches sketch None is listed has = absurd (place-held sketch sketches has (sym listed))
owner-named entries sketches sketch (Some account) is listed has = named-in sketch.owner (keys_of entries) (named_found sketch.owner entries ∙ ap is_some (sym is))

keys-listed : (entries : List (Player × AccountSketch)) → map (λ (e : Player × AccountSketch). e.0) entries ≡ keys_of entries
keys-listed [] = refl
keys-listed (e ∷ es) = ap (λ l. e.0 ∷ l) (keys-listed es)

-- the base that comes of a draft is sound
pub comes-sound : (base : Base) (entries : List (Player × AccountSketch)) (sketches : List Sketch) → Comes entries sketches base.accounts.items base.planets.items
    → AllPairs (λ (a b : Planet). coord_before a.at b.at ≡ true) base.planets.items → base.fleets ≡ [] → IsSound base
comes-sound base entries sketches comes rises none =
    let accounts = base.accounts.items in
    let planets = base.planets.items in
    let names = told-alike (λ (f : AccountFacts). f.player) accounts entries comes.accounts_are ∙ keys-listed entries in
    record {
      accounts_rise = comes.rises;
      planets_rise = rises;
      fleets_rise = subst (AllPairs (λ (first second : Fleet). first.number < second.number)) (sym none) (λ i j d first below. absurd (omega (arith, below)));
      owned =
          each-planet entries sketches accounts planets comes (λ facts. Contains (map (λ (a : Account). a.player) accounts) facts.own.owner) (λ sketch is.
          let named = owner-named entries sketches sketch (lookup (is_at (player_order sketch.owner)) entries) refl (comes.kept sketch.owner) is in
          subst (λ (ks : List Player). Contains ks sketch.owner) (sym names) (has-place sketch.owner (keys_of entries) named));
      kinds = each-planet entries sketches accounts planets comes (λ facts. length facts.own.units ≡ length UNIT_KINDS) (λ sketch is. sketch.kinds);
      listed = listed-each entries sketches accounts planets comes;
      counted = subst (λ (fleets : List Fleet). All (λ (a : Account). a.units ≡ units_owned a.player planets fleets) accounts) (sym none) (counted-each entries sketches accounts planets comes);
      at_home = home-each entries sketches accounts planets comes;
      built = built-each entries sketches accounts planets comes base.moment;
      manned = manned-each entries sketches accounts planets comes base.moment;
      researched = researched-each entries sketches accounts planets comes base.moment;
      drawn = drawn-each entries sketches accounts planets comes base.number;
      timed = timed-each entries sketches accounts planets comes base.moment;
      distinct = distinct-each entries sketches accounts planets comes;
      levelled = levelled-each entries sketches accounts planets comes;
      learned = learned-each entries sketches accounts planets comes;
      flying = subst (All (IsSoundFleet base)) (sym none) (λ k d below. absurd (omega (arith, below)));
      together = subst (AllPairs ArriveTogether) (sym none) (λ i j d first below. absurd (omega (arith, below)));
      few = λ group. subst (λ (fleets : List Fleet). length (outbound_in group fleets) ≤ MOST_IN_GROUP) (sym none) (omega arith);
      slots = subst (λ (fleets : List Fleet). All (HasSlots fleets) accounts) (sym none) (λ k d below. omega arith);
    }
