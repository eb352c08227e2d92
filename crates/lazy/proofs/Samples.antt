-- The base of the tests is sound, and a universe that is asked again and again keeps some history.
use Rattle.std.proofs.Common.{◌≡◌, ℕ, zero, suc, ◌+◌, ◌<◌, ◌≤◌, true, false, List, [], ◌∷◌, ◌++◌, length, map, sum_by, refl, ap, ◌∙◌, sym, subst, arith}
use Rattle.std.proofs.lemmas.List.Elements.{All-cons}
use Rattle.std.proofs.lemmas.List.Kept.{AllPairs-cons}
use Rattle.std.proofs.lemmas.List.Sums.{sum_by-cons}
use Rattle.std.specs.Prelude.{All, AllPairs, slice_index, sum}
use Rattle.std.specs.List.{Contains}
use Rattle.account_cell.specs.Account.{account_fields, research_item, research_of}
use Rattle.account_cell.specs.declared.account.Account.{Account}
use Rattle.base_bytes.specs.Base.{all_items}
use Rattle.base_bytes.specs.Sound.{HasSlots, IsSound, IsSoundFleet, RunsAfter, planets_owned, units_counted, units_owned}
use Rattle.base_bytes.specs.declared.base.Base.{Base}
use Rattle.base_bytes.proofs.Fresh.{fresh-levels, fresh-techs}
use Rattle.base_bytes.proofs.Owned.{player-same}
use Rattle.base_ids.specs.Order.{coord_before, player_before}
use Rattle.base_ids.specs.declared.player.Player.{Player}
use Rattle.catalog.specs.Kinds.{place_in}
use Rattle.catalog.specs.declared.classes.TheConstants.{UNIT_KINDS}
use Rattle.catalog.specs.declared.kind.Kind.{Kind}
use Rattle.planet_cell.specs.Planet.{batch_item_of, batches_of, buildings_of, fields_of, item_of, queue_of}
use Rattle.planet_cell.specs.declared.planet.Planet.{Planet}
use Rattle.reply_text.specs.declared.reply.Reply.{Reply}
use Rattle.request_text.specs.declared.request.Request.{Request}
use Rattle.tick_model.specs.Limits.{KeepsLevels, KeepsTechs}
use Rattle.tick_model.specs.Moments.{IsTimed}
use Rattle.tick_model.specs.Raids.{outbound_in}
use Rattle.tick_model.specs.Rules.{ArriveTogether, same_order}
use Rattle.tick_model.specs.Views.{ships_of, units_left}
use Rattle.tick_model.specs.Yards.{count_of}
use Rattle.tick_model.specs.declared.codes.TheConstants.{MOST_IN_GROUP}
use Rattle.lazy.specs.Keeping.{Asks, KeepsSome}
use Rattle.lazy.specs.declared.universe.LazyUniverse.{LazyUniverse}

none-all : {A : Type 0} (P : A → Type 0) (xs : List A) → xs ≡ [] → All P xs
none-all P xs none = subst (All P) (sym none) (λ i d below. absurd (omega (arith, below)))

none-pairs : {A : Type 0} (R : A → A → Type 0) (xs : List A) → xs ≡ [] → AllPairs R xs
none-pairs R xs none = subst (AllPairs R) (sym none) (λ i j d first below. absurd (omega (arith, below)))

one-all : {A : Type 0} (P : A → Type 0) (xs : List A) (x : A) → xs ≡ x ∷ [] → P x → All P xs
one-all P xs x is holds = subst (All P) (sym is) (All-cons P x [] holds (none-all P [] refl))

one-pairs : {A : Type 0} (R : A → A → Type 0) (xs : List A) (x : A) → xs ≡ x ∷ [] → AllPairs R xs
one-pairs R xs x is = subst (AllPairs R) (sym is) (AllPairs-cons R x [] (none-all (R x) [] refl) (none-pairs R [] refl))

two-all : {A : Type 0} (P : A → Type 0) (xs : List A) (x y : A) → xs ≡ x ∷ y ∷ [] → P x → P y → All P xs
two-all P xs x y is first second = subst (All P) (sym is) (All-cons P x (y ∷ []) first (one-all P (y ∷ []) y refl second))

two-pairs : {A : Type 0} (R : A → A → Type 0) (xs : List A) (x y : A) → xs ≡ x ∷ y ∷ [] → R x y → AllPairs R xs
two-pairs R xs x y is both = subst (AllPairs R) (sym is) (AllPairs-cons R x (y ∷ []) (one-all (R x) (y ∷ []) y refl both) (one-pairs R (y ∷ []) y refl))

-- a planet without units, whose yard builds none, counts none
uncounted : (planet : Planet) → sum planet.units ≡ 0 → planet.yard.items ≡ [] → units_counted planet ≡ 0
uncounted planet none empty = (λ i. none i + units_left (map (batch_item_of planet.at) (empty i)))

-- a planet that has no levels and no units, and builds nothing
pub record IsIdle (planet : Planet) : Type 0 where
  pub kinds : length planet.units ≡ length UNIT_KINDS
  pub levels : sum planet.levels ≡ 0
  pub units : sum planet.units ≡ 0
  pub buildings : planet.buildings.items ≡ []
  pub yard : planet.yard.items ≡ []

count-most : (ns : List ℕ) (place : ℕ) → slice_index ns place ≤ sum ns
count-most [] place = omega arith
count-most (n ∷ ns) zero = let all = sum_by-cons (λ (m : ℕ). m) n ns in omega (arith, all)
count-most (n ∷ ns) (suc place) = let all = sum_by-cons (λ (m : ℕ). m) n ns in let rest = count-most ns place in omega (arith, all, rest)

idle-count : (planet : Planet) (kind : Kind) → sum planet.units ≡ 0 → count_of (fields_of planet) kind ≤ 1
unfolding count_of
idle-count planet kind none = let most = count-most planet.units (place_in UNIT_KINDS kind) in omega (arith, most, none)

idle-levels : (planet : Planet) → IsIdle planet → KeepsLevels (fields_of planet) (queue_of planet)
idle-levels planet idle =
    let none = idle.levels in
    fresh-levels planet idle.buildings idle.yard (omega (arith, none)) (λ kind is. idle-count planet kind idle.units)

-- one account that researches nothing, with two idle planets and no fleet
pub sound_two : (base : Base) (account : Account) (one two : Planet) → base.fleets ≡ [] → base.accounts.items ≡ account ∷ [] → base.planets.items ≡ one ∷ two ∷ []
    → account.planets.items ≡ one.at ∷ two.at ∷ [] → account.units ≡ 0 → account.research.items ≡ [] → one.owner ≡ account.player → two.owner ≡ account.player
    → coord_before one.at two.at ≡ true → IsIdle one → IsIdle two → IsSound base
sound_two base account one two flown accounts planets listed counted research first second rises idle idle_too =
    let players = λ (p : Planet) (same : p.owner ≡ account.player).
    subst (λ (xs : List Account). Contains (map (λ (a : Account). a.player) xs) p.owner) (sym accounts) (0, (omega arith), sym same) in
    let owned : planets_owned account.player base.planets.items ≡ one ∷ two ∷ [] =
    ap (planets_owned account.player) planets ∙ rw (player-same one.owner account.player first, player-same two.owner account.player second) refl in
    let empty : all_items base.accounts.items base.planets.items ≡ [] = (λ i. all_items (accounts i) (planets i))
    ∙ (λ i. (map (research_item account.player) (research i) ++ [])
    ++ ((map (item_of one.at) (idle.buildings i) ++ map (batch_item_of one.at) (idle.yard i)) ++ ((map (item_of two.at) (idle_too.buildings i) ++ map (batch_item_of two.at) (idle_too.yard i)) ++ []))) in
    let builds = λ (p : Planet) (none : p.buildings.items ≡ []). subst (λ items. RunsAfter base.moment (map (item_of p.at) items)) (sym none) tt in
    let mans = λ (p : Planet) (none : p.yard.items ≡ []). subst (λ items. RunsAfter base.moment (map (batch_item_of p.at) items)) (sym none) tt in
    record {
      accounts_rise = one-pairs (λ a b. player_before a.player b.player ≡ true) base.accounts.items account accounts;
      planets_rise = two-pairs (λ a b. coord_before a.at b.at ≡ true) base.planets.items one two planets rises;
      owned = two-all (λ p. Contains (map (λ (a : Account). a.player) base.accounts.items) p.owner) base.planets.items one two planets (players one first) (players two second);
      kinds = two-all (λ p. length p.units ≡ length UNIT_KINDS) base.planets.items one two planets idle.kinds idle_too.kinds;
      listed = one-all (λ a. a.planets.items ≡ map (λ (p : Planet). p.at) (planets_owned a.player base.planets.items)) base.accounts.items account accounts
          (listed ∙ sym (ap (map (λ (p : Planet). p.at)) owned));
      counted = one-all (λ a. a.units ≡ units_owned a.player base.planets.items base.fleets) base.accounts.items account accounts
          (counted ∙ sym ((λ i. sum_by units_counted (owned i) + sum_by (ships_of account.player) (flown i))
          ∙ (λ i. ((0 + uncounted one idle.units idle.yard i) + uncounted two idle_too.units idle_too.yard i) + 0)));
      at_home = one-all (λ a. All (λ item. Contains a.planets.items item.at) a.research.items) base.accounts.items account accounts
          (none-all (λ item. Contains account.planets.items item.at) account.research.items research);
      built = two-all (λ p. RunsAfter base.moment (buildings_of p)) base.planets.items one two planets (builds one idle.buildings) (builds two idle_too.buildings);
      manned = two-all (λ p. RunsAfter base.moment (batches_of p)) base.planets.items one two planets (mans one idle.yard) (mans two idle_too.yard);
      researched = one-all (λ a. RunsAfter base.moment (research_of a)) base.accounts.items account accounts
          (subst (λ items. RunsAfter base.moment (map (research_item account.player) items)) (sym research) tt);
      drawn = none-all (λ item. (1 ≤ item.number) × (item.number ≤ base.number)) (all_items base.accounts.items base.planets.items) empty;
      timed = none-all (IsTimed base.moment) (all_items base.accounts.items base.planets.items) empty;
      distinct = none-pairs (λ a b. same_order a b ≡ false) (all_items base.accounts.items base.planets.items) empty;
      levelled = two-all (λ p. KeepsLevels (fields_of p) (queue_of p)) base.planets.items one two planets (idle-levels one idle) (idle-levels two idle_too);
      learned = one-all (λ a. KeepsTechs (account_fields a) (research_of a)) base.accounts.items account accounts (fresh-techs account (ap (map (research_item account.player)) research));
      fleets_rise = none-pairs (λ first second. first.number < second.number) base.fleets flown;
      flying = none-all (IsSoundFleet base) base.fleets flown;
      together = none-pairs ArriveTogether base.fleets flown;
      few = λ group. subst (λ fleets. length (outbound_in group fleets) ≤ MOST_IN_GROUP) (sym flown) (omega arith);
      slots = one-all (HasSlots base.fleets) base.accounts.items account accounts (subst (λ fleets. HasSlots fleets account) (sym flown) (omega arith));
    }

-- a universe that kept some history keeps some after it was asked
pub goes_on : (old new : LazyUniverse) (player : Player) (req : Request) (reading : ℕ) (reply : Reply) → Asks old new player req reading reply → KeepsSome old → KeepsSome new
goes_on old new player req reading reply asks (base, history, keeps) = let after = asks base history keeps in (base, history ++ after.entry ∷ [], after.keeps)
