-- A base that was read is one of the rules if its parts are as they say.
use Rattle.std.proofs.Common.{◌≡◌, ◌≤◌, List, [], ◌∷◌, All, inl, inr, length, refl}
use Rattle.std.specs.Prelude.{map, ◌↔◌}
use Rattle.std.specs.List.{flat_map}
use Rattle.std.proofs.lemmas.List.Elements.{All-contains}
use Rattle.account_cell.specs.Account.{account_fields, research_of}
use Rattle.account_cell.specs.declared.account.Account.{Account}
use Rattle.base_bytes.specs.Base.{all_items, planet_items}
use Rattle.base_bytes.specs.Kept.{AccountKeeps, CountsFit, EachKeeps, IsAtHome, IsDrawn, ListsRise, PlanetKeeps}
use Rattle.base_bytes.specs.Rules.{IsBase, IsInRange}
use Rattle.base_bytes.specs.Sound.{RunsAfter}
use Rattle.base_bytes.specs.Told.{IsRead}
use Rattle.base_bytes.specs.declared.base.Base.{Base}
use Rattle.base_bytes.specs.declared.limits.TheConstants.{MOST_OWNED}
use Rattle.base_bytes.proofs.Among.{has-place}
use Rattle.base_bytes.proofs.Fitting.{each-of, in-flat, in-left, in-right}
use Rattle.base_bytes.proofs.Placed.{at-place}
use Rattle.catalog.specs.declared.classes.TheConstants.{TECHNOLOGIES, UNIT_KINDS}
use Rattle.planet_cell.specs.Planet.{batches_of, buildings_of, fields_of, queue_of}
use Rattle.planet_cell.specs.declared.planet.Planet.{Planet}
use Rattle.tick_model.proofs.Lists.{in-append}
use Rattle.tick_model.specs.Limits.{KeepsLevels, KeepsTechs}
use Rattle.tick_model.specs.Moments.{IsTimed}
use Rattle.tick_model.specs.Rules.{IsIn}
use Rattle.tick_model.specs.Universe.{Item}

-- what holds of each element holds of one that is among them
among : {A : Type 0} (P : A → Type 0) (x : A) (xs : List A) → All P xs → IsIn x xs → P x
among P x xs all is = All-contains P xs x all (has-place x xs is)

-- what holds of all items of lists that follow one another
all-flat : {A : Type 0} (f : A → List Item) (P : Item → Type 0) (xs : List A) → ((x : A) → IsIn x xs → All P (f x)) → (item : Item) → IsIn item (flat_map f xs) → P item
all-flat f P [] each item is = absurd is
all-flat f P (x ∷ xs) each item is =
    elim (in-append item (f x) (flat_map f xs) is) [ inl here ↦ among P item (f x) (each x (inl refl)) here | inr later ↦ all-flat f P xs (λ y has. each y (inr has)) item later ]

-- what holds of the items of each account and of each planet holds of all
all-items : (P : Item → Type 0) (accounts : List Account) (planets : List Planet) → ((a : Account) → IsIn a accounts → All P (research_of a)) → ((p : Planet) → IsIn p planets → All P (planet_items p)) → All P (all_items accounts planets)
all-items P accounts planets learned built = each-of P (all_items accounts planets) (λ item is.
    elim (in-append item (flat_map research_of accounts) (flat_map planet_items planets) is)
    [ inl here ↦ all-flat research_of P accounts learned item here | inr later ↦ all-flat planet_items P planets built item later ])

pub assembled : (base : Base) → IsRead base → ListsRise base → EachKeeps base → CountsFit base → IsBase base
assembled base read rise keeps fit =
    let accounts = base.accounts.items in
    let planets = base.planets.items in
    let account = λ (a : Account) (is : IsIn a accounts). among (AccountKeeps base.moment base.number) a accounts keeps.accounts is in
    let planet = λ (p : Planet) (is : IsIn p planets). among (PlanetKeeps base.moment base.number) p planets keeps.planets is in
    record {
      sound = record {
        accounts_rise = rise.accounts;
        planets_rise = rise.planets;
        fleets_rise = rise.fleets;
        owned = rise.owned;
        kinds = each-of _ planets (λ p is. (planet p is).kinds);
        listed = read.listed;
        counted = fit.counted;
        at_home = each-of _ accounts (λ a is. (account a is).at_home);
        built = each-of _ planets (λ p is. (planet p is).built);
        manned = each-of _ planets (λ p is. (planet p is).manned);
        researched = each-of _ accounts (λ a is. (account a is).researched);
        drawn = all-items (IsDrawn base.number) accounts planets (λ a is. (account a is).drawn) (λ p is. (planet p is).drawn);
        timed = all-items (IsTimed base.moment) accounts planets (λ a is. (account a is).timed) (λ p is. (planet p is).timed);
        distinct = fit.once;
        levelled = each-of _ planets (λ p is. (planet p is).levels);
        learned = each-of _ accounts (λ a is. (account a is).learned);
        flying = keeps.fleets;
        together = fit.groups.0;
        few = fit.groups.1;
        slots = fit.slots;
      };
      players = read.players;
      planets = read.planets;
      owned = each-of _ accounts (λ a is. (account a is).owned);
      ranges = each-of _ planets (λ p is. (planet p is).range);
      levels = each-of _ accounts (λ a is. (account a is).levels);
      fleets = fit.held;
    }

pub lists_of : (base : Base) → IsBase base → ListsRise base
lists_of base fine = record { accounts = fine.sound.accounts_rise; planets = fine.sound.planets_rise; fleets = fine.sound.fleets_rise; owned = fine.sound.owned }

pub counts_of : (base : Base) → IsBase base → CountsFit base
counts_of base fine = record { once = fine.sound.distinct; counted = fine.sound.counted; groups = (fine.sound.together, fine.sound.few); slots = fine.sound.slots; held = fine.fleets }

pub each_keeps_of : (base : Base) → IsBase base → EachKeeps base
each_keeps_of base fine =
    let accounts = base.accounts.items in
    let planets = base.planets.items in
    let before = flat_map research_of accounts in
    let behind = flat_map planet_items planets in
    let of-account : (P : Item → Type 0) → All P (all_items accounts planets) → (a : Account) → IsIn a accounts → All P (research_of a) =
    λ P all a is. each-of P (research_of a) (λ item has. among P item (all_items accounts planets) all (in-left item before behind (in-flat research_of item a accounts is has))) in
    let of-planet : (P : Item → Type 0) → All P (all_items accounts planets) → (p : Planet) → IsIn p planets → All P (planet_items p) =
    λ P all p is. each-of P (planet_items p) (λ item has. among P item (all_items accounts planets) all (in-right item before behind (in-flat planet_items item p planets is has))) in
    record {
      accounts = each-of (AccountKeeps base.moment base.number) accounts (λ a is. record {
        levels = among (λ (x : Account). length x.techs.n ≡ length TECHNOLOGIES) a accounts fine.levels is;
        learned = among (λ (x : Account). KeepsTechs (account_fields x) (research_of x)) a accounts fine.sound.learned is;
        owned = among (λ (x : Account). length x.planets.items ≤ MOST_OWNED) a accounts fine.owned is;
        at_home = among IsAtHome a accounts fine.sound.at_home is;
        researched = among (λ (x : Account). RunsAfter base.moment (research_of x)) a accounts fine.sound.researched is;
        drawn = of-account (IsDrawn base.number) fine.sound.drawn a is;
        timed = of-account (IsTimed base.moment) fine.sound.timed a is;
      });
      planets = each-of (PlanetKeeps base.moment base.number) planets (λ p is. record {
        range = among IsInRange p planets fine.ranges is;
        kinds = among (λ (x : Planet). length x.units ≡ length UNIT_KINDS) p planets fine.sound.kinds is;
        levels = among (λ (x : Planet). KeepsLevels (fields_of x) (queue_of x)) p planets fine.sound.levelled is;
        built = among (λ (x : Planet). RunsAfter base.moment (buildings_of x)) p planets fine.sound.built is;
        manned = among (λ (x : Planet). RunsAfter base.moment (batches_of x)) p planets fine.sound.manned is;
        drawn = of-planet (IsDrawn base.number) fine.sound.drawn p is;
        timed = of-planet (IsTimed base.moment) fine.sound.timed p is;
      });
      fleets = fine.sound.flying;
    }
