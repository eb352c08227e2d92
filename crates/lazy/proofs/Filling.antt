-- The cells of a base are held, one after the other.
use Rattle.std.proofs.Common.{◌≡◌, ℕ, ◌+◌, ◌<◌, ◌≤◌, Bool, true, false, cond, List, [], ◌∷◌, ◌++◌, length, get_or, take, map, append_assoc, Option, Some, refl, ap, ◌∙◌, sym, subst, arith}
use Rattle.std.proofs.Math.Path.{fun_ext}
use Rattle.std.proofs.lemmas.Simd.{map-map}
use Rattle.std.proofs.lemmas.List.{get_or-map, length-map, map-append, take_more}
use Rattle.std.specs.Prelude.{AllPairs, IfSome, is_some, ◌||◌}
use Rattle.std.specs.Coded.{le_prop}
use Rattle.std.specs.List.{Contains}
use Rattle.account_cell.specs.Account.{AreSame as AreSameAccount, account_queue, research_item}
use Rattle.account_cell.specs.declared.account.Account.{Account}
use Rattle.base_bytes.specs.Base.{setting_of, universe_of}
use Rattle.base_bytes.specs.Sound.{IsSound}
use Rattle.base_bytes.specs.declared.base.Base.{Base}
use Rattle.base_bytes.proofs.Bases.{sound-base}
use Rattle.base_bytes.proofs.Seen.{account-shown, planet-shown}
use Rattle.base_ids.specs.Cells.{same_cell}
use Rattle.base_ids.specs.declared.cell_id.CellId.{CellId}
use Rattle.base_ids.specs.declared.cell_id.CellId.TheVariants.{Account as AccountId, Planet as PlanetId}
use Rattle.catalog.specs.declared.settings.TheConstants.{TOP_SPEED}
use Rattle.closure.specs.Directory.{cells_of}
use Rattle.closure.specs.Lists.{has}
use Rattle.closure.specs.declared.places.Places.{Places}
use Rattle.closure.specs.declared.spot.Spot.{Spot}
use Rattle.closure.proofs.Sameness.{same_cell_swap}
use Rattle.closure.proofs.Unions.{has-append}
use Rattle.fleet_rec.specs.declared.fleets.Fleets.{Fleets}
use Rattle.happenings.specs.Held.{IsNamed, Puts, Stand, account_stand, held_at, planet_stand}
use Rattle.happenings.specs.declared.held.Held.{Held}
use Rattle.planet_cell.specs.Planet.{AreSame, batch_item_of, item_of, queue_of}
use Rattle.planet_cell.specs.declared.planet.Planet.{Planet}
use Rattle.tick_model.specs.Universe.{Buildings, QueueClass, Researches, Yard, of_account, of_planet}
use Rattle.tick_model.specs.Views.{View}
use Rattle.tick_model.proofs.Lists.{cell-is}
use Rattle.tick_model.specs.declared.rules.Rules.{Rules}
use Rattle.lazy.specs.Beginning.{HoldsOf, HoldsWith, ShowsWith, player_of, spot_of}
use Rattle.lazy.specs.Keeping.{Keeps}
use Rattle.lazy.specs.declared.universe.LazyUniverse.{LazyUniverse}

-- what holds of the pairs of some things by a name holds of the pairs of their names
pub pairs-map : {A B : Type 0} (f : A → B) (R : B → B → Type 0) (xs : List A) → AllPairs (λ a b. R (f a) (f b)) xs → AllPairs R (map f xs)
pairs-map f R [] pairs = λ i j d first below. absurd (omega (arith, below))
pairs-map f R (x ∷ xs) pairs = λ i j d first below.
    let long : length (map f (x ∷ xs)) ≡ length (x ∷ xs) = simp length-map in
    let j_in : j < length (x ∷ xs) = omega (arith, below, long) in
    let i_in : i < length (x ∷ xs) = omega (arith, first, j_in) in
    subst (λ a. R a (get_or (map f (x ∷ xs)) j d)) (sym (get_or-map f (x ∷ xs) i x d i_in))
    (subst (R (f (get_or (x ∷ xs) i x))) (sym (get_or-map f (x ∷ xs) j x d j_in)) (pairs i j x first j_in))

put-held : (b : Bool) (stand : Stand) (found : Option Stand) (known : Bool) → is_some found ≡ known → is_some (cond b (Some stand) found) ≡ (known || b)
put-held true stand found true is = refl
put-held true stand found false is = refl
put-held false stand found true is = is
put-held false stand found false is = is

put-shown : (P : Stand → Type 0) (b : Bool) (stand : Stand) (found : Option Stand) → (b ≡ true → P stand) → IfSome found P → IfSome (cond b (Some stand) found) P
put-shown P true stand found here before = here refl
put-shown P false stand found here before = before

-- a cell that shows the base without its fleets is held besides
holds-more : (base : Base) (names : List CellId) (old new : Held) (name : CellId) (stand : Stand) → HoldsWith base [] names old → Puts old new name stand → (IsNamed old → IsNamed new)
    → ShowsWith base [] name stand → HoldsWith base [] (names ++ name ∷ []) new
holds-more base names old new name stand holds puts named shows = record {
  named = named holds.named;
  held = λ cell. ap is_some (puts cell) ∙ put-held (same_cell name cell) stand (held_at old cell) (has names cell) (holds.held cell)
      ∙ ap (λ b. has names cell || b) (same_cell_swap name cell ∙ alone (same_cell cell name)) ∙ sym (has-append names (name ∷ []) cell);
  shows = λ cell. subst (λ found. IfSome found (ShowsWith base [] cell)) (sym (puts cell))
      (put-shown (ShowsWith base [] cell) (same_cell name cell) stand (held_at old cell)
      (λ same. subst (λ c. ShowsWith base [] c stand) (cell-is name cell same) shows) (holds.shows cell));
}
  where
    alone : (b : Bool) → b ≡ (b || false)
    alone true = refl
    alone false = refl

-- copies have the same queues
account-queues : (account copy : Account) → AreSameAccount account copy → (class : QueueClass) → account_queue copy class ≡ account_queue account class
account-queues account copy equal Buildings = refl
account-queues account copy equal Researches = λ i. map (research_item (sym equal.player i)) (sym equal.research i)
account-queues account copy equal Yard = refl

planet-queues : (planet copy : Planet) → AreSame planet copy → (class : QueueClass) → queue_of copy class ≡ queue_of planet class
planet-queues planet copy same Buildings = λ i. map (item_of (sym same.at i)) (sym same.buildings i)
planet-queues planet copy same Researches = refl
planet-queues planet copy same Yard = λ i. map (batch_item_of (sym same.at i)) (sym same.yard i)

-- a copy of an account of the base shows it, but for its fleets
account-shows : (base : Base) (account copy : Account) (fleets : Fleets) → IsSound base → Contains base.accounts.items account → AreSameAccount account copy → fleets ≡ []
    → ShowsWith base [] (AccountId account.player) (account_stand (record { second = base.moment; account = copy; fleets = fleets }))
account-shows base account copy fleets sound is equal empty =
    let queue = fun_ext (account-queues account copy equal) in
    record {
      second = refl;
      seen = (λ i. record { own = of_account (record { techs = sym equal.techs i }); queue = queue i; fleets = empty i; planets = sym equal.planets i; units = sym equal.units i })
          ∙ sym (ap (λ (seen : View). record seen { fleets = [] }) (account-shown base account sound is));
    }

-- so does one of a planet
planet-shows : (base : Base) (planet copy : Planet) (fleets : Fleets) → IsSound base → Contains base.planets.items planet → AreSame planet copy → fleets ≡ []
    → ShowsWith base [] (PlanetId planet.at) (planet_stand (record { second = base.moment; planet = copy; fleets = fleets }))
planet-shows base planet copy fleets sound is same empty =
    let queue = fun_ext (planet-queues planet copy same) in
    record {
      second = refl;
      seen = (λ i. record { own = of_planet (sym same.fields i); queue = queue i; fleets = empty i; planets = []; units = 0 })
          ∙ sym (ap (λ (seen : View). record seen { fleets = [] }) (planet-shown base planet sound is));
    }

taken-more : {A : Type 0} (f : A → CellId) (front : List CellId) (xs : List A) (i : ℕ) (x : A) → i < length xs → x ≡ get_or xs i x
    → (front ++ map f (take i xs)) ++ f x ∷ [] ≡ front ++ map f (take (i + 1) xs)
taken-more f front xs i x below is =
    append_assoc front (map f (take i xs)) (f x ∷ [])
    ∙ ap (λ rest. front ++ rest) (sym (ap (map f) (take_more xs i x below) ∙ map-append f (take i xs) (get_or xs i x ∷ []) ∙ ap (λ y. map f (take i xs) ++ f y ∷ []) (sym is)))

pub accounts-more : (base : Base) (old new : Held) (i : ℕ) (account copy : Account) (fleets : Fleets) → IsSound base → i < length base.accounts.items → account ≡ get_or base.accounts.items i account
    → AreSameAccount account copy → fleets ≡ [] → HoldsWith base [] (map (λ account. AccountId account.player) (take i base.accounts.items)) old
    → Puts old new (AccountId copy.player) (account_stand (record { second = base.moment; account = copy; fleets = fleets })) → (IsNamed old → IsNamed new)
    → HoldsWith base [] (map (λ account. AccountId account.player) (take (i + 1) base.accounts.items)) new
accounts-more base old new i account copy fleets sound below is equal empty holds puts named =
    let stand = account_stand (record { second = base.moment; account = copy; fleets = fleets }) in
    subst (λ names. HoldsWith base [] names new) (taken-more (λ (account : Account). AccountId account.player) [] base.accounts.items i account below is)
    (holds-more base (map (λ account. AccountId account.player) (take i base.accounts.items)) old new (AccountId account.player) stand holds
    (subst (λ k. Puts old new (AccountId k) stand) (sym equal.player) puts) named
    (account-shows base account copy fleets sound (i, below, sym is) equal empty))

pub planets-more : (base : Base) (old new : Held) (i : ℕ) (planet copy : Planet) (fleets : Fleets) → IsSound base → i < length base.planets.items → planet ≡ get_or base.planets.items i planet
    → AreSame planet copy → fleets ≡ [] → HoldsWith base [] (map (λ account. AccountId account.player) base.accounts.items ++ map (λ planet. PlanetId planet.at) (take i base.planets.items)) old
    → Puts old new (PlanetId copy.at) (planet_stand (record { second = base.moment; planet = copy; fleets = fleets })) → (IsNamed old → IsNamed new)
    → HoldsWith base [] (map (λ account. AccountId account.player) base.accounts.items ++ map (λ planet. PlanetId planet.at) (take (i + 1) base.planets.items)) new
planets-more base old new i planet copy fleets sound below is same empty holds puts named =
    let front = map (λ (account : Account). AccountId account.player) base.accounts.items in
    let stand = planet_stand (record { second = base.moment; planet = copy; fleets = fleets }) in
    subst (λ names. HoldsWith base [] names new) (taken-more (λ (planet : Planet). PlanetId planet.at) front base.planets.items i planet below is)
    (holds-more base (front ++ map (λ planet. PlanetId planet.at) (take i base.planets.items)) old new (PlanetId planet.at) stand holds
    (subst (λ k. Puts old new (PlanetId k) stand) (sym same.at) puts) named
    (planet-shows base planet copy fleets sound (i, below, sym is) same empty))

-- rules are the same if seed and speed are
rules-same : (one other : Rules) → one.seed ≡ other.seed → one.speed ≡ other.speed → one ≡ other
rules-same one other seed speed =
    let first : Rules = record one { seed = other.seed } in
    let at = λ (n : ℕ). (from : 1 ≤ n) (to : n ≤ TOP_SPEED) → first ≡ record first { speed = n; speed_from = from; speed_to = to } in
    (λ i. record one { seed = seed i })
    ∙ subst at speed (λ from to i. record first { speed_from = le_prop one.speed_from from i; speed_to = le_prop one.speed_to to i }) other.speed_from other.speed_to

map-cells : (base : Base) (places : Places) → places.players.items ≡ map player_of base.accounts.items → places.planets.items ≡ map spot_of base.planets.items
    → (setting_of base).cells ≡ cells_of places
map-cells base places players planets =
    let accounts = sym (map-map AccountId player_of base.accounts.items) ∙ ap (map AccountId) (sym players) in
    let spots = sym (map-map (λ (spot : Spot). PlanetId spot.at) spot_of base.planets.items) ∙ ap (map (λ (spot : Spot). PlanetId spot.at)) (sym planets) in
    λ i. accounts i ++ spots i

-- what holds all cells of a base keeps it, with no request yet
pub keeps-base : (base : Base) (lazy : LazyUniverse) → IsSound base → lazy.rules.seed ≡ base.seed → lazy.rules.speed ≡ base.speed → lazy.moment ≡ base.moment → lazy.number ≡ base.number
    → lazy.places.players.items ≡ map player_of base.accounts.items → lazy.places.planets.items ≡ map spot_of base.planets.items → HoldsOf base (setting_of base).cells lazy.cells
    → Keeps (universe_of base) [] lazy
keeps-base base lazy sound seed speed moment number players planets holds = record {
  founded = sound-base base sound;
  legal = tt;
  rules = rules-same (setting_of base).rules lazy.rules (sym seed) (sym speed);
  directory = map-cells base lazy.places players planets;
  moment = moment;
  number = number;
  held = holds.held;
  named = holds.named;
  shows = holds.shows;
}
