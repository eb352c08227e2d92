-- The universe of the lists that come of the maps of a draft.
use Rattle.std.proofs.Common.{◌≡◌, ℕ, ◌+◌, Bool, true, false, cond, List, [], ◌∷◌, ◌++◌, Option, None, Some, filter, refl, ap, ◌∙◌, sym, subst, arith}
use Rattle.std.proofs.Math.Path.{fun_ext}
use Rattle.std.specs.Prelude.{find, if◌then◌else◌, map, sum, sum_by, ◌||◌}
use Rattle.std.specs.BTreeMap.{is_at}
use Rattle.std.specs.List.{flat_map}
use Rattle.std.specs.Map.{keys_of, lookup}
use Rattle.std.proofs.lemmas.List.Sums.{sum_by-cons}
use Rattle.account_cell.specs.Account.{research_item}
use Rattle.account_cell.specs.declared.account.Account.{Account}
use Rattle.base_bytes.proofs.Among.{from-map, in-map}
use Rattle.base_bytes.specs.Base.{all_items, cells_of, own_account, own_of, own_planet, setting_of, universe_of}
use Rattle.base_bytes.specs.Sound.{planets_owned, units_counted}
use Rattle.base_bytes.specs.declared.base.Base.{Base}
use Rattle.base_ids.specs.Cells.{same_coord, same_player}
use Rattle.base_ids.specs.declared.cell_id.CellId.{CellId}
use Rattle.base_ids.specs.declared.cell_id.CellId.TheVariants.{Account as AccountId, Planet as PlanetId}
use Rattle.base_ids.specs.declared.coord.Coord.{Coord}
use Rattle.base_ids.specs.declared.player.Player.{Player}
use Rattle.planet_cell.specs.Planet.{batch_item_of, item_of}
use Rattle.planet_cell.specs.declared.planet.Planet.{Planet}
use Rattle.tick_model.specs.Rules.{IsIn}
use Rattle.tick_model.specs.Universe.{of_nothing, of_account, of_planet, Item, Own}
use Rattle.tick_model.specs.Views.{units_left}
use Rattle.founding.specs.DraftMaps.{own_in, places_of, planet_of, player_order}
use Rattle.founding.specs.Drafts.{is_named, planet_at, units_by, units_of, DraftPlanet}
use Rattle.founding.specs.Filing.{account_facts, account_sketched, facts_of, facts_sketched, AccountFacts, Facts}
use Rattle.founding.specs.Founded.{first_own, founded, own_planet as draft_own}
use Rattle.founding.specs.declared.account_sketch.AccountSketch.{AccountSketch}
use Rattle.founding.specs.declared.heading.Heading.{Heading}
use Rattle.founding.specs.declared.sketch.Sketch.{Sketch}
use Rattle.founding.proofs.Orders.{flip, same_number}

-- Accounts, by what is to be known of them.

-- an account of the list comes of one that lines have made
pub account-comes : (accounts : List Account) (entries : List (Player × AccountSketch)) (account : Account) → map account_facts accounts ≡ map account_sketched entries → IsIn account accounts
    → (entry : Player × AccountSketch) × IsIn entry entries × (account_facts account ≡ account_sketched entry)
account-comes accounts entries account same is = from-map account_sketched (account_facts account) entries (subst (IsIn (account_facts account)) same (in-map account_facts account accounts is))

mapped-twice : {A B C : Type 0} (f : A → B) (g : B → C) (xs : List A) → map (λ x. g (f x)) xs ≡ map g (map f xs)
mapped-twice f g [] = refl
mapped-twice f g (x ∷ xs) = ap (λ l. g (f x) ∷ l) (mapped-twice f g xs)

-- what a list tells by what is to be known of its accounts is what the entries tell
pub told-alike : {X : Type 0} (f : AccountFacts → X) (accounts : List Account) (entries : List (Player × AccountSketch)) → map account_facts accounts ≡ map account_sketched entries
    → map (λ (a : Account). f (account_facts a)) accounts ≡ map (λ (e : Player × AccountSketch). f (account_sketched e)) entries
told-alike f accounts entries same = mapped-twice account_facts f accounts ∙ ap (map f) same ∙ sym (mapped-twice account_sketched f entries)

names_of : (entries : List (Player × AccountSketch)) → map (λ (e : Player × AccountSketch). AccountId e.0) entries ≡ map AccountId (keys_of entries)
names_of [] = refl
names_of (e ∷ es) = ap (λ l. AccountId e.0 ∷ l) (names_of es)

account_names : (accounts : List Account) (entries : List (Player × AccountSketch)) → map account_facts accounts ≡ map account_sketched entries → map (λ (a : Account). AccountId a.player) accounts ≡ map AccountId (keys_of entries)
account_names accounts entries same = told-alike (λ (f : AccountFacts). AccountId f.player) accounts entries same ∙ names_of entries

facts_account : Option AccountFacts → Own
facts_account None = of_nothing
facts_account (Some facts) = of_account (record { techs = facts.techs })

account_first : (b : Bool) (account : Account) (found : Option Account) (others : Option AccountFacts) → own_account found ≡ facts_account others → own_account (cond b (Some account) found) ≡ facts_account (cond b (Some (account_facts account)) others)
unfolding facts_account
account_first true account found others rest = refl
account_first false account found others rest = rest

account_owns : (player : Player) (accounts : List Account) → own_account (find (λ (a : Account). same_player a.player player) accounts) ≡ facts_account (find (λ (f : AccountFacts). same_player f.player player) (map account_facts accounts))
unfolding facts_account
account_owns player [] = refl
account_owns player (a ∷ as_) = account_first (same_player a.player player) a (find (λ (x : Account). same_player x.player player) as_) (find (λ (f : AccountFacts). same_player f.player player) (map account_facts as_)) (account_owns player as_)

entry_first : (b c : Bool) (entry : Player × AccountSketch) (found : Option AccountFacts) (rest : Option AccountSketch) (named : Bool) → b ≡ c → facts_account found ≡ (if named then of_account (own_in rest) else of_nothing)
    → facts_account (cond b (Some (account_sketched entry)) found) ≡ (if b || named then of_account (own_in (cond c (Some entry.1) rest)) else of_nothing)
unfolding facts_account
entry_first true c entry found rest named same later = ap (λ d. of_account (own_in (cond d (Some entry.1) rest))) same
entry_first false c entry found rest named same later = later ∙ ap (λ d. if named then of_account (own_in (cond d (Some entry.1) rest)) else of_nothing) same

entries_own : (player : Player) (entries : List (Player × AccountSketch))
    → facts_account (find (λ (f : AccountFacts). same_player f.player player) (map account_sketched entries)) ≡ (if is_named player (keys_of entries) then of_account (own_in (lookup (is_at (player_order player)) entries)) else of_nothing)
unfolding facts_account
entries_own player [] = refl
entries_own player (e ∷ es) =
    entry_first (same_player e.0 player) (is_at (player_order player) e.0) e (find (λ (f : AccountFacts). same_player f.player player) (map account_sketched es)) (lookup (is_at (player_order player)) es) (is_named player (keys_of es))
    (flip e.0.k player.k ∙ sym (same_number player.k e.0.k)) (entries_own player es)

-- Planets, by what is to be known of them.

-- a planet of the list comes of one that lines have made
pub planet-comes : (planets : List Planet) (sketches : List Sketch) (planet : Planet) → map facts_of planets ≡ map facts_sketched sketches → IsIn planet planets → (sketch : Sketch) × IsIn sketch sketches × (facts_of planet ≡ facts_sketched sketch)
planet-comes planets sketches planet same is = from-map facts_sketched (facts_of planet) sketches (subst (IsIn (facts_of planet)) same (in-map facts_of planet planets is))

planet_names : (planets : List Planet) (sketches : List Sketch) → map facts_of planets ≡ map facts_sketched sketches → map (λ (p : Planet). PlanetId p.at) planets ≡ map (λ (p : DraftPlanet). PlanetId p.at) (map planet_of sketches)
planet_names planets sketches same =
    mapped-twice facts_of (λ (f : Facts). PlanetId f.at) planets
    ∙ ap (map (λ (f : Facts). PlanetId f.at)) same
    ∙ sym (mapped-twice facts_sketched (λ (f : Facts). PlanetId f.at) sketches)
    ∙ mapped-twice planet_of (λ (p : DraftPlanet). PlanetId p.at) sketches

facts_own : Option Facts → Own
facts_own None = of_nothing
facts_own (Some facts) = of_planet facts.own

planet_first : (b : Bool) (planet : Planet) (found : Option Planet) (others : Option Facts) → own_planet found ≡ facts_own others → own_planet (cond b (Some planet) found) ≡ facts_own (cond b (Some (facts_of planet)) others)
unfolding facts_own
planet_first true planet found others rest = refl
planet_first false planet found others rest = rest

planet_owns : (at : Coord) (planets : List Planet) → own_planet (find (λ (p : Planet). same_coord p.at at) planets) ≡ facts_own (find (λ (f : Facts). same_coord f.at at) (map facts_of planets))
unfolding facts_own
planet_owns at [] = refl
planet_owns at (p ∷ ps) = planet_first (same_coord p.at at) p (find (λ (x : Planet). same_coord x.at at) ps) (find (λ (f : Facts). same_coord f.at at) (map facts_of ps)) (planet_owns at ps)

sketch_first : (b : Bool) (sketch : Sketch) (found : Option DraftPlanet) (others : Option Facts) → draft_own found ≡ facts_own others → draft_own (cond b (Some (planet_of sketch)) found) ≡ facts_own (cond b (Some (facts_sketched sketch)) others)
unfolding facts_own
sketch_first true sketch found others rest = refl
sketch_first false sketch found others rest = rest

sketch_owns : (at : Coord) (sketches : List Sketch) → draft_own (planet_at at (map planet_of sketches)) ≡ facts_own (find (λ (f : Facts). same_coord f.at at) (map facts_sketched sketches))
unfolding facts_own
sketch_owns at [] = refl
sketch_owns at (s ∷ ss) = sketch_first (same_coord s.at at) s (planet_at at (map planet_of ss)) (find (λ (f : Facts). same_coord f.at at) (map facts_sketched ss)) (sketch_owns at ss)

-- Queues.

facts_items : Facts → List Item
facts_items facts = map (item_of facts.at) facts.queue ++ map (batch_item_of facts.at) facts.yard

facts_research : AccountFacts → List Item
facts_research facts = map (research_item facts.player) facts.queue

-- lists that are all empty make an empty one
joined-alike : {A B C D : Type 0} (f : A → C) (g : B → C) (items : C → List D) (xs : List A) (ys : List B) → map f xs ≡ map g ys → ((y : B) → items (g y) ≡ []) → flat_map (λ x. items (f x)) xs ≡ []
joined-alike {A} {B} {C} {D} f g items xs ys same none = flat f xs ∙ ap (flat_map items) same ∙ sym (flat g ys) ∙ empty ys
  where
    flat : {E : Type 0} (h : E → C) (zs : List E) → flat_map (λ z. items (h z)) zs ≡ flat_map items (map h zs)
    flat h [] = refl
    flat h (z ∷ zs) = ap (λ l. items (h z) ++ l) (flat h zs)

    empty : (zs : List B) → flat_map (λ z. items (g z)) zs ≡ []
    empty [] = refl
    empty (z ∷ zs) = (λ i. none z i ++ flat_map (λ y. items (g y)) zs) ∙ empty zs

-- no item stands in a queue
pub listed-items : (accounts : List Account) (entries : List (Player × AccountSketch)) (planets : List Planet) (sketches : List Sketch) → map account_facts accounts ≡ map account_sketched entries → map facts_of planets ≡ map facts_sketched sketches
    → all_items accounts planets ≡ []
unfolding facts_items facts_research
listed-items accounts entries planets sketches listed same =
    let research = joined-alike account_facts account_sketched facts_research accounts entries listed (λ entry. refl) in
    let others = joined-alike facts_of facts_sketched facts_items planets sketches same (λ sketch. refl) in
    λ i. research i ++ others i

-- the names of the cells are those of the draft
pub listed-cells : (entries : List (Player × AccountSketch)) (accounts : List Account) (planets : List Planet) (sketches : List Sketch) → map account_facts accounts ≡ map account_sketched entries → map facts_of planets ≡ map facts_sketched sketches
    → cells_of accounts planets ≡ map AccountId (keys_of entries) ++ map (λ (p : DraftPlanet). PlanetId p.at) (map planet_of sketches)
listed-cells entries accounts planets sketches listed same =
    let names = account_names accounts entries listed in
    let places = planet_names planets sketches same in
    λ i. names i ++ places i

own-at : (entries : List (Player × AccountSketch)) (accounts : List Account) (planets : List Planet) (sketches : List Sketch) → map account_facts accounts ≡ map account_sketched entries → map facts_of planets ≡ map facts_sketched sketches
    → (cell : CellId) → own_of accounts planets cell ≡ first_own (keys_of entries) (λ player. own_in (lookup (is_at (player_order player)) entries)) (map planet_of sketches) cell
own-at entries accounts planets sketches listed same (AccountId player) =
    account_owns player accounts ∙ ap (λ list. facts_account (find (λ (f : AccountFacts). same_player f.player player) list)) listed ∙ entries_own player entries
own-at entries accounts planets sketches listed same (PlanetId at) = planet_owns at planets ∙ ap (λ list. facts_own (find (λ (f : Facts). same_coord f.at at) list)) same ∙ sym (sketch_owns at sketches)

-- and each has of its own what it has there
pub listed-own : (entries : List (Player × AccountSketch)) (accounts : List Account) (planets : List Planet) (sketches : List Sketch) → map account_facts accounts ≡ map account_sketched entries → map facts_of planets ≡ map facts_sketched sketches
    → own_of accounts planets ≡ first_own (keys_of entries) (λ player. own_in (lookup (is_at (player_order player)) entries)) (map planet_of sketches)
listed-own entries accounts planets sketches listed same = fun_ext (own-at entries accounts planets sketches listed same)

facts_places : Player → List Facts → List Coord
facts_places player list = map (λ (f : Facts). f.at) (filter (λ (f : Facts). same_player f.own.owner player) list)

places_first : {A : Type 0} (b : Bool) (x : A) (xs : List A) (at : A → Coord) (facts : Facts) (others : List Facts) → at x ≡ facts.at → map at xs ≡ map (λ (f : Facts). f.at) others
    → map at (cond b (x ∷ xs) xs) ≡ map (λ (f : Facts). f.at) (cond b (facts ∷ others) others)
places_first true x xs at facts others here rest = λ i. here i ∷ rest i
places_first false x xs at facts others here rest = rest

planet_places : (player : Player) (planets : List Planet) → map (λ (p : Planet). p.at) (planets_owned player planets) ≡ facts_places player (map facts_of planets)
unfolding facts_places
planet_places player [] = refl
planet_places player (p ∷ ps) =
    places_first (same_player p.owner player) p (planets_owned player ps) (λ (x : Planet). x.at) (facts_of p) (filter (λ (f : Facts). same_player f.own.owner player) (map facts_of ps)) refl (planet_places player ps)

sketch_places : (player : Player) (sketches : List Sketch) → places_of player (map planet_of sketches) ≡ facts_places player (map facts_sketched sketches)
unfolding facts_places
sketch_places player [] = refl
sketch_places player (s ∷ ss) =
    places_first (same_player s.owner player) (planet_of s) (filter (λ (p : DraftPlanet). same_player p.own.owner player) (map planet_of ss)) (λ (p : DraftPlanet). p.at) (facts_sketched s) (filter (λ (f : Facts). same_player f.own.owner player) (map facts_sketched ss)) refl
    (sketch_places player ss)

-- the places of a player's planets are those of the draft
pub listed-places : (player : Player) (planets : List Planet) (sketches : List Sketch) → map facts_of planets ≡ map facts_sketched sketches → places_of player (map planet_of sketches) ≡ map (λ (p : Planet). p.at) (planets_owned player planets)
listed-places player planets sketches same = sketch_places player sketches ∙ ap (facts_places player) (sym same) ∙ sym (planet_places player planets)

-- What the planets of a player count.

-- what is to be known of a planet that a player has tells how many units it adds to his
counted_by : Player → Facts → ℕ
counted_by player facts = cond (same_player facts.own.owner player) (sum facts.own.units + units_left (map (batch_item_of facts.at) facts.yard)) 0

sum-first : {A : Type 0} (b : Bool) (f : A → ℕ) (x : A) (kept : List A) (n total : ℕ) → f x ≡ n → sum_by f kept ≡ total → sum_by f (cond b (x ∷ kept) kept) ≡ cond b n 0 + total
sum-first true f x kept n total here rest = sum_by-cons f x kept ∙ (λ i. here i + rest i)
sum-first false f x kept n total here rest = let all = rest in omega (arith, all)

planet_counts : (player : Player) (planets : List Planet) → sum_by units_counted (planets_owned player planets) ≡ sum_by (counted_by player) (map facts_of planets)
unfolding counted_by
planet_counts player [] = refl
planet_counts player (p ∷ ps) =
    let all = sum_by-cons (λ (f : Facts). cond (same_player f.own.owner player) (sum f.own.units + units_left (map (batch_item_of f.at) f.yard)) 0) (facts_of p) (map facts_of ps) in
    sum-first (same_player p.owner player) units_counted p (planets_owned player ps) (units_counted p) _ refl (planet_counts player ps) ∙ sym all

no_yard : (b : Bool) (n : ℕ) → cond b (n + 0) 0 ≡ cond b n 0
no_yard true n = omega arith
no_yard false n = refl

sketch_counts : (player : Player) (sketches : List Sketch) → units_of player (map planet_of sketches) ≡ sum_by (counted_by player) (map facts_sketched sketches)
unfolding counted_by
sketch_counts player [] = refl
sketch_counts player (s ∷ ss) =
    let before = sum_by-cons (units_by player) (planet_of s) (map planet_of ss) in
    let after = sum_by-cons (λ (f : Facts). cond (same_player f.own.owner player) (sum f.own.units + units_left (map (batch_item_of f.at) f.yard)) 0) (facts_sketched s) (map facts_sketched ss) in
    before ∙ (λ i. sym (no_yard (same_player s.owner player) (sum s.units)) i + sketch_counts player ss i) ∙ sym after

-- the units of a player's planets are those of the draft
pub listed-counts : (player : Player) (planets : List Planet) (sketches : List Sketch) → map facts_of planets ≡ map facts_sketched sketches → units_of player (map planet_of sketches) ≡ sum_by units_counted (planets_owned player planets)
listed-counts player planets sketches same = sketch_counts player sketches ∙ ap (sum_by (counted_by player)) (sym same) ∙ sym (planet_counts player planets)

-- a base of a heading and of these lists stands for the universe of the draft
pub listed-universe : (base : Base) (heading : Heading) (entries : List (Player × AccountSketch)) (sketches : List Sketch) → (setting_of base).rules ≡ heading.rules → base.moment ≡ heading.moment → base.number ≡ 0 → base.fleets ≡ []
    → map account_facts base.accounts.items ≡ map account_sketched entries → map facts_of base.planets.items ≡ map facts_sketched sketches
    → universe_of base ≡ founded (record { heading = heading; players = keys_of entries; owns = λ player. own_in (lookup (is_at (player_order player)) entries); planets = map planet_of sketches })
listed-universe base heading entries sketches rules moment number fleets listed same =
    let cells = listed-cells entries base.accounts.items base.planets.items sketches listed same in
    let own = listed-own entries base.accounts.items base.planets.items sketches listed same in
    let items = listed-items base.accounts.items entries base.planets.items sketches listed same in
    λ i. record {
      setting = record { rules = rules i; cells = cells i };
      moment = moment i;
      state = record { number = number i; own = own i; items = items i; fleets = fleets i };
    }
