-- What a draft allows, by its maps.
use Rattle.std.proofs.Common.{eqb, ◌≡◌, ℕ, ◌<◌, ◌≤◌, Bool, true, false, cond, ltb, List, [], ◌∷◌, length, refl, ap, ◌∙◌, sym, subst, arith, Option, None, Some, vec_capacity}
use Rattle.std.specs.Prelude.{is_some, map, sum, IsSome, IsTrue, MatchOption, vec_len}
use Rattle.std.specs.Option.{option_map}
use Rattle.std.specs.BTreeMap.{get, is_at}
use Rattle.std.specs.List.{AllByRecursion}
use Rattle.std.specs.Map.{lookup, set_value, values_of}
use Rattle.std.proofs.lemmas.Bool.{ltb-true}
use Rattle.std.proofs.lemmas.Bool.Decides.{nat_tests}
use Rattle.base_bytes.proofs.Owned.{player-same}
use Rattle.base_ids.specs.Cells.{same_coord, same_player}
use Rattle.base_ids.specs.declared.coord.Coord.{Coord}
use Rattle.catalog.specs.Technologies.{level_in}
use Rattle.founding.specs.DraftMaps.{draft_of, own_in, place_order, places_in, places_of, planet_of, player_order, IsKept}
use Rattle.base_ids.specs.declared.player.Player.{Player}
use Rattle.founding.specs.Drafts.{is_named, planet_at, planets_of, replaced, units_by, units_of, DraftPlanet, MayStand, MayTeach}
use Rattle.founding.specs.Filing.{HasRoom, IsListed}
use Rattle.founding.specs.declared.account_sketch.AccountSketch.{AccountSketch}
use Rattle.founding.specs.declared.draft.TheConstants.{MOST_OWNED, MOST_PLANETS}
use Rattle.founding.specs.declared.draft.Draft.{Draft}
use Rattle.founding.specs.declared.named.NewPlanet.{NewPlanet}
use Rattle.founding.specs.declared.named.NewTechnology.{NewTechnology}
use Rattle.founding.specs.declared.sketch.Sketch.{Sketch}
use Rattle.founding.proofs.Finding.{named_found, planet_found, planet_replaced, taken_found}
use Rattle.founding.proofs.Orders.{same_place_is}
use Rattle.founding.proofs.Places.{places-counted, places-first}
use Rattle.founding.proofs.Totals.{one-within}

-- who isn't in the map is given no planet
pub stranger_refused : (draft : Draft) (planet : NewPlanet) → None ≡ get player_order draft.players planet.owner → MayStand (draft_of draft) planet → ⊥
stranger_refused draft planet none may = let found : true ≡ false = sym may.named ∙ named_found planet.owner draft.players.entries ∙ ap is_some (sym none) in cc

-- a planet stands at no place that the map has
pub taken_refused : (draft : Draft) (planet : NewPlanet) → IsKept draft → true ≡ is_some (get place_order draft.planets planet.at) → MayStand (draft_of draft) planet → ⊥
taken_refused draft planet kept has may = let found : true ≡ false = has ∙ sym (taken_found planet.at draft.planets.entries kept.placed) ∙ may.free in cc

below-tested : (m n : ℕ) → m < n → ltb m n ≡ true
below-tested m n below = grind (arith, nat_tests)

-- if there is room for one more, and the place is free, a player who is named may have a planet if he has fewer than he may have
pub owned_tested : (draft : Draft) (planet : NewPlanet) (account : AccountSketch) (n : ℕ) → IsKept draft → length (draft_of draft).planets < MOST_PLANETS → false ≡ is_some (get place_order draft.planets planet.at)
    → Some account ≡ get player_order draft.players planet.owner → n ≡ vec_len account.planets
    → (IsTrue (ltb n MOST_OWNED) → MayStand (draft_of draft) planet) × (MayStand (draft_of draft) planet → IsTrue (ltb n MOST_OWNED))
owned_tested draft planet account n kept room absent found is =
    let listed = ap (λ (o : Option (AccountSketch)). length (places_in o)) found ∙ ap length (kept.listed planet.owner) ∙ places-counted planet.owner (draft_of draft).planets in (
      λ few.
          let below = ltb-true n MOST_OWNED few in
          record {
            free = taken_found planet.at draft.planets.entries kept.placed ∙ sym absent;
            named = named_found planet.owner draft.players.entries ∙ ap is_some (sym found);
            fewer = omega (arith, listed, below, is);
            room = room;
          },
      λ may. below-tested n MOST_OWNED (let few = may.fewer in omega (arith, listed, few, is)),
    )

has_some : {X : Type 0} (o : Option X) → is_some o ≡ true → IsSome o
has_some None has = absurd (cc)
has_some (Some x) has = refl

-- the owner of a planet that may stand is in the map
pub named_some : (draft : Draft) (planet : NewPlanet) → MayStand (draft_of draft) planet → IsSome (get player_order draft.players planet.owner)
named_some draft planet may = has_some (get player_order draft.players planet.owner) (sym (named_found planet.owner draft.players.entries) ∙ may.named)

-- a list that is found has room for as many places as a player may have
AllRoomy : Option (AccountSketch) → Type 0
AllRoomy None = Unit {0}
AllRoomy (Some account) = MOST_OWNED ≤ vec_capacity account.planets

all_roomy : (player : Player) (entries : List (Player × AccountSketch)) → AllByRecursion (λ e. MOST_OWNED ≤ vec_capacity e.1.planets) entries → AllRoomy (lookup (is_at (player_order player)) entries)
unfolding AllRoomy
all_roomy player [] roomy = tt
all_roomy player (e ∷ es) (first, later) = either (is_at (player_order player) e.0) (all_roomy player es later)
  where
    either : (b : Bool) → AllRoomy (lookup (is_at (player_order player)) es) → AllRoomy (cond b (Some e.1) (lookup (is_at (player_order player)) es))
    either true rest = first
    either false rest = rest

room_found : (o : Option (AccountSketch)) (n : ℕ) → is_some o ≡ true → length (places_in o) ≡ n → n < MOST_OWNED → AllRoomy o → HasRoom o
unfolding AllRoomy
room_found None n has count few roomy = absurd (cc)
room_found (Some account) n has count few roomy = ((omega (arith, count, few)), roomy)

-- and there is room for one more place of his
pub has_room : (draft : Draft) (planet : NewPlanet) → IsKept draft → MayStand (draft_of draft) planet → HasRoom (get player_order draft.players planet.owner)
has_room draft planet kept may =
    room_found (get player_order draft.players planet.owner) (planets_of planet.owner (draft_of draft).planets) (sym (named_found planet.owner draft.players.entries) ∙ may.named)
    (ap length (kept.listed planet.owner) ∙ places-counted planet.owner (draft_of draft).planets) may.fewer (all_roomy planet.owner draft.players.entries kept.roomy)

looked_up-place : (at : Coord) (entries : List (Coord × Sketch)) (sketch : Sketch) → AllByRecursion (λ e. e.1.at ≡ e.0) entries → lookup (is_at (place_order at)) entries ≡ Some sketch → sketch.at ≡ at
looked_up-place at [] sketch placed found = absurd (cc)
looked_up-place at (e ∷ es) sketch (first, later) found = either (is_at (place_order at) e.0) refl found (looked_up-place at es sketch later)
  where
    either : (b : Bool) → is_at (place_order at) e.0 ≡ b → cond b (Some e.1) (lookup (is_at (place_order at)) es) ≡ Some sketch → (lookup (is_at (place_order at)) es ≡ Some sketch → sketch.at ≡ at) → sketch.at ≡ at
    either true same here rest = let one : e.1 ≡ sketch = cc in ap (λ (s : Sketch). s.at) (sym one) ∙ first ∙ sym (same_place_is at e.0 same)
    either false same here rest = rest here

-- what the map has at a place is what the draft says of it
pub sketch_looked_up : (draft : Draft) (at : Coord) (found : Option Sketch) → IsKept draft → found ≡ get place_order draft.planets at
    → MatchOption found (planet_at at (draft_of draft).planets ≡ None) (λ sketch. (planet_at at (draft_of draft).planets ≡ Some (planet_of sketch)) × (sketch.at ≡ at))
sketch_looked_up draft at None kept is = planet_found at draft.planets.entries kept.placed ∙ ap (option_map planet_of) (sym is)
sketch_looked_up draft at (Some sketch) kept is = (planet_found at draft.planets.entries kept.placed ∙ ap (option_map planet_of) (sym is), looked_up-place at draft.planets.entries sketch kept.placed (sym is))

mapped_some : (o : Option Sketch) (planet : DraftPlanet) → option_map planet_of o ≡ Some planet → IsSome o
mapped_some None planet same = absurd (cc)
mapped_some (Some sketch) planet same = refl

-- a planet that stands is in the map
pub standing_some : (draft : Draft) (at place : Coord) (planet : DraftPlanet) → IsKept draft → planet_at at (draft_of draft).planets ≡ Some planet → place ≡ at → IsSome (get place_order draft.planets place)
standing_some draft at place planet kept stands same =
    subst (λ (x : Coord). IsSome (get place_order draft.planets x)) (sym same) (mapped_some (get place_order draft.planets at) planet (sym (planet_found at draft.planets.entries kept.placed) ∙ stands))

-- a planet in place of another one is so in the list
pub draft_replaced : (draft : Draft) (sketch : Sketch) (planet : DraftPlanet) (entries : List (Coord × Sketch)) → IsKept draft → planet_of sketch ≡ planet → entries ≡ set_value (is_at (place_order sketch.at)) draft.planets.entries sketch
    → map planet_of (values_of entries) ≡ replaced planet (draft_of draft).planets
draft_replaced draft sketch planet entries kept is same =
    ap (λ es. map planet_of (values_of es)) same ∙ planet_replaced sketch draft.planets.entries kept.placed ∙ ap (λ p. replaced p (draft_of draft).planets) is

-- Technologies.

-- who isn't in the map is taught nothing
pub stranger_untaught : (draft : Draft) (new : NewTechnology) → None ≡ get player_order draft.players new.player → MayTeach (draft_of draft) new → ⊥
stranger_untaught draft new none may = let found : true ≡ false = sym may.named ∙ named_found new.player draft.players.entries ∙ ap is_some (sym none) in cc

tested-zero : (n : ℕ) → IsTrue (eqb n 0) → n ≡ 0
tested-zero n zero = grind (arith, nat_tests)

zero-tested : (n : ℕ) → n ≡ 0 → IsTrue (eqb n 0)
zero-tested n zero = grind (arith, nat_tests)

-- a player who is named may have a level of a technology of which no line has said one
pub teach_tested : (draft : Draft) (new : NewTechnology) (account : AccountSketch) (n : ℕ) → Some account ≡ get player_order draft.players new.player → n ≡ level_in account.techs.n new.technology.kind
    → (IsTrue (eqb n 0) → MayTeach (draft_of draft) new) × (MayTeach (draft_of draft) new → IsTrue (eqb n 0))
teach_tested draft new account n found is =
    let here = is ∙ ap (λ (o : Option AccountSketch). level_in (own_in o).techs.n new.technology.kind) found in (
      λ zero. record { named = named_found new.player draft.players.entries ∙ ap is_some (sym found); unsaid = sym here ∙ tested-zero n zero },
      λ may. zero-tested n (here ∙ may.unsaid),
    )

listed_found : (o : Option AccountSketch) → is_some o ≡ true → AllRoomy o → IsListed o
unfolding AllRoomy
listed_found None has roomy = absurd (cc has)
listed_found (Some account) has roomy = roomy

-- a player who is named is listed
pub named_listed : (draft : Draft) (player : Player) → IsKept draft → is_named player (draft_of draft).players ≡ true → IsListed (get player_order draft.players player)
named_listed draft player kept named =
    listed_found (get player_order draft.players player) (sym (named_found player draft.players.entries) ∙ named) (all_roomy player draft.players.entries kept.roomy)

pub named_has : (draft : Draft) (player : Player) → is_named player (draft_of draft).players ≡ true → IsSome (get player_order draft.players player)
named_has draft player named = has_some (get player_order draft.players player) (sym (named_found player draft.players.entries) ∙ named)

-- Units.

-- the owner of a planet that stands has a place
placed-owner : (at : Coord) (planet : DraftPlanet) (planets : List DraftPlanet) → planet_at at planets ≡ Some planet → places_of planet.own.owner planets ≡ [] → ⊥
placed-owner at planet [] stands none = cc stands
placed-owner at planet (first ∷ planets) stands none = either (same_coord first.at at) stands (placed-owner at planet planets)
  where
    mine : (b : Bool) → cond b (first.at ∷ places_of planet.own.owner planets) (places_of planet.own.owner planets) ≡ [] → (b ≡ true → ⊥) × (places_of planet.own.owner planets ≡ [])
    mine true empty = absurd (cc empty)
    mine false empty = (λ same. cc same, empty)

    parts : (same_player first.own.owner planet.own.owner ≡ true → ⊥) × (places_of planet.own.owner planets ≡ [])
    parts = mine (same_player first.own.owner planet.own.owner) (sym (places-first planet.own.owner first planets) ∙ none)

    either : (b : Bool) → cond b (Some first) (planet_at at planets) ≡ Some planet → (planet_at at planets ≡ Some planet → places_of planet.own.owner planets ≡ [] → ⊥) → ⊥
    either true found rest = let one : first ≡ planet = cc in parts.0 (player-same first.own.owner planet.own.owner (ap (λ (p : DraftPlanet). p.own.owner) one))
    either false found rest = rest found parts.1

owner_found : (o : Option AccountSketch) (places : List Coord) → places_in o ≡ places → (places ≡ [] → ⊥) → is_some o ≡ true
owner_found None places same some = absurd (some (sym same))
owner_found (Some account) places same some = refl

-- so the owner of a planet that stands is named
pub owner_named : (draft : Draft) (at : Coord) (planet : DraftPlanet) → IsKept draft → planet_at at (draft_of draft).planets ≡ Some planet → is_named planet.own.owner (draft_of draft).players ≡ true
owner_named draft at planet kept stands =
    named_found planet.own.owner draft.players.entries
    ∙ owner_found (get player_order draft.players planet.own.owner) (places_of planet.own.owner (draft_of draft).planets) (kept.listed planet.own.owner) (placed-owner at planet (draft_of draft).planets stands)

-- no planet has more units than its owner
pub units_within : (planet : DraftPlanet) (at : Coord) (planets : List DraftPlanet) → planet.at ≡ at → planet_at at planets ≡ Some planet → sum planet.own.units ≤ units_of planet.own.owner planets
units_within planet at planets place stands =
    let none = record planet { own = record planet.own { units = [] } } in
    let here : planet_at planet.at planets ≡ Some planet = ap (λ x. planet_at x planets) place ∙ stands in
    let all = one-within (units_by planet.own.owner) none planet planets here in
    let mine : units_by planet.own.owner planet ≡ sum planet.own.units = ap (λ b. cond b (sum planet.own.units) 0) (player-same planet.own.owner planet.own.owner refl) in
    let nothing : units_by planet.own.owner none ≡ 0 = ap (λ b. cond b (sum none.own.units) 0) (player-same planet.own.owner planet.own.owner refl) in
    omega (arith, all, mine, nothing)
