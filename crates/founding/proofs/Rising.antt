-- The cells of a universe that is founded rise.
use Rattle.std.proofs.Common.{◌≡◌, ℕ, zero, suc, ◌<◌, Bool, true, false, List, [], ◌∷◌, ◌++◌, length, refl, ap, ◌∙◌, sym, subst, arith, inl, inr, Some, None}
use Rattle.std.specs.Prelude.{⊤, map, if◌then◌else◌, slice_index_or, AllPairs}
use Rattle.std.specs.List.{list_any, AllByRecursion}
use Rattle.std.proofs.lemmas.Bool.{both_ways, or_parts}
use Rattle.std.proofs.lemmas.Bool.Decides.{nat_tests}
use Rattle.base_bytes.proofs.Owned.{place-one}
use Rattle.base_ids.proofs.Ordering.{coords_ordered, players_ordered}
use Rattle.base_ids.specs.Cells.{same_coord, same_player}
use Rattle.base_ids.specs.Order.{cell_before, coord_before, player_before}
use Rattle.base_ids.specs.declared.cell_id.CellId.TheVariants.{Account, Planet}
use Rattle.base_ids.specs.declared.coord.Coord.{Coord}
use Rattle.base_ids.specs.declared.player.Player.{Player}
use Rattle.tick_model.specs.Universe.{Universe}
use Rattle.founding.specs.Drafts.{first_planet, manned_with, planet_before, put, raised_to, replaced, stocked_with, Adds, DraftPlanet, Drafted, Grows}
use Rattle.founding.specs.Founded.{founded}
use Rattle.founding.specs.Founding.{Founds}

-- each comes before all later ones
abbrev pub Rises : {A : Type 0} → (A → A → Bool) → List A → Type 0
Rises before [] = ⊤
Rises before (x ∷ xs) = AllByRecursion (λ y. before x y ≡ true) xs × Rises before xs

all-put : {A : Type 0} (P : A → Type 0) (before : A → A → Bool) (new : A) (xs : List A) → P new → AllByRecursion P xs → AllByRecursion P (put before new xs)
all-put P before new [] here all = (here, tt)
all-put P before new (x ∷ xs) here (first, later) = either (before new x) (all-put P before new xs here later)
  where
    either : (b : Bool) → AllByRecursion P (put before new xs) → AllByRecursion P (if b then new ∷ x ∷ xs else x ∷ put before new xs)
    either true rest = (here, (first, later))
    either false rest = (first, rest)

pub all-passed : {A : Type 0} (before : A → A → Bool) (new x : A) (xs : List A) → ((y : A) → before new x ≡ true → before x y ≡ true → before new y ≡ true) → before new x ≡ true → AllByRecursion (λ y. before x y ≡ true) xs → AllByRecursion (λ y. before new y ≡ true) xs
all-passed before new x [] passes here all = tt
all-passed before new x (y ∷ xs) passes here (first, later) = (passes y here first, all-passed before new x xs passes here later)

-- a rising list with one more element in its place rises, if the element is apart from the others
rises-put : {A : Type 0} (before : A → A → Bool) (new : A) (xs : List A) → ((x y : A) → before new x ≡ true → before x y ≡ true → before new y ≡ true)
    → AllByRecursion (λ y. before new y ≡ false → before y new ≡ true) xs → Rises before xs → Rises before (put before new xs)
rises-put before new [] passes apart rises = (tt, tt)
rises-put before new (x ∷ xs) passes (first, later) (above, rises) = either (before new x) refl (rises-put before new xs passes later rises)
  where
    either : (b : Bool) → before new x ≡ b → Rises before (put before new xs) → Rises before (if b then new ∷ x ∷ xs else x ∷ put before new xs)
    either true is rest = ((is, all-passed before new x xs (passes x) is above), (above, rises))
    either false is rest = (all-put (λ y. before x y ≡ true) before new xs (first is) above, rest)

apart_player : (a b : Player) → same_player b a ≡ false → player_before a b ≡ false → player_before b a ≡ true
apart_player a b differ first = grind (arith, nat_tests)

apart_place : (a b : Coord) → same_coord b a ≡ false → coord_before a b ≡ false → coord_before b a ≡ true
apart_place a b differ first = either (coord_before b a) refl
  where
    either : (c : Bool) → coord_before b a ≡ c → c ≡ true
    either true is = refl
    either false is =
        let one : b ≡ a = coords_ordered.total b a is first in
        let same : same_coord a a ≡ false = subst (λ (x : Coord). same_coord x a ≡ false) one differ in
        let itself : same_coord a a ≡ true = grind (arith, nat_tests) in
        absurd (both_ways (same_coord a a) same itself)

apart_players : (player : Player) (players : List Player) → list_any (λ other. same_player other player) players ≡ false → AllByRecursion (λ other. player_before player other ≡ false → player_before other player ≡ true) players
apart_players player [] none = tt
apart_players player (other ∷ others) none =
    let parts = or_parts (same_player other player) (list_any (λ other. same_player other player) others) none in
    (apart_player player other parts.0, apart_players player others parts.1)

apart_planets : (planet : DraftPlanet) (planets : List DraftPlanet) → list_any (λ other. same_coord other.at planet.at) planets ≡ false → AllByRecursion (λ other. planet_before planet other ≡ false → planet_before other planet ≡ true) planets
apart_planets planet [] none = tt
apart_planets planet (other ∷ others) none =
    let parts = or_parts (same_coord other.at planet.at) (list_any (λ other. same_coord other.at planet.at) others) none in
    (apart_place planet.at other.at parts.0, apart_planets planet others parts.1)

below-same : (one other : DraftPlanet) (planets : List DraftPlanet) → one.at ≡ other.at → AllByRecursion (λ y. planet_before other y ≡ true) planets → AllByRecursion (λ y. planet_before one y ≡ true) planets
below-same one other [] same above = tt
below-same one other (planet ∷ planets) same (first, later) = (ap (λ at. coord_before at planet.at) same ∙ first, below-same one other planets same later)

above-replaced : (one new : DraftPlanet) (planets : List DraftPlanet) → AllByRecursion (λ y. planet_before one y ≡ true) planets → AllByRecursion (λ y. planet_before one y ≡ true) (replaced new planets)
above-replaced one new [] above = tt
above-replaced one new (old ∷ planets) (first, later) = either (same_coord old.at new.at) refl (above-replaced one new planets later)
  where
    either : (b : Bool) → same_coord old.at new.at ≡ b → AllByRecursion (λ y. planet_before one y ≡ true) (replaced new planets) → AllByRecursion (λ y. planet_before one y ≡ true) (if b then new ∷ planets else old ∷ replaced new planets)
    either true is rest = (ap (coord_before one.at) (sym (place-one old.at new.at is)) ∙ first, later)
    either false is rest = (first, rest)

-- a planet that gives way to one at its place leaves the planets in their order
pub rises-replaced : (new : DraftPlanet) (planets : List DraftPlanet) → Rises planet_before planets → Rises planet_before (replaced new planets)
rises-replaced new [] rises = tt
rises-replaced new (old ∷ planets) (above, rises) = either (same_coord old.at new.at) refl (rises-replaced new planets rises)
  where
    either : (b : Bool) → same_coord old.at new.at ≡ b → Rises planet_before (replaced new planets) → Rises planet_before (if b then new ∷ planets else old ∷ replaced new planets)
    either true is rest = (below-same new old planets (sym (place-one old.at new.at is)) above, rises)
    either false is rest = (above-replaced old new planets above, rest)

-- the lists of a draft rise
record IsRising (draft : Drafted) : Type 0 where
  players : Rises player_before draft.players
  planets : Rises planet_before draft.planets

adds-rising : (draft new : Drafted) (line : List ℕ) → IsRising draft → Adds (Some draft) line new → IsRising new
adds-rising draft new line rising (inl says) =
    let player = says.value in
    subst IsRising (sym says.makes.1)
    (record {
      players = rises-put player_before player draft.players (players_ordered.transitive player) (apart_players player draft.players says.makes.0.unnamed) rising.players;
      planets = rising.planets;
    })
adds-rising draft new line rising (inr (inl says)) =
    let planet = first_planet says.value in
    subst IsRising (sym says.makes.1)
    (record {
      players = rising.players;
      planets = rises-put planet_before planet draft.planets (λ x y. coords_ordered.transitive planet.at x.at y.at) (apart_planets planet draft.planets says.makes.0.free) rising.planets;
    })
adds-rising draft new line rising (inr (inr (inl says))) =
    let planet = stocked_with says.value says.makes.0 in
    subst IsRising (sym says.makes.2) (record { players = rising.players; planets = rises-replaced planet draft.planets rising.planets })
adds-rising draft new line rising (inr (inr (inr (inl says)))) =
    let planet = raised_to says.value says.makes.0 in
    subst IsRising (sym says.makes.2) (record { players = rising.players; planets = rises-replaced planet draft.planets rising.planets })
adds-rising draft new line rising (inr (inr (inr (inr (inl says))))) = subst IsRising (sym says.makes.1) (record { players = rising.players; planets = rising.planets })
adds-rising draft new line rising (inr (inr (inr (inr (inr says))))) =
    let planet = manned_with says.value says.makes.0 in
    subst IsRising (sym says.makes.2) (record { players = rising.players; planets = rises-replaced planet draft.planets rising.planets })

grows-rising : (draft last : Drafted) (good : List (List ℕ)) → IsRising draft → Grows (Some draft) good (Some last) → IsRising last
grows-rising draft last [] rising same = let one : last ≡ draft = cc in subst IsRising (sym one) rising
grows-rising draft last (line ∷ later) rising (next, adds, grows) = grows-rising next last later (adds-rising draft next line rising adds) grows

begun-rising : (last : Drafted) (good : List (List ℕ)) → Grows None good (Some last) → IsRising last
begun-rising last [] same = absurd (cc same)
begun-rising last (line ∷ later) (next, says, grows) = grows-rising next last later (subst IsRising (sym says.makes) (record { players = tt; planets = tt })) grows

pub all-map : {A B : Type 0} (P : B → Type 0) (f : A → B) (xs : List A) → AllByRecursion (λ x. P (f x)) xs → AllByRecursion P (map f xs)
all-map P f [] all = tt
all-map P f (x ∷ xs) (first, later) = (first, all-map P f xs later)

all-append : {A : Type 0} (P : A → Type 0) (xs ys : List A) → AllByRecursion P xs → AllByRecursion P ys → AllByRecursion P (xs ++ ys)
all-append P [] ys first second = second
all-append P (x ∷ xs) ys (here, later) second = (here, all-append P xs ys later second)

planets_rise : (planets : List DraftPlanet) → Rises planet_before planets → Rises cell_before (map (λ planet. Planet planet.at) planets)
planets_rise [] rises = tt
planets_rise (planet ∷ planets) (above, rises) = (all-map (λ cell. cell_before (Planet planet.at) cell ≡ true) (λ other. Planet other.at) planets above, planets_rise planets rises)

accounts_first : (player : Player) (planets : List DraftPlanet) → AllByRecursion (λ cell. cell_before (Account player) cell ≡ true) (map (λ planet. Planet planet.at) planets)
accounts_first player [] = tt
accounts_first player (planet ∷ planets) = (refl, accounts_first player planets)

cells_rise : (players : List Player) (planets : List DraftPlanet) → Rises player_before players → Rises planet_before planets → Rises cell_before (map Account players ++ map (λ planet. Planet planet.at) planets)
cells_rise [] planets first second = planets_rise planets second
cells_rise (player ∷ players) planets (above, first) second = (
  all-append (λ cell. cell_before (Account player) cell ≡ true) (map Account players) (map (λ planet. Planet planet.at) planets) (all-map (λ cell. cell_before (Account player) cell ≡ true) Account players above) (accounts_first player planets),
  cells_rise players planets first second,
)

all-at : {A : Type 0} (P : A → Type 0) (xs : List A) (j : ℕ) (d : A) → AllByRecursion P xs → j < length xs → P (slice_index_or xs j d)
all-at P [] j d all below = absurd (omega arith)
all-at P (x ∷ xs) zero d (first, later) below = first
all-at P (x ∷ xs) (suc j) d (first, later) below = all-at P xs j d later (omega arith)

pub rises-pairs : {A : Type 0} (before : A → A → Bool) (xs : List A) → Rises before xs → AllPairs (λ x y. before x y ≡ true) xs
rises-pairs before [] rises i j d first below = absurd (omega arith)
rises-pairs before (x ∷ xs) rises i zero d first below = absurd (omega arith)
rises-pairs before (x ∷ xs) (above, rises) zero (suc j) d first below = all-at (λ y. before x y ≡ true) xs j d above (omega arith)
rises-pairs before (x ∷ xs) (above, rises) (suc i) (suc j) d first below = rises-pairs before xs rises i j d (omega arith) (omega arith)

-- the cells rise: the accounts by number, and then the planets by coordinates
pub cells_in_order : (lines : List (List ℕ)) (universe : Universe) (capacity : ℕ) (script : List (List ℕ)) → Founds lines universe capacity script → AllPairs (λ a b. cell_before a b ≡ true) universe.setting.cells
cells_in_order lines universe capacity script founds =
    let rising = begun-rising founds.draft founds.good founds.grows in
    subst (λ (u : Universe). AllPairs (λ a b. cell_before a b ≡ true) u.setting.cells) (sym founds.founds) (rises-pairs cell_before (founded founds.draft).setting.cells (cells_rise founds.draft.players founds.draft.planets rising.players rising.planets))
