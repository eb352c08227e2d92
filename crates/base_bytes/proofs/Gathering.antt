-- What is gathered for each player, one planet or fleet after the other.
use Rattle.std.proofs.Common.{◌≡◌, ℕ, ◌+◌, ◌-◌, ◌^◌, ◌<◌, ◌≤◌, Bool, true, false, cond, List, [], ◌∷◌, ◌++◌, Option, None, Some, length, map, take, get_or, min, arith, refl, ap, subst, sym, ◌∙◌}
use Rattle.std.specs.Prelude.{◌==◌, filter, sum, sum_by, if◌then◌else◌}
use Rattle.std.specs.BTreeMap.{BTreeMap, Updates, get}
use Rattle.std.specs.Global.{Vec}
use Rattle.std.specs.Ordering.{is_eq, nat_cmp}
use Rattle.std.proofs.lemmas.Bool.Decides.{nat_tests}
use Rattle.std.proofs.lemmas.List.{map-append, take_more}
use Rattle.std.proofs.lemmas.List.Elements.{filter_more}
use Rattle.std.proofs.lemmas.List.Sums.{sum_by-append, sum_by_push}
use Rattle.base_bytes.specs.Counting.{count_in, places_in, player_order}
use Rattle.base_bytes.specs.Sound.{places_owned, planets_owned, units_counted, units_owned}
use Rattle.base_bytes.proofs.Owned.{player-one}
use Rattle.base_ids.specs.Cells.{same_player}
use Rattle.base_ids.specs.declared.coord.Coord.{Coord}
use Rattle.base_ids.specs.declared.player.Player.{Player}
use Rattle.fleet_rec.specs.Fleet.{fleet_seen}
use Rattle.fleet_rec.specs.declared.fleet.Fleet.{Fleet as FleetRecord}
use Rattle.planet_cell.specs.declared.planet.Planet.{Planet}
use Rattle.tick_model.specs.Universe.{Fleet}
use Rattle.tick_model.specs.Views.{ships_of}

at-same : (a b : ℕ) → is_eq (nat_cmp a b) ≡ (a == b)
at-same a b = grind (arith, nat_tests)

-- a map that has something new for a player has the old for others
module _ {X Y : Type 0} (seen : Option X → Y) (old new : BTreeMap Player X) (owner : Player) (value : X) (updates : Updates player_order old new owner (Some value)) where
  changed : (player : Player) (b : Bool) → same_player owner player ≡ b → seen (get player_order new player) ≡ (if b then seen (Some value) else seen (get player_order old player))
  changed player true same = ap seen (updates.0 player ∙ ap (λ t. cond t (Some value) (get player_order old player)) (at-same owner.k player.k ∙ same))
  changed player false same = ap seen (updates.0 player ∙ ap (λ t. cond t (Some value) (get player_order old player)) (at-same owner.k player.k ∙ same))

append-none : (xs : List Coord) → xs ++ [] ≡ xs
append-none [] = refl
append-none (x ∷ xs) = ap (λ l. x ∷ l) (append-none xs)

-- one more place is listed for its owner
pub listed-more : (old new : BTreeMap Player (Vec Coord)) (owner : Player) (at : Coord) (value : Vec Coord) → Updates player_order old new owner (Some value)
    → value.items ≡ places_in (get player_order old owner) ++ at ∷ [] → (player : Player)
    → places_in (get player_order new player) ≡ places_in (get player_order old player) ++ (if same_player owner player then at ∷ [] else [])
listed-more old new owner at value updates is player = by (same_player owner player) refl
  where
    by : (b : Bool) → same_player owner player ≡ b → places_in (get player_order new player) ≡ places_in (get player_order old player) ++ (if same_player owner player then at ∷ [] else [])
    by true same =
        changed places_in old new owner value updates player true same ∙ is
        ∙ ap (λ k. places_in (get player_order old k) ++ at ∷ []) (player-one owner player same)
        ∙ ap (λ b. places_in (get player_order old player) ++ (if b then at ∷ [] else [])) (sym same)
    by false same =
        changed places_in old new owner value updates player false same
        ∙ sym (append-none (places_in (get player_order old player)))
        ∙ ap (λ b. places_in (get player_order old player) ++ (if b then at ∷ [] else [])) (sym same)

-- the places of a player's planets, with one more planet
pub owned-more : (player : Player) (planets : List Planet) (i : ℕ) (planet : Planet) → i < length planets → planet ≡ get_or planets i planet
    → places_owned player (take i planets) ++ (if same_player planet.owner player then planet.at ∷ [] else []) ≡ places_owned player (take (i + 1) planets)
owned-more player planets i planet below is =
    let mine = λ (p : Planet). same_player p.owner player in
    let place = λ (p : Planet). p.at in
    ap (λ (p : Planet). places_owned player (take i planets) ++ (if mine p then p.at ∷ [] else [])) is
    ∙ one (mine (get_or planets i planet)) (places_owned player (take i planets)) (get_or planets i planet)
    ∙ sym (map-append place (planets_owned player (take i planets)) (cond (mine (get_or planets i planet)) (get_or planets i planet ∷ []) []))
    ∙ ap (map place) (sym (filter_more mine planets i planet below))
  where
    one : (b : Bool) (before : List Coord) (p : Planet) → before ++ (if b then p.at ∷ [] else []) ≡ before ++ map (λ (p : Planet). p.at) (cond b (p ∷ []) [])
    one true before p = refl
    one false before p = refl

-- a player counts so many more
pub counted-more : (old new : BTreeMap Player ℕ) (owner : Player) (more value : ℕ) → Updates player_order old new owner (Some value)
    → value ≡ min (count_in (get player_order old owner) + more) (2 ^ 64 - 1) → (player : Player)
    → count_in (get player_order new player) ≡ (if same_player owner player then min (count_in (get player_order old player) + more) (2 ^ 64 - 1) else count_in (get player_order old player))
counted-more old new owner more value updates is player = by (same_player owner player) refl
  where
    by : (b : Bool) → same_player owner player ≡ b
        → count_in (get player_order new player) ≡ (if same_player owner player then min (count_in (get player_order old player) + more) (2 ^ 64 - 1) else count_in (get player_order old player))
    by true same =
        changed count_in old new owner value updates player true same ∙ is
        ∙ ap (λ k. min (count_in (get player_order old k) + more) (2 ^ 64 - 1)) (player-one owner player same)
        ∙ ap (λ b. if b then min (count_in (get player_order old player) + more) (2 ^ 64 - 1) else count_in (get player_order old player)) (sym same)
    by false same =
        changed count_in old new owner value updates player false same
        ∙ ap (λ b. if b then min (count_in (get player_order old player) + more) (2 ^ 64 - 1) else count_in (get player_order old player)) (sym same)

-- a count that is cut grows as one that isn't
cut-more : (b : Bool) (count before more after cut : ℕ) → count ≡ min before cut → after ≡ before + (if b then more else 0) → (if b then min (count + more) cut else count) ≡ min after cut
cut-more true count before more after cut is grows = omega (arith, is, grows)
cut-more false count before more after cut is grows = is ∙ ap (λ n. min n cut) (omega (arith, grows))

-- the units of a player, with one more planet
pub planet-counts : (player : Player) (planets : List Planet) (i : ℕ) (planet : Planet) (count : ℕ) → i < length planets → planet ≡ get_or planets i planet
    → count ≡ min (units_owned player (take i planets) []) (2 ^ 64 - 1)
    → (if same_player planet.owner player then min (count + units_counted planet) (2 ^ 64 - 1) else count) ≡ min (units_owned player (take (i + 1) planets) []) (2 ^ 64 - 1)
planet-counts player planets i planet count below is so_far =
    let mine = λ (p : Planet). same_player p.owner player in
    let next = get_or planets i planet in
    let grows : sum_by units_counted (planets_owned player (take (i + 1) planets)) ≡ sum_by units_counted (planets_owned player (take i planets)) + (if mine next then units_counted next else 0) =
    ap (sum_by units_counted) (filter_more mine planets i planet below)
    ∙ sum_by-append units_counted (planets_owned player (take i planets)) (cond (mine next) (next ∷ []) [])
    ∙ ap (λ n. sum_by units_counted (planets_owned player (take i planets)) + n) (one (mine next) next) in
    let here : (if mine next then units_counted next else 0) ≡ (if mine planet then units_counted planet else 0) = ap (λ (p : Planet). if mine p then units_counted p else 0) (sym is) in
    cut-more (mine planet) count (units_owned player (take i planets) []) (units_counted planet) (units_owned player (take (i + 1) planets) []) (2 ^ 64 - 1) so_far (omega (arith, grows, here))
  where
    one : (b : Bool) (p : Planet) → sum_by units_counted (cond b (p ∷ []) []) ≡ (if b then units_counted p else 0)
    one true p = omega arith
    one false p = refl

-- the units of a player, with one more fleet
pub fleet-counts : (player : Player) (planets : List Planet) (fleets : List FleetRecord) (i : ℕ) (fleet : FleetRecord) (count : ℕ) → i < length fleets → fleet ≡ get_or fleets i fleet
    → count ≡ min (units_owned player planets (map fleet_seen (take i fleets))) (2 ^ 64 - 1)
    → (if same_player fleet.owner player then min (count + sum fleet.ships.n) (2 ^ 64 - 1) else count) ≡ min (units_owned player planets (map fleet_seen (take (i + 1) fleets))) (2 ^ 64 - 1)
fleet-counts player planets fleets i fleet count below is so_far =
    let before = map fleet_seen (take i fleets) in
    let after : map fleet_seen (take (i + 1) fleets) ≡ before ++ fleet_seen fleet ∷ [] =
    ap (map fleet_seen) (take_more fleets i fleet below ∙ ap (λ x. take i fleets ++ x ∷ []) (sym is)) ∙ map-append fleet_seen (take i fleets) (fleet ∷ []) in
    let grows : sum_by (ships_of player) (map fleet_seen (take (i + 1) fleets)) ≡ sum_by (ships_of player) before + (if same_player fleet.owner player then sum fleet.ships.n else 0) =
    ap (sum_by (ships_of player)) after ∙ sum_by_push (ships_of player) before (fleet_seen fleet) in
    cut-more (same_player fleet.owner player) count (units_owned player planets before) (sum fleet.ships.n) (units_owned player planets (map fleet_seen (take (i + 1) fleets))) (2 ^ 64 - 1) so_far (omega (arith, grows))
