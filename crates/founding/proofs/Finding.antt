-- What the maps of a draft say of its lists.
use Rattle.std.proofs.Common.{◌≡◌, Bool, true, false, cond, List, [], ◌∷◌, ap, ◌∙◌, sym, refl, Option, Some, None}
use Rattle.std.specs.Prelude.{is_some, map}
use Rattle.std.specs.Option.{option_map}
use Rattle.std.specs.BTreeMap.{insert_entry, is_at}
use Rattle.std.specs.List.{AllByRecursion}
use Rattle.std.specs.Map.{lookup, set_value, values_of}
use Rattle.std.specs.Ordering.{is_lt}
use Rattle.base_ids.specs.Cells.{same_coord, same_player}
use Rattle.base_ids.specs.Order.{coord_before, player_before}
use Rattle.base_ids.specs.declared.coord.Coord.{Coord}
use Rattle.base_ids.specs.declared.player.Player.{Player}
use Rattle.founding.specs.DraftMaps.{place_order, planet_of, player_order}
use Rattle.founding.specs.Drafts.{is_named, is_taken, planet_at, planet_before, put, replaced, DraftPlanet}
use Rattle.founding.specs.declared.sketch.Sketch.{Sketch}
use Rattle.founding.proofs.Mapping.{find-lookup, list_any-lookup, put-insert_entry}
use Rattle.founding.proofs.Orders.{flip, flip_place, lower_number, lower_place, same_number, same_place}

-- Players.

named_agrees : {X : Type 0} (player : Player) (entries : List (Player × X)) → AllByRecursion (λ e. same_player e.0 player ≡ is_at (player_order player) e.0) entries
named_agrees player [] = tt
named_agrees player (e ∷ es) = (flip e.0.k player.k ∙ sym (same_number player.k e.0.k), named_agrees player es)

named_before : {X : Type 0} (player : Player) (entries : List (Player × X)) → AllByRecursion (λ e. player_before player e.0 ≡ is_lt (player_order player e.0)) entries
named_before player [] = tt
named_before player (e ∷ es) = (sym (lower_number player.k e.0.k), named_before player es)

-- a player is named, if the map has him
pub named_found : {X : Type 0} (player : Player) (entries : List (Player × X)) → is_named player (map (λ (e : Player × X). e.0) entries) ≡ is_some (lookup (is_at (player_order player)) entries)
named_found {X} player entries = list_any-lookup (is_at (player_order player)) (λ (other : Player). same_player other player) (λ (e : Player × X). e.0) entries (named_agrees player entries)

-- a player who is named comes to his place
pub named_put : {X : Type 0} (player : Player) (x : X) (entries : List (Player × X)) → lookup (is_at (player_order player)) entries ≡ None
    → map (λ (e : Player × X). e.0) (insert_entry player_order entries player x) ≡ put player_before player (map (λ (e : Player × X). e.0) entries)
named_put {X} player x entries absent = put-insert_entry player_order player_before (λ (e : Player × X). e.0) player x entries (named_before player entries) absent

none_from : {X : Type 0} (o : Option X) → false ≡ is_some o → o ≡ None
none_from None absent = refl
none_from (Some x) absent = absurd (cc absent)

-- the map has no entry of a player who isn't named
pub named_absent : {X : Type 0} (player : Player) (entries : List (Player × X)) → is_named player (map (λ (e : Player × X). e.0) entries) ≡ false → lookup (is_at (player_order player)) entries ≡ None
named_absent player entries unnamed = none_from (lookup (is_at (player_order player)) entries) (sym unnamed ∙ named_found player entries)

-- Planets.

-- the planets that a map keeps
pub planets_listed : (entries : List (Coord × Sketch)) → map planet_of (values_of entries) ≡ map (λ (e : Coord × Sketch). planet_of e.1) entries
planets_listed [] = refl
planets_listed (e ∷ es) = ap (λ l. planet_of e.1 ∷ l) (planets_listed es)

taken_agrees : (at : Coord) (entries : List (Coord × Sketch)) → AllByRecursion (λ e. e.1.at ≡ e.0) entries → AllByRecursion (λ e. same_coord e.1.at at ≡ is_at (place_order at) e.0) entries
taken_agrees at [] placed = tt
taken_agrees at (e ∷ es) (here, later) = (ap (λ p. same_coord p at) here ∙ flip_place e.0 at ∙ sym (same_place at e.0), taken_agrees at es later)

taken_before : (at : Coord) (sketch : Sketch) (entries : List (Coord × Sketch)) → sketch.at ≡ at → AllByRecursion (λ e. e.1.at ≡ e.0) entries → AllByRecursion (λ e. coord_before sketch.at e.1.at ≡ is_lt (place_order at e.0)) entries
taken_before at sketch [] here placed = tt
taken_before at sketch (e ∷ es) here (first, later) = ((λ i. coord_before (here i) (first i)) ∙ sym (lower_place at e.0), taken_before at sketch es here later)

-- a place is taken, if the map has it
pub taken_found : (at : Coord) (entries : List (Coord × Sketch)) → AllByRecursion (λ e. e.1.at ≡ e.0) entries → is_taken at (map planet_of (values_of entries)) ≡ is_some (lookup (is_at (place_order at)) entries)
taken_found at entries placed =
    ap (is_taken at) (planets_listed entries)
    ∙ list_any-lookup (is_at (place_order at)) (λ (p : DraftPlanet). same_coord p.at at) (λ (e : Coord × Sketch). planet_of e.1) entries (taken_agrees at entries placed)

-- the planet that stands at a place is the one that the map has there
pub planet_found : (at : Coord) (entries : List (Coord × Sketch)) → AllByRecursion (λ e. e.1.at ≡ e.0) entries → planet_at at (map planet_of (values_of entries)) ≡ option_map planet_of (lookup (is_at (place_order at)) entries)
planet_found at entries placed =
    ap (planet_at at) (planets_listed entries)
    ∙ find-lookup (is_at (place_order at)) (λ (p : DraftPlanet). same_coord p.at at) planet_of entries (taken_agrees at entries placed)

-- a planet comes to its place
pub taken_put : (at : Coord) (sketch : Sketch) (entries : List (Coord × Sketch)) → sketch.at ≡ at → AllByRecursion (λ e. e.1.at ≡ e.0) entries → lookup (is_at (place_order at)) entries ≡ None
    → map planet_of (values_of (insert_entry place_order entries at sketch)) ≡ put planet_before (planet_of sketch) (map planet_of (values_of entries))
taken_put at sketch entries here placed absent =
    planets_listed (insert_entry place_order entries at sketch)
    ∙ put-insert_entry place_order planet_before (λ (e : Coord × Sketch). planet_of e.1) at sketch entries (taken_before at sketch entries here placed) absent
    ∙ ap (put planet_before (planet_of sketch)) (sym (planets_listed entries))

-- the map has no entry of a place that isn't taken
pub taken_absent : (at : Coord) (entries : List (Coord × Sketch)) → AllByRecursion (λ e. e.1.at ≡ e.0) entries → is_taken at (map planet_of (values_of entries)) ≡ false → lookup (is_at (place_order at)) entries ≡ None
taken_absent at entries placed free = none_from (lookup (is_at (place_order at)) entries) (sym free ∙ taken_found at entries placed)

replaced_first : (b c : Bool) (sketch : Sketch) (e : Coord × Sketch) (es changed : List (Coord × Sketch)) (others : List DraftPlanet) → c ≡ b → map planet_of (values_of changed) ≡ others
    → map planet_of (values_of (cond b ((e.0, sketch) ∷ es) (e ∷ changed))) ≡ cond c (planet_of sketch ∷ map planet_of (values_of es)) (planet_of e.1 ∷ others)
replaced_first true c sketch e es changed others same rest = ap (λ d. cond d (planet_of sketch ∷ map planet_of (values_of es)) (planet_of e.1 ∷ others)) (sym same)
replaced_first false c sketch e es changed others same rest =
    ap (λ l. planet_of e.1 ∷ l) rest ∙ ap (λ d. cond d (planet_of sketch ∷ map planet_of (values_of es)) (planet_of e.1 ∷ others)) (sym same)

-- a planet that is put in place of another one takes its place in the list
pub planet_replaced : (sketch : Sketch) (entries : List (Coord × Sketch)) → AllByRecursion (λ e. e.1.at ≡ e.0) entries
    → map planet_of (values_of (set_value (is_at (place_order sketch.at)) entries sketch)) ≡ replaced (planet_of sketch) (map planet_of (values_of entries))
planet_replaced sketch [] placed = refl
planet_replaced sketch (e ∷ es) placed =
    let agrees = taken_agrees sketch.at (e ∷ es) placed in
    replaced_first (is_at (place_order sketch.at) e.0) (same_coord e.1.at sketch.at) sketch e es (set_value (is_at (place_order sketch.at)) es sketch) (replaced (planet_of sketch) (map planet_of (values_of es))) agrees.0
    (planet_replaced sketch es placed.1)
