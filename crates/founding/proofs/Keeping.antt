-- What keeps the maps of a draft in step with one another.
use Rattle.std.proofs.Common.{◌≡◌, ℕ, ◌+◌, ◌≤◌, Bool, true, false, cond, List, [], ◌∷◌, length, ap, ◌∙◌, sym, subst, arith, refl, Option, Some, None, vec_capacity}
use Rattle.std.specs.Prelude.{if◌then◌else◌, map, sum, IsSome}
use Rattle.std.specs.BTreeMap.{get, insert_entry, is_at, keys, values, BTreeMap, IsOrdered}
use Rattle.std.specs.List.{AllByRecursion}
use Rattle.std.specs.List.Sorted.{IsStrictlySortedBy}
use Rattle.std.specs.Map.{keys_of, lookup, set_value, values_of}
use Rattle.std.specs.Ordering.{is_eq, is_lt}
use Rattle.std.specs.declared.cmp.Ordering.TheVariants.{Less}
use Rattle.std.proofs.lemmas.Bool.Decides.{nat_tests}
use Rattle.std.proofs.lemmas.Map.{keys-set_value, lookup-set_value}
use Rattle.std.specs.Cmp.{IsEquivalence}
use Rattle.base_bytes.proofs.Owned.{player-one}
use Rattle.base_ids.specs.Cells.{same_player}
use Rattle.base_ids.specs.Order.{coord_before, player_before}
use Rattle.base_ids.specs.declared.coord.Coord.{Coord}
use Rattle.base_ids.specs.declared.player.Player.{Player}
use Rattle.tick_model.specs.Universe.{AccountFields}
use Rattle.founding.specs.DraftMaps.{draft_of, own_in, place_order, places_in, places_of, planet_of, player_order, units_in, IsKept}
use Rattle.founding.specs.Drafts.{first_planet, planet_at, planet_before, put, replaced, units_by, units_of, DraftPlanet, MayName, MayStand}
use Rattle.founding.specs.Filing.{Alters}
use Rattle.founding.specs.declared.account_sketch.AccountSketch.{AccountSketch}
use Rattle.founding.specs.declared.draft.TheConstants.{MOST_OWNED, MOST_PLANETS, MOST_PLAYERS}
use Rattle.founding.specs.declared.draft.Draft.{Draft}
use Rattle.founding.specs.declared.named.NewPlanet.{NewPlanet}
use Rattle.founding.specs.declared.sketch.Sketch.{Sketch}
use Rattle.founding.proofs.Finding.{named_absent, named_put, planet_replaced, taken_absent, taken_put}
use Rattle.founding.proofs.Mapping.{All-insert_entry}
use Rattle.founding.proofs.Orders.{lower_place, same_number, same_place_is, same_player_is}
use Rattle.founding.proofs.Places.{length-replaced, places-put, places-replaced}
use Rattle.founding.proofs.Putting.{length-put}
use Rattle.founding.proofs.Rising.{Rises}
use Rattle.founding.proofs.Totals.{sum_by-put, sum_by-replaced}

-- What a map tells of players.

-- what is told of who is new, and was told of nobody
fresh-same : {X : Type 0} (f : Option AccountSketch → X) (here : Bool) (account : AccountSketch) (old : Option AccountSketch) → (here ≡ true → old ≡ None) → f (Some account) ≡ f None → f (cond here (Some account) old) ≡ f old
fresh-same f true account old none same = same ∙ sym (ap f (none refl))
fresh-same f false account old none same = refl

-- a player who is new changes nothing of what is told of others, or of nobody
pub added-same : {X : Type 0} (f : Option AccountSketch → X) (old new : Draft) (player q : Player) (account : AccountSketch) → MayName (draft_of old) player
    → get player_order new.players q ≡ cond (is_eq (player_order player q)) (Some account) (get player_order old.players q) → f (Some account) ≡ f None → f (get player_order new.players q) ≡ f (get player_order old.players q)
added-same f old new player q account may updates same =
    let absent = named_absent player old.players.entries may.unnamed in
    ap f updates
    ∙ fresh-same f (is_eq (player_order player q)) account (get player_order old.players q) (λ here. ap (get player_order old.players) (sym (same_player_is player q here)) ∙ absent) same

-- One more player.

-- the draft with one more player is kept, if the map has him with no places and no units
pub player_kept : (old new : Draft) (player : Player) (account : AccountSketch) → IsKept old → MayName (draft_of old) player → new.planets ≡ old.planets
    → new.players.entries ≡ insert_entry player_order old.players.entries player account
    → ((q : Player) → get player_order new.players q ≡ cond (is_eq (player_order player q)) (Some account) (get player_order old.players q))
    → account.planets.items ≡ [] → account.units ≡ 0 → MOST_OWNED ≤ vec_capacity account.planets
    → new.account_room.items ≡ [] → length (draft_of old).players + 1 ≤ vec_capacity new.account_room → new.planet_room ≡ old.planet_room
    → IsKept new
player_kept old new player account before may planets entries updates none no_units room empty accounts others =
    let absent = named_absent player old.players.entries may.unnamed in
    let players = ap keys_of entries ∙ named_put player account old.players.entries absent in
    let count = ap length players ∙ length-put player_before player (draft_of old).players in
    record {
      placed = subst (λ m. AllByRecursion (λ e. e.1.at ≡ e.0) m.entries) (sym planets) before.placed;
      listed = λ q. added-same places_in old new player q account may (updates q) none ∙ before.listed q ∙ ap (λ m. places_of q (map planet_of (values m))) (sym planets);
      counted = λ q. added-same units_in old new player q account may (updates q) no_units ∙ before.counted q ∙ ap (λ m. units_of q (map planet_of (values m))) (sym planets);
      roomy =
          subst (AllByRecursion (λ (e : Player × AccountSketch). MOST_OWNED ≤ vec_capacity e.1.planets)) (sym entries)
          (All-insert_entry player_order (λ (e : Player × AccountSketch). MOST_OWNED ≤ vec_capacity e.1.planets) player account old.players.entries room before.roomy absent);
      few_players = omega (arith, count, may.room);
      few_planets = subst (λ m. length (map planet_of (values m)) ≤ MOST_PLANETS) (sym planets) before.few_planets;
      no_accounts = empty;
      no_planets = ap (λ v. v.items) others ∙ before.no_planets;
      account_room = omega (arith, count, accounts);
      planet_room = subst (λ m. length (map planet_of (values m)) ≤ vec_capacity new.planet_room) (sym planets) (subst (λ v. length (draft_of old).planets ≤ vec_capacity v) (sym others) before.planet_room);
    }

-- One more planet.

lower-all : (at : Coord) (entries : List (Coord × Sketch)) (sketch : Sketch) → sketch.at ≡ at → AllByRecursion (λ e. e.1.at ≡ e.0) entries → AllByRecursion (λ y. place_order at y ≡ Less) (keys_of entries)
    → AllByRecursion (λ y. planet_before (planet_of sketch) y ≡ true) (map planet_of (values_of entries))
lower-all at [] sketch here placed above = tt
lower-all at (e ∷ es) sketch here (first, later) (lower, others) =
    ((λ i. coord_before (here i) (first i)) ∙ sym (lower_place at e.0) ∙ ap is_lt lower, lower-all at es sketch here later others)

-- the planets of a map rise, since its keys do
pub planets-rise : (entries : List (Coord × Sketch)) → AllByRecursion (λ e. e.1.at ≡ e.0) entries → IsStrictlySortedBy place_order (keys_of entries) → Rises planet_before (map planet_of (values_of entries))
unfolding IsStrictlySortedBy
planets-rise [] placed sorted = tt
planets-rise (e ∷ es) (first, later) (above, sorted) = (lower-all e.0 es e.1 first later above, planets-rise es later sorted)

-- which players a map does not tell apart
same_order : Player → Player → Bool
same_order a b = is_eq (player_order a b)

player_laws : IsEquivalence same_order
unfolding same_order
player_laws = record {
  refl = λ a. grind (arith, nat_tests);
  symm = λ a b. grind (arith, nat_tests);
  congr = λ a b c same. grind (arith, nat_tests);
}

set-looked_up : (owner : Player) (w : AccountSketch) (entries : List (Player × AccountSketch)) (q : Player) → IsSome (lookup (is_at (player_order owner)) entries)
    → lookup (is_at (player_order q)) (set_value (is_at (player_order owner)) entries w) ≡ cond (is_eq (player_order owner q)) (Some w) (lookup (is_at (player_order q)) entries)
unfolding same_order
set-looked_up owner w entries q has = lookup-set_value {eq = λ (a b : Player). is_eq (player_order a b)} player_laws (is_at (player_order owner)) (λ x y same. ap (λ (k : Player). is_eq (player_order k y)) (same_player_is owner x same)) q w entries has

set-roomy : (owner : Player) (w : AccountSketch) (entries : List (Player × AccountSketch)) → MOST_OWNED ≤ vec_capacity w.planets → AllByRecursion (λ e. MOST_OWNED ≤ vec_capacity e.1.planets) entries
    → AllByRecursion (λ e. MOST_OWNED ≤ vec_capacity e.1.planets) (set_value (is_at (player_order owner)) entries w)
set-roomy owner w [] room roomy = tt
set-roomy owner w (e ∷ es) room (first, later) = either (is_at (player_order owner) e.0) (set-roomy owner w es room later)
  where
    either : (b : Bool) → AllByRecursion (λ (e : Player × AccountSketch). MOST_OWNED ≤ vec_capacity e.1.planets) (set_value (is_at (player_order owner)) es w)
        → AllByRecursion (λ (e : Player × AccountSketch). MOST_OWNED ≤ vec_capacity e.1.planets) (cond b ((e.0, w) ∷ es) (e ∷ set_value (is_at (player_order owner)) es w))
    either true rest = (room, later)
    either false rest = (first, rest)

chosen : {X : Type 0} (f : Option AccountSketch → X) (b : Bool) (account : AccountSketch) (old : Option AccountSketch) → f (cond b (Some account) old) ≡ cond b (f (Some account)) (f old)
chosen f true account old = refl
chosen f false account old = refl

pub both-chosen : {X : Type 0} (b : Bool) (x y other kept : X) → (b ≡ true → x ≡ y) → other ≡ kept → cond b x other ≡ cond b y kept
both-chosen true x y other kept here rest = here refl
both-chosen false x y other kept here rest = rest

chosen-same : {X : Type 0} (b : Bool) (x kept : X) → (b ≡ true → x ≡ kept) → cond b x kept ≡ kept
chosen-same true x kept here = here refl
chosen-same false x kept here = refl

-- What a map tells of players after the account of one of them is altered.
module _ (owner : Player) (places : List Coord) (own : AccountFields) (units : ℕ) (old new : BTreeMap Player AccountSketch) (has : IsSome (get player_order old owner)) (alters : Alters owner places own units old new) where
  altered : {X : Type 0} (f : Option AccountSketch → X) (q : Player) → f (get player_order new q) ≡ cond (same_player owner q) (f (Some alters.account)) (f (get player_order old q))
  altered f q =
      ap (λ es. f (lookup (is_at (player_order q)) es)) alters.entries
      ∙ ap f (set-looked_up owner alters.account old.entries q has)
      ∙ chosen f (is_eq (player_order owner q)) alters.account (get player_order old q)
      ∙ ap (λ b. cond b (f (Some alters.account)) (f (get player_order old q))) (same_number owner.k q.k)

  -- what is the same of the one is the same of all
  pub unaltered : {X : Type 0} (f : Option AccountSketch → X) (q : Player) → f (Some alters.account) ≡ f (get player_order old owner) → f (get player_order new q) ≡ f (get player_order old q)
  unaltered f q same =
      altered f q
      ∙ chosen-same (same_player owner q) (f (Some alters.account)) (f (get player_order old q)) (λ here. same ∙ ap (λ (p : Player). f (get player_order old p)) (player-one owner q here))

  pub owns-altered : (q : Player) → own_in (get player_order new q) ≡ cond (same_player owner q) own (own_in (get player_order old q))
  owns-altered q = altered own_in q ∙ ap (λ o. cond (same_player owner q) o (own_in (get player_order old q))) alters.owned

  -- the players are the same
  pub players-altered : keys_of new.entries ≡ keys_of old.entries
  players-altered = ap keys_of alters.entries ∙ keys-set_value (is_at (player_order owner)) old.entries alters.account

-- the draft is kept in which the account of one player is altered, if its places and units are those of the planets
altered_kept : (old new : Draft) (owner : Player) (places : List Coord) (own : AccountFields) (units : ℕ) → IsKept old → IsSome (get player_order old.players owner) → Alters owner places own units old.players new.players
    → AllByRecursion (λ e. e.1.at ≡ e.0) new.planets.entries
    → ((q : Player) → cond (same_player owner q) places (places_of q (draft_of old).planets) ≡ places_of q (draft_of new).planets)
    → ((q : Player) → cond (same_player owner q) units (units_of q (draft_of old).planets) ≡ units_of q (draft_of new).planets)
    → length (draft_of new).planets ≤ MOST_PLANETS → new.planet_room.items ≡ [] → length (draft_of new).planets ≤ vec_capacity new.planet_room → new.account_room ≡ old.account_room
    → IsKept new
altered_kept old new owner places own units before has alters placed listed counted few empty room others =
    let players = players-altered owner places own units old.players new.players has alters in
    let same_count = ap length players in
    record {
      placed = placed;
      listed =
          λ q.
          altered owner places own units old.players new.players has alters places_in q
          ∙ both-chosen (same_player owner q) alters.account.planets.items places (places_in (get player_order old.players q)) (places_of q (draft_of old).planets) (λ here. alters.listed) (before.listed q)
          ∙ listed q;
      counted =
          λ q.
          altered owner places own units old.players new.players has alters units_in q
          ∙ both-chosen (same_player owner q) alters.account.units units (units_in (get player_order old.players q)) (units_of q (draft_of old).planets) (λ here. alters.counted) (before.counted q)
          ∙ counted q;
      roomy = subst (AllByRecursion (λ (e : Player × AccountSketch). MOST_OWNED ≤ vec_capacity e.1.planets)) (sym alters.entries) (set-roomy owner alters.account old.players.entries alters.roomy before.roomy);
      few_players = let most = before.few_players in omega (arith, same_count, most);
      few_planets = few;
      no_accounts = ap (λ v. v.items) others ∙ before.no_accounts;
      no_planets = empty;
      account_room = subst (λ v. length (draft_of new).players ≤ vec_capacity v) (sym others) (let held = before.account_room in omega (arith, same_count, held));
      planet_room = room;
    }

no_units_by : (q : Player) (planet : NewPlanet) → units_by q (first_planet planet) ≡ 0
no_units_by q planet = chosen-same (same_player planet.owner q) (sum (first_planet planet).own.units) 0 (λ here. refl)

-- the draft with one more planet is kept, if one map has the planet and the other one its place
pub planet_kept : (old new : Draft) (planet : NewPlanet) (sketch : Sketch) → IsKept old → MayStand (draft_of old) planet → planet_of sketch ≡ first_planet planet → IsOrdered place_order old.planets
    → new.planets.entries ≡ insert_entry place_order old.planets.entries planet.at sketch → IsSome (get player_order old.players planet.owner)
    → Alters planet.owner (put coord_before planet.at (places_in (get player_order old.players planet.owner))) (own_in (get player_order old.players planet.owner)) (units_in (get player_order old.players planet.owner)) old.players new.players
    → new.planet_room.items ≡ [] → length (draft_of old).planets + 1 ≤ vec_capacity new.planet_room → new.account_room ≡ old.account_room
    → IsKept new
planet_kept old new planet sketch before may founds ordered entries has adds empty room others =
    let here = ap (λ (p : DraftPlanet). p.at) founds in
    let absent = taken_absent planet.at old.planets.entries before.placed may.free in
    let planets = ap (λ es. map planet_of (values_of es)) entries ∙ taken_put planet.at sketch old.planets.entries here before.placed absent ∙ ap (λ p. put planet_before p (draft_of old).planets) founds in
    let count = ap length planets ∙ length-put planet_before (first_planet planet) (draft_of old).planets in
    let rises = planets-rise old.planets.entries before.placed ordered in
    altered_kept old new planet.owner (put coord_before planet.at (places_in (get player_order old.players planet.owner))) (own_in (get player_order old.players planet.owner)) (units_in (get player_order old.players planet.owner)) before has adds
    (subst (AllByRecursion (λ e. e.1.at ≡ e.0)) (sym entries) (All-insert_entry place_order (λ e. e.1.at ≡ e.0) planet.at sketch old.planets.entries here before.placed absent))
    (λ q.
    both-chosen (same_player planet.owner q) (put coord_before planet.at (places_in (get player_order old.players planet.owner))) (put coord_before planet.at (places_of q (draft_of old).planets)) (places_of q (draft_of old).planets) (places_of q (draft_of old).planets)
    (λ same. ap (put coord_before planet.at) (ap (λ (p : Player). places_in (get player_order old.players p)) (player-one planet.owner q same) ∙ before.listed q)) refl
    ∙ sym (places-put q (first_planet planet) (draft_of old).planets rises)
    ∙ ap (places_of q) (sym planets))
    (λ q.
    let more = sum_by-put (units_by q) planet_before (first_planet planet) (draft_of old).planets in
    let none = no_units_by q planet in
    let same : units_of q (draft_of old).planets ≡ units_of q (put planet_before (first_planet planet) (draft_of old).planets) = omega (arith, more, none) in
    chosen-same (same_player planet.owner q) (units_in (get player_order old.players planet.owner)) (units_of q (draft_of old).planets)
    (λ one. ap (λ (p : Player). units_in (get player_order old.players p)) (player-one planet.owner q one) ∙ before.counted q)
    ∙ same
    ∙ ap (units_of q) (sym planets))
    (omega (arith, count, may.room)) empty (omega (arith, count, room)) others

-- the draft is kept in which the account of one player has other technologies
pub taught_kept : (old new : Draft) (player : Player) (own : AccountFields) → IsKept old → IsSome (get player_order old.players player)
    → Alters player (places_in (get player_order old.players player)) own (units_in (get player_order old.players player)) old.players new.players
    → new.planets ≡ old.planets → new.planet_room ≡ old.planet_room → new.account_room ≡ old.account_room → IsKept new
taught_kept old new player own before has alters planets rooms others =
    let same : (draft_of new).planets ≡ (draft_of old).planets = ap (λ m. map planet_of (values m)) planets in
    let count = ap length same in
    altered_kept old new player (places_in (get player_order old.players player)) own (units_in (get player_order old.players player)) before has alters
    (subst (λ m. AllByRecursion (λ e. e.1.at ≡ e.0) m.entries) (sym planets) before.placed)
    (λ q.
    chosen-same (same_player player q) (places_in (get player_order old.players player)) (places_of q (draft_of old).planets)
    (λ one. ap (λ (p : Player). places_in (get player_order old.players p)) (player-one player q one) ∙ before.listed q)
    ∙ ap (places_of q) (sym same))
    (λ q.
    chosen-same (same_player player q) (units_in (get player_order old.players player)) (units_of q (draft_of old).planets)
    (λ one. ap (λ (p : Player). units_in (get player_order old.players p)) (player-one player q one) ∙ before.counted q)
    ∙ ap (units_of q) (sym same))
    (let few = before.few_planets in omega (arith, count, few)) (ap (λ v. v.items) rooms ∙ before.no_planets)
    (subst (λ v. length (draft_of new).planets ≤ vec_capacity v) (sym rooms) (let held = before.planet_room in omega (arith, count, held))) others

-- A planet in place of another one.

set-placed : (sketch : Sketch) (entries : List (Coord × Sketch)) → AllByRecursion (λ e. e.1.at ≡ e.0) entries → AllByRecursion (λ e. e.1.at ≡ e.0) (set_value (is_at (place_order sketch.at)) entries sketch)
set-placed sketch [] placed = tt
set-placed sketch (e ∷ es) (first, later) = either (is_at (place_order sketch.at) e.0) refl (set-placed sketch es later)
  where
    either : (b : Bool) → is_at (place_order sketch.at) e.0 ≡ b → AllByRecursion (λ (e : Coord × Sketch). e.1.at ≡ e.0) (set_value (is_at (place_order sketch.at)) es sketch)
        → AllByRecursion (λ (e : Coord × Sketch). e.1.at ≡ e.0) (cond b ((e.0, sketch) ∷ es) (e ∷ set_value (is_at (place_order sketch.at)) es sketch))
    either true same rest = (same_place_is sketch.at e.0 same, later)
    either false same rest = (first, rest)

-- the draft with a planet in place of one of the same owner is kept
pub changed_kept : (old new : Draft) (sketch : Sketch) (was : DraftPlanet) → IsKept old → planet_at sketch.at (draft_of old).planets ≡ Some was → sketch.at ≡ was.at → sketch.owner ≡ was.own.owner → sketch.units ≡ was.own.units
    → new.planets.entries ≡ set_value (is_at (place_order sketch.at)) old.planets.entries sketch → new.players ≡ old.players → new.account_room ≡ old.account_room → new.planet_room ≡ old.planet_room
    → IsKept new
changed_kept old new sketch was before stands place owner units entries players accounts others =
    let planets = ap (λ es. map planet_of (values_of es)) entries ∙ planet_replaced sketch old.planets.entries before.placed in
    let count = ap length planets ∙ length-replaced (planet_of sketch) (draft_of old).planets in
    record {
      placed = subst (AllByRecursion (λ e. e.1.at ≡ e.0)) (sym entries) (set-placed sketch old.planets.entries before.placed);
      listed =
          λ q.
          ap (λ m. places_in (get player_order m q)) players
          ∙ before.listed q
          ∙ sym (places-replaced q (planet_of sketch) was (draft_of old).planets stands place owner)
          ∙ ap (places_of q) (sym planets);
      counted =
          λ q.
          let all = sum_by-replaced (units_by q) (planet_of sketch) was (draft_of old).planets stands in
          let one : units_by q (planet_of sketch) ≡ units_by q was = λ i. if same_player (owner i) q then sum (units i) else 0 in
          let same : units_of q (draft_of old).planets ≡ units_of q (replaced (planet_of sketch) (draft_of old).planets) = omega (arith, all, one) in
          ap (λ m. units_in (get player_order m q)) players ∙ before.counted q ∙ same ∙ ap (units_of q) (sym planets);
      roomy = subst (λ m. AllByRecursion (λ (e : Player × AccountSketch). MOST_OWNED ≤ vec_capacity e.1.planets) m.entries) (sym players) before.roomy;
      few_players = subst (λ m. length (keys m) ≤ MOST_PLAYERS) (sym players) before.few_players;
      few_planets = let few = before.few_planets in omega (arith, count, few);
      no_accounts = ap (λ v. v.items) accounts ∙ before.no_accounts;
      no_planets = ap (λ v. v.items) others ∙ before.no_planets;
      account_room = subst (λ m. length (keys m) ≤ vec_capacity new.account_room) (sym players) (subst (λ v. length (draft_of old).players ≤ vec_capacity v) (sym accounts) before.account_room);
      planet_room = subst (λ v. length (draft_of new).planets ≤ vec_capacity v) (sym others) (let held = before.planet_room in omega (arith, count, held));
    }

by-owner : (b : Bool) (all before after count total : ℕ) → all + before ≡ total + after → after ≡ before + cond b count 0 → cond b (total + count) total ≡ all
by-owner true all before after count total sums more = omega (arith, sums, more)
by-owner false all before after count total sums more = omega (arith, sums, more)

units-more : (b : Bool) (before after count : ℕ) → after ≡ before + count → cond b after 0 ≡ cond b before 0 + cond b count 0
units-more true before after count more = more
units-more false before after count more = refl

-- the draft is kept in which a planet gives way to one with more units, if these are counted for its owner
pub manned_kept : (old new : Draft) (sketch : Sketch) (was : DraftPlanet) (count : ℕ) → IsKept old → planet_at sketch.at (draft_of old).planets ≡ Some was → sketch.at ≡ was.at → sketch.owner ≡ was.own.owner → sum sketch.units ≡ sum was.own.units + count
    → new.planets.entries ≡ set_value (is_at (place_order sketch.at)) old.planets.entries sketch → IsSome (get player_order old.players was.own.owner)
    → Alters was.own.owner (places_in (get player_order old.players was.own.owner)) (own_in (get player_order old.players was.own.owner)) (units_in (get player_order old.players was.own.owner) + count) old.players new.players
    → new.planet_room ≡ old.planet_room → new.account_room ≡ old.account_room → IsKept new
manned_kept old new sketch was count before stands place owner units entries has alters rooms others =
    let planets = ap (λ es. map planet_of (values_of es)) entries ∙ planet_replaced sketch old.planets.entries before.placed in
    let number = ap length planets ∙ length-replaced (planet_of sketch) (draft_of old).planets in
    altered_kept old new was.own.owner (places_in (get player_order old.players was.own.owner)) (own_in (get player_order old.players was.own.owner)) (units_in (get player_order old.players was.own.owner) + count) before has alters
    (subst (AllByRecursion (λ e. e.1.at ≡ e.0)) (sym entries) (set-placed sketch old.planets.entries before.placed))
    (λ q.
    chosen-same (same_player was.own.owner q) (places_in (get player_order old.players was.own.owner)) (places_of q (draft_of old).planets)
    (λ one. ap (λ (p : Player). places_in (get player_order old.players p)) (player-one was.own.owner q one) ∙ before.listed q)
    ∙ sym (places-replaced q (planet_of sketch) was (draft_of old).planets stands place owner)
    ∙ ap (places_of q) (sym planets))
    (λ q.
    let all = sum_by-replaced (units_by q) (planet_of sketch) was (draft_of old).planets stands in
    let same_owner : units_by q (planet_of sketch) ≡ cond (same_player was.own.owner q) (sum sketch.units) 0 = ap (λ (p : Player). cond (same_player p q) (sum sketch.units) 0) owner in
    let more = units-more (same_player was.own.owner q) (sum was.own.units) (sum sketch.units) count units in
    let gains : units_by q (planet_of sketch) ≡ units_by q was + cond (same_player was.own.owner q) count 0 = omega (arith, more, same_owner) in
    both-chosen (same_player was.own.owner q) (units_in (get player_order old.players was.own.owner) + count) (units_of q (draft_of old).planets + count) (units_of q (draft_of old).planets) (units_of q (draft_of old).planets)
    (λ one. ap (λ n. n + count) (ap (λ (p : Player). units_in (get player_order old.players p)) (player-one was.own.owner q one) ∙ before.counted q)) refl
    ∙ by-owner (same_player was.own.owner q) (units_of q (replaced (planet_of sketch) (draft_of old).planets)) (units_by q was) (units_by q (planet_of sketch)) count (units_of q (draft_of old).planets) all gains
    ∙ ap (units_of q) (sym planets))
    (let few = before.few_planets in omega (arith, number, few)) (ap (λ v. v.items) rooms ∙ before.no_planets)
    (subst (λ v. length (draft_of new).planets ≤ vec_capacity v) (sym rooms) (let held = before.planet_room in omega (arith, number, held))) others
