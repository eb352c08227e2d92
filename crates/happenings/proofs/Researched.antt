-- Planets that gain and pay at a place, and the first research of an account that can start.
use Rattle.std.proofs.Common.{[], ◌∷◌, ◌≡◌, ℕ, ◌+◌, ◌-◌, ◌≤◌, ◌<◌, Bool, ◌||◌, true, false, cond, refl, ap, ◌∙◌, sym, subst, arith, List, length, take, drop, get_or, map, Option, Some, None}
use Rattle.std.proofs.Math.Path.{fun_ext}
use Rattle.std.proofs.lemmas.List.Folds.{list_any_at, list_any_more}
use Rattle.std.specs.Prelude.{IfSome, option_map, slice_get}
use Rattle.std.specs.BTreeMap.{Updates, get, is_at}
use Rattle.account_cell.specs.Account.{account_fields, research_item, research_of}
use Rattle.account_cell.specs.Queue.{first_started}
use Rattle.account_cell.specs.declared.account.Account.{Account}
use Rattle.account_cell.specs.declared.research_item.ResearchItem.{ResearchItem}
use Rattle.base_ids.specs.Cells.{same_coord}
use Rattle.base_ids.specs.declared.cell_id.CellId.{CellId}
use Rattle.base_ids.specs.declared.cell_id.CellId.TheVariants.{Planet as PlanetId}
use Rattle.base_ids.specs.declared.coord.Coord.{Coord}
use Rattle.base_ids.specs.declared.player.Player.{Player}
use Rattle.catalog.specs.Costs.{Cost}
use Rattle.catalog.specs.declared.kind.Kind.TheVariants.{Lab}
use Rattle.planet_cell.specs.Planet.{batches_of, buildings_of, fields_of}
use Rattle.planet_cell.specs.declared.planet.Planet.{Planet}
use Rattle.rates.specs.Times.{times}
use Rattle.tick_model.proofs.Lists.{cell-itself}
use Rattle.tick_model.specs.Buildings.{paid}
use Rattle.tick_model.specs.Changes.{put_own}
use Rattle.tick_model.specs.Production.{gains, level_of}
use Rattle.tick_model.specs.Researches.{can_start, pays_research, research_price, started_research, starts_first_research, starts_research, Researching}
use Rattle.tick_model.specs.Universe.{AccountFields, Own, PlanetFields, of_planet}
use Rattle.tick_model.specs.declared.rules.Rules.{Rules}
use Rattle.happenings.specs.Gaining.{gained}
use Rattle.happenings.specs.Held.{Stand, planet_stand}
use Rattle.happenings.specs.Orders.{place_order}
use Rattle.happenings.specs.Researching.{AreOwns, GainsAt, HasPayer, HaveOwns, PayersBehind, PayersGain, Pays, Planets, came_first, own_held, pays_some, stand_in, with_own}
use Rattle.happenings.specs.declared.held.PlanetCell.{PlanetCell}
use Rattle.happenings.proofs.Gains.{queue-same}
use Rattle.happenings.proofs.Keys.{at_place, place_is}
use Rattle.happenings.proofs.Putting.{mapped}

-- A planet that is held anew at a place.

coord-is : (a b : Coord) → same_coord a b ≡ true → a ≡ b
coord-is a b same = place_is a b (at_place a b ∙ same)

-- what is held after the planet at a place is another
pub held_anew : (old new : Planets) (at : Coord) (now : PlanetCell) → Updates place_order old new at (Some now)
    → (place : Coord) → stand_in new place ≡ cond (same_coord at place) (Some (planet_stand now)) (stand_in old place)
held_anew old new at now updates place =
    ap (option_map planet_stand) (updates.0 place) ∙ mapped planet_stand (is_at (place_order at) place) now (get place_order old place)
    ∙ ap (λ b. cond b (Some (planet_stand now)) (stand_in old place)) (at_place at place)

-- a step of the planet at a place is a step at each place that is the same
stepped : (f : Stand → Stand) (planets : Planets) (at : Coord) (o : Option Stand) (place : Coord) (b : Bool) → same_coord at place ≡ b → stand_in planets at ≡ o
    → cond b (option_map f o) (stand_in planets place) ≡ cond b (option_map f (stand_in planets place)) (stand_in planets place)
stepped f planets at o place true same found = ap (option_map f) (sym found ∙ ap (stand_in planets) (coord-is at place same))
stepped f planets at o place false same found = refl

pub gains_here : (rules : Rules) (second : ℕ) (at : Coord) (old new : Planets) (cell now : PlanetCell) → get place_order old at ≡ Some cell → Updates place_order old new at (Some now)
    → planet_stand now ≡ gained rules second (planet_stand cell) → GainsAt rules second at old new
gains_here rules second at old new cell now found updates is place =
    held_anew old new at now updates place
    ∙ ap (λ s. cond (same_coord at place) (Some s) (stand_in old place)) is
    ∙ stepped (gained rules second) old at (Some (planet_stand cell)) place (same_coord at place) refl (ap (option_map planet_stand) found)

none-here : (f : Stand → Stand) (planets : Planets) (place : Coord) (b : Bool) → (b ≡ true → stand_in planets place ≡ None)
    → stand_in planets place ≡ cond b (option_map f (stand_in planets place)) (stand_in planets place)
none-here f planets place true none = none refl ∙ ap (option_map f) (sym (none refl))
none-here f planets place false none = refl

pub gains_nowhere : (rules : Rules) (second : ℕ) (at : Coord) (planets : Planets) → get place_order planets at ≡ None → GainsAt rules second at planets planets
gains_nowhere rules second at planets none place =
    none-here (gained rules second) planets place (same_coord at place)
    (λ same. ap (stand_in planets) (sym (coord-is at place same)) ∙ ap (option_map planet_stand) none)

-- a planet that paid
pub paid_stand : (price : Cost) (cell now : PlanetCell) → now.second ≡ cell.second → now.fleets ≡ cell.fleets
    → fields_of now.planet ≡ record (fields_of cell.planet) { stock = paid (fields_of cell.planet).stock price }
    → buildings_of now.planet ≡ buildings_of cell.planet → batches_of now.planet ≡ batches_of cell.planet
    → planet_stand now ≡ with_own (of_planet (record (fields_of cell.planet) { stock = paid (fields_of cell.planet).stock price })) (planet_stand cell)
paid_stand price cell now second flown fields buildings yard =
    let queue = fun_ext (queue-same now.planet cell.planet buildings yard) in
    (λ i. record { second = second i; seen = record { own = of_planet (fields i); queue = queue i; fleets = flown i; planets = []; units = 0 } })

pub pays_here : (price : Cost) (at : Coord) (old new : Planets) (cell now : PlanetCell) → get place_order old at ≡ Some cell → Updates place_order old new at (Some now)
    → planet_stand now ≡ with_own (of_planet (record (fields_of cell.planet) { stock = paid (fields_of cell.planet).stock price })) (planet_stand cell) → Pays price at old new
pays_here price at old new cell now found updates is other is-other place =
    let same : cell ≡ other = cc in
    held_anew old new at now updates place
    ∙ ap (λ s. cond (same_coord at place) (Some s) (stand_in old place)) is
    ∙ ap (λ c. cond (same_coord at place) (Some (with_own (of_planet (record (fields_of c.planet) { stock = paid (fields_of c.planet).stock price })) (planet_stand c))) (stand_in old place)) same

-- the lab of the planet that paid
pub level_kept : (planets : Planets) (at : Coord) (cell other : PlanetCell) (now : Planet) (price : Cost) (level : ℕ) → get place_order planets at ≡ Some cell → get place_order planets at ≡ Some other
    → fields_of now ≡ record (fields_of cell.planet) { stock = paid (fields_of cell.planet).stock price } → level ≡ level_of (fields_of now) Lab → level ≡ level_of (fields_of other.planet) Lab
unfolding level_of
level_kept planets at cell other now price level found is-other fields is =
    let same : cell ≡ other = cc in
    is ∙ ap (λ f. level_of f Lab) fields ∙ ap (λ (c : PlanetCell). level_of (fields_of c.planet) Lab) same

-- Planets that gain, one after the other.

-- a cell that gained until a second gains no more until then
gained-twice : (rules : Rules) (second : ℕ) (stand : Stand) → gained rules second (gained rules second stand) ≡ gained rules second stand
unfolding times
gained-twice rules second stand =
    let none : second - second ≡ 0 = omega arith in
    (λ i. record { second = second; seen = gains rules (none i) (gains rules (second - stand.second) stand.seen) })

once-more : (rules : Rules) (second : ℕ) (first then : Bool) (o : Option Stand)
    → cond then (option_map (gained rules second) (cond first (option_map (gained rules second) o) o)) (cond first (option_map (gained rules second) o) o)
    ≡ cond (first || then) (option_map (gained rules second) o) o
once-more rules second true true None = refl
once-more rules second true true (Some stand) = ap Some (gained-twice rules second stand)
once-more rules second true false o = refl
once-more rules second false true o = refl
once-more rules second false false o = refl

pub one_gained_more : (rules : Rules) (second : ℕ) (items : List ResearchItem) (k : ℕ) (item : ResearchItem) (old between new : Planets) → k < length items → get_or items k item ≡ item
    → PayersGain rules second (take k items) old between → GainsAt rules second item.at between new → PayersGain rules second (take (k + 1) items) old new
one_gained_more rules second items k item old between new within is before now at =
    let f = gained rules second in
    let o = stand_in old at in
    let first = pays_some (take k items) at in
    now at
    ∙ ap (λ s. cond (same_coord item.at at) (option_map f s) s) (before at)
    ∙ once-more rules second first (same_coord item.at at) o
    ∙ ap (λ (i : ResearchItem). cond (first || same_coord i.at at) (option_map f o) o) (sym is)
    ∙ ap (λ b. cond b (option_map f o) o) (sym (list_any_more (λ (i : ResearchItem). same_coord i.at at) items k item within))

-- a planet that is to pay stands no later than the second, whether it gained already or not

to-stand : (second : ℕ) (o : Option PlanetCell) → IfSome o (λ cell. cell.second ≤ second) → IfSome (option_map planet_stand o) (λ s. s.second ≤ second)
to-stand second None behind = tt
to-stand second (Some cell) behind = behind

from-stand : (second : ℕ) (o : Option PlanetCell) → IfSome (option_map planet_stand o) (λ s. s.second ≤ second) → IfSome o (λ cell. cell.second ≤ second)
from-stand second None behind = tt
from-stand second (Some cell) behind = behind

still-behind : (rules : Rules) (second : ℕ) (b : Bool) (o : Option Stand) → IfSome o (λ s. s.second ≤ second) → IfSome (cond b (option_map (gained rules second) o) o) (λ s. s.second ≤ second)
still-behind rules second true None behind = tt
still-behind rules second true (Some stand) behind = omega arith
still-behind rules second false o behind = behind

pub place_paid : (items : List ResearchItem) (k : ℕ) (item : ResearchItem) → k < length items → get_or items k item ≡ item → pays_some items item.at ≡ true
place_paid items k item within is =
    list_any_at (λ (i : ResearchItem). same_coord i.at item.at) items k item within
    (ap (λ (i : ResearchItem). same_coord i.at item.at) is ∙ cell-itself (PlanetId item.at))

pub payer_behind : (rules : Rules) (second : ℕ) (items passed : List ResearchItem) (k : ℕ) (item : ResearchItem) (old between : Planets) → k < length items → get_or items k item ≡ item
    → PayersBehind items second old → PayersGain rules second passed old between → IfSome (get place_order between item.at) (λ cell. cell.second ≤ second)
payer_behind rules second items passed k item old between within is behind gain =
    from-stand second (get place_order between item.at)
    (subst (λ (o : Option Stand). IfSome o (λ s. s.second ≤ second)) (sym (gain item.at))
    (still-behind rules second (pays_some passed item.at) (stand_in old item.at)
    (to-stand second (get place_order old item.at) (behind item.at (place_paid items k item within is)))))

-- The first research that can start.

-- an item that can't start is dropped
dropped : (speed second : ℕ) (fields : AccountFields) (player : Player) (own : CellId → Own) (items : List ResearchItem) (item : ResearchItem) → slice_get items 0 ≡ Some item
    → can_start speed fields (own (PlanetId item.at)) (research_item player item) ≡ false
    → starts_first_research speed second fields own (map (research_item player) (drop 1 items)) ≡ starts_first_research speed second fields own (map (research_item player) items)
dropped speed second fields player own [] item first not = absurd (cc first)
dropped speed second fields player own (x ∷ xs) item first not =
    let same : x ≡ item = cc in
    let never : can_start speed fields (own (PlanetId x.at)) (research_item player x) ≡ false =
    ap (λ (y : ResearchItem). can_start speed fields (own (PlanetId y.at)) (research_item player y)) same ∙ not in
    rw never refl

pub came_dropped : (speed second : ℕ) (own : CellId → Own) (old new : Account) (item : ResearchItem) → slice_get old.research.items 0 ≡ Some item → new.research.items ≡ drop 1 old.research.items
    → account_fields new ≡ account_fields old → new.player ≡ old.player → can_start speed (account_fields old) (own (PlanetId item.at)) (research_item old.player item) ≡ false
    → came_first speed second new own ≡ came_first speed second old own
came_dropped speed second own old new item first items fields player not =
    (λ i. starts_first_research speed second (fields i) own (map (research_item (player i)) (items i)))
    ∙ dropped speed second (account_fields old) old.player own old.research.items item first not

-- who is to pay an item of the rest, or the first item, is to pay an item
pub pays_rest : (items : List ResearchItem) (at : Coord) → pays_some (drop 1 items) at ≡ true → pays_some items at ≡ true
pays_rest [] at pays = pays
pays_rest (x ∷ xs) at pays = or-later (same_coord x.at at) (pays_some xs at) pays
  where
    or-later : (a b : Bool) → b ≡ true → (a || b) ≡ true
    or-later true b is = refl
    or-later false b is = is

pub pays_first : (items : List ResearchItem) (item : ResearchItem) → slice_get items 0 ≡ Some item → pays_some items item.at ≡ true
pays_first [] item first = absurd (cc first)
pays_first (x ∷ xs) item first =
    let same : x ≡ item = cc in
    let here : same_coord x.at item.at ≡ true = ap (λ (y : ResearchItem). same_coord y.at item.at) same ∙ cell-itself (PlanetId item.at) in
    rw here refl

-- an item that can start starts, by what its planet has
starting : (speed second : ℕ) (fields : AccountFields) (player : Player) (own : CellId → Own) (items : List ResearchItem) (item : ResearchItem) (cell : PlanetCell) → slice_get items 0 ≡ Some item
    → own (PlanetId item.at) ≡ of_planet (fields_of cell.planet) → can_start speed fields (own (PlanetId item.at)) (research_item player item) ≡ true
    → starts_first_research speed second fields own (map (research_item player) items)
    ≡ record { own = put_own (PlanetId item.at) (of_planet (pays_research fields (fields_of cell.planet) item.kind.kind)) own; queue = first_started speed second fields (fields_of cell.planet) (map (research_item player) items) }
starting speed second fields player own [] item cell first owned can = absurd (cc first)
starting speed second fields player own (x ∷ xs) item cell first owned can =
    let same : x ≡ item = cc in
    let owns : own (PlanetId x.at) ≡ of_planet (fields_of cell.planet) = ap (λ (y : ResearchItem). own (PlanetId y.at)) same ∙ owned in
    let able : can_start speed fields (of_planet (fields_of cell.planet)) (research_item player x) ≡ true =
    ap (λ o. can_start speed fields o (research_item player x)) (sym owns)
    ∙ ap (λ (y : ResearchItem). can_start speed fields (own (PlanetId y.at)) (research_item player y)) same ∙ can in
    (λ i. cond (can_start speed fields (owns i) (research_item player x))
    (starts_research speed second fields own (owns i) (research_item player x) (map (research_item player) xs))
    (starts_first_research speed second fields own (map (research_item player) xs)))
    ∙ ap (λ b. cond b
    (record { own = put_own (PlanetId x.at) (of_planet (pays_research fields (fields_of cell.planet) x.kind.kind)) own; queue = started_research speed second fields (fields_of cell.planet) (research_item player x) ∷ map (research_item player) xs })
    (starts_first_research speed second fields own (map (research_item player) xs))) able
    ∙ ap (λ (y : ResearchItem). record { own = put_own (PlanetId y.at) (of_planet (pays_research fields (fields_of cell.planet) y.kind.kind)) own; queue = started_research speed second fields (fields_of cell.planet) (research_item player x) ∷ map (research_item player) xs }) same

-- planets that have what they had
own-as-before : (planets : Planets) (own : CellId → Own) (at : Coord) (o : Option PlanetCell) → get place_order planets at ≡ o → own (PlanetId at) ≡ own_held o
    → option_map (with_own (own (PlanetId at))) (option_map planet_stand o) ≡ option_map planet_stand o
own-as-before planets own at None is owned = refl
own-as-before planets own at (Some cell) is owned = ap (λ x. Some (with_own x (planet_stand cell))) owned

as-before : (planets : Planets) (own : CellId → Own) (at : Coord) (b : Bool) → (b ≡ true → own (PlanetId at) ≡ own_held (get place_order planets at))
    → stand_in planets at ≡ cond b (option_map (with_own (own (PlanetId at))) (stand_in planets at)) (stand_in planets at)
as-before planets own at true owned = sym (own-as-before planets own at (get place_order planets at) refl (owned refl))
as-before planets own at false owned = refl

pub nothing_paid : (items : List ResearchItem) (own : CellId → Own) (planets : Planets) → AreOwns items own planets → HaveOwns items own planets planets
nothing_paid items own planets are at = as-before planets own at (pays_some items at) (are at)

payer-here : (price : Cost) (o : Option PlanetCell) → HasPayer price o → (cell : PlanetCell) × (o ≡ Some cell)
payer-here price None has = absurd has
payer-here price (Some cell) has = (cell, refl)

module _ (speed second : ℕ) (own : CellId → Own) (items : List ResearchItem) (old new : Account) (item : ResearchItem) (planets now : Planets) (price : Cost)
    (first : slice_get old.research.items 0 ≡ Some item) (can : can_start speed (account_fields old) (own_held (get place_order planets item.at)) (research_item old.player item) ≡ true)
    (pays : pays_some items item.at ≡ true) (are : AreOwns items own planets) (payer : HasPayer price (get place_order planets item.at)) where
  starts-by : (cell : PlanetCell) → get place_order planets item.at ≡ Some cell
      → came_first speed second old own
      ≡ record { own = put_own (PlanetId item.at) (of_planet (pays_research (account_fields old) (fields_of cell.planet) item.kind.kind)) own; queue = first_started speed second (account_fields old) (fields_of cell.planet) (research_of old) }
  starts-by cell found =
      starting speed second (account_fields old) old.player own old.research.items item cell first (are item.at pays ∙ ap own_held found)
      (ap (λ o. can_start speed (account_fields old) o (research_item old.player item)) (are item.at pays) ∙ can)

  -- the research that starts, in the lab of its planet
  pub first_starts : (level : ℕ) → ((cell : PlanetCell) → get place_order planets item.at ≡ Some cell → level ≡ level_of (fields_of cell.planet) Lab)
      → ((planet : PlanetFields) → level ≡ level_of planet Lab → research_of new ≡ first_started speed second (account_fields old) planet (research_of old))
      → research_of new ≡ (came_first speed second old own).queue
  first_starts level lab starts =
      let there = payer-here price (get place_order planets item.at) payer in
      starts (fields_of there.0.planet) (lab there.0 there.1) ∙ ap (λ (r : Researching). r.queue) (sym (starts-by there.0 there.1))

  paid-at : (cell : PlanetCell) (has : Own) (at : Coord) (b : Bool) → get place_order planets item.at ≡ Some cell → same_coord item.at at ≡ b
      → cond b (Some (with_own has (planet_stand cell))) (stand_in planets at)
      ≡ cond (pays_some items at) (option_map (with_own (cond b has (own (PlanetId at)))) (stand_in planets at)) (stand_in planets at)
  paid-at cell has at true found same =
      let here = coord-is item.at at same in
      let some : pays_some items at ≡ true = ap (pays_some items) (sym here) ∙ pays in
      let stands : stand_in planets at ≡ Some (planet_stand cell) = ap (stand_in planets) (sym here) ∙ ap (option_map planet_stand) found in
      sym (ap (λ b. cond b (option_map (with_own has) (stand_in planets at)) (stand_in planets at)) some ∙ ap (option_map (with_own has)) stands)
  paid-at cell has at false found other = as-before planets own at (pays_some items at) (are at)

  -- its planet has paid, and the others are as before
  pub first_paid : price ≡ research_price (account_fields old) item.kind.kind → Pays price item.at planets now → HaveOwns items (came_first speed second old own).own planets now
  first_paid value paying =
      let there = payer-here price (get place_order planets item.at) payer in
      let cell = there.0 in
      let planet = fields_of cell.planet in
      subst (λ (r : Researching). HaveOwns items r.own planets now) (sym (starts-by cell there.1))
      (λ at. paying cell there.1 at
      ∙ ap (λ (p : Cost). cond (same_coord item.at at) (Some (with_own (of_planet (record planet { stock = paid planet.stock p })) (planet_stand cell))) (stand_in planets at)) value
      ∙ paid-at cell (of_planet (pays_research (account_fields old) planet item.kind.kind)) at (same_coord item.at at) there.1 refl)

-- no item is left
none-left : (items : List ResearchItem) → slice_get items 0 ≡ None → items ≡ []
none-left [] none = refl
none-left (x ∷ xs) none = absurd (cc none)

pub nothing_starts : (speed second : ℕ) (own : CellId → Own) (old : Account) → slice_get old.research.items 0 ≡ None → research_of old ≡ (came_first speed second old own).queue
nothing_starts speed second own old none =
    let empty = none-left old.research.items none in
    ap (map (research_item old.player)) empty
    ∙ sym (ap (λ (xs : List ResearchItem). (starts_first_research speed second (account_fields old) own (map (research_item old.player) xs)).queue) empty)

pub own_left : (speed second : ℕ) (own : CellId → Own) (old : Account) → slice_get old.research.items 0 ≡ None → own ≡ (came_first speed second old own).own
own_left speed second own old none =
    sym (ap (λ (xs : List ResearchItem). (starts_first_research speed second (account_fields old) own (map (research_item old.player) xs)).own) (none-left old.research.items none))
