-- What comes of a request about the caller's own planet.
use Rattle.std.proofs.Common.{◌≡◌, ℕ, ◌<◌, ◌+◌, false, List, [], ◌∷◌, map, refl, ap, sym, subst, ◌∙◌, arith}
use Rattle.std.specs.Prelude.{◌==◌, if◌then◌else◌, slice_set, Result, Ok, Err, IfOk}
use Rattle.std.proofs.lemmas.Bool.Decides.{nat_tests}
use Rattle.account_cell.specs.Account.{AreSame as AreSameAccount, KeepsHoldings, KeepsResearch, account_fields, research_item, research_of}
use Rattle.account_cell.specs.Queue.{new_research, research_ordered, research_placed}
use Rattle.account_cell.specs.declared.account.Account.{Account}
use Rattle.base_ids.specs.declared.cell_id.CellId.TheVariants.{Planet as PlanetId}
use Rattle.base_ids.specs.declared.coord.Coord.{Coord}
use Rattle.catalog.specs.Kinds.{place_in}
use Rattle.catalog.specs.declared.classes.TheConstants.{WORKS}
use Rattle.catalog.specs.declared.kind.Kind.{Kind}
use Rattle.orders.proofs.Left.{batch_joins, building_joins, is_outcome, place_itself, research_joins, same_queues, unchanged}
use Rattle.orders.specs.Granting.{IsOutcome, IsSeen, order_line, research_paid}
use Rattle.orders.specs.declared.parts.Acted.{Acted}
use Rattle.planet_cell.specs.Planet.{AreSame, batch_item_of, batches_of, buildings_of, fields_of, item_of, queue_of}
use Rattle.planet_cell.specs.Queue.{new_item, ordered, placed, works_of}
use Rattle.planet_cell.specs.Yard.{batch_ordered, batch_placed, new_batch, yard_of}
use Rattle.planet_cell.specs.declared.planet.Planet.{Planet}
use Rattle.tick_model.specs.Buildings.{Works, pays}
use Rattle.tick_model.specs.Changes.{owns}
use Rattle.tick_model.specs.Lines.{planet_text}
use Rattle.tick_model.specs.Requests.{Outcome, Sight, builds, queues, queues_batch, queues_research, refused, researches, sets, shows, unless, with_planet, yards}
use Rattle.tick_model.specs.Refusals.{build_refusal, research_refusal, yard_refusal}
use Rattle.tick_model.specs.Researches.{pays_research}
use Rattle.tick_model.specs.Universe.{AccountFields, Buildings, Item, PlanetFields, Researches, Yard, of_planet}
use Rattle.tick_model.specs.Views.{View}
use Rattle.tick_model.specs.Yards.{pays_batch}
use Rattle.tick_model.specs.declared.placed.Placed.{Placed}
use Rattle.tick_model.specs.declared.rules.Rules.{Rules}

-- `planet C`
pub shown : (sight : Sight) (rules : Rules) (moment : ℕ) (account : Account) (planet : Planet) (acted : Acted) → IsSeen sight rules moment account planet
    → acted.code ≡ 0 → acted.body ≡ planet_text rules.speed planet.at (fields_of planet) (queue_of planet)
    → IsOutcome sight 0 (shows sight planet.at (account_fields account) (fields_of planet)) account planet acted
shown sight rules moment account planet acted seen code body =
    let text : acted.body ≡ planet_text sight.rules.speed planet.at (fields_of planet) (sight.seen (PlanetId planet.at)).queue =
    body ∙ (λ i. planet_text (sym seen.rules_are i).speed planet.at (fields_of planet) (sym seen.planet_is i).queue) in
    unchanged sight rules moment 0 (record { code = 0; body = planet_text sight.rules.speed planet.at (fields_of planet) (sight.seen (PlanetId planet.at)).queue }) account planet acted seen code text refl

-- `set C WORK TENTHS`
pub set : (sight : Sight) (rules : Rules) (moment : ℕ) (account : Account) (kind : Kind) (tenths : ℕ) (old new : Planet) (acted : Acted) → IsSeen sight rules moment account old
    → acted.code ≡ 0 → acted.body ≡ [] → fields_of new ≡ record (fields_of old) { tenths = slice_set old.tenths (place_in WORKS kind) tenths } → buildings_of new ≡ buildings_of old → batches_of new ≡ batches_of old
    → new.at ≡ old.at → IsOutcome sight 0 (sets sight old.at kind tenths (account_fields account) (fields_of old)) account new acted
set sight rules moment account kind tenths old new acted seen code body fields buildings yard at =
    let total : account.units ≡ account.units + 0 = omega arith in
    let own : of_planet (record (fields_of old) { tenths = slice_set old.tenths (place_in WORKS kind) tenths }) ≡ of_planet (fields_of new) = ap of_planet (sym fields) in
    is_outcome sight rules moment 0 (sets sight old.at kind tenths (account_fields account) (fields_of old)) account old account new acted seen
    (record {
      leaves = record { stays = refl; none_sent = refl };
      player = refl;
      at = at;
      account_own = ap (λ (x : View). x.own) seen.account_is;
      account_queues = λ class. ap (λ (x : View). x.queue class) seen.account_is;
      planets = refl;
      total = total;
      planet_own = rw (place_itself old.at) own;
      planet_queues = same_queues old new (sight.seen (PlanetId old.at)) seen.planet_is buildings yard;
    })
    code
    body

different : (code : ℕ) → 0 < code → (code == 0) ≡ false
different code some = grind (arith, nat_tests)

-- a refusal
refused_is : (sight : Sight) (rules : Rules) (moment units : ℕ) (came : Outcome) (code : ℕ) (account : Account) (planet : Planet) (acted : Acted) → IsSeen sight rules moment account planet
    → came ≡ refused sight code → acted.code ≡ code → 0 < code → acted.body ≡ [] → IsOutcome sight units came account planet acted
refused_is sight rules moment units came code account planet acted seen is told some body =
    let apart : (code == 0) ≡ false = different code some in
    let none : (if code == 0 then units else 0) ≡ 0 = rw apart refl in
    let outcome : IsOutcome sight units (refused sight code) account planet acted =
    unchanged sight rules moment units (record { code = code; body = [] }) account planet acted seen told body none in
    subst (λ (x : Outcome). IsOutcome sight units x account planet acted) (sym is) outcome

pub unless_refused : (sight : Sight) (code : ℕ) (grant : Outcome) → 0 < code → unless sight code grant ≡ refused sight code
unless_refused sight code grant some = let apart : (code == 0) ≡ false = different code some in rw apart refl

pub unless_granted : (sight : Sight) (code : ℕ) (grant : Outcome) → code ≡ 0 → unless sight code grant ≡ grant
unless_granted sight code grant none = ap (λ (n : ℕ). if n == 0 then grant else refused sight n) none

-- what a building ordered comes to, if its queue has these items
builds_in : Sight → Coord → Kind → AccountFields → PlanetFields → List Item → Outcome
builds_in sight at kind account planet items = unless sight (build_refusal account planet items kind) (queues sight at kind planet items)

builds_is : (sight : Sight) (rules : Rules) (moment : ℕ) (account : Account) (planet : Planet) (kind : Kind) → IsSeen sight rules moment account planet
    → builds sight planet.at kind (account_fields account) (fields_of planet) ≡ builds_in sight planet.at kind (account_fields account) (fields_of planet) (buildings_of planet)
unfolding builds_in
builds_is sight rules moment account planet kind seen =
    ap (λ (x : View). builds_in sight planet.at kind (account_fields account) (fields_of planet) (x.queue Buildings)) seen.planet_is

-- `build C BUILDING`, refused
pub not_built : (sight : Sight) (rules : Rules) (moment : ℕ) (account : Account) (kind : Kind) (planet : Planet) (acted : Acted) → IsSeen sight rules moment account planet
    → acted.code ≡ build_refusal (account_fields account) (fields_of planet) (buildings_of planet) kind → 0 < acted.code → acted.body ≡ []
    → IsOutcome sight 0 (builds sight planet.at kind (account_fields account) (fields_of planet)) account planet acted
unfolding builds_in
not_built sight rules moment account kind planet acted seen code some body =
    let came = builds_is sight rules moment account planet kind seen ∙ unless_refused sight (build_refusal (account_fields account) (fields_of planet) (buildings_of planet) kind) (queues sight planet.at kind (fields_of planet) (buildings_of planet)) (subst (λ (n : ℕ). 0 < n) code some) in
    refused_is sight rules moment 0 _ _ account planet acted seen came code (subst (λ (n : ℕ). 0 < n) code some) body

-- a building is ordered, by the rules, the moment and the number that are seen
built_items : (sight : Sight) (rules : Rules) (moment : ℕ) (account : Account) (kind : Kind) (items : List Item) (old new : Planet) (acted : Acted) → IsSeen sight rules moment account old
    → acted.code ≡ 0 → acted.body ≡ order_line (placed sight.rules.speed sight.moment (fields_of old) items kind) → new.at ≡ old.at
    → works_of new ≡ ordered sight.rules.speed sight.moment (fields_of old) items (record (new_item old.at kind) { number = sight.number }) → batches_of new ≡ batches_of old
    → IsOutcome sight 0 (queues sight old.at kind (fields_of old) items) account new acted
built_items sight rules moment account kind [] old new acted seen code body at works yard =
    let planet : pays (fields_of old) kind ≡ fields_of new = ap (λ (x : Works). x.planet) (sym works) in
    building_joins sight rules moment (with_planet sight old.at (pays (fields_of old) kind)) _ _ account old new acted seen code body at
    (rw (place_itself old.at) (ap of_planet planet)) refl (ap (λ (x : Works). x.queue) works) yard
built_items sight rules moment account kind (first ∷ later) old new acted seen code body at works yard =
    let planet : fields_of old ≡ fields_of new = ap (λ (x : Works). x.planet) (sym works) in
    building_joins sight rules moment (owns sight.seen) _ _ account old new acted seen code body at
    (ap (λ (x : View). x.own) seen.planet_is ∙ ap of_planet planet) refl (ap (λ (x : Works). x.queue) works) yard

-- `build C BUILDING`, granted
built : (sight : Sight) (rules : Rules) (moment : ℕ) (account : Account) (kind : Kind) (old new : Planet) (acted : Acted) (order : Placed) → IsSeen sight rules moment account old
    → build_refusal (account_fields account) (fields_of old) (buildings_of old) kind ≡ 0 → acted.code ≡ 0 → acted.body ≡ order_line order → new.at ≡ old.at
    → order ≡ placed rules.speed moment (fields_of old) (buildings_of old) kind
    → works_of new ≡ ordered rules.speed moment (fields_of old) (buildings_of old) (new_item old.at kind) → batches_of new ≡ batches_of old
    → IsOutcome sight 0 (builds sight old.at kind (account_fields account) (fields_of old)) account new acted
unfolding builds_in
built sight rules moment account kind old new acted order seen none code body at told works yard =
    let speed : rules.speed ≡ sight.rules.speed = ap (λ (x : Rules). x.speed) (sym seen.rules_are) in
    let time : moment ≡ sight.moment = sym seen.moment_is in
    let number : 0 ≡ sight.number = sym seen.number_is in
    let came = builds_is sight rules moment account old kind seen ∙ unless_granted sight (build_refusal (account_fields account) (fields_of old) (buildings_of old) kind) (queues sight old.at kind (fields_of old) (buildings_of old)) none in
    let outcome =
    built_items sight rules moment account kind (buildings_of old) old new acted seen code
    (body ∙ ap order_line told ∙ (λ i. order_line (placed (speed i) (time i) (fields_of old) (buildings_of old) kind))) at
    (works ∙ (λ i. ordered (speed i) (time i) (fields_of old) (buildings_of old) (record (new_item old.at kind) { number = number i }))) yard in
    subst (λ (x : Outcome). IsOutcome sight 0 x account new acted) (sym came) outcome

same_buildings : (old copy : Planet) → AreSame old copy → buildings_of copy ≡ buildings_of old
same_buildings old copy same = λ i. map (item_of (sym same.at i)) (sym same.buildings i)

same_batches : (old copy : Planet) → AreSame old copy → batches_of copy ≡ batches_of old
same_batches old copy same = λ i. map (batch_item_of (sym same.at i)) (sym same.yard i)

-- the same, if the order was made on a copy
pub built_on_copy : (sight : Sight) (rules : Rules) (moment : ℕ) (account : Account) (kind : Kind) (old copy new : Planet) (acted : Acted) (order : Placed) → IsSeen sight rules moment account old
    → AreSame old copy → build_refusal (account_fields account) (fields_of old) (buildings_of old) kind ≡ 0 → acted.code ≡ 0 → acted.body ≡ order_line order → new.at ≡ copy.at
    → order ≡ placed rules.speed moment (fields_of copy) (buildings_of copy) kind
    → works_of new ≡ ordered rules.speed moment (fields_of copy) (buildings_of copy) (new_item copy.at kind) → batches_of new ≡ batches_of copy
    → IsOutcome sight 0 (builds sight old.at kind (account_fields account) (fields_of old)) account new acted
built_on_copy sight rules moment account kind old copy new acted order seen same none code body at told works yard =
    let items = same_buildings old copy same in
    let fields : fields_of copy ≡ fields_of old = sym same.fields in
    built sight rules moment account kind old new acted order seen none code body (at ∙ sym same.at)
    (told ∙ (λ i. placed rules.speed moment (fields i) (items i) kind))
    (works ∙ (λ i. ordered rules.speed moment (fields i) (items i) (new_item (sym same.at i) kind)))
    (yard ∙ same_batches old copy same)

-- what a batch ordered comes to, if the account has so many units and the yard these batches
yards_in : Sight → Coord → Kind → ℕ → AccountFields → PlanetFields → ℕ → List Item → Outcome
yards_in sight at kind count account planet units batches =
    unless sight (yard_refusal account units planet batches kind count) (queues_batch sight at kind count planet batches)

yards_is : (sight : Sight) (rules : Rules) (moment : ℕ) (account : Account) (planet : Planet) (kind : Kind) (count : ℕ) → IsSeen sight rules moment account planet
    → yards sight account.player planet.at kind count (account_fields account) (fields_of planet)
    ≡ yards_in sight planet.at kind count (account_fields account) (fields_of planet) account.units (batches_of planet)
unfolding yards_in
yards_is sight rules moment account planet kind count seen =
    λ i. yards_in sight planet.at kind count (account_fields account) (fields_of planet) (seen.account_is i).units ((seen.planet_is i).queue Yard)

-- `yard C UNIT COUNT`, refused
pub not_yarded : (sight : Sight) (rules : Rules) (moment : ℕ) (account : Account) (kind : Kind) (count : ℕ) (planet : Planet) (acted : Acted) → IsSeen sight rules moment account planet
    → acted.code ≡ yard_refusal (account_fields account) account.units (fields_of planet) (batches_of planet) kind count → 0 < acted.code → acted.body ≡ []
    → IsOutcome sight count (yards sight account.player planet.at kind count (account_fields account) (fields_of planet)) account planet acted
unfolding yards_in
not_yarded sight rules moment account kind count planet acted seen code some body =
    let came = yards_is sight rules moment account planet kind count seen ∙ unless_refused sight (yard_refusal (account_fields account) account.units (fields_of planet) (batches_of planet) kind count) (queues_batch sight planet.at kind count (fields_of planet) (batches_of planet)) (subst (λ (n : ℕ). 0 < n) code some) in
    refused_is sight rules moment count _ _ account planet acted seen came code (subst (λ (n : ℕ). 0 < n) code some) body

-- An account has so many units more than another, and is else the same.
pub record HasMore (count : ℕ) (old new : Account) : Type 0 where
  pub units : new.units ≡ old.units + count
  pub keeps : KeepsResearch old new

-- a batch is ordered, by the rules, the moment and the number that are seen
yarded_items : (sight : Sight) (rules : Rules) (moment : ℕ) (old_account account : Account) (kind : Kind) (count : ℕ) (items : List Item) (old new : Planet) (acted : Acted) → IsSeen sight rules moment old_account old
    → acted.code ≡ 0 → acted.body ≡ order_line (batch_placed sight.rules.speed sight.moment (fields_of old) items (record (new_batch old.at kind count) { number = sight.number })) → new.at ≡ old.at
    → yard_of new ≡ batch_ordered sight.rules.speed sight.moment (fields_of old) items (record (new_batch old.at kind count) { number = sight.number }) → buildings_of new ≡ buildings_of old → HasMore count old_account account
    → IsOutcome sight count (queues_batch sight old.at kind count (fields_of old) items) account new acted
yarded_items sight rules moment old_account account kind count [] old new acted seen code body at works buildings more =
    let planet : pays_batch (fields_of old) kind count ≡ fields_of new = ap (λ (x : Works). x.planet) (sym works) in
    batch_joins sight rules moment count (with_planet sight old.at (pays_batch (fields_of old) kind count)) _ _ old_account account old new acted seen code body at
    (rw (place_itself old.at) (ap of_planet planet)) refl (ap (λ (x : Works). x.queue) works) buildings
    more.keeps.player (λ i. record { techs = more.keeps.techs i }) more.keeps.planets (λ i. map (research_item (more.keeps.player i)) (more.keeps.research i)) more.units
yarded_items sight rules moment old_account account kind count (first ∷ later) old new acted seen code body at works buildings more =
    let planet : pays_batch (fields_of old) kind count ≡ fields_of new = ap (λ (x : Works). x.planet) (sym works) in
    batch_joins sight rules moment count (with_planet sight old.at (pays_batch (fields_of old) kind count)) _ _ old_account account old new acted seen code body at
    (rw (place_itself old.at) (ap of_planet planet)) refl (ap (λ (x : Works). x.queue) works) buildings
    more.keeps.player (λ i. record { techs = more.keeps.techs i }) more.keeps.planets (λ i. map (research_item (more.keeps.player i)) (more.keeps.research i)) more.units

-- `yard C UNIT COUNT`, granted: the order was made on a copy
pub yarded_on_copy : (sight : Sight) (rules : Rules) (moment : ℕ) (old_account account : Account) (kind : Kind) (count : ℕ) (old copy new : Planet) (acted : Acted) (order : Placed) → IsSeen sight rules moment old_account old
    → AreSame old copy → yard_refusal (account_fields old_account) old_account.units (fields_of old) (batches_of old) kind count ≡ 0 → acted.code ≡ 0 → acted.body ≡ order_line order → new.at ≡ copy.at
    → order ≡ batch_placed rules.speed moment (fields_of copy) (batches_of copy) (new_batch copy.at kind count)
    → yard_of new ≡ batch_ordered rules.speed moment (fields_of copy) (batches_of copy) (new_batch copy.at kind count) → buildings_of new ≡ buildings_of copy → HasMore count old_account account
    → IsOutcome sight count (yards sight old_account.player old.at kind count (account_fields old_account) (fields_of old)) account new acted
unfolding yards_in
yarded_on_copy sight rules moment old_account account kind count old copy new acted order seen same none code body at told works buildings more =
    let speed : rules.speed ≡ sight.rules.speed = ap (λ (x : Rules). x.speed) (sym seen.rules_are) in
    let time : moment ≡ sight.moment = sym seen.moment_is in
    let number : 0 ≡ sight.number = sym seen.number_is in
    let items = same_batches old copy same in
    let fields : fields_of copy ≡ fields_of old = sym same.fields in
    let came = yards_is sight rules moment old_account old kind count seen ∙ unless_granted sight (yard_refusal (account_fields old_account) old_account.units (fields_of old) (batches_of old) kind count) (queues_batch sight old.at kind count (fields_of old) (batches_of old)) none in
    let outcome =
    yarded_items sight rules moment old_account account kind count (batches_of old) old new acted seen code
    (body ∙ ap order_line told ∙ (λ i. order_line (batch_placed (speed i) (time i) (fields i) (items i) (record (new_batch (sym same.at i) kind count) { number = number i })))) (at ∙ sym same.at)
    (works ∙ (λ i. batch_ordered (speed i) (time i) (fields i) (items i) (record (new_batch (sym same.at i) kind count) { number = number i })))
    (buildings ∙ same_buildings old copy same) more in
    subst (λ (x : Outcome). IsOutcome sight count x account new acted) (sym came) outcome

-- what a technology ordered comes to, if the research queue has these items
researches_in : Sight → Account → Coord → Kind → PlanetFields → List Item → Outcome
researches_in sight account at kind planet items =
    unless sight (research_refusal sight.rules.speed (account_fields account) planet items kind) (queues_research sight account.player at kind (account_fields account) planet items)

researches_is : (sight : Sight) (rules : Rules) (moment : ℕ) (account : Account) (planet : Planet) (kind : Kind) → IsSeen sight rules moment account planet
    → researches sight account.player planet.at kind (account_fields account) (fields_of planet) ≡ researches_in sight account planet.at kind (fields_of planet) (research_of account)
unfolding researches_in
researches_is sight rules moment account planet kind seen =
    ap (λ (x : View). researches_in sight account planet.at kind (fields_of planet) (x.queue Researches)) seen.account_is

-- `research C TECH`, refused
pub not_researched : (sight : Sight) (rules : Rules) (moment : ℕ) (account : Account) (kind : Kind) (planet : Planet) (acted : Acted) → IsSeen sight rules moment account planet
    → acted.code ≡ research_refusal rules.speed (account_fields account) (fields_of planet) (research_of account) kind → 0 < acted.code → acted.body ≡ []
    → IsOutcome sight 0 (researches sight account.player planet.at kind (account_fields account) (fields_of planet)) account planet acted
unfolding researches_in
not_researched sight rules moment account kind planet acted seen code some body =
    let speed : rules.speed ≡ sight.rules.speed = ap (λ (x : Rules). x.speed) (sym seen.rules_are) in
    let told : acted.code ≡ research_refusal sight.rules.speed (account_fields account) (fields_of planet) (research_of account) kind =
    code ∙ ap (λ (n : ℕ). research_refusal n (account_fields account) (fields_of planet) (research_of account) kind) speed in
    let positive = subst (λ (n : ℕ). 0 < n) told some in
    let came = researches_is sight rules moment account planet kind seen ∙ unless_refused sight (research_refusal sight.rules.speed (account_fields account) (fields_of planet) (research_of account) kind) (queues_research sight account.player planet.at kind (account_fields account) (fields_of planet) (research_of account)) positive in
    refused_is sight rules moment 0 _ _ account planet acted seen came told positive body

-- a technology is ordered, by the rules, the moment and the number that are seen
researched_items : (sight : Sight) (rules : Rules) (moment : ℕ) (old_account account : Account) (kind : Kind) (items : List Item) (old new : Planet) (acted : Acted) → IsSeen sight rules moment old_account old
    → acted.code ≡ 0 → acted.body ≡ order_line (research_placed sight.rules.speed sight.moment (account_fields old_account) (fields_of old) items kind) → new.at ≡ old.at
    → fields_of new ≡ research_paid (account_fields old_account) (fields_of old) items kind → buildings_of new ≡ buildings_of old → batches_of new ≡ batches_of old
    → research_of account ≡ research_ordered sight.rules.speed sight.moment (account_fields old_account) (fields_of old) items (record (new_research old_account.player old.at kind) { number = sight.number })
    → account_fields account ≡ account_fields old_account → KeepsHoldings old_account account
    → IsOutcome sight 0 (queues_research sight old_account.player old.at kind (account_fields old_account) (fields_of old) items) account new acted
researched_items sight rules moment old_account account kind [] old new acted seen code body at fields buildings yard research techs keeps =
    research_joins sight rules moment (with_planet sight old.at (pays_research (account_fields old_account) (fields_of old) kind)) _ _ old_account account old new acted seen code body at
    (rw (place_itself old.at) (ap of_planet (sym fields))) refl buildings yard keeps.player techs keeps.planets research keeps.units
researched_items sight rules moment old_account account kind (first ∷ later) old new acted seen code body at fields buildings yard research techs keeps =
    research_joins sight rules moment (owns sight.seen) _ _ old_account account old new acted seen code body at
    (ap (λ (x : View). x.own) seen.planet_is ∙ ap of_planet (sym fields)) refl buildings yard keeps.player techs keeps.planets research keeps.units

-- `research C TECH`, granted
researched : (sight : Sight) (rules : Rules) (moment : ℕ) (old_account account : Account) (kind : Kind) (old new : Planet) (acted : Acted) (order : Placed) → IsSeen sight rules moment old_account old
    → research_refusal rules.speed (account_fields old_account) (fields_of old) (research_of old_account) kind ≡ 0 → acted.code ≡ 0 → acted.body ≡ order_line order → new.at ≡ old.at
    → order ≡ research_placed rules.speed moment (account_fields old_account) (fields_of old) (research_of old_account) kind
    → fields_of new ≡ research_paid (account_fields old_account) (fields_of old) (research_of old_account) kind → buildings_of new ≡ buildings_of old → batches_of new ≡ batches_of old
    → research_of account ≡ research_ordered rules.speed moment (account_fields old_account) (fields_of old) (research_of old_account) (new_research old_account.player old.at kind)
    → account_fields account ≡ account_fields old_account → KeepsHoldings old_account account
    → IsOutcome sight 0 (researches sight old_account.player old.at kind (account_fields old_account) (fields_of old)) account new acted
unfolding researches_in
researched sight rules moment old_account account kind old new acted order seen none code body at told fields buildings yard research techs keeps =
    let speed : rules.speed ≡ sight.rules.speed = ap (λ (x : Rules). x.speed) (sym seen.rules_are) in
    let time : moment ≡ sight.moment = sym seen.moment_is in
    let number : 0 ≡ sight.number = sym seen.number_is in
    let items = research_of old_account in
    let free : research_refusal sight.rules.speed (account_fields old_account) (fields_of old) items kind ≡ 0 =
    ap (λ (n : ℕ). research_refusal n (account_fields old_account) (fields_of old) items kind) (sym speed) ∙ none in
    let came = researches_is sight rules moment old_account old kind seen ∙ unless_granted sight (research_refusal sight.rules.speed (account_fields old_account) (fields_of old) items kind) (queues_research sight old_account.player old.at kind (account_fields old_account) (fields_of old) items) free in
    let outcome =
    researched_items sight rules moment old_account account kind items old new acted seen code
    (body ∙ ap order_line told ∙ (λ i. order_line (research_placed (speed i) (time i) (account_fields old_account) (fields_of old) items kind))) at fields buildings yard
    (research ∙ (λ i. research_ordered (speed i) (time i) (account_fields old_account) (fields_of old) items (record (new_research old_account.player old.at kind) { number = number i })))
    techs keeps in
    subst (λ (x : Outcome). IsOutcome sight 0 x account new acted) (sym came) outcome

-- the same, if the order was made on a copy of the account
pub researched_on_copy : (sight : Sight) (rules : Rules) (moment : ℕ) (old_account copy account : Account) (kind : Kind) (old new : Planet) (acted : Acted) (order : Placed) → IsSeen sight rules moment old_account old
    → AreSameAccount old_account copy → research_refusal rules.speed (account_fields old_account) (fields_of old) (research_of old_account) kind ≡ 0 → acted.code ≡ 0 → acted.body ≡ order_line order → new.at ≡ old.at
    → order ≡ research_placed rules.speed moment (account_fields copy) (fields_of old) (research_of copy) kind
    → fields_of new ≡ research_paid (account_fields old_account) (fields_of old) (research_of old_account) kind → buildings_of new ≡ buildings_of old → batches_of new ≡ batches_of old
    → research_of account ≡ research_ordered rules.speed moment (account_fields copy) (fields_of old) (research_of copy) (new_research copy.player old.at kind)
    → account_fields account ≡ account_fields copy → KeepsHoldings copy account
    → IsOutcome sight 0 (researches sight old_account.player old.at kind (account_fields old_account) (fields_of old)) account new acted
researched_on_copy sight rules moment old_account copy account kind old new acted order seen same none code body at told fields buildings yard research techs keeps =
    let fields_same : account_fields copy ≡ account_fields old_account = λ i. record { techs = sym same.techs i } in
    let items : research_of copy ≡ research_of old_account = λ i. map (research_item (sym same.player i)) (sym same.research i) in
    researched sight rules moment old_account account kind old new acted order seen none code body at
    (told ∙ (λ i. research_placed rules.speed moment (fields_same i) (fields_of old) (items i) kind)) fields buildings yard
    (research ∙ (λ i. research_ordered rules.speed moment (fields_same i) (fields_of old) (items i) (new_research (sym same.player i) old.at kind)))
    (techs ∙ fields_same)
    (record { player = keeps.player ∙ sym same.player; planets = keeps.planets ∙ sym same.planets; units = keeps.units ∙ sym same.units })

-- what follows for each value that is there
pub weaker : {A E : Type 0} (r : Result A E) (P Q : A → Type 0) → ((x : A) → P x → Q x) → IfOk r P → IfOk r Q
weaker (Ok x) P Q follows here = follows x here
weaker (Err e) P Q follows here = here
