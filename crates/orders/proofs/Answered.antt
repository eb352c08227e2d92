-- What comes of a request, by the parts that it asks for.
use Rattle.std.proofs.Common.{◌≡◌, ◌≢◌, ℕ, ◌<◌, ◌≤◌, ◌+◌, true, false, List, [], refl, ap, sym, subst, ◌∙◌, arith}
use Rattle.std.specs.Prelude.{Err, IfSome, Ok, OnErr, Result, None, Option, Some, sum, ◌==◌, if◌then◌else◌}
use Rattle.std.proofs.lemmas.Bool.Decides.{nat_tests}
use Rattle.account_cell.specs.Account.{account_fields}
use Rattle.account_cell.specs.declared.account.Account.{Account}
use Rattle.base_ids.specs.Cells.{same_player}
use Rattle.base_ids.specs.declared.cell_id.CellId.{CellId}
use Rattle.base_ids.specs.declared.cell_id.CellId.TheVariants.{Account as AccountId, Planet as PlanetId}
use Rattle.base_ids.specs.declared.coord.Coord.{Coord}
use Rattle.base_ids.specs.declared.player.Player.{Player}
use Rattle.orders.proofs.Left.{fleets_stay}
use Rattle.orders.specs.Acting.{AllBelong, AreKept, AreShown, Comes, IsLeftAs, IsSeenAs, account_seen, fleets_after, from_place, planet_seen, seen_after, to_place, units_after, units_ordered}
use Rattle.orders.specs.Granting.{AreCounted, AreHeld, Follows, IsAtPlace, IsSeen, LeavesFleets, on_planet}
use Rattle.orders.specs.declared.parts.Acted.{Acted}
use Rattle.orders.specs.declared.parts.PartFleets.{PartFleets}
use Rattle.orders.specs.declared.parts.Parts.{Parts}
use Rattle.planet_cell.specs.Planet.{batches_of, fields_of}
use Rattle.planet_cell.specs.declared.planet.Planet.{Planet}
use Rattle.request_text.specs.declared.request.Request.{Request}
use Rattle.request_text.specs.declared.request.Request.TheVariants.{Planet as PlanetOf, Build, Research, Yard as YardOf, Set}
use Rattle.tick_model.specs.Changes.{Change, no_change}
use Rattle.tick_model.specs.Requests.{Answer, Outcome, Sight, builds, on_own, outcome, own_seen, refused, researches, sets, shows, yards}
use Rattle.tick_model.specs.Universe.{Fleet, Own, of_account, of_nothing, of_planet}
use Rattle.tick_model.specs.Views.{View, units_left}
use Rattle.tick_model.specs.declared.codes.TheConstants.{NOT_YOURS, NO_PLANET, NO_PLAYER}
use Rattle.tick_model.specs.declared.rules.Rules.{Rules}

pub some_map : {A : Type 0} (found : Option A) (P Q : A → Type 0) → ((x : A) → P x → Q x) → IfSome found P → IfSome found Q
some_map None P Q follows here = here
some_map (Some x) P Q follows here = follows x here

pub some_of : {A : Type 0} (found : Option A) (P : A → Type 0) (x : A) → found ≡ Some x → IfSome found P → P x
some_of found P x is here = let family = λ (o : Option _). IfSome o P in subst family is here

pub some_into : {A : Type 0} (found : Option A) (P : A → Type 0) (x : A) → found ≡ Some x → P x → IfSome found P
some_into found P x is here = let family = λ (o : Option _). IfSome o P in subst family (sym is) here

pub none_into : {A : Type 0} (found : Option A) (P : A → Type 0) → found ≡ None → IfSome found P
none_into found P is = let family = λ (o : Option _). IfSome o P in subst family (sym is) tt

-- what is seen of a cell stays, if nothing is changed
pub stays_seen : (sight : Sight) (cell : CellId) → AllBelong cell (sight.seen cell).fleets → sight.seen cell ≡ seen_after sight (no_change sight.seen) cell
stays_seen sight cell belong =
    let stay = fleets_stay (no_change sight.seen) cell (sight.seen cell).fleets (record { stays = refl; none_sent = refl }) belong in
    λ i. record (sight.seen cell) { fleets = sym stay i }

-- the fleets of another account stay, if a change leaves all fleets
pub linked_stays : (change : Change) (owner : Option Account) (fleets : List Fleet) → LeavesFleets change → IfSome owner (λ account. AllBelong (AccountId account.player) fleets)
    → IfSome owner (λ account. fleets ≡ fleets_after change (AccountId account.player) fleets)
linked_stays change owner fleets leaves belong =
    some_map owner (λ account. AllBelong (AccountId account.player) fleets) (λ account. fleets ≡ fleets_after change (AccountId account.player) fleets)
    (λ account all. sym (fleets_stay change (AccountId account.player) fleets leaves all)) belong

-- an outcome that changes nothing
pub unchanged_comes : (sight : Sight) (player : Player) (rules : Rules) (moment : ℕ) (req : Request) (parts : Parts) (answer : Answer) (acted : Acted) → AreShown sight player rules moment req parts
    → (if answer.code == 0 then units_ordered req else 0) ≡ 0 → acted.code ≡ answer.code → acted.body ≡ answer.body
    → Comes sight player req (record { answer = answer; change = no_change sight.seen }) parts parts acted
unchanged_comes sight player rules moment req parts answer acted shown none code body =
    let change = no_change sight.seen in
    let seen = sight.seen (AccountId player) in
    let stay = fleets_stay change (AccountId player) seen.fleets (record { stays = refl; none_sent = refl }) (shown.belong (AccountId player)) in
    let total : seen.units ≡ seen.units + (if answer.code == 0 then units_ordered req else 0) = omega (arith, none) in
    let left : (planet : Option Planet) (fleets : List Fleet) (at : Coord) → IsSeenAs sight at planet fleets → IsLeftAs sight change at planet fleets =
    λ planet fleets at is. record { place = is.place; seen = sym is.seen ∙ stays_seen sight (PlanetId at) (shown.belong (PlanetId at)) } in
    record {
      code = code;
      body = body;
      whose = shown.whose;
      caller = sym shown.caller ∙ (λ i. record (sight.seen (AccountId player)) { fleets = sym stay i; units = total i });
      from =
          some_map (from_place player parts.fleets.caller req) (λ at. IsSeenAs sight at parts.from parts.fleets.from) (λ at. IsLeftAs sight change at parts.from parts.fleets.from)
          (left parts.from parts.fleets.from) shown.from;
      to =
          some_map (to_place player parts.fleets.caller req) (λ at. IsSeenAs sight at parts.to parts.fleets.to) (λ at. IsLeftAs sight change at parts.to parts.fleets.to)
          (left parts.to parts.fleets.to) shown.to;
      to_owner = refl;
      linked = linked_stays change parts.to_owner parts.fleets.to_owner (record { stays = refl; none_sent = refl }) shown.to_owner;
    }

-- a request is refused
pub refused_comes : (sight : Sight) (player : Player) (rules : Rules) (moment : ℕ) (req : Request) (parts : Parts) (acted : Acted) (code : ℕ) → AreShown sight player rules moment req parts
    → outcome sight player req ≡ refused sight code → acted.code ≡ code → 0 < code → acted.body ≡ [] → Comes sight player req (outcome sight player req) parts parts acted
refused_comes sight player rules moment req parts acted code shown is told some body =
    let apart : (code == 0) ≡ false = grind (arith, nat_tests) in
    let none : (if code == 0 then units_ordered req else 0) ≡ 0 = rw apart refl in
    subst (λ (x : Outcome). Comes sight player req x parts parts acted) (sym is)
    (unchanged_comes sight player rules moment req parts (record { code = code; body = [] }) acted shown none told body)

-- the caller's account is seen
pub caller_own : (sight : Sight) (player : Player) (rules : Rules) (moment : ℕ) (req : Request) (parts : Parts) (account : Account) → AreShown sight player rules moment req parts → parts.caller ≡ Some account
    → own_seen sight (AccountId player) ≡ of_account (account_fields account)
caller_own sight player rules moment req parts account shown here =
    ap (λ (x : View). x.own) (shown.caller ∙ ap (λ (x : Option Account). account_seen x parts.fleets.caller) here)

pub caller_is : (sight : Sight) (player : Player) (rules : Rules) (moment : ℕ) (req : Request) (parts : Parts) (account : Account) → AreShown sight player rules moment req parts → parts.caller ≡ Some account
    → account.player ≡ player
caller_is sight player rules moment req parts account shown here = some_of parts.caller (λ x. x.player ≡ player) account here shown.whose

-- so are the fleets that belong to it
pub caller_fleets : (sight : Sight) (player : Player) (rules : Rules) (moment : ℕ) (req : Request) (parts : Parts) (account : Account) → AreShown sight player rules moment req parts → parts.caller ≡ Some account
    → (sight.seen (AccountId player)).fleets ≡ parts.fleets.caller
caller_fleets sight player rules moment req parts account shown here =
    ap (λ (x : View). x.fleets) (shown.caller ∙ ap (λ (x : Option Account). account_seen x parts.fleets.caller) here)

-- the caller is no player
pub nobody : (sight : Sight) (player : Player) (rules : Rules) (moment : ℕ) (req : Request) (parts : Parts) → AreShown sight player rules moment req parts → parts.caller ≡ None → own_seen sight (AccountId player) ≡ of_nothing
nobody sight player rules moment req parts shown none = ap (λ (x : View). x.own) (shown.caller ∙ ap (λ (x : Option Account). account_seen x parts.fleets.caller) none)

-- the place that such a request names
named_at : (player : Player) (fleets : List Fleet) (req : Request) → IsAtPlace req → (at : Coord) × (from_place player fleets req ≡ Some at)
named_at player fleets (PlanetOf at) place = (at, refl)
named_at player fleets (Build at building) place = (at, refl)
named_at player fleets (Research at technology) place = (at, refl)
named_at player fleets (YardOf at unit count) place = (at, refl)
named_at player fleets (Set at work tenths) place = (at, refl)
named_at player fleets _ place = absurd place

-- it sends no fleet
nowhere : (player : Player) (fleets : List Fleet) (req : Request) → IsAtPlace req → to_place player fleets req ≡ None
nowhere player fleets (PlanetOf at) place = refl
nowhere player fleets (Build at building) place = refl
nowhere player fleets (Research at technology) place = refl
nowhere player fleets (YardOf at unit count) place = refl
nowhere player fleets (Set at work tenths) place = refl
nowhere player fleets _ place = absurd place

no_player_is : (sight : Sight) (player : Player) (req : Request) → IsAtPlace req → own_seen sight (AccountId player) ≡ of_nothing → outcome sight player req ≡ refused sight NO_PLAYER
no_player_is sight player (PlanetOf at) place none = ap (λ (x : Own). on_own sight player x (own_seen sight (PlanetId at)) (shows sight at)) none
no_player_is sight player (Build at building) place none = ap (λ (x : Own). on_own sight player x (own_seen sight (PlanetId at)) (builds sight at building.kind)) none
no_player_is sight player (Research at technology) place none = ap (λ (x : Own). on_own sight player x (own_seen sight (PlanetId at)) (researches sight player at technology.kind)) none
no_player_is sight player (YardOf at unit count) place none = ap (λ (x : Own). on_own sight player x (own_seen sight (PlanetId at)) (yards sight player at unit.kind count.n)) none
no_player_is sight player (Set at work tenths) place none = ap (λ (x : Own). on_own sight player x (own_seen sight (PlanetId at)) (sets sight at work.kind tenths.n)) none
no_player_is sight player _ place none = absurd place

pub no_player : (sight : Sight) (player : Player) (rules : Rules) (moment : ℕ) (req : Request) (parts : Parts) (acted : Acted) → AreShown sight player rules moment req parts → IsAtPlace req → parts.caller ≡ None
    → acted.code ≡ NO_PLAYER → acted.body ≡ [] → Comes sight player req (outcome sight player req) parts parts acted
no_player sight player rules moment req parts acted shown place none code body =
    refused_comes sight player rules moment req parts acted NO_PLAYER shown (no_player_is sight player req place (nobody sight player rules moment req parts shown none)) code (omega arith) body

-- what comes of a request by what its caller and its place have of their own
by_own : Sight → Player → Request → Own → Own → Outcome
by_own sight player (PlanetOf at) caller there = on_own sight player caller there (shows sight at)
by_own sight player (Build at building) caller there = on_own sight player caller there (builds sight at building.kind)
by_own sight player (Research at technology) caller there = on_own sight player caller there (researches sight player at technology.kind)
by_own sight player (YardOf at unit count) caller there = on_own sight player caller there (yards sight player at unit.kind count.n)
by_own sight player (Set at work tenths) caller there = on_own sight player caller there (sets sight at work.kind tenths.n)
by_own sight player req caller there = refused sight NO_PLANET

by_own_is : (sight : Sight) (player : Player) (fleets : List Fleet) (req : Request) (at : Coord) (caller there : Own) → IsAtPlace req → from_place player fleets req ≡ Some at → own_seen sight (AccountId player) ≡ caller → own_seen sight (PlanetId at) ≡ there
    → outcome sight player req ≡ by_own sight player req caller there
unfolding by_own
by_own_is sight player fleets (PlanetOf place) at caller there at_place named who what = let same : place ≡ at = cc named in
    (λ i. on_own sight player (who i) (own_seen sight (PlanetId (same i))) (shows sight place)) ∙ ap (λ (x : Own). on_own sight player caller x (shows sight place)) what
by_own_is sight player fleets (Build place building) at caller there at_place named who what = let same : place ≡ at = cc named in
    (λ i. on_own sight player (who i) (own_seen sight (PlanetId (same i))) (builds sight place building.kind)) ∙ ap (λ (x : Own). on_own sight player caller x (builds sight place building.kind)) what
by_own_is sight player fleets (Research place technology) at caller there at_place named who what = let same : place ≡ at = cc named in
    (λ i. on_own sight player (who i) (own_seen sight (PlanetId (same i))) (researches sight player place technology.kind)) ∙ ap (λ (x : Own). on_own sight player caller x (researches sight player place technology.kind)) what
by_own_is sight player fleets (YardOf place unit count) at caller there at_place named who what = let same : place ≡ at = cc named in
    (λ i. on_own sight player (who i) (own_seen sight (PlanetId (same i))) (yards sight player place unit.kind count.n)) ∙ ap (λ (x : Own). on_own sight player caller x (yards sight player place unit.kind count.n)) what
by_own_is sight player fleets (Set place work tenths) at caller there at_place named who what = let same : place ≡ at = cc named in
    (λ i. on_own sight player (who i) (own_seen sight (PlanetId (same i))) (sets sight place work.kind tenths.n)) ∙ ap (λ (x : Own). on_own sight player caller x (sets sight place work.kind tenths.n)) what
by_own_is sight player fleets _ at caller there at_place named who what = absurd at_place

-- no planet stands at the place
no_planet_is : (sight : Sight) (player : Player) (req : Request) (account : Account) → IsAtPlace req → by_own sight player req (of_account (account_fields account)) of_nothing ≡ refused sight NO_PLANET
unfolding by_own
no_planet_is sight player (PlanetOf place) account at_place = refl
no_planet_is sight player (Build place building) account at_place = refl
no_planet_is sight player (Research place technology) account at_place = refl
no_planet_is sight player (YardOf place unit count) account at_place = refl
no_planet_is sight player (Set place work tenths) account at_place = refl
no_planet_is sight player _ account at_place = absurd at_place

-- what is seen of a place
pub seen_there : (sight : Sight) (player : Player) (rules : Rules) (moment : ℕ) (req : Request) (parts : Parts) (at : Coord) → AreShown sight player rules moment req parts → from_place player parts.fleets.caller req ≡ Some at → IsSeenAs sight at parts.from parts.fleets.from
seen_there sight player rules moment req parts at shown named = some_of (from_place player parts.fleets.caller req) (λ x. IsSeenAs sight x parts.from parts.fleets.from) at named shown.from

pub no_planet : (sight : Sight) (player : Player) (rules : Rules) (moment : ℕ) (req : Request) (parts : Parts) (account : Account) (acted : Acted) → AreShown sight player rules moment req parts → IsAtPlace req
    → parts.caller ≡ Some account → parts.from ≡ None → acted.code ≡ NO_PLANET → acted.body ≡ [] → Comes sight player req (outcome sight player req) parts parts acted
no_planet sight player rules moment req parts account acted shown place here none code body =
    let named = named_at player parts.fleets.caller req place in
    let who : own_seen sight (AccountId player) ≡ of_account (account_fields account) = caller_own sight player rules moment req parts account shown here in
    let there = seen_there sight player rules moment req parts named.0 shown named.1 in
    let what : own_seen sight (PlanetId named.0) ≡ of_nothing = ap (λ (x : View). x.own) (there.seen ∙ ap (λ (x : Option Planet). planet_seen x parts.fleets.from) none) in
    refused_comes sight player rules moment req parts acted NO_PLANET shown
    (by_own_is sight player parts.fleets.caller req named.0 (of_account (account_fields account)) of_nothing place named.1 who what ∙ no_planet_is sight player req account place) code (omega arith) body

-- the planet is somebody else's
not_yours_is : (sight : Sight) (player : Player) (req : Request) (account : Account) (planet : Planet) → IsAtPlace req → same_player planet.owner player ≡ false
    → by_own sight player req (of_account (account_fields account)) (of_planet (fields_of planet)) ≡ refused sight NOT_YOURS
unfolding by_own
not_yours_is sight player (PlanetOf place) account planet at_place other = rw other refl
not_yours_is sight player (Build place building) account planet at_place other = rw other refl
not_yours_is sight player (Research place technology) account planet at_place other = rw other refl
not_yours_is sight player (YardOf place unit count) account planet at_place other = rw other refl
not_yours_is sight player (Set place work tenths) account planet at_place other = rw other refl
not_yours_is sight player _ account planet at_place other = absurd at_place

pub other_owner : (planet : Planet) (account : Account) (player : Player) → account.player ≡ player → planet.owner.k ≢ account.player.k → same_player planet.owner player ≡ false
other_owner planet account player whose other =
    let key : account.player.k ≡ player.k = ap (λ (x : Player). x.k) whose in
    let apart : planet.owner.k ≢ player.k = λ same. other (same ∙ sym key) in
    grind (arith, nat_tests, apart)

pub not_yours : (sight : Sight) (player : Player) (rules : Rules) (moment : ℕ) (req : Request) (parts : Parts) (account : Account) (planet : Planet) (acted : Acted) → AreShown sight player rules moment req parts → IsAtPlace req
    → parts.caller ≡ Some account → parts.from ≡ Some planet → planet.owner.k ≢ account.player.k → acted.code ≡ NOT_YOURS → acted.body ≡ [] → Comes sight player req (outcome sight player req) parts parts acted
not_yours sight player rules moment req parts account planet acted shown place here stands other code body =
    let named = named_at player parts.fleets.caller req place in
    let who : own_seen sight (AccountId player) ≡ of_account (account_fields account) = caller_own sight player rules moment req parts account shown here in
    let whose : account.player ≡ player = some_of parts.caller (λ x. x.player ≡ player) account here shown.whose in
    let there = seen_there sight player rules moment req parts named.0 shown named.1 in
    let what : own_seen sight (PlanetId named.0) ≡ of_planet (fields_of planet) = ap (λ (x : View). x.own) (there.seen ∙ ap (λ (x : Option Planet). planet_seen x parts.fleets.from) stands) in
    refused_comes sight player rules moment req parts acted NOT_YOURS shown
    (by_own_is sight player parts.fleets.caller req named.0 (of_account (account_fields account)) (of_planet (fields_of planet)) place named.1 who what ∙ not_yours_is sight player req account planet place (other_owner planet account player whose other)) code (omega arith) body

-- the planet is the caller's
own_is : (sight : Sight) (player : Player) (fleets : List Fleet) (req : Request) (at : Coord) (account : Account) (planet : Planet) → IsAtPlace req → from_place player fleets req ≡ Some at → same_player planet.owner player ≡ true → account.player ≡ player → planet.at ≡ at
    → by_own sight player req (of_account (account_fields account)) (of_planet (fields_of planet)) ≡ on_planet req account planet sight
unfolding by_own
own_is sight player fleets (PlanetOf place) at account planet at_place named own whose stands = let same : place ≡ planet.at = cc (named, stands) in
    rw own (ap (λ (x : Coord). shows sight x (account_fields account) (fields_of planet)) same)
own_is sight player fleets (Build place building) at account planet at_place named own whose stands = let same : place ≡ planet.at = cc (named, stands) in
    rw own (ap (λ (x : Coord). builds sight x building.kind (account_fields account) (fields_of planet)) same)
own_is sight player fleets (Research place technology) at account planet at_place named own whose stands = let same : place ≡ planet.at = cc (named, stands) in
    rw own (λ i. researches sight (sym whose i) (same i) technology.kind (account_fields account) (fields_of planet))
own_is sight player fleets (YardOf place unit count) at account planet at_place named own whose stands = let same : place ≡ planet.at = cc (named, stands) in
    rw own (λ i. yards sight (sym whose i) (same i) unit.kind count.n (account_fields account) (fields_of planet))
own_is sight player fleets (Set place work tenths) at account planet at_place named own whose stands = let same : place ≡ planet.at = cc (named, stands) in
    rw own (ap (λ (x : Coord). sets sight x work.kind tenths.n (account_fields account) (fields_of planet)) same)
own_is sight player fleets _ at account planet at_place named own whose stands = absurd at_place

pub owned : (planet : Planet) (account : Account) (player : Player) → account.player ≡ player → planet.owner.k ≡ account.player.k → same_player planet.owner player ≡ true
owned planet account player whose same =
    let key : planet.owner.k ≡ player.k = same ∙ ap (λ (x : Player). x.k) whose in
    grind (arith, nat_tests)

pub counted_own : (account : Account) (planet : Planet) → AreCounted (Some account) (Some planet) → planet.owner.k ≡ account.player.k → sum planet.units + units_left (batches_of planet) ≤ account.units
counted_own account planet counted same = counted (owned planet account account.player refl same)

-- what comes of a request about the caller's own planet
pub on_own_comes : (sight : Sight) (player : Player) (rules : Rules) (moment : ℕ) (req : Request) (old new : Parts) (old_account account : Account) (old_planet planet : Planet) (acted : Acted) → AreShown sight player rules moment req old → IsAtPlace req
    → old.caller ≡ Some old_account → old.from ≡ Some old_planet → new.caller ≡ Some account → new.from ≡ Some planet → new.to_owner ≡ old.to_owner → new.fleets ≡ old.fleets → old_planet.owner.k ≡ old_account.player.k
    → account.player ≡ old_account.player → planet.at ≡ old_planet.at → Follows rules moment (units_ordered req) (on_planet req old_account old_planet) old_account old_planet account planet acted
    → Comes sight player req (outcome sight player req) old new acted
on_own_comes sight player rules moment req old new old_account account old_planet planet acted shown place here stands left_account left_planet left_owner left_fleets same player_stays at_stays follows =
    let named = named_at player old.fleets.caller req place in
    let at = named.0 in
    let view : sight.seen (AccountId player) ≡ account_seen (Some old_account) old.fleets.caller = shown.caller ∙ ap (λ (x : Option Account). account_seen x old.fleets.caller) here in
    let whose : old_account.player ≡ player = caller_is sight player rules moment req old old_account shown here in
    let there = seen_there sight player rules moment req old at shown named.1 in
    let place_view : sight.seen (PlanetId at) ≡ planet_seen (Some old_planet) old.fleets.from = there.seen ∙ ap (λ (x : Option Planet). planet_seen x old.fleets.from) stands in
    let spot : old_planet.at ≡ at = some_of old.from (λ x. x.at ≡ at) old_planet stands there.place in
    let who : own_seen sight (AccountId player) ≡ of_account (account_fields old_account) = ap (λ (x : View). x.own) view in
    let what : own_seen sight (PlanetId at) ≡ of_planet (fields_of old_planet) = ap (λ (x : View). x.own) place_view in
    let own_fleets : (sight.seen (AccountId player)).fleets ≡ old.fleets.caller = ap (λ (x : View). x.fleets) view in
    let there_fleets : (sight.seen (PlanetId at)).fleets ≡ old.fleets.from = ap (λ (x : View). x.fleets) place_view in
    let came : outcome sight player req ≡ on_planet req old_account old_planet sight =
    by_own_is sight player old.fleets.caller req at (of_account (account_fields old_account)) (of_planet (fields_of old_planet)) place named.1 who what
    ∙ own_is sight player old.fleets.caller req at old_account old_planet place named.1 (owned old_planet old_account player whose same) whose spot in
    let seen : IsSeen sight rules moment old_account old_planet =
    record {
      rules_are = shown.rules_are;
      moment_is = shown.moment_is;
      number_is = shown.number_is;
      belong = shown.belong;
      account_is = subst (λ (x : Player). sight.seen (AccountId x) ≡ account_seen (Some old_account) (sight.seen (AccountId x)).fleets) (sym whose) (view ∙ ap (account_seen (Some old_account)) (sym own_fleets));
      planet_is = subst (λ (x : Coord). sight.seen (PlanetId x) ≡ planet_seen (Some old_planet) (sight.seen (PlanetId x)).fleets) (sym spot) (place_view ∙ ap (planet_seen (Some old_planet)) (sym there_fleets));
    } in
    let is = follows sight seen in
    let change = (on_planet req old_account old_planet sight).change in
    let player_now : account.player ≡ player = player_stays ∙ whose in
    let at_now : planet.at ≡ at = at_stays ∙ spot in
    let account_family = λ (x : Player). account_seen (Some account) (sight.seen (AccountId x)).fleets ≡ record (seen_after sight change (AccountId x)) { units = units_after (sight.seen (AccountId x)).units req (on_planet req old_account old_planet sight) } in
    let caller_left : account_seen new.caller new.fleets.caller ≡ account_seen (Some account) (sight.seen (AccountId player)).fleets =
    (λ i. account_seen (left_account i) (left_fleets i).caller) ∙ ap (account_seen (Some account)) (sym own_fleets) in
    let place_left : planet_seen new.from new.fleets.from ≡ planet_seen (Some planet) (sight.seen (PlanetId at)).fleets =
    (λ i. planet_seen (left_planet i) (left_fleets i).from) ∙ ap (planet_seen (Some planet)) (sym there_fleets) in
    let left : IsLeftAs sight change at new.from new.fleets.from =
    record {
      place = some_into new.from (λ x. x.at ≡ at) planet left_planet at_now;
      seen = place_left ∙ subst (λ (x : Coord). planet_seen (Some planet) (sight.seen (PlanetId x)).fleets ≡ seen_after sight change (PlanetId x)) at_now is.planet_left;
    } in
    let comes : Comes sight player req (on_planet req old_account old_planet sight) old new acted =
    record {
      code = is.code;
      body = is.body;
      whose = some_into new.caller (λ x. x.player ≡ player) account left_account player_now;
      caller = caller_left ∙ subst account_family player_now is.account_left;
      from = some_into (from_place player old.fleets.caller req) (λ x. IsLeftAs sight change x new.from new.fleets.from) at named.1 left;
      to = none_into (to_place player old.fleets.caller req) (λ x. IsLeftAs sight change x new.to new.fleets.to) (nowhere player old.fleets.caller req place);
      to_owner = left_owner;
      linked = some_map old.to_owner (λ x. old.fleets.to_owner ≡ fleets_after change (AccountId x.player) old.fleets.to_owner) (λ x. new.fleets.to_owner ≡ fleets_after change (AccountId x.player) old.fleets.to_owner)
          (λ x stay. ap (λ (f : PartFleets). f.to_owner) left_fleets ∙ stay) (linked_stays change old.to_owner old.fleets.to_owner is.fleets_stay shown.to_owner);
    } in
    subst (λ (x : Outcome). Comes sight player req x old new acted) (sym came) comes

-- parts that stay are answered as they were
pub stays : (sight : Sight) (player : Player) (req : Request) (came : Outcome) (old new : Parts) (acted : Acted) → new ≡ old → Comes sight player req came old old acted → Comes sight player req came old new acted
stays sight player req came old new acted same comes = subst (λ (x : Parts). Comes sight player req came old x acted) (sym same) comes

-- an account and a planet that show the same as before
pub kept : (old new : Parts) (old_account account : Account) (old_planet planet : Planet) → old.caller ≡ Some old_account → old.from ≡ Some old_planet → new.caller ≡ Some account → new.from ≡ Some planet
    → new.to ≡ old.to → new.to_owner ≡ old.to_owner → new.fleets ≡ old.fleets → AreHeld old_account old_planet account planet → AreKept old new
kept old new old_account account old_planet planet here stands left_account left_planet left_to left_owner left_fleets held =
    record {
      caller = (λ i. account_seen (left_account i) (left_fleets i).caller) ∙ held.account_is old.fleets.caller ∙ ap (λ (x : Option Account). account_seen x old.fleets.caller) (sym here);
      from = (λ i. planet_seen (left_planet i) (left_fleets i).from) ∙ held.planet_is old.fleets.from ∙ ap (λ (x : Option Planet). planet_seen x old.fleets.from) (sym stands);
      to = λ i. planet_seen (left_to i) (left_fleets i).to;
      to_owner = λ i. account_seen (left_owner i) (left_fleets i).to_owner;
    }

-- parts that are the same show the same
pub same_kept : (old new : Parts) → new ≡ old → AreKept old new
same_kept old new same = subst (λ (x : Parts). AreKept old x) (sym same) (record { caller = refl; from = refl; to = refl; to_owner = refl })

-- what follows for an error
pub err_map : {A E : Type 0} (r : Result A E) (P Q : Type 0) → (P → Q) → OnErr r P → OnErr r Q
err_map (Ok x) P Q follows here = here
err_map (Err e) P Q follows here = follows here
