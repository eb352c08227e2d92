-- Each request has one spelling, and each spelling is of one request.
use Rattle.std.proofs.Common.{◌≡◌, ℕ, ◌<◌, ◌≤◌, ◌^◌, Bool, true, false, eqb, List, [], ◌∷◌, arith, ap, refl, ◌∙◌, sym, subst, decimal, codes}
use Rattle.ports.specs.declared.clock.TheConstants.{LATEST}
use Rattle.std.specs.Prelude.{Option, Some, None}
use Rattle.std.specs.Option.{ForSome}
use Rattle.std.specs.Coded.{le_prop}
use Rattle.std.specs.List.{AllByRecursion, join_with_byte}
use Rattle.std.proofs.lemmas.Fmt.{decimal_injective}
use Rattle.base_text.specs.Parts.{Lacks, words}
use Rattle.base_text.proofs.Joining.{parts-join_with_byte, three_once}
use Rattle.base_text.proofs.Lacking.{decimal_lacks_space, lacks-append, lacks-cons, lacks-nil}
use Rattle.base_text.proofs.Splitting.{join-parts}
use Rattle.base_ids.proofs.Names.{coord_is, fleet_is, player_is, system_is}
use Rattle.base_ids.specs.Text.{coord_text, player_text, system_text}
use Rattle.base_ids.specs.declared.coord.Coord.{Coord}
use Rattle.base_ids.specs.declared.fleet_number.FleetNumber.{FleetNumber}
use Rattle.base_ids.specs.declared.player.Player.{Player}
use Rattle.base_ids.specs.declared.system.System.{System as SystemId}
use Rattle.catalog.proofs.Values.{amounts_is, building_is, count_is, setting_is, technology_is, tenths_is, unit_is, work_is}
use Rattle.catalog.proofs.Words.{word_once}
use Rattle.catalog.specs.Kinds.{kind_word}
use Rattle.catalog.specs.Missions.{mission_word}
use Rattle.catalog.specs.Texts.{ships_text}
use Rattle.catalog.specs.declared.kind.Kind.{Kind}
use Rattle.catalog.specs.declared.amounts.Amounts.{Amounts}
use Rattle.catalog.specs.declared.mission.Mission.{Mission}
use Rattle.catalog.specs.declared.mission.Mission.TheVariants.{Transport, Deploy, Harvest, Attack}
use Rattle.catalog.specs.declared.settings.Count.{Count}
use Rattle.catalog.specs.declared.settings.SpeedSetting.{SpeedSetting}
use Rattle.catalog.specs.declared.settings.Tenths.{Tenths}
use Rattle.catalog.specs.declared.ships.Ships.{Ships}
use Rattle.request_text.specs.Flights.{flight_words}
use Rattle.request_text.specs.Forms.{form_word}
use Rattle.request_text.specs.Grammar.{Spells, call_words, timed_words}
use Rattle.request_text.specs.Timing.{is_timed}
use Rattle.request_text.specs.Words.{argument_words, form_of, request_text, request_words}
use Rattle.request_text.specs.declared.call.Call.{Call}
use Rattle.request_text.specs.declared.request.Request.{Request}
use Rattle.request_text.specs.declared.request.Request.TheVariants.{Planet, Account, Fleets, System, Build, Research, Yard, Set, Send, Join, Recall}
use Rattle.request_text.proofs.Calls.{player_untimed}
use Rattle.request_text.proofs.Colons.{two_once}
use Rattle.request_text.proofs.Heads.{form_once}
use Rattle.request_text.proofs.Plain.{form_lacks, kind_lacks, mission_lacks}
use Rattle.request_text.proofs.ShipParts.{ships_lack_space, ships_once}

player_once : (a b : Player) → player_text a ≡ player_text b → a ≡ b
player_once a b same =
    let small_a : a.k < 2 ^ 64 = omega (arith, a.to) in
    let small_b : b.k < 2 ^ 64 = omega (arith, b.to) in
    player_is a b (decimal_injective a.k b.k small_a small_b same)

coord_once : (a b : Coord) → coord_text a ≡ coord_text b → a ≡ b
coord_once a b same =
    let galaxy_a : a.g < 2 ^ 64 = omega (arith, a.galaxy_to) in
    let system_a : a.s < 2 ^ 64 = omega (arith, a.system_to) in
    let position_a : a.p < 2 ^ 64 = omega (arith, a.position_to) in
    let galaxy_b : b.g < 2 ^ 64 = omega (arith, b.galaxy_to) in
    let system_b : b.s < 2 ^ 64 = omega (arith, b.system_to) in
    let position_b : b.p < 2 ^ 64 = omega (arith, b.position_to) in
    let numbers = three_once a.g a.s a.p b.g b.s b.p galaxy_a system_a position_a galaxy_b system_b position_b same in
    coord_is a b numbers.0 numbers.1 numbers.2

system_once : (a b : SystemId) → system_text a ≡ system_text b → a ≡ b
system_once a b same =
    let galaxy_a : a.g < 2 ^ 64 = omega (arith, a.galaxy_to) in
    let system_a : a.s < 2 ^ 64 = omega (arith, a.system_to) in
    let galaxy_b : b.g < 2 ^ 64 = omega (arith, b.galaxy_to) in
    let system_b : b.s < 2 ^ 64 = omega (arith, b.system_to) in
    let numbers = two_once a.g a.s b.g b.s galaxy_a system_a galaxy_b system_b same in
    system_is a b numbers.0 numbers.1

fleet_once : (a b : FleetNumber) → decimal a.f ≡ decimal b.f → a ≡ b
fleet_once a b same = let small_a : a.f < 2 ^ 64 = omega (arith, a.to) in let small_b : b.f < 2 ^ 64 = omega (arith, b.to) in fleet_is a b (decimal_injective a.f b.f small_a small_b same)

setting_once : (a b : SpeedSetting) → decimal a.p ≡ decimal b.p → a ≡ b
setting_once a b same = let small_a : a.p < 2 ^ 64 = omega (arith, a.to) in let small_b : b.p < 2 ^ 64 = omega (arith, b.to) in setting_is a b (decimal_injective a.p b.p small_a small_b same)

tenths_once : (a b : Tenths) → decimal a.n ≡ decimal b.n → a ≡ b
tenths_once a b same = let small_a : a.n < 2 ^ 64 = omega (arith, a.to) in let small_b : b.n < 2 ^ 64 = omega (arith, b.to) in tenths_is a b (decimal_injective a.n b.n small_a small_b same)

count_once : (a b : Count) → decimal a.n ≡ decimal b.n → a ≡ b
count_once a b same = let small_a : a.n < 2 ^ 64 = omega (arith, a.to) in let small_b : b.n < 2 ^ 64 = omega (arith, b.to) in count_is a b (decimal_injective a.n b.n small_a small_b same)

amounts_once : (a b : Amounts) → decimal a.m ≡ decimal b.m → decimal a.c ≡ decimal b.c → decimal a.d ≡ decimal b.d → a ≡ b
amounts_once a b metal crystal deuterium =
    let metal_a : a.m < 2 ^ 64 = omega (arith, a.metal) in
    let crystal_a : a.c < 2 ^ 64 = omega (arith, a.crystal) in
    let deuterium_a : a.d < 2 ^ 64 = omega (arith, a.deuterium) in
    let metal_b : b.m < 2 ^ 64 = omega (arith, b.metal) in
    let crystal_b : b.c < 2 ^ 64 = omega (arith, b.crystal) in
    let deuterium_b : b.d < 2 ^ 64 = omega (arith, b.deuterium) in
    amounts_is a b (decimal_injective a.m b.m metal_a metal_b metal) (decimal_injective a.c b.c crystal_a crystal_b crystal) (decimal_injective a.d b.d deuterium_a deuterium_b deuterium)

mission_of : List ℕ → Mission
mission_of [] = Transport
mission_of (c ∷ word) = elim (eqb c 116) [ true ↦ Transport | false ↦ elim (eqb c 100) [ true ↦ Deploy | false ↦ elim (eqb c 104) [ true ↦ Harvest | false ↦ Attack ] ] ]

mission_read : (mission : Mission) → mission_of (mission_word mission) ≡ mission
unfolding mission_of
mission_read Transport = refl
mission_read Deploy = refl
mission_read Harvest = refl
mission_read Attack = refl

mission_once : (a b : Mission) → mission_word a ≡ mission_word b → a ≡ b
mission_once a b same = sym (mission_read a) ∙ ap mission_of same ∙ mission_read b

flight_once : (setting setting' : SpeedSetting) (ships ships' : Ships) (cargo cargo' : Amounts) → flight_words setting ships cargo [] ≡ flight_words setting' ships' cargo' [] → (setting ≡ setting') × (ships ≡ ships') × (cargo ≡ cargo')
flight_once setting setting' ships ships' cargo cargo' same =
    let speed : decimal setting.p ≡ decimal setting'.p = cc in
    let text : ships_text ships.n ≡ ships_text ships'.n = cc in
    let metal : decimal cargo.m ≡ decimal cargo'.m = cc in
    let crystal : decimal cargo.c ≡ decimal cargo'.c = cc in
    let deuterium : decimal cargo.d ≡ decimal cargo'.d = cc in
    (setting_once setting setting' speed, ships_once ships ships' text, amounts_once cargo cargo' metal crystal deuterium)

-- a kind in a wrapper
kind_once : (a b : Kind) (xs ys : List (List ℕ)) → kind_word a ∷ xs ≡ kind_word b ∷ ys → a ≡ b
kind_once a b xs ys same = let word : kind_word a ≡ kind_word b = cc in word_once a b word

-- requests of one form with the same words after the first are one
request_same : (a b : Request) → form_of a ≡ form_of b → argument_words a ≡ argument_words b → a ≡ b
request_same (Planet x) (Planet y) form same = let place : coord_text x ≡ coord_text y = cc in ap Planet (coord_once x y place)
request_same Account Account form same = refl
request_same Fleets Fleets form same = refl
request_same (System x) (System y) form same = let place : system_text x ≡ system_text y = cc in ap System (system_once x y place)
request_same (Build x building) (Build y building') form same =
    let place : coord_text x ≡ coord_text y = cc in
    let word : kind_word building.kind ≡ kind_word building'.kind = cc in
    let one = coord_once x y place in
    let two = building_is building building' (word_once building.kind building'.kind word) in
    λ i. Build (one i) (two i)
request_same (Research x technology) (Research y technology') form same =
    let place : coord_text x ≡ coord_text y = cc in
    let word : kind_word technology.kind ≡ kind_word technology'.kind = cc in
    let one = coord_once x y place in
    let two = technology_is technology technology' (word_once technology.kind technology'.kind word) in
    λ i. Research (one i) (two i)
request_same (Yard x unit count) (Yard y unit' count') form same =
    let place : coord_text x ≡ coord_text y = cc in
    let word : kind_word unit.kind ≡ kind_word unit'.kind = cc in
    let number : decimal count.n ≡ decimal count'.n = cc in
    let one = coord_once x y place in
    let two = unit_is unit unit' (word_once unit.kind unit'.kind word) in
    let three = count_once count count' number in
    λ i. Yard (one i) (two i) (three i)
request_same (Set x work tenths) (Set y work' tenths') form same =
    let place : coord_text x ≡ coord_text y = cc in
    let word : kind_word work.kind ≡ kind_word work'.kind = cc in
    let number : decimal tenths.n ≡ decimal tenths'.n = cc in
    let one = coord_once x y place in
    let two = work_is work work' (word_once work.kind work'.kind word) in
    let three = tenths_once tenths tenths' number in
    λ i. Set (one i) (two i) (three i)
request_same (Send x y mission setting ships cargo) (Send x' y' mission' setting' ships' cargo') form same =
    let from : coord_text x ≡ coord_text x' = cc in
    let to : coord_text y ≡ coord_text y' = cc in
    let word : mission_word mission ≡ mission_word mission' = cc in
    let rest : flight_words setting ships cargo [] ≡ flight_words setting' ships' cargo' [] = cc in
    let one = coord_once x x' from in
    let two = coord_once y y' to in
    let three = mission_once mission mission' word in
    let four = flight_once setting setting' ships ships' cargo cargo' rest in
    λ i. Send (one i) (two i) (three i) (four.0 i) (four.1 i) (four.2 i)
request_same (Join fleet x y setting ships cargo) (Join fleet' x' y' setting' ships' cargo') form same =
    let number : decimal fleet.f ≡ decimal fleet'.f = cc in
    let from : coord_text x ≡ coord_text x' = cc in
    let to : coord_text y ≡ coord_text y' = cc in
    let rest : flight_words setting ships cargo [] ≡ flight_words setting' ships' cargo' [] = cc in
    let one = fleet_once fleet fleet' number in
    let two = coord_once x x' from in
    let three = coord_once y y' to in
    let four = flight_once setting setting' ships ships' cargo cargo' rest in
    λ i. Join (one i) (two i) (three i) (four.0 i) (four.1 i) (four.2 i)
request_same (Recall x) (Recall y) form same = let number : decimal x.f ≡ decimal y.f = cc in ap Recall (fleet_once x y number)
request_same _ _ form same = absurd (cc)

pub one_request : (a b : Request) → request_words a ≡ request_words b → a ≡ b
one_request a b same =
    let head : form_word (form_of a) ≡ form_word (form_of b) = cc in
    let rest : argument_words a ≡ argument_words b = cc in
    request_same a b (form_once (form_of a) (form_of b) head) rest

colon_lacks : Lacks 32 (codes ":")
colon_lacks = lacks-cons 32 58 [] (λ e. omega arith) (lacks-nil 32)

system_lacks : (at : SystemId) → Lacks 32 (system_text at)
system_lacks at = lacks-append 32 _ (decimal at.s) (lacks-append 32 (decimal at.g) (codes ":") (decimal_lacks_space at.g) colon_lacks) (decimal_lacks_space at.s)

coord_lacks : (at : Coord) → Lacks 32 (coord_text at)
coord_lacks at =
    lacks-append 32 _ (decimal at.p) (lacks-append 32 _ (codes ":") (lacks-append 32 _ (decimal at.s) (lacks-append 32 (decimal at.g) (codes ":") (decimal_lacks_space at.g) colon_lacks) (decimal_lacks_space at.s)) colon_lacks) (decimal_lacks_space at.p)

word_lacks : (kind : Kind) → Lacks 32 (kind_word kind)
word_lacks kind = kind_lacks 32 kind (omega arith)

flight_lacks : (setting : SpeedSetting) (ships : Ships) (cargo : Amounts) → AllByRecursion (Lacks 32) (flight_words setting ships cargo [])
flight_lacks setting ships cargo = (decimal_lacks_space setting.p, (ships_lack_space ships.n, (decimal_lacks_space cargo.m, (decimal_lacks_space cargo.c, (decimal_lacks_space cargo.d, tt)))))

arguments_lack : (req : Request) → AllByRecursion (Lacks 32) (argument_words req)
arguments_lack (Planet at) = (coord_lacks at, tt)
arguments_lack Account = tt
arguments_lack Fleets = tt
arguments_lack (System at) = (system_lacks at, tt)
arguments_lack (Build at building) = (coord_lacks at, (word_lacks building.kind, tt))
arguments_lack (Research at technology) = (coord_lacks at, (word_lacks technology.kind, tt))
arguments_lack (Yard at unit count) = (coord_lacks at, (word_lacks unit.kind, (decimal_lacks_space count.n, tt)))
arguments_lack (Set at work tenths) = (coord_lacks at, (word_lacks work.kind, (decimal_lacks_space tenths.n, tt)))
arguments_lack (Send from to mission setting ships cargo) = (coord_lacks from, (coord_lacks to, (mission_lacks 32 mission (omega arith), flight_lacks setting ships cargo)))
arguments_lack (Join fleet from to setting ships cargo) = (decimal_lacks_space fleet.f, (coord_lacks from, (coord_lacks to, flight_lacks setting ships cargo)))
arguments_lack (Recall fleet) = (decimal_lacks_space fleet.f, tt)

-- the text of a request spells it, and nothing else does
pub text_spells : (req : Request) → words (request_text req) ≡ request_words req
text_spells req = parts-join_with_byte 32 (form_word (form_of req)) (argument_words req) (form_lacks 32 (form_of req) (omega arith), arguments_lack req)

pub one_text : (req : Request) (text : List ℕ) → words text ≡ request_words req → text ≡ request_text req
one_text req text same = sym (join-parts 32 text) ∙ ap (join_with_byte 32) same

-- calls with the same parts are one
reading_is : (a b : Call) → a.reading ≡ b.reading → a.player ≡ b.player → a.req ≡ b.req → a ≡ b
reading_is a b reading player req =
    let at = λ (r : Option ℕ). (in_range : ForSome r (λ x. x ≤ LATEST)) → a ≡ record a { reading = r; in_range = in_range } in
    let first = subst at reading (λ in_range i. record a { in_range = λ x is. le_prop (a.in_range x is) (in_range x is) i }) b.in_range in
    first ∙ (λ i. record { reading = b.reading; player = player i; req = req i; in_range = b.in_range })

rest_once : (a b : Call) → a.reading ≡ b.reading → player_text a.player ∷ request_words a.req ≡ player_text b.player ∷ request_words b.req → a ≡ b
rest_once a b reading same =
    let player : player_text a.player ≡ player_text b.player = cc in
    let req : request_words a.req ≡ request_words b.req = cc in
    reading_is a b reading (player_once a.player b.player player) (one_request a.req b.req req)

-- words spell at most one call
call_once : (a b : Call) → call_words a ≡ call_words b → a ≡ b
call_once a b same = either a.reading b.reading refl refl same
  where
    either : (r s : Option ℕ) → a.reading ≡ r → b.reading ≡ s → timed_words r (player_text a.player ∷ request_words a.req) ≡ timed_words s (player_text b.player ∷ request_words b.req) → a ≡ b
    either None None is_a is_b same = rest_once a b (is_a ∙ sym is_b) same
    either None (Some s) is_a is_b same =
        let both : true ≡ false = sym (ap is_timed same) ∙ player_untimed a.player (request_words a.req) in
        absurd (cc)
    either (Some r) None is_a is_b same =
        let both : true ≡ false = ap is_timed same ∙ player_untimed b.player (request_words b.req) in
        absurd (cc)
    either (Some r) (Some s) is_a is_b same =
        let digits : decimal r ≡ decimal s = cc in
        let rest : player_text a.player ∷ request_words a.req ≡ player_text b.player ∷ request_words b.req = cc in
        let below_r = a.in_range r is_a in
        let below_s = b.in_range s is_b in
        let small_r : r < 2 ^ 64 = omega (arith, below_r) in
        let small_s : s < 2 ^ 64 = omega (arith, below_s) in
        let one = decimal_injective r s small_r small_s digits in
        rest_once a b (is_a ∙ ap Some one ∙ sym is_b) rest

pub one_call : (script : Bool) (line : List ℕ) (a b : Call) → Spells script line a → Spells script line b → a ≡ b
one_call script line a b spells_a spells_b = call_once a b (sym spells_a.same ∙ spells_b.same)

pub one_line : (script : Bool) (call : Call) (a b : List ℕ) → Spells script a call → Spells script b call → a ≡ b
one_line script call a b spells_a spells_b = sym (join-parts 32 a) ∙ ap (join_with_byte 32) (spells_a.same ∙ sym spells_b.same) ∙ join-parts 32 b
