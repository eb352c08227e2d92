-- Lines of words: each form has its own words, and the words of a form have one value.
use Rattle.std.proofs.Common.{◌≡◌, ℕ, ◌<◌, ◌≤◌, ◌^◌, pos, negsuc, ◌≤ℤ◌, List, [], ◌∷◌, length, refl, ap, ◌∙◌, sym, subst, arith, rules, Option, Some, None}
use Rattle.std.specs.Prelude.{codes, Bool, true, false, if◌then◌else◌, MatchOption}
use Rattle.std.specs.Coded.{le_prop}
use Rattle.std.specs.Fmt.{decimal, signed_decimal}
use Rattle.std.proofs.lemmas.Fmt.{decimal_injective}
use Rattle.std.proofs.lemmas.Int.{ints}
use Rattle.base_text.specs.Parts.{words}
use Rattle.base_text.proofs.Joining.{last_part, three_once}
use Rattle.base_text.proofs.Lacking.{decimal_lacks_space}
use Rattle.base_text.proofs.Signing.{one_number}
use Rattle.base_text.proofs.Splitting.{parts-more, parts-one}
use Rattle.base_ids.proofs.Names.{coord_is, player_is}
use Rattle.base_ids.specs.Text.{coord_text, player_text}
use Rattle.base_ids.specs.declared.coord.Coord.{Coord}
use Rattle.base_ids.specs.declared.player.Player.{Player}
use Rattle.base_bytes.specs.declared.base.TheConstants.{MOST_REQUESTS}
use Rattle.catalog.proofs.Values.{amounts_is, building_is, technology_is, unit_is}
use Rattle.catalog.proofs.Words.{word_once}
use Rattle.catalog.specs.declared.classes.Building.{Building}
use Rattle.catalog.specs.declared.classes.Technology.{Technology}
use Rattle.catalog.specs.declared.classes.Unit.{Unit as UnitKind}
use Rattle.catalog.specs.declared.ships.TheConstants.{UNITS}
use Rattle.catalog.specs.Kinds.{kind_word}
use Rattle.catalog.specs.Levels.{level_cap_of}
use Rattle.catalog.specs.declared.amounts.TheConstants.{CAP}
use Rattle.catalog.specs.declared.kind.Kind.{Kind}
use Rattle.ports.specs.declared.clock.TheConstants.{LATEST}
use Rattle.tick_model.specs.declared.rules.Rules.{Rules}
use Rattle.founding.specs.Bounds.{most_units}
use Rattle.founding.specs.Drafts.{first_planet}
use Rattle.founding.specs.Lines.{heading_words, level_words, planet_words, player_words, stock_words, technology_words, units_words}
use Rattle.founding.specs.declared.heading.Heading.{Heading}
use Rattle.founding.specs.declared.named.NewLevel.{NewLevel}
use Rattle.founding.specs.declared.named.NewPlanet.{NewPlanet}
use Rattle.founding.specs.declared.named.NewStock.{NewStock}
use Rattle.founding.specs.declared.named.NewTechnology.{NewTechnology}
use Rattle.founding.specs.declared.named.NewUnits.{NewUnits}
use Rattle.tick_model.specs.Refusals.{is_dome}

-- a line whose fourth word is followed by another has no four words
pub more_than_four : (a b c d p q r s rest : List ℕ) → p ∷ q ∷ r ∷ s ∷ words rest ≡ a ∷ b ∷ c ∷ d ∷ [] → ⊥
more_than_four a b c d p q r s rest same =
    let more = parts-more 32 rest in
    let found : words rest ≡ more.0 ∷ more.1.0 = more.1.1 in
    let none : words rest ≡ [] = cc in
    let both : more.0 ∷ more.1.0 ≡ [] = sym found ∙ none in
    cc

-- a line whose fifth word is followed by another has no five words
pub more_than_five : (a b c d e p q r s t rest : List ℕ) → p ∷ q ∷ r ∷ s ∷ t ∷ words rest ≡ a ∷ b ∷ c ∷ d ∷ e ∷ [] → ⊥
more_than_five a b c d e p q r s t rest same =
    let more = parts-more 32 rest in
    let found : words rest ≡ more.0 ∷ more.1.0 = more.1.1 in
    let none : words rest ≡ [] = cc in
    let both : more.0 ∷ more.1.0 ≡ [] = sym found ∙ none in
    cc

player_word : (player : Player) → words (player_text player) ≡ player_text player ∷ []
player_word player = parts-one 32 (player_text player) (decimal_lacks_space player.k)

-- behind the word `player` a line names the player that follows, if one follows
pub player_line : (line form number : List ℕ) (found : Option Player) → words line ≡ form ∷ words number → form ≡ codes "player"
    → MatchOption found ((k : Player) → number ≡ player_text k → ⊥) (λ k. number ≡ player_text k)
    → MatchOption found ((k : Player) → words line ≡ player_words k → ⊥) (λ k. words line ≡ player_words k)
player_line line form number None cut first none = λ k spells.
    let both : form ∷ words number ≡ codes "player" ∷ player_text k ∷ [] = sym cut ∙ spells in
    let rest : words number ≡ player_text k ∷ [] = cc in
    none k (last_part 32 number (player_text k) rest)
player_line line form number (Some k) cut first second = cut ∙ (λ i. first i ∷ words (second i)) ∙ ap (λ rest. codes "player" ∷ rest) (player_word k)

-- a player has one spelling
player_once : (a b : Player) → player_text a ≡ player_text b → a ≡ b
player_once a b same =
    let small_a : a.k < 2 ^ 64 = omega (arith, a.to) in
    let small_b : b.k < 2 ^ 64 = omega (arith, b.to) in
    player_is a b (decimal_injective a.k b.k small_a small_b same)

-- so has a place
coord_once : (a b : Coord) → coord_text a ≡ coord_text b → a ≡ b
coord_once a b same =
    let galaxy_a : a.g < 2 ^ 64 = omega (arith, a.galaxy_to) in
    let system_a : a.s < 2 ^ 64 = omega (arith, a.system_to) in
    let position_a : a.p < 2 ^ 64 = omega (arith, a.position_to) in
    let galaxy_b : b.g < 2 ^ 64 = omega (arith, b.galaxy_to) in
    let system_b : b.s < 2 ^ 64 = omega (arith, b.system_to) in
    let position_b : b.p < 2 ^ 64 = omega (arith, b.position_to) in
    let numbers = three_once a.g a.s a.p b.g b.s b.p galaxy_a system_a position_a galaxy_b system_b position_b same in
    coord_is a b numbers.0 numbers.1 numbers.2

-- the words of a line name one player
pub one_player : (line : List (List ℕ)) (a b : Player) → line ≡ player_words a → line ≡ player_words b → a ≡ b
one_player line a b first second =
    let both : codes "player" ∷ player_text a ∷ [] ≡ codes "player" ∷ player_text b ∷ [] = sym first ∙ second in
    let same : player_text a ≡ player_text b = cc in
    player_once a b same

one_temperature : (a b : NewPlanet) → planet_words a ≡ planet_words b → a.temperature ≡ b.temperature
one_temperature a b same =
    let text : signed_decimal a.temperature ≡ signed_decimal b.temperature = cc in
    let low_a : negsuc 32768 ≤ℤ a.temperature = omega (arith, ints, a.coldest) in
    let high_a : a.temperature ≤ℤ pos 32768 = omega (arith, ints, a.hottest) in
    let low_b : negsuc 32768 ≤ℤ b.temperature = omega (arith, ints, b.coldest) in
    let high_b : b.temperature ≤ℤ pos 32768 = omega (arith, ints, b.hottest) in
    one_number (signed_decimal a.temperature) a.temperature b.temperature low_a high_a low_b high_b refl text

one_field_count : (a b : NewPlanet) → planet_words a ≡ planet_words b → a.fields ≡ b.fields
one_field_count a b same =
    let text : decimal a.fields ≡ decimal b.fields = cc in
    let small_a : a.fields < 2 ^ 64 = omega (arith, a.fields_to) in
    let small_b : b.fields < 2 ^ 64 = omega (arith, b.fields_to) in
    decimal_injective a.fields b.fields small_a small_b text

-- they found one planet
pub one_planet : (line : List (List ℕ)) (a b : NewPlanet) → line ≡ planet_words a → line ≡ planet_words b → first_planet a ≡ first_planet b
one_planet line a b first second =
    let same : planet_words a ≡ planet_words b = sym first ∙ second in
    let place : coord_text a.at ≡ coord_text b.at = cc in
    let at = coord_once a.at b.at place in
    let name : player_text a.owner ≡ player_text b.owner = cc in
    let owner = player_once a.owner b.owner name in
    let temperature = one_temperature a b same in
    let fields = one_field_count a b same in
    λ i. record (first_planet a) { at = at i; own = record (first_planet a).own { owner = owner i; temperature = temperature i; fields = fields i } }

one_amount : (m n : ℕ) → m ≤ CAP → n ≤ CAP → decimal m ≡ decimal n → m ≡ n
one_amount m n most_m most_n same =
    let small_m : m < 2 ^ 64 = omega (arith, most_m) in
    let small_n : n < 2 ^ 64 = omega (arith, most_n) in
    decimal_injective m n small_m small_n same

-- the words of a line say one stock
pub one_stock : (line : List (List ℕ)) (a b : NewStock) → line ≡ stock_words a → line ≡ stock_words b → a ≡ b
one_stock line a b first second =
    let same : stock_words a ≡ stock_words b = sym first ∙ second in
    let place : coord_text a.at ≡ coord_text b.at = cc in
    let metal : decimal a.amounts.m ≡ decimal b.amounts.m = cc in
    let crystal : decimal a.amounts.c ≡ decimal b.amounts.c = cc in
    let deuterium : decimal a.amounts.d ≡ decimal b.amounts.d = cc in
    let at = coord_once a.at b.at place in
    let amounts =
    amounts_is a.amounts b.amounts (one_amount a.amounts.m b.amounts.m a.amounts.metal b.amounts.metal metal) (one_amount a.amounts.c b.amounts.c a.amounts.crystal b.amounts.crystal crystal)
    (one_amount a.amounts.d b.amounts.d a.amounts.deuterium b.amounts.deuterium deuterium) in
    λ i. record { at = at i; amounts = amounts i }

cap_small : (kind : Kind) → level_cap_of kind < 2 ^ 64
cap_small kind = search rules

level_is : (a b : NewLevel) → a.at ≡ b.at → a.building ≡ b.building → a.level ≡ b.level → a ≡ b
level_is a b at building level =
    let at_building = λ (k : Building). (to : a.level ≤ level_cap_of k.kind) → a ≡ record a { building = k; level_to = to } in
    let first = subst at_building building (λ to i. record a { level_to = le_prop a.level_to to i }) in
    let at_level = λ (n : ℕ). (from : 1 ≤ n) (to : n ≤ level_cap_of b.building.kind) → a ≡ record a { building = b.building; level = n; level_from = from; level_to = to } in
    let second = subst at_level level (λ from to. first to ∙ (λ i. record a { building = b.building; level_from = le_prop a.level_from from i; level_to = to })) b.level_from b.level_to in
    second ∙ (λ i. record b { at = at i })

-- the words of a line say one level
pub one_level : (line : List (List ℕ)) (a b : NewLevel) → line ≡ level_words a → line ≡ level_words b → a ≡ b
one_level line a b first second =
    let same : level_words a ≡ level_words b = sym first ∙ second in
    let place : coord_text a.at ≡ coord_text b.at = cc in
    let word : kind_word a.building.kind ≡ kind_word b.building.kind = cc in
    let text : decimal a.level ≡ decimal b.level = cc in
    let cap_a = cap_small a.building.kind in
    let cap_b = cap_small b.building.kind in
    let small_a : a.level < 2 ^ 64 = omega (arith, a.level_to, cap_a) in
    let small_b : b.level < 2 ^ 64 = omega (arith, b.level_to, cap_b) in
    level_is a b (coord_once a.at b.at place) (building_is a.building b.building (word_once a.building.kind b.building.kind word)) (decimal_injective a.level b.level small_a small_b text)

technology_said : (a b : NewTechnology) → a.player ≡ b.player → a.technology ≡ b.technology → a.level ≡ b.level → a ≡ b
technology_said a b player technology level =
    let at_technology = λ (k : Technology). (to : a.level ≤ level_cap_of k.kind) → a ≡ record a { technology = k; level_to = to } in
    let first = subst at_technology technology (λ to i. record a { level_to = le_prop a.level_to to i }) in
    let at_level = λ (n : ℕ). (from : 1 ≤ n) (to : n ≤ level_cap_of b.technology.kind) → a ≡ record a { technology = b.technology; level = n; level_from = from; level_to = to } in
    let second = subst at_level level (λ from to. first to ∙ (λ i. record a { technology = b.technology; level_from = le_prop a.level_from from i; level_to = to })) b.level_from b.level_to in
    second ∙ (λ i. record b { player = player i })

-- the words of a line say one level of a technology
pub one_technology : (line : List (List ℕ)) (a b : NewTechnology) → line ≡ technology_words a → line ≡ technology_words b → a ≡ b
one_technology line a b first second =
    let same : technology_words a ≡ technology_words b = sym first ∙ second in
    let name : player_text a.player ≡ player_text b.player = cc in
    let word : kind_word a.technology.kind ≡ kind_word b.technology.kind = cc in
    let text : decimal a.level ≡ decimal b.level = cc in
    let cap_a = cap_small a.technology.kind in
    let cap_b = cap_small b.technology.kind in
    let small_a : a.level < 2 ^ 64 = omega (arith, a.level_to, cap_a) in
    let small_b : b.level < 2 ^ 64 = omega (arith, b.level_to, cap_b) in
    technology_said a b (player_once a.player b.player name) (technology_is a.technology b.technology (word_once a.technology.kind b.technology.kind word)) (decimal_injective a.level b.level small_a small_b text)

few_units : (dome : Bool) → (if dome then 1 else UNITS) < 2 ^ 64
few_units true = omega arith
few_units false = omega arith

units_small : (kind : Kind) → most_units kind < 2 ^ 64
units_small kind = few_units (is_dome kind)

units_said : (a b : NewUnits) → a.at ≡ b.at → a.unit ≡ b.unit → a.count ≡ b.count → a ≡ b
units_said a b at unit count =
    let at_unit = λ (k : UnitKind). (to : a.count ≤ most_units k.kind) → a ≡ record a { unit = k; count_to = to } in
    let first = subst at_unit unit (λ to i. record a { count_to = le_prop a.count_to to i }) in
    let at_count = λ (n : ℕ). (from : 1 ≤ n) (to : n ≤ most_units b.unit.kind) → a ≡ record a { unit = b.unit; count = n; count_from = from; count_to = to } in
    let second = subst at_count count (λ from to. first to ∙ (λ i. record a { unit = b.unit; count_from = le_prop a.count_from from i; count_to = to })) b.count_from b.count_to in
    second ∙ (λ i. record b { at = at i })

-- the words of a line say the units of one kind
pub one_units : (line : List (List ℕ)) (a b : NewUnits) → line ≡ units_words a → line ≡ units_words b → a ≡ b
one_units line a b first second =
    let same : units_words a ≡ units_words b = sym first ∙ second in
    let place : coord_text a.at ≡ coord_text b.at = cc in
    let word : kind_word a.unit.kind ≡ kind_word b.unit.kind = cc in
    let text : decimal a.count ≡ decimal b.count = cc in
    let most_a = units_small a.unit.kind in
    let most_b = units_small b.unit.kind in
    let small_a : a.count < 2 ^ 64 = omega (arith, a.count_to, most_a) in
    let small_b : b.count < 2 ^ 64 = omega (arith, b.count_to, most_b) in
    units_said a b (coord_once a.at b.at place) (unit_is a.unit b.unit (word_once a.unit.kind b.unit.kind word)) (decimal_injective a.count b.count small_a small_b text)

-- how long the first word of a line is
first_length : List (List ℕ) → ℕ
first_length [] = 0
first_length (word ∷ later) = length word

-- no line has two forms
pub no_player_planet : (line : List (List ℕ)) (player : Player) (planet : NewPlanet) → line ≡ player_words player → line ≡ planet_words planet → ⊥
no_player_planet line player planet first second = let both = ap length (sym first ∙ second) in omega (arith, both)

pub no_player_stock : (line : List (List ℕ)) (player : Player) (stock : NewStock) → line ≡ player_words player → line ≡ stock_words stock → ⊥
no_player_stock line player stock first second = let both = ap length (sym first ∙ second) in omega (arith, both)

pub no_player_level : (line : List (List ℕ)) (player : Player) (level : NewLevel) → line ≡ player_words player → line ≡ level_words level → ⊥
no_player_level line player level first second = let both = ap length (sym first ∙ second) in omega (arith, both)

pub no_planet_stock : (line : List (List ℕ)) (planet : NewPlanet) (stock : NewStock) → line ≡ planet_words planet → line ≡ stock_words stock → ⊥
unfolding first_length
no_planet_stock line planet stock first second = let both = ap first_length (sym first ∙ second) in omega (arith, both)

pub no_planet_level : (line : List (List ℕ)) (planet : NewPlanet) (level : NewLevel) → line ≡ planet_words planet → line ≡ level_words level → ⊥
no_planet_level line planet level first second = let both = ap length (sym first ∙ second) in omega (arith, both)

pub no_stock_level : (line : List (List ℕ)) (stock : NewStock) (level : NewLevel) → line ≡ stock_words stock → line ≡ level_words level → ⊥
no_stock_level line stock level first second = let both = ap length (sym first ∙ second) in omega (arith, both)

-- the first letter of a line
first_code : List (List ℕ) → ℕ
first_code [] = 0
first_code ([] ∷ later) = 0
first_code ((code ∷ word) ∷ later) = code

-- lines of other first letters have another form
module _ (line : List (List ℕ)) where
  pub no_player_technology : (player : Player) (new : NewTechnology) → line ≡ player_words player → line ≡ technology_words new → ⊥
  unfolding first_code
  no_player_technology player new first second = let both = ap first_code (sym first ∙ second) in omega (arith, both)

  pub no_planet_technology : (planet : NewPlanet) (new : NewTechnology) → line ≡ planet_words planet → line ≡ technology_words new → ⊥
  unfolding first_code
  no_planet_technology planet new first second = let both = ap first_code (sym first ∙ second) in omega (arith, both)

  pub no_stock_technology : (stock : NewStock) (new : NewTechnology) → line ≡ stock_words stock → line ≡ technology_words new → ⊥
  unfolding first_code
  no_stock_technology stock new first second = let both = ap first_code (sym first ∙ second) in omega (arith, both)

  pub no_level_technology : (level : NewLevel) (new : NewTechnology) → line ≡ level_words level → line ≡ technology_words new → ⊥
  unfolding first_code
  no_level_technology level new first second = let both = ap first_code (sym first ∙ second) in omega (arith, both)

  pub no_player_units : (player : Player) (new : NewUnits) → line ≡ player_words player → line ≡ units_words new → ⊥
  unfolding first_code
  no_player_units player new first second = let both = ap first_code (sym first ∙ second) in omega (arith, both)

  pub no_planet_units : (planet : NewPlanet) (new : NewUnits) → line ≡ planet_words planet → line ≡ units_words new → ⊥
  unfolding first_code
  no_planet_units planet new first second = let both = ap first_code (sym first ∙ second) in omega (arith, both)

  pub no_stock_units : (stock : NewStock) (new : NewUnits) → line ≡ stock_words stock → line ≡ units_words new → ⊥
  unfolding first_code
  no_stock_units stock new first second = let both = ap first_code (sym first ∙ second) in omega (arith, both)

  pub no_level_units : (level : NewLevel) (new : NewUnits) → line ≡ level_words level → line ≡ units_words new → ⊥
  unfolding first_code
  no_level_units level new first second = let both = ap first_code (sym first ∙ second) in omega (arith, both)

  pub no_technology_units : (technology : NewTechnology) (new : NewUnits) → line ≡ technology_words technology → line ≡ units_words new → ⊥
  unfolding first_code
  no_technology_units technology new first second = let both = ap first_code (sym first ∙ second) in omega (arith, both)

pub rules_is : (a b : Rules) → a.seed ≡ b.seed → a.speed ≡ b.speed → a ≡ b
rules_is a b seed speed =
    let at = λ (s : ℕ). (from : 1 ≤ s) (to : s ≤ 100) → a ≡ record a { speed = s; speed_from = from; speed_to = to } in
    let first = subst at speed (λ from to i. record a { speed_from = le_prop a.speed_from from i; speed_to = le_prop a.speed_to to i }) b.speed_from b.speed_to in
    first ∙ (λ i. record b { seed = seed i })

heading_is : (a b : Heading) → a.rules ≡ b.rules → a.capacity ≡ b.capacity → a.moment ≡ b.moment → a ≡ b
heading_is a b rules capacity moment =
    let at_rules = λ (r : Rules). (fits : r.seed < 2 ^ 64) → a ≡ record a { rules = r; seed_fits = fits } in
    let first = subst at_rules rules (λ fits i. record a { seed_fits = le_prop a.seed_fits fits i }) b.seed_fits in
    let c : Heading = record a { rules = b.rules; seed_fits = b.seed_fits } in
    let at_capacity = λ (n : ℕ). (from : 1 ≤ n) (to : n ≤ MOST_REQUESTS) → c ≡ record c { capacity = n; capacity_from = from; capacity_to = to } in
    let second = subst at_capacity capacity (λ from to i. record c { capacity_from = le_prop c.capacity_from from i; capacity_to = le_prop c.capacity_to to i }) b.capacity_from b.capacity_to in
    let d : Heading = record c { capacity = b.capacity; capacity_from = b.capacity_from; capacity_to = b.capacity_to } in
    let at_moment = λ (m : ℕ). (in_time : m ≤ LATEST) → d ≡ record d { moment = m; in_time = in_time } in
    let third = subst at_moment moment (λ in_time i. record d { in_time = le_prop d.in_time in_time i }) b.in_time in
    first ∙ second ∙ third

-- a heading has one spelling
pub one_heading : (line : List (List ℕ)) (a b : Heading) → line ≡ heading_words a → line ≡ heading_words b → a ≡ b
one_heading line a b first second =
    let same : heading_words a ≡ heading_words b = sym first ∙ second in
    let seed : decimal a.rules.seed ≡ decimal b.rules.seed = cc in
    let speed : decimal a.rules.speed ≡ decimal b.rules.speed = cc in
    let capacity : decimal a.capacity ≡ decimal b.capacity = cc in
    let moment : decimal a.moment ≡ decimal b.moment = cc in
    let speed_a : a.rules.speed < 2 ^ 64 = omega (arith, a.rules.speed_to) in
    let speed_b : b.rules.speed < 2 ^ 64 = omega (arith, b.rules.speed_to) in
    let capacity_a : a.capacity < 2 ^ 64 = omega (arith, a.capacity_to) in
    let capacity_b : b.capacity < 2 ^ 64 = omega (arith, b.capacity_to) in
    let moment_a : a.moment < 2 ^ 64 = omega (arith, a.in_time) in
    let moment_b : b.moment < 2 ^ 64 = omega (arith, b.in_time) in
    heading_is a b
    (rules_is a.rules b.rules (decimal_injective a.rules.seed b.rules.seed a.seed_fits b.seed_fits seed) (decimal_injective a.rules.speed b.rules.speed speed_a speed_b speed))
    (decimal_injective a.capacity b.capacity capacity_a capacity_b capacity) (decimal_injective a.moment b.moment moment_a moment_b moment)
