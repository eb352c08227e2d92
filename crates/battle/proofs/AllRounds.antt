-- The rounds of a battle, one after the other.
use Rattle.std.proofs.Common.{◌≡◌, ℕ, zero, suc, ◌+◌, ◌-◌, ◌<◌, ◌≤◌, List, [], ◌∷◌, length, map, get_or, Bool, true, false, cond, filter, not, ◌&&◌, ◌||◌, ◌⊎◌, inl, inr, add-one, ap, ◌∙◌, sym, subst, refl, arith}
use Rattle.std.specs.Prelude.{nat_le, nat_lt, ◌==◌}
use Rattle.std.specs.List.{AllByRecursion, count_by, list_any, range_with_len}
use Rattle.std.proofs.lemmas.Bool.{and_cases, and_left, and_parts, and_right, both_ways, cases_lt, cases_order, eq-eqb, le-ltb, le-leb, lt-leb, lt-ltb, ltb-true, ne_eqb, not-false, or_cases}
use Rattle.std.proofs.lemmas.List.{length-map}
use Rattle.std.proofs.lemmas.List.Sums.{sum_by-cons}
use Rattle.draws.proofs.Words.{after_none}
use Rattle.battle.proofs.Opening.{make, same_party}
use Rattle.battle.proofs.LegalShots.{stream_at}
use Rattle.battle.proofs.Salvo.{Keeps, keeps_first, before_half, rank_most}
use Rattle.battle.proofs.Halves.{AfterVolley, Reached, all_turned, fought_kept, volley_fires}
use Rattle.battle.specs.Course.{Field, Volley, both_stand, course, fighters_of, after_round, after_rounds, standing, start_of, unhurt, after_volley, with_full_shield}
use Rattle.battle.specs.Outcomes.{left, rounds}
use Rattle.battle.specs.Shots.{Shot, alive, found, is_alive, is_at, is_destroyed, nobody, shield_taken, unit_at}
use Rattle.battle.specs.Sides.{Battle, Party, attackers, planet, units}
use Rattle.battle.specs.Trace.{AreLegalAfter, IsTrace}
use Rattle.battle.specs.Turns.{Turn, half, has_fired, is_before, is_round_fought, is_open, turn_of}
use Rattle.battle.specs.declared.combatant.Combatant.{Combatant}
use Rattle.battle.specs.declared.fighter.Fighter.{Fighter}

pub map_same : {X Y : Type 0} (f g : X → Y) (xs : List X) → ((x : X) → f x ≡ g x) → map f xs ≡ map g xs
map_same f g [] same = refl
map_same f g (x ∷ xs) same = ap (λ y. y ∷ map f xs) (same x) ∙ ap (λ ys. g x ∷ ys) (map_same f g xs same)

pub filter_whole : {X : Type 0} (test : X → Bool) (xs : List X) → AllByRecursion (λ x. test x ≡ true) xs → filter test xs ≡ xs
filter_whole test [] all = refl
filter_whole test (x ∷ xs) (first, all) = rw first (ap (λ ys. x ∷ ys) (filter_whole test xs all))

pub any_of_filter : {X : Type 0} (p q : X → Bool) (xs : List X) → list_any p (filter q xs) ≡ true → list_any p xs ≡ true
any_of_filter p q [] some = some
any_of_filter p q (x ∷ xs) some = either (q x) (any_of_filter p q xs) some
  where
    first_or : (first : Bool) → (list_any p (filter q xs) ≡ true → list_any p xs ≡ true) → (first || list_any p (filter q xs)) ≡ true → (first || list_any p xs) ≡ true
    first_or true later some = refl
    first_or false later some = later some

    or_second : (first : Bool) → list_any p xs ≡ true → (first || list_any p xs) ≡ true
    or_second true some = refl
    or_second false some = some

    either : (kept : Bool) → (list_any p (filter q xs) ≡ true → list_any p xs ≡ true) → list_any p (cond kept (x ∷ filter q xs) (filter q xs)) ≡ true → list_any p (x ∷ xs) ≡ true
    either true later some = first_or (p x) later some
    either false later some = or_second (p x) (later some)

none_below : (m n : ℕ) → m < n → n ≡ 0 → ⊥
none_below m n less none = omega (arith, less, none)

-- a turn before the start of a half is in an earlier half
pub in_earlier_half : (u t : Turn) → t.place ≡ 0 → is_before u t ≡ true → half u < half t
in_earlier_half u t start less = either (or_cases (nat_lt (half u) (half t)) (half u == half t && nat_lt u.place t.place) less)
  where
    either : (nat_lt (half u) (half t) ≡ true) ⊎ ((half u == half t && nat_lt u.place t.place) ≡ true) → half u < half t
    either (inl earlier) = ltb-true (half u) (half t) earlier
    either (inr beside) = let fact = ltb-true u.place t.place (and_parts (half u == half t) (nat_lt u.place t.place) beside).1 in elim (none_below u.place t.place fact start) [ ]

-- the shots before a round's start are of earlier rounds
pub of_earlier_rounds : (shots : List Shot) (round r : ℕ) → round ≤ r → AllByRecursion (λ s. is_before (turn_of s) (make round attackers 0) ≡ true) shots → AllByRecursion (λ s. nat_lt s.round r ≡ true) shots
of_earlier_rounds shots round r late past = all_turned _ _ shots (λ s less. lt-ltb s.round r (earlier s less)) past
  where
    earlier : (s : Shot) → is_before (turn_of s) (make round attackers 0) ≡ true → s.round < r
    earlier s less = let fact = in_earlier_half (turn_of s) (make round attackers 0) refl less in omega (arith, fact, late)

-- so whoever is alive then is who was not destroyed
pub alive_is : (shots : List Shot) (round r : ℕ) (party : Party) (place : ℕ) → round ≤ r → AllByRecursion (λ s. is_before (turn_of s) (make round attackers 0) ≡ true) shots → is_alive shots r party place ≡ not (is_destroyed shots party place)
alive_is shots round r party place late past = ap (λ ts. not (is_destroyed ts party place)) (filter_whole (λ s. nat_lt s.round r) shots (of_earlier_rounds shots round r late past))

pub alive_later : (b : Battle) (shots : List Shot) (round r : ℕ) (party : Party) → round ≤ r → AllByRecursion (λ s. is_before (turn_of s) (make round attackers 0) ≡ true) shots → alive b shots r party ≡ alive b shots round party
alive_later b shots round r party late past =
    ap (λ ts. filter (λ place. not (is_destroyed ts party place)) (range_with_len 0 (length (units b party))))
    (filter_whole (λ s. nat_lt s.round r) shots (of_earlier_rounds shots round r late past) ∙ sym (filter_whole (λ s. nat_lt s.round round) shots (of_earlier_rounds shots round round (omega arith) past)))

-- who was dead at the round's start is destroyed
dead_is_destroyed : (shots : List Shot) (round : ℕ) (party : Party) (place : ℕ) → is_alive shots round party place ≡ false → is_destroyed shots party place ≡ true
dead_is_destroyed shots round party place dead = any_of_filter (λ s. s.destroyed && is_at party place s) (λ s. nat_lt s.round round) shots (not-false _ dead)

-- no shot of a round was fired before its start, so shields are full
none_of_round : (round : ℕ) (party : Party) (place : ℕ) (shots : List Shot) → AllByRecursion (λ s. nat_lt s.round round ≡ true) shots → shield_taken shots round party place ≡ 0
none_of_round round party place [] earlier = refl
none_of_round round party place (s ∷ shots) (first, earlier) =
    rw (ne_eqb s.round round (λ same. (let fact = ltb-true s.round round first in omega (arith, fact, same)))) (none_of_round round party place shots earlier)

less_none : (n : ℕ) → n - 0 ≡ n
less_none n = omega arith

found_at_start : (b : Battle) (shots : List Shot) (round : ℕ) (party : Party) (place : ℕ) → AllByRecursion (λ s. nat_lt s.round (round + 1) ≡ true) shots
    → found b shots (round + 1) party place ≡ with_full_shield (found b shots round party place)
found_at_start b shots round party place earlier = rw (none_of_round (round + 1) party place shots earlier) (rw (less_none (unit_at b party place).shield) refl)

-- the units that stand after a round are those that are alive at the start of the next
pub standing_is : (b : Battle) (shots : List Shot) (round : ℕ) (party : Party) (places : List ℕ) → AllByRecursion (λ s. is_before (turn_of s) (make (round + 1) attackers 0) ≡ true) shots
    → standing (map (found b shots round party) (filter (is_alive shots round party) places)) ≡ map (found b shots (round + 1) party) (filter (is_alive shots (round + 1) party) places)
standing_is b shots round party [] past = refl
standing_is b shots round party (place ∷ places) past =
    ap (λ c. standing (map (found b shots round party) (cond c (place ∷ filter (is_alive shots round party) places) (filter (is_alive shots round party) places)))) refl
    ∙ either (is_alive shots round party place) (is_destroyed shots party place) refl refl (standing_is b shots round party places past)
    ∙ ap (λ c. map (found b shots (round + 1) party) (cond c (place ∷ filter (is_alive shots (round + 1) party) places) (filter (is_alive shots (round + 1) party) places))) (sym (alive_is shots (round + 1) (round + 1) party place (omega arith) past))
  where
    now : List ℕ
    now = filter (is_alive shots round party) places

    next : List ℕ
    next = filter (is_alive shots (round + 1) party) places

    either : (alive destroyed : Bool) → is_alive shots round party place ≡ alive → is_destroyed shots party place ≡ destroyed → standing (map (found b shots round party) now) ≡ map (found b shots (round + 1) party) next
        → standing (map (found b shots round party) (cond alive (place ∷ now) now)) ≡ map (found b shots (round + 1) party) (cond (not destroyed) (place ∷ next) next)
    either true true living destroyed rest = rw destroyed rest
    either true false living standing_yet rest =
        let others = filter (λ (c : Combatant). not c.is_destroyed) (map (found b shots round party) now) in
        ap (λ d. map with_full_shield (cond (not d) (found b shots round party place ∷ others) others)) standing_yet
        ∙ ap (λ c. c ∷ standing (map (found b shots round party) now)) (sym (found_at_start b shots round party place (of_earlier_rounds shots (round + 1) (round + 1) (omega arith) past)))
        ∙ ap (λ cs. found b shots (round + 1) party place ∷ cs) rest
    either false true dead destroyed rest = rest
    either false false dead standing_yet rest = elim (both_ways (is_destroyed shots party place) standing_yet (dead_is_destroyed shots round party place dead)) [ ]

-- a unit that is not there has no turn
absent_closed : (b : Battle) (shots : List Shot) (u : Turn) → length (units b u.party) ≤ u.place → is_open b shots u ≡ false
absent_closed b shots u absent =
    and_left _ (not (has_fired shots u)) (and_left _ (nat_lt 0 (unit_at b u.party u.place).attack) (and_left _ (is_alive shots u.round u.party u.place) (and_right (is_round_fought b shots u.round) (nat_lt u.place (length (units b u.party))) (le-ltb u.place (length (units b u.party)) absent))))

-- in a round that is not fought there is no turn
unfought_closed : (b : Battle) (shots : List Shot) (u : Turn) → is_round_fought b shots u.round ≡ false → is_open b shots u ≡ false
unfought_closed b shots u unfought = rw unfought refl

-- behind the last place of a half the next half is reached
pub half_reached : (b : Battle) (shots : List Shot) (t u : Turn) → t.place ≡ length (units b t.party) → half u ≡ half t + 1 → u.place ≡ 0 → Reached b shots t → Reached b shots u
half_reached b shots t u all next start reached =
    record { legal = reached.legal; closed = λ v less. either v (in_earlier_half v u start less) (cases_order (half v) (half t)) (cases_lt v.place t.place); past = all_turned _ _ shots past reached.past }
  where
    past : (s : Shot) → is_before (turn_of s) t ≡ true → is_before (turn_of s) u ≡ true
    past s less = let fact = before_half (turn_of s) t less in rw (lt-ltb (half (turn_of s)) (half u) (omega (arith, fact, next))) refl

    not_later : (m n k : ℕ) → m < n → n ≡ k + 1 → k < m → ⊥
    not_later m n k less same more = omega (arith, less, same, more)

    either : (v : Turn) → half v < half u → (half v ≡ half t) ⊎ ((half v < half t) ⊎ (half t < half v)) → (v.place < t.place) ⊎ (t.place ≤ v.place) → is_open b shots v ≡ false
    either v less (inr (inl earlier)) places = reached.closed v (rw (lt-ltb (half v) (half t) earlier) refl)
    either v less (inr (inr later)) places = elim (not_later (half v) (half u) (half t) less next later) [ ]
    either v less (inl same) (inl before) = reached.closed v (grind (arith, eq-eqb (half v) (half t) same, lt-ltb v.place t.place before))
    either v less (inl same) (inr behind) = absent_closed b shots v (rw (same_party v t same) (omega (arith, all, behind)))

-- the start of a round: all turns of earlier rounds are over, and the course of the battle has the units that are alive
pub record AtRound (b : Battle) (shots : List Shot) (round : ℕ) (field : Field) : Type 0 where
  pub reached : Reached b shots (make round attackers 0)
  pub attackers_are : field.attackers ≡ map (found b shots round attackers) (alive b shots round attackers)
  pub planet_is : field.planet ≡ map (found b shots round planet) (alive b shots round planet)
  pub stream_is : field.stream ≡ stream_at b shots
  pub rounds_are : round ≡ field.rounds + 1
  pub fought : (r : ℕ) → 1 ≤ r → r < round → is_round_fought b shots r ≡ true

-- a round with units on both sides is fought
round_fought : (b : Battle) (shots : List Shot) (round : ℕ) (field : Field) → AtRound b shots round field → both_stand field ≡ true → round ≤ 6 → is_round_fought b shots round ≡ true
round_fought b shots round field at both most =
    let parts = and_parts (nat_lt 0 (length field.attackers)) (nat_lt 0 (length field.planet)) both in
    let first : nat_lt 0 (length (alive b shots round attackers)) ≡ true =
    ap (nat_lt 0) (sym (ap length at.attackers_are ∙ length-map (alive b shots round attackers) (found b shots round attackers))) ∙ parts.0 in
    let second : nat_lt 0 (length (alive b shots round planet)) ≡ true =
    ap (nat_lt 0) (sym (ap length at.planet_is ∙ length-map (alive b shots round planet) (found b shots round planet))) ∙ parts.1 in
    let some = at.rounds_are in
    rw (le-leb 1 round (omega (arith, some))) (rw (le-leb round 6 most) (rw first (rw second refl)))

-- units of a side that was not shot at
own_kept : (b : Battle) (before shots : List Shot) (round : ℕ) (party : Party) → Keeps b before shots round party → map (found b shots round party) (alive b shots round party) ≡ map (found b before round party) (alive b before round party)
own_kept b before shots round party keeps =
    ap (map (found b shots round party)) (keeps.alive round party (omega arith)) ∙ map_same (found b shots round party) (found b before round party) (alive b before round party) (λ place. keeps.own round place)

-- what both volleys of a round leave
record AfterBoth (b : Battle) (before : List Shot) (round : ℕ) (first second : Volley) : Type 0 where
  pub shots : List Shot
  pub reached : Reached b shots (make (round + 1) attackers 0)
  pub kept : (r : ℕ) (p : Party) → r ≤ round → alive b shots r p ≡ alive b before r p
  pub attackers_are : second.targets ≡ map (found b shots round attackers) (alive b shots round attackers)
  pub planet_is : first.targets ≡ map (found b shots round planet) (alive b shots round planet)
  pub stream : second.stream ≡ stream_at b shots

abbrev first_volley : Battle → List Shot → ℕ → Volley
first_volley b before round = after_volley (map (found b before round attackers) (alive b before round attackers)) (map (found b before round planet) (alive b before round planet)) (stream_at b before)

abbrev second_volley : Battle → List Shot → ℕ → Volley
second_volley b before round = after_volley (first_volley b before round).targets (map (found b before round attackers) (alive b before round attackers)) (first_volley b before round).stream

attackers_fire : (b : Battle) (before : List Shot) (round : ℕ) → Reached b before (make round attackers 0) → is_round_fought b before round ≡ true
    → AfterVolley b before (make round attackers (length b.attackers)) (first_volley b before round)
attackers_fire b before round reached fought =
    volley_fires (length b.attackers) b before before (make round attackers 0) (make round attackers (length b.attackers)) (ap (make round attackers) (omega arith)) refl reached (keeps_first b before round attackers) fought

planet_fires : (b : Battle) (shots : List Shot) (round : ℕ) → Reached b shots (make round attackers (length b.attackers)) → is_round_fought b shots round ≡ true
    → AfterVolley b shots (make round planet (length b.planet)) (after_volley (map (found b shots round planet) (alive b shots round planet)) (map (found b shots round attackers) (alive b shots round attackers)) (stream_at b shots))
planet_fires b shots round reached fought =
    volley_fires (length b.planet) b shots shots (make round planet 0) (make round planet (length b.planet)) (ap (make round planet) (omega arith)) refl
    (half_reached b shots (make round attackers (length b.attackers)) (make round planet 0) refl (omega arith) refl reached)
    (keeps_first b shots round planet)
    fought

both_volleys : (b : Battle) (before : List Shot) (round : ℕ) → Reached b before (make round attackers 0) → is_round_fought b before round ≡ true → AfterBoth b before round (first_volley b before round) (second_volley b before round)
both_volleys b before round reached fought =
    let one = attackers_fire b before round reached fought in
    let two = planet_fires b one.shots round one.reached (fought_kept b before one.shots round attackers one.keeps ∙ fought) in
    let same_volley : second_volley b before round ≡ after_volley (map (found b one.shots round planet) (alive b one.shots round planet)) (map (found b one.shots round attackers) (alive b one.shots round attackers)) (stream_at b one.shots) =
    ap (λ cs. after_volley cs (map (found b before round attackers) (alive b before round attackers)) (first_volley b before round).stream) one.targets
    ∙ ap (λ cs. after_volley (map (found b one.shots round planet) (alive b one.shots round planet)) cs (first_volley b before round).stream) (sym (own_kept b before one.shots round attackers one.keeps))
    ∙ ap (after_volley (map (found b one.shots round planet) (alive b one.shots round planet)) (map (found b one.shots round attackers) (alive b one.shots round attackers))) one.stream in
    record {
      shots = two.shots;
      reached = half_reached b two.shots (make round planet (length b.planet)) (make (round + 1) attackers 0) refl (omega arith) refl two.reached;
      kept = λ r p up. two.keeps.alive r p up ∙ one.keeps.alive r p up;
      attackers_are = ap (λ (v : Volley). v.targets) same_volley ∙ two.targets;
      planet_is = one.targets ∙ sym (own_kept b one.shots two.shots round planet two.keeps);
      stream = ap (λ (v : Volley). v.stream) same_volley ∙ two.stream;
    }

-- whether a round was fought is not changed by later shots
fought_as_before : (b : Battle) (before shots : List Shot) (r : ℕ) → ((p : Party) → alive b shots r p ≡ alive b before r p) → is_round_fought b shots r ≡ is_round_fought b before r
fought_as_before b before shots r kept = rw (kept attackers) (rw (kept planet) refl)

-- one round more
round_more : (b : Battle) (shots : List Shot) (round : ℕ) (field : Field) → AtRound b shots round field → both_stand field ≡ true → round ≤ 6 → (later : List Shot) × AtRound b later (round + 1) (after_round field)
round_more b shots round field at both most = (after.shots, next)
  where
    fought : is_round_fought b shots round ≡ true
    fought = round_fought b shots round field at both most

    after : AfterBoth b shots round (first_volley b shots round) (second_volley b shots round)
    after = both_volleys b shots round at.reached fought

    first : Volley
    first = after_volley field.attackers field.planet field.stream

    first_is : first ≡ first_volley b shots round
    first_is =
        ap (λ cs. after_volley cs field.planet field.stream) at.attackers_are
        ∙ ap (λ cs. after_volley (map (found b shots round attackers) (alive b shots round attackers)) cs field.stream) at.planet_is
        ∙ ap (after_volley (map (found b shots round attackers) (alive b shots round attackers)) (map (found b shots round planet) (alive b shots round planet))) at.stream_is

    second_is : after_volley first.targets field.attackers first.stream ≡ second_volley b shots round
    second_is =
        ap (λ (v : Volley). after_volley v.targets field.attackers v.stream) first_is
        ∙ ap (λ cs. after_volley (first_volley b shots round).targets cs (first_volley b shots round).stream) at.attackers_are

    was_fought : (r : ℕ) → 1 ≤ r → r < round + 1 → is_round_fought b after.shots r ≡ true
    was_fought r from below = fought_as_before b shots after.shots r (λ p. after.kept r p (omega (arith, below))) ∙ earlier r from below (cases_lt r round)
      where
        earlier : (r : ℕ) → 1 ≤ r → r < round + 1 → (r < round) ⊎ (round ≤ r) → is_round_fought b shots r ≡ true
        earlier r from below (inl less) = at.fought r from less
        earlier r from below (inr least) = let same : round ≡ r = omega (arith, below, least) in subst (λ q. is_round_fought b shots q ≡ true) same fought

    next : AtRound b after.shots (round + 1) (after_round field)
    next =
        record {
          reached = after.reached;
          attackers_are = ap standing (ap (λ (v : Volley). v.targets) second_is ∙ after.attackers_are) ∙ standing_is b after.shots round attackers (range_with_len 0 (length (units b attackers))) after.reached.past;
          planet_is = ap standing (ap (λ (v : Volley). v.targets) first_is ∙ after.planet_is) ∙ standing_is b after.shots round planet (range_with_len 0 (length (units b planet))) after.reached.past;
          stream_is = ap (λ (v : Volley). v.stream) second_is ∙ after.stream;
          rounds_are = ap (λ n. n + 1) at.rounds_are;
          fought = was_fought;
        }

-- what the course of a battle leads to is what its trace leads to
pub record Ends (b : Battle) (field : Field) : Type 0 where
  pub shots : List Shot
  pub trace : IsTrace b shots
  pub rounds_are : rounds b shots ≡ field.rounds
  pub attackers_left : left b shots attackers ≡ fighters_of field.attackers
  pub planet_left : left b shots planet ≡ fighters_of field.planet

-- a test that the first k numbers of a range pass, and no other
count_none : (p : ℕ → Bool) (from count : ℕ) → ((r : ℕ) → from ≤ r → p r ≡ false) → count_by p (range_with_len from count) ≡ 0
count_none p from zero none = refl
count_none p from (suc count) none =
    let rest = count_none p (from + 1) count (λ r least. none r (omega (arith, least))) in
    sum_by-cons (λ r. cond (p r) 1 0) from (range_with_len (from + 1) count) ∙ rw (none from (omega arith)) (omega (arith, rest))

count_front : (p : ℕ → Bool) (from k others : ℕ) → ((r : ℕ) → from ≤ r → r < from + k → p r ≡ true) → ((r : ℕ) → from + k ≤ r → p r ≡ false) → count_by p (range_with_len from (k + others)) ≡ k
count_front p from zero others all none = rw (zero_more others) (count_none p from others (λ r least. none r (omega (arith, least))))
  where
    zero_more : (n : ℕ) → 0 + n ≡ n
    zero_more n = omega arith
count_front p from (suc k) others all none =
    let rest = count_front p (from + 1) k others (λ r least most. all r (omega (arith, least)) (omega (arith, most))) (λ r least. none r (omega (arith, least))) in
    ap (λ n. count_by p (range_with_len from n)) (suc_more k others)
    ∙ sum_by-cons (λ r. cond (p r) 1 0) from (range_with_len (from + 1) (k + others))
    ∙ rw (all from (omega arith) (omega arith)) (omega (arith, rest))
  where
    suc_more : (m n : ℕ) → suc m + n ≡ suc (m + n)
    suc_more m n = omega arith

map_twice : {X Y Z : Type 0} (g : Y → Z) (f : X → Y) (xs : List X) → map g (map f xs) ≡ map (λ x. g (f x)) xs
map_twice g f [] = refl
map_twice g f (x ∷ xs) = ap (λ ys. g (f x) ∷ ys) (map_twice g f xs)

-- a battle that is over: the sixth round was fought, or one side has no units
battle_over : (b : Battle) (shots : List Shot) (round : ℕ) (field : Field) → AtRound b shots round field → round ≤ 7 → (both_stand field ≡ false) ⊎ (round ≡ 7) → Ends b field
battle_over b shots round field at most over =
    record {
      shots = shots;
      trace = record { legal = at.reached.legal; whole = λ t. whole t (cases_lt (half t) (half (make round attackers 0))) };
      rounds_are = counted;
      attackers_left = left_are attackers ∙ ap fighters_of (sym at.attackers_are);
      planet_left = left_are planet ∙ ap fighters_of (sym at.planet_is);
    }
  where
    no_more : (r : ℕ) → round ≤ r → is_round_fought b shots r ≡ false
    no_more r late = either over
      where
        count_is : (party : Party) (cs : List Combatant) → cs ≡ map (found b shots round party) (alive b shots round party) → length (alive b shots r party) ≡ length cs
        count_is party cs cs_are = ap length (alive_later b shots round r party late at.reached.past) ∙ sym (ap length cs_are ∙ length-map (alive b shots round party) (found b shots round party))

        either : (both_stand field ≡ false) ⊎ (round ≡ 7) → is_round_fought b shots r ≡ false
        either (inr seven) = and_left _ _ (and_left _ _ (and_right (nat_le 1 r) (nat_le r 6) (lt-leb r 6 (omega (arith, seven, late)))))
        either (inl none) = one (and_cases (nat_lt 0 (length field.attackers)) (nat_lt 0 (length field.planet)) none)
          where
            one : (nat_lt 0 (length field.attackers) ≡ false) ⊎ (nat_lt 0 (length field.planet) ≡ false) → is_round_fought b shots r ≡ false
            one (inl gone) = and_left _ _ (and_right (nat_le 1 r && nat_le r 6) _ (ap (nat_lt 0) (count_is attackers field.attackers at.attackers_are) ∙ gone))
            one (inr gone) = and_right _ _ (ap (nat_lt 0) (count_is planet field.planet at.planet_is) ∙ gone)

    whole : (t : Turn) → (half t < half (make round attackers 0)) ⊎ (half (make round attackers 0) ≤ half t) → is_open b shots t ≡ false
    whole t (inl earlier) = at.reached.closed t (rw (lt-ltb (half t) (half (make round attackers 0)) earlier) refl)
    whole t (inr later) = unfought_closed b shots t (no_more t.round (omega (arith, later, rank_most t.party)))

    counted : rounds b shots ≡ field.rounds
    counted =
        let some = at.rounds_are in
        let six : 6 ≡ field.rounds + (6 - field.rounds) = omega (arith, some, most) in
        ap (λ n. count_by (is_round_fought b shots) (range_with_len 1 n)) six
        ∙ count_front (is_round_fought b shots) 1 field.rounds (6 - field.rounds) (λ r from below. at.fought r from (omega (arith, below, some))) (λ r least. no_more r (omega (arith, least, some)))

    left_are : (party : Party) → left b shots party ≡ fighters_of (map (found b shots round party) (alive b shots round party))
    left_are party = ap (map (unit_at b party)) (alive_later b shots round 7 party most at.reached.past) ∙ sym (map_twice _ (found b shots round party) (alive b shots round party))

pub rounds_end : (most : ℕ) (b : Battle) (shots : List Shot) (round : ℕ) (field : Field) → AtRound b shots round field → most + round ≡ 7 → Ends b (after_rounds most field)
unfolding after_rounds
rounds_end zero b shots round field at all = battle_over b shots round field at (omega (arith, all)) (inr (omega (arith, all)))
rounds_end (suc most) b shots round field at all =
    either (both_stand field) refl (λ both. (let later = round_more b shots round field at both (omega (arith, all)) in rounds_end most b later.0 (round + 1) (after_round field) later.1 (omega (arith, all))))
  where
    either : (both : Bool) → both_stand field ≡ both → (both_stand field ≡ true → Ends b (after_rounds most (after_round field))) → Ends b (cond both (after_rounds most (after_round field)) field)
    either true both later = later both
    either false none later = battle_over b shots round field at (omega (arith, all)) (inl none)

-- before the first round all units stand unhurt
all_pass : {X : Type 0} (test : X → Bool) (xs : List X) → ((x : X) → test x ≡ true) → AllByRecursion (λ x. test x ≡ true) xs
all_pass test [] passes = tt
all_pass test (x ∷ xs) passes = (passes x, all_pass test xs passes)

range_later : {X : Type 0} (f : ℕ → X) (from count : ℕ) → map f (range_with_len (from + 1) count) ≡ map (λ i. f (i + 1)) (range_with_len from count)
range_later f from zero = refl
range_later f from (suc count) = ap (λ xs. f (from + 1) ∷ xs) (range_later f (from + 1) count)

pub map_places : {X : Type 0} (g : Fighter → X) (d : Fighter) (xs : List Fighter) → map (λ place. g (get_or xs place d)) (range_with_len 0 (length xs)) ≡ map g xs
map_places g d [] = refl
map_places g d (x ∷ xs) =
    ap (λ ys. g x ∷ ys)
    (range_later (λ place. g (get_or (x ∷ xs) place d)) 0 (length xs)
    ∙ map_same (λ i. g (get_or (x ∷ xs) (i + 1) d)) (λ i. g (get_or xs i d)) (range_with_len 0 (length xs)) (λ i. rw add-one refl)
    ∙ map_places g d xs)

unhurt_found : (b : Battle) (party : Party) (place : ℕ) → found b [] 1 party place ≡ unhurt (unit_at b party place)
unhurt_found b party place = rw (less_none (unit_at b party place).shield) (rw (less_none (unit_at b party place).hull) refl)

unhurt_are : (b : Battle) (party : Party) → map unhurt (units b party) ≡ map (found b [] 1 party) (alive b [] 1 party)
unhurt_are b party =
    sym (ap (map (found b [] 1 party)) (filter_whole (is_alive [] 1 party) (range_with_len 0 (length (units b party))) (all_pass (is_alive [] 1 party) (range_with_len 0 (length (units b party))) (λ place. refl)))
    ∙ map_same (found b [] 1 party) (λ place. unhurt (unit_at b party place)) (range_with_len 0 (length (units b party))) (unhurt_found b party)
    ∙ map_places unhurt nobody (units b party))

begins : (b : Battle) → AtRound b [] 1 (start_of b)
unfolding AreLegalAfter
begins b =
    record {
      reached = record { legal = tt; closed = λ u less. unfought_closed b [] u (not_yet u (in_earlier_half u (make 1 attackers 0) refl less)); past = tt };
      attackers_are = unhurt_are b attackers;
      planet_is = unhurt_are b planet;
      stream_is = sym (after_none b.stream);
      rounds_are = refl;
      fought = λ r from below. elim (no_round r from below) [ ];
    }
  where
    no_round : (r : ℕ) → 1 ≤ r → r < 1 → ⊥
    no_round r from below = omega (arith, from, below)

    not_yet : (u : Turn) → half u < half (make 1 attackers 0) → is_round_fought b [] u.round ≡ false
    not_yet u less = rw (lt-leb 1 u.round (omega (arith, less))) refl

pub course_ends : (b : Battle) → Ends b (course b)
course_ends b = rounds_end 6 b [] 1 (start_of b) (begins b) refl
