-- The shots of a unit's turn, and what they leave.
use Rattle.std.proofs.Common.{◌≡◌, ℕ, zero, suc, ◌+◌, ◌<◌, ◌≤◌, List, [], ◌∷◌, ◌++◌, length, map, Bool, true, false, cond, not, ◌&&◌, ◌||◌, ◌⊎◌, inl, inr, append_assoc, append-nil, ap, ◌∙◌, sym, subst, refl, arith}
use Rattle.std.specs.Prelude.{nat_lt, ◌==◌}
use Rattle.std.specs.List.{AllByRecursion}
use Rattle.std.proofs.lemmas.Bool.{and_parts, eq-eqb, eqb-true, ltb-true, or_cases}
use Rattle.battle.proofs.Added.{alive_kept, found_kept, is_alive_kept, not_at_own, sum_more}
use Rattle.battle.proofs.Opening.{open_after}
use Rattle.battle.proofs.LegalShots.{count_at, goes_on_is, legal_shot, shot_at, stream_at, stream_is, targets_are, targets_at}
use Rattle.battle.specs.Course.{Volley, after_salvo, after_shot}
use Rattle.battle.specs.Shots.{Shot, alive, found, is_alive, rank, unit_at}
use Rattle.battle.specs.Sides.{Battle, Party, attackers, planet, enemy, units}
use Rattle.battle.specs.Trace.{AreLegalAfter, IsLegalAfter}
use Rattle.battle.specs.Turns.{Turn, half, has_fired, is_before, is_round_fought, is_open, is_same, turn_of}

-- a legal trace with one legal shot more
pub legal_more : (b : Battle) (before shots : List Shot) (s : Shot) → AreLegalAfter b before shots → IsLegalAfter b (before ++ shots) s → AreLegalAfter b before (shots ++ s ∷ [])
unfolding AreLegalAfter
legal_more b before [] s legal more = (subst (λ ts. IsLegalAfter b ts s) (append-nil before) more, tt)
legal_more b before (t ∷ shots) s (first, legal) more =
    (first, legal_more b (before ++ t ∷ []) shots s legal (subst (λ ts. IsLegalAfter b ts s) (sym (append_assoc before (t ∷ []) shots)) more))

-- shots that were fired up to a turn: they are legal, no turn before it is open, and none of them comes after it
pub record Fired (b : Battle) (shots : List Shot) (t : Turn) : Type 0 where
  pub legal : AreLegalAfter b [] shots
  pub closed : (u : Turn) → is_before u t ≡ true → is_open b shots u ≡ false
  pub past : AllByRecursion (λ s. (is_before (turn_of s) t || is_same (turn_of s) t) ≡ true) shots

-- what shots at one side leave as it was, up to a round
pub record Keeps (b : Battle) (before shots : List Shot) (round : ℕ) (party : Party) : Type 0 where
  pub alive : (r : ℕ) (p : Party) → r ≤ round → alive b shots r p ≡ alive b before r p
  pub each : (r : ℕ) (p : Party) (place : ℕ) → r ≤ round → is_alive shots r p place ≡ is_alive before r p place
  pub own : (r place : ℕ) → found b shots r party place ≡ found b before r party place

pub keeps_first : (b : Battle) (shots : List Shot) (round : ℕ) (party : Party) → Keeps b shots shots round party
keeps_first b shots round party = record { alive = λ r p up. refl; each = λ r p place up. refl; own = λ r place. refl }

pub keeps_then : (b : Battle) (first second third : List Shot) (round : ℕ) (party : Party) → Keeps b first second round party → Keeps b second third round party → Keeps b first third round party
keeps_then b first second third round party one two =
    record { alive = λ r p up. two.alive r p up ∙ one.alive r p up; each = λ r p place up. two.each r p place up ∙ one.each r p place up; own = λ r place. two.own r place ∙ one.own r place }

pub keeps_shot : (b : Battle) (shots : List Shot) (s : Shot) → Keeps b shots (shots ++ s ∷ []) s.round s.party
keeps_shot b shots s =
    record { alive = λ r p up. alive_kept b shots s r p up; each = λ r p place up. is_alive_kept shots s r p place up; own = λ r place. found_kept b shots s r s.party place (not_at_own s place) }

pub all_more : {X : Type 0} (P : X → Type 0) (xs : List X) (x : X) → AllByRecursion P xs → P x → AllByRecursion P (xs ++ x ∷ [])
all_more P [] x all one = (one, tt)
all_more P (y ∷ xs) x (first, all) one = (first, all_more P xs x all one)

pub rank_most : (party : Party) → rank party ≤ 1
rank_most attackers = omega arith
rank_most planet = omega arith

-- a turn that is before another is in no later round
pub before_half : (u t : Turn) → is_before u t ≡ true → half u ≤ half t
before_half u t less = either (or_cases (nat_lt (half u) (half t)) (half u == half t && nat_lt u.place t.place) less)
  where
    either : (nat_lt (half u) (half t) ≡ true) ⊎ ((half u == half t && nat_lt u.place t.place) ≡ true) → half u ≤ half t
    either (inl earlier) = let fact = ltb-true (half u) (half t) earlier in omega (arith, fact)
    either (inr beside) = let fact = eqb-true (half u) (half t) (and_parts (half u == half t) (nat_lt u.place t.place) beside).0 in omega (arith, fact)

pub half_round : (u t : Turn) → half u ≤ half t → u.round ≤ t.round
half_round u t most = omega (arith, most, rank_most t.party)

pub before_round : (u t : Turn) → is_before u t ≡ true → u.round ≤ t.round
before_round u t less = half_round u t (before_half u t less)

or_true : (c : Bool) → (c || true) ≡ true
or_true true = refl
or_true false = refl

not_twice : (c : Bool) → not (not c) ≡ c
not_twice true = refl
not_twice false = refl

same_itself : (t : Turn) → is_same t t ≡ true
same_itself t = rw (eq-eqb (half t) (half t) refl) (eq-eqb t.place t.place refl)

-- one legal shot more
pub fired_more : (b : Battle) (shots : List Shot) (t : Turn) → Fired b shots t → is_open b shots t ≡ true → Fired b (shots ++ shot_at b shots t ∷ []) t
unfolding shot_at
fired_more b shots t fired open_now =
    record {
      legal = legal_more b [] shots (shot_at b shots t) fired.legal (legal_shot b shots t (record { open_now = open_now; first = fired.closed }));
      closed = λ u less. open_after b shots (shot_at b shots t) u (before_round u t less) ∙ rw (fired.closed u less) refl;
      past = all_more _ shots (shot_at b shots t) fired.past (rw (same_itself t) (or_true (is_before t t)));
    }

-- the turn is open as long as its shots let it
pub open_as_long : (b : Battle) (shots : List Shot) (t : Turn) → is_open b shots t ≡ true → is_open b (shots ++ shot_at b shots t ∷ []) t ≡ (shot_at b shots t).again
unfolding shot_at
open_as_long b shots t open_now = open_after b shots (shot_at b shots t) t (omega arith) ∙ rw open_now (rw (same_itself t) (not_twice (shot_at b shots t).again))

-- what a unit's turn leaves: its shots were added, and its turn is over
pub record AfterTurn (b : Battle) (before : List Shot) (t : Turn) (after_volley : Volley) : Type 0 where
  pub shots : List Shot
  pub fired : Fired b shots t
  pub over : is_open b shots t ≡ false
  pub keeps : Keeps b before shots t.round t.party
  pub targets : after_volley.targets ≡ targets_at b shots t
  pub stream : after_volley.stream ≡ stream_at b shots

-- all that makes a turn open
pub record Opens (b : Battle) (shots : List Shot) (t : Turn) : Type 0 where
  pub fought : is_round_fought b shots t.round ≡ true
  pub within : nat_lt t.place (length (units b t.party)) ≡ true
  pub alive : is_alive shots t.round t.party t.place ≡ true
  pub armed : nat_lt 0 (unit_at b t.party t.place).attack ≡ true
  pub ready : not (has_fired shots t) ≡ true

pub opens : (b : Battle) (shots : List Shot) (t : Turn) → is_open b shots t ≡ true → Opens b shots t
opens b shots t open_now =
    let four = and_parts _ (not (has_fired shots t)) open_now in
    let three = and_parts _ (nat_lt 0 (unit_at b t.party t.place).attack) four.0 in
    let two = and_parts _ (is_alive shots t.round t.party t.place) three.0 in
    let one = and_parts _ (nat_lt t.place (length (units b t.party))) two.0 in
    record { fought = one.0; within = one.1; alive = two.1; armed = three.1; ready = four.1 }

-- a round that is fought has units on both sides
pub both_alive : (b : Battle) (shots : List Shot) (round : ℕ) (party : Party) → is_round_fought b shots round ≡ true → 0 < length (alive b shots round party)
both_alive b shots round party fought = side party
  where
    second : (nat_lt 0 (length (alive b shots round planet)) ≡ true)
    second = (and_parts _ (nat_lt 0 (length (alive b shots round planet))) fought).1

    first : (nat_lt 0 (length (alive b shots round attackers)) ≡ true)
    first = (and_parts _ (nat_lt 0 (length (alive b shots round attackers))) (and_parts _ (nat_lt 0 (length (alive b shots round planet))) fought).0).1

    side : (party : Party) → 0 < length (alive b shots round party)
    side attackers = ltb-true 0 (length (alive b shots round attackers)) first
    side planet = ltb-true 0 (length (alive b shots round planet)) second

-- a unit that is to fire has enemies
some_enemies : (b : Battle) (shots : List Shot) (t : Turn) → is_open b shots t ≡ true → 0 < length (alive b shots t.round (enemy t.party))
some_enemies b shots t open_now = both_alive b shots t.round (enemy t.party) (opens b shots t open_now).fought

one_if_same : (t : Turn) → cond {A = ℕ} (is_same t t) 1 0 ≡ 1
one_if_same t = rw (same_itself t) refl

-- the shots are counted
count_more : (b : Battle) (before : List Shot) (t : Turn) → count_at (before ++ shot_at b before t ∷ []) t ≡ count_at before t + 1
unfolding shot_at
count_more b before t =
    let more = sum_more (λ s. cond (is_same (turn_of s) t) 1 0) before (shot_at b before t) in
    omega (arith, more, one_if_same t)

-- the targets after the shot, as the next shot finds them
targets_next : (b : Battle) (before : List Shot) (t : Turn) → is_open b before t ≡ true
    → (after_shot (count_at before t) (unit_at b t.party t.place) (targets_at b before t) (stream_at b before)).targets ≡ targets_at b (before ++ shot_at b before t ∷ []) t
unfolding shot_at
targets_next b before t open_now =
    targets_are b before t (some_enemies b before t open_now)
    ∙ ap (map (found b (before ++ shot_at b before t ∷ []) t.round (enemy t.party))) (sym (alive_kept b before (shot_at b before t) t.round (enemy t.party) (omega arith)))

-- a 4096th shot is the last
not_last : (b : Battle) (before : List Shot) (t : Turn) → (shot_at b before t).again ≡ true → count_at before t < 4096
unfolding shot_at
not_last b before t again = ltb-true (count_at before t) 4096 (and_parts _ (nat_lt (count_at before t) 4096) (and_parts _ _ again).0).1

shot_keeps : (b : Battle) (before : List Shot) (t : Turn) → Keeps b before (before ++ shot_at b before t ∷ []) t.round t.party
unfolding shot_at
shot_keeps b before t = keeps_shot b before (shot_at b before t)

-- one shot, and the others if there are
salvo_step : (most : ℕ) (b : Battle) (before : List Shot) (t : Turn) → is_open b before t ≡ true
    → after_salvo (suc most) (count_at before t) (unit_at b t.party t.place) (targets_at b before t) (stream_at b before)
    ≡ cond (shot_at b before t).again
    (after_salvo most (count_at before t + 1) (unit_at b t.party t.place) (targets_at b (before ++ shot_at b before t ∷ []) t) (stream_at b (before ++ shot_at b before t ∷ [])))
    (record { targets = targets_at b (before ++ shot_at b before t ∷ []) t; stream = stream_at b (before ++ shot_at b before t ∷ []) })
unfolding after_salvo
salvo_step most b before t open_now =
    let some = some_enemies b before t open_now in
    rw (goes_on_is b before t some) (rw (targets_next b before t open_now) (rw (stream_is b before t some) refl))

pub salvo_fires : (most : ℕ) (b : Battle) (before : List Shot) (t : Turn) → Fired b before t → is_open b before t ≡ true → most + count_at before t ≡ 4097 → count_at before t ≤ 4096
    → AfterTurn b before t (after_salvo most (count_at before t) (unit_at b t.party t.place) (targets_at b before t) (stream_at b before))
salvo_fires zero b before t fired open_now all within = elim (too_many (count_at before t) all within) [ ]
  where
    too_many : (n : ℕ) → 0 + n ≡ 4097 → n ≤ 4096 → ⊥
    too_many n all within = omega (arith, all, within)
salvo_fires (suc most) b before t fired open_now all within =
    subst (AfterTurn b before t) (sym (salvo_step most b before t open_now)) (either (shot_at b before t).again refl
    (λ again. subst (λ n. AfterTurn b next t (after_salvo most n (unit_at b t.party t.place) (targets_at b next t) (stream_at b next))) (count_more b before t)
    (salvo_fires most b next t next_fired (open_as_long b before t open_now ∙ again) (omega (arith, all, count_more b before t)) (let fact = not_last b before t again in omega (arith, fact, count_more b before t)))))
  where
    next : List Shot
    next = before ++ shot_at b before t ∷ []

    next_fired : Fired b next t
    next_fired = fired_more b before t fired open_now

    either : (again : Bool) → (shot_at b before t).again ≡ again → ((shot_at b before t).again ≡ true → AfterTurn b next t (after_salvo most (count_at before t + 1) (unit_at b t.party t.place) (targets_at b next t) (stream_at b next)))
        → AfterTurn b before t (cond again
        (after_salvo most (count_at before t + 1) (unit_at b t.party t.place) (targets_at b next t) (stream_at b next))
        (record { targets = targets_at b next t; stream = stream_at b next }))
    either true again later =
        let rest = later again in
        record { shots = rest.shots; fired = rest.fired; over = rest.over; keeps = keeps_then b before next rest.shots t.round t.party (shot_keeps b before t) rest.keeps; targets = rest.targets; stream = rest.stream }
    either false again later =
        record { shots = next; fired = next_fired; over = open_as_long b before t open_now ∙ again; keeps = shot_keeps b before t; targets = refl; stream = refl }
