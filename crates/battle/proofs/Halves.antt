-- A half of a round: the turns of the units of one side.
use Rattle.std.proofs.Common.{◌≡◌, ℕ, zero, suc, ◌+◌, ◌<◌, List, [], ◌∷◌, length, map, Bool, true, false, cond, filter, not, ◌&&◌, ◌||◌, ◌⊎◌, inl, inr, ap, ◌∙◌, sym, subst, refl, arith}
use Rattle.std.specs.Prelude.{nat_lt, ◌==◌}
use Rattle.std.specs.List.{AllByRecursion, count_by, range_with_len}
use Rattle.std.proofs.lemmas.Bool.{and_left, and_parts, and_right, both_ways, cases_Bool, eqb-true, le-ltb, lt-ltb, or_cases}
use Rattle.std.proofs.lemmas.Bool.Decides.{nat_tests}
use Rattle.std.proofs.lemmas.List.Sums.{sum_by-cons}
use Rattle.battle.proofs.Opening.{make, same_turn}
use Rattle.battle.proofs.LegalShots.{count_at, stream_at, targets_at}
use Rattle.battle.proofs.Salvo.{AfterTurn, Fired, Keeps, keeps_then, salvo_fires}
use Rattle.battle.specs.Course.{Volley, after_salvo, after_turn, after_volley}
use Rattle.battle.specs.Shots.{Shot, alive, found, is_alive, unit_at}
use Rattle.battle.specs.Sides.{Battle, Party, attackers, planet, units}
use Rattle.battle.specs.Trace.{AreLegalAfter}
use Rattle.battle.specs.Turns.{Turn, half, has_fired, is_before, is_round_fought, is_open, is_same, turn_of}
use Rattle.battle.specs.declared.combatant.Combatant.{Combatant}

-- shots that were fired before a turn: they are legal, no turn before it is open, and all of them come before it
pub record Reached (b : Battle) (shots : List Shot) (t : Turn) : Type 0 where
  pub legal : AreLegalAfter b [] shots
  pub closed : (u : Turn) → is_before u t ≡ true → is_open b shots u ≡ false
  pub past : AllByRecursion (λ s. is_before (turn_of s) t ≡ true) shots

-- the turn of the next place
abbrev pub next_place : Turn → Turn
next_place t = make t.round t.party (t.place + 1)

spread : (l e a c : Bool) → (l || e && (a || c)) ≡ ((l || e && a) || e && c)
spread true e a c = refl
spread false true a c = refl
spread false false a c = refl

one_more : (m n : ℕ) → nat_lt m (n + 1) ≡ (nat_lt m n || m == n)
one_more m n = grind (arith, nat_tests)

pub before_next : (u t : Turn) → is_before u (next_place t) ≡ (is_before u t || is_same u t)
before_next u t =
    ap (λ c. nat_lt (half u) (half t) || half u == half t && c) (one_more u.place t.place)
    ∙ spread (nat_lt (half u) (half t)) (half u == half t) (nat_lt u.place t.place) (u.place == t.place)

-- no turn is before itself
pub not_before_itself : (t : Turn) → is_before t t ≡ false
not_before_itself t = rw (le-ltb (half t) (half t) (omega arith)) (rw (le-ltb t.place t.place (omega arith)) (and_right (half t == half t) false refl))

same_is : (u t : Turn) → is_same u t ≡ true → u ≡ t
same_is u t same =
    let parts = and_parts (half u == half t) (u.place == t.place) same in
    same_turn u t (eqb-true (half u) (half t) parts.0) (eqb-true u.place t.place parts.1)

-- a turn is over: the next place has been reached
pub all_turned : {X : Type 0} (P Q : X → Type 0) (xs : List X) → ((x : X) → P x → Q x) → AllByRecursion P xs → AllByRecursion Q xs
all_turned P Q [] from all = tt
all_turned P Q (x ∷ xs) from (first, all) = (from x first, all_turned P Q xs from all)

closed_next : (b : Battle) (shots : List Shot) (t : Turn) → ((u : Turn) → is_before u t ≡ true → is_open b shots u ≡ false) → is_open b shots t ≡ false
    → (u : Turn) → is_before u (next_place t) ≡ true → is_open b shots u ≡ false
closed_next b shots t closed over u less = either (or_cases (is_before u t) (is_same u t) (sym (before_next u t) ∙ less))
  where
    either : (is_before u t ≡ true) ⊎ (is_same u t ≡ true) → is_open b shots u ≡ false
    either (inl earlier) = closed u earlier
    either (inr same) = ap (is_open b shots) (same_is u t same) ∙ over

pub reached_after : (b : Battle) (shots : List Shot) (t : Turn) → Fired b shots t → is_open b shots t ≡ false → Reached b shots (next_place t)
reached_after b shots t fired over =
    record {
      legal = fired.legal;
      closed = closed_next b shots t fired.closed over;
      past = all_turned _ _ shots (λ s upto. before_next (turn_of s) t ∙ upto) fired.past;
    }

pub reached_over : (b : Battle) (shots : List Shot) (t : Turn) → Reached b shots t → is_open b shots t ≡ false → Reached b shots (next_place t)
reached_over b shots t reached over =
    record {
      legal = reached.legal;
      closed = closed_next b shots t reached.closed over;
      past = all_turned _ _ shots (λ s less. before_next (turn_of s) t ∙ rw less refl) reached.past;
    }

pub fired_none : (b : Battle) (shots : List Shot) (t : Turn) → Reached b shots t → Fired b shots t
fired_none b shots t reached =
    record { legal = reached.legal; closed = reached.closed; past = all_turned _ _ shots (λ s less. rw less refl) reached.past }

-- no shot of a turn was fired before it is reached
before_not_same : (u t : Turn) → is_before u t ≡ true → is_same u t ≡ false
before_not_same u t less = either (cases_Bool (is_same u t))
  where
    either : (is_same u t ≡ true) ⊎ (is_same u t ≡ false) → is_same u t ≡ false
    either (inr differs) = differs
    either (inl same) = elim (both_ways (is_before t t) (not_before_itself t) (subst (λ v. is_before v t ≡ true) (same_is u t same) less)) [ ]

pub none_counted : (t : Turn) (shots : List Shot) → AllByRecursion (λ s. is_before (turn_of s) t ≡ true) shots → count_by (λ s. is_same (turn_of s) t) shots ≡ 0
none_counted t [] past = refl
none_counted t (s ∷ shots) (less, past) =
    let rest = none_counted t shots past in
    sum_by-cons (λ u. cond (is_same (turn_of u) t) 1 0) s shots ∙ rw (before_not_same (turn_of s) t less) (omega (arith, rest))

pub none_fired : (t : Turn) (shots : List Shot) → AllByRecursion (λ s. is_before (turn_of s) t ≡ true) shots → has_fired shots t ≡ false
none_fired t [] past = refl
none_fired t (s ∷ shots) (less, past) = rw (before_not_same (turn_of s) t less) (none_fired t shots past)

-- what the turns of one side in a round leave
pub record AfterVolley (b : Battle) (before : List Shot) (last : Turn) (result : Volley) : Type 0 where
  pub shots : List Shot
  pub reached : Reached b shots last
  pub keeps : Keeps b before shots last.round last.party
  pub targets : result.targets ≡ targets_at b shots last
  pub stream : result.stream ≡ stream_at b shots

-- a unit that is not alive, or has no attack, has no turn
dead_closed : (b : Battle) (shots : List Shot) (t : Turn) → is_alive shots t.round t.party t.place ≡ false → is_open b shots t ≡ false
dead_closed b shots t dead =
    and_left _ (not (has_fired shots t)) (and_left _ (nat_lt 0 (unit_at b t.party t.place).attack) (and_right (is_round_fought b shots t.round && nat_lt t.place (length (units b t.party))) (is_alive shots t.round t.party t.place) dead))

unarmed_closed : (b : Battle) (shots : List Shot) (t : Turn) → nat_lt 0 (unit_at b t.party t.place).attack ≡ false → is_open b shots t ≡ false
unarmed_closed b shots t unarmed =
    and_left _ (not (has_fired shots t)) (and_right (is_round_fought b shots t.round && nat_lt t.place (length (units b t.party)) && is_alive shots t.round t.party t.place) _ unarmed)

-- a unit that is alive and armed is to fire when its turn is reached
armed_open : (b : Battle) (shots : List Shot) (t : Turn) → Reached b shots t → is_round_fought b shots t.round ≡ true → t.place < length (units b t.party) → is_alive shots t.round t.party t.place ≡ true
    → nat_lt 0 (unit_at b t.party t.place).attack ≡ true → is_open b shots t ≡ true
armed_open b shots t reached fought within alive armed =
    rw fought (rw (lt-ltb t.place (length (units b t.party)) within) (rw alive (rw armed (rw (none_fired t shots reached.past) refl))))

-- one turn
turn_taken : (b : Battle) (before shots : List Shot) (t : Turn) → Reached b shots t → Keeps b before shots t.round t.party → is_round_fought b shots t.round ≡ true → t.place < length (units b t.party)
    → is_alive shots t.round t.party t.place ≡ true → AfterVolley b before (next_place t) (after_turn (unit_at b t.party t.place) (targets_at b shots t) (stream_at b shots))
turn_taken b before shots t reached keeps fought within alive = either (nat_lt 0 (unit_at b t.party t.place).attack) refl
  where
    fires : is_open b shots t ≡ true → AfterVolley b before (next_place t) (after_salvo 4096 1 (unit_at b t.party t.place) (targets_at b shots t) (stream_at b shots))
    fires open_now =
        let first : count_at shots t ≡ 1 = ap (λ n. 1 + n) (none_counted t shots reached.past) in
        let after = subst (λ n. AfterTurn b shots t (after_salvo 4096 n (unit_at b t.party t.place) (targets_at b shots t) (stream_at b shots))) first
        (salvo_fires 4096 b shots t (fired_none b shots t reached) open_now (omega (arith, first)) (omega (arith, first))) in
        record {
          shots = after.shots;
          reached = reached_after b after.shots t after.fired after.over;
          keeps = keeps_then b before shots after.shots t.round t.party keeps after.keeps;
          targets = after.targets;
          stream = after.stream;
        }

    either : (armed : Bool) → nat_lt 0 (unit_at b t.party t.place).attack ≡ armed
        → AfterVolley b before (next_place t) (cond armed (after_salvo 4096 1 (unit_at b t.party t.place) (targets_at b shots t) (stream_at b shots)) (record { targets = targets_at b shots t; stream = stream_at b shots }))
    either true armed = fires (armed_open b shots t reached fought within alive armed)
    either false unarmed = record { shots = shots; reached = reached_over b shots t reached (unarmed_closed b shots t unarmed); keeps = keeps; targets = refl; stream = refl }

-- the places from this one on of the units that were alive at the round's start
abbrev pub shooters_from : Battle → List Shot → Turn → ℕ → List Combatant
shooters_from b before t count = map (found b before t.round t.party) (filter (is_alive before t.round t.party) (range_with_len t.place count))

-- whether a round is fought stays as it was at its start
pub fought_kept : (b : Battle) (before shots : List Shot) (round : ℕ) (party : Party) → Keeps b before shots round party → is_round_fought b shots round ≡ is_round_fought b before round
fought_kept b before shots round party keeps =
    rw (keeps.alive round attackers (omega arith)) (rw (keeps.alive round planet (omega arith)) refl)

pub volley_fires : (count : ℕ) (b : Battle) (before shots : List Shot) (t last : Turn) → last ≡ make t.round t.party (t.place + count) → last.place ≡ length (units b t.party)
    → Reached b shots t → Keeps b before shots t.round t.party → is_round_fought b before t.round ≡ true
    → AfterVolley b before last (after_volley (shooters_from b before t count) (targets_at b shots t) (stream_at b shots))
unfolding after_volley
volley_fires zero b before shots t last is_last all reached keeps fought =
    subst (λ l. AfterVolley b before l (record { targets = targets_at b shots t; stream = stream_at b shots })) (ap (make t.round t.party) (omega arith) ∙ sym is_last)
    (record { shots = shots; reached = reached; keeps = keeps; targets = refl; stream = refl })
volley_fires (suc count) b before shots t last is_last all reached keeps fought =
    either (is_alive before t.round t.party t.place) refl
    (λ later up kept. volley_fires count b before later (next_place t) last next_last all up kept fought)
  where
    next_last : last ≡ make t.round t.party (t.place + 1 + count)
    next_last = is_last ∙ ap (make t.round t.party) (omega arith)

    within : t.place < length (units b t.party)
    within = let same : last.place ≡ t.place + suc count = ap (λ (l : Turn). l.place) is_last in omega (arith, same, all)

    fought_now : is_round_fought b shots t.round ≡ true
    fought_now = fought_kept b before shots t.round t.party keeps ∙ fought

    either : (alive : Bool) → is_alive before t.round t.party t.place ≡ alive
        → ((later : List Shot) → Reached b later (next_place t) → Keeps b before later t.round t.party → AfterVolley b before last (after_volley (shooters_from b before (next_place t) count) (targets_at b later t) (stream_at b later)))
        → AfterVolley b before last
        (after_volley
        (map (found b before t.round t.party) (cond alive (t.place ∷ filter (is_alive before t.round t.party) (range_with_len (t.place + 1) count)) (filter (is_alive before t.round t.party) (range_with_len (t.place + 1) count))))
        (targets_at b shots t)
        (stream_at b shots))
    either false dead rest = rest shots (reached_over b shots t reached (dead_closed b shots t (keeps.each t.round t.party t.place (omega arith) ∙ dead))) keeps
    either true living rest =
        let one = turn_taken b before shots t reached keeps fought_now within (keeps.each t.round t.party t.place (omega arith) ∙ living) in
        let others = shooters_from b before (next_place t) count in
        let next = after_turn (unit_at b t.party t.place) (targets_at b shots t) (stream_at b shots) in
        subst (λ targets. AfterVolley b before last (after_volley others targets next.stream)) (sym one.targets)
        (subst (λ stream. AfterVolley b before last (after_volley others (targets_at b one.shots t) stream)) (sym one.stream) (rest one.shots one.reached one.keeps))
