-- A battle has one trace and no other.
use Rattle.std.proofs.Common.{◌≡◌, ℕ, ◌+◌, List, [], ◌∷◌, ◌++◌, map, Bool, false, append_assoc, append-nil, ap, ◌∙◌, sym, subst, refl}
use Rattle.std.specs.List.{range_with_len}
use Rattle.std.proofs.lemmas.Bool.{both_ways}
use Rattle.battle.proofs.Opening.{next_once}
use Rattle.battle.proofs.LegalShots.{aimed_at, count_at, shot_at, target_place}
use Rattle.battle.proofs.AllRounds.{course_ends}
use Rattle.battle.specs.Rules.{destroys, fires_again, hull_loss, is_rapid, is_weak, shield_loss}
use Rattle.battle.specs.Shots.{Shot, found, unit_at}
use Rattle.battle.specs.Sides.{Battle, enemy}
use Rattle.battle.specs.Trace.{AreLegalAfter, IsLegalAfter, IsTrace, is_rapid_shot, next_word, one_if, target_of}
use Rattle.battle.specs.Turns.{Turn, is_open, turn_of}
use Rattle.battle.specs.declared.combatant.Combatant.{Combatant}

abbrev row : Turn → ℕ → ℕ → List ℕ → ℕ → ℕ → Bool → Bool → Shot
row t count target words shield hull destroyed again =
    record { round = t.round; party = t.party; shooter = t.place; count = count; target = target; words = words; shield = shield; hull = hull; destroyed = destroyed; again = again }

-- all of a legal shot follows from its turn and the shots before it
legal_is : (b : Battle) (before : List Shot) (s : Shot) → IsLegalAfter b before s → s ≡ shot_at b before (turn_of s)
unfolding shot_at
legal_is b before s legal =
    ap (λ n. row t n s.target s.words s.shield s.hull s.destroyed s.again) legal.count
    ∙ ap (λ n. row t (count_at before t) n s.words s.shield s.hull s.destroyed s.again) legal.target
    ∙ ap (λ ws. row t (count_at before t) (target_place b before t) ws s.shield s.hull s.destroyed s.again) words
    ∙ ap (λ n. row t (count_at before t) (target_place b before t) right.words n s.hull s.destroyed s.again) (legal.shield ∙ ap (shield_loss attack) aim)
    ∙ ap (λ n. row t (count_at before t) (target_place b before t) right.words right.shield n s.destroyed s.again) (legal.hull ∙ ap (hull_loss attack) aim)
    ∙ ap (λ d. row t (count_at before t) (target_place b before t) right.words right.shield right.hull d s.again) (legal.destroyed ∙ ap (destroys attack (next_word b before 1)) aim)
    ∙ ap (λ a. row t (count_at before t) (target_place b before t) right.words right.shield right.hull right.destroyed a) again
  where
    t : Turn
    t = turn_of s

    right : Shot
    right = shot_at b before t

    attack : ℕ
    attack = (unit_at b s.party s.shooter).attack

    aim : target_of b before s ≡ aimed_at b before t
    aim = ap (found b before s.round (enemy s.party)) legal.target

    words : s.words ≡ right.words
    words =
        legal.words
        ∙ ap (λ (n : ℕ). map (next_word b before) (range_with_len 0 n))
        (ap (λ (c : Combatant). 1 + one_if (is_weak attack c) + one_if (is_rapid_shot b s)) aim
        ∙ ap (λ (n : ℕ). 1 + one_if (is_weak attack (aimed_at b before t)) + one_if (is_rapid (unit_at b s.party s.shooter).kind (unit_at b (enemy s.party) s.target).kind n)) legal.count
        ∙ ap (λ (n : ℕ). 1 + one_if (is_weak attack (aimed_at b before t)) + one_if (is_rapid (unit_at b s.party s.shooter).kind (unit_at b (enemy s.party) n).kind (count_at before t))) legal.target)

    again : s.again ≡ right.again
    again =
        legal.again
        ∙ ap (λ (c : Combatant). fires_again (unit_at b s.party s.shooter).kind (unit_at b (enemy s.party) s.target).kind s.count (next_word b before (1 + one_if (is_weak attack c)))) aim
        ∙ ap (λ (n : ℕ). fires_again (unit_at b s.party s.shooter).kind (unit_at b (enemy s.party) s.target).kind n (next_word b before (1 + one_if (is_weak attack (aimed_at b before t))))) legal.count
        ∙ ap (λ (n : ℕ). fires_again (unit_at b s.party s.shooter).kind (unit_at b (enemy s.party) n).kind (count_at before t) (next_word b before (1 + one_if (is_weak attack (aimed_at b before t))))) legal.target

legal_once : (b : Battle) (before : List Shot) (s u : Shot) → IsLegalAfter b before s → IsLegalAfter b before u → s ≡ u
legal_once b before s u first second =
    legal_is b before s first ∙ ap (shot_at b before) (next_once b before (turn_of s) (turn_of u) first.turn second.turn) ∙ sym (legal_is b before u second)

-- two legal and whole ends of one beginning are one
same_end : (b : Battle) (before xs ys : List Shot) → AreLegalAfter b before xs → ((t : Turn) → is_open b (before ++ xs) t ≡ false) → AreLegalAfter b before ys → ((t : Turn) → is_open b (before ++ ys) t ≡ false) → xs ≡ ys
unfolding AreLegalAfter
same_end b before [] [] legal whole legal_too whole_too = refl
same_end b before [] (y ∷ ys) legal whole (first, later) whole_too =
    elim (both_ways (is_open b before (turn_of y)) (ap (λ ts. is_open b ts (turn_of y)) (sym (append-nil before)) ∙ whole (turn_of y)) first.turn.open_now) [ ]
same_end b before (x ∷ xs) [] (first, later) whole legal_too whole_too =
    elim (both_ways (is_open b before (turn_of x)) (ap (λ ts. is_open b ts (turn_of x)) (sym (append-nil before)) ∙ whole_too (turn_of x)) first.turn.open_now) [ ]
same_end b before (x ∷ xs) (y ∷ ys) (first, later) whole (first_too, later_too) whole_too =
    let same : y ≡ x = legal_once b before y x first_too first in
    ap (λ s. s ∷ xs) (sym same)
    ∙ ap (λ ss. y ∷ ss)
    (same_end b (before ++ x ∷ []) xs ys later
    (λ t. ap (λ ts. is_open b ts t) (append_assoc before (x ∷ []) xs) ∙ whole t)
    (subst (λ s. AreLegalAfter b (before ++ s ∷ []) ys) same later_too)
    (λ t. ap (λ ts. is_open b ts t) (append_assoc before (x ∷ []) ys) ∙ ap (λ s. is_open b (before ++ s ∷ ys) t) (sym same) ∙ whole_too t))

pub one_trace : (b : Battle) (xs ys : List Shot) → IsTrace b xs → IsTrace b ys → xs ≡ ys
one_trace b xs ys first second = same_end b [] xs ys first.legal first.whole second.legal second.whole

pub some_trace : (b : Battle) → (shots : List Shot) × IsTrace b shots
some_trace b = let ends = course_ends b in (ends.shots, ends.trace)

pub ruleset traces = (one_trace, some_trace)
