-- The shot that is legal at a turn, and that the course of the battle makes it.
use Rattle.std.proofs.Common.{◌≡◌, ℕ, ◌+◌, ◌<◌, List, [], ◌∷◌, ◌++◌, length, map, get_or, ap, ◌∙◌, sym, refl}
use Rattle.std.specs.List.{count_by, range_with_len, slice_set}
use Rattle.std.proofs.lemmas.List.{get_or-map, length-map}
use Rattle.std.proofs.lemmas.List.FromFn.{length-map-range_with_len}
use Rattle.rand_pcg.specs.Lcg.{Lcg}
use Rattle.draws.specs.Draws.{after, draw, word_at}
use Rattle.draws.proofs.Words.{draw_below, word_at_fits}
use Rattle.battle.proofs.Added.{at_target, drawn_more, found_kept, found_struck, not_at_other}
use Rattle.battle.proofs.Places.{map_set, rise_filter}
use Rattle.battle.proofs.Streams.{after_more, word_more}
use Rattle.battle.specs.Course.{goes_on, place_drawn, after_shot, struck, target_drawn, unhurt}
use Rattle.battle.specs.Rules.{destroys, fires_again, hull_loss, is_rapid, is_weak, shield_loss}
use Rattle.battle.specs.Shots.{Shot, alive, drawn, found, is_alive, nobody, unit_at}
use Rattle.battle.specs.Sides.{Battle, enemy, units}
use Rattle.battle.specs.Trace.{IsLegalAfter, next_word, one_if}
use Rattle.battle.specs.Turns.{Turn, IsNext, is_same, turn_of}
use Rattle.battle.specs.declared.combatant.Combatant.{Combatant}

-- the place of the target
abbrev pub target_place : Battle → List Shot → Turn → ℕ
target_place b before t =
    get_or (alive b before t.round (enemy t.party)) (draw (next_word b before 0) (length (alive b before t.round (enemy t.party)))) 0

abbrev pub aimed_at : Battle → List Shot → Turn → Combatant
aimed_at b before t = found b before t.round (enemy t.party) (target_place b before t)

abbrev pub count_at : List Shot → Turn → ℕ
count_at before t = 1 + count_by (λ s. is_same (turn_of s) t) before

-- the shot of a turn
unfoldable pub shot_at : Battle → List Shot → Turn → Shot
shot_at b before t =
    let shooter = unit_at b t.party t.place in
    let aim = aimed_at b before t in
    let rapid = is_rapid shooter.kind (unit_at b (enemy t.party) (target_place b before t)).kind (count_at before t) in
    record {
      round = t.round;
      party = t.party;
      shooter = t.place;
      count = count_at before t;
      target = target_place b before t;
      words = map (next_word b before) (range_with_len 0 (1 + one_if (is_weak shooter.attack aim) + one_if rapid));
      shield = shield_loss shooter.attack aim;
      hull = hull_loss shooter.attack aim;
      destroyed = destroys shooter.attack (next_word b before 1) aim;
      again = fires_again shooter.kind (unit_at b (enemy t.party) (target_place b before t)).kind (count_at before t) (next_word b before (1 + one_if (is_weak shooter.attack aim)));
    }

pub legal_shot : (b : Battle) (before : List Shot) (t : Turn) → IsNext b before t → IsLegalAfter b before (shot_at b before t)
unfolding shot_at
legal_shot b before t next =
    record { turn = next; count = refl; target = refl; shield = refl; hull = refl; destroyed = refl; again = refl; words = refl }

-- what the course of the battle finds: the targets, and the stream
abbrev pub targets_at : Battle → List Shot → Turn → List Combatant
targets_at b before t = map (found b before t.round (enemy t.party)) (alive b before t.round (enemy t.party))

abbrev pub stream_at : Battle → List Shot → Lcg
stream_at b before = after (drawn before) b.stream

place_is : (b : Battle) (before : List Shot) (t : Turn) → place_drawn (targets_at b before t) (stream_at b before) ≡ draw (next_word b before 0) (length (alive b before t.round (enemy t.party)))
place_is b before t =
    ap (draw (word_at (stream_at b before) 0)) (length-map (alive b before t.round (enemy t.party)) (found b before t.round (enemy t.party)))
    ∙ ap (λ word. draw word (length (alive b before t.round (enemy t.party)))) (word_more 0 (drawn before) b.stream)

place_within : (b : Battle) (before : List Shot) (t : Turn) → 0 < length (alive b before t.round (enemy t.party)) → draw (next_word b before 0) (length (alive b before t.round (enemy t.party))) < length (alive b before t.round (enemy t.party))
place_within b before t some = draw_below _ _ (word_at_fits b.stream (drawn before + 0)) some

target_is : (b : Battle) (before : List Shot) (t : Turn) → 0 < length (alive b before t.round (enemy t.party)) → target_drawn (targets_at b before t) (stream_at b before) ≡ aimed_at b before t
target_is b before t some =
    ap (λ place. get_or (targets_at b before t) place (unhurt nobody)) (place_is b before t)
    ∙ get_or-map (found b before t.round (enemy t.party)) (alive b before t.round (enemy t.party)) (draw (next_word b before 0) (length (alive b before t.round (enemy t.party)))) 0 (unhurt nobody) (place_within b before t some)

-- whether the shooter fires again
pub goes_on_is : (b : Battle) (before : List Shot) (t : Turn) → 0 < length (alive b before t.round (enemy t.party))
    → goes_on (count_at before t) (unit_at b t.party t.place) (targets_at b before t) (stream_at b before) ≡ (shot_at b before t).again
unfolding shot_at
goes_on_is b before t some =
    rw (target_is b before t some) (ap (fires_again (unit_at b t.party t.place).kind (aimed_at b before t).fighter.kind (count_at before t)) (word_more _ (drawn before) b.stream))

-- the place at which the stream stands
pub stream_is : (b : Battle) (before : List Shot) (t : Turn) → 0 < length (alive b before t.round (enemy t.party))
    → (after_shot (count_at before t) (unit_at b t.party t.place) (targets_at b before t) (stream_at b before)).stream ≡ stream_at b (before ++ shot_at b before t ∷ [])
unfolding shot_at
stream_is b before t some =
    rw (target_is b before t some)
    (after_more _ (drawn before) b.stream
    ∙ ap (λ k. after k b.stream) (sym (drawn_more before (shot_at b before t) ∙ ap (λ k. drawn before + k) (length-map-range_with_len (next_word b before) 0 _))))

-- what the target of the shot has become
target_after : (b : Battle) (before : List Shot) (t : Turn)
    → found b (before ++ shot_at b before t ∷ []) t.round (enemy t.party) (target_place b before t) ≡ struck (unit_at b t.party t.place).attack (next_word b before 1) (aimed_at b before t)
unfolding shot_at
target_after b before t = found_struck b before (shot_at b before t) (enemy t.party) (target_place b before t) (at_target (shot_at b before t))

-- what the targets have become
pub targets_are : (b : Battle) (before : List Shot) (t : Turn) → 0 < length (alive b before t.round (enemy t.party))
    → (after_shot (count_at before t) (unit_at b t.party t.place) (targets_at b before t) (stream_at b before)).targets
    ≡ map (found b (before ++ shot_at b before t ∷ []) t.round (enemy t.party)) (alive b before t.round (enemy t.party))
unfolding shot_at
targets_are b before t some =
    rw (target_is b before t some)
    (rw (place_is b before t)
    (rw (word_more 1 (drawn before) b.stream)
    (ap (slice_set (targets_at b before t) (draw (next_word b before 0) (length (alive b before t.round (enemy t.party))))) (sym (target_after b before t))
    ∙ sym (map_set (found b before t.round (enemy t.party)) (found b (before ++ shot_at b before t ∷ []) t.round (enemy t.party)) 0 _ 0 (alive b before t.round (enemy t.party)) (place_within b before t some) (rise_filter (is_alive before t.round (enemy t.party)) 0 (length (units b (enemy t.party))))
    (λ place differs. found_kept b before (shot_at b before t) t.round (enemy t.party) place (not_at_other (shot_at b before t) place differs))))))
