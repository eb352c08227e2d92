-- What one shot comes to, from what its steps give: the draw of the target, the strike, and the draw for a further shot.
use Rattle.std.proofs.Common.{◌≡◌, ℕ, ◌+◌, ◌<◌, Bool, List, length, get_or, ap, sym, ◌∙◌, add-zero}
use Rattle.std.specs.Prelude.{slice_set}
use Rattle.rand_pcg.specs.Lcg.{Lcg}
use Rattle.rand_pcg.specs.Pcg.{pcg32}
use Rattle.draws.specs.Draws.{after, draw, word_at}
use Rattle.battle.specs.declared.combatant.Combatant.{Combatant}
use Rattle.battle.specs.declared.fighter.Fighter.{Fighter}
use Rattle.battle.specs.Course.{goes_on, place_drawn, after_shot, struck, target_drawn, unhurt, weak_words}
use Rattle.battle.specs.Rules.{fires_again, is_rapid, is_weak}
use Rattle.battle.specs.Shots.{nobody}
use Rattle.battle.specs.Trace.{one_if}
use Rattle.battle.proofs.Streams.{after_more, after_one, first_word, word_more}

-- the steps of a shot: the target's place and what it was, the stream after one step and after two, what was hit, whether
-- the unit fires again, and the stream at the end
pub record AreSteps (count : ℕ) (f : Fighter) (targets : List Combatant) (stream : Lcg) (place : ℕ) (met : Combatant) (drawn fired last : Lcg) (hit : Combatant) (again : Bool) : Type 0 where
  pub within : place < length targets
  pub met_is : (d : Combatant) → get_or targets place d ≡ met
  pub place_is : place ≡ draw (pcg32 stream).0 (length targets)
  pub drawn_is : drawn ≡ (pcg32 stream).1
  pub hit_is : hit ≡ struck f.attack (word_at drawn 0) met
  pub fired_is : fired ≡ after (one_if (is_weak f.attack met)) drawn
  pub again_is : again ≡ fires_again f.kind met.fighter.kind count (word_at fired 0)
  pub last_is : last ≡ after (one_if (is_rapid f.kind met.fighter.kind count)) fired

place_same : (targets : List Combatant) (stream : Lcg) (place : ℕ) → place ≡ draw (pcg32 stream).0 (length targets) → place ≡ place_drawn targets stream
place_same targets stream place e = e ∙ ap (λ (w : ℕ). draw w (length targets)) (first_word stream)

target_same : (targets : List Combatant) (stream : Lcg) (place : ℕ) (met : Combatant)
    → ((d : Combatant) → get_or targets place d ≡ met) → place ≡ draw (pcg32 stream).0 (length targets) → met ≡ target_drawn targets stream
target_same targets stream place met read e =
    sym (read (unhurt nobody)) ∙ ap (λ (p : ℕ). get_or targets p (unhurt nobody)) (place_same targets stream place e)

drawn_same : (stream drawn : Lcg) → drawn ≡ (pcg32 stream).1 → drawn ≡ after 1 stream
drawn_same stream drawn e = e ∙ after_one stream

word_one : (stream drawn : Lcg) → drawn ≡ (pcg32 stream).1 → word_at drawn 0 ≡ word_at stream 1
word_one stream drawn e = ap (λ (at : Lcg). word_at at 0) (drawn_same stream drawn e) ∙ word_more 0 1 stream

fired_same : (stream drawn fired : Lcg) (k : ℕ) → drawn ≡ (pcg32 stream).1 → fired ≡ after k drawn → fired ≡ after (1 + k) stream
fired_same stream drawn fired k e h = h ∙ ap (λ (at : Lcg). after k at) (drawn_same stream drawn e) ∙ after_more k 1 stream

word_last : (stream fired : Lcg) (k : ℕ) → fired ≡ after k stream → word_at fired 0 ≡ word_at stream k
word_last stream fired k h =
    let e : word_at (after k stream) 0 ≡ word_at stream (k + 0) = word_more 0 k stream in
    ap (λ (at : Lcg). word_at at 0) h ∙ e ∙ ap (λ (n : ℕ). word_at stream n) (add-zero k)

-- the targets after the shot
pub shot_targets : (count : ℕ) (f : Fighter) (targets : List Combatant) (stream : Lcg) (place : ℕ) (met : Combatant) (drawn fired last : Lcg) (hit : Combatant) (again : Bool)
    → AreSteps count f targets stream place met drawn fired last hit again
    → slice_set targets place hit ≡ (after_shot count f targets stream).targets
shot_targets count f targets stream place met drawn fired last hit again s =
    ap (λ (h : Combatant). slice_set targets place h) s.hit_is
    ∙ ap (λ (w : ℕ). slice_set targets place (struck f.attack w met)) (word_one stream drawn s.drawn_is)
    ∙ ap (λ (t : Combatant). slice_set targets place (struck f.attack (word_at stream 1) t)) (target_same targets stream place met s.met_is s.place_is)
    ∙ ap (λ (p : ℕ). slice_set targets p (struck f.attack (word_at stream 1) (target_drawn targets stream))) (place_same targets stream place s.place_is)

-- whether the unit goes on
pub shot_again : (count : ℕ) (f : Fighter) (targets : List Combatant) (stream : Lcg) (place : ℕ) (met : Combatant) (drawn fired last : Lcg) (hit : Combatant) (again : Bool)
    → AreSteps count f targets stream place met drawn fired last hit again
    → again ≡ goes_on count f targets stream
shot_again count f targets stream place met drawn fired last hit again s =
    s.again_is
    ∙ ap (λ (w : ℕ). fires_again f.kind met.fighter.kind count w) (word_last stream fired (1 + weak_words f met) (fired_same stream drawn fired (weak_words f met) s.drawn_is s.fired_is))
    ∙ ap (λ (t : Combatant). fires_again f.kind t.fighter.kind count (word_at stream (1 + weak_words f t))) (target_same targets stream place met s.met_is s.place_is)

-- the stream after the shot
pub shot_stream : (count : ℕ) (f : Fighter) (targets : List Combatant) (stream : Lcg) (place : ℕ) (met : Combatant) (drawn fired last : Lcg) (hit : Combatant) (again : Bool)
    → AreSteps count f targets stream place met drawn fired last hit again
    → last ≡ (after_shot count f targets stream).stream
shot_stream count f targets stream place met drawn fired last hit again s =
    s.last_is
    ∙ ap (λ (at : Lcg). after (one_if (is_rapid f.kind met.fighter.kind count)) at) (fired_same stream drawn fired (weak_words f met) s.drawn_is s.fired_is)
    ∙ after_more (one_if (is_rapid f.kind met.fighter.kind count)) (1 + weak_words f met) stream
    ∙ ap (λ (t : Combatant). after (1 + weak_words f t + one_if (is_rapid f.kind t.fighter.kind count)) stream) (target_same targets stream place met s.met_is s.place_is)
