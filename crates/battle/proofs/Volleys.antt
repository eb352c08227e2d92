-- The shots of a salvo and the turns of a volley, one after the other.
use Rattle.std.proofs.Common.{◌≡◌, ℕ, suc, ◌+◌, ◌-◌, ◌<◌, ◌≤◌, Bool, true, false, cond, List, ◌∷◌, length, drop, get_or, refl, sym, ◌∙◌, arith}
use Rattle.std.proofs.lemmas.List.{at_drop_more, at_drop_all}
use Rattle.rand_pcg.specs.Lcg.{Lcg}
use Rattle.battle.specs.declared.combatant.Combatant.{Combatant}
use Rattle.battle.specs.declared.fighter.Fighter.{Fighter}
use Rattle.battle.specs.Course.{goes_on, after_salvo, after_shot, after_turn, after_volley}

-- a salvo of at least one shot goes on after it, or ends with it
salvo_next : (left count : ℕ) (f : Fighter) (targets : List Combatant) (stream : Lcg)
    → after_salvo (suc left) count f targets stream
    ≡ cond (goes_on count f targets stream) (after_salvo left (count + 1) f (after_shot count f targets stream).targets (after_shot count f targets stream).stream) (after_shot count f targets stream)
unfolding after_salvo
salvo_next left count f targets stream = refl

-- one shot of a salvo, after which the unit fires again
pub salvo_on : (count : ℕ) (f : Fighter) (targets : List Combatant) (stream : Lcg) (hit : List Combatant) (last : Lcg) (again : Bool)
    → count < 4097 → again ≡ true → again ≡ goes_on count f targets stream → hit ≡ (after_shot count f targets stream).targets → last ≡ (after_shot count f targets stream).stream
    → after_salvo (4097 - (count + 1)) (count + 1) f hit last ≡ after_salvo (4097 - count) count f targets stream
salvo_on count f targets stream hit last again more goes_on_now e t s =
    let left : 4097 - count ≡ suc (4097 - (count + 1)) = omega arith in
    let goes : goes_on count f targets stream ≡ true = sym e ∙ goes_on_now in
    rw (left, salvo_next, goes, t, s) refl

-- the shot of a salvo after which the unit does not fire again
pub salvo_end : (count : ℕ) (f : Fighter) (targets : List Combatant) (stream : Lcg) (hit : List Combatant) (last : Lcg) (again : Bool)
    → count < 4097 → again ≡ false → again ≡ goes_on count f targets stream → hit ≡ (after_shot count f targets stream).targets → last ≡ (after_shot count f targets stream).stream
    → record { targets = hit; stream = last } ≡ after_salvo (4097 - count) count f targets stream
salvo_end count f targets stream hit last again more no_more e t s =
    let left : 4097 - count ≡ suc (4097 - (count + 1)) = omega arith in
    let ends : goes_on count f targets stream ≡ false = sym e ∙ no_more in
    rw (left, salvo_next, ends, t, s) refl

-- no shots are left
pub salvo_none : (count : ℕ) (f : Fighter) (targets : List Combatant) (stream : Lcg)
    → 4097 ≤ count → after_salvo (4097 - count) count f targets stream ≡ record { targets = targets; stream = stream }
unfolding after_salvo
salvo_none count f targets stream all = let left : 4097 - count ≡ 0 = omega arith in rw left refl

-- no turns are left
pub volley_none : (place : ℕ) (shooters targets : List Combatant) (stream : Lcg)
    → length shooters ≤ place → after_volley (drop place shooters) targets stream ≡ record { targets = targets; stream = stream }
unfolding after_volley
volley_none place shooters targets stream all = at_drop_all (λ (cs : List Combatant). after_volley cs targets stream) shooters place all

volley_next : (c : Combatant) (cs targets : List Combatant) (stream : Lcg)
    → after_volley (c ∷ cs) targets stream ≡ after_volley cs (after_turn c.fighter targets stream).targets (after_turn c.fighter targets stream).stream
unfolding after_volley
volley_next c cs targets stream = refl

-- one turn of a volley
pub volley_on : (place : ℕ) (shooters targets : List Combatant) (stream : Lcg) (d : Combatant) (hit : List Combatant) (last : Lcg)
    → place < length shooters → hit ≡ (after_turn (get_or shooters place d).fighter targets stream).targets → last ≡ (after_turn (get_or shooters place d).fighter targets stream).stream
    → after_volley (drop (place + 1) shooters) hit last ≡ after_volley (drop place shooters) targets stream
volley_on place shooters targets stream d hit last within t s =
    rw (t, s) (sym (volley_next (get_or shooters place d) (drop (place + 1) shooters) targets stream) ∙ sym (at_drop_more (λ (cs : List Combatant). after_volley cs targets stream) shooters place d within))
