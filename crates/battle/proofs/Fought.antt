-- The course of a battle leads to what its trace leads to.
use Rattle.std.proofs.Common.{◌≡◌, ℕ, List, length, map, nat_lt, ap, ◌∙◌, subst, sym}
use Rattle.std.proofs.lemmas.List.{length-map}
use Rattle.rand_pcg.specs.Lcg.{Lcg}
use Rattle.draws.specs.Draws.{stream_start}
use Rattle.battle.proofs.AllRounds.{Ends, course_ends}
use Rattle.battle.proofs.RoundByRound.{field_of}
use Rattle.battle.specs.Course.{Field, after_rounds, course, course_outcome, fighters_of, unhurt}
use Rattle.battle.specs.Outcomes.{IsFought, left, outcome, survivors, verdict_of}
use Rattle.battle.specs.Sides.{Battle, attackers, planet, battle_of, fighters}
use Rattle.battle.specs.declared.combatant.Combatant.{Combatant}
use Rattle.battle.specs.declared.fighter.Fighter.{Fighter}
use Rattle.battle.specs.declared.outcome.Outcome.{Outcome}
use Rattle.battle.specs.declared.outcome.Verdict.{Verdict}
use Rattle.battle.specs.declared.part.Part.{Part}

-- as many combatants stand as units are left
as_many : (cs : List Combatant) (fs : List Fighter) → fs ≡ fighters_of cs → nat_lt 0 (length cs) ≡ nat_lt 0 (length fs)
as_many cs fs same = ap (nat_lt 0) (sym (ap length same ∙ length-map cs (λ (c : Combatant). c.fighter)))

abbrev outcome_of : Verdict → ℕ → Outcome
outcome_of verdict rounds = record { verdict = verdict; rounds = rounds }

pub same_outcome : (b : Battle) (field : Field) (ends : Ends b field) → course_outcome field ≡ outcome b ends.shots
same_outcome b field ends =
    ap (λ one. outcome_of (verdict_of one (nat_lt 0 (length field.planet))) field.rounds) (as_many field.attackers (left b ends.shots attackers) ends.attackers_left)
    ∙ ap (λ two. outcome_of (verdict_of (nat_lt 0 (length (left b ends.shots attackers))) two) field.rounds) (as_many field.planet (left b ends.shots planet) ends.planet_left)
    ∙ ap (outcome_of (verdict_of (nat_lt 0 (length (left b ends.shots attackers))) (nat_lt 0 (length (left b ends.shots planet))))) (sym ends.rounds_are)

-- a battle ends as its course ends
pub fought : (attacking defending : List Part) (seed number : ℕ)
    → IsFought attacking defending seed number
    (course_outcome (course (battle_of attacking defending seed number)))
    (survivors (fighters_of (course (battle_of attacking defending seed number)).attackers) attacking)
    (survivors (fighters_of (course (battle_of attacking defending seed number)).planet) defending)
fought attacking defending seed number = ended_so (course_ends (battle_of attacking defending seed number))
  where
    ended_so : (ends : Ends (battle_of attacking defending seed number) (course (battle_of attacking defending seed number)))
        → IsFought attacking defending seed number
        (course_outcome (course (battle_of attacking defending seed number)))
        (survivors (fighters_of (course (battle_of attacking defending seed number)).attackers) attacking)
        (survivors (fighters_of (course (battle_of attacking defending seed number)).planet) defending)
    ended_so ends =
        record {
          shots = ends.shots;
          trace = ends.trace;
          is_outcome = same_outcome (battle_of attacking defending seed number) (course (battle_of attacking defending seed number)) ends;
          attackers_left = ap (λ fs. survivors fs attacking) (sym ends.attackers_left);
          planet_left = ap (λ fs. survivors fs defending) (sym ends.planet_left);
        }

-- how a battle ends whose course ends with this field
by_field : (attacking defending : List Part) (seed number : ℕ) (field : Field) → field ≡ course (battle_of attacking defending seed number)
    → IsFought attacking defending seed number (course_outcome field) (survivors (fighters_of field.attackers) attacking) (survivors (fighters_of field.planet) defending)
by_field attacking defending seed number field e =
    let P : Field → Type 0 =
    λ f. IsFought attacking defending seed number (course_outcome f) (survivors (fighters_of f.attackers) attacking) (survivors (fighters_of f.planet) defending) in
    subst P (sym e) (fought attacking defending seed number)

-- the same, from what the steps give: the units and the stream before and after all rounds
pub fought_by_rounds : (attacking defending left_attacking left_defending : List Part) (seed number rounds : ℕ) (all_attackers all_planet living_attackers living_planet : List Combatant) (stream last : Lcg) (verdict : Verdict)
    → all_attackers ≡ map unhurt (fighters attacking) → all_planet ≡ map unhurt (fighters defending) → stream ≡ stream_start seed number
    → field_of living_attackers living_planet last rounds ≡ after_rounds 6 (field_of all_attackers all_planet stream 0)
    → verdict ≡ verdict_of (nat_lt 0 (length living_attackers)) (nat_lt 0 (length living_planet))
    → left_attacking ≡ survivors (fighters_of living_attackers) attacking → left_defending ≡ survivors (fighters_of living_planet) defending
    → IsFought attacking defending seed number (record { verdict = verdict; rounds = rounds }) left_attacking left_defending
fought_by_rounds attacking defending left_attacking left_defending seed number rounds all_attackers all_planet living_attackers living_planet stream last verdict a p s course_is v la lp =
    let start : field_of all_attackers all_planet stream 0 ≡ field_of (map unhurt (fighters attacking)) (map unhurt (fighters defending)) (stream_start seed number) 0 =
    ap (λ (cs : List Combatant). field_of cs all_planet stream 0) a
    ∙ ap (λ (cs : List Combatant). field_of (map unhurt (fighters attacking)) cs stream 0) p
    ∙ ap (λ (at : Lcg). field_of (map unhurt (fighters attacking)) (map unhurt (fighters defending)) at 0) s in
    let whole = by_field attacking defending seed number (field_of living_attackers living_planet last rounds) (course_is ∙ ap (λ (f : Field). after_rounds 6 f) start) in
    rw (v, la, lp) whole
