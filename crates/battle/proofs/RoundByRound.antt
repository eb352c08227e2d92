-- The rounds of a battle, one after the other.
use Rattle.std.proofs.Common.{◌≡◌, ℕ, suc, ◌+◌, ◌-◌, ◌<◌, ◌≤◌, true, false, cond, List, refl, arith}
use Rattle.rand_pcg.specs.Lcg.{Lcg}
use Rattle.battle.specs.declared.combatant.Combatant.{Combatant}
use Rattle.battle.specs.Course.{Field, both_stand, after_round, after_rounds, after_volley, standing}

-- both sides, the stream and how many rounds were fought
abbrev pub field_of : List Combatant → List Combatant → Lcg → ℕ → Field
field_of attackers planet stream rounds = record { attackers = attackers; planet = planet; stream = stream; rounds = rounds }

round_next : (left : ℕ) (field : Field) → after_rounds (suc left) field ≡ cond (both_stand field) (after_rounds left (after_round field)) field
unfolding after_rounds
round_next left field = refl

-- one round more
pub rounds_on : (round : ℕ) (field next : Field) → round < 6 → both_stand field ≡ true → next ≡ after_round field
    → after_rounds (6 - (round + 1)) next ≡ after_rounds (6 - round) field
rounds_on round field next within stand e =
    let left : 6 - round ≡ suc (6 - (round + 1)) = omega arith in
    rw (left, round_next, stand, e) refl

-- a side has no units
pub rounds_over : (round : ℕ) (field : Field) → round < 6 → both_stand field ≡ false → field ≡ after_rounds (6 - round) field
rounds_over round field within stand =
    let left : 6 - round ≡ suc (6 - (round + 1)) = omega arith in
    rw (left, round_next, stand) refl

-- six rounds were fought
pub rounds_none : (round : ℕ) (field : Field) → 6 ≤ round → field ≡ after_rounds (6 - round) field
unfolding after_rounds
rounds_none round field all = let left : 6 - round ≡ 0 = omega arith in rw left refl

-- one round, by its steps: a side fires, then the other, and then the units that stand go on
pub round_steps : (attackers planet hit_attackers hit_planet next_attackers next_planet : List Combatant) (stream between last : Lcg) (round : ℕ)
    → hit_planet ≡ (after_volley attackers planet stream).targets → between ≡ (after_volley attackers planet stream).stream
    → hit_attackers ≡ (after_volley hit_planet attackers between).targets → last ≡ (after_volley hit_planet attackers between).stream
    → next_attackers ≡ standing hit_attackers → next_planet ≡ standing hit_planet
    → field_of next_attackers next_planet last (round + 1) ≡ after_round (field_of attackers planet stream round)
round_steps attackers planet hit_attackers hit_planet next_attackers next_planet stream between last round p s a l na np =
    rw (na, np, a, l, p, s) refl
