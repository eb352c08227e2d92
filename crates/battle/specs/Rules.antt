-- What one shot does to its target. All strengths are in tenths. Rule: docs/RULES.md, "One shot".
use Rattle.std.specs.Prelude.{ℕ, Bool, ◌-◌, ◌*◌, ◌==◌, ◌&&◌, ◌||◌, not, min, nat_le, nat_lt, if◌then◌else◌}
use Rattle.catalog.specs.RapidFire.{rapid_of}
use Rattle.catalog.specs.declared.kind.Kind.{Kind}
use Rattle.draws.specs.Draws.{draw}
use Rattle.battle.specs.declared.combatant.Combatant.{Combatant}
use Rattle.battle.specs.declared.limits.TheConstants.{MOST_SHOTS}

-- a shot bounces off if its attack is below a hundredth of the target's full shield
abbrev pub bounces : ℕ → Combatant → Bool
bounces attack target = nat_lt (100 * attack) target.fighter.shield

-- a shot strikes if its target was not destroyed before and it does not bounce off
abbrev pub strikes : ℕ → Combatant → Bool
strikes attack target = not target.is_destroyed && not (bounces attack target)

-- the shield takes of a shot what it can
abbrev pub shield_loss : ℕ → Combatant → ℕ
shield_loss attack target = if strikes attack target then min attack target.shield else 0

-- the hull takes the rest, as far as it goes
abbrev pub hull_loss : ℕ → Combatant → ℕ
hull_loss attack target = if strikes attack target then min (attack - shield_loss attack target) target.hull else 0

-- what is left of the hull
abbrev pub hull_left : ℕ → Combatant → ℕ
hull_left attack target = target.hull - hull_loss attack target

-- a hull is weak if a shot struck and leaves some of it, at most seven tenths of the full hull: a draw decides then
abbrev pub is_weak : ℕ → Combatant → Bool
is_weak attack target =
    strikes attack target && nat_lt 0 (hull_left attack target) && nat_le (10 * hull_left attack target) (7 * target.fighter.hull)

-- a shot destroys its target if it leaves no hull, or if it leaves a weak one and the number drawn below the full hull by
-- this word is not below what is left
abbrev pub destroys : ℕ → ℕ → Combatant → Bool
destroys attack word target =
    strikes attack target
    && (hull_left attack target == 0 || is_weak attack target && nat_le (hull_left attack target) (draw word target.fighter.hull))

-- whether a draw decides if the shooter fires again: it has rapid fire against the target's kind, and this was not
-- yet its 4096th shot of the round
abbrev pub is_rapid : Kind → Kind → ℕ → Bool
is_rapid shooter target count = nat_le 2 (rapid_of shooter target) && nat_lt count MOST_SHOTS

-- the shooter fires again if the number drawn below its rapid fire by this word is not 0
abbrev pub fires_again : Kind → Kind → ℕ → ℕ → Bool
fires_again shooter target count word = is_rapid shooter target count && nat_le 1 (draw word (rapid_of shooter target))
