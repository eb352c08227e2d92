-- The two sides of a battle and their units, one by one. All strengths are in tenths.
-- Rule: docs/RULES.md, "The sides of a battle".
use Rattle.std.specs.Prelude.{ℕ, List, ◌+◌, ◌*◌, ◌/◌, ◌≤◌, length, map, replicate}
use Rattle.std.specs.List.Sorted.{IsStrictlyIncreasing}
use Rattle.std.specs.List.{enumerate_from, flat_map, zip}
use Rattle.catalog.specs.Combat.{attack_of, shield_of}
use Rattle.catalog.specs.Costs.{cost_of}
use Rattle.catalog.specs.Technologies.{level_in}
use Rattle.catalog.specs.declared.classes.TheConstants.{UNIT_KINDS}
use Rattle.catalog.specs.declared.kind.Kind.{Kind}
use Rattle.catalog.specs.declared.kind.Kind.TheVariants.{Weapons, Shielding, Armour}
use Rattle.rand_pcg.specs.Lcg.{Lcg}
use Rattle.draws.specs.Draws.{stream_start}
use Rattle.battle.specs.declared.limits.TheConstants.{MOST_UNITS}
use Rattle.battle.specs.declared.part.Part.{Part}
use Rattle.battle.specs.declared.fighter.Fighter.{Fighter}

-- one of the two sides
pub data Party : Type 0 where
  attackers : Party
  planet : Party

abbrev pub enemy : Party → Party
enemy attackers = planet
enemy planet = attackers

-- ten tenths, and one more for each level of a technology
abbrev pub tenths : List ℕ → Kind → ℕ
tenths levels technology = 10 + level_in levels technology

-- a unit of a kind, by the levels of its owner; `part` is the place of its part in the side, counted from 0
abbrev pub fighter : ℕ → List ℕ → Kind → Fighter
fighter part levels kind =
    record {
      part = part;
      kind = kind;
      attack = attack_of kind * tenths levels Weapons;
      shield = shield_of kind * tenths levels Shielding;
      hull = ((cost_of kind).metal + (cost_of kind).crystal) / 10 * tenths levels Armour;
    }

-- the units of a part: kind by kind, one by one
abbrev pub part_fighters : ℕ → Part → List Fighter
part_fighters part p = flat_map (λ counted. replicate counted.1 (fighter part p.techs.n counted.0)) (zip UNIT_KINDS p.n)

-- the units of a side: part by part
abbrev pub fighters : List Part → List Fighter
fighters parts = flat_map (λ placed. part_fighters placed.0 placed.1) (enumerate_from 0 parts)

-- what a battle is fought with: the units of both sides, and the stream from which its words are drawn
pub record Battle : Type 0 where
  pub attackers : List Fighter
  pub planet : List Fighter
  pub stream : Lcg

abbrev pub battle_of : List Part → List Part → ℕ → ℕ → Battle
battle_of attacking defending seed number =
    record { attackers = fighters attacking; planet = fighters defending; stream = stream_start seed number }

-- the units of one side
abbrev pub units : Battle → Party → List Fighter
units b attackers = b.attackers
units b planet = b.planet

-- a side: its parts come by their numbers, and it has at most so many units
pub record IsSide (parts : List Part) : Type 0 where
  pub numbers : IsStrictlyIncreasing (map (λ p. p.number) parts)
  pub most : length (fighters parts) ≤ MOST_UNITS
