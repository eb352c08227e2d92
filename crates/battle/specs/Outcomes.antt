-- What a trace leads to. Rule: docs/RULES.md, "The outcome of a battle".
use Rattle.std.specs.Prelude.{ℕ, Bool, true, false, List, ◌+◌, ◌≡◌, ◌==◌, ◌&&◌, length, map, nat_lt}
use Rattle.std.specs.List.{count_by, enumerate_from, range_with_len}
use Rattle.catalog.specs.Kinds.{kind_number}
use Rattle.catalog.specs.declared.classes.TheConstants.{UNIT_KINDS}
use Rattle.catalog.specs.declared.kind.Kind.{Kind}
use Rattle.battle.specs.declared.fighter.Fighter.{Fighter}
use Rattle.battle.specs.declared.limits.TheConstants.{MOST_ROUNDS}
use Rattle.battle.specs.declared.outcome.Outcome.{Outcome}
use Rattle.battle.specs.declared.outcome.Verdict.{Verdict}
use Rattle.battle.specs.declared.outcome.Verdict.TheVariants.{Attackers, Planet, Draw}
use Rattle.battle.specs.declared.part.Part.{Part}
use Rattle.battle.specs.Sides.{Battle, Party, attackers, planet, battle_of}
use Rattle.battle.specs.Shots.{Shot, alive, unit_at}
use Rattle.battle.specs.Trace.{IsTrace}
use Rattle.battle.specs.Turns.{is_round_fought}

-- the units of a side that are left after the last of six rounds
abbrev pub left : Battle → List Shot → Party → List Fighter
left b shots party = map (unit_at b party) (alive b shots (MOST_ROUNDS + 1) party)

-- how many rounds were fought
abbrev pub rounds : Battle → List Shot → ℕ
rounds b shots = count_by (is_round_fought b shots) (range_with_len 1 MOST_ROUNDS)

-- who has units left and the other none wins; all else is a draw
abbrev pub verdict_of : Bool → Bool → Verdict
verdict_of true false = Attackers
verdict_of false true = Planet
verdict_of true true = Draw
verdict_of false false = Draw

abbrev pub outcome : Battle → List Shot → Outcome
outcome b shots =
    record {
      verdict = verdict_of (nat_lt 0 (length (left b shots attackers))) (nat_lt 0 (length (left b shots planet)));
      rounds = rounds b shots;
    }

-- how many units of a part and a kind there are
abbrev pub count_of : List Fighter → ℕ → Kind → ℕ
count_of living part kind = count_by (λ f. f.part == part && kind_number f.kind == kind_number kind) living

-- a side whose parts have the units that are left
abbrev pub survivors : List Fighter → List Part → List Part
survivors living parts = map (λ placed. record placed.1 { n = map (count_of living placed.0) UNIT_KINDS }) (enumerate_from 0 parts)

-- how a battle ends: as its one trace says
pub record IsFought (attacking defending : List Part) (seed number : ℕ) (result : Outcome) (attacking_left defending_left : List Part) : Type 0 where
  pub shots : List Shot
  pub trace : IsTrace (battle_of attacking defending seed number) shots
  pub is_outcome : result ≡ outcome (battle_of attacking defending seed number) shots
  pub attackers_left : attacking_left ≡ survivors (left (battle_of attacking defending seed number) shots attackers) attacking
  pub planet_left : defending_left ≡ survivors (left (battle_of attacking defending seed number) shots planet) defending
