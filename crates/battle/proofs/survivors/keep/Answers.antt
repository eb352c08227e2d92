use Rattle.std.proofs.Common.{◌≡◌, ℕ, ◌+◌, ◌<◌, ◌∷◌, ◌++◌, [], false, List, length, length-take, map, take, get_or, ap, ◌∙◌, arith}
use Rattle.std.proofs.lemmas.List.{get_or_default, length-map, map_more}
use Rattle.std.proofs.lemmas.List.Elements.{All-get_or}
use Rattle.catalog.specs.declared.kind.Kind.TheVariants.{MetalMine}
use Rattle.battle.specs.declared.fighter.Fighter.{Fighter}
use Rattle.battle.specs.declared.unit_state.UnitState.{UnitState}
use Rattle.battle.specs.Arrays.{AreKnown, fighter_of}
use Rattle.battle.specs.Shots.{nobody}
use Rattle.battle.proofs.Counts.{kept_more, kept_room, kept_same, no_part}
use Rattle.battle.proofs.survivors.keep.Goals as goal
use Rattle.battle.proofs.survivors.keep.Goals.{then-place-side, else-place-side}

-- what stands for a read outside the table
abbrev no_fighter : Fighter
no_fighter = record { part = 0; kind = MetalMine; attack = 0; shield = 0; hull = 0 }

-- what stands for a read outside the array
abbrev no_state : UnitState
no_state = record { hull = 0; shield = 0; strength = 0; shield_round = 0; is_destroyed = false }

-- one unit more
one_more : (table : List Fighter) (living : List UnitState) (i : ℕ) → i < length living → AreKnown (length table) living
    → map (fighter_of table) (take (i + 1) living) ≡ map (fighter_of table) (take i living) ++ get_or table (get_or living i no_state).strength no_fighter ∷ []
one_more table living i within known =
    map_more (fighter_of table) living i no_state within
    ∙ ap (λ (f : Fighter). map (fighter_of table) (take i living) ++ f ∷ [])
    (get_or_default table (get_or living i no_state).strength nobody no_fighter (All-get_or (λ u. u.strength < length table) living i no_state within known))

pub add_one-requires : goal.add_one-requires
add_one-requires c =
    let many = length-map (take c.living.unit-index c.args.living.now) (fighter_of c.args.table.now) in
    let taken = length-take c.living.unit-index c.args.living.now in
    record {
      room = kept_room (map (fighter_of c.args.table.now) (take c.living.unit-index c.args.living.now)) _ _ c.args.side.now c.living.side _
          (omega (arith, many, taken, c.living-test.true, c.requires.most)) c.living.invariant c.if-place-side.true;
    }

pub living-preserved : goal.living-preserved
living-preserved c =
    let before = map (fighter_of c.args.table.now) (take c.living.unit-index c.args.living.now) in
    let more = map (fighter_of c.args.table.now) (take (c.living.unit-index + 1) c.args.living.now) in
    let f = get_or c.args.table.now (get_or c.args.living.now c.living.unit-index no_state).strength no_fighter in
    let one = one_more c.args.table.now c.args.living.now c.living.unit-index c.living-test.true c.requires.known in
    elim c.if-place-side.branch [
      | then-place-side w ↦
          kept_more before more f c.args.side.now c.living.side c.if-place-side.side w.add_one.new.part no_part one c.living.invariant w.if-place-side.true w.add_one.ensures w.side-is
      | else-place-side w ↦
          kept_same before more f c.args.side.now c.living.side c.if-place-side.side no_part one c.living.invariant w.if-place-side.false w.side-is
    ]
