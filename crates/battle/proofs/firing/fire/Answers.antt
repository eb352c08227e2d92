use Rattle.std.proofs.Common.{false, get_or, length, ◌∙◌}
use Rattle.std.proofs.lemmas.List.{get_or_default}
use Rattle.catalog.specs.declared.kind.Kind.TheVariants.{MetalMine}
use Rattle.battle.specs.declared.fighter.Fighter.{Fighter}
use Rattle.battle.specs.declared.unit_state.UnitState.{UnitState}
use Rattle.battle.specs.Shots.{nobody}
use Rattle.battle.proofs.OneShot.{shot_again, shot_stream, shot_targets}
use Rattle.battle.proofs.Shown.{hit_seen, seen_steps, sound_at, sound_hit, strengths_at}
use Rattle.battle.proofs.firing.fire.Goals as goal

-- what stands for a read outside the table
abbrev no_fighter : Fighter
no_fighter = record { part = 0; kind = MetalMine; attack = 0; shield = 0; hull = 0 }

-- what stands for a read outside the array
abbrev no_state : UnitState
no_state = record { hull = 0; shield = 0; strength = 0; shield_round = 0; is_destroyed = false }

pub returns : goal.returns
returns c =
    let table = c.args.table.now in
    let targets = c.args.targets.now in
    let place = c.below-place.result in
    let steps = seen_steps c.args.count c.args.shooter.now table c.args.round targets c.args.draws.now place no_fighter no_state
    c.below-place.new.self c.strike.new.draws c.fires_again.new.draws c.strike.new.target c.fires_again.result
    c.requires.sound c.below-place.ensures.within c.below-place.ensures.value c.below-place.ensures.moves
    c.strike.ensures.target c.strike.ensures.words c.fires_again.ensures.again c.fires_again.ensures.words in
    let met = sound_at (length table) c.args.round targets place no_state c.below-place.ensures.within c.requires.sound in
    record {
      again = shot_again _ _ _ _ _ _ _ _ _ _ _ steps;
      targets =
          hit_seen table c.args.round targets place (strengths_at table targets place no_fighter no_state) (get_or targets place no_state) c.strike.new.target c.strike.ensures.strength (get_or_default table _ nobody no_fighter met.has_strength)
          ∙ shot_targets _ _ _ _ _ _ _ _ _ _ _ steps;
      words = shot_stream _ _ _ _ _ _ _ _ _ _ _ steps;
      sound = sound_hit table c.args.round targets place no_state c.strike.new.target c.requires.sound c.below-place.ensures.within c.strike.ensures.strength c.strike.ensures.written;
    }
