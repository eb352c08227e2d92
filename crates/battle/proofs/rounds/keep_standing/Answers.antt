use Rattle.std.proofs.Common.{◌+◌, List, length, not, ap, sym, ◌∙◌, subst, arith}
use Rattle.battle.specs.declared.unit_state.UnitState.{UnitState}
use Rattle.battle.specs.Arrays.{AreSound, all_seen}
use Rattle.battle.proofs.Shown.{sound_filter, sound_later, standing_seen}
use Rattle.battle.proofs.rounds.keep_standing.Goals as goal

pub returns-clause-standing : goal.returns-clause-standing
returns-clause-standing c =
    λ round ready.
    ap (λ (us : List UnitState). all_seen c.args.army.now.table.items (round + 1) us) c.remove_destroyed.ensures.kept
    ∙ standing_seen c.args.army.now.table.items (length c.args.army.now.table.items) round c.args.army.now.units.items ready.sound

pub returns-clause-ready : goal.returns-clause-ready
returns-clause-ready c =
    λ round ready.
    let many = length c.args.army.now.table.items in
    let P : List UnitState → Type 0 = λ us. AreSound many (round + 1) us in
    record {
      most = omega (arith, ready.most, c.remove_destroyed.ensures.fewer);
      sound =
          subst P (sym c.remove_destroyed.ensures.kept)
          (sound_later many many round (round + 1) _ (omega arith) (omega arith) (sound_filter many round (λ u. not u.is_destroyed) c.args.army.now.units.items ready.sound));
    }
