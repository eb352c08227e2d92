use Rattle.std.proofs.Common.{◌≡◌, ◌∙◌, false, subst, sym}
use Rattle.base_bytes.specs.Told.{IsOwnAt}
use Rattle.base_bytes.proofs.Errands.{sound-from}
use Rattle.base_ids.specs.Cells.{same_coord}
use Rattle.base_bytes.proofs.fleet_rules.is_sound_fleet.Goals.{then-is_numbered, else-is_numbered, then-flies_between, else-flies_between}
use Rattle.base_bytes.proofs.fleet_rules.is_sound_fleet.Goals as goal

pub returns-then-is_fit : goal.returns-then-is_fit
returns-then-is_fit c =
    let fleet = c.args.fleet.now in
    elim c.if-flies_between.branch [
      | then-flies_between w ↦ elim c.if-is_numbered.branch [
        | then-is_numbered v ↦ (
          (λ flying.
              let flies =
              subst (λ planets. IsOwnAt planets fleet.owner fleet.origin × IsOwnAt planets fleet.target_owner fleet.target × (same_coord fleet.origin fleet.target ≡ false))
              v.deref.ensures.value (v.flies_between.ensures.0 (sym v.value-is ∙ w.if-flies_between.true)) in
              sound-from c.args.base.now fleet (c.is_numbered.ensures.0 v.if-is_numbered.true) flies (w.is_fit.ensures.0 (sym w.value-is ∙ c.if-is_fit.true)) (c.is_flying.ensures.0 flying)),
          (λ sound. c.is_flying.ensures.1 (sound.sent, sound.lands, sound.in_time)),
        )
        | else-is_numbered v ↦ absurd (cc (v.value-is, w.if-flies_between.true))
      ]
      | else-flies_between w ↦ absurd (cc (w.value-is, c.if-is_fit.true))
    ]
