use Rattle.std.proofs.Common.{◌∙◌, All, ap, arith, length, refl, subst}
use Rattle.std.proofs.lemmas.List.{take_all}
use Rattle.std.proofs.lemmas.List.Elements.{All-more}
use Rattle.base_bytes.specs.Sound.{HasSlots}
use Rattle.tick_model.specs.Lines.{own_fleets}
use Rattle.base_bytes.proofs.slot_rules.fleets_fit_slots.Goals as goal

pub accounts-preserved : goal.accounts-preserved
accounts-preserved c =
    let account = c.account-item.result in
    let counted = c.fleet_count.ensures ∙ c.in_ok-counts.ensures account.player ∙ ap (λ fleets. length (own_fleets account.player fleets)) c.as_slice.ensures in
    let here : HasSlots c.args.fleets.now account = omega (arith, counted, c.slots.ensures, c.if-fleet_count-slots.false) in
    All-more (HasSlots c.args.fleets.now) c.args.accounts.now c.accounts.account-index account c.accounts-test.true c.accounts.invariant
    (subst (HasSlots c.args.fleets.now) c.account-item.is here)

pub returns : goal.returns
returns c =
    let whole = take_all c.accounts.account-index c.args.accounts.now c.accounts-test.false in
    ((λ is_true. subst (All (HasSlots c.args.fleets.now)) whole c.accounts.invariant), (λ all. refl))
