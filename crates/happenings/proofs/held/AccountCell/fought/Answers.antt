use Rattle.std.proofs.Common.{◌≡◌, ℕ, ◌-◌, ◌==◌, true, false, arith, filter, sum_by, refl, ap, ◌∙◌, sym}
use Rattle.std.proofs.lemmas.Bool.Decides.{nat_tests}
use Rattle.base_ids.specs.declared.cell_id.CellId.TheVariants.{Account as AccountId}
use Rattle.fleet_rec.specs.Fleets.{became_in}
use Rattle.tick_model.specs.Events.{ships_lost}
use Rattle.tick_model.specs.Views.{belongs, ships_of}
use Rattle.happenings.specs.Fighting.{account_fought, account_losses}
use Rattle.happenings.specs.Held.{account_stand}
use Rattle.happenings.specs.declared.held.AccountCell.{AccountCell}
use Rattle.happenings.proofs.Fought.{account_lost, lost_elsewhere, lost_there}
use Rattle.happenings.proofs.held.AccountCell.fought.Goals.{then-battle-player, else-battle-player}
use Rattle.happenings.proofs.held.AccountCell.fought.Goals as goal

same-as : (a b : ℕ) → a ≡ b → (a == b) ≡ true
same-as a b is = grind (arith, nat_tests, is)

apart-as : (a b : ℕ) → (a ≡ b → ⊥) → (a == b) ≡ false
apart-as a b apart = grind (arith, nat_tests, apart)

pub returns-clause-stand : goal.returns-clause-stand
returns-clause-stand c =
    let battle = c.args.battle.now in
    let copy = c.in_ok-cell.cell in
    let same = c.in_ok-cell.ensures.0 in
    let player = c.in_ok-cell.ensures.1 in
    let new : AccountCell = record { second = battle.second; account = c.lose_units.new.self; fleets = c.keep.new.self } in
    let ships : ships_lost copy.account.player (became_in battle.raid battle.after.fleets) copy.fleets ≡ c.ships_of-before.result - c.ships_of.result =
    (λ i. sym c.ships_of-before.ensures i - (ap (sum_by (ships_of copy.account.player)) (sym c.fight.ensures) ∙ sym c.ships_of.ensures) i) in
    let lost : c.if-battle-player.lost ≡ account_losses battle copy.account.player copy.fleets = elim c.if-battle-player.branch [
      | then-battle-player w ↦ lost_there battle copy.account.player copy.fleets (c.ships_of-before.result - c.ships_of.result) c.if-battle-player.lost ships (same-as battle.owner.k copy.account.player.k w.if-battle-player.true) w.lost-is
      | else-battle-player w ↦ lost_elsewhere battle copy.account.player copy.fleets (c.ships_of-before.result - c.ships_of.result) c.if-battle-player.lost ships (apart-as battle.owner.k copy.account.player.k w.if-battle-player.false) w.lost-is
    ] in
    account_lost battle copy new refl c.lose_units.ensures.keeps (c.keep.ensures ∙ ap (filter (belongs (AccountId copy.account.player))) c.fight.ensures) (c.lose_units.ensures.units ∙ ap (λ n. copy.account.units - n) lost)
    ∙ (λ i. account_fought battle (player i) (same i))
