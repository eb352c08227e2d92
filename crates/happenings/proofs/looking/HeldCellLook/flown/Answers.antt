use Rattle.base_ids.specs.declared.cell_id.CellId.TheVariants.{Account}
use Rattle.closure.specs.Flown.{AreFlown}
use Rattle.happenings.specs.Sights.{AreFlownOf, sees_held}
use Rattle.happenings.proofs.Brought.{account_flown, none_flown}
use Rattle.happenings.proofs.Copying.{if_ok}
use Rattle.happenings.proofs.looking.HeldCellLook.flown.Goals as goal

pub returns-in-Some : goal.returns-in-Some
returns-in-Some c =
    let held = c.args.self.now in
    let cell = c.in-Some.cell.now in
    if_ok c.flown.result (AreFlownOf cell.fleets c.args.player c.args.number.f) (AreFlown (sees_held held (Account c.args.player)) c.args.player c.args.number.f)
    (λ found are. account_flown held c.args.player c.args.number.f cell found c.in-Some.ensures are) c.flown.ensures

pub returns-in-None : goal.returns-in-None
returns-in-None c = none_flown c.args.self.now c.args.player c.args.number.f c.in-None.ensures
