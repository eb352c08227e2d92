use Rattle.std.proofs.Common.{ap, refl}
use Rattle.orders.proofs.Told.{account_told, untold}
use Rattle.orders.specs.declared.parts.Acted.{Acted}
use Rattle.request_text.specs.declared.request.Request.TheVariants.{Account as AccountOf}
use Rattle.tick_model.specs.Requests.{tells}
use Rattle.orders.proofs.telling.tell_account.Goals as goal

pub returns-in_default : goal.returns-in_default
returns-in_default c =
    λ rules moment sight player shown.
    untold sight player rules moment AccountOf c.args.parts.now (tells sight player) c.refused.result shown refl c.in_default.is
    (ap (λ (x : Acted). x.code) c.refused.ensures) (ap (λ (x : Acted). x.body) c.refused.ensures)

pub returns : goal.returns
returns c = λ rules moment sight player shown. account_told sight player rules moment c.args.parts.now c.in-Some.account _ shown c.in-Some.is refl c.in_ok-body.ensures
