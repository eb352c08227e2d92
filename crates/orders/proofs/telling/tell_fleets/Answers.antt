use Rattle.std.proofs.Common.{ap, refl}
use Rattle.orders.proofs.Told.{fleets_told, untold}
use Rattle.orders.specs.declared.parts.Acted.{Acted}
use Rattle.request_text.specs.declared.request.Request.TheVariants.{Fleets as FleetsOf}
use Rattle.tick_model.specs.Requests.{tells_fleets}
use Rattle.orders.proofs.telling.tell_fleets.Goals as goal

pub returns-in_default : goal.returns-in_default
returns-in_default c =
    λ rules moment sight player shown.
    untold sight player rules moment FleetsOf c.args.parts.now (tells_fleets sight player) c.refused.result shown refl c.in_default.is
    (ap (λ (x : Acted). x.code) c.refused.ensures) (ap (λ (x : Acted). x.body) c.refused.ensures)

pub returns : goal.returns
returns c = λ rules moment sight player shown. fleets_told sight player rules moment c.args.parts.now c.in-Some.account _ shown c.in-Some.is refl c.in_ok-body.ensures
