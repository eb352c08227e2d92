use Rattle.std.proofs.Common.{◌∙◌, ap, refl}
use Rattle.orders.proofs.Told.{system_told, untold}
use Rattle.orders.specs.Acting.{system_text}
use Rattle.orders.specs.declared.parts.Acted.{Acted}
use Rattle.request_text.specs.declared.request.Request.TheVariants.{System as SystemOf}
use Rattle.tick_model.specs.Requests.{tells_system}
use Rattle.orders.proofs.telling.tell_system.Goals as goal

pub returns-in_default : goal.returns-in_default
returns-in_default c =
    λ rules moment sight player shown.
    untold sight player rules moment (SystemOf c.args.system) c.args.parts.now (tells_system sight c.args.system) c.refused.result shown refl c.in_default.is
    (ap (λ (x : Acted). x.code) c.refused.ensures) (ap (λ (x : Acted). x.body) c.refused.ensures)

pub returns : goal.returns
returns c = λ rules moment sight player shown. system_told sight player rules moment c.args.system c.args.parts.now c.in-Some._account _ shown c.in-Some.is refl (c.in_ok-body.ensures ∙ ap system_text c.as_slice.ensures.value)
