use Rattle.std.proofs.Common.{◌≡◌, ap}
use Rattle.std.specs.Prelude.{Some}
use Rattle.catalog.proofs.Values.{building_is}
use Rattle.records.specs.declared.fields.Order.{Order}
use Rattle.request_text.specs.declared.request.Request.TheVariants.{Build}
use Rattle.records.proofs.requests.build.Goals as goal

pub returns-in_err-at : goal.returns-in_err-at
returns-in_err-at c = λ at building is. absurd (cc (c.in_err-at.ensures at (ap (λ (o : Order). o.from) is)))

pub returns : goal.returns
returns c = λ at building is.
    let the_at : c.in_ok-at.at ≡ at = cc (c.in_ok-at.ensures at (ap (λ (o : Order). o.from) is)) in
    let the_building : c.in_ok-building.building ≡ building = building_is c.in_ok-building.building building (c.in_ok-building.ensures building (ap (λ (o : Order). o.kind) is)) in
    λ i. Some (Build (the_at i) (the_building i))
