use Rattle.std.proofs.Common.{◌≡◌, ap}
use Rattle.std.specs.Prelude.{Some}
use Rattle.catalog.proofs.Values.{technology_is}
use Rattle.records.specs.declared.fields.Order.{Order}
use Rattle.request_text.specs.declared.request.Request.TheVariants.{Research}
use Rattle.records.proofs.requests.research.Goals as goal

pub returns-in_err-at : goal.returns-in_err-at
returns-in_err-at c = λ at technology is. absurd (cc (c.in_err-at.ensures at (ap (λ (o : Order). o.from) is)))

pub returns : goal.returns
returns c = λ at technology is.
    let the_at : c.in_ok-at.at ≡ at = cc (c.in_ok-at.ensures at (ap (λ (o : Order). o.from) is)) in
    let the_technology : c.in_ok-technology.technology ≡ technology = technology_is c.in_ok-technology.technology technology (c.in_ok-technology.ensures technology (ap (λ (o : Order). o.kind) is)) in
    λ i. Some (Research (the_at i) (the_technology i))
