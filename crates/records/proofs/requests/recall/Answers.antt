use Rattle.std.proofs.Common.{◌≡◌, ap}
use Rattle.std.specs.Prelude.{Some}
use Rattle.records.specs.declared.fields.Order.{Order}
use Rattle.request_text.specs.declared.request.Request.TheVariants.{Recall}
use Rattle.records.proofs.requests.recall.Goals as goal

pub returns-in_err-fleet : goal.returns-in_err-fleet
returns-in_err-fleet c = λ fleet is. absurd (cc (c.in_err-fleet.ensures fleet (ap (λ (o : Order). o.fleet) is)))

pub returns : goal.returns
returns c = λ fleet is.
    let the_fleet : c.in_ok-fleet.fleet ≡ fleet = cc (c.in_ok-fleet.ensures fleet (ap (λ (o : Order). o.fleet) is)) in
    λ i. Some (Recall (the_fleet i))
