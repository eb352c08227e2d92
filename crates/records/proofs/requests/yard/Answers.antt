use Rattle.std.proofs.Common.{◌≡◌, ap}
use Rattle.std.specs.Prelude.{Some}
use Rattle.catalog.proofs.Values.{unit_is}
use Rattle.records.specs.declared.fields.Order.{Order}
use Rattle.request_text.specs.declared.request.Request.TheVariants.{Yard}
use Rattle.records.proofs.requests.yard.Goals as goal

pub returns-in_err-at : goal.returns-in_err-at
returns-in_err-at c = λ at unit count is. absurd (cc (c.in_err-at.ensures at (ap (λ (o : Order). o.from) is)))

pub returns-in_err-count : goal.returns-in_err-count
returns-in_err-count c = λ at unit count is. absurd (cc (c.in_err-count.ensures count (ap (λ (o : Order). o.count) is)))

pub returns : goal.returns
returns c = λ at unit count is.
    let the_at : c.in_ok-at.at ≡ at = cc (c.in_ok-at.ensures at (ap (λ (o : Order). o.from) is)) in
    let the_unit : c.in_ok-unit.unit ≡ unit = unit_is c.in_ok-unit.unit unit (c.in_ok-unit.ensures unit (ap (λ (o : Order). o.kind) is)) in
    let the_count : c.in_ok-count.count ≡ count = cc (c.in_ok-count.ensures count (ap (λ (o : Order). o.count) is)) in
    λ i. Some (Yard (the_at i) (the_unit i) (the_count i))
