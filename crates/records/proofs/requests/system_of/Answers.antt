use Rattle.std.proofs.Common.{◌≡◌, ap}
use Rattle.std.specs.Prelude.{Some}
use Rattle.records.specs.declared.fields.Order.{Order}
use Rattle.request_text.specs.declared.request.Request.TheVariants.{System}
use Rattle.records.proofs.requests.system_of.Goals as goal

pub returns-in_err-at : goal.returns-in_err-at
returns-in_err-at c = λ at is. absurd (cc (c.in_err-at.ensures at (ap (λ (o : Order). o.from) is)))

pub returns : goal.returns
returns c = λ at is.
    let the_at : c.in_ok-at.at ≡ at = cc (c.in_ok-at.ensures at (ap (λ (o : Order). o.from) is)) in
    λ i. Some (System (the_at i))
