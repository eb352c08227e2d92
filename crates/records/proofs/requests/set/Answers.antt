use Rattle.std.proofs.Common.{◌≡◌, ap}
use Rattle.std.specs.Prelude.{Some}
use Rattle.catalog.proofs.Values.{work_is}
use Rattle.records.specs.declared.fields.Order.{Order}
use Rattle.request_text.specs.declared.request.Request.TheVariants.{Set}
use Rattle.records.proofs.requests.set.Goals as goal

pub returns-in_err-at : goal.returns-in_err-at
returns-in_err-at c = λ at work tenths is. absurd (cc (c.in_err-at.ensures at (ap (λ (o : Order). o.from) is)))

pub returns-in_err-tenths : goal.returns-in_err-tenths
returns-in_err-tenths c = λ at work tenths is. absurd (cc (c.in_err-tenths.ensures tenths (ap (λ (o : Order). o.setting) is)))

pub returns : goal.returns
returns c = λ at work tenths is.
    let the_at : c.in_ok-at.at ≡ at = cc (c.in_ok-at.ensures at (ap (λ (o : Order). o.from) is)) in
    let the_work : c.in_ok-work.work ≡ work = work_is c.in_ok-work.work work (c.in_ok-work.ensures work (ap (λ (o : Order). o.kind) is)) in
    let the_tenths : c.in_ok-tenths.tenths ≡ tenths = cc (c.in_ok-tenths.ensures tenths (ap (λ (o : Order). o.setting) is)) in
    λ i. Some (Set (the_at i) (the_work i) (the_tenths i))
