use Rattle.std.proofs.Common.{◌≡◌, ◌∙◌, ap, arith, refl, subst, sym}
use Rattle.std.specs.Prelude.{IsTrue}
use Rattle.account_cell.specs.Account.{account_fields}
use Rattle.catalog.specs.Costs.{Cost}
use Rattle.fleet_rec.specs.Fleet.{fleet_seen}
use Rattle.orders.proofs.Answered.{stays}
use Rattle.orders.proofs.Sent.{foreign_origin, may_leave, no_origin, no_sender, sent_comes, unsent}
use Rattle.orders.specs.Sending.{AreJoined, company_of, company_seen, company_sent, errand_seen, fleet_sent, fleets_there, refusal_in, refusal_of, sends_for}
use Rattle.orders.specs.declared.parts.Acted.{Acted}
use Rattle.reply_text.specs.OrderLines.{arrives_line}
use Rattle.tick_model.specs.Buildings.{can_pay}
use Rattle.tick_model.specs.Sending.{launched, with_group}
use Rattle.tick_model.specs.Universe.{Fleet}
use Rattle.orders.proofs.sending.send.Goals as goal

pub returns-in_default-clause-ok : goal.returns-in_default-clause-ok
returns-in_default-clause-ok c =
    λ sight player shown.
    no_sender sight player c.args.rules.now c.args.moment c.args.errand.now c.args.parts.now c.refused.result shown
    c.in_default.is (ap (λ (x : Acted). x.code) c.refused.ensures) (ap (λ (x : Acted). x.body) c.refused.ensures)

pub returns-in_default-from-clause-ok : goal.returns-in_default-from-clause-ok
returns-in_default-from-clause-ok c =
    λ sight player shown.
    no_origin sight player c.args.rules.now c.args.moment c.args.errand.now c.args.parts.now c.in-Some.account c.refused-in_default-from.result shown
    c.in-Some.is c.in_default-from.is
    (ap (λ (x : Acted). x.code) c.refused-in_default-from.ensures) (ap (λ (x : Acted). x.body) c.refused-in_default-from.ensures)

pub returns-then-planet-account-clause-ok : goal.returns-then-planet-account-clause-ok
returns-then-planet-account-clause-ok c =
    λ sight player shown.
    stays sight player (sends_for c.args.errand.now) _ c.args.parts.now _ c.refused-then-planet-account.result (λ i. record c.args.parts.now { from = sym c.in-Some-from.is i })
    (foreign_origin sight player c.args.rules.now c.args.moment c.args.errand.now c.args.parts.now c.in-Some.account c.in-Some-from.planet c.refused-then-planet-account.result shown
    c.in-Some.is c.in-Some-from.is c.if-planet-account.true
    (ap (λ (x : Acted). x.code) c.refused-then-planet-account.ensures) (ap (λ (x : Acted). x.body) c.refused-then-planet-account.ensures))

pub returns-then-code-gt0-clause-ok : goal.returns-then-code-gt0-clause-ok
returns-then-code-gt0-clause-ok c =
    λ sight player shown.
    let account = c.in-Some.account in
    let planet = c.in-Some-from.planet in
    let parts = c.args.parts.now in
    let errand = c.args.errand.now in
    let company : company_seen c.company_of-company.result ≡ company_sent c.args.rules.now.speed c.args.moment account parts.fleets parts.to errand =
    c.company_of-company.ensures ∙ ap (company_of errand.purpose errand.to (fleets_there errand parts.to parts.fleets)) c.arrival-second.ensures.value in
    let code : c.refusal_in-code.result ≡ refusal_of c.args.rules.now.speed c.args.moment account parts.fleets planet parts.to errand =
    c.refusal_in-code.ensures ∙ (λ i. refusal_in (company i) (c.arrival-second.ensures.value i) account parts.fleets.caller planet parts.to errand) in
    stays sight player (sends_for errand) _ parts _ c.refused-then-code-gt0.result (λ i. record parts { from = sym c.in-Some-from.is i })
    (unsent sight player c.args.rules.now c.args.moment errand parts account planet c.refused-then-code-gt0.result shown c.in-Some.is c.in-Some-from.is c.if-planet-account.false
    (ap (λ (x : Acted). x.code) c.refused-then-code-gt0.ensures ∙ code) (omega (arith, ap (λ (x : Acted). x.code) c.refused-then-code-gt0.ensures))
    (ap (λ (x : Acted). x.body) c.refused-then-code-gt0.ensures))

pub depart-requires-clause-load : goal.depart-requires-clause-load
depart-requires-clause-load c =
    let zero : c.refusal_in-code.result ≡ 0 = omega arith in
    let may = may_leave (company_seen c.company_of-company.result) c.arrival-second.result c.in-Some.account c.args.parts.now.fleets.caller c.in-Some-from.planet c.args.parts.now.to c.args.errand.now
    (sym c.refusal_in-code.ensures ∙ zero) in
    subst (λ (x : Cost). IsTrue (can_pay c.in-Some-from.planet.stock x)) c.load.ensures.value may.pays

pub depart-requires-clause-ships : goal.depart-requires-clause-ships
depart-requires-clause-ships c =
    let zero : c.refusal_in-code.result ≡ 0 = omega arith in
    let may = may_leave (company_seen c.company_of-company.result) c.arrival-second.result c.in-Some.account c.args.parts.now.fleets.caller c.in-Some-from.planet c.args.parts.now.to c.args.errand.now
    (sym c.refusal_in-code.ensures ∙ zero) in
    may.has

pub returns-clause-ok : goal.returns-clause-ok
returns-clause-ok c =
    λ sight player shown.
    let zero : c.refusal_in-code.result ≡ 0 = omega arith in
    let account = c.in-Some.account in
    let planet = c.in-Some-from.planet in
    let parts = c.args.parts.now in
    let errand = c.args.errand.now in
    let company : company_seen c.company_of-company.result ≡ company_sent c.args.rules.now.speed c.args.moment account parts.fleets parts.to errand =
    c.company_of-company.ensures ∙ ap (company_of errand.purpose errand.to (fleets_there errand parts.to parts.fleets)) c.arrival-second.ensures.value in
    let code : c.refusal_in-code.result ≡ refusal_of c.args.rules.now.speed c.args.moment account parts.fleets planet parts.to errand =
    c.refusal_in-code.ensures ∙ (λ i. refusal_in (company i) (c.arrival-second.ensures.value i) account parts.fleets.caller planet parts.to errand) in
    let sent = fleet_sent c.args.rules.now.speed c.args.moment account parts.fleets parts.to errand in
    let same : fleet_seen c.launched-fleet.result ≡ sent =
    c.launched-fleet.ensures c.args.rules.now.speed (account_fields account)
    ∙ (λ i. with_group (company i).group (company i).second (launched c.args.rules.now.speed 0 c.args.moment account.player (account_fields account) (c.owner_there-owner.ensures i) (errand_seen errand))) in
    sent_comes sight player c.args.rules.now c.args.moment errand parts _ account planet c.depart.new.self _ shown c.in-Some.is c.in-Some-from.is c.if-planet-account.false (sym code ∙ zero) refl refl refl refl
    (record {
      code = refl;
      body = c.in_ok-body.ensures ∙ (λ i. arrives_line (company i).second (c.fuel.ensures.value i));
      fields = c.depart.ensures.fields (account_fields account) (errand_seen errand) c.load.ensures.value refl;
      keeps = record { at = c.depart.ensures.at; buildings = c.depart.ensures.buildings; yard = c.depart.ensures.yard };
      joined = subst (λ (x : Fleet). AreJoined account parts.to_owner errand x parts.fleets c.in_ok-linked.linked) same c.in_ok-linked.ensures;
    })
