use Rattle.std.proofs.Common.{◌≡◌, ◌∙◌, ℕ, ap, refl, subst, sym}
use Rattle.fleet_rec.specs.Fleet.{fleet_seen}
use Rattle.orders.proofs.Recalled.{no_fleet, not_outbound, recalled_comes}
use Rattle.orders.proofs.Told.{untold}
use Rattle.orders.specs.Sending.{AreCalledBack}
use Rattle.orders.specs.declared.parts.Acted.{Acted}
use Rattle.reply_text.specs.OrderLines.{back_line}
use Rattle.request_text.specs.declared.request.Request.TheVariants.{Recall}
use Rattle.tick_model.proofs.Fleets.{fleet-found}
use Rattle.tick_model.proofs.Lists.{not-false, not-true, number-is}
use Rattle.tick_model.specs.Requests.{recalls_own}
use Rattle.tick_model.specs.Universe.{Fleet}
use Rattle.orders.proofs.recalling.recall.Goals as goal

pub returns-in_default-clause-ok : goal.returns-in_default-clause-ok
returns-in_default-clause-ok c =
    λ rules sight player shown.
    untold sight player rules c.args.moment (Recall c.args.number) c.args.parts.now (recalls_own sight player c.args.number.f) c.refused.result shown refl c.in_default.is
    (ap (λ (x : Acted). x.code) c.refused.ensures) (ap (λ (x : Acted). x.body) c.refused.ensures)

pub returns-in_default-find-clause-ok : goal.returns-in_default-find-clause-ok
returns-in_default-find-clause-ok c =
    λ rules sight player shown.
    no_fleet sight player rules c.args.moment c.args.number c.args.parts.now c.in-Some.account c.refused-in_default-find.result shown c.in-Some.is (sym c.in_default-find.ensures)
    (ap (λ (x : Acted). x.code) c.refused-in_default-find.ensures) (ap (λ (x : Acted). x.body) c.refused-in_default-find.ensures)

pub returns-then-not-fleet-clause-ok : goal.returns-then-not-fleet-clause-ok
returns-then-not-fleet-clause-ok c =
    λ rules sight player shown.
    not_outbound sight player rules c.args.moment c.args.number c.args.parts.now c.in-Some.account (fleet_seen c.in-Some-find.fleet) c.refused-then-not-fleet.result shown c.in-Some.is (sym c.in-Some-find.ensures)
    (not-true c.in-Some-find.fleet.outbound c.if-not-fleet.true) (ap (λ (x : Acted). x.code) c.refused-then-not-fleet.ensures) (ap (λ (x : Acted). x.body) c.refused-then-not-fleet.ensures)

pub returns-clause-ok : goal.returns-clause-ok
returns-clause-ok c =
    λ rules sight player shown.
    let fleet = fleet_seen c.in-Some-find.fleet in
    let found = sym c.in-Some-find.ensures in
    let number : c.in-Some-find.fleet.number ≡ c.args.number.f =
    number-is c.in-Some-find.fleet.number c.args.number.f (fleet-found c.in-Some.account.player c.args.number.f c.args.parts.now.fleets.caller fleet found).number_is in
    recalled_comes sight player rules c.args.moment c.args.number c.args.parts.now _ c.in-Some.account fleet _ shown c.in-Some.is found (not-false c.in-Some-find.fleet.outbound c.if-not-fleet.false) refl refl refl refl refl
    (c.in_ok-body.ensures ∙ ap (λ (x : Fleet). back_line x.second) c.recalled.ensures)
    (subst (λ (n : ℕ). AreCalledBack c.in-Some.account c.args.parts.now.to_owner fleet n c.args.moment c.args.parts.now.fleets c.call_back.new.fleets) number c.call_back.ensures)
