use Rattle.std.proofs.Common.{ap, refl, sym}
use Rattle.orders.proofs.Answered.{err_map, kept, no_planet, no_player, not_yours, on_own_comes, stays}
use Rattle.orders.proofs.Granted.{weaker}
use Rattle.orders.specs.declared.parts.Acted.{Acted}
use Rattle.orders.proofs.acting.act_at_place.Goals as goal

pub returns-in_default-clause-ok : goal.returns-in_default-clause-ok
returns-in_default-clause-ok c =
    λ sight player shown.
    no_player sight player c.args.rules.now c.args.moment c.args.req.now c.args.parts.now c.refused.result shown c.requires.place c.in_default.is
    (ap (λ (x : Acted). x.code) c.refused.ensures) (ap (λ (x : Acted). x.body) c.refused.ensures)

pub returns-in_default-from-clause-ok : goal.returns-in_default-from-clause-ok
returns-in_default-from-clause-ok c =
    λ sight player shown.
    stays sight player c.args.req.now _ c.args.parts.now _ c.refused-in_default-from.result (λ i. record c.args.parts.now { caller = sym c.in-Some.is i })
    (no_planet sight player c.args.rules.now c.args.moment c.args.req.now c.args.parts.now c.in-Some.account c.refused-in_default-from.result shown c.requires.place c.in-Some.is c.in_default-from.is
    (ap (λ (x : Acted). x.code) c.refused-in_default-from.ensures) (ap (λ (x : Acted). x.body) c.refused-in_default-from.ensures))

pub returns-then-planet-account-clause-ok : goal.returns-then-planet-account-clause-ok
returns-then-planet-account-clause-ok c =
    λ sight player shown.
    stays sight player c.args.req.now _ c.args.parts.now _ c.refused-then-planet-account.result (λ i. record c.args.parts.now { caller = sym c.in-Some.is i; from = sym c.in-Some-from.is i })
    (not_yours sight player c.args.rules.now c.args.moment c.args.req.now c.args.parts.now c.in-Some.account c.in-Some-from.planet c.refused-then-planet-account.result shown c.requires.place c.in-Some.is c.in-Some-from.is c.if-planet-account.true
    (ap (λ (x : Acted). x.code) c.refused-then-planet-account.ensures) (ap (λ (x : Acted). x.body) c.refused-then-planet-account.ensures))

pub returns-clause-ok : goal.returns-clause-ok
returns-clause-ok c =
    weaker c.act_on_own.result _ _
    (λ acted follows sight player shown.
    on_own_comes sight player c.args.rules.now c.args.moment c.args.req.now c.args.parts.now _ c.in-Some.account c.act_on_own.new.account c.in-Some-from.planet c.act_on_own.new.planet acted shown c.requires.place
    c.in-Some.is c.in-Some-from.is refl refl refl refl c.if-planet-account.false c.act_on_own.ensures.player c.act_on_own.ensures.at follows)
    c.act_on_own.ensures.ok

pub returns-clause-refused : goal.returns-clause-refused
returns-clause-refused c =
    weaker c.act_on_own.result _ _
    (λ acted held code.
    kept c.args.parts.now _ c.in-Some.account c.act_on_own.new.account c.in-Some-from.planet c.act_on_own.new.planet c.in-Some.is c.in-Some-from.is refl refl refl refl refl (held code))
    c.act_on_own.ensures.refused

pub returns-clause-err : goal.returns-clause-err
returns-clause-err c =
    err_map c.act_on_own.result _ _
    (λ held. kept c.args.parts.now _ c.in-Some.account c.act_on_own.new.account c.in-Some-from.planet c.act_on_own.new.planet c.in-Some.is c.in-Some-from.is refl refl refl refl refl held)
    c.act_on_own.ensures.err
