use Rattle.std.proofs.Common.{sym, subst}
use Rattle.std.specs.Prelude.{IfOk}
use Rattle.orders.proofs.Granted.{weaker}
use Rattle.orders.specs.Acting.{units_ordered}
use Rattle.orders.specs.Granting.{Follows, on_planet}
use Rattle.request_text.specs.declared.request.Request.{Request}
use Rattle.orders.proofs.acting.act_on_own.Goals as goal

pub returns-in-Planet-clause-ok : goal.returns-in-Planet-clause-ok
returns-in-Planet-clause-ok c =
    let family = λ (x : Request). IfOk c.show.result (Follows c.args.rules.now c.args.moment (units_ordered x) (on_planet x c.args.account.now c.args.planet.now) c.args.account.now c.args.planet.now c.args.account.now c.args.planet.now) in
    subst family (sym c.in-Planet.is) (weaker c.show.result _ _ (λ acted shown. shown c.args.moment c.args.account.now) c.show.ensures.shown)

pub returns-in-Set-clause-ok : goal.returns-in-Set-clause-ok
returns-in-Set-clause-ok c =
    let family = λ (x : Request). Follows c.args.rules.now c.args.moment (units_ordered x) (on_planet x c.args.account.now c.args.planet.now) c.args.account.now c.args.planet.now c.args.account.now c.set.new.planet c.set.result in
    subst family (sym c.in-Set.is) (c.set.ensures.set c.args.rules.now c.args.moment c.args.account.now)

pub returns-in-Build-clause-ok : goal.returns-in-Build-clause-ok
returns-in-Build-clause-ok c =
    let family = λ (x : Request). IfOk c.build.result (Follows c.args.rules.now c.args.moment (units_ordered x) (on_planet x c.args.account.now c.args.planet.now) c.args.account.now c.args.planet.now c.args.account.now c.build.new.planet) in
    subst family (sym c.in-Build.is) c.build.ensures.built

pub returns-in-Research-clause-ok : goal.returns-in-Research-clause-ok
returns-in-Research-clause-ok c =
    let family = λ (x : Request). IfOk c.research.result (Follows c.args.rules.now c.args.moment (units_ordered x) (on_planet x c.args.account.now c.args.planet.now) c.args.account.now c.args.planet.now c.research.new.account c.research.new.planet) in
    subst family (sym c.in-Research.is) c.research.ensures.ordered

pub returns-in-Yard-clause-ok : goal.returns-in-Yard-clause-ok
returns-in-Yard-clause-ok c =
    let family = λ (x : Request). IfOk c.order_units.result (Follows c.args.rules.now c.args.moment (units_ordered x) (on_planet x c.args.account.now c.args.planet.now) c.args.account.now c.args.planet.now c.order_units.new.account c.order_units.new.planet) in
    subst family (sym c.in-Yard.is) c.order_units.ensures.ordered
