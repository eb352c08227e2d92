use Rattle.std.proofs.Common.{subst, sym}
use Rattle.std.specs.Prelude.{IfOk}
use Rattle.orders.proofs.Granted.{weaker}
use Rattle.orders.specs.Acting.{Acts}
use Rattle.request_text.specs.declared.request.Request.{Request}
use Rattle.orders.proofs.acting.act.Goals as goal

pub returns-in-Account-clause-ok : goal.returns-in-Account-clause-ok
returns-in-Account-clause-ok c =
    let family = λ (x : Request). IfOk c.tell_account.result (Acts c.args.rules.now c.args.moment x c.args.parts.now c.args.parts.now) in
    subst family (sym c.in-Account.is) (weaker c.tell_account.result _ _ (λ acted acts. acts c.args.rules.now c.args.moment) c.tell_account.ensures)

pub returns-in-System-clause-ok : goal.returns-in-System-clause-ok
returns-in-System-clause-ok c =
    let family = λ (x : Request). IfOk c.tell_system.result (Acts c.args.rules.now c.args.moment x c.args.parts.now c.args.parts.now) in
    subst family (sym c.in-System.is) (weaker c.tell_system.result _ _ (λ acted acts. acts c.args.rules.now c.args.moment) c.tell_system.ensures)

pub returns-in-Fleets-clause-ok : goal.returns-in-Fleets-clause-ok
returns-in-Fleets-clause-ok c =
    let family = λ (x : Request). IfOk c.tell_fleets.result (Acts c.args.rules.now c.args.moment x c.args.parts.now c.args.parts.now) in
    subst family (sym c.in-Fleets.is) (weaker c.tell_fleets.result _ _ (λ acted acts. acts c.args.rules.now c.args.moment) c.tell_fleets.ensures)

pub returns-in-Recall-clause-ok : goal.returns-in-Recall-clause-ok
returns-in-Recall-clause-ok c =
    let family = λ (x : Request). IfOk c.recall.result (Acts c.args.rules.now c.args.moment x c.args.parts.now c.recall.new.parts) in
    subst family (sym c.in-Recall.is) (weaker c.recall.result _ _ (λ acted acts. acts c.args.rules.now) c.recall.ensures.ok)
