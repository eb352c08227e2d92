use Rattle.std.proofs.Common.{subst}
use Rattle.recovery.specs.Reopening.{IsGateAt}
use Rattle.recovery.specs.declared.reading.FirstGate.{FirstGate}
use Rattle.recovery.proofs.Openings.{bad-entry}
use Rattle.recovery.proofs.reopening.conclude.Goals as goal

pub returns-in-Open-clause-opens : goal.returns-in-Open-clause-opens
returns-in-Open-clause-opens c = λ content intact end gate.
    bad-entry content c.args.choice.head c.args.base c.args.end intact end (subst (λ (g : FirstGate). IsGateAt content c.args.end g) c.in-Open.is gate)
