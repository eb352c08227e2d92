use Rattle.std.proofs.Common.{[], subst}
use Rattle.ports.proofs.Tellings.{tells-none}
use Rattle.command.specs.Answers.{IsTold, too_long}
use Rattle.command.proofs.answering.answer_told.Goals as goal

pub returns-in-Long-clause-turns :
    goal.returns-in-Long-clause-turns
returns-in-Long-clause-turns g c = λ line over. ([], tells-none (g.C.Clock.told c.args.clock.now), too_long (subst (λ t. IsTold c.args.lines.now t line) c.in-Long.is over))
