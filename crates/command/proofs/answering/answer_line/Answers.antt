use Rattle.std.proofs.Common.{[], arith, sym, subst}
use Rattle.lazy.specs.Keeping.{KeepsSome}
use Rattle.lazy.specs.declared.universe.LazyUniverse.{LazyUniverse}
use Rattle.ports.proofs.Tellings.{tells-none}
use Rattle.tick_model.specs.Talk.{memory_line}
use Rattle.command.specs.Answers.{Turn, asks_nothing, asked, lacks_memory}
use Rattle.command.proofs.Progress.{keeps-asked, two_bytes}
use Rattle.command.proofs.answering.answer_line.Goals as goal

pub returns-in_default-clause-turns :
    goal.returns-in_default-clause-turns
returns-in_default-clause-turns g c = ([], tells-none (g.C.Clock.told c.args.clock.now), asks_nothing c.requires.short c.in_default.ensures)

pub returns-in-Ok-clause-keeps :
    goal.returns-in-Ok-clause-keeps
returns-in-Ok-clause-keeps g c =
    let call = c.in-Some.call in
    let answer = c.in-Ok.ensures.ok in
    keeps-asked c.args.universe.now c.ask.new.universe call.player call.req c.reading_of-reading.result answer.0 c.requires.keeps answer.1

pub returns-in-Ok-clause-turns :
    goal.returns-in-Ok-clause-turns
returns-in-Ok-clause-turns g c =
    let came = c.reading_of-reading.ensures.came in
    let answer = c.in-Ok.ensures.ok in
    let new = c.ask.new.universe in (
      came.0,
      came.2,
      subst (Turn c.args.universe.now c.args.line.now new came.0) (sym answer.2)
          (asked c.in-Some.call c.reading_of-reading.result came.0 new answer.0 c.requires.short c.in-Some.ensures came.1 answer.1),
    )

pub returns-in-Ok-clause-number :
    goal.returns-in-Ok-clause-number
returns-in-Ok-clause-number g c =
    let more = c.in-Ok.ensures.number in
    let bytes = two_bytes c.args.line.now c.in-Some.call c.in-Some.ensures in
    omega (arith, more, bytes)

pub returns-in-Err-clause-keeps :
    goal.returns-in-Err-clause-keeps
returns-in-Err-clause-keeps g c = subst KeepsSome (sym c.in-Err.ensures.err) c.requires.keeps

pub returns-in-Err-clause-turns :
    goal.returns-in-Err-clause-turns
returns-in-Err-clause-turns g c =
    let came = c.reading_of-reading.ensures.came in (
      came.0,
      came.2,
      subst (λ (u : LazyUniverse). Turn c.args.universe.now c.args.line.now u came.0 memory_line) (sym c.in-Err.ensures.err)
          (lacks_memory c.in-Some.call c.reading_of-reading.result came.0 c.requires.short c.in-Some.ensures came.1),
    )
