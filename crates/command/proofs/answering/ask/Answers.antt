use Rattle.std.proofs.Common.{◌++◌, ◌∙◌, ap, sym}
use Rattle.reply_text.specs.Heads.{text}
use Rattle.command.proofs.answering.ask.Goals as goal

pub returns-clause-ok : goal.returns-clause-ok
returns-clause-ok c =
    let written = c.in_ok-write_reply.ensures.ok ∙ ap (λ before. before ++ text c.in_ok-prepared.prepared.reply) c.clear.ensures in (
      c.keep.result,
      c.keep.ensures.asks c.args.call.now.player c.args.call.now.req c.args.reading c.in_ok-prepared.ensures,
      written ∙ ap text (sym c.keep.ensures.reply),
    )
