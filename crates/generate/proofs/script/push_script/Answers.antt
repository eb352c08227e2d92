use Rattle.std.proofs.Common.{◌++◌, ◌∙◌, ap, arith}
use Rattle.reply_text.specs.Words.{line}
use Rattle.generate.proofs.Calling.{calls_more, calls_none}
use Rattle.generate.proofs.Continuing.{script_more, script_none, turn_more}
use Rattle.generate.proofs.script.push_script.Goals as goal

pub lines-init : goal.lines-init
lines-init c =
    record { lines = script_none _ _; stands = c.new-turn.ensures.start; calls = calls_none _; early = omega (arith, c.new-turn.ensures.reading) }

pub lines-preserved : goal.lines-preserved
lines-preserved c =
    record {
      lines = script_more _ _ _ _ _ _ c.lines.invariant.stands c.lines.invariant.lines (c.in_ok-push_call.ensures ∙ ap (λ words. c.lines.out ++ line words) c.next-call.ensures.words);
      stands = turn_more _ _ _ _ c.lines.invariant.stands c.next-call.ensures.moves;
      calls = calls_more _ _ _ c.next-call.result c.lines.invariant.stands c.next-call.ensures.words c.lines.invariant.calls;
      early = omega (arith, c.next-call.ensures.late, c.lines.invariant.early);
    }
