use Rattle.std.proofs.Common.{◌∙◌, ap}
use Rattle.std.specs.Result.{result_ok}
use Rattle.std.proofs.lemmas.Fmt.{parse-decimal}
use Rattle.base_text.proofs.Spelling.{decimal_is_text}
use Rattle.base_text.proofs.numbers.parsed.Goals as goal

pub returns-in-Ok : goal.returns-in-Ok
returns-in-Ok c n small spelled = c.ok.ensures.value ∙ ap result_ok (parse-decimal 64 n c.in-Ok.text.now c.parse.result small small (c.in-Ok.ensures.cases.0 ∙ spelled) c.parse.ensures.value.0)

pub returns-in-Err : goal.returns-in-Err
returns-in-Err c n small spelled = absurd (c.in-Err.ensures.cases.0 (decimal_is_text c.args.word.now n small spelled))
