use Rattle.std.proofs.Common.{◌∙◌, ap}
use Rattle.std.specs.Result.{result_ok}
use Rattle.std.proofs.lemmas.Fmt.{parse-signed_decimal}
use Rattle.std.specs.Int.{w16}
use Rattle.base_text.proofs.Spelling.{fits_small, signed_decimal_is_text}
use Rattle.base_text.proofs.signs.parsed_signed.Goals as goal

pub returns-in-Ok : goal.returns-in-Ok
returns-in-Ok c z fits spelled =
    c.ok.ensures.value ∙ ap result_ok (parse-signed_decimal w16 z c.in-Ok.text.now c.parse.result fits (fits_small z fits) (c.in-Ok.ensures.cases.0 ∙ spelled) c.parse.ensures.value.0)

pub returns-in-Err : goal.returns-in-Err
returns-in-Err c z fits spelled = absurd (c.in-Err.ensures.cases.0 (signed_decimal_is_text c.args.word.now z (fits_small z fits) spelled))
