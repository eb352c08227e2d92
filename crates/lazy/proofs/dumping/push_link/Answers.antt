use Rattle.std.proofs.Common.{[], ◌∷◌, ◌++◌, append_assoc, ap, ◌∙◌}
use Rattle.reply_text.specs.Words.{line}
use Rattle.lazy.proofs.dumping.push_link.Goals as goal

pub returns : goal.returns
unfolding line
returns c =
    let text = c.args.text.now in
    c.in_ok-push_line.ensures.ok ∙ append_assoc text c.as_bytes.result.now (10 ∷ []) ∙ ap (λ written. text ++ (written ++ 10 ∷ [])) (c.as_bytes.ensures.value ∙ c.in_ok-line.ensures.ok)
