use Rattle.std.proofs.Common.{◌≡◌, ◌∷◌, [], ◌∙◌, ap, map, sym}
use Rattle.std.specs.Prelude.{codes, string_bytes}
use Rattle.command.proofs.Streaming.{one_item}
use Rattle.command.proofs.commands.is_found.Goals as goal

pub returns-in-len1 : goal.returns-in-len1
returns-in-len1 c =
    let whole = one_item c.args.words.now c.word-item.result c.in-len1.len_at_least c.in-len1.len_below c.word-item.is in
    let texts = ap (map string_bytes) whole in
    let value = c.as_bytes.ensures.value in (
      λ same. texts ∙ ap (λ text. text ∷ []) (sym value ∙ c.is_same.ensures.0 same),
      λ one.
          let both = sym texts ∙ one in
          let text : string_bytes c.word-item.result ≡ codes "found" = cc in
          c.is_same.ensures.1 (value ∙ text),
    )
