use Rattle.std.proofs.Common.{◌≡◌, ◌∙◌, sym, arith}
use Rattle.std.proofs.lemmas.Bool.{not-true, not_from_false}
use Rattle.std.proofs.lemmas.Map.Entries.{length-keys_of}
use Rattle.founding.specs.Drafts.{is_named}
use Rattle.founding.specs.DraftMaps.{draft_of}
use Rattle.founding.proofs.Finding.{named_found}
use Rattle.founding.proofs.draft.Draft.may_name.Goals as goal

pub returns-then-len-lt-MOST_PLAYERS : goal.returns-then-len-lt-MOST_PLAYERS
returns-then-len-lt-MOST_PLAYERS c =
    let entries = c.args.self.now.players.entries in
    let same : c.contains_key.result ≡ is_named c.args.player (draft_of c.args.self.now).players = c.contains_key.ensures ∙ sym (named_found c.args.player entries) in (
      λ free. record { unnamed = sym same ∙ not-true c.contains_key.result free; room = let all = length-keys_of entries in omega (arith, all) },
      λ may. not_from_false c.contains_key.result (same ∙ may.unnamed),
    )
