use Rattle.std.proofs.Common.{ap, ◌∙◌, ◌+◌, min}
use Rattle.base_bytes.proofs.Gathering.{counted-more}
use Rattle.base_bytes.proofs.tallies.add_units.Goals as goal

pub returns : goal.returns
returns c =
    counted-more c.args.counts.now c.insert.new.self c.args.owner c.args.more _ c.in_ok-insert.ensures.updates
    (c.saturating_add-sum.ensures ∙ ap (λ n. min (n + c.args.more) 18446744073709551615) c.count.ensures)
