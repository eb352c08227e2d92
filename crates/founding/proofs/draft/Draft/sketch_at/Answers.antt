use Rattle.std.proofs.Common.{◌∙◌}
use Rattle.founding.proofs.Judging.{sketch_looked_up}
use Rattle.founding.proofs.draft.Draft.sketch_at.Goals as goal

pub returns : goal.returns
returns c = sketch_looked_up c.args.self.now c.args.at c.copied.result c.requires (c.copied.ensures ∙ c.get.ensures.value)
