use Rattle.std.proofs.Common.{ap, sym, ◌∙◌, rules, ℕ}
use Rattle.base_bytes.specs.Rules.{Spells}
use Rattle.base_bytes.proofs.reading.is_spelt.Goals as goal

pub returns : goal.returns
returns c = (
  λ yes. record {
    rules = c.in_ok-keeps_rules.ensures.0 c.if-not-branch.false;
    seed = c.requires.seed;
    is = search rules;
  },
  λ spelt. let text = spelt.is in search rules,
)
