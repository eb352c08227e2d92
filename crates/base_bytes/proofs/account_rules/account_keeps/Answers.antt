use Rattle.std.proofs.Common.{rules}
use Rattle.base_bytes.proofs.AccountChecks.{research_timed}
use Rattle.base_bytes.proofs.account_rules.account_keeps.Goals as goal

pub returns-then-account_runs_after : goal.returns-then-account_runs_after
returns-then-account_runs_after c = (
  λ yes_true.
      record {
        levels = search rules;
        learned = search rules;
        owned = search rules;
        at_home = search rules;
        researched = search rules;
        drawn = c.account_is_drawn.ensures.0 yes_true;
        timed = research_timed c.args.moment c.args.account.now;
      },
  λ keeps. c.account_is_drawn.ensures.1 keeps.drawn,
)
