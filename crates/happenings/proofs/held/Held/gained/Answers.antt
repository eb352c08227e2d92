use Rattle.std.proofs.Common.{◌≤◌, ap, ◌∙◌, sym, subst, Option}
use Rattle.std.specs.Prelude.{IfSome, option_map}
use Rattle.happenings.specs.Gaining.{gained}
use Rattle.happenings.specs.Held.{Stand}
use Rattle.happenings.proofs.Gains.{gains_in}
use Rattle.happenings.proofs.held.Held.gained.Goals as goal

pub gain-requires : goal.gain-requires
gain-requires c cell =
    subst (λ (o : Option Stand). IfSome o (λ stand. stand.second ≤ c.args.moment)) (sym (c.in_ok-gained.ensures.equal cell)) (c.requires.behind cell)

pub returns-clause-gains : goal.returns-clause-gains
returns-clause-gains c cell = c.gain.ensures.gains cell ∙ ap (option_map (gained c.args.rules.now c.args.moment)) (c.in_ok-gained.ensures.equal cell)

pub returns-clause-shows : goal.returns-clause-shows
returns-clause-shows c = gains_in c.args.rules.now c.args.moment c.args.self.now c.gain.new.self (returns-clause-gains c)
