use Rattle.base_bytes.specs.Base.{all_items}
use Rattle.base_bytes.proofs.Meeting.{none-met, once-answer}
use Rattle.base_bytes.proofs.distinct.are_once.Goals as goal

pub returns : goal.returns
returns c =
    once-answer (all_items c.args.accounts.now c.args.planets.now) _ c.meet_all.new.self c.in_ok-once.once
    (none-met _ c.new.ensures.empty c.new-2.ensures.empty c.new-3.ensures.empty) c.in_ok-once.ensures
