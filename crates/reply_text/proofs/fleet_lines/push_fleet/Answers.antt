use Rattle.reply_text.proofs.Joining.{fleet_line_by}
use Rattle.reply_text.proofs.fleet_lines.push_fleet.Goals as goal

pub returns-clause-ok : goal.returns-clause-ok
returns-clause-ok c = rw (fleet_line_by c.args.fleet.now _ _ c.in_ok-course.ensures c.in_ok-state.ensures) c.push_line.ensures.ok
