use Rattle.std.proofs.Common.{◌-◌, ◌≤◌, length, arith, slice_range}
use Rattle.request_text.proofs.LineWindows.{behind}
use Rattle.request_text.proofs.line_reader.window.read_behind.Goals as goal

pub returns-clause-bytes : goal.returns-clause-bytes
returns-clause-bytes g c =
    let left = g.S.Source.left in
    let at = c.args.end - c.args.start in
    let moved = c.move_to_front.new.bytes in
    let within : at ≤ length moved = omega arith in
    behind at _ moved c.read.new.into (slice_range c.args.bytes.now c.args.start c.args.end) (left c.args.src.now) (left c.read.new.self) c.read.result c.move_to_front.ensures within c.read.ensures.bound c.read.ensures.bytes
