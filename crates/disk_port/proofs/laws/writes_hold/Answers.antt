use Rattle.disk_port.proofs.Tearing.{written-front, written-there, written-behind}
use Rattle.disk_port.proofs.laws.writes_hold.Goals as goal

pub returns : goal.returns
returns c = record { front = written-front; there = written-there; behind = written-behind }
