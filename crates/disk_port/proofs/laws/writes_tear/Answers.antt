use Rattle.std.proofs.Common.{length, arith}
use Rattle.disk_port.specs.HistoryLaws.{torn_not, torn_whole}
use Rattle.disk_port.proofs.Tearing.{torn-front}
use Rattle.disk_port.proofs.laws.writes_tear.Goals as goal

pub returns : goal.returns
returns c = record {
  front = torn-front;
  byte = λ at n i old new torn behind within. torn.above i within behind;
  whole = λ at old bytes. torn_whole at (length bytes) old bytes (omega arith);
  nothing = torn_not;
}
