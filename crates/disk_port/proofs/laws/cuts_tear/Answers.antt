use Rattle.disk_port.specs.HistoryLaws.{shortened_not, shortened_whole}
use Rattle.disk_port.proofs.Tearing.{shortened-front}
use Rattle.disk_port.proofs.laws.cuts_tear.Goals as goal

pub returns : goal.returns
returns c = record { front = shortened-front; whole = shortened_whole; nothing = shortened_not }
