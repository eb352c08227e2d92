use Rattle.std.proofs.Common.{rules}
use Rattle.base_text.proofs.Joining.{three_read}
use Rattle.request_text.proofs.coordinates.coord.Goals as goal

pub returns : goal.returns
returns c = search (rules, three_read)
