use Rattle.founding.proofs.Once.{bad_once, founds_once, memory_first, never_both}
use Rattle.founding.proofs.Rising.{cells_in_order}
use Rattle.founding.proofs.laws.found_once.Goals as goal

pub returns : goal.returns
returns c = record { universes = founds_once; places = bad_once; apart = never_both; memory = memory_first; rising = cells_in_order }
