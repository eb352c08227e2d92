-- The lines of the accounts so far are there.
use Rattle.std.proofs.Common.{◌≡◌, ◌++◌, map, take}
use Rattle.base_ids.specs.declared.cell_id.CellId.TheVariants.{Account}
use Rattle.happenings.specs.Held.{IsNamed}
use Rattle.tick_model.specs.Universe.{Setting}
use Rattle.lazy.specs.Dumping.{held_text}
use Rattle.lazy.proofs.dumping.push_accounts.Given as goal

abbrev pub invariant-players : goal.invariant-players
invariant-players l = (setting : Setting) → IsNamed l.cells → l.text ≡ l.initial.text ++ held_text setting l.cells (map Account (take l.player-index l.players))
