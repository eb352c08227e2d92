use Rattle.std.proofs.Common.{◌≡◌, ◌+◌, ◌*◌, ◌++◌, length, take}
use Rattle.std.specs.List.{flat_map}
use Rattle.records.specs.Entries.{u32}
use Rattle.records.proofs.sheet.put_ships.Given as goal

abbrev pub invariant-ships : goal.invariant-ships
invariant-ships l = record {
  text : l.sheet.items ≡ l.initial.sheet.items ++ flat_map u32 (take l.count-index l.ships);
  size : length l.sheet.items ≡ length l.initial.sheet.items + 4 * l.count-index;
}
