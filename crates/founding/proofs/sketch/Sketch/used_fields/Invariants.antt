use Rattle.std.proofs.Common.{◌≡◌, ◌*◌, ◌≤◌, take}
use Rattle.std.specs.Prelude.{sum}
use Rattle.founding.proofs.sketch.Sketch.used_fields.Given as goal

abbrev pub invariant-levels : goal.invariant-levels
invariant-levels l = record { total : l.used ≡ sum (take l.level-index l.self.levels); small : l.used ≤ 255 * l.level-index }
