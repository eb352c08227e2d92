-- The numbers that stand beside kinds.
use Rattle.std.specs.Prelude.{ℕ, List}
use Rattle.reply_text.specs.declared.kind_lines.Numbers.{Numbers}
use Rattle.reply_text.specs.declared.kind_lines.Numbers.TheVariants.{Levels, Counts}

abbrev pub numbers_of : Numbers → List ℕ
numbers_of (Levels levels) = levels.now
numbers_of (Counts counts) = counts.now
