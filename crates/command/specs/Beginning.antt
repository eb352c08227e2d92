-- A universe that a founding text founds, before its first line is answered.
use Rattle.std.specs.Prelude.{ℕ, List, [], Option}
use Rattle.std.specs.Str.Lines.{lines}
use Rattle.founding.specs.Founding.{Founds}
use Rattle.lazy.specs.Keeping.{Keeps}
use Rattle.lazy.specs.declared.universe.LazyUniverse.{LazyUniverse}
use Rattle.request_text.specs.LineReading.{Sees}
use Rattle.request_text.specs.declared.line_reader.LineReader.{LineReader}
use Rattle.tick_model.specs.Universe.{Universe}
use Rattle.command.specs.Trial.{Tried}

-- The text begins with a founding text. The universe is the one that it founds, and the reader sees what stands behind the text's `.`.
pub record Begins (text : List ℕ) (reader : LineReader) (more : List ℕ) (universe : LazyUniverse) : Type 0 where
  pub base : Universe
  pub capacity : ℕ
  pub rest : List ℕ
  pub founds : Founds (lines text) base capacity (lines rest)
  pub sees : Sees reader more rest
  pub keeps : Keeps base [] universe

-- All lines after the founding text were answered, and the universe keeps their history.
pub record Leaves (text more : List ℕ) (told_before told_after written_before written_after : Option (List ℕ)) (universe : LazyUniverse) : Type 0 where
  pub tried : Tried text more told_before told_after written_before written_after
  pub keeps : Keeps tried.base tried.history universe
