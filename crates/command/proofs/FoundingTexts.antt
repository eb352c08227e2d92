-- A founding text that was read, or why none was.
use Rattle.std.proofs.Common.{ℕ, List, [], Option, refl}
use Rattle.base_bytes.specs.Base.{universe_of}
use Rattle.base_bytes.specs.declared.base.Base.{Base}
use Rattle.lazy.specs.Keeping.{Keeps}
use Rattle.lazy.specs.declared.universe.LazyUniverse.{LazyUniverse}
use Rattle.request_text.specs.LineReading.{Known, Sees}
use Rattle.request_text.specs.declared.line_reader.LineReader.{LineReader}
use Rattle.request_text.specs.declared.line_reader.Stop.{Stop}
use Rattle.request_text.specs.declared.line_reader.Stop.TheVariants.{Fault, Spent}
use Rattle.command.specs.Beginning.{Begins}
use Rattle.command.specs.FoundingText.{IsFoundedBy, IsReadPart, IsReadTo, LacksBase}
use Rattle.command.specs.Statuses.{number_of, stopped_at}
use Rattle.command.proofs.Numbering.{other}

-- a universe was made of the base that was read
pub begins-read : (text : List ℕ) (reader : LineReader) (more : List ℕ) (base : Base) (universe : LazyUniverse) → IsReadTo text reader more base → Keeps (universe_of base) [] universe
    → Begins text reader more universe
begins-read text reader more base universe reads keeps =
    record { base = universe_of base; capacity = base.capacity; rest = reads.rest; founds = reads.founds; sees = reads.sees; keeps = keeps }

-- what stands behind a founding text was not asked for
pub founded-by : (text : List ℕ) (reader : LineReader) (more : List ℕ) (base : Base) → IsReadTo text reader more base → IsFoundedBy text base
founded-by text reader more base reads = record { rest = reads.rest; founds = reads.founds }

-- whatever text was seen, some rest of it is still seen
abbrev pub SeesRest : LineReader → List ℕ → LineReader → List ℕ → Type 0
SeesRest old left new more = (text : List ℕ) → Sees old left text → (rest : List ℕ) × Sees new more rest

-- the founding text was read, and then the source stopped
pub lacks-rest : (stop : Stop) (l0 l1 w : Option (List ℕ)) → Known l0 l1 IsReadPart → LacksBase IsReadPart (number_of (stopped_at stop)) l0 l1 w w
lacks-rest Fault l0 l1 w part = record { partly = λ e. part; broken = λ e. other 4 5 refl e; not_founded = λ e. other 4 11 refl e }
lacks-rest Spent l0 l1 w part = record { partly = λ e. part; broken = λ e. other 9 5 refl e; not_founded = λ e. other 9 11 refl e }
