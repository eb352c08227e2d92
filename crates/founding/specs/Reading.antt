-- What comes of reading a founding text.
use Rattle.std.specs.Prelude.{◌≡◌, ℕ, List}
use Rattle.base_text.specs.Parts.{Lacks}
use Rattle.std.specs.Str.Lines.{lines}
use Rattle.std.specs.declared.result.Result.{Result}
use Rattle.std.specs.declared.result.Result.TheVariants.{Ok, Err}
use Rattle.std.specs.declared.option.Option.{Option}
use Rattle.request_text.specs.LineReading.{kept, Follows, Sees}
use Rattle.request_text.specs.declared.line_reader.LineReader.{LineReader}
use Rattle.request_text.specs.declared.line_reader.Stop.{Stop}
use Rattle.request_text.specs.declared.line_reader.Stop.TheVariants.{Fault as AtFault, Spent as AtBound}
use Rattle.base_bytes.specs.Base.{universe_of}
use Rattle.base_bytes.specs.declared.base.Base.{Base}
use Rattle.founding.specs.Drafts.{Drafted}
use Rattle.founding.specs.Founding.{Founds, IsBadAt, IsBadNext, IsUnfinished, TakesMemory, NeedsMemory}
use Rattle.founding.specs.declared.fault.FoundingFault.{FoundingFault}
use Rattle.founding.specs.declared.fault.FoundingFault.TheVariants.{Bad, ReadFault, Spent, Memory}

-- The text founds the universe, and the reader sees what stands behind its `.`. Or this line of it is the first bad
-- one; or what was taken of it begins a founding text; or memory ran out at a line that adds something, and the reader
-- sees what stands behind that line.
abbrev pub Reads : List ℕ → LineReader → List ℕ → Result Base FoundingFault → Type 0
Reads text reader more (Ok base) = (rest : List ℕ) × Founds (lines text) (universe_of base) base.capacity (lines rest) × Sees reader more rest
Reads text reader more (Err (Bad n)) = IsBadAt (lines text) n
Reads text reader more (Err ReadFault) = IsUnfinished text more
Reads text reader more (Err Spent) = IsUnfinished text more
Reads text reader more (Err Memory) = (rest : List ℕ) × NeedsMemory (lines text) (lines rest) × Sees reader more rest

-- Reading stops at the first line of a text, which has this number. The line is bad; or it was not taken whole; or it
-- adds something, and memory ran out.
abbrev pub Stops : Option Drafted → ℕ → List ℕ → LineReader → List ℕ → FoundingFault → Type 0
Stops said number text reader more (Bad n) = IsBadNext said (lines text) × (n ≡ number)
Stops said number text reader more ReadFault = Sees reader more text × Lacks 10 (kept reader)
Stops said number text reader more Spent = Sees reader more text × Lacks 10 (kept reader)
Stops said number text reader more Memory = (line : List ℕ) × TakesMemory said line × Follows reader more text line

-- the fault of a reader that stopped
abbrev pub fault_of : Stop → FoundingFault
fault_of AtFault = ReadFault
fault_of AtBound = Spent
